use Rattle.std.proofs.Common.{rules}
use Rattle.std.proofs.lemmas.Fn.{filter_same}
use Rattle.odb_host.proofs.OwingLemmas.{forgets, others_owe}
use Rattle.odb_host.proofs.host_disk.HostDisk.forget.Goals as goal

pub returns-clause-forgotten : goal.returns-clause-forgotten
returns-clause-forgotten g c = forgets c.args.self.now.odd.items c.retain.new.self.items c.args.number (filter_same _ _ _ (λ n b f' k. search rules) _ _ c.retain.ensures.filtered)

pub returns-clause-others : goal.returns-clause-others
returns-clause-others g c = others_owe c.args.self.now.odd.items c.retain.new.self.items c.args.number (filter_same _ _ _ (λ n b f' k. search rules) _ _ c.retain.ensures.filtered)
