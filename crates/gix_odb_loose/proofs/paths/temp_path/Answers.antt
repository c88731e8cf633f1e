use Rattle.std.proofs.Common.{◌∙◌, arith}
use Rattle.gix_odb_loose.proofs.LoosePathLemmas.{is_name-temp, temp_path-joined}
use Rattle.gix_odb_loose.proofs.paths.temp_path.Goals as goal

pub joined-requires : goal.joined-requires
joined-requires c = record { name = is_name-temp c.args.number _ (omega arith) (c.as_str.ensures.value ∙ c.in_ok-name.ensures.name) }

pub returns : goal.returns
returns c = record { path = rw (temp_path-joined c.args.objects.now c.args.number _ (c.as_str.ensures.value ∙ c.in_ok-name.ensures.name)) c.joined.ensures.path }
