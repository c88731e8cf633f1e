use Rattle.std.proofs.lemmas.Result.{on_ok_weaker}
use Rattle.gix_odb_world.proofs.SettingLemmas.{sets_seen}
use Rattle.gix_odb_world.proofs.course.Course.record.Goals as goal

pub returns-in-Ok : goal.returns-in-Ok
returns-in-Ok c = record {
  settles = on_ok_weaker c.note.result (λ notes. record { mid = c.set.new.self; sets = sets_seen c.args.self.now c.set.new.self c.args.number _ c.in-Ok.ensures.puts; notes = notes })
      c.note.ensures.notes;
}
