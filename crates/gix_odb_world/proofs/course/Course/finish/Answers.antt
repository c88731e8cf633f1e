use Rattle.std.proofs.Common.{◌≤◌, length, arith}
use Rattle.gix_odb_events.specs.View.{last_state}
use Rattle.gix_odb_world.proofs.RunEnds.{is_run}
use Rattle.gix_odb_world.proofs.course.Course.finish.Goals as goal

pub returns-in-Ok : goal.returns-in-Ok
returns-in-Ok c =
    let long = c.len.ensures.len in
    let few : length c.args.self.records ≤ last_state = omega (arith, long) in
    record { run = is_run c.args.self c.in-Ok.journals c.in-Ok.ensures.entries c.in-Ok.ensures.journals few }
