-- The job may go to the worker's thread, since its iterator and the items may.
use denote.Exit.{no}
use denote.Param.Send.{param_send, arg_send}
use Rattle.gix_features_channel.proofs.SendLemmas.{job_send}
use Rattle.gix_features_channel.proofs.starting.start.Goals as goal

pub run_elsewhere-requires-send-K : goal.run_elsewhere-requires-send-K
run_elsewhere-requires-send-K g c κs within =
    param_send 0 _ (arg_send _ no _ (job_send _ _ g.I.Iterator c.type_bounds.send-I c.type_bounds.send-I-Item))
