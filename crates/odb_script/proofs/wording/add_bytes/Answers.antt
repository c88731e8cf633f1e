-- No bytes are shown as nothing; one more byte adds what it is shown as.
use Rattle.odb_script.proofs.ToldLemmas.{shown_bytes-nothing, shown_bytes-more}
use Rattle.odb_script.proofs.wording.add_bytes.Goals as goal

pub loop-byte-init : goal.loop-byte-init
loop-byte-init c = shown_bytes-nothing _

pub loop-byte-preserved : goal.loop-byte-preserved
loop-byte-preserved c = shown_bytes-more _ _ _ _ _ c.loop-byte-test.true c.loop-byte.invariant c.in_ok-add_byte.ensures.ok
