use Rattle.std.proofs.Common.{refl, arith}
use Rattle.gix_odb_core.proofs.StateLemmas.{refused-next}
use Rattle.gix_odb_core.proofs.state.State.refuse.Goals as goal

pub returns : goal.returns
returns c =
    record {
      refused =
          refused-next c.args.self.now _ c.next_number-number.result c.args.seat c.args.event c.requires.kept c.next_number-number.ensures.number refl c.push.ensures.entries
          (omega (arith, c.requires.room, c.push.ensures.room));
    }
