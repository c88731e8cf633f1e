use Rattle.std.proofs.Common.{sym, ◌∙◌}
use Rattle.gix_object.proofs.HeaderLemmas.{head_at_place, no_head, no_place, place_of}
use Rattle.gix_object.proofs.decode.header_in.Goals as goal

pub returns-in_err-nul : goal.returns-in_err-nul
returns-in_err-nul c = record { header = rw c.from_residual.ensures (no_head _ (no_place c.args.bytes.now (sym c.in_err-nul.was ∙ c.place_of_nul.ensures.first))) }

pub returns-in_err-kind : goal.returns-in_err-kind
returns-in_err-kind c =
    record {
      header = rw c.from_residual-in_err-kind.ensures
          (no_head _ (place_of c.args.bytes.now c.in_ok-nul.nul (sym c.in_ok-nul.was ∙ c.place_of_nul.ensures.first) ∙ c.in_err-kind.ensures.none _));
    }

pub returns : goal.returns
returns c =
    record {
      header = head_at_place c.args.bytes.now _ _ _ (rw c.in_ok-nul.was at c.place_of_nul.ensures.within)
          (place_of c.args.bytes.now c.in_ok-nul.nul (sym c.in_ok-nul.was ∙ c.place_of_nul.ensures.first) ∙ c.in_ok-kind.ensures.found _);
    }
