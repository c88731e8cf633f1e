use Rattle.std.proofs.Common.{◌∙◌}
use Rattle.gix_odb_loose.proofs.LoosePathLemmas.{cut_at_two}
use Rattle.gix_odb_loose.proofs.prefix_names.after_digits.Goals as goal

pub split_at-requires : goal.split_at-requires
split_at-requires c = cut_at_two c.args.id.now _ c.as_bytes.ensures.id (c.as_str.ensures.value ∙ c.in_ok-hex.ensures.text)
