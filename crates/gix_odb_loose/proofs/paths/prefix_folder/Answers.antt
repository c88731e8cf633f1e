use Rattle.std.proofs.Common.{◌∙◌}
use Rattle.gix_odb_loose.proofs.LoosePathLemmas.{cut_at_two, is_name-front, prefix_path-joined}
use Rattle.gix_odb_loose.proofs.paths.prefix_folder.Goals as goal

pub split_at-requires : goal.split_at-requires
split_at-requires c = cut_at_two c.args.id.now _ c.as_bytes.ensures.id (c.as_str.ensures.value ∙ c.in_ok-hex.ensures.text)

pub joined-requires : goal.joined-requires
joined-requires c = record { name = is_name-front c.args.id.now _ _ c.as_bytes.ensures.id c.split_at.ensures.front (c.as_str.ensures.value ∙ c.in_ok-hex.ensures.text) }

pub returns : goal.returns
returns c = record { path = rw (prefix_path-joined c.args.objects.now c.args.id.now _ _ (c.as_str.ensures.value ∙ c.in_ok-hex.ensures.text) c.split_at.ensures.front) c.joined.ensures.path }
