use Rattle.std.proofs.Common.{◌∙◌, refl}
use Rattle.gix_odb_loose.proofs.LoosePathLemmas.{cut_at_two, is_name-rest, prefix_path-joined, loose_path-joined}
use Rattle.gix_odb_loose.proofs.paths.object_path.Goals as goal

pub split_at-requires : goal.split_at-requires
split_at-requires c = cut_at_two c.args.id.now _ c.as_bytes.ensures.id (c.as_str.ensures.value ∙ c.in_ok-hex.ensures.text)

pub joined-requires : goal.joined-requires
joined-requires c = record { name = is_name-rest c.args.id.now _ _ c.as_bytes.ensures.id c.split_at.ensures.back (c.as_str.ensures.value ∙ c.in_ok-hex.ensures.text) }

pub returns : goal.returns
returns c =
    record {
      path =
          rw (loose_path-joined c.args.objects.now _ c.args.id.now _ _ _ (c.as_str.ensures.value ∙ c.in_ok-hex.ensures.text) refl c.split_at.ensures.back
          (c.in_ok-folder.ensures.path ∙ prefix_path-joined c.args.objects.now c.args.id.now _ _ (c.as_str.ensures.value ∙ c.in_ok-hex.ensures.text) refl))
          c.joined.ensures.path;
    }
