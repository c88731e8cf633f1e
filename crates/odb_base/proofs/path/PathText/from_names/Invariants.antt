use Rattle.std.proofs.Common.{◌≡◌, true, map, take}
use Rattle.std.specs.List.{list_all}
use Rattle.std.specs.String.{string_bytes}
use Rattle.odb_base.specs.Path.{is_name}
use Rattle.odb_base.specs.JoinedPath.{joined}
use Rattle.odb_base.proofs.path.PathText.from_names.Given as goal

abbrev pub invariant-loop-text : goal.invariant-loop-text
invariant-loop-text l = record {
  taken : string_bytes l.joined ≡ joined (map (λ text. text.now) (take l.text-index l.texts));
  are_names : list_all is_name (map (λ text. text.now) (take l.text-index l.texts)) ≡ true;
}
