-- Names in the directory of a prefix, by their length, and the ids that they stand for.
use Rattle.std.proofs.Common.{◌≡◌, ◌+◌, cond, List, ◌++◌, length, take, None, ℕ, eq-eqb, sym, ap, ◌∙◌}
use Rattle.std.proofs.lemmas.Bool.{ne_eqb}
use Rattle.odb_base.specs.Path.{Name}
use Rattle.gix_hash.specs.Kind.{digits_in}
use Rattle.gix_hash.specs.ObjectId.{hex_of, id_of, kind_of}
use Rattle.gix_hash.specs.Prefix.{PrefixOf}
use Rattle.gix_odb_loose.specs.PrefixNames.{id_named, with_prefix}

module _ (prefix : PrefixOf) (name : Name) where
  -- a name of another length is none
  pub none_named : ¬ (length name + 2 ≡ digits_in (kind_of prefix.id)) → None ≡ id_named prefix name
  unfolding id_named
  none_named other = sym (ap (λ b. cond b (with_prefix prefix (id_of (take 2 (hex_of prefix.id) ++ name))) None) (ne_eqb _ _ other))

  -- one as long as the digits after the first two is read with these in front
  pub named_by : (text : List ℕ) → length name + 2 ≡ digits_in (kind_of prefix.id) → text ≡ take 2 (hex_of prefix.id) ++ name → with_prefix prefix (id_of text) ≡ id_named prefix name
  unfolding id_named
  named_by text same is =
      ap (λ (t : List ℕ). with_prefix prefix (id_of t)) is
      ∙ sym (ap (λ b. cond b (with_prefix prefix (id_of (take 2 (hex_of prefix.id) ++ name))) None) (eq-eqb _ _ same))
