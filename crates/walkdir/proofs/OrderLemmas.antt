-- Laws of children that are put in order: errors and entries are split, one after the other.
use Rattle.std.proofs.Common.{◌≡◌, List, [], ◌∷◌, ◌++◌, map, Option, Some, None, Ok, length, refl, sym, ap, ◌∙◌, append-nil, arith}
use Rattle.std.specs.List.{cons_option, filter_map}
use lib.Seq.{append_snoc}
use Rattle.walkdir.specs.Walk.{Item}
use Rattle.walkdir.specs.declared.dent.DirEntry.{DirEntry}

module _ {Y : Type 0} (f : Item → Option Y) (all : List Item) (done : List Y) (rest more : List Item) (child : Item)
    (so_far : filter_map f all ≡ done ++ filter_map f rest) (is : rest ≡ child ∷ more) where
  pub one_found : (y : Y) (new : List Y) → f child ≡ Some y → new ≡ done ++ y ∷ [] → filter_map f all ≡ new ++ filter_map f more
  one_found y new found push =
      so_far ∙ ap (λ r. done ++ filter_map f r) is ∙ ap (λ o. done ++ cons_option o (filter_map f more)) found
      ∙ sym (ap (λ n. n ++ filter_map f more) push ∙ append_snoc done y (filter_map f more))

  pub one_passed : f child ≡ None → filter_map f all ≡ done ++ filter_map f more
  one_passed passed = so_far ∙ ap (λ r. done ++ filter_map f r) is ∙ ap (λ o. done ++ cons_option o (filter_map f more)) passed

pub all_found : {Y : Type 0} (f : Item → Option Y) (all : List Item) (done : List Y) (rest : List Item) → filter_map f all ≡ done ++ filter_map f rest
    → rest ≡ [] → filter_map f all ≡ done
all_found f all done rest so_far none = so_far ∙ ap (λ r. done ++ filter_map f r) none ∙ append-nil done

pub one_behind : (all old new : List Item) (rest more : List DirEntry) (entry : DirEntry) → old ++ map Ok rest ≡ all → rest ≡ entry ∷ more
    → new ≡ old ++ Ok entry ∷ [] → new ++ map Ok more ≡ all
one_behind all old new rest more entry so_far is push =
    ap (λ n. n ++ map Ok more) push ∙ append_snoc old (Ok entry) (map Ok more) ∙ ap (λ r. old ++ map Ok r) (sym is) ∙ so_far

pub all_behind : (all done : List Item) (rest : List DirEntry) → done ++ map Ok rest ≡ all → rest ≡ [] → done ≡ all
all_behind all done rest so_far none = sym (append-nil done) ∙ ap (λ r. done ++ map Ok r) (sym none) ∙ so_far

pub none_left : {A : Type 0} (xs : List A) → length xs ≡ 0 → xs ≡ []
none_left [] is = refl
none_left (x ∷ xs) is = absurd (omega arith)
