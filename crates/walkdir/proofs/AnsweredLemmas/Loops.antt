-- Stats that show a loop.
use Rattle.std.proofs.Common.{◌≡◌, ℕ, inl, inr, Bool, true, false, List, [], ◌∷◌, Option, Some, None, Ok, Err, cond, refl, sym, ap, subst, ◌∙◌}
use Rattle.std.specs.Prelude.{◌==◌}
use Rattle.std.proofs.lemmas.Bool.Decides.{nat_tests}
use Rattle.std.proofs.Common.{arith}
use Rattle.odb_base.specs.Path.{Path}
use Rattle.odb_disk.specs.CallsMade.{Leads}
use Rattle.odb_disk.specs.declared.ask.DiskAsk.{DiskAsk}
use Rattle.odb_disk.specs.declared.ask.DiskAsk.TheVariants as asks
use Rattle.odb_disk.specs.declared.ask.DiskAnswer.{DiskAnswer}
use Rattle.odb_disk.specs.declared.ask.DiskAnswer.TheVariants as answers
use Rattle.odb_disk.specs.declared.meta.Meta.{Meta}
use Rattle.odb_disk.proofs.CallsMadeLaws.{answered_here, answered_wider, leads_nowhere}
use Rattle.walkdir.specs.Answered.{AreListsTold, IsListTold, IsPlaceTold, IsStackTold, LooksBy}
use Rattle.walkdir.specs.AnsweredTurns.{IsKnown, IsSeenIn}
use Rattle.walkdir.specs.Entry.{is_dir_kind}
use Rattle.walkdir.specs.Stack.{ancestors}
use Rattle.walkdir.specs.Turns.Taken.{ChecksLoop, standing_at}
use Rattle.walkdir.specs.Walk.{Ancestor}
use Rattle.walkdir.specs.Walk.Entries.{place_of, same_place}
use Rattle.walkdir.specs.declared.error.Error.{Error}
use Rattle.walkdir.specs.declared.directory.DirList.{DirList}
use Rattle.walkdir.specs.declared.directory.Place.{Place}
use Rattle.walkdir.proofs.ProgressLemmas.{both}

module _ {D : Type 0} (answered : D → DiskAsk → DiskAnswer → D → Type 0) where
  -- ---- a loop

  same_is : (place : Place) (kept : Option Place) → same_place place kept ≡ true → kept ≡ Some place
  same_is place None is = absurd cc
  same_is place (Some other) is =
      let parts = both (place.dev == other.dev) (place.ino == other.ino) is in
      let dev : other.dev ≡ place.dev = (let e = parts.0 in grind (arith, nat_tests)) in
      let ino : other.ino ≡ place.ino = (let e = parts.1 in grind (arith, nat_tests)) in
      ap Some (ap (λ (n : ℕ). record { dev = n; ino = other.ino }) dev ∙ ap (λ (n : ℕ). record { dev = place.dev; ino = n }) ino)

  kept_at : (first now : D) (path : Path) (kept : Option Place) (place : Place) → kept ≡ Some place → IsKnown answered first now path kept
      → IsPlaceTold answered first now path place
  kept_at first now path kept place is known = subst (IsKnown answered first now path) is known

  found_here : (first now : D) (list : DirList) (outer : List DirList) (place : Place) (ancestor : Ancestor) → IsListTold answered first now list
      → (standing_at (ancestors outer) place ≡ Some ancestor → IsPlaceTold answered first now ancestor.path place) → (b : Bool)
      → same_place place list.place ≡ b
      → cond b (Some (record { path = list.path; place = list.place })) (standing_at (ancestors outer) place) ≡ Some ancestor
      → IsPlaceTold answered first now ancestor.path place
  found_here first now list outer place ancestor told further true same is =
      let one : (record { path = list.path; place = list.place }) ≡ ancestor = (cc) in
      subst (λ (a : Ancestor). IsPlaceTold answered first now a.path place) one
      (kept_at first now list.path list.place place (same_is place list.place same) told.1)
  found_here first now list outer place ancestor told further false same is = further is

  found_told : (first now : D) (stack : List DirList) (place : Place) (ancestor : Ancestor) → standing_at (ancestors stack) place ≡ Some ancestor
      → AreListsTold answered first now stack
      → IsPlaceTold answered first now ancestor.path place
  found_told first now [] place ancestor found told = absurd cc
  found_told first now (list ∷ outer) place ancestor found told =
      found_here first now list outer place ancestor told.0 (λ is. found_told first now outer place ancestor is told.1)
      (same_place place list.place) refl found

  pub loop_told : (first old new : D) (stack : List DirList) (depth : ℕ) (child : Path) (meta : Meta) (error : Error)
      → IsStackTold answered first new stack → Leads answered first old
      → LooksBy answered depth child true old (Ok meta) new → is_dir_kind meta.kind ≡ true
      → ChecksLoop depth child (standing_at (ancestors stack) (place_of meta)) (Err error)
      → IsSeenIn answered first new error.inner
  loop_told first old new stack depth child meta error told earlier by kind (ancestor, found, inl is) =
      subst (λ (e : Error). IsSeenIn answered first new e.inner) (sym is) (record {
        meta = meta;
        looked = answered_wider answered first old new new (asks.Look child true)
            (answers.Meta meta) earlier (answered_here answered old new (asks.Look child true) (answers.Meta meta) by)
            (leads_nowhere answered new);
        kind = kind;
        above = found_told first new stack (place_of meta) ancestor found told.lists;
      })
  loop_told first old new stack depth child meta error told earlier by kind (ancestor, found, inr is) =
      subst (λ (e : Error). IsSeenIn answered first new e.inner) (sym is) tt
