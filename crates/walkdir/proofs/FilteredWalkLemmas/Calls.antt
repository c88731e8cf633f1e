-- What one call of a filtered walk gives and leaves, on a disk whose tree is known.
use Rattle.std.proofs.Common.{◌≡◌, ℕ, Bool, true, false, List, [], ◌∷◌, ◌++◌, Option, Some, None, Ok, Err, refl, sym, subst, ◌∙◌}
use Rattle.std.specs.Fn.{Mut, CalledAt}
use Rattle.std.specs.Option.{option_to_list}
use Rattle.std.specs.Prelude.{MatchBool}
use denote.Ref.{Bor}
use Rattle.odb_disk.specs.declared.ask.DiskAsk.{DiskAsk}
use Rattle.odb_disk.specs.declared.ask.DiskAnswer.{DiskAnswer}
use Rattle.odb_disk.specs.Streams.{Streams}
use Rattle.odb_disk.specs.Tree.{State, tree_of}
use Rattle.walkdir.proofs.FilteredWalkLemmas.{StillLeaves, gives_begun, innermost_dir, innermost_head, left_alone, left_below, skip_above, skip_is_of}
use Rattle.walkdir.proofs.FilteredWalks.{FiltersOn}
use Rattle.walkdir.specs.Entered.{IsEntered, StaysOut}
use Rattle.walkdir.specs.Entry.{is_dir}
use Rattle.walkdir.specs.Filter.{Accepts, Ends, Errs, Rejects}
use Rattle.walkdir.specs.Above.{AreEntered}
use Rattle.walkdir.specs.FilteredWalk.{LeavesOut}
use Rattle.walkdir.specs.Innermost.{IsHead}
use Rattle.walkdir.specs.OnDisk.{NextOn, SkipsOn, at_walk}
use Rattle.walkdir.specs.Progress.{GivesDirectory, GivesEntered, GivesNext, IsOf, Keeps, Progress, StillGives, TellsEntered, is_lost}
use Rattle.walkdir.specs.Stack.{StandsFor, Nothing, ancestors}
use Rattle.walkdir.specs.Walk.{Walking, Item}
use Rattle.walkdir.specs.declared.dent.DirEntry.{DirEntry}
use Rattle.walkdir.specs.declared.iter.OnDisk.{OnDisk}

module _ {D W : Type 0} (state : D → Option State) (streams : D → Streams) (faults : D → ℕ) (answered : D → DiskAsk → DiskAnswer → D → Type 0)
    (progress : W → Streams → Progress) where
  -- one call of a filtered walk: if the filter leaves these items of the rest, it leaves the item and these of all
  pub record Leads {F : Type 0} (walk : Walking) (asked : F → DirEntry → Bool → F → Type 0) (told : State) (before : Streams) (s : OnDisk D W)
      (f : F) (item : Option Item) (t : OnDisk D W) (h : F) : Type 0 where
    pub tells : state t.disk.now ≡ Some told
    pub of : IsOf walk (at_walk state streams faults answered progress t)
    pub keeps : Keeps before (at_walk state streams faults answered progress t)
    pub over : item ≡ None → StillGives walk (at_walk state streams faults answered progress t) []
    pub above : AreEntered walk (ancestors (at_walk state streams faults answered progress t).stack)
    pub back : (last given : List Item) (k : F) → StillLeaves walk asked (at_walk state streams faults answered progress t) h last given k
        → StillLeaves walk asked (at_walk state streams faults answered progress s) f last (option_to_list item ++ given) k

  -- what a step gives there
  pub record StepTold (walk : Walking) (told : State) (before : Streams) (s : OnDisk D W) (item : Option Item) (t : OnDisk D W) : Type 0 where
    pub tells : state t.disk.now ≡ Some told
    pub of : IsOf walk (at_walk state streams faults answered progress t)
    pub keeps : Keeps before (at_walk state streams faults answered progress t)
    pub over : item ≡ None → StillGives walk (at_walk state streams faults answered progress t) []
    pub back : (rest : List Item) → StillGives walk (at_walk state streams faults answered progress t) rest
        → StillGives walk (at_walk state streams faults answered progress s) (option_to_list item ++ rest)
    pub directory : TellsEntered walk item (at_walk state streams faults answered progress t)
    pub above : AreEntered walk (ancestors (at_walk state streams faults answered progress t).stack)

  step_told : (walk : Walking) (told : State) (before : Streams) (s : OnDisk D W) (item : Option Item) (t : OnDisk D W)
      → NextOn state streams faults answered progress s item t
      → state s.disk.now ≡ Some told → walk.tree ≡ tree_of told → IsOf walk (at_walk state streams faults answered progress s)
      → Keeps before (at_walk state streams faults answered progress s) → is_lost item ≡ false
      → AreEntered walk (ancestors (at_walk state streams faults answered progress s).stack) → StepTold walk told before s item t
  step_told walk told before s item t next tells tree of keeps lost above =
      let old = at_walk state streams faults answered progress s in
      let new = at_walk state streams faults answered progress t in
      let step = next.1 in
      let gives = subst (λ o. GivesNext o old item new) tells step.gives walk before tree of keeps lost in
      record {
        tells = next.3 ∙ tells;
        of = gives.0;
        keeps = step.keeps before keeps;
        over = λ none.
            let ended = step.ended none in
            gives_begun walk new [] ended.1 (subst (λ stack. StandsFor walk new.streams stack []) (sym ended.0) Nothing);
        back = gives.1;
        directory = subst (λ o. GivesDirectory o old item new) tells step.directory walk before tree of keeps;
        above = subst (λ o. GivesEntered o old item new) tells step.above walk before tree of keeps lost above;
      }

  -- a rejected entry is left out, with what it contains if it was entered
  passed_over : {F : Type 0} (b : Bool) (walk : Walking) (asked : F → DirEntry → Bool → F → Type 0) (before : Streams) (s m n : OnDisk D W)
      (entry : DirEntry) (last given : List Item) (f g h : F) → asked f entry false g
      → (b ≡ true → is_dir entry ≡ true)
      → MatchBool b (IsEntered walk entry (at_walk state streams faults answered progress m).start
      (at_walk state streams faults answered progress m).streams
      (at_walk state streams faults answered progress m).stack) (StaysOut walk entry)
      → MatchBool b (SkipsOn state streams faults answered progress m n) (n ≡ m)
      → (b ≡ true → IsHead entry.path entry.depth (at_walk state streams faults answered progress m).stack)
      → AreEntered walk (ancestors (at_walk state streams faults answered progress m).stack)
      → Keeps before (at_walk state streams faults answered progress m)
      → ((rest : List Item) → StillGives walk (at_walk state streams faults answered progress m) rest
      → StillGives walk (at_walk state streams faults answered progress s) (Ok entry ∷ rest))
      → StillLeaves walk asked (at_walk state streams faults answered progress n) g last given h
      → StillLeaves walk asked (at_walk state streams faults answered progress s) f last given h
  passed_over true walk asked before s m n entry last given f g h rejected dir entered skip head above keeps back left =
      left_below walk asked before (at_walk state streams faults answered progress s) (at_walk state streams faults answered progress m)
      (at_walk state streams faults answered progress n) entry last given f g h rejected (dir refl) entered
      (head refl) above keeps skip.0 back left
  passed_over false walk asked before s m n entry last given f g h rejected dir out is head above keeps back left =
      left_alone walk asked (at_walk state streams faults answered progress s)
      (at_walk state streams faults answered progress m) entry last given f g h rejected out back
      (subst (λ x. StillLeaves walk asked (at_walk state streams faults answered progress x) g last given h) is left)

  -- what stays after a rejected entry
  pub record Stays (walk : Walking) (told : State) (before : Streams) (t : OnDisk D W) : Type 0 where
    pub tells : state t.disk.now ≡ Some told
    pub of : IsOf walk (at_walk state streams faults answered progress t)
    pub keeps : Keeps before (at_walk state streams faults answered progress t)
    pub above : AreEntered walk (ancestors (at_walk state streams faults answered progress t).stack)

  stays_after : (b : Bool) (walk : Walking) (told : State) (before : Streams) (m n : OnDisk D W)
      → MatchBool b (SkipsOn state streams faults answered progress m n) (n ≡ m) → Stays walk told before m
      → Stays walk told before n
  stays_after true walk told before m n skip stays = record {
    tells = skip.1 ∙ stays.tells;
    of = skip_is_of walk (at_walk state streams faults answered progress m) (at_walk state streams faults answered progress n) skip.0 stays.of;
    keeps = skip.0.keeps before stays.keeps;
    above = skip_above walk (at_walk state streams faults answered progress m) (at_walk state streams faults answered progress n) skip.0 stays.above;
  }
  stays_after false walk told before m n is stays = subst (Stays walk told before) (sym is) stays

  module _ {F : Type 0} (calls : Mut F (Bor DirEntry × Unit {0}) Bool) where
    pub leads : (walk : Walking) (told : State) (before : Streams) {s t : OnDisk D W} {f h : F} {item : Option Item}
        → FiltersOn state streams faults answered progress calls s f item t h → walk.tree ≡ tree_of told
        → Stays walk told before s → is_lost item ≡ false → Leads walk (CalledAt calls) told before s f item t h
    leads walk told before {s} {t} (Ends step) tree stays lost =
        let at = step_told walk told before s None t step stays.tells tree stays.of stays.keeps lost stays.above in
        record {
          tells = at.tells;
          of = at.of;
          keeps = at.keeps;
          over = at.over;
          above = at.above;
          back = λ last given k left. record { items = left.items; gives = at.back (left.items ++ last) left.gives; leaves = left.leaves };
        }
    leads walk told before {s} {t} (Errs {error = error} step) tree stays lost =
        let at = step_told walk told before s (Some (Err error)) t step stays.tells tree stays.of stays.keeps lost stays.above in
        record {
          tells = at.tells;
          of = at.of;
          keeps = at.keeps;
          over = at.over;
          above = at.above;
          back = λ last given k left. record {
            items = Err error ∷ left.items;
            gives = at.back (left.items ++ last) left.gives;
            leaves = LeavesOut.Failed left.leaves;
          };
        }
    leads walk told before {s} {t} (Accepts {h = h} {entry = entry} step called) tree stays lost =
        let at = step_told walk told before s (Some (Ok entry)) t step stays.tells tree stays.of stays.keeps lost stays.above in
        record {
          tells = at.tells;
          of = at.of;
          keeps = at.keeps;
          over = at.over;
          above = at.above;
          back = λ last given k left. record {
            items = Ok entry ∷ left.items;
            gives = at.back (left.items ++ last) left.gives;
            leaves = LeavesOut.Accepted h called left.leaves;
          };
        }
    leads walk told before {s} {t} {f} {h} {item = item} (Rejects m n g entry step called after rest) tree stays lost =
        let at = step_told walk told before s (Some (Ok entry)) m step stays.tells tree stays.of stays.keeps refl stays.above in
        let mid = at_walk state streams faults answered progress m in
        let there : Stays walk told before m = record { tells = at.tells; of = at.of; keeps = at.keeps; above = at.above } in
        let more = leads walk told before rest tree (stays_after mid.entered walk told before m n after there) lost in
        record {
          tells = more.tells;
          of = more.of;
          keeps = more.keeps;
          over = more.over;
          above = more.above;
          back = λ last given k left.
              passed_over mid.entered walk (CalledAt calls) before s m n entry last (option_to_list item ++ given) f g k called
              (innermost_dir mid entry step.1.entered) at.directory after
              (λ entered. innermost_head mid entry step.1.entered entered step.1.innermost) at.above at.keeps at.back (more.back last given k left);
        }
