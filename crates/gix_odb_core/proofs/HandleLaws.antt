-- Laws of the handles of a shape: their seats rise, and events of handles of different seats commute.
use Rattle.std.proofs.Common.{◌≡◌, ℕ, ◌<◌, Bool, true, false, cond, List, [], ◌∷◌, Option, Some, None}
use Rattle.std.proofs.Common.{refl, sym, ap, subst, ◌∙◌, arith, eqb-true, nat_eq, Ordering, Less, Equal, Greater, nat_cmp, is_eq}
use Rattle.std.specs.Cmp.{ranks}
use Rattle.std.specs.List.{AllByRecursion}
use Rattle.std.specs.Ordering.{MatchOrdering, match_ordering}
use Rattle.std.proofs.lemmas.Bool.{eqb-false}
use Rattle.gix_odb_core.specs.Handles.{Handles, registered, with_seat, without_seat}
use Rattle.gix_odb_core.specs.Possible.{IsOpened}
use Rattle.gix_odb_core.specs.Replay.{after_entry, replay}
use Rattle.gix_odb_core.specs.Rising.{IsRising, is_of_handle}
use Rattle.gix_odb_core.specs.Steps.{after}
use Rattle.gix_odb_core.specs.Turn.{handles_after}
use Rattle.gix_odb_events.specs.declared.event.Event.{Event}
use Rattle.gix_odb_events.specs.declared.event.Event.TheVariants as event
use Rattle.gix_odb_core.specs.declared.journal.Entry.{Entry}
use Rattle.gix_odb_core.specs.declared.shape.Shape.{Shape}
use Rattle.gix_odb_core.proofs.DistinctLemmas.{each_weaker}
use Rattle.gix_odb_core.proofs.HandleLemmas.{handles-after, seat-other, seat-self, with_seat-other, with_seat-same, without_seat-other}
use Rattle.gix_odb_core.proofs.SlotTurnLemmas.{entry_gives}

-- ---- the order of the seats

abbrev AreAbove : ℕ → Handles → Type 0
AreAbove seat handles = AllByRecursion (λ other. seat < other.0) handles

higher : (low high : ℕ) → low < high → (handles : Handles) → AreAbove high handles → AreAbove low handles
higher low high order handles above = each_weaker (λ (other : ℕ × Bool). high < other.0) (λ other. low < other.0) (λ other h. omega arith) handles above

above-with : (low : ℕ) (handles : Handles) (seat : ℕ) (stable : Bool) → low < seat → AreAbove low handles → AreAbove low (with_seat handles seat stable)
above-with low [] seat stable order above = (order, tt)
above-with low (first ∷ handles) seat stable order above = by (nat_cmp seat first.0) (above-with low handles seat stable order above.1)
  where
    by : (r : Ordering) → AreAbove low (with_seat handles seat stable)
        → AreAbove low (match_ordering r ((seat, stable) ∷ first ∷ handles) ((first.0, stable) ∷ handles) (first ∷ with_seat handles seat stable))
    by Less rest = (order, above)
    by Equal rest = (above.0, above.1)
    by Greater rest = (above.0, rest)

above-without : (low : ℕ) (handles : Handles) (seat : ℕ) → AreAbove low handles → AreAbove low (without_seat handles seat)
above-without low [] seat above = tt
above-without low (first ∷ handles) seat above = by (is_eq (nat_cmp seat first.0)) (above-without low handles seat above.1)
  where
    by : (b : Bool) → AreAbove low (without_seat handles seat) → AreAbove low (cond b handles (first ∷ without_seat handles seat))
    by true rest = above.1
    by false rest = (above.0, rest)

rising-with : (handles : Handles) (seat : ℕ) (stable : Bool) → IsRising handles → IsRising (with_seat handles seat stable)
rising-with [] seat stable rising = (tt, tt)
rising-with (first ∷ handles) seat stable rising = by (nat_cmp seat first.0) (ranks seat first.0) (rising-with handles seat stable rising.1)
  where
    by : (r : Ordering) → MatchOrdering r (seat < first.0) (seat ≡ first.0) (first.0 < seat) → IsRising (with_seat handles seat stable)
        → IsRising (match_ordering r ((seat, stable) ∷ first ∷ handles) ((first.0, stable) ∷ handles) (first ∷ with_seat handles seat stable))
    by Less order rest = ((order, higher seat first.0 order handles rising.0), rising)
    by Equal order rest = rising
    by Greater order rest = (above-with first.0 handles seat stable order rising.0, rest)

rising-without : (handles : Handles) (seat : ℕ) → IsRising handles → IsRising (without_seat handles seat)
rising-without [] seat rising = tt
rising-without (first ∷ handles) seat rising = by (is_eq (nat_cmp seat first.0)) (rising-without handles seat rising.1)
  where
    by : (b : Bool) → IsRising (without_seat handles seat) → IsRising (cond b handles (first ∷ without_seat handles seat))
    by true rest = rising.1
    by false rest = (above-without first.0 handles seat rising.0, rest)

rising-after : (handles : Handles) (seat : ℕ) (happens : Event) → IsRising handles → IsRising (handles_after handles seat happens)
rising-after handles seat (event.Register stable) rising = rising-with handles seat stable rising
rising-after handles seat event.Upgrade rising = rising-with handles seat true rising
rising-after handles seat event.Remove rising = rising-without handles seat rising
rising-after handles seat event.Look rising = rising
rising-after handles seat event.Report rising = rising
rising-after handles seat (event.PutIndex slot path file) rising = rising
rising-after handles seat (event.PutPack pack path file) rising = rising
rising-after handles seat (event.PassOver slot path why) rising = rising
rising-after handles seat (event.Publish listing) rising = rising

-- the seats of the handles rise, whatever happens
pub seats_stay_in_order : (entries : List Entry) (shape : Shape) → IsRising shape.handles → IsRising (replay shape entries).handles
seats_stay_in_order [] shape rising = rising
seats_stay_in_order (entry ∷ entries) shape rising =
    seats_stay_in_order entries (after_entry shape entry)
    (entry_gives (λ s. IsRising s.handles) shape entry rising (subst IsRising (sym (handles-after shape entry.seat entry.event)) (rising-after shape.handles entry.seat entry.event rising)))

pub seats_of_a_journal_are_in_order : (opening : Shape) → IsOpened opening → (entries : List Entry) → IsRising (replay opening entries).handles
seats_of_a_journal_are_in_order opening opened entries = seats_stay_in_order entries opening (subst (λ (s : Shape). IsRising s.handles) (sym opened.is) tt)

-- ---- the registrations determine the handles

unregistered : (handles : Handles) (seat : ℕ) → AreAbove seat handles → registered handles seat ≡ None
unregistered [] seat above = refl
unregistered (first ∷ handles) seat above = rw (seat-other seat first.0 (λ same. let order = above.0 in omega arith)) (unregistered handles seat above.1)

same_handles : (ones others : Handles) → IsRising ones → IsRising others → ((seat : ℕ) → registered ones seat ≡ registered others seat) → ones ≡ others
same_handles [] [] rising too alike = refl
same_handles [] (other ∷ others) rising too alike =
    let there : registered (other ∷ others) other.0 ≡ Some other.1 = rw (seat-self other.0) refl in
    let wrong : None ≡ Some other.1 = alike other.0 ∙ there in
    absurd cc
same_handles (one ∷ ones) [] rising too alike =
    let there : registered (one ∷ ones) one.0 ≡ Some one.1 = rw (seat-self one.0) refl in
    let wrong : Some one.1 ≡ None = sym there ∙ alike one.0 in
    absurd cc
same_handles (one ∷ ones) (other ∷ others) rising too alike =
    by (nat_cmp one.0 other.0) (ranks one.0 other.0) (same_handles ones others rising.1 too.1)
  where
    here : registered (one ∷ ones) one.0 ≡ Some one.1
    here = rw (seat-self one.0) refl

    there : registered (other ∷ others) other.0 ≡ Some other.1
    there = rw (seat-self other.0) refl

    rest : one.0 ≡ other.0 → (seat : ℕ) → registered ones seat ≡ registered others seat
    rest same seat = at (nat_eq seat one.0) refl
      where
        at : (b : Bool) → nat_eq seat one.0 ≡ b → registered ones seat ≡ registered others seat
        at true is =
            let this : one.0 ≡ seat = sym (eqb-true seat one.0 is) in
            unregistered ones seat (subst (λ k. AreAbove k ones) this rising.0) ∙ sym (unregistered others seat (subst (λ k. AreAbove k others) (sym same ∙ this) too.0))
        at false is =
            let differ = eqb-false seat one.0 is in
            let skip : registered (one ∷ ones) seat ≡ registered ones seat = rw (seat-other seat one.0 differ) refl in
            let skip_too : registered (other ∷ others) seat ≡ registered others seat = rw (seat-other seat other.0 (λ e. differ (e ∙ sym same))) refl in
            sym skip ∙ alike seat ∙ skip_too

    by : (r : Ordering) → MatchOrdering r (one.0 < other.0) (one.0 ≡ other.0) (other.0 < one.0) → (((seat : ℕ) → registered ones seat ≡ registered others seat) → ones ≡ others)
        → one ∷ ones ≡ other ∷ others
    by Less order same =
        let none : registered (other ∷ others) one.0 ≡ None = unregistered (other ∷ others) one.0 (order, higher one.0 other.0 order others too.0) in
        let wrong : Some one.1 ≡ None = sym here ∙ alike one.0 ∙ none in
        absurd cc
    by Equal order same =
        let value : Some one.1 ≡ Some other.1 = sym here ∙ alike one.0 ∙ ap (registered (other ∷ others)) order ∙ there in
        let stable : one.1 ≡ other.1 = cc in
        let tails : ones ≡ others = same (rest order) in
        λ i. (order i, stable i) ∷ tails i
    by Greater order same =
        let none : registered (one ∷ ones) other.0 ≡ None = unregistered (one ∷ ones) other.0 (order, higher other.0 one.0 order ones rising.0) in
        let wrong : None ≡ Some other.1 = sym none ∙ alike other.0 ∙ there in
        absurd cc

-- ---- events of handles

without_seat-same : (handles : Handles) (seat : ℕ) → IsRising handles → registered (without_seat handles seat) seat ≡ None
without_seat-same [] seat rising = refl
without_seat-same (first ∷ handles) seat rising = by (nat_cmp seat first.0) (ranks seat first.0) refl (without_seat-same handles seat rising.1)
  where
    by : (r : Ordering) → MatchOrdering r (seat < first.0) (seat ≡ first.0) (first.0 < seat) → nat_cmp seat first.0 ≡ r → registered (without_seat handles seat) seat ≡ None
        → registered (cond (is_eq r) handles (first ∷ without_seat handles seat)) seat ≡ None
    by Less order is rest = let this : is_eq (nat_cmp seat first.0) ≡ false = ap is_eq is in rw this rest
    by Equal order is rest = unregistered handles seat (subst (λ k. AreAbove k handles) (sym order) rising.0)
    by Greater order is rest = let this : is_eq (nat_cmp seat first.0) ≡ false = ap is_eq is in rw this rest

-- the registration of its own seat after an event
abbrev pub own : Event → Option Bool → Option Bool
own (event.Register stable) before = Some stable
own event.Upgrade before = Some true
own event.Remove before = None
own other before = before

-- its own seat after an event, and any other
pub own_seat : (handles : Handles) (seat : ℕ) (happens : Event) → IsRising handles → registered (handles_after handles seat happens) seat ≡ own happens (registered handles seat)
own_seat handles seat (event.Register stable) rising = with_seat-same handles seat stable
own_seat handles seat event.Upgrade rising = with_seat-same handles seat true
own_seat handles seat event.Remove rising = without_seat-same handles seat rising
own_seat handles seat event.Look rising = refl
own_seat handles seat event.Report rising = refl
own_seat handles seat (event.PutIndex slot path file) rising = refl
own_seat handles seat (event.PutPack pack path file) rising = refl
own_seat handles seat (event.PassOver slot path why) rising = refl
own_seat handles seat (event.Publish listing) rising = refl

pub other_seat : (handles : Handles) (seat : ℕ) (happens : Event) (other : ℕ) → (other ≡ seat → ⊥) → registered (handles_after handles seat happens) other ≡ registered handles other
other_seat handles seat (event.Register stable) other differ = with_seat-other handles seat stable other differ
other_seat handles seat event.Upgrade other differ = with_seat-other handles seat true other differ
other_seat handles seat event.Remove other differ = without_seat-other handles seat other differ
other_seat handles seat event.Look other differ = refl
other_seat handles seat event.Report other differ = refl
other_seat handles seat (event.PutIndex slot path file) other differ = refl
other_seat handles seat (event.PutPack pack path file) other differ = refl
other_seat handles seat (event.PassOver slot path why) other differ = refl
other_seat handles seat (event.Publish listing) other differ = refl

handles_commute : (handles : Handles) (one other : ℕ) (x y : Event) → IsRising handles → (one ≡ other → ⊥)
    → handles_after (handles_after handles one x) other y ≡ handles_after (handles_after handles other y) one x
handles_commute handles one other x y rising differ =
    same_handles (handles_after (handles_after handles one x) other y) (handles_after (handles_after handles other y) one x)
    (rising-after (handles_after handles one x) other y rising_x) (rising-after (handles_after handles other y) one x rising_y) (λ seat. by seat (nat_eq seat one) (nat_eq seat other) refl refl)
  where
    rising_x : IsRising (handles_after handles one x)
    rising_x = rising-after handles one x rising

    rising_y : IsRising (handles_after handles other y)
    rising_y = rising-after handles other y rising

    at_one : registered (handles_after (handles_after handles one x) other y) one ≡ registered (handles_after (handles_after handles other y) one x) one
    at_one =
        other_seat (handles_after handles one x) other y one differ ∙ own_seat handles one x rising
        ∙ ap (own x) (sym (other_seat handles other y one differ)) ∙ sym (own_seat (handles_after handles other y) one x rising_y)

    at_other : registered (handles_after (handles_after handles one x) other y) other ≡ registered (handles_after (handles_after handles other y) one x) other
    at_other =
        own_seat (handles_after handles one x) other y rising_x ∙ ap (own y) (other_seat handles one x other (λ e. differ (sym e)))
        ∙ sym (own_seat handles other y rising) ∙ sym (other_seat (handles_after handles other y) one x other (λ e. differ (sym e)))

    by : (seat : ℕ) (a b : Bool) → nat_eq seat one ≡ a → nat_eq seat other ≡ b
        → registered (handles_after (handles_after handles one x) other y) seat ≡ registered (handles_after (handles_after handles other y) one x) seat
    by seat true b is its =
        subst (λ k. registered (handles_after (handles_after handles one x) other y) k ≡ registered (handles_after (handles_after handles other y) one x) k) (sym (eqb-true seat one is)) at_one
    by seat false true is its =
        subst (λ k. registered (handles_after (handles_after handles one x) other y) k ≡ registered (handles_after (handles_after handles other y) one x) k) (sym (eqb-true seat other its)) at_other
    by seat false false is its =
        other_seat (handles_after handles one x) other y seat (eqb-false seat other its) ∙ other_seat handles one x seat (eqb-false seat one is)
        ∙ sym (other_seat handles other y seat (eqb-false seat other its)) ∙ sym (other_seat (handles_after handles other y) one x seat (eqb-false seat one is))

handle_event : (shape : Shape) (seat : ℕ) (happens : Event) → is_of_handle happens ≡ true → after shape seat happens ≡ record shape { handles = handles_after shape.handles seat happens }
handle_event shape seat (event.Register stable) is = refl
handle_event shape seat event.Upgrade is = refl
handle_event shape seat event.Remove is = refl
handle_event shape seat event.Look is = absurd cc
handle_event shape seat event.Report is = absurd cc
handle_event shape seat (event.PutIndex slot path file) is = absurd cc
handle_event shape seat (event.PutPack pack path file) is = absurd cc
handle_event shape seat (event.PassOver slot path why) is = absurd cc
handle_event shape seat (event.Publish listing) is = absurd cc

-- events of handles of different seats commute
pub events_of_different_handles_commute : (shape : Shape) (one other : ℕ) (x y : Event) → IsRising shape.handles → (one ≡ other → ⊥) → is_of_handle x ≡ true → is_of_handle y ≡ true
    → after (after shape one x) other y ≡ after (after shape other y) one x
events_of_different_handles_commute shape one other x y rising differ is its =
    handle_event (after shape one x) other y its
    ∙ ap (λ (s : Shape). record s { handles = handles_after s.handles other y }) (handle_event shape one x is)
    ∙ ap (λ (h : Handles). record shape { handles = h }) (handles_commute shape.handles one other x y rising differ)
    ∙ ap (λ (s : Shape). record s { handles = handles_after s.handles one x }) (sym (handle_event shape other y its))
    ∙ sym (handle_event (after shape other y) one x is)
