-- Lemmas on the beginning of a worker, and on what is given of the items that it draws.
use Rattle.std.proofs.Common.{◌≡◌, true, false, List, [], ◌∷◌, ◌++◌, All, refl, sym, ap, ◌∙◌, subst, arith, append_assoc, Option, Some, None, Ok}
use Rattle.std.proofs.lemmas.List.{append-nil}
use Rattle.std.specs.Iterator.{Yields, Drains}
use Rattle.std.specs.declared.snapshot.Snapshot.{Snapshot}
use Rattle.gix_features_channel.specs.declared.ends.Hand.{Hand}
use Rattle.gix_features_channel.specs.Ends.{hand, Begins}
use Rattle.gix_features_channel.specs.declared.messages.Message.{Message}
use Rattle.gix_features_channel.specs.declared.messages.Message.TheVariants.{Begun}
use Rattle.gix_features_channel.specs.declared.taker.Worker.{Worker}
use Rattle.gix_features_channel.specs.Messages.{IsTold, IsSent, AreTaken}
use Rattle.gix_features_channel.specs.Taking.{taken_of, CameBy}
use Rattle.gix_features_channel.proofs.MessagesLemmas.{Yields-append, told_begun, sent_begun}
use Rattle.gix_features_channel.specs.EagerJobs.{IsBegun, IsKnown}
use Rattle.gix_features_channel.specs.declared.source.Source.{Source}
use Rattle.gix_features_channel.specs.declared.source.Source.TheVariants.{Elsewhere, Here, Ended}
use Rattle.gix_features_channel.specs.declared.choice.EagerIterIf.{EagerIterIf}
use Rattle.gix_features_channel.specs.declared.choice.EagerIterIf.TheVariants.{OnDemand}
use Rattle.gix_features_channel.specs.Eager.{CameOf, Came, DrawsIf}

module _ {I T : Type 0} (steps : I → Option T → I → Type 0) where
  -- ---- a new channel, through which the iterator as it is was sent and taken before it became two ends

  pub told_begun_at : (start : Snapshot I) (v : Hand (Message I T)) → v ≡ hand true true [] [] → IsTold steps (v.sent ++ Begun start ∷ [])
  told_begun_at start v new = subst (λ (u : Hand (Message I T)). IsTold steps (u.sent ++ Begun start ∷ [])) (sym new) (told_begun steps start)

  pub sent_is_begun : (first : I) (start : Snapshot I) (v w : Hand (Message I T)) → start.value ≡ first → v ≡ hand true true [] []
      → w ≡ hand v.sends v.takes (v.sent ++ Begun start ∷ []) v.taken → IsBegun first w
  sent_is_begun first start v w from new sent = record {
    start = start;
    from_first = from;
    begun = sent ∙ ap (λ (u : Hand (Message I T)). hand u.sends u.takes (u.sent ++ Begun start ∷ []) u.taken) new;
  }

  pub taken_is_known : (first : I) (message : Message I T) (v w : Hand (Message I T)) → IsBegun first v
      → (w ≡ hand v.sends v.takes v.sent (v.taken ++ message ∷ [])) × Begins (IsTold steps) (v.taken ++ message ∷ [])
      × (v.sends ≡ true → Begins (λ all. v.sent ≡ all) (v.taken ++ message ∷ [])) → IsKnown steps first w
  taken_is_known first message v w was told =
      let sent : v.sent ≡ Begun was.start ∷ [] = ap (λ (u : Hand (Message I T)). u.sent) was.begun in
      let none : v.taken ≡ [] = ap (λ (u : Hand (Message I T)). u.taken) was.begun in
      let begins = told.2 (ap (λ (u : Hand (Message I T)). u.sends) was.begun) in
      let front : Begun was.start ∷ [] ≡ message ∷ begins.0 = sym sent ∙ begins.1 ∙ ap (λ (l : List (Message I T)). (l ++ message ∷ []) ++ begins.0) none in
      let same : message ≡ Begun was.start = cc front in
      let taken : w.taken ≡ Begun was.start ∷ [] = ap (λ (u : Hand (Message I T)). u.taken) told.0 ∙ ap (λ (l : List (Message I T)). l ++ message ∷ []) none
      ∙ ap (λ (m : Message I T). m ∷ []) same in
      record {
        sends = ap (λ (u : Hand (Message I T)). u.sends) told.0 ∙ ap (λ (u : Hand (Message I T)). u.sends) was.begun;
        takes = ap (λ (u : Hand (Message I T)). u.takes) told.0 ∙ ap (λ (u : Hand (Message I T)). u.takes) was.begun;
        sent = sent_begun steps was.start w.sent first (ap (λ (u : Hand (Message I T)). u.sent) told.0 ∙ sent) was.from_first;
        taken = record { start = was.start; chunks = []; messages = taken; from_first = was.from_first; in_chunks = refl };
      }

  pub split_known : (first : I) (v l r : Hand (Message I T)) → IsKnown steps first v → l ≡ hand true false v.sent [] → r ≡ hand false true [] v.taken
      → (l.sends ≡ true) × IsSent steps l.sent first × (r.takes ≡ true) × AreTaken first r.taken []
  split_known first v l r known left right = (
    ap (λ (u : Hand (Message I T)). u.sends) left,
    subst (λ (s : List (Message I T)). IsSent steps s first) (sym (ap (λ (u : Hand (Message I T)). u.sent) left)) known.sent,
    ap (λ (u : Hand (Message I T)). u.takes) right,
    subst (λ (s : List (Message I T)). AreTaken first s []) (sym (ap (λ (u : Hand (Message I T)). u.taken) right)) known.taken,
  )

  -- ---- what came from an iterator

  pub came_none : (first at : I) → at ≡ first → Came steps first (Here at) []
  came_none first at same = record { of = sym same; drawn = (first, refl) }

  pub came_begun : (first : I) (worker : Worker I T) → AreTaken first (taken_of worker) [] → Came steps first (Elsewhere worker) []
  came_begun first worker taken = record { of = taken; drawn = (first, refl) }

  -- what came by a worker
  pub came_by : (first : I) (worker : Worker I T) (items : List T) → CameBy steps first worker items → Came steps first (Elsewhere worker) items
  came_by first worker items came = record { of = came.taken; drawn = came.drawn }

  -- what came from a worker
  pub came_taken : (first : I) (source : Source I T) (worker : Worker I T) (items : List T) → source ≡ Elsewhere worker → Came steps first source items → AreTaken first (taken_of worker) items
  came_taken first source worker items is came = subst (λ (s : Source I T). CameOf steps first s items) is came.of

  -- one more item of the iterator that is here
  came_here-none : (first at next : I) (source : Source I T) (items : List T) (x : T) → source ≡ Here at → steps at (Some x) next → Came steps first source (items ++ [])
      → Came steps first (Here next) ((items ++ x ∷ []) ++ [])
  came_here-none first at next source items x is step came =
      let yields : Yields steps first (items ++ []) at = subst (λ (s : Source I T). CameOf steps first s (items ++ [])) is came.of in
      let further : Yields steps first ((items ++ []) ++ x ∷ []) next = Yields-append steps first at next (items ++ []) (x ∷ []) yields (next, step, refl) in
      let all : Yields steps first ((items ++ x ∷ []) ++ []) next = subst (λ (l : List T). Yields steps first l next)
      (ap (λ (l : List T). l ++ x ∷ []) (append-nil items) ∙ sym (append-nil (items ++ x ∷ []))) further in
      record { of = all; drawn = (next, all) }

  pub came_here : (first at next : I) (source : Source I T) (items at_hand : List T) (x : T) → at_hand ≡ [] → source ≡ Here at → steps at (Some x) next
      → Came steps first source (items ++ at_hand) → Came steps first (Here next) ((items ++ x ∷ []) ++ at_hand)
  came_here first at next source items at_hand x used is step came = subst (λ (l : List T). Came steps first (Here next) ((items ++ x ∷ []) ++ l)) (sym used)
      (came_here-none first at next source items x is step (subst (λ (l : List T). Came steps first source (items ++ l)) used came))

  -- the end of the iterator that is here
  pub came_all_here : (first at next : I) (source : Source I T) (items at_hand : List T) (answer : Option T) → ((x : T) → answer ≡ Some x → ⊥) → at_hand ≡ []
      → source ≡ Here at → steps at answer next → Came steps first source (items ++ at_hand) → Drains steps first items
  came_all_here first at next source items at_hand None not used is step came =
      let yields : Yields steps first (items ++ at_hand) at = subst (λ (s : Source I T). CameOf steps first s (items ++ at_hand)) is came.of in
      (next, (at, subst (λ (l : List T). Yields steps first l at) (ap (λ (l : List T). items ++ l) used ∙ append-nil items) yields, step))
  came_all_here first at next source items at_hand (Some x) not used is step came = absurd (not x refl)

  -- an iterator that has ended
  pub came_all : (first : I) (source : Source I T) (items : List T) → source ≡ Ended → Came steps first source (items ++ []) → Drains steps first items
  came_all first source items is came = subst (Drains steps first) (append-nil items) (subst (λ (s : Source I T). CameOf steps first s (items ++ [])) is came.of)

  -- ---- what was given

  -- the next of the items left of a chunk
  pub given_next : (first : I) (source : Source I T) (before after items : List T) (x : T) → before ≡ x ∷ after → Came steps first source (items ++ before)
      → Came steps first source ((items ++ x ∷ []) ++ after)
  given_next first source before after items x gives was = subst (λ (l : List T). Came steps first source l)
      (ap (λ (l : List T). items ++ l) gives ∙ sym (append_assoc items (x ∷ []) after)) was

  -- a new chunk when nothing was left
  pub given_chunk : (first : I) (source : Source I T) (before after items chunk : List T) → before ≡ [] → after ≡ chunk
      → Came steps first source ((items ++ before) ++ chunk) → Came steps first source (items ++ after)
  given_chunk first source before after items chunk used more came = subst (λ (l : List T). Came steps first source l)
      (ap (λ (l : List T). (items ++ l) ++ chunk) used ∙ ap (λ (l : List T). l ++ chunk) (append-nil items) ∙ ap (λ (l : List T). items ++ l) (sym more)) came

  -- one more item of an iterator that is asked on demand
  drawn_here : {H : Type 0} (can : I → Type 0) (at next : I) (x : T) → steps at (Some x) next → can next
      → DrawsIf {H = H} can steps (OnDemand at) (Some (Ok x)) (OnDemand next)
  drawn_here can at next x is_step may = record {
    ready = may;
    given = λ first items was. Yields-append steps first at next items (x ∷ []) was (next, is_step, refl);
    over = λ last. let no : false ≡ true = last in absurd cc;
    stays = λ over. absurd over;
    want = λ want. let no : false ≡ true = want in absurd cc;
    choice = refl;
  }

  pub drawn_on_demand : {H : Type 0} (can : I → Type 0) (at next : I) (eager : EagerIterIf I H T) (x : T) → eager ≡ OnDemand at → steps at (Some x) next → can next
      → DrawsIf can steps eager (Some (Ok x)) (OnDemand next)
  drawn_on_demand {H = H} can at next eager x is is_step may =
      subst (λ (e : EagerIterIf I H T). DrawsIf can steps e (Some (Ok x)) (OnDemand next)) (sym is) (drawn_here can at next x is_step may)

-- what holds of each that was sent holds of the first that is taken
pub first_taken : {X : Type 0} (P : X → Type 0) (taken : List X) (x : X) → taken ≡ [] → Begins (λ xs. All P xs) (taken ++ x ∷ []) → P x
first_taken P taken x none begins =
    let all : All P (x ∷ begins.0) = subst (λ l. All P ((l ++ x ∷ []) ++ begins.0)) none begins.1 in
    all 0 x (omega arith)
