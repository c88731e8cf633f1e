-- All calls that were made: one more, and those of finds.
use Rattle.std.specs.Prelude.{◌≡◌, ◌⊎◌, ℕ, List, [], ◌∷◌, ◌++◌, Option, Result, Ok, Err, refl}
use Rattle.std.specs.Result.{IsErrAnd}
use Rattle.std.proofs.Common.{inl, inr, sym, ap, subst}
use Rattle.odb_base.specs.Path.{Path}
use Rattle.odb_disk.specs.declared.ask.DiskAsk.{DiskAsk}
use Rattle.odb_disk.specs.declared.ask.DiskAsk.TheVariants as asks
use Rattle.odb_disk.specs.declared.ask.DiskAnswer.{DiskAnswer}
use Rattle.gix_object.specs.Data.{Object}
use Rattle.gix_object.specs.declared.kind.Kind.{Kind}
use Rattle.gix_odb_loose.specs.Answers.{put_in}
use Rattle.gix_odb_loose.specs.Asked.{AreAllCalls, AsksOnce, object_result}
use Rattle.gix_odb_loose.specs.Exchanges.{Exchange, exchanged}
use Rattle.gix_odb_loose.specs.LooseOrder.Answered.{found_by}
use Rattle.gix_odb_loose.specs.Store.{store_limit}
use Rattle.gix_odb_loose.specs.declared.find.Error.{Error}
use Rattle.gix_odb_loose.specs.declared.find.Error.TheVariants.{NoMemory}
use Rattle.gix_odb_loose.specs.declared.store.Store.{Store}

module _ {D : Type 0} (answered : D → DiskAsk → DiskAnswer → D → Type 0) where
  pub AreAllCalls-push : (past : List Exchange) (first now next : D) (ask : DiskAsk) (answer : DiskAnswer) → AreAllCalls answered past first now → answered now ask answer next
      → AreAllCalls answered (past ++ exchanged ask answer ∷ []) first next
  AreAllCalls-push [] first now next ask answer none made = (next, subst (λ (d : D). answered d ask answer next) (sym none) made, refl)
  AreAllCalls-push (x ∷ past) first now next ask answer all made = (all.0, all.1, AreAllCalls-push past all.0 now next ask answer all.2 made)

  -- ---- a call that asks once

  module _ {A : Type 0} (before after : D) (result : Result A Error) where
    -- memory ran out before the ask
    pub unasked : (ask : DiskAsk) (given_by : DiskAnswer → Result A Error) → after ≡ before → result ≡ Err NoMemory → AsksOnce answered ask before after given_by result
    unasked ask given_by same none = inl (sym same, none)

    -- a path was asked for, the object's; its answer is the result, or memory ran out for that
    pub asked_at : (ask_at : Path → DiskAsk) (given_at : Path → DiskAnswer → Result A Error) (at to : Path) → at ≡ to → (answer : DiskAnswer) → answered before (ask_at at) answer after
        → (result ≡ given_at at answer) ⊎ (result ≡ Err NoMemory) → AsksOnce answered (ask_at to) before after (given_at to) result
    asked_at ask_at given_at at to same answer made is = subst (λ (p : Path). AsksOnce answered (ask_at p) before after (given_at p) result) same (inr (answer, (after, made, refl), is))

-- a call that was refused because memory ran out
pub want_of_memory : {A : Type 0} (result : Result A Error) → IsErrAnd result (λ e. e ≡ NoMemory) → result ≡ Err NoMemory
want_of_memory (Ok x) h = absurd h
want_of_memory (Err error) h = ap (λ (e : Error). Err e) h

-- ---- a find

abbrev pub found_at : Store → Path → DiskAnswer → Result (Option Object) Error
found_at store path answer = object_result (found_by path (store_limit store) answer)

pub put_none : (result : Result (Option Kind) Error) (bytes : List ℕ) → result ≡ Err NoMemory → put_in result bytes ≡ Err NoMemory
put_none result bytes is = ap (λ (r : Result (Option Kind) Error). put_in r bytes) is

pub find_asked : {D : Type 0} (answered : D → DiskAsk → DiskAnswer → D → Type 0) (store : Store) (before after : D) (at to : Path) → at ≡ to → (answer : DiskAnswer)
    → answered before (asks.Read at) answer after → (result : Result (Option (Kind × List ℕ)) Error) → result ≡ found_by at (store_limit store) answer
    → AsksOnce answered (asks.Read to) before after (found_at store to) (object_result result)
find_asked answered store before after at to same answer made result is =
    asked_at answered before after (object_result result) asks.Read (found_at store) at to same answer made (inl (ap object_result is))
