-- What always holds of a stack, also after one directory is put on it, taken off, or gets other contents.
use Rattle.std.proofs.Common.{◌≡◌, ℕ, ◌+◌, ◌<◌, ◌≤◌, min, List, [], ◌∷◌, ◌++◌, length, reverse, take, Option, Some, None, IfSome, sym, ap, subst, ◌∙◌, arith, length-append}
use Rattle.std.specs.Prelude.{Bool, true, false, if◌then◌else◌}
use lib.ListN.{length-reverse}
use lib.Seq.{take-append-le}
use Rattle.odb_base.specs.Path.{Path}
use Rattle.walkdir.specs.Directory.{AreAt, held, stream_in}
use Rattle.walkdir.specs.Sound.{FitsAt, Fits, IsNested, IsSound}
use Rattle.walkdir.specs.Stack.{own_streams}
use Rattle.walkdir.specs.Turns.AtIndex.{Puts}
use Rattle.walkdir.specs.declared.builder.Options.{Options}
use Rattle.walkdir.specs.declared.directory.DirList.{DirList}
use Rattle.walkdir.specs.declared.directory.Items.{Items}
use Rattle.walkdir.proofs.StackLemmas.{closed_less, closed_put, reversed_at, reversed_last}

-- ---- depths

pub fits_at : (options : Options) (inner : List DirList) (list : DirList) (outer : List DirList) → Fits options (inner ++ list ∷ outer)
    → FitsAt options (length outer) list
unfolding Fits
fits_at options [] list outer fits = fits.0
fits_at options (first ∷ inner) list outer fits = fits_at options inner list outer fits.2

nested_put : (first : DirList) (inner : List DirList) (list : DirList) (items : Items) (outer : List DirList) → IsNested first (inner ++ list ∷ outer)
    → IsNested first (inner ++ (record list { items = items }) ∷ outer)
nested_put first [] list items outer nested = nested
nested_put first (next ∷ inner) list items outer nested = nested

pub fits_put : (options : Options) (inner : List DirList) (list : DirList) (items : Items) (outer : List DirList) → FitsAt options (length outer)
    (record list { items = items })
    → Fits options (inner ++ list ∷ outer) → Fits options (inner ++ (record list { items = items }) ∷ outer)
unfolding Fits
fits_put options [] list items outer at fits = (at, fits.1, fits.2)
fits_put options (first ∷ inner) list items outer at fits = (
  subst (λ depth. FitsAt options depth first) (length-append inner (list ∷ outer)
      ∙ sym (length-append inner ((record list { items = items }) ∷ outer))) fits.0,
  nested_put first inner list items outer fits.1,
  fits_put options inner list items outer at fits.2,
)

-- ---- what always holds

not_empty : (outer : List DirList) (list : DirList) (inner : List DirList) → outer ++ list ∷ inner ≡ [] → ⊥
not_empty [] list inner is = cc
not_empty (first ∷ outer) list inner is = cc

begun_put : (start : Option Path) (old new : List DirList) (outer : List DirList) (list : DirList) (inner : List DirList)
    → old ≡ outer ++ list ∷ inner
    → IfSome start (λ _. old ≡ []) → IfSome start (λ _. new ≡ [])
begun_put None old new outer list inner was begun = tt
begun_put (Some root) old new outer list inner was begun = absurd (not_empty outer list inner (sym was ∙ begun))

pub sound_put : (options : Options) (start : Option Path) (old new : List DirList) (first_open index : ℕ) (items : Items)
    → IsSound options start old first_open
    → (puts : Puts old new index items) → stream_in items ≡ None → AreAt puts.list.path (index + 1) (held items)
    → (options.max_depth ≤ index → held items ≡ [])
    → IsSound options start new first_open
sound_put options start old new first_open index items sound puts none children deepest =
    let other : DirList = record puts.list { items = items } in
    let same : length new ≡ length old =
    ap length puts.is ∙ length-append puts.outer (other ∷ puts.inner) ∙ sym (length-append puts.outer (puts.list ∷ puts.inner))
    ∙ sym (ap length puts.was) in
    let depth : length (reverse puts.outer) ≡ index = length-reverse puts.outer ∙ puts.at in
    let fits : Fits options (reverse puts.inner ++ puts.list ∷ reverse puts.outer) =
    subst (Fits options) (ap reverse puts.was ∙ reversed_at puts.outer puts.list puts.inner) sound.fits in
    let was_at : FitsAt options (length (reverse puts.outer)) puts.list = fits_at options (reverse puts.inner) puts.list (reverse puts.outer) fits in
    let at : FitsAt options (length (reverse puts.outer)) other =
    record {
      after = was_at.after;
      children = subst (λ n. AreAt puts.list.path (n + 1) (held items)) (sym depth) children;
      deepest = λ deep. record { no_stream = none; nothing = deepest (subst (λ n. options.max_depth ≤ n) depth deep) };
    } in
    record {
      begun = begun_put start old new puts.outer puts.list puts.inner puts.was sound.begun;
      some_open = sound.some_open;
      in_range = subst (λ n. first_open ≤ n) (sym same) sound.in_range;
      few = subst (λ n. n ≤ first_open + options.max_open) (sym same) sound.few;
      closed = ap (λ l. own_streams (take first_open l)) puts.is ∙ closed_put first_open puts.outer puts.list puts.inner items none
          (ap (λ l. own_streams (take first_open l)) (sym puts.was) ∙ sound.closed);
      fits = subst (Fits options) (sym (ap reverse puts.is ∙ reversed_at puts.outer other puts.inner))
          (fits_put options (reverse puts.inner) puts.list items (reverse puts.outer) at fits);
    }

begun_pop : (start : Option Path) (old new : List DirList) (list : DirList) → old ≡ new ++ list ∷ [] → IfSome start (λ _. old ≡ [])
    → IfSome start (λ _. new ≡ [])
begun_pop None old new list was begun = tt
begun_pop (Some root) old new list was begun = absurd (not_empty new list [] (sym was ∙ begun))

pub sound_pop : (options : Options) (start : Option Path) (old new : List DirList) (list : DirList) (first_open first : ℕ)
    → IsSound options start old first_open
    → old ≡ new ++ list ∷ [] → first ≡ min first_open (length new) → IsSound options start new first
unfolding Fits
sound_pop options start old new list first_open first sound was is =
    let long : length old ≡ length new + 1 = ap length was ∙ length-append new (list ∷ []) in
    let few : length old ≤ first_open + options.max_open = sound.few in
    let some : 1 ≤ options.max_open = sound.some_open in
    let fits : Fits options (list ∷ reverse new) = subst (Fits options) (ap reverse was ∙ reversed_last new list) sound.fits in
    record {
      begun = begun_pop start old new list was sound.begun;
      some_open = some;
      in_range = omega arith;
      few = omega arith;
      closed = closed_less first_open first new (list ∷ []) (omega arith) (omega arith) (ap (λ l. own_streams (take first_open l)) (sym was)
          ∙ sound.closed);
      fits = fits.2;
    }

pub sound_push : (options : Options) (start : Option Path) (old new : List DirList) (list : DirList) (first_open : ℕ)
    → IsSound options start old first_open
    → start ≡ None → new ≡ old ++ list ∷ [] → length old < first_open + options.max_open → FitsAt options (length old) list
    → IsNested list (reverse old)
    → IsSound options start new first_open
unfolding Fits
sound_push options start old new list first_open sound none is room at nested =
    let long : length new ≡ length old + 1 = ap length is ∙ length-append old (list ∷ []) in
    let in_range : first_open ≤ length old = sound.in_range in
    record {
      begun = subst (λ s. IfSome s (λ _. new ≡ [])) (sym none) tt;
      some_open = sound.some_open;
      in_range = omega arith;
      few = omega arith;
      closed = ap (λ l. own_streams (take first_open l)) is ∙ ap own_streams (take-append-le first_open old (list ∷ []) in_range) ∙ sound.closed;
      fits = subst (Fits options) (sym (ap reverse is ∙ reversed_last old list))
          (subst (λ depth. FitsAt options depth list) (sym (length-reverse old)) at, nested, sound.fits);
    }

pub sound_closed : (options : Options) (start : Option Path) (lists : List DirList) (first_open next : ℕ) → IsSound options start lists first_open
    → next ≡ first_open + 1
    → first_open < length lists → own_streams (take next lists) ≡ [] → IsSound options start lists next
sound_closed options start lists first_open next sound is within closed =
    let few : length lists ≤ first_open + options.max_open = sound.few in
    record { begun = sound.begun; some_open = sound.some_open; in_range = omega arith; few = omega arith; closed = closed; fits = sound.fits }

-- ---- a directory is put on the stack, or memory ran out

pub sound_pushed : (options : Options) (start : Option Path) (old new : List DirList) (list : DirList) (first_open : ℕ) (b : Bool)
    → new ≡ (if b then old ++ list ∷ [] else old)
    → IsSound options start old first_open → start ≡ None → length old < first_open + options.max_open → FitsAt options (length old) list
    → IsNested list (reverse old)
    → IsSound options start new first_open
sound_pushed options start old new list first_open true is sound none room fit nested =
    sound_push options start old new list first_open sound none is room fit nested
sound_pushed options start old new list first_open false is sound none room fit nested =
    subst (λ l. IsSound options start l first_open) (sym is) sound
