-- Lists in blocks: the item at a place, another item in its place, and blocks that are filled one after another.
use Rattle.std.proofs.Common.{◌≡◌, ◌∙◌, ap, arith, refl, sym, ℕ, zero, suc, ◌+◌, ◌-◌, ◌*◌, ◌/◌, ◌%◌, ◌<◌, ◌≤◌, Option, Some, None, List, [], ◌∷◌, ◌++◌, length, set, append-nil, append_assoc, length-append, length-set, Result, Ok, Err, IfOk}
use Rattle.std.specs.List.{All, slice_get}
use Rattle.std.proofs.Math.Nat.{mul-le-mul_right}
use Rattle.std.proofs.lemmas.List.{set-append_left, set-append_right}
use Rattle.std.proofs.lemmas.List.Concat.{flat_map-append}
use Rattle.std.proofs.lemmas.List.Elements.{All-tail}
use Rattle.std.proofs.lemmas.Nat.{div-add-mod', mod_below}
use Rattle.std.proofs.lemmas.Option.{same_Some}
use Rattle.odb_base.specs.Blocks.{AreFilled, IsFilled, joined}

-- ---- items of two lists, one after the other

slice_get-append_left : {X : Type 0} (xs ys : List X) (i : ℕ) → i < length xs → slice_get (xs ++ ys) i ≡ slice_get xs i
slice_get-append_left [] ys i below = absurd (omega arith)
slice_get-append_left (x ∷ xs) ys zero below = refl
slice_get-append_left (x ∷ xs) ys (suc i) below = slice_get-append_left xs ys i (omega arith)

slice_get-append_right : {X : Type 0} (xs ys : List X) (n i : ℕ) → n ≡ length xs + i → slice_get (xs ++ ys) n ≡ slice_get ys i
slice_get-append_right [] ys n i e = ap (slice_get ys) (let same : n ≡ i = omega arith in same)
slice_get-append_right (x ∷ xs) ys zero i e = absurd (omega arith)
slice_get-append_right (x ∷ xs) ys (suc n) i e = slice_get-append_right xs ys n i (omega arith)

length_at_none : {X : Type 0} (xs : List X) (i : ℕ) → slice_get xs i ≡ None → length xs ≤ i
length_at_none [] i none = omega arith
length_at_none (x ∷ xs) zero none = cc
length_at_none (x ∷ xs) (suc i) none = omega (arith, length_at_none xs i none)

-- ---- a place as a number of whole blocks and of items after them

get_joined_at : {X : Type 0} (w : ℕ) (bs : List (List X)) (q r n : ℕ) (b : List X) → AreFilled w bs → n ≡ q * w + r → r < w → slice_get bs q ≡ Some b → slice_get (joined bs) n ≡ slice_get b r
get_joined_at w [] q r n b filled e below at = cc
get_joined_at w (c ∷ []) zero r n b filled e below at =
    let here : n ≡ r = omega arith in
    ap (slice_get (c ++ [])) here ∙ ap (λ items. slice_get items r) (append-nil c ∙ same_Some c b at)
get_joined_at w (c ∷ []) (suc q) r n b filled e below at = cc
get_joined_at w (c ∷ d ∷ bs) zero r n b filled e below at =
    let here : n ≡ r = omega arith in
    ap (slice_get (joined (c ∷ d ∷ bs))) here
    ∙ slice_get-append_left c (joined (d ∷ bs)) r (omega arith)
    ∙ ap (λ items. slice_get items r) (same_Some c b at)
get_joined_at w (c ∷ d ∷ bs) (suc q) r n b filled e below at =
    slice_get-append_right c (joined (d ∷ bs)) n (q * w + r) (omega arith)
    ∙ get_joined_at w (d ∷ bs) q r (q * w + r) b filled.1 refl below at

set_joined_at : {X : Type 0} (w : ℕ) (bs : List (List X)) (q r n : ℕ) (b : List X) (x : X) → AreFilled w bs → n ≡ q * w + r → r < w → slice_get bs q ≡ Some b → set (joined bs) n x ≡ joined (set bs q (set b r x))
set_joined_at w [] q r n b x filled e below at = refl
set_joined_at w (c ∷ []) zero r n b x filled e below at =
    let here : n ≡ r = omega arith in
    ap (λ k. set (c ++ []) k x) here ∙ ap (λ items. set items r x) (append-nil c ∙ same_Some c b at) ∙ sym (append-nil (set b r x))
set_joined_at w (c ∷ []) (suc q) r n b x filled e below at = cc
set_joined_at w (c ∷ d ∷ bs) zero r n b x filled e below at =
    let here : n ≡ r = omega arith in
    ap (λ k. set (joined (c ∷ d ∷ bs)) k x) here
    ∙ set-append_left c (joined (d ∷ bs)) r x (omega arith)
    ∙ ap (λ items. set items r x ++ joined (d ∷ bs)) (same_Some c b at)
set_joined_at w (c ∷ d ∷ bs) (suc q) r n b x filled e below at =
    set-append_right c (joined (d ∷ bs)) w n x filled.0 (omega arith)
    ∙ ap (λ items. c ++ items) (set_joined_at w (d ∷ bs) q r (n - w) b x filled.1 (omega arith) below at)

AreFilled-set : {X : Type 0} (w : ℕ) (bs : List (List X)) (q : ℕ) (b c : List X) → AreFilled w bs → slice_get bs q ≡ Some b → length c ≡ length b → AreFilled w (set bs q c)
AreFilled-set w [] q b c filled at same = filled
AreFilled-set w (d ∷ []) zero b c filled at same = omega (arith, ap length (same_Some d b at))
AreFilled-set w (d ∷ []) (suc q) b c filled at same = filled
AreFilled-set w (d ∷ e ∷ bs) zero b c filled at same = (same ∙ ap length (sym (same_Some d b at)) ∙ filled.0, filled.1)
AreFilled-set w (d ∷ e ∷ bs) (suc zero) b c filled at same = (filled.0, AreFilled-set w (e ∷ bs) zero b c filled.1 at same)
AreFilled-set w (d ∷ e ∷ bs) (suc (suc q)) b c filled at same = (filled.0, AreFilled-set w (e ∷ bs) (suc q) b c filled.1 at same)

length_joined_le : {X : Type 0} (w : ℕ) (bs : List (List X)) → AreFilled w bs → length (joined bs) ≤ length bs * w
length_joined_le w [] filled = omega arith
length_joined_le w (c ∷ []) filled = omega (arith, ap length (append-nil c))
length_joined_le w (c ∷ d ∷ bs) filled = omega (arith, length-append c (joined (d ∷ bs)), length_joined_le w (d ∷ bs) filled.1)

-- ---- the item at a place, and another item there

module _ {X : Type 0} (w : ℕ) (bs : List (List X)) (i : ℕ) (filled : AreFilled w bs) (wide : 0 < w) where
  -- an item is in its block
  pub get_joined : {b : List X} → slice_get bs (i / w) ≡ Some b → slice_get (joined bs) i ≡ slice_get b (i % w)
  get_joined {b} at = get_joined_at w bs (i / w) (i % w) i b filled (sym (div-add-mod' i w)) (mod_below i w wide) at

  -- if there is no block, there is no item
  pub joined_past : slice_get bs (i / w) ≡ None → length (joined bs) ≤ i
  joined_past none =
      omega (arith, length_joined_le w bs filled, mul-le-mul_right w (length_at_none bs (i / w) none), div-add-mod' i w)

  -- another item in its block is another item of the list
  pub set_joined : {b c : List X} {cs : List (List X)} (x : X) → slice_get bs (i / w) ≡ Some b → c ≡ set b (i % w) x → cs ≡ set bs (i / w) c → AreFilled w cs × (joined cs ≡ set (joined bs) i x)
  set_joined {b} {c} {cs} x at block blocks =
      let all : cs ≡ set bs (i / w) (set b (i % w) x) = blocks ∙ ap (set bs (i / w)) block in (
        rw all (AreFilled-set w bs (i / w) b (set b (i % w) x) filled at (length-set b (i % w) x)),
        ap joined all ∙ sym (set_joined_at w bs (i / w) (i % w) i b x filled (sym (div-add-mod' i w)) (mod_below i w wide) at),
      )

-- ---- groups of blocks

-- another item in its block, and this block in its group
pub set_in_groups : {X : Type 0} (w : ℕ) (gs hs : List (List (List X))) (i : ℕ) (x : X) {b c : List X} → IsFilled w gs → 0 < w → slice_get (joined gs) (i / w) ≡ Some b → c ≡ set b (i % w) x → AreFilled w hs → joined hs ≡ set (joined gs) (i / w) c → IsFilled w hs × (joined (joined hs) ≡ set (joined (joined gs)) i x)
set_in_groups w gs hs i x filled wide at block full blocks =
    let changed = set_joined w (joined gs) i filled.1 wide x at block blocks in
    ((full, changed.0), changed.1)

-- two clauses on one result
pub IfOk-both : {X E : Type 0} (r : Result X E) (P Q : X → Type 0) → IfOk r P → IfOk r Q → IfOk r (λ x. P x × Q x)
IfOk-both (Ok x) P Q p q = (p, q)
IfOk-both (Err e) P Q p q = tt

pub joined-after : {X : Type 0} (bs : List (List X)) (b : List X) (cs : List (List X)) → joined bs ++ b ++ joined cs ≡ joined (bs ++ b ∷ cs)
joined-after bs b cs = append_assoc (joined bs) b (joined cs) ∙ sym (flat_map-append (λ block. block) bs (b ∷ cs))

-- ---- blocks that are filled one after another

pub AreFilled-push : {X : Type 0} (w : ℕ) (bs : List (List X)) (last : List X) → All (λ block. length block ≡ w) bs → length last ≤ w → AreFilled w (bs ++ last ∷ [])
AreFilled-push w [] last full most = most
AreFilled-push w (c ∷ []) last full most = (full 0 c (omega arith), most)
AreFilled-push w (c ∷ d ∷ bs) last full most =
    (full 0 c (omega arith), AreFilled-push w (d ∷ bs) last (All-tail (λ block. length block ≡ w) c (d ∷ bs) full) most)

pub joined-push : {X : Type 0} (bs : List (List X)) (last : List X) → joined (bs ++ last ∷ []) ≡ joined bs ++ last
joined-push bs last = flat_map-append (λ block. block) bs (last ∷ []) ∙ ap (λ items. joined bs ++ items) (append-nil last)
