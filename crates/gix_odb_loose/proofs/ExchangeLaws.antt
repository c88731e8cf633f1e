-- One exchange more.
use Rattle.std.specs.Prelude.{◌≡◌, List, [], ◌∷◌, ◌++◌, Option, refl}
use Rattle.odb_disk.specs.Ask.{state_told_after}
use Rattle.odb_disk.specs.Tree.{State}
use Rattle.gix_odb_loose.specs.Exchanges.{Exchange, left_by, IsGiven, AreGiven}

pub left_by-push : (state : Option State) (xs : List Exchange) (x : Exchange) → left_by state (xs ++ x ∷ []) ≡ state_told_after (left_by state xs) x.ask x.answer
unfolding left_by
left_by-push state [] x = refl
left_by-push state (y ∷ ys) x = left_by-push (state_told_after state y.ask y.answer) ys x

pub AreGiven-push : (state : Option State) (xs : List Exchange) (x : Exchange) → AreGiven state xs → IsGiven (left_by state xs) x → AreGiven state (xs ++ x ∷ [])
unfolding AreGiven left_by
AreGiven-push state [] x given last = (last, tt)
AreGiven-push state (y ∷ ys) x given last = (given.0, AreGiven-push (state_told_after state y.ask y.answer) ys x given.1 last)

-- ---- more exchanges

pub left_by-append : (state : Option State) (xs ys : List Exchange) → left_by state (xs ++ ys) ≡ left_by (left_by state xs) ys
unfolding left_by
left_by-append state [] ys = refl
left_by-append state (x ∷ xs) ys = left_by-append (state_told_after state x.ask x.answer) xs ys

pub AreGiven-append : (state : Option State) (xs ys : List Exchange) → AreGiven state (xs ++ ys) → AreGiven state xs × AreGiven (left_by state xs) ys
unfolding AreGiven left_by
AreGiven-append state [] ys given = (tt, given)
AreGiven-append state (x ∷ xs) ys given = let rest = AreGiven-append (state_told_after state x.ask x.answer) xs ys given.1 in ((given.0, rest.0), rest.1)
