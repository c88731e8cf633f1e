-- Laws of options.
use Rattle.std.proofs.Common.{◌≡◌, ℕ, ◌==◌, List, Bor, Option, Some, None, is_some, sym, lit<, arith}
use Rattle.std.specs.List.{position_or_len}
use Rattle.std.proofs.lemmas.List.Folds.{list_any_none, list_any_at}
use Rattle.std.proofs.lemmas.List.Sums.{fails_before_first, passes_at_first}
use Rattle.std.proofs.lemmas.Str.Pattern.{IsSplitOnceResult, split_once_first}
use Rattle.odb_script.specs.Opening.{has_value}

-- an option has a value if `split_once` finds `=`
pub has_value-split : (option : List ℕ) (parts : Option (Bor (List ℕ) × Bor (List ℕ))) → IsSplitOnceResult 61 option parts → is_some parts ≡ has_value option
has_value-split option None h =
    let all = split_once_first 61 option None h (lit< tt) in
    sym (list_any_none (λ b. b == 61) option (λ k d lt. fails_before_first (λ b. b == 61) option k d (omega arith)))
has_value-split option (Some parts) h =
    let found = split_once_first 61 option (Some parts) h (lit< tt) in
    sym (list_any_at (λ b. b == 61) option (position_or_len (λ b. b == 61) option) 0 found.0 (passes_at_first (λ b. b == 61) option 0 found.0))
