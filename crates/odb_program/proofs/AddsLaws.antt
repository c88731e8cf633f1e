-- Laws of what a sink gets piece by piece.
use Rattle.std.proofs.Common.{ℕ, ◌+◌, List, [], ◌++◌, length, take, Option, Some, None, refl, sym, ap, subst, ◌∙◌, append_assoc, append-nil}
use Rattle.std.proofs.Math.Seq.{take-append-add}
use Rattle.odb_mem_disk.specs.Source.{Adds}

pub adds_nothing : (held : Option (List ℕ)) → Adds held held []
adds_nothing None = refl
adds_nothing (Some held) = ap Some (sym (append-nil held))

pub adds_both : (before now next : Option (List ℕ)) (front rest : List ℕ) → Adds before now front → Adds now next rest → Adds before next (front ++ rest)
adds_both None now next front rest first second = subst (λ x. Adds x next rest) first second
adds_both (Some held) now next front rest first second =
    subst (λ x. Adds x next rest) first second ∙ ap Some (append_assoc held front rest)

-- a prefix of what follows makes a prefix of all
pub adds_front : (before now next : Option (List ℕ)) (front rest : List ℕ) → Adds before now front → ((count : ℕ) × Adds now next (take count rest))
    → (count : ℕ) × Adds before next (take count (front ++ rest))
adds_front before now next front rest first second =
    (length front + second.0, subst (Adds before next) (sym (take-append-add front rest second.0)) (adds_both before now next front (take second.0 rest) first second.1))
