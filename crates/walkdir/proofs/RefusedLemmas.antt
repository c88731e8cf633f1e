-- Which directory is innermost after a call of a walk was refused.
use Rattle.std.proofs.Common.{◌≡◌, ℕ, ◌+◌, inl, inr, true, List, [], ◌∷◌, length, Option, Some, None, Result, Ok, Err, sym, arith}
use Rattle.std.specs.Prelude.{IfErr, IfSome}
use Rattle.odb_base.specs.Path.{Path}
use Rattle.odb_disk.specs.declared.ask.DiskAsk.{DiskAsk}
use Rattle.odb_disk.specs.declared.ask.DiskAnswer.{DiskAnswer}
use Rattle.walkdir.specs.Answered.{IsHeldIn, IsRefusedAt, IsRefusedIn}
use Rattle.walkdir.specs.AnsweredTurns.{IsItemHeld, IsSeenIn}
use Rattle.walkdir.specs.Error.{IsOfEntry, IsOfEntryIn, is_no_memory, is_no_memory_inner}
use Rattle.walkdir.specs.Innermost.{IsBeside, IsFromHead}
use Rattle.walkdir.specs.Directory.{IsOfDirectory}
use Rattle.walkdir.specs.Turns.{handed}
use Rattle.walkdir.specs.Walk.{Item}
use Rattle.walkdir.specs.Within.{LiesIn}
use Rattle.walkdir.specs.declared.dent.DirEntry.{DirEntry}
use Rattle.walkdir.specs.declared.error.Error.{Error}
use Rattle.walkdir.specs.declared.error.ErrorInner.{ErrorInner}
use Rattle.walkdir.specs.declared.error.ErrorInner.TheVariants.{Io, Loop, NoMemory}
use Rattle.walkdir.specs.declared.directory.DirList.{DirList}
use Rattle.walkdir.proofs.InnermostLemmas.{beside_as}

module _ {D : Type 0} (answered : D → DiskAsk → DiskAnswer → D → Type 0) where
  -- the stack after memory ran out
  pub lost_at : (first now : D) (own : ℕ) (inner : ErrorInner) (stack : List DirList) → is_no_memory_inner inner ≡ true
      → IsRefusedIn answered first now own inner stack
  lost_at first now own (Io path error) stack is = absurd cc
  lost_at first now own (Loop ancestor child) stack is = absurd cc
  lost_at first now own NoMemory stack is = tt

  pub given_at : (first now : D) (given : Option DirEntry) (stack : List DirList) → IsRefusedAt answered first now (handed (Ok given)) stack
  given_at first now None stack = tt
  given_at first now (Some entry) stack = tt

  pub lost_item_at : (first now : D) (result : Result (Option DirEntry) Error) (stack : List DirList) → IfErr result (λ e. is_no_memory e ≡ true)
      → IsRefusedAt answered first now (handed result) stack
  lost_item_at first now (Ok given) stack lost = given_at first now given stack
  lost_item_at first now (Err error) stack lost = lost_at first now error.depth error.inner stack lost

  -- what is drawn comes from the innermost directory
  head_at : (first now : D) (own : ℕ) (inner : ErrorInner) (list : DirList) (outer : List DirList)
      → IsOfDirectory list.path (length outer + 1) own inner → IsHeldIn answered first now inner
      → IsRefusedIn answered first now own inner (list ∷ outer)
  head_at first now own (Io (Some at) error) list outer is held = let deep : own ≡ length outer = omega arith in inr (held, (deep, sym is.0))
  head_at first now own (Io None error) list outer is held = tt
  head_at first now own (Loop ancestor child) list outer is held = tt
  head_at first now own NoMemory list outer is held = tt

  pub drawn_at : (first now : D) (item : Option Item) (stack : List DirList) → IfSome item (λ i. IsFromHead stack i)
      → IsItemHeld answered first now item → IsRefusedAt answered first now item stack
  drawn_at first now None stack from held = tt
  drawn_at first now (Some (Ok entry)) stack from held = tt
  drawn_at first now (Some (Err error)) [] from held = absurd from
  drawn_at first now (Some (Err error)) (list ∷ outer) from held = head_at first now error.depth error.inner list outer from.1 held

  -- a path that can't be statted is in the innermost directory
  beside_at : (first now : D) (path : Path) (depth own : ℕ) (inner : ErrorInner) (stack : List DirList) → IsOfEntryIn path depth own inner
      → IsBeside path depth stack
      → IsSeenIn answered first now inner → IsRefusedIn answered first now own inner stack
  beside_at first now path depth own (Io (Some at) error) stack is beside seen = inl (seen, beside_as path at depth own stack is.0 is.1 beside)
  beside_at first now path depth own (Io None error) stack is beside seen = tt
  beside_at first now path depth own (Loop ancestor child) stack is beside seen = tt
  beside_at first now path depth own NoMemory stack is beside seen = tt

  pub looked_beside : (first now : D) (path : Path) (depth : ℕ) (error : Error) (stack : List DirList) → IsOfEntry path depth error
      → depth ≡ length stack → LiesIn path stack
      → IsSeenIn answered first now error.inner → IsRefusedAt answered first now (Some (Err error)) stack
  looked_beside first now path depth error stack is long parent seen =
      beside_at first now path depth error.depth error.inner stack is (record { long = sym long; parent = parent }) seen
