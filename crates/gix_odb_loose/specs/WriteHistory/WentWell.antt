-- The exchanges of a write that went well, one step after another.
use Rattle.std.specs.Prelude.{◌≡◌, ℕ, zero, suc, ◌<◌, List, [], ◌∷◌, ◌++◌, map}
use Rattle.std.specs.List.{concat}
use Rattle.odb_disk.specs.declared.ask.DiskAsk.TheVariants as asks
use Rattle.odb_disk.specs.declared.ask.DiskAnswer.{DiskAnswer}
use Rattle.odb_disk.specs.declared.ask.DiskAnswer.TheVariants as answers
use Rattle.odb_disk.specs.declared.disk_error.DiskError.TheVariants as disk_errors
use Rattle.gix_hash.specs.declared.object_id.ObjectId.{ObjectId}
use Rattle.gix_object.specs.Loose.{header_of}
use Rattle.gix_odb_loose.specs.LooseFile.{loose_path}
use Rattle.gix_odb_loose.specs.Exchanges.{Exchange, exchanged}
use Rattle.gix_odb_loose.specs.WritePieces.{IsCut}
use Rattle.gix_odb_loose.specs.WriteOrder.{temp_names, temp_path, prefix_path}
use Rattle.gix_odb_loose.specs.declared.write_order.WriteHead.{WriteHead}

-- the temporary names below a number were tried, and each was taken
unfoldable pub tried : WriteHead → ℕ → List Exchange
tried head zero = []
tried head (suc number) = tried head number ++ exchanged (asks.NewFile (temp_path head.objects number)) (answers.Refused disk_errors.Exists) ∷ []

-- then the temporary file was made
abbrev pub made : WriteHead → ℕ → List Exchange
made head number = tried head number ++ exchanged (asks.NewFile (temp_path head.objects number)) answers.Done ∷ []

-- then the header was appended to it
abbrev pub headed : WriteHead → ℕ → List Exchange
headed head number = made head number ++ exchanged (asks.Append (temp_path head.objects number) (header_of head.kind head.size)) answers.Done ∷ []

-- then these pieces of the data
abbrev pub filled : WriteHead → ℕ → List (List ℕ) → List Exchange
filled head number pieces = headed head number ++ map (λ piece. exchanged (asks.Append (temp_path head.objects number) piece) answers.Done) pieces

-- the temporary file was made, and the header and these data were appended to it
pub record IsFilled (head : WriteHead) (number : ℕ) (appended : List ℕ) (past : List Exchange) : Type 0 where
  pub below : number < temp_names
  pub pieces : List (List ℕ)
  pub whole : concat pieces ≡ appended
  pub cut : IsCut pieces
  pub is : past ≡ filled head number pieces

-- a directory was made, or was there already
abbrev pub IsThere : DiskAnswer → Type 0
IsThere answers.Done = Unit {0}
IsThere (answers.Refused disk_errors.Exists) = Unit {0}
IsThere answer = ⊥

-- then the directory of the object was made, or was there already
pub record IsFoldered (head : WriteHead) (number : ℕ) (id : ObjectId) (appended : List ℕ) (past : List Exchange) : Type 0 where
  pub before : List Exchange
  pub answer : DiskAnswer
  pub filled : IsFilled head number appended before
  pub there : IsThere answer
  pub is : past ≡ before ++ exchanged (asks.MakeDir (prefix_path head.objects id)) answer ∷ []

-- then the temporary file was given the name of the object
pub record IsMoved (head : WriteHead) (number : ℕ) (id : ObjectId) (appended : List ℕ) (past : List Exchange) : Type 0 where
  pub before : List Exchange
  pub foldered : IsFoldered head number id appended before
  pub is : past ≡ before ++ exchanged (asks.Rename (temp_path head.objects number) (loose_path head.objects id)) answers.Done ∷ []
