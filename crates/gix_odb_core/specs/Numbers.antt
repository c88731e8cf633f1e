-- The numbers of a shape, for laws of what journals replay to.
use Rattle.std.specs.Prelude.{◌≡◌, ◌+◌, ◌≤◌, length}
use Rattle.gix_odb_core.specs.declared.shape.Shape.{Shape}

-- no counter is less than it was; the numbers of folders and slots are unchanged
pub record NeverFalls (before after : Shape) : Type 0 where
  pub list_no : before.list_no ≤ after.list_no
  pub state_id : before.state_id ≤ after.state_id
  pub generation : before.generation ≤ after.generation
  pub folders : after.folders ≡ before.folders
  pub slots : length after.slots ≡ length before.slots

-- one more list was published
pub record RisesByAList (before after : Shape) : Type 0 where
  pub list_no : after.list_no ≡ before.list_no + 1
  pub state_id : after.state_id ≡ before.state_id + 1

-- no counter changed
pub record SameNumbers (before after : Shape) : Type 0 where
  pub list_no : after.list_no ≡ before.list_no
  pub state_id : after.state_id ≡ before.state_id
  pub generation : after.generation ≡ before.generation
