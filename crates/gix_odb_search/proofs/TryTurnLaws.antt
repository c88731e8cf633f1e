-- How many turns the indices of a list take that are tried.
use Rattle.std.proofs.Common.{ℕ, suc, ◌+◌, ◌*◌, ◌≤◌, ◌<◌, List, [], ◌∷◌, length, arith}
use Rattle.gix_odb_events.specs.declared.loaded.SnapshotIndex.{SnapshotIndex}
use Rattle.gix_odb_events.specs.declared.loaded.Todo.{Todo}
use Rattle.gix_odb_search.specs.Search.{first_of, left_by, rest_behind, search, tried}
use Rattle.gix_odb_search.specs.TryOrder.{at_search, at_todo, seek}
use Rattle.gix_odb_search.specs.declared.goal.Goal.{Goal}
use Rattle.gix_odb_search.specs.declared.search.AbsentFile.{AbsentFile}
use Rattle.gix_odb_search.specs.declared.search.Sought.{Sought}
use Rattle.gix_odb_search.specs.declared.search.Sought.TheVariants as searches
use Rattle.gix_odb_search.specs.declared.trier.Ahead.{Ahead}
use Rattle.gix_odb_search.specs.declared.trier.Stage.{Stage}
use Rattle.gix_odb_search.specs.declared.trier.Stage.TheVariants as stages
use Rattle.gix_odb_search.specs.declared.trier.Tried.{Tried}
use Rattle.gix_odb_search.specs.declared.trier.Tried.TheVariants as ends
use Rattle.gix_odb_search.specs.declared.trier.Trier.{Trier}
use Rattle.gix_odb_search.proofs.LoadLaws.{loader_turns}

-- the next index is loaded, and its pack is read and stored or passed over
abbrev pub stage_turns : Stage → ℕ
stage_turns (stages.Loading loader) = 2 + loader_turns loader
stage_turns (stages.ReadingPack pack) = 2
stage_turns (stages.StoringPack pack file) = 1
stage_turns (stages.PassingPack pack) = 1

-- of each pending index that is loaded the pack is read; each other one is read first
abbrev pub ahead_turns : Ahead → ℕ
ahead_turns ahead = 2 * length ahead.indices + 4 * length ahead.todo

abbrev pub trier_turns : Trier → ℕ
trier_turns trier = stage_turns trier.stage + ahead_turns trier.ahead

-- where trying goes on, it takes at most so many turns
abbrev pub TriesFor : (turns : ℕ) → Tried → Type 0
TriesFor turns (ends.More trier) = trier_turns trier ≤ turns
TriesFor turns tried = Unit {0}

some_turns : (stage : Stage) → 0 < stage_turns stage
some_turns (stages.Loading loader) = omega arith
some_turns (stages.ReadingPack pack) = omega arith
some_turns (stages.StoringPack pack file) = omega arith
some_turns (stages.PassingPack pack) = omega arith

pub trier_turns-pos : (trier : Trier) → 0 < trier_turns trier
trier_turns-pos trier = omega (arith, some_turns trier.stage)

-- ---- a search

-- a search that found something leaves fewer indices than it was given
abbrev Leaves : Sought → (left all : ℕ) → Type 0
Leaves searches.Nowhere left all = left ≤ all
Leaves sought left all = left + 1 ≤ all

leaves_more : (sought : Sought) (left all : ℕ) → Leaves sought left all → Leaves sought left (suc all)
leaves_more searches.Nowhere left all fewer = omega arith
leaves_more (searches.Finds found) left all fewer = omega arith
leaves_more (searches.Fails error) left all fewer = omega arith
leaves_more (searches.Wants pack) left all fewer = omega arith

first_leaves : (here further : Sought) (rest behind : List SnapshotIndex) → Leaves further (length behind) (length rest)
    → Leaves (first_of here further) (length (left_by here rest behind)) (suc (length rest))
first_leaves searches.Nowhere further rest behind fewer = leaves_more further (length behind) (length rest) fewer
first_leaves (searches.Finds found) further rest behind fewer = omega arith
first_leaves (searches.Fails error) further rest behind fewer = omega arith
first_leaves (searches.Wants pack) further rest behind fewer = omega arith

search_leaves : (goal : Goal) (absent : List AbsentFile) (indices : List SnapshotIndex)
    → Leaves (search goal absent indices) (length (rest_behind goal absent indices)) (length indices)
search_leaves goal absent [] = omega arith
search_leaves goal absent (index ∷ rest) =
    first_leaves (tried goal absent index) (search goal absent rest) rest (rest_behind goal absent rest) (search_leaves goal absent rest)

-- ---- what trying does next

todo_tries : (turns : ℕ) (goal : Goal) (ahead : Ahead) (todo : List Todo) → 2 * length ahead.indices + 4 * length todo ≤ turns
    → TriesFor turns (at_todo goal ahead todo)
todo_tries turns goal ahead [] room = tt
todo_tries turns goal ahead (first ∷ rest) room = omega arith

-- what is left for a search: two turns for a pack that is to be read
abbrev search_turns : Sought → ℕ
search_turns (searches.Wants pack) = 2
search_turns sought = 0

search_tries : (turns : ℕ) (goal : Goal) (ahead : Ahead) (sought : Sought) → search_turns sought + ahead_turns ahead ≤ turns
    → TriesFor turns (at_search goal ahead sought)
search_tries turns goal ahead searches.Nowhere room = todo_tries turns goal ahead ahead.todo (omega arith)
search_tries turns goal ahead (searches.Finds found) room = tt
search_tries turns goal ahead (searches.Fails error) room = tt
search_tries turns goal ahead (searches.Wants pack) room = room

few_search_turns : (sought : Sought) → search_turns sought ≤ 2
few_search_turns searches.Nowhere = omega arith
few_search_turns (searches.Finds found) = omega arith
few_search_turns (searches.Fails error) = omega arith
few_search_turns (searches.Wants pack) = omega arith

left_turns : (sought : Sought) (left all rest : ℕ) → Leaves sought left all → search_turns sought + (2 * left + rest) ≤ 2 * all + rest
left_turns searches.Nowhere left all rest fewer = omega arith
left_turns (searches.Finds found) left all rest fewer = omega arith
left_turns (searches.Fails error) left all rest fewer = omega arith
left_turns (searches.Wants pack) left all rest fewer = omega arith

-- trying goes on among what is pending
pub seek_tries : (turns : ℕ) (goal : Goal) (ahead : Ahead) → ahead_turns ahead ≤ turns → TriesFor turns (seek goal ahead)
seek_tries turns goal ahead room =
    let sought = search goal ahead.notes.absent ahead.indices in
    let left = rest_behind goal ahead.notes.absent ahead.indices in
    let fewer = left_turns sought (length left) (length ahead.indices) (4 * length ahead.todo) (search_leaves goal ahead.notes.absent ahead.indices) in
    search_tries turns goal (record ahead { indices = left }) sought (omega (arith, fewer))

-- an index that was loaded is searched, for which two turns are left
pub loaded_tries : (turns : ℕ) (goal : Goal) (ahead : Ahead) (index : SnapshotIndex) → 2 + ahead_turns ahead ≤ turns
    → TriesFor turns (at_search goal ahead (tried goal ahead.notes.absent index))
loaded_tries turns goal ahead index room =
    let sought = tried goal ahead.notes.absent index in search_tries turns goal ahead sought (omega (arith, few_search_turns sought))
