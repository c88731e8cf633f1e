-- What a step of a walk was answered.
use Rattle.std.proofs.Common.{◌≡◌, ℕ, true, List, [], reverse, Option, Some, None, Result, Ok, Err, sym, subst}
use Rattle.std.specs.Prelude.{IfErr}
use Rattle.odb_disk.specs.CallsMade.{Leads}
use Rattle.odb_disk.specs.declared.ask.DiskAsk.{DiskAsk}
use Rattle.odb_disk.specs.declared.ask.DiskAnswer.{DiskAnswer}
use Rattle.walkdir.specs.Answered.{IsItemTold, IsStackTold, TellsOn}
use Rattle.walkdir.specs.Error.{is_no_memory}
use Rattle.walkdir.specs.Directory.{held}
use Rattle.walkdir.specs.Turns.AtIndex.{Puts}
use Rattle.walkdir.specs.Turns.{handed, item_of, turn_given, turn_of}
use Rattle.walkdir.specs.Walk.{Item}
use Rattle.walkdir.specs.declared.dent.DirEntry.{DirEntry}
use Rattle.walkdir.specs.declared.error.Error.{Error}
use Rattle.walkdir.specs.declared.directory.DirList.{DirList}
use Rattle.walkdir.specs.declared.directory.Items.{Items}
use Rattle.walkdir.proofs.ProgressLemmas.{item_turn}
use Rattle.walkdir.proofs.RefusedLemmas.{lost_at}
use Rattle.walkdir.proofs.AnsweredLemmas.{item_later, leads_still, leads_then, none_told, stack_as, stack_later, stack_put}
use Rattle.walkdir.proofs.AnsweredLemmas.Calls.{no_memory_told}

module _ {D : Type 0} (answered : D → DiskAsk → DiskAnswer → D → Type 0) where
  -- ---- steps

  pub tells_still : (at : D) (stack rest : List DirList) → rest ≡ stack → TellsOn answered at stack None at rest
  tells_still at stack rest same = record {
    leads = leads_still answered at;
    told = λ first told. (
      stack_as answered first at stack rest same told,
      tt,
    );
    refused = λ first told. tt;
  }

  pub tells_then : (a b c : D) (x y z : List DirList) (i j : Option Item) → TellsOn answered a x i b y → TellsOn answered b y j c z
      → TellsOn answered a x j c z
  tells_then a b c x y z i j first second = record {
    leads = leads_then answered a b c first.leads second.leads;
    told = λ begun told. second.told begun (first.told begun told).0;
    refused = λ begun told. second.refused begun (first.told begun told).0;
  }

  -- calls that change nothing of what is kept
  pub tells_called : (a b : D) (stack : List DirList) → Leads answered a b → TellsOn answered a stack None b stack
  tells_called a b stack leads =
      record { leads = leads; told = λ first told. (stack_later answered first a b stack told leads, tt); refused = λ first told. tt }

  pub entry_told : (first now : D) (given : Option DirEntry) → IsItemTold answered first now (handed (Ok given))
  entry_told first now None = tt
  entry_told first now (Some entry) = tt

  pub tells_given : (a b : D) (x y : List DirList) (given : Option DirEntry) → TellsOn answered a x None b y
      → TellsOn answered a x (item_of (turn_given given)) b y
  tells_given a b x y None tells = tells
  tells_given a b x y (Some entry) tells =
      record { leads = tells.leads; told = λ first told. ((tells.told first told).0, tt); refused = λ first told. tt }

  pub lost_item_told : (first now : D) (result : Result (Option DirEntry) Error) → IfErr result (λ e. is_no_memory e ≡ true)
      → IsItemTold answered first now (handed result)
  lost_item_told first now (Ok given) lost = entry_told first now given
  lost_item_told first now (Err error) lost = no_memory_told answered first now error lost

  pub tells_turn : (a b : D) (x y : List DirList) (r : Result (Option DirEntry) Error) → TellsOn answered a x (handed r) b y
      → TellsOn answered a x (item_of (turn_of r)) b y
  tells_turn a b x y r tells = subst (λ (i : Option Item). TellsOn answered a x i b y) (sym (item_turn r)) tells

  -- the walk was ended
  pub tells_over : (a b c : D) (x y z : List DirList) (error : Error) → is_no_memory error ≡ true → TellsOn answered a x (Some (Err error)) b y
      → Leads answered b c → z ≡ []
      → TellsOn answered a x (Some (Err error)) c z
  tells_over a b c x y z error lost tells leads over = record {
    leads = leads_then answered a b c tells.leads leads;
    told = λ first told.
        let there = tells.told first told in (
          subst (λ (l : List DirList). IsStackTold answered first c l) (sym over)
              (record { leads = leads_then answered first b c there.0.leads leads; lists = tt }),
          item_later answered first b c (Some (Err error)) leads there.1,
        );
    refused = λ first told. lost_at answered first c error.depth error.inner z lost;
  }

  -- one directory has other contents, which have no errors
  pub tells_put : (a b : D) (old new : List DirList) (index : ℕ) (items : Items) → Puts old new index items → Leads answered a b → held items ≡ []
      → TellsOn answered a (reverse old) None b (reverse new)
  tells_put a b old new index items puts leads none = record {
    leads = leads;
    told = λ first told. (
      stack_put answered first b old new index items puts (stack_later answered first a b (reverse old) told leads)
          (none_told answered first b (held items) none),
      tt,
    );
    refused = λ first told. tt;
  }
