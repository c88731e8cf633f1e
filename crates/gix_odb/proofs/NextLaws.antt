-- Laws of the exchange that comes right after a read: it stores what was read.
use Rattle.std.proofs.Common.{◌≡◌, ℕ, true, List, [], ◌∷◌, ◌++◌, Some, refl, sym, ◌∙◌, subst}
use Rattle.std.proofs.lemmas.List.Elements.{Contains-append_left}
use Rattle.std.proofs.lemmas.Option.{same_Some}
use Rattle.odb_base.specs.Path.{Path}
use Rattle.odb_disk.specs.declared.ask.DiskAnswer.TheVariants as answers
use Rattle.gix_hash.specs.ObjectId.{kind_of}
use Rattle.gix_hash.specs.declared.kind.Kind.{Kind}
use Rattle.gix_hash.specs.declared.object_id.ObjectId.{ObjectId}
use Rattle.gix_pack_read.specs.Index.{is_index}
use Rattle.gix_pack_read.specs.Pack.{is_pack}
use Rattle.gix_odb_events.specs.declared.pack_id.PackId.{PackId}
use Rattle.gix_odb_events.specs.declared.event.Event.TheVariants as events
use Rattle.gix_odb_events.specs.declared.view.View.{View}
use Rattle.gix_odb_events.specs.declared.answer.Ask.{Ask}
use Rattle.gix_odb_events.specs.declared.answer.Ask.TheVariants as asks
use Rattle.gix_object.specs.declared.want.Want.{Want}
use Rattle.gix_odb.specs.LookExchanges.{AreAsked, Exchange, behind}
use Rattle.gix_odb.specs.LookUpOrder.{Setting, ask_of, started}
use Rattle.gix_odb.specs.Shown.{IsIndexPath, IsShownView}
use Rattle.gix_odb.specs.True.{AreTrue}
use Rattle.gix_odb.specs.declared.look_up.LookUp.{LookUp}
use Rattle.gix_odb.specs.declared.refresh_mode.RefreshMode.{RefreshMode}
use Rattle.gix_odb.specs.Following.{ComesNext}
use Rattle.gix_odb.specs.JustRead.{IsPackPath, read_of}
use Rattle.gix_odb.proofs.LastExchange.{asked-within}
use Rattle.gix_odb.proofs.ReadLaws.{index_that_was_read_is_stored_next, pack_that_was_read_is_stored_next}

module _ (Shown : Path → ℕ → List ℕ → Type 0) (setting : Setting) (hash : Kind) (want : Want) (id : ObjectId) (same : kind_of id ≡ hash)
    (mode : RefreshMode) (view : View) (shown : IsShownView Shown setting hash view) (exchanges : List Exchange)
    (asked : AreAsked setting (started setting mode view want id) exchanges) (truth : AreTrue Shown setting hash exchanges) where
  abbrev start : LookUp
  start = started setting mode view want id

  module _ (first next : Exchange) (comes : ComesNext exchanges first next) where
    abbrev so_far : List Exchange
    so_far = comes.past ++ first ∷ []

    within : AreAsked setting start so_far × (ask_of (behind setting start so_far) ≡ Some next.ask)
    within = asked-within setting start so_far next comes.rest (subst (AreAsked setting start) comes.is asked)

    true_so_far : AreTrue Shown setting hash so_far
    true_so_far exchange among =
        subst (AreTrue Shown setting hash) comes.is truth exchange (Contains-append_left so_far (next ∷ comes.rest) exchange among)

    next_is : (ask : Ask) → ask_of (behind setting start so_far) ≡ Some ask → next.ask ≡ ask
    next_is ask is = same_Some next.ask ask (sym within.1 ∙ is)

  module _ (path : Path) (bytes : List ℕ) (time : ℕ) (next : Exchange) (comes : ComesNext exchanges (read_of path (answers.File bytes time)) next) where
    abbrev first : Exchange
    first = read_of path (answers.File bytes time)

    -- The exchange after a read of an index, whose bytes parse, stores these bytes.
    pub exchange_behind_a_read_stores_the_index : IsIndexPath setting path → is_index hash bytes ≡ true
        → (slot : ℕ) × (next.ask ≡ asks.Core (events.PutIndex slot path (record { kind = hash; bytes = bytes })))
    exchange_behind_a_read_stores_the_index index parsed =
        let put =
        index_that_was_read_is_stored_next Shown setting hash want id same mode view shown (so_far first next comes) (within first next comes).0
        (true_so_far first next comes) path bytes index parsed (record { time = time; last = (comes.past, refl) }) in
        (put.0, next_is first next comes (asks.Core (events.PutIndex put.0 path (record { kind = hash; bytes = bytes }))) put.1)

    -- So does the one after a read of a pack.
    pub exchange_behind_a_read_stores_the_pack : IsPackPath setting path → is_pack hash bytes ≡ true
        → (pack : PackId) × (next.ask ≡ asks.Core (events.PutPack pack path (record { kind = hash; bytes = bytes })))
    exchange_behind_a_read_stores_the_pack pack parsed =
        let put =
        pack_that_was_read_is_stored_next Shown setting hash want id same mode view shown (so_far first next comes) (within first next comes).0
        (true_so_far first next comes) path bytes pack parsed (record { time = time; last = (comes.past, refl) }) in
        (put.0, next_is first next comes (asks.Core (events.PutPack put.0 path (record { kind = hash; bytes = bytes }))) put.1)
