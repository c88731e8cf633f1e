-- Laws of the ids of what look-ups find.
use Rattle.std.proofs.Common.{◌≡◌, inl, inr, ℕ, List, Contains, Option, Some, None, Result, Ok, Err, ap, ◌∙◌}
use Rattle.odb_base.specs.Path.{Path}
use Rattle.gix_hash.specs.ObjectId.{kind_of}
use Rattle.gix_hash.specs.declared.kind.Kind.{Kind}
use Rattle.gix_hash.specs.declared.object_id.ObjectId.{ObjectId}
use Rattle.gix_object.specs.Id.{object_id}
use Rattle.gix_object.specs.declared.kind.Kind as object
use Rattle.gix_odb_loose.specs.LooseFile.{loose_path}
use Rattle.gix_odb_loose.specs.LooseOrder.Answered.{found_by}
use Rattle.gix_odb_loose.specs.declared.find.Error.{Error}
use Rattle.gix_odb_events.specs.declared.view.View.{View}
use Rattle.gix_odb_calls.specs.Verdict.{asking, folder_ask, verdict_on_find}
use Rattle.gix_odb_calls.specs.declared.call.Reply.TheVariants as replies
use Rattle.gix_object.specs.declared.want.Want.TheVariants.{Object}
use Rattle.gix_odb_calls.specs.declared.verdict.Verdict.TheVariants as verdicts
use Rattle.gix_odb.specs.LookExchanges.{AreAsked, Exchange, HasVerdict, behind}
use Rattle.gix_odb.specs.Found.{IsFound}
use Rattle.gix_odb.specs.LookUpOrder.{Setting, result_of, started}
use Rattle.gix_odb.specs.Shown.{IsShownView, folders_of}
use Rattle.gix_odb.specs.True.{AreTrue}
use Rattle.gix_odb.proofs.FoundLaws.{what_is_found_was_shown}
use Rattle.gix_odb.specs.Hashed.{LooseHash, PacksHash}
use Rattle.gix_odb.specs.declared.refresh_mode.RefreshMode.{RefreshMode}

module _ (Shown : Path → ℕ → List ℕ → Type 0) (setting : Setting) (hash : Kind) (id : ObjectId) (same : kind_of id ≡ hash)
    (exchanges : List Exchange) (kind : object.Kind) (bytes : List ℕ) where
  in_packs : PacksHash setting hash id Shown → IsFound Shown setting hash id Object (replies.Found kind bytes) → object_id hash kind bytes ≡ id
  in_packs packs found =
      let kinds : kind ≡ found.content.entry.kind = cc found.content.is in
      let octets : bytes ≡ found.content.entry.bytes = cc found.content.is in
      ap (λ (k : object.Kind). object_id hash k bytes) kinds ∙ ap (object_id hash found.content.entry.kind) octets
      ∙ packs found.path found.pack found.offset found.content.entry found.index found.shown found.content.there

  given_object : (given : Result (Option (object.Kind × List ℕ)) Error) → verdict_on_find given ≡ verdicts.Ends (replies.Found kind bytes)
      → given ≡ Ok (Some (kind, bytes))
  given_object (Ok (Some found)) is =
      let kinds : found.0 ≡ kind = cc is in
      let octets : found.1 ≡ bytes = cc is in
      λ i. Ok (Some (kinds i, octets i))
  given_object (Ok None) is = absurd (cc is)
  given_object (Err error) is = absurd (cc is)

  in_folder : LooseHash setting hash id exchanges → (folder : Path) → Contains (folders_of setting) folder
      → HasVerdict setting Object id exchanges folder (verdicts.Ends (replies.Found kind bytes)) → object_id hash kind bytes ≡ id
  in_folder loose folder among verdict =
      loose folder among (folder_ask (asking setting.parts.alloc_limit_bytes Object id folder)) verdict.answer verdict.told kind bytes
      (given_object (found_by (loose_path folder id) setting.parts.alloc_limit_bytes verdict.answer) verdict.is)

  module _ (mode : RefreshMode) (view : View) (shown : IsShownView Shown setting hash view) (asked : AreAsked setting (started setting mode view Object id) exchanges)
      (truth : AreTrue Shown setting hash exchanges) where
    -- Where the objects that it may meet hash to the id, what a look-up found has data that hash to it.
    pub found_data_hash_to_the_id : PacksHash setting hash id Shown → LooseHash setting hash id exchanges
        → result_of (behind setting (started setting mode view Object id) exchanges) ≡ Ok (replies.Found kind bytes) → object_id hash kind bytes ≡ id
    found_data_hash_to_the_id packs loose is =
        elim (what_is_found_was_shown Shown setting hash Object id same mode view shown exchanges asked truth (replies.Found kind bytes) is tt) [
          | inl found ↦ in_packs packs found
          | inr here ↦ in_folder loose here.0 here.1 here.2
        ]
