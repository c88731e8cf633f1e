use Rattle.std.proofs.Common.{length, refl, sym}
use Rattle.std.proofs.lemmas.Option.{slice_get_past, slice_get_read}
use Rattle.gix_odb_search.proofs.lister.behind_folder.Goals as goal

pub returns-in_default : goal.returns-in_default
returns-in_default c = record {
  behind =
      rw (slice_get_past c.args.store.now.folders.now c.args.head.next c.in_default.ensures.lookup.3)
      (c.listed.ensures.listed c.args.head.folder c.args.head.next);
}

pub returns-in-Ok : goal.returns-in-Ok
returns-in-Ok c = record {
  behind =
      rw (slice_get_read c.args.store.now.folders.now (length c.args.store.now.folders.now) c.args.head.next c.in-Some.folder.now
      refl c.in-Some.ensures.lookup.3.0 c.in-Some.ensures.lookup.1)
      (rw (sym c.in-Ok.ensures.folder) c.more.ensures.more);
}
