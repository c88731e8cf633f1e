use Rattle.std.proofs.Common.{sym}
use Rattle.odb_host.specs.HostDisk.{most_entries}
use Rattle.odb_host.proofs.HostListingLemmas.{gives_listing, unlisted_error, unlisted_memory}
use Rattle.odb_host.proofs.host_disk.HostDisk.open_listed.Goals as goal

pub returns-clause-gives : goal.returns-clause-gives
returns-clause-gives g c =
    gives_listing g.I.Iterator.next_gives most_entries c.args.directory c.list_opened-listed.result c.in_ok-listing.listing _ _ c.list_opened-listed.ensures.listed
    (sym c.in_ok-listing.ensures.answer) c.in_ok-dir.ensures.given c.in_ok-dir.ensures.owes

pub returns-in_err-listing-clause-unlisted : goal.returns-in_err-listing-clause-unlisted
returns-in_err-listing-clause-unlisted g c =
    unlisted_error g.I.Iterator.next_gives most_entries c.list_opened-listed.result c.from_residual.result c.args.directory c.in_err-listing.field-0.0 c.list_opened-listed.ensures.unlisted
    (sym c.in_err-listing.ensures.answer) c.from_residual.ensures.1

pub returns-in_err-dir-clause-unlisted : goal.returns-in_err-dir-clause-unlisted
returns-in_err-dir-clause-unlisted g c =
    unlisted_memory g.I.Iterator.next_gives most_entries c.list_opened-listed.result c.from_residual-in_err-dir.result c.args.directory c.in_ok-listing.listing c.list_opened-listed.ensures.listed
    (sym c.in_ok-listing.ensures.answer) c.from_residual-in_err-dir.ensures.1
