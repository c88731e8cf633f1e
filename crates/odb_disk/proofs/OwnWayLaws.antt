-- Laws of a file of one's own and of its way, for callers: what is left of them after a change of another writer, who makes
-- files and directories where nothing is, and appends to, moves and removes a file of his own.
pub mod OwnSpots
pub mod OtherWriters
pub use Rattle.odb_disk.proofs.OwnWayLaws.OwnSpots.{Stops, IsOwnChange, Replaces, same_or_replaces, stops_after, stops_kept, same_front, spot_named, OwnSpot, own_stops, own_kept, stop_below_root}
pub use Rattle.odb_disk.proofs.OwnWayLaws.OwnSpots.{own_new, own_appended, own_foldered, own_append, own_rename, own_remove, own_new_change, own_dir_change, own_not_vacant}
pub use Rattle.odb_disk.proofs.OwnWayLaws.OtherWriters.{Cut, cut_no_file, cut_no_spot, cut_no_dir, cut_no_append, cut_no_rename, cut_no_remove, CutsOff}
pub use Rattle.odb_disk.proofs.OwnWayLaws.OtherWriters.{cuts_off, own_after, cut_kept, cut_after, moved_onto_crosses, moved_onto, moved_onto_reads}
