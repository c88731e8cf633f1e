-- There is at most one proof that an end has a pass of its channel. No clause of a public call cites this.
use Rattle.std.specs.Prelude.{◌≡◌, List}
use Rattle.std.proofs.Props.{props}
use base.Stored.{Coded-set, coded_list}
use Rattle.atomic_table.specs.Seated.{TableId, table_id_coded}
use Rattle.atomic_table.specs.declared.badge.Badge.{Badge}
use Rattle.crossbeam_channel.specs.declared.flavors.array.Key.{Key}
use Rattle.crossbeam_channel.specs.contracts.flavors.array.Key as key
use Rattle.atomic_table.specs.contracts.badge.Badge as badge
use Rattle.gix_features_channel.specs.declared.pipe.ends.Piece.{Piece}
use Rattle.gix_features_channel.specs.contracts.pipe.ends.Piece as piece

pub TableId-set : (a b : TableId) → IsProp (a ≡ b)
TableId-set = Coded-set table_id_coded

pub Badge-set : (a b : Badge (Key Piece)) → IsProp (a ≡ b)
Badge-set = Coded-set (badge.the_row (key.the_row piece.the_row)).coded

pub Badges-set : (a b : List (Badge (Key Piece))) → IsProp (a ≡ b)
Badges-set = Coded-set (coded_list (badge.the_row (key.the_row piece.the_row)).coded)

pub ruleset seat_props = (props, TableId-set, Badge-set, Badges-set)
