-- What a worker begins with may go to another thread.
use denote.RattleType.{RattleType}
use denote.Param.Send.{IsSend, sendable}
use denote.Struct.Field.{row_field, usize-field}
use denote.Param.SendFields.{variants_send, declared_send, as_row_send}
use Rattle.std.proofs.Crossing.{crosses, frees}
use Rattle.std.specs.declared.iter.Iterator.{Ghosts}
use Rattle.std.specs.contracts.option.Option as Option
use Rattle.std.specs.contracts.alloc.Global as Global
use Rattle.std.specs.contracts.impls.GlobalAllocator.TheImpl as global
use Rattle.std.proofs.option.Option.TheSendSync as option
use Rattle.std.proofs.alloc.Global.TheSendSync as heap
use Rattle.atomic_table.specs.contracts.badge.Badge as Badge
use Rattle.atomic_table.proofs.badge.Badge.TheSendSync as badge
use Rattle.atomic_table.proofs.shared.Seat.TheSendSync as seat
use Rattle.crossbeam_channel.specs.contracts.flavors.array.Doing as Doing
use Rattle.crossbeam_channel.specs.contracts.flavors.array.Key as Key
use Rattle.crossbeam_channel.specs.contracts.flavors.array.Lockers as Lockers
use Rattle.crossbeam_channel.specs.contracts.flavors.array.LockersTableRuleOptionKeyUnit.TheImpl as lockers
use Rattle.crossbeam_channel.specs.contracts.flavors.array.Rounds as Rounds
use Rattle.crossbeam_channel.specs.contracts.flavors.array.RoundsTableRuleBadgeKeyDoingBadgeKey.TheImpl as rounds
use Rattle.crossbeam_channel.specs.contracts.flavors.array.Rows as Rows
use Rattle.crossbeam_channel.specs.contracts.flavors.array.Whole as Whole
use Rattle.crossbeam_channel.specs.contracts.flavors.array.WholeSight.TheImpl as whole
use Rattle.crossbeam_channel.proofs.flavors.array.Rows.TheSendSync as rows
use Rattle.crossbeam_channel.proofs.flavors.array.ruled.Sending.TheSendSync as sending
use Rattle.gix_features_channel.specs.contracts.ends.Hand as Hand
use Rattle.gix_features_channel.specs.contracts.ends.InOrder as InOrder
use Rattle.gix_features_channel.specs.contracts.ends.InOrderProtocolHand.TheImpl as in_order
use Rattle.gix_features_channel.specs.contracts.messages.Faithful as Faithful
use Rattle.gix_features_channel.specs.contracts.messages.FaithfulLawMessageItem.TheImpl as faithful
use Rattle.gix_features_channel.specs.contracts.messages.Message as Message
use Rattle.gix_features_channel.specs.contracts.worker.Job as Job

message_send : (I T : RattleType) → IsSend T → IsSend (Message.the_row I T)
message_send I T t = variants_send (Message.enum I T) ((search crosses, tt), ((search (crosses, t), tt), (tt, tt)))

pub job_send : (I T : RattleType) (g : Ghosts I.Denot T.Denot) → IsSend I → IsSend T → IsSend (Job.the_row I T g)
job_send I T g i t =
    let M : RattleType = Message.the_row I T in
    let m : IsSend (Option.the_row M) = option.the_send M (message_send I T t) in
    let key : RattleType = Key.the_row M in
    let slot : RattleType = Badge.the_row key in
    let does : RattleType = Doing.the_row M (Hand.the_row M) in
    let order : RattleType = InOrder.the_row Faithful.the_row in
    let law = faithful.ghosts I T g faithful.no_dict faithful.no_dict in
    let turns = rounds.ghosts M (Hand.the_row M) order (in_order.ghosts M Faithful.the_row law in_order.no_dict) rounds.no_dict in
    let locks = lockers.ghosts M M Whole.the_row (whole.ghosts M) lockers.no_dict in
    let heaps = global.ghosts in
    let ring : RattleType = Rows.the_row slot does (Rounds.the_row order) (Option.the_row M) key (Lockers.the_row Whole.the_row) Global.the_row turns locks heaps in
    let ring_send : IsSend ring = rows.the_send slot does (Rounds.the_row order) (Option.the_row M) key (Lockers.the_row Whole.the_row) Global.the_row turns locks heaps (badge.the_send key) m heap.the_send frees in
    declared_send (Job.the_type I T g) (
      as_row_send (row_field I) i,
      (
        sending.the_send ring Global.the_row heaps ring_send heap.the_send
            (rows.the_sync slot does (Rounds.the_row order) (Option.the_row M) key (Lockers.the_row Whole.the_row) Global.the_row turns locks heaps (badge.the_send key) m heap.the_send heap.the_sync frees) heap.the_sync frees,
        (seat.the_send slot does (badge.the_send key), (heap.the_send, (as_row_send usize-field (search sendable), tt))),
      ),
    )
