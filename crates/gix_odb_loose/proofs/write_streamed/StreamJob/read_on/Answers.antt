use Rattle.std.specs.Prelude.{ℕ, ◌≤◌, List, ◌++◌, length}
use Rattle.std.proofs.Common.{refl, sym, subst}
use Rattle.gix_odb_loose.specs.WriteNames.{name_for}
use Rattle.gix_odb_loose.specs.declared.write_order.WriteHead.{WriteHead}
use Rattle.gix_odb_loose.specs.declared.write_order.WriteStage.TheVariants as stages
use Rattle.gix_odb_loose.proofs.StreamJobsLemmas.GoesOn.{on_end, on_lost, on_failed, on_piece, on_nothing, goes_on_broken}
use Rattle.gix_odb_loose.proofs.StreamJobsLemmas.Turns.{ended_less, failed_less, piece_less}
use Rattle.gix_odb_loose.proofs.write_streamed.StreamJob.read_on.Goals as goal

pub returns-then-self-clause-goes_on : goal.returns-then-self-clause-goes_on
returns-then-self-clause-goes_on g c =
    λ w state now past at. on_end w state now past _ _ c.args.self.now c.args.number c.args.written at c.if-self.true c.end.new.self c.end.ensures.head c.end.ensures.removal c.end.ensures.ended

pub returns-then-self-clause-fewer : goal.returns-then-self-clause-fewer
returns-then-self-clause-fewer g c =
    λ w state now past at.
    ended_less c.args.self.now c.end.new.self c.args.number c.args.written c.args.self.now.head.size (name_for w.known w.hash w.head at.all)
    (c.end.ensures.ended w.known w.hash w.head at.all at.holds.0.named)

-- memory ran out after the read
pub returns-in_err-next_piece-clause-goes_on : goal.returns-in_err-next_piece-clause-goes_on
returns-in_err-next_piece-clause-goes_on g c =
    λ w state now past at.
    goes_on_broken w state now past _ _ _ c.from_residual.result c.from_residual.ensures.0
    (on_lost w state now past _ _ c.args.self.now c.args.number c.args.written at c.most-most.result c.most-most.ensures.most _ _ c.in_err-next_piece.ensures.lost
    (record c.args.self.now { stage = stages.Filling c.args.number c.args.written }) refl refl)

pub returns-in-Failed-clause-goes_on : goal.returns-in-Failed-clause-goes_on
returns-in-Failed-clause-goes_on g c =
    λ w state now past at.
    let fetched = c.in_ok-next_piece.ensures.fetched in
    let failed = rw c.in-Failed.is at fetched in
    on_failed w state now past _ _ c.args.self.now c.args.number c.args.written at c.most-most.result c.most-most.ensures.most _ _ failed.0 failed.1
    (record c.args.self.now { stage = c.failed-self.result }) refl refl c.failed-self.ensures.failed

pub returns-in-Failed-clause-fewer : goal.returns-in-Failed-clause-fewer
returns-in-Failed-clause-fewer g c = λ w state now past at. failed_less c.args.self.now (record c.args.self.now { stage = c.failed-self.result }) c.args.number c.args.written c.failed-self.ensures.failed

pub returns-then-not-is_empty-clause-goes_on : goal.returns-then-not-is_empty-clause-goes_on
returns-then-not-is_empty-clause-goes_on g c =
    λ w state now past at.
    let fetched = c.in_ok-next_piece.ensures.fetched in
    on_piece w state now past _ _ c.args.self.now c.args.number c.args.written at c.most-most.result c.most-most.ensures.most _ _ c.in-Piece.piece
    (rw c.in-Piece.is at fetched) c.take.new.self c.take.ensures.head c.take.ensures.removal c.take.ensures.piece
    c.take.ensures.has_ended c.take.ensures.naming c.if-self.false (λ e. cc (c.is_empty.ensures.empty.1 e, c.if-not-is_empty.true)) c.take.ensures.stage

pub returns-then-not-is_empty-clause-fewer : goal.returns-then-not-is_empty-clause-fewer
returns-then-not-is_empty-clause-fewer g c =
    λ w state now past at.
    let fetched = c.in_ok-next_piece.ensures.fetched in
    let takes = rw c.in-Piece.is at fetched in
    piece_less c.args.self.now c.take.new.self c.args.number c.args.written c.most-most.result c.most-most.ensures.most
    (subst (λ (h : WriteHead). c.args.written ≤ h.size) (sym at.head) at.holds.0.within) c.if-self.false c.take.ensures.head
    (subst (λ (p : List ℕ). length p ≤ c.most-most.result) (sym c.take.ensures.piece) takes.few) c.take.ensures.stage

pub returns-else-not-is_empty-clause-goes_on : goal.returns-else-not-is_empty-clause-goes_on
returns-else-not-is_empty-clause-goes_on g c =
    λ w state now past at.
    let fetched = c.in_ok-next_piece.ensures.fetched in
    on_nothing w state now past _ _ c.args.self.now c.args.number c.args.written at c.most-most.result c.most-most.ensures.most _ _ c.in-Piece.piece
    (rw c.in-Piece.is at fetched) c.take.new.self c.take.ensures.head c.take.ensures.removal c.take.ensures.piece
    c.take.ensures.has_ended c.take.ensures.naming c.if-self.false
    (c.is_empty.ensures.empty.0 c.if-not-is_empty.false) c.end-in-Piece.new.self c.end-in-Piece.ensures.head c.end-in-Piece.ensures.removal c.end-in-Piece.ensures.ended

pub returns-else-not-is_empty-clause-fewer : goal.returns-else-not-is_empty-clause-fewer
returns-else-not-is_empty-clause-fewer g c =
    λ w state now past at.
    let all = at.all ++ c.in-Piece.piece in
    ended_less c.args.self.now c.end-in-Piece.new.self c.args.number c.args.written c.take.new.self.head.size (name_for w.known w.hash w.head all)
    (c.end-in-Piece.ensures.ended w.known w.hash w.head all (c.take.ensures.naming w.known w.hash w.head at.all at.holds.0.named))
