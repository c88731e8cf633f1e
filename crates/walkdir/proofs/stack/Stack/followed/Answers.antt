-- A link that is followed is taken for its target, unless that is a loop.
use Rattle.std.proofs.Common.{◌≡◌, ◌&&◌, true, false, Some, None, Ok, Err, ap, reverse, subst, sym, ◌∙◌, arith}
use Rattle.std.specs.Prelude.{IfErr}
use Rattle.walkdir.specs.Entry.{is_dir_kind, is_link}
use Rattle.walkdir.specs.Causes.{IsCausedAmong}
use Rattle.walkdir.specs.Turns.Taken.{ChecksLoop, Follows, standing_at}
use Rattle.walkdir.specs.Stack.{ancestors}
use Rattle.walkdir.specs.Walk.Entries.{entry_by, loop_at}
use Rattle.walkdir.proofs.HandlesLemmas.{err_is, kind_tested}
use Rattle.walkdir.proofs.HandlesLemmas.Followed.{follows_found, follows_loop, follows_none, follows_refused, loop_nowhere, loop_where}
use Rattle.walkdir.proofs.CausesLemmas.{caused_by_loop}
use Rattle.walkdir.specs.AnsweredTurns.{IsFoundTold}
use Rattle.walkdir.specs.declared.dent.DirEntry.{DirEntry}
use Rattle.walkdir.proofs.AnsweredLemmas.{leads_still, stack_later}
use Rattle.walkdir.proofs.AnsweredLemmas.Calls.{look_known, look_leads, look_refused}
use Rattle.walkdir.proofs.AnsweredLemmas.Loops.{loop_told}
use Rattle.walkdir.proofs.stack.Stack.followed.Goals as goal
use Rattle.walkdir.proofs.stack.Stack.followed.Goals.{then-eq+in_ok-check_loop, else-eq, then-not-self-via-then-not-self, then-not-self-via-else-not-self+then-not-is_link}

pub returns-then-not-self-clause-follows : goal.returns-then-not-self-clause-follows
returns-then-not-self-clause-follows g c =
    let no : (c.args.self.now.options.follow_links && is_link c.args.entry) ≡ false = elim c.then-not-self.branch [
      | then-not-self-via-then-not-self w ↦ grind arith
      | then-not-self-via-else-not-self+then-not-is_link w ↦ grind arith
    ] in
    follows_none (g.D.Disk.state c.args.disk.now) c.args.self.now.options (ancestors (reverse c.args.self.now.lists.items)) c.args.entry no

pub returns-in_err-meta-clause-follows : goal.returns-in_err-meta-clause-follows
returns-in_err-meta-clause-follows g c =
    let state = g.D.Disk.state c.args.disk.now in
    let walk = c.args.self.now in
    let above = ancestors (reverse walk.lists.items) in
    let link : is_link c.args.entry ≡ true = sym c.is_link.ensures.told ∙ c.if-not-is_link.false in
    subst (λ r. Follows state walk.options above c.args.entry r)
    (sym (err_is c.from_residual.result c.in_err-meta.field-0.0 c.from_residual.ensures.1))
    (follows_refused state walk.options above c.args.entry c.depth-depth.result c.into_path-path.result c.in_err-meta.field-0.0 c.if-not-self.false
    link c.depth-depth.ensures.told
    c.into_path-path.ensures.told c.in_err-meta.ensures.told)

pub returns-in_err-check_loop-clause-follows : goal.returns-in_err-check_loop-clause-follows
returns-in_err-check_loop-clause-follows g c =
    let state = g.D.Disk.state c.args.disk.now in
    let walk = c.args.self.now in
    let above = ancestors (reverse walk.lists.items) in
    let meta = c.in_ok-meta.meta in
    let error = c.in_err-check_loop.field-0.0 in
    let link : is_link c.args.entry ≡ true = sym c.is_link.ensures.told ∙ c.if-not-is_link.false in
    let dir : is_dir_kind meta.kind ≡ true = sym (c.eq.ensures ∙ kind_tested meta.kind) ∙ c.if-eq.true in
    subst (λ r. Follows state walk.options above c.args.entry r)
    (sym (err_is c.from_residual-in_err-check_loop.result error c.from_residual-in_err-check_loop.ensures.1))
    (follows_loop state walk.options above c.args.entry c.depth-depth.result c.into_path-path.result meta error c.if-not-self.false link
    c.depth-depth.ensures.told
    c.into_path-path.ensures.told c.in_ok-meta.ensures.told dir
    (subst (λ p. ChecksLoop c.depth-depth.result c.into_path-path.result (standing_at above p) (Err error)) c.place_in-place.ensures.told
    c.in_err-check_loop.ensures.checks))

pub returns-in_err-check_loop-clause-causes : goal.returns-in_err-check_loop-clause-causes
returns-in_err-check_loop-clause-causes g c =
    let walk = c.args.self.now in
    let above = ancestors (reverse walk.lists.items) in
    let error = c.in_err-check_loop.field-0.0 in
    subst (λ r. IfErr r (λ e. IsCausedAmong walk.options above e))
    (sym (err_is c.from_residual-in_err-check_loop.result error c.from_residual-in_err-check_loop.ensures.1))
    (caused_by_loop walk.options above c.place_in-place.result c.depth-depth.result c.into_path-path.result error c.if-not-self.false
    c.in_err-check_loop.ensures.checks)

pub returns-clause-follows : goal.returns-clause-follows
returns-clause-follows g c =
    let state = g.D.Disk.state c.args.disk.now in
    let walk = c.args.self.now in
    let above = ancestors (reverse walk.lists.items) in
    let meta = c.in_ok-meta.meta in
    let depth = c.depth-depth.result in
    let path = c.into_path-path.result in
    let link : is_link c.args.entry ≡ true = sym c.is_link.ensures.told ∙ c.if-not-is_link.false in
    let free : loop_at above meta ≡ None = elim c.if-eq.branch [
      | then-eq+in_ok-check_loop w ↦ loop_where above meta (sym (c.eq.ensures ∙ kind_tested meta.kind) ∙ w.if-eq.true) ∙ ap (standing_at above)
          (sym c.place_in-place.ensures.told)
          ∙ w.in_ok-check_loop.ensures.checks
      | else-eq w ↦ loop_nowhere above meta (sym (c.eq.ensures ∙ kind_tested meta.kind) ∙ w.if-eq.false)
    ] in
    subst (λ e. Follows state walk.options above c.args.entry (Ok (record { entry = e; place = Some c.place_in-place.result })))
    (sym c.entry_by.ensures.made)
    (subst (λ p. Follows state walk.options above c.args.entry (Ok (record { entry = entry_by path true depth meta; place = Some p })))
    (sym c.place_in-place.ensures.told)
    (follows_found state walk.options above c.args.entry depth path meta c.if-not-self.false link c.depth-depth.ensures.told
    c.into_path-path.ensures.told c.in_ok-meta.ensures.told free))

pub returns-then-not-self-clause-answered : goal.returns-then-not-self-clause-answered
returns-then-not-self-clause-answered g c = record { leads = leads_still g.D.Disk.answered c.args.disk.now; told = λ first told. tt }

pub returns-in_err-meta-clause-answered : goal.returns-in_err-meta-clause-answered
returns-in_err-meta-clause-answered g c =
    let by = c.in_err-meta.ensures.answered in
    let error = c.in_err-meta.field-0.0 in
    record {
      leads = look_leads g.D.Disk.answered c.depth-depth.result c.into_path-path.result true c.args.disk.now c.look.new.disk (Err error) by;
      told = λ first told.
          subst (λ r. IsFoundTold g.D.Disk.answered first c.look.new.disk r) (sym (err_is c.from_residual.result error c.from_residual.ensures.1))
          (look_refused g.D.Disk.answered first c.depth-depth.result c.into_path-path.result true c.args.disk.now c.look.new.disk error told.leads
          by);
    }

pub returns-in_err-check_loop-clause-answered : goal.returns-in_err-check_loop-clause-answered
returns-in_err-check_loop-clause-answered g c =
    let stack = reverse c.args.self.now.lists.items in
    let by = c.in_ok-meta.ensures.answered in
    let meta = c.in_ok-meta.meta in
    let error = c.in_err-check_loop.field-0.0 in
    let leads = look_leads g.D.Disk.answered c.depth-depth.result c.into_path-path.result true c.args.disk.now c.look.new.disk (Ok meta) by in
    let dir : is_dir_kind meta.kind ≡ true = sym (c.eq.ensures ∙ kind_tested meta.kind) ∙ c.if-eq.true in
    record {
      leads = leads;
      told = λ first told.
          subst (λ r. IsFoundTold g.D.Disk.answered first c.look.new.disk r)
          (sym (err_is c.from_residual-in_err-check_loop.result error c.from_residual-in_err-check_loop.ensures.1))
          (loop_told g.D.Disk.answered first c.args.disk.now c.look.new.disk stack c.depth-depth.result c.into_path-path.result meta error
          (stack_later g.D.Disk.answered first c.args.disk.now c.look.new.disk stack told leads) told.leads by dir
          (subst (λ p. ChecksLoop c.depth-depth.result c.into_path-path.result (standing_at (ancestors stack) p) (Err error))
          c.place_in-place.ensures.told c.in_err-check_loop.ensures.checks));
    }

pub returns-clause-answered : goal.returns-clause-answered
returns-clause-answered g c =
    let by = c.in_ok-meta.ensures.answered in
    record {
      leads = look_leads g.D.Disk.answered c.depth-depth.result c.into_path-path.result true c.args.disk.now c.look.new.disk
          (Ok c.in_ok-meta.meta) by;
      told = λ first told.
          look_known g.D.Disk.answered first c.depth-depth.result c.into_path-path.result c.entry_by.result.path c.args.disk.now c.look.new.disk
          c.in_ok-meta.meta c.place_in-place.result told.leads by
          (sym (ap (λ (e : DirEntry). e.path) c.entry_by.ensures.made)) c.place_in-place.ensures.told;
    }
