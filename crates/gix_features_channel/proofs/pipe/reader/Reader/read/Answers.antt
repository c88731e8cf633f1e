-- What was given so far, with nothing added, and what is given next.
use Rattle.std.proofs.Common.{◌≡◌, ◌≤◌, ◌+◌, ◌-◌, ◌∷◌, [], length, map, take, drop, refl, sym, ap, ◌∙◌, subst, arith, rules}
use Rattle.gix_features_channel.specs.Pipe.{Byte, Failure, Reads}
use Rattle.gix_features_channel.proofs.PipeLemmas.{Reads-then, Reads-idle, Reads-into, none_known, rest_into, noted_none, noted_ended}
use Rattle.gix_features_channel.specs.declared.pipe.reader.Reader.{Reader}
use borrow.Rule.Slice.PartMut.{put_mid}
use Rattle.gix_features_channel.proofs.pipe.reader.Reader.read.Goals as goal
use Rattle.gix_features_channel.proofs.pipe.reader.Reader.read.Goals.{then-filled-eq0+in_default, else-filled-eq0, then-filled-out-via-then-filled-out, then-filled-out-via-else-filled-out+then-not-reach}

pub filling-init : goal.filling-init
filling-init g c = record { within = omega arith; given = c.begin.ensures.nothing; rest = refl; note = c.begin.ensures.none }

pub returns-then-filled-out-clause-noted : goal.returns-then-filled-out-clause-noted
returns-then-filled-out-clause-noted g c =
    elim c.then-filled-out.branch [
      | then-filled-out-via-then-filled-out w ↦ rw w.self-is (noted_none c.filling.self c.filling.invariant.note)
      | then-filled-out-via-else-filled-out+then-not-reach w ↦ rw w.self-is (noted_ended w.reach.new.self (w.reach.ensures.ended (search rules)))
    ]

pub returns-then-filled-out-clause-given : goal.returns-then-filled-out-clause-given
returns-then-filled-out-clause-given g c =
    elim c.then-filled-out.branch [
      | then-filled-out-via-then-filled-out w ↦ rw w.self-is c.filling.invariant.given
      | then-filled-out-via-else-filled-out+then-not-reach w ↦ rw w.self-is (Reads-idle c.args.self.now c.filling.self w.reach.new.self _ c.filling.invariant.given w.reach.ensures.nothing)
    ]

pub returns-in-Some-failure-clause-error : goal.returns-in-Some-failure-clause-error
returns-in-Some-failure-clause-error g c =
    let begun = subst (λ n. Reads c.args.self.now c.filling.self (map Byte (take n c.filling.out))) c.if-filled-eq0.true c.filling.invariant.given in (
      Reads-then c.args.self.now c.reach.new.self c.failure.new.self [] (Failure c.in-Some-failure.error ∷ [])
          (Reads-then c.args.self.now c.filling.self c.reach.new.self [] [] begun c.reach.ensures.nothing) c.in-Some-failure.ensures.given,
      subst (λ n. drop n c.filling.out ≡ drop n c.args.out.now) c.if-filled-eq0.true c.filling.invariant.rest,
    )

pub returns-in-Some-failure-clause-noted : goal.returns-in-Some-failure-clause-noted
returns-in-Some-failure-clause-noted g c =
    noted_none c.failure.new.self (c.failure.ensures.note ∙ c.reach.ensures.note (search rules) ∙ c.filling.invariant.note)

pub returns-then-given-eq0-clause-noted : goal.returns-then-given-eq0-clause-noted
returns-then-given-eq0-clause-noted g c =
    let same : c.if-filled-eq0.self ≡ c.reach.new.self = elim c.if-filled-eq0.branch [
      | then-filled-eq0+in_default w ↦ w.self-is ∙ (none_known w.failure.result w.in_default.not-Some w.failure.ensures.none).0
      | else-filled-eq0 w ↦ w.self-is
    ] in
    noted_none c.give-given.new.self (c.give-given.ensures.note ∙ ap (λ (r : Reader). r.has_ended) same ∙ c.reach.ensures.note (search rules) ∙ c.filling.invariant.note)

pub returns-then-given-eq0-clause-given : goal.returns-then-given-eq0-clause-given
returns-then-given-eq0-clause-given g c =
    let same : c.if-filled-eq0.self ≡ c.reach.new.self = elim c.if-filled-eq0.branch [
      | then-filled-eq0+in_default w ↦ w.self-is ∙ (none_known w.failure.result w.in_default.not-Some w.failure.ensures.none).0
      | else-filled-eq0 w ↦ w.self-is
    ] in
    let begun = subst (λ s. Reads c.args.self.now s (map Byte (take c.filling.filled c.filling.out))) (sym same)
    (Reads-idle c.args.self.now c.filling.self c.reach.new.self _ c.filling.invariant.given c.reach.ensures.nothing) in
    let few : c.give-given.result ≤ length c.give-given.new.out = omega (arith, c.give-given.ensures.count, c.give-given.auto.out) in
    let all = Reads-into c.args.self.now c.if-filled-eq0.self c.give-given.new.self c.filling.filled (length c.filling.out - c.filling.filled) c.give-given.result
    c.filling.out c.give-given.new.out c.filling.invariant.within few begun c.give-given.ensures.given in
    let none : c.filling.filled + c.give-given.result ≡ c.filling.filled = omega (arith, c.if-given-eq0.true) in
    subst (λ n. Reads c.args.self.now c.give-given.new.self
    (map Byte (take n (put_mid c.filling.filled (length c.filling.out - c.filling.filled) c.filling.out c.give-given.new.out)))) none all

pub filling-preserved : goal.filling-preserved
filling-preserved g c =
    let same : c.if-filled-eq0.self ≡ c.reach.new.self = elim c.if-filled-eq0.branch [
      | then-filled-eq0+in_default w ↦ w.self-is ∙ (none_known w.failure.result w.in_default.not-Some w.failure.ensures.none).0
      | else-filled-eq0 w ↦ w.self-is
    ] in
    let begun = subst (λ s. Reads c.args.self.now s (map Byte (take c.filling.filled c.filling.out))) (sym same)
    (Reads-idle c.args.self.now c.filling.self c.reach.new.self _ c.filling.invariant.given c.reach.ensures.nothing) in
    let few : c.give-given.result ≤ length c.give-given.new.out = omega (arith, c.give-given.ensures.count, c.give-given.auto.out) in
    record {
      within = search rules;
      given = Reads-into c.args.self.now c.if-filled-eq0.self c.give-given.new.self c.filling.filled (length c.filling.out - c.filling.filled) c.give-given.result
          c.filling.out c.give-given.new.out c.filling.invariant.within few begun c.give-given.ensures.given;
      rest = rest_into c.filling.filled (length c.filling.out - c.filling.filled) c.give-given.result c.filling.out c.give-given.new.out c.args.out.now
          c.filling.invariant.within refl few c.give-given.ensures.rest c.filling.invariant.rest;
      note = c.give-given.ensures.note ∙ ap (λ (r : Reader). r.has_ended) same ∙ c.reach.ensures.note (search rules) ∙ c.filling.invariant.note;
    }
