-- Each command ends as its output is delivered.
use Rattle.std.proofs.Common.{refl}
use Rattle.odb_program.specs.Session.{input_of}
use Rattle.gitodb.specs.declared.command.Command.TheVariants.{Help, Version, NoWords, NotUnderstood}
use Rattle.gitodb.specs.declared.run.TheConstants.{HELP, VERSION}
use Rattle.gitodb.proofs.SessionLemmas.{Ends-delivered}
use Rattle.gitodb.proofs.run.run.Goals as goal

pub returns-in-World-clause-ends : goal.returns-in-World-clause-ends
returns-in-World-clause-ends g c = rw (← c.in-World.ensures.command) (c.world.ensures.ends HELP.now VERSION.now)

pub returns-in-Help-clause-ends : goal.returns-in-Help-clause-ends
returns-in-Help-clause-ends g c =
    rw (← c.in-Help.ensures.command) (Ends-delivered (record {
      command = Help;
      input = input_of g.S.Source.left g.S.Source.faults c.args.source.now c.args.source.now;
      output = _;
      help = HELP.now;
      version = VERSION.now;
    }) _ _ _ (refl, c.as_bytes.ensures.value) (λ finished. (finished, tt)) c.answer.ensures.delivered)

pub returns-in-Version-clause-ends : goal.returns-in-Version-clause-ends
returns-in-Version-clause-ends g c =
    rw (← c.in-Version.ensures.command) (Ends-delivered (record {
      command = Version;
      input = input_of g.S.Source.left g.S.Source.faults c.args.source.now c.args.source.now;
      output = _;
      help = HELP.now;
      version = VERSION.now;
    }) _ _ _ (refl, c.as_bytes-in-Version.ensures.value) (λ finished. (finished, tt)) c.answer-in-Version.ensures.delivered)

pub returns-in-NoWords-clause-ends : goal.returns-in-NoWords-clause-ends
returns-in-NoWords-clause-ends g c =
    rw (← c.in-NoWords.ensures.command) (Ends-delivered (record {
      command = NoWords;
      input = input_of g.S.Source.left g.S.Source.faults c.args.source.now c.args.source.now;
      output = _;
      help = HELP.now;
      version = VERSION.now;
    }) _ _ _ (refl, c.as_bytes-in-NoWords.ensures.value) (λ finished. (refl, finished)) c.answer-in-NoWords.ensures.delivered)

pub returns-in-NotUnderstood-clause-ends : goal.returns-in-NotUnderstood-clause-ends
returns-in-NotUnderstood-clause-ends g c =
    rw (← c.in-NotUnderstood.ensures.command) (Ends-delivered (record {
      command = NotUnderstood;
      input = input_of g.S.Source.left g.S.Source.faults c.args.source.now c.args.source.now;
      output = _;
      help = HELP.now;
      version = VERSION.now;
    }) _ _ _ (refl, c.as_bytes-in-NotUnderstood.ensures.value) (λ finished. (refl, finished)) c.answer-in-NotUnderstood.ensures.delivered)
