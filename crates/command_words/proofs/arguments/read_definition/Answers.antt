use Rattle.std.proofs.Common.{◌∙◌, sym}
use Rattle.command_words.proofs.Joining.{definition_on}
use Rattle.command_words.proofs.arguments.read_definition.Goals as goal

pub returns-in_ok-add-in-Some : goal.returns-in_ok-add-in-Some
returns-in_ok-add-in-Some c =
    definition_on c.args.takes c.args.found.now c.args.word.now c.in-Some.def c.add.new.self
    (sym c.in_ok-def.ensures ∙ c.in-Some.is) c.in_ok-add-in-Some.ensures.ok
