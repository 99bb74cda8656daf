use Rattle.std.proofs.Common.{◌∙◌, ap, sym, ◌++◌, ◌∷◌, []}
use Rattle.command_words.proofs.Joining.{operand_on}
use Rattle.command_words.proofs.arguments.read_operand.Goals as goal

pub returns : goal.returns
returns c =
    operand_on c.args.takes c.args.found.now c.args.word.now c.add.new.self
    (sym c.marks_definition.ensures ∙ c.if-marks_definition.false) (sym c.begins_with_dash.ensures ∙ c.if-begins_with_dash.false)
    (c.in_ok-add.ensures.ok ∙ ap (λ w. c.args.found.now.operands ++ w ∷ []) c.in_ok-from_bytes.ensures)
