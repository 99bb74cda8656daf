use Rattle.std.proofs.Common.{◌∙◌, ap, ◌++◌, ◌∷◌, [], append_assoc}
use Rattle.command_parts.specs.Lines.{how_word, unit_line}
use Rattle.command_parts.proofs.lines.add_unit.Goals as goal

pub returns : goal.returns
unfolding unit_line
returns c =
    c.in_ok-add-2.ensures
    ∙ ap (λ l. l ++ 93 ∷ 10 ∷ []) (c.in_ok-add_text.ensures ∙ ap (λ l. l ++ c.args.unit.now.unit)
    (c.in_ok-add.ensures ∙ ap (λ l. c.args.out.now.items ++ l) c.how_word.ensures))
    ∙ append_assoc (c.args.out.now.items ++ how_word c.args.unit.now.how) c.args.unit.now.unit (93 ∷ 10 ∷ [])
    ∙ append_assoc c.args.out.now.items (how_word c.args.unit.now.how) (c.args.unit.now.unit ++ 93 ∷ 10 ∷ [])
