use Rattle.std.proofs.Common.{refl, sym, ◌∙◌}
use Rattle.sml_types.proofs.Occurring.{met_clear, met_node}
use Rattle.sml_types.proofs.occurs.meets_node.Goals as goal

pub returns-in-Some : goal.returns-in-Some
returns-in-Some c = met_clear _ _ _ _ (c.requires.clear c.args.at c.in-Some.field-0 (sym c.of.ensures ∙ c.in-Some.is))

pub returns-in_ok-add-in-None : goal.returns-in_ok-add-in-None
returns-in_ok-add-in-None c = rw c.in_ok-add-in-None.ensures.ok (met_node _ _ _ _ _ _ c.is_kept.ensures.kept c.requires.has refl
    c.of_node.ensures.node c.of_node.ensures.next)
