use Rattle.std.proofs.Common.{refl, sym, subst, ◌∙◌}
use Rattle.sml_types.specs.Frames.{seen}
use Rattle.sml_types.specs.Occurring.{lacks, Met}
use Rattle.sml_types.proofs.Occurring.{met_clear, met_variable, lacks_fixed}
use Rattle.sml_types.proofs.occurs.meets.Goals as goal

pub returns-in-Variable : goal.returns-in-Variable
returns-in-Variable c = met_variable c.args.variable c.in-Variable.at _ _ _ _ (sym c.in-Variable.ensures.whole ∙ c.in-Variable.ensures.end.1) refl

pub returns-else-facts : goal.returns-else-facts
returns-else-facts c = met_clear _ _ _ _ (subst (lacks c.args.variable) c.in-Made.ensures.whole
    (lacks_fixed c.args.variable c.in-Made.at c.args.table.now _ c.is_kept.ensures.kept c.requires.flexible c.facts.ensures c.if-facts.false))

pub returns-in_ok-meets_node-in-Made : goal.returns-in_ok-meets_node-in-Made
returns-in_ok-meets_node-in-Made c = subst (λ u. Met c.args.variable (seen c.args.table.now) u c.args.frames.now c.meets_node.new.frames c.in_ok-meets_node-in-Made.field-0) c.in-Made.ensures.whole c.in_ok-meets_node-in-Made.ensures
