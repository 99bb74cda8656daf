use Rattle.std.proofs.Common.{arith, sym, ◌∙◌}
use Rattle.semantic_objects.specs.declared.name.TyId.TheVariants as id
use Rattle.sml_types.proofs.Pairing.{meeting_variables, meeting_left, meeting_right, meeting_as}
use Rattle.sml_types.proofs.unify.meet_ends.Goals as goal

pub returns-in-Variable-Variable-clause-answer : goal.returns-in-Variable-Variable-clause-answer
returns-in-Variable-Variable-clause-answer c = let k = c.in-Variable-Variable in
    meeting_variables c.args.table.now c.link.new.table c.args.depth k.v k.w c.args.left c.args.right c.args.pairs.now
    c.link.result c.is_kept.ensures.kept (omega arith) (sym k.ensures.whole ∙ k.ensures.end.1)
    (sym k.ensures'.whole ∙ k.ensures'.end.1) c.link.ensures.answer

pub returns-in-Variable-Made-clause-answer : goal.returns-in-Variable-Made-clause-answer
returns-in-Variable-Made-clause-answer c = let k = c.in-Variable-Made in
    meeting_left c.args.table.now c.solve.new.table c.args.depth k.v k.i c.args.left c.args.right c.args.pairs.now
    c.solve.result c.is_kept.ensures.kept (omega arith) k.ensures'.has (sym k.ensures.whole ∙ k.ensures.end.1)
    k.ensures'.whole c.solve.ensures.answer

pub returns-in-Made-Variable-clause-answer : goal.returns-in-Made-Variable-clause-answer
returns-in-Made-Variable-clause-answer c = let k = c.in-Made-Variable in
    meeting_right c.args.table.now c.solve-in-Made-Variable.new.table c.args.depth k.v k.i c.args.left c.args.right
    c.args.pairs.now c.solve-in-Made-Variable.result c.is_kept.ensures.kept (omega arith) k.ensures.has k.ensures.whole
    (sym k.ensures'.whole ∙ k.ensures'.end.1) c.solve-in-Made-Variable.ensures.answer

pub returns-in-Made-Made-clause-answer : goal.returns-in-Made-Made-clause-answer
returns-in-Made-Made-clause-answer c = let k = c.in-Made-Made in
    meeting_as c.args.table.now c.args.table.now c.args.depth c.args.left c.args.right (id.Made k.i) (id.Made k.j)
    c.args.pairs.now c.meet_nodes.new.pairs c.meet_nodes.result c.is_kept.ensures.kept k.ensures.whole k.ensures'.whole
    c.meet_nodes.ensures.answer
