use Rattle.std.proofs.Common.{subst, ap, ◌∙◌, ◌++◌, ◌∷◌, []}
use Rattle.type_nodes.specs.Tables.{state, whole}
use Rattle.sml_types.specs.Frames.{seen, nothing}
use Rattle.sml_types.specs.Requiring.{admitted, by_parts, Demanded}
use Rattle.sml_types.proofs.Frames.{frames_pop}
use Rattle.sml_types.proofs.Requiring.{required_none, required_part}
use Rattle.sml_types.proofs.require.demand_next.Goals as goal

pub part-requires : goal.part-requires
part-requires c = (frames_pop by_parts (admitted (state c.args.table.now).marks) nothing (seen c.args.table.now) c.args.frames.now
    c.args.frame c.requires.frames).1.within

pub returns-in_ok-set-in-None-clause-answer : goal.returns-in_ok-set-in-None-clause-answer
returns-in_ok-set-in-None-clause-answer c = required_none c.args.table.now c.args.frames.now c.args.frame c.args.frame.node
    c.args.done.now c.set.new.self c.is_kept.ensures.kept c.in-None.ensures c.requires.frames c.requires.done
    c.in_ok-set-in-None.ensures

pub returns-in_ok-add-in-Some-clause-answer : goal.returns-in_ok-add-in-Some-clause-answer
returns-in_ok-add-in-Some-clause-answer c = required_part c.args.table.now c.demand.new.table c.args.frames.now
    c.demand.new.frames c.args.frame c.in-Some.part c.args.done.now c.demand.result c.in-Some.ensures c.requires.frames
    c.requires.done c.demand.ensures.only
    (subst (λ fs. Demanded c.args.table.now c.demand.new.table (whole c.args.table.now c.in-Some.part) fs c.demand.new.frames
    c.demand.result) (c.in_ok-add-in-Some.ensures.ok ∙ ap (λ f. c.args.frames.now ++ f ∷ []) c.in_ok-after-in-Some.ensures)
    c.demand.ensures.answer)
