use Rattle.std.proofs.Common.{subst, ap, ◌∙◌, ◌++◌, ◌∷◌, []}
use Rattle.sml_types.specs.Frames.{seen}
use Rattle.sml_types.specs.Occurring.{Met}
use Rattle.type_nodes.specs.Tables.{whole}
use Rattle.sml_types.proofs.Occurring.{stepped_none, stepped_part, clear_more, lacks_passed, last_frame}
use Rattle.sml_types.proofs.occurs.looks_on.Goals as goal

pub part-requires : goal.part-requires
part-requires c = (last_frame c.args.variable c.args.table.now c.args.frames.now c.args.frame c.requires.frames).within

pub returns-in_ok-set-in-None-clause-found : goal.returns-in_ok-set-in-None-clause-found
returns-in_ok-set-in-None-clause-found c =
    stepped_none c.args.variable c.args.table.now c.args.frames.now c.args.frame c.is_kept.ensures.kept c.in-None.ensures c.requires.frames

pub returns-in_ok-set-in-None-clause-clear : goal.returns-in_ok-set-in-None-clause-clear
returns-in_ok-set-in-None-clause-clear c = clear_more c.args.variable (seen c.args.table.now) c.args.frame.node c.args.frame.node c.args.clear.now c.set.new.self c.requires.clear
    (lacks_passed c.args.variable c.args.table.now c.args.frame c.is_kept.ensures.kept c.in-None.ensures
    (last_frame c.args.variable c.args.table.now c.args.frames.now c.args.frame c.requires.frames)) c.in_ok-set-in-None.ensures

pub returns-in_ok-meets-in-Some-clause-found : goal.returns-in_ok-meets-in-Some-clause-found
returns-in_ok-meets-in-Some-clause-found c = stepped_part c.args.variable c.args.table.now c.args.frames.now c.meets.new.frames
    c.args.frame c.in-Some.part c.in_ok-meets-in-Some.field-0 c.in-Some.ensures c.requires.frames
    (subst (λ fs. Met c.args.variable (seen c.args.table.now) (whole c.args.table.now c.in-Some.part) fs c.meets.new.frames
    c.in_ok-meets-in-Some.field-0)
    (c.in_ok-add-in-Some.ensures.ok ∙ ap (λ f. c.args.frames.now ++ f ∷ []) c.in_ok-after-in-Some.ensures)
    c.in_ok-meets-in-Some.ensures)
