use Rattle.sml_types.proofs.Freezing.{fronts_then, front_grown}
use Rattle.table_cases.proofs.Having.{has_grown}
use Rattle.table_cases.proofs.undoing.push_unified.Goals as goal

pub returns-in_err-answer : goal.returns-in_err-answer
returns-in_err-answer c = front_grown c.args.table.now c.unify.new.self c.unify.ensures.grown

pub push_arrow-requires-clause-left : goal.push_arrow-requires-clause-left
push_arrow-requires-clause-left c = has_grown c.args.table.now c.unify.new.self c.unify.ensures.grown c.args.left c.requires.left

pub push_arrow-requires-clause-right : goal.push_arrow-requires-clause-right
push_arrow-requires-clause-right c = has_grown c.args.table.now c.unify.new.self c.unify.ensures.grown c.args.right c.requires.right

pub returns-in_err-push_arrow : goal.returns-in_err-push_arrow
returns-in_err-push_arrow c = fronts_then c.args.table.now c.unify.new.self c.push_arrow.new.table
    (front_grown c.args.table.now c.unify.new.self c.unify.ensures.grown) c.push_arrow.ensures

pub returns : goal.returns
returns c = fronts_then c.args.table.now c.unify.new.self c.push_arrow.new.table
    (front_grown c.args.table.now c.unify.new.self c.unify.ensures.grown) c.push_arrow.ensures
