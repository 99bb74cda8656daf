use Rattle.sml_types.proofs.Freezing.{front_grown}
use Rattle.table_cases.proofs.Having.{has_grown, front_stays}
use Rattle.table_cases.proofs.undoing.push_linked.Goals as goal

pub push_type-requires : goal.push_type-requires
push_type-requires c = has_grown c.args.table.now c.unify.new.self c.unify.ensures.grown c.args.ty c.requires.ty

pub returns : goal.returns
returns c = front_stays c.args.table.now c.unify.new.self c.push_type.new.table
    (front_grown c.args.table.now c.unify.new.self c.unify.ensures.grown) c.push_type.ensures
