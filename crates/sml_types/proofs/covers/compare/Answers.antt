use Rattle.sml_types.proofs.Freezing.{fronts_then, front_grown, front_to, have_two, own_at, compared_at, compared_answer, pattern_whole, instance_whole, next_within}
use Rattle.sml_types.proofs.covers.compare.Goals as goal

pub returns-in_err-instance-clause-front : goal.returns-in_err-instance-clause-front
returns-in_err-instance-clause-front c = front_to c.args.table.now c.instantiate.new.table c.in_err-instance.ensures.refused

pub returns-in_err-pattern-clause-front : goal.returns-in_err-pattern-clause-front
returns-in_err-pattern-clause-front c = fronts_then c.args.table.now c.instantiate.new.table c.instantiate-2.new.table
    c.in_ok-instance.ensures.extends.front
    (front_to c.instantiate.new.table c.instantiate-2.new.table c.in_err-pattern.ensures.refused)

pub freeze_all-requires-clause-has : goal.freeze_all-requires-clause-has
freeze_all-requires-clause-has c = have_two c.instantiate-2.new.table c.in_ok-pattern.pattern c.in_ok-instance.instance
    c.in_ok-pattern.ensures.has (c.in_ok-pattern.ensures.extends.ids c.in_ok-instance.instance c.in_ok-instance.ensures.has)

pub freeze_all-requires-clause-within : goal.freeze_all-requires-clause-within
freeze_all-requires-clause-within c = next_within c.instantiate.new.table c.instantiate-2.new.table c.variables-own.result
    c.in_ok-pattern.ensures.extends c.variables-own.ensures

pub freeze_all-requires-clause-own : goal.freeze_all-requires-clause-own
freeze_all-requires-clause-own c = own_at c.args.table.now c.instantiate.new.table c.instantiate-2.new.table c.args.general.now
    c.args.special.now c.variables-own.result c.is_kept.ensures.kept c.is_kept-2.ensures.kept c.in_ok-instance.ensures.state
    c.in_ok-pattern.ensures.state c.variables-own.ensures

pub returns-in_err-freeze_all-clause-front : goal.returns-in_err-freeze_all-clause-front
returns-in_err-freeze_all-clause-front c = fronts_then c.args.table.now c.instantiate.new.table c.freeze_all.new.table
    c.in_ok-instance.ensures.extends.front
    (fronts_then c.instantiate.new.table c.instantiate-2.new.table c.freeze_all.new.table c.in_ok-pattern.ensures.extends.front
    c.freeze_all.ensures.follows.front)

pub returns-in_err-can_be_one-clause-front : goal.returns-in_err-can_be_one-clause-front
returns-in_err-can_be_one-clause-front c = fronts_then c.args.table.now c.instantiate.new.table c.can_be_one.new.table
    c.in_ok-instance.ensures.extends.front
    (fronts_then c.instantiate.new.table c.instantiate-2.new.table c.can_be_one.new.table c.in_ok-pattern.ensures.extends.front
    (fronts_then c.instantiate-2.new.table c.freeze_all.new.table c.can_be_one.new.table c.freeze_all.ensures.follows.front
    (front_grown c.freeze_all.new.table c.can_be_one.new.table c.can_be_one.ensures.grown)))

pub returns-clause-front : goal.returns-clause-front
returns-clause-front c = fronts_then c.args.table.now c.instantiate.new.table c.can_be_one.new.table
    c.in_ok-instance.ensures.extends.front
    (fronts_then c.instantiate.new.table c.instantiate-2.new.table c.can_be_one.new.table c.in_ok-pattern.ensures.extends.front
    (fronts_then c.instantiate-2.new.table c.freeze_all.new.table c.can_be_one.new.table c.freeze_all.ensures.follows.front
    (front_grown c.freeze_all.new.table c.can_be_one.new.table c.can_be_one.ensures.grown)))

pub can_be_one-requires-clause-left : goal.can_be_one-requires-clause-left
can_be_one-requires-clause-left c = c.freeze_all.ensures.follows.ids c.in_ok-pattern.pattern c.in_ok-pattern.ensures.has

pub can_be_one-requires-clause-right : goal.can_be_one-requires-clause-right
can_be_one-requires-clause-right c = c.freeze_all.ensures.follows.ids c.in_ok-instance.instance
    (c.in_ok-pattern.ensures.extends.ids c.in_ok-instance.instance c.in_ok-instance.ensures.has)

pub returns-clause-covers : goal.returns-clause-covers
returns-clause-covers c =
    let t = c.args.table.now in
    let a = c.instantiate.new.table in
    let b = c.instantiate-2.new.table in
    let d = c.freeze_all.new.table in
    let g = c.args.general.now in
    let h = c.args.special.now in
    let x = c.in_ok-instance.instance in
    let y = c.in_ok-pattern.pattern in
    let f = c.in_ok-freeze_all.ensures.frozen in
    compared_answer t d g h x y f.names c.in_ok-can_be_one.field-0
    (compared_at t a b d g h x y c.variables-own.result c.is_kept.ensures.kept c.is_kept-2.ensures.kept c.is_kept-3.ensures.kept
    c.is_kept-4.ensures.kept c.in_ok-instance.ensures.state c.in_ok-instance.ensures.made c.in_ok-instance.ensures.has
    c.in_ok-pattern.ensures.state c.in_ok-pattern.ensures.made c.in_ok-pattern.ensures.has c.in_ok-pattern.ensures.extends
    c.variables-own.ensures c.requires.general c.requires.special f)
    (pattern_whole t a b d g h y c.in_ok-instance.ensures.state c.in_ok-pattern.ensures.made c.in_ok-pattern.ensures.has
    c.freeze_all.ensures.follows)
    (instance_whole t a b d h x c.in_ok-instance.ensures.made c.in_ok-instance.ensures.has c.in_ok-pattern.ensures.extends
    c.freeze_all.ensures.follows)
    c.in_ok-can_be_one.ensures.decided
