use Rattle.std.proofs.Common.{◌≡◌, IfOk, subst}
use Rattle.semantic_objects.specs.declared.entry.ValueEntry.{ValueEntry}
use Rattle.unification.specs.Instances as schemes
use Rattle.type_nodes.specs.Tables.{state, type_of}
use Rattle.pattern_elab.proofs.Scoping.{entered_under, same_under}
use Rattle.pattern_elab.proofs.value.instance.Goals as goal

pub bound_instance-requires : goal.bound_instance-requires
bound_instance-requires c =
    entered_under c.args.t.now c.args.scope.now c.args.long.now c.in-Some.bound.now c.requires.entered
    c.in-Some.ensures

pub returns-in-Some-clause-made : goal.returns-in-Some-clause-made
returns-in-Some-clause-made c =
    subst (λ (e : ValueEntry). IfOk c.bound_instance.result
    (λ id. type_of c.bound_instance.new.t id ≡ (schemes.instance e.scheme (state c.args.t.now)).0))
    (same_under c.args.scope.now c.args.long.now c.in-Some.bound.now c.args.value.now c.in-Some.ensures c.requires.named)
    c.bound_instance.ensures.made

pub returns-in-Some-clause-state : goal.returns-in-Some-clause-state
returns-in-Some-clause-state c =
    subst (λ (e : ValueEntry). IfOk c.bound_instance.result
    (λ id. state c.bound_instance.new.t ≡ (schemes.instance e.scheme (state c.args.t.now)).1))
    (same_under c.args.scope.now c.args.long.now c.in-Some.bound.now c.args.value.now c.in-Some.ensures c.requires.named)
    c.bound_instance.ensures.state
