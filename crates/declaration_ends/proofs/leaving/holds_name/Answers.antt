use Rattle.std.proofs.Common.{List, ◌∙◌, ap, ◌++◌, ◌∷◌, [], subst}
use Rattle.semantic_objects.specs.declared.name.TyId.{TyId}
use Rattle.declaration_ends.specs.Leaving.{IsStepped}
use Rattle.declaration_ends.proofs.Walking.{walk_begun, walk_has, walk_found, walk_on, walk_less, walk_done}
use Rattle.declaration_ends.proofs.leaving.holds_name.Goals as goal

pub loop-next-init : goal.loop-next-init
loop-next-init c =
    walk_begun c.args.t.now c.args.home.now c.args.from c.args.to c.args.id c.new-passed.result c.add.new.self
    c.new-passed.ensures (c.in_ok-add.ensures.ok ∙ ap (λ (xs : List TyId). xs ++ c.args.id ∷ []) c.new-ids.ensures)
    c.requires

pub step-requires : goal.step-requires
step-requires c =
    walk_has c.args.t.now c.args.home.now c.args.from c.args.to c.args.id c.in-Some.next c.loop-next.passed
    c.loop-next.ids c.pop.new.self c.loop-next.invariant c.in-Some.ensures

pub loop-next-smaller : goal.loop-next-smaller
loop-next-smaller c =
    walk_less c.args.t.now c.args.home.now c.args.from c.args.to c.in-Some.next c.loop-next.passed c.step.new.passed
    c.loop-next.ids c.pop.new.self c.step.new.ids c.in-Some.ensures
    (subst (IsStepped c.args.t.now c.args.home.now c.args.from c.args.to c.in-Some.next c.loop-next.passed
    c.step.new.passed c.pop.new.self c.step.new.ids) c.if-found.false c.in_ok-found.ensures)

pub loop-next-preserved : goal.loop-next-preserved
loop-next-preserved c =
    walk_on c.args.t.now c.args.home.now c.args.from c.args.to c.args.id c.in-Some.next c.loop-next.passed
    c.step.new.passed c.loop-next.ids c.pop.new.self c.step.new.ids c.loop-next.invariant c.in-Some.ensures
    (subst (IsStepped c.args.t.now c.args.home.now c.args.from c.args.to c.in-Some.next c.loop-next.passed
    c.step.new.passed c.pop.new.self c.step.new.ids) c.if-found.false c.in_ok-found.ensures)

pub returns-then-found : goal.returns-then-found
returns-then-found c =
    walk_found c.args.t.now c.args.home.now c.args.from c.args.to c.args.id c.in-Some.next c.loop-next.passed
    c.loop-next.ids c.pop.new.self c.loop-next.invariant c.in-Some.ensures
    (subst (IsStepped c.args.t.now c.args.home.now c.args.from c.args.to c.in-Some.next c.loop-next.passed
    c.step.new.passed c.pop.new.self c.step.new.ids) c.if-found.true c.in_ok-found.ensures)

pub returns : goal.returns
returns c =
    walk_done c.args.t.now c.args.home.now c.args.from c.args.to c.args.id c.loop-next.passed c.loop-next.ids
    c.loop-next.invariant c.in_default.ensures.0
