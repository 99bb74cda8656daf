use Rattle.std.proofs.Common.{rules, arith, subst, ap₂, ◌∙◌, ◌-◌, ◌<◌, map}
use Rattle.unification.specs.Unification.{unify_in, unify_all}
use Rattle.unification.specs.Plain.{state_of, type_of, types_of, Steps}
use Rattle.unification.proofs.Steps.{below_is, made_step, other_step, too_many, not_empty}
use Rattle.unification.proofs.unifier.Unifier.+unify.Goals as goal

pub unify_below-returns : goal.unify_below-returns
unify_below-returns t c =
    let pos : 0 < c.args.deep = search rules in
    subst (λ z. Steps z c.unify_left.result (state_of c.unify_left.new.self))
    (below_is c.args.deep (c.args.deep - 1) c.args.a.now c.args.b.now c.in_ok-whole.whole (state_of c.args.self.now)
    (omega (arith, pos)) c.in_ok-whole.ensures) c.unify_left.ensures

pub unify_whole-returns-then-is_same : goal.unify_whole-returns-then-is_same
unify_whole-returns-then-is_same t c =
    let m = c.in-Made-Made in
    let s = state_of c.args.self.now in
    subst (λ z. Steps z c.unify_parts.result (state_of c.unify_parts.new.self))
    (ap₂ (λ x y. unify_all (unify_in c.args.deep) (types_of (map type_of x)) (types_of (map type_of y)) s)
    c.as_slice.ensures c.as_slice-then-is_same.ensures
    ∙ made_step c.args.deep m.c m.d m.ts m.us c.args.a.now c.args.b.now s m.is-0 m.is-1
    (c.is_same.ensures.0 c.if-is_same.true))
    c.unify_parts.ensures

pub unify_whole-returns-else-is_same : goal.unify_whole-returns-else-is_same
unify_whole-returns-else-is_same t c =
    let m = c.in-Made-Made in
    other_step c.args.deep m.c m.d m.ts m.us c.args.a.now c.args.b.now (state_of c.args.self.now) c.is_same.result
    m.is-0 m.is-1 c.is_same.ensures.1 c.if-is_same.false

pub unify_parts-returns-else-is_empty : goal.unify_parts-returns-else-is_empty
unify_parts-returns-else-is_empty t c =
    too_many c.args.deep c.loop-t.t-index c.args.ts.now c.loop-t.others.now c.args.us.now (state_of c.loop-t.self)
    (unify_all (unify_in c.args.deep) (types_of (map type_of c.args.ts.now)) (types_of (map type_of c.args.us.now))
    (state_of c.args.self.now))
    c.loop-t-test.false (not_empty c.loop-t.others.now c.is_empty.result c.is_empty.ensures c.if-is_empty.false)
    c.loop-t.invariant
