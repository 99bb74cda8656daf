use Rattle.std.proofs.Common.{◌<◌, ◌≤◌, ◌∙◌, ap, sym, refl, subst, arith, get_or, length, length-append, ◌∷◌, []}
use Rattle.std.specs.Prelude.{All}
use Rattle.std.proofs.lemmas.List.Elements.{All-nil}
use Rattle.skeleton_asking.specs.Answers.{FindsAll}
use Rattle.skeleton_asking.specs.Short.{IsShortSkeleton}
use Rattle.skeleton_asking.specs.Skeletons.{answer_over, skeletons_over}
use Rattle.skeleton_asking.specs.declared.fault.PlanFault.TheVariants as fault
use Rattle.skeleton_asking.proofs.Shortness.{short_more}
use Rattle.skeleton_asking.proofs.Steps.{all_found, none_before, one_found, one_lost, one_stops, passed}
use Rattle.skeleton_asking.proofs.asking.find_skeletons.Goals as goal

pub loop-unit-init : goal.loop-unit-init
loop-unit-init g c = record {
  count = ap length c.new-skeletons.ensures;
  short = subst (All IsShortSkeleton) (sym c.new-skeletons.ensures) (All-nil IsShortSkeleton);
  same = refl;
  holds = refl;
  later = omega arith;
  so = λ files is. none_before c.new-skeletons.result (g.C.Compiler.asked_skeletons c.args.compiler.now)
      (skeletons_over g.C.Compiler.defines.skel files c.args.project.now) c.new-skeletons.ensures;
}

pub loop-unit-preserved : goal.loop-unit-preserved
loop-unit-preserved g c =
    let skel = g.C.Compiler.defines.skel in
    let units = c.args.project.now.units in
    record {
      count = omega (
        arith,
        ap length c.in_ok-add.ensures.ok,
        length-append c.loop-unit.skeletons (c.in_ok-skeleton.skeleton ∷ []),
        c.loop-unit.invariant.count,
      );
      short = short_more c.loop-unit.skeletons c.add.new.self c.in_ok-skeleton.skeleton c.in_ok-add.ensures.ok
          c.loop-unit.invariant.short c.in_ok-skeleton.ensures.short;
      same = c.in_ok-skeleton.ensures.same ∙ c.loop-unit.invariant.same;
      holds = c.in_ok-skeleton.ensures.holds ∙ c.loop-unit.invariant.holds;
      later = omega (arith, c.in_ok-skeleton.ensures.cause.later, c.loop-unit.invariant.later);
      so = λ files is. one_found (answer_over skel files) units c.loop-unit.unit-index c.unit-item.result
          c.in_ok-skeleton.skeleton c.loop-unit.skeletons c.add.new.self
          (g.C.Compiler.asked_skeletons c.args.compiler.now) (g.C.Compiler.asked_skeletons c.loop-unit.compiler)
          (g.C.Compiler.asked_skeletons c.skeleton_of.new.compiler) (skeletons_over skel files c.args.project.now)
          (record {
            within = subst (λ us. c.loop-unit.unit-index < length us) c.as_slice-unit-items.ensures
                c.loop-unit-test.true;
            is = c.unit-item.is
                ∙ ap (λ us. get_or us c.loop-unit.unit-index c.unit-item.result) c.as_slice-unit-items.ensures;
          })
          (c.in_ok-skeleton.ensures.finds files (c.loop-unit.invariant.holds ∙ is)) c.in_ok-add.ensures.ok
          (c.loop-unit.invariant.so files is);
    }

pub returns-in_err-skeleton-clause-finds : goal.returns-in_err-skeleton-clause-finds
returns-in_err-skeleton-clause-finds g c = λ files is.
    let skel = g.C.Compiler.defines.skel in
    let units = c.args.project.now.units in
    let old = g.C.Compiler.asked_skeletons c.args.compiler.now in
    let new = g.C.Compiler.asked_skeletons c.skeleton_of.new.compiler in
    let all = skeletons_over skel files c.args.project.now in
    passed c.from_residual.result c.in_err-skeleton.field-0.0 (λ r. FindsAll r all old new) c.from_residual.ensures.1
    (one_stops c.in_err-skeleton.field-0.0 (answer_over skel files) units c.loop-unit.unit-index c.unit-item.result
    c.loop-unit.skeletons old (g.C.Compiler.asked_skeletons c.loop-unit.compiler) new all
    (record {
      within = subst (λ us. c.loop-unit.unit-index < length us) c.as_slice-unit-items.ensures c.loop-unit-test.true;
      is = c.unit-item.is
          ∙ ap (λ us. get_or us c.loop-unit.unit-index c.unit-item.result) c.as_slice-unit-items.ensures;
    })
    (c.in_err-skeleton.ensures.finds files (c.loop-unit.invariant.holds ∙ is)) (c.loop-unit.invariant.so files is))

pub returns-in_err-add-clause-finds : goal.returns-in_err-add-clause-finds
returns-in_err-add-clause-finds g c = λ files is.
    let skel = g.C.Compiler.defines.skel in
    let units = c.args.project.now.units in
    let old = g.C.Compiler.asked_skeletons c.args.compiler.now in
    let new = g.C.Compiler.asked_skeletons c.skeleton_of.new.compiler in
    let all = skeletons_over skel files c.args.project.now in
    passed c.from_residual-in_err-add.result fault.NoMemory (λ r. FindsAll r all old new)
    c.from_residual-in_err-add.ensures.1
    (one_lost (answer_over skel files) units c.loop-unit.unit-index c.unit-item.result c.in_ok-skeleton.skeleton
    c.loop-unit.skeletons old (g.C.Compiler.asked_skeletons c.loop-unit.compiler) new all
    (record {
      within = subst (λ us. c.loop-unit.unit-index < length us) c.as_slice-unit-items.ensures c.loop-unit-test.true;
      is = c.unit-item.is
          ∙ ap (λ us. get_or us c.loop-unit.unit-index c.unit-item.result) c.as_slice-unit-items.ensures;
    })
    (c.in_ok-skeleton.ensures.finds files (c.loop-unit.invariant.holds ∙ is)) (c.loop-unit.invariant.so files is))

pub returns-clause-finds : goal.returns-clause-finds
returns-clause-finds g c = λ files is.
    all_found (answer_over g.C.Compiler.defines.skel files) c.args.project.now.units c.loop-unit.unit-index
    c.loop-unit.skeletons (g.C.Compiler.asked_skeletons c.args.compiler.now)
    (g.C.Compiler.asked_skeletons c.loop-unit.compiler)
    (skeletons_over g.C.Compiler.defines.skel files c.args.project.now)
    (subst (λ us. length us ≤ c.loop-unit.unit-index) c.as_slice-unit-items.ensures c.loop-unit-test.false)
    (c.loop-unit.invariant.so files is)

pub returns-clause-short : goal.returns-clause-short
returns-clause-short g c = c.loop-unit.invariant.short
