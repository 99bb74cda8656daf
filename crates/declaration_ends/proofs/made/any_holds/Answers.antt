use Rattle.std.proofs.Common.{◌+◌, ◌∙◌, refl, sym, drop, get_or, eqb, eq-eqb}
use Rattle.env_parts.proofs.Tabling.{drop_next, drop_past}
use Rattle.declaration_ends.proofs.Sizing.{any_here, any_behind, none_any, not_one}
use Rattle.declaration_ends.proofs.made.any_holds.Goals as goal

pub loop-fact-preserved : goal.loop-fact-preserved
loop-fact-preserved c =
    let flags = c.args.flags.now in
    let i = c.loop-fact.fact-index in
    c.loop-fact.invariant
    ∙ any_behind (eqb 1) (drop i flags) (drop (i + 1) flags) (get_or flags i 0) (eqb 1 (get_or flags i 0))
    (drop_next i flags 0 c.loop-fact-test.true) refl (not_one (get_or flags i 0) c.if-fact-eq1.false)

pub returns-then-fact-eq1 : goal.returns-then-fact-eq1
returns-then-fact-eq1 c =
    let flags = c.args.flags.now in
    let i = c.loop-fact.fact-index in
    any_here (eqb 1) (drop i flags) (drop (i + 1) flags) (get_or flags i 0) (eqb 1 (get_or flags i 0))
    (drop_next i flags 0 c.loop-fact-test.true) refl (eq-eqb 1 (get_or flags i 0) (sym c.if-fact-eq1.true))
    ∙ sym c.loop-fact.invariant

pub returns : goal.returns
returns c =
    none_any (eqb 1) (drop c.loop-fact.fact-index c.args.flags.now)
    (drop_past c.loop-fact.fact-index c.args.flags.now c.loop-fact-test.false)
    ∙ sym c.loop-fact.invariant
