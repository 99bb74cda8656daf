use Rattle.std.proofs.Common.{◌≡◌, ◌<◌, ◌≤◌, ◌-◌, suc, refl, rules, arith, length}
use Rattle.std.proofs.lemmas.Option.{slice_get-get_or}
use Rattle.given_tops.proofs.Constructors.{cons_all, rise_next, rise_fails}
use Rattle.given_tops.proofs.entries.cons_rise.Goals as goal

pub loop-at-preserved : goal.loop-at-preserved
loop-at-preserved c =
    let cons = c.args.cons.now in
    let at = c.loop-at.at in
    let within : at < length cons = search rules in
    let first : 1 ≤ at = search rules in
    let next : suc (at - 1) ≡ at = omega (arith, first) in
    rise_next cons (at - 1) at _ _ c.is_before.result next
    (slice_get-get_or cons (at - 1) c.index-cons-at.result (omega (arith, first, within)))
    (slice_get-get_or cons at c.index-cons-at-in-loop-at.result within)
    c.is_before.ensures c.if-not-is_before.false c.loop-at.invariant

pub returns-then-not-is_before : goal.returns-then-not-is_before
returns-then-not-is_before c =
    let cons = c.args.cons.now in
    let at = c.loop-at.at in
    let within : at < length cons = search rules in
    let first : 1 ≤ at = search rules in
    let next : suc (at - 1) ≡ at = omega (arith, first) in
    rise_fails cons (at - 1) at _ _ c.is_before.result next
    (slice_get-get_or cons (at - 1) c.index-cons-at.result (omega (arith, first, within)))
    (slice_get-get_or cons at c.index-cons-at-in-loop-at.result within)
    c.is_before.ensures c.if-not-is_before.true

pub returns : goal.returns
returns c = (
  λ t. cons_all c.loop-at.at c.args.cons.now c.loop-at.invariant c.loop-at-test.false,
  λ h. refl,
)
