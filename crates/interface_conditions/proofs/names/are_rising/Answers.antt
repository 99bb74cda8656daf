use Rattle.std.proofs.Common.{◌≡◌, ◌<◌, ◌≤◌, ◌-◌, suc, refl, rules, arith, length, Some, subst}
use Rattle.std.specs.Prelude.{slice_get}
use Rattle.std.proofs.lemmas.Option.{slice_get_read}
use Rattle.interface_conditions.proofs.Named.{rises_all, rises_at, not_both}
use Rattle.interface_conditions.proofs.names.are_rising.Goals as goal

pub returns-then-not-is_before : goal.returns-then-not-is_before
returns-then-not-is_before c = (
  λ t. absurd (cc),
  λ h.
      let names = c.args.names.now in
      let at = c.loop-at.at in
      let within : at < length names = search rules in
      let first : 1 ≤ at = search rules in
      let next : at ≡ suc (at - 1) = omega (arith, first) in
      let a = slice_get_read names (length names) (at - 1) _ refl (omega (arith, first, within)) c.index-names-at.is in
      let b = slice_get_read names (length names) at _ refl within c.index-names-at-in-loop-at.is in
      absurd (not_both c.is_before.result c.if-not-is_before.true (c.is_before.ensures.1 (rises_at names (at - 1) _ _ h a
      (subst (λ i. slice_get names i ≡ Some c.index-names-at-in-loop-at.result) next b)))),
)

pub returns : goal.returns
returns c = (
  λ t. rises_all c.loop-at.at c.args.names.now c.loop-at.invariant c.loop-at-test.false,
  λ h. refl,
)
