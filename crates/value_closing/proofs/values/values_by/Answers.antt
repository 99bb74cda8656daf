use Rattle.std.proofs.Common.{◌∙◌, subst}
use Rattle.value_closing.specs.Closings.{IsValueBy}
use Rattle.value_closing.proofs.Closings.{values_next}
use Rattle.value_closing.proofs.values.values_by.Goals as goal

pub loop-variable-preserved : goal.loop-variable-preserved
loop-variable-preserved c = record {
  same = c.in_ok-value_by.ensures.same ∙ c.loop-variable.invariant.same;
  made = values_next c.args.t.now c.args.variables c.args.schemes c.loop-variable.variable-iterator.rest.items
      c.next.new.self.rest.items c.in-Some.variable c.loop-variable.left c.value_by.new.left c.loop-variable.values
      c.add.new.self c.in_ok-value_by.field-0 c.loop-variable.invariant.made c.in-Some.ensures.steps.0
      (subst (λ t. IsValueBy t c.in-Some.variable c.loop-variable.left c.value_by.new.left c.in_ok-value_by.field-0)
      c.loop-variable.invariant.same c.in_ok-value_by.ensures.value)
      c.in_ok-add.ensures.ok;
}
