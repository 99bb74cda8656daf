use Rattle.core_scopes.specs.declared.value.ValueInScope.TheVariants as value
use Rattle.signature_parts.proofs.Binding.{values_more}
use Rattle.signature_parts.proofs.scoping.list_values.Goals as goal

pub loop-row-preserved : goal.loop-row-preserved
loop-row-preserved g c = λ read.
    values_more read c.loop-row.list c.add.new.self
    (record { name = c.in_ok-copy.field-0; entry = value.Entry c.in_ok-copy_value.field-0 }) c.args.rows.now
    c.loop-row.row-index c.row-item.result c.in_ok-add.ensures.ok (c.loop-row.invariant read) c.loop-row-test.true
    c.row-item.is c.in_ok-copy.ensures c.in_ok-copy_value.ensures
