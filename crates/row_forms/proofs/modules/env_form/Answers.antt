use Rattle.node_bytes.specs.Shapes.{with_list}
use Rattle.interface_format.specs.Tags.{with_named, with_value}
use Rattle.interface_nodes.specs.Fields.{value_at}
use Rattle.row_fields.specs.Listing.{each_of, AreItems, HasName, IsValueName}
use Rattle.row_forms.specs.Forms.{AreBoth, with_both, FitsEnv, with_env, env_at}
use Rattle.row_forms.proofs.Formed.{at_start, form_at_start, table_lacks, behind_table, last_lacks, more_left, lists_are, tells_values, no_table, no_values, not_end, is_end}
use Rattle.row_forms.proofs.modules.env_form.Goals as goal

pub returns-in_default-2 : goal.returns-in_default-2
returns-in_default-2 c =
    at_start FitsEnv with_env c.new-fields.result c.args.items.now c.new-fields.ensures
    (behind_table (AreBoth (AreItems HasName) (AreItems IsValueName))
    (with_both (with_list with_named) (with_list with_value)) c.in-Some.structures c.new-fields.result c.table.new.self
    (rw c.in-Some.is at c.in_ok-structures.ensures)
    (table_lacks (AreItems IsValueName) (with_list with_value) c.table.new.self
    (no_table c.in_ok-types.field-0 c.table.new.self c.table-2.new.self c.in_ok-types.ensures (λ x e. c.in_default-2.not-Some x e))))

pub returns-in_default-3 : goal.returns-in_default-3
returns-in_default-3 c =
    at_start FitsEnv with_env c.new-fields.result c.args.items.now c.new-fields.ensures
    (behind_table (AreBoth (AreItems HasName) (AreItems IsValueName))
    (with_both (with_list with_named) (with_list with_value)) c.in-Some.structures c.new-fields.result c.table.new.self
    (rw c.in-Some.is at c.in_ok-structures.ensures)
    (behind_table (AreItems IsValueName) (with_list with_value) c.in-Some-2.types c.table.new.self c.table-2.new.self
    (rw c.in-Some-2.is at c.in_ok-types.ensures)
    (last_lacks (AreItems IsValueName) (with_list with_value) c.table-2.new.self
    (no_values c.in_ok-values.field-0 c.table-2.new.self c.values.new.self c.in_ok-values.ensures (λ x e. c.in_default-3.not-Some x e)))))

pub returns-then-not-at_end : goal.returns-then-not-at_end
returns-then-not-at_end c =
    at_start FitsEnv with_env c.new-fields.result c.args.items.now c.new-fields.ensures
    (behind_table (AreBoth (AreItems HasName) (AreItems IsValueName))
    (with_both (with_list with_named) (with_list with_value)) c.in-Some.structures c.new-fields.result c.table.new.self
    (rw c.in-Some.is at c.in_ok-structures.ensures)
    (behind_table (AreItems IsValueName) (with_list with_value) c.in-Some-2.types c.table.new.self c.table-2.new.self
    (rw c.in-Some-2.is at c.in_ok-types.ensures)
    (more_left (each_of value_at) (AreItems IsValueName) (with_list with_value) c.in-Some-3.values c.table-2.new.self
    c.values.new.self tells_values (rw c.in-Some-3.is at c.in_ok-values.ensures)
    (not_end c.at_end.result c.at_end.ensures c.if-not-at_end.true))))

pub returns : goal.returns
returns c =
    form_at_start env_at FitsEnv with_env
    (record { structures = c.in-Some.structures; types = c.in-Some-2.types; values = c.in-Some-3.values })
    c.new-fields.result c.args.items.now c.new-fields.ensures
    (lists_are c.in-Some.structures c.in-Some-2.types c.in-Some-3.values c.new-fields.result c.table.new.self
    c.table-2.new.self c.values.new.self (rw c.in-Some.is at c.in_ok-structures.ensures)
    (rw c.in-Some-2.is at c.in_ok-types.ensures) (rw c.in-Some-3.is at c.in_ok-values.ensures)
    (is_end c.at_end.result c.at_end.ensures c.if-not-at_end.false))
