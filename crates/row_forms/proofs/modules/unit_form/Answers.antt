use Rattle.node_bytes.specs.Shapes.{with_list}
use Rattle.interface_format.specs.Tags.{with_named}
use Rattle.row_fields.specs.Listing.{AreItems, HasName}
use Rattle.row_forms.specs.Forms.{AreBoth, with_both, FitTables, with_tables, FitsUnit, with_unit, unit_at}
use Rattle.row_forms.proofs.Formed.{at_start, form_at_start, table_lacks, behind_table, last_table_lacks, more_behind, tables_are, no_table, not_end, is_end}
use Rattle.row_forms.proofs.modules.unit_form.Goals as goal

pub returns-in_default-2 : goal.returns-in_default-2
returns-in_default-2 c =
    at_start FitsUnit with_unit c.new-fields.result c.args.items.now c.new-fields.ensures
    (behind_table (AreBoth (AreItems HasName) FitTables) (with_both (with_list with_named) with_tables)
    c.in-Some.structures c.new-fields.result c.table.new.self (rw c.in-Some.is at c.in_ok-structures.ensures)
    (table_lacks FitTables with_tables c.table.new.self
    (no_table c.in_ok-signatures.field-0 c.table.new.self c.table-2.new.self c.in_ok-signatures.ensures (λ x e. c.in_default-2.not-Some x e))))

pub returns-in_default-3 : goal.returns-in_default-3
returns-in_default-3 c =
    at_start FitsUnit with_unit c.new-fields.result c.args.items.now c.new-fields.ensures
    (behind_table (AreBoth (AreItems HasName) FitTables) (with_both (with_list with_named) with_tables)
    c.in-Some.structures c.new-fields.result c.table.new.self (rw c.in-Some.is at c.in_ok-structures.ensures)
    (behind_table FitTables with_tables c.in-Some-2.signatures c.table.new.self c.table-2.new.self
    (rw c.in-Some-2.is at c.in_ok-signatures.ensures)
    (table_lacks (AreItems HasName) (with_list with_named) c.table-2.new.self
    (no_table c.in_ok-functors.field-0 c.table-2.new.self c.table-3.new.self c.in_ok-functors.ensures (λ x e. c.in_default-3.not-Some x e)))))

pub returns-in_default-4 : goal.returns-in_default-4
returns-in_default-4 c =
    at_start FitsUnit with_unit c.new-fields.result c.args.items.now c.new-fields.ensures
    (behind_table (AreBoth (AreItems HasName) FitTables) (with_both (with_list with_named) with_tables)
    c.in-Some.structures c.new-fields.result c.table.new.self (rw c.in-Some.is at c.in_ok-structures.ensures)
    (behind_table FitTables with_tables c.in-Some-2.signatures c.table.new.self c.table-2.new.self
    (rw c.in-Some-2.is at c.in_ok-signatures.ensures)
    (behind_table (AreItems HasName) (with_list with_named) c.in-Some-3.functors c.table-2.new.self
    c.table-3.new.self (rw c.in-Some-3.is at c.in_ok-functors.ensures)
    (last_table_lacks c.table-3.new.self
    (no_table c.in_ok-funsigs.field-0 c.table-3.new.self c.table-4.new.self c.in_ok-funsigs.ensures (λ x e. c.in_default-4.not-Some x e))))))

pub returns-then-not-at_end : goal.returns-then-not-at_end
returns-then-not-at_end c =
    at_start FitsUnit with_unit c.new-fields.result c.args.items.now c.new-fields.ensures
    (behind_table (AreBoth (AreItems HasName) FitTables) (with_both (with_list with_named) with_tables)
    c.in-Some.structures c.new-fields.result c.table.new.self (rw c.in-Some.is at c.in_ok-structures.ensures)
    (behind_table FitTables with_tables c.in-Some-2.signatures c.table.new.self c.table-2.new.self
    (rw c.in-Some-2.is at c.in_ok-signatures.ensures)
    (behind_table (AreItems HasName) (with_list with_named) c.in-Some-3.functors c.table-2.new.self
    c.table-3.new.self (rw c.in-Some-3.is at c.in_ok-functors.ensures)
    (more_behind c.in-Some-4.funsigs c.table-3.new.self c.table-4.new.self
    (rw c.in-Some-4.is at c.in_ok-funsigs.ensures) (not_end c.at_end.result c.at_end.ensures c.if-not-at_end.true)))))

pub returns : goal.returns
returns c =
    form_at_start unit_at FitsUnit with_unit
    (record {
      structures = c.in-Some.structures;
      signatures = c.in-Some-2.signatures;
      functors = c.in-Some-3.functors;
      funsigs = c.in-Some-4.funsigs;
    })
    c.new-fields.result c.args.items.now c.new-fields.ensures
    (tables_are c.in-Some.structures c.in-Some-2.signatures c.in-Some-3.functors c.in-Some-4.funsigs
    c.new-fields.result c.table.new.self c.table-2.new.self c.table-3.new.self c.table-4.new.self
    (rw c.in-Some.is at c.in_ok-structures.ensures) (rw c.in-Some-2.is at c.in_ok-signatures.ensures)
    (rw c.in-Some-3.is at c.in_ok-functors.ensures) (rw c.in-Some-4.is at c.in_ok-funsigs.ensures)
    (is_end c.at_end.result c.at_end.ensures c.if-not-at_end.false))
