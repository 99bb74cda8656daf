use Rattle.interface_restoring.proofs.Units.{tables_stand, top_found, top_lacks, unit_none, unit_some}
use Rattle.interface_restoring.proofs.tops.top_over.Goals as goal

pub add_unit-requires : goal.add_unit-requires
add_unit-requires c =
    tables_stand c.requires.0 c.args.graph.now.items c.requires.1.made c.args.rows.now c.args.form.now c.in-Some.tables
    c.requires.1.bound
    (unit_some c.args.rows.now c.args.form.now c.in_ok-tables.field-0 c.in-Some.tables c.in_ok-tables.ensures
    c.in-Some.is)

pub returns-in_default-clause-is : goal.returns-in_default-clause-is
returns-in_default-clause-is c =
    top_lacks c.args.rows.now c.args.form.now c.args.graph.now.items c.args.graph.now.items
    (unit_none c.args.rows.now c.args.form.now c.in_ok-tables.field-0 c.in_ok-tables.ensures
    (λ tables e. c.in_default.not-Some tables e))

pub returns-clause-is : goal.returns-clause-is
returns-clause-is c =
    top_found c.args.rows.now c.args.form.now c.args.graph.now c.add_unit.new.graph c.in-Some.tables c.in_ok-place.place
    (unit_some c.args.rows.now c.args.form.now c.in_ok-tables.field-0 c.in-Some.tables c.in_ok-tables.ensures
    c.in-Some.is) c.in_ok-place.ensures.adds
