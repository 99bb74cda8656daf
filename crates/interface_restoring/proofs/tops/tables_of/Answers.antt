use Rattle.interface_restoring.proofs.Units.{table_none, table_some, lacks_structures, lacks_signatures, lacks_functors, lacks_funsigs}
use Rattle.interface_restoring.proofs.tops.tables_of.Goals as goal

pub returns-in_default : goal.returns-in_default
returns-in_default c =
    lacks_structures c.args.rows.now c.args.form.now
    (table_none c.args.rows.now.envs.told.envs c.as_slice.result.now c.args.form.now.structures
    c.in_ok-structures.field-0 c.in_ok-structures.ensures c.as_slice.ensures (λ rows e. c.in_default.not-Some rows e))

pub returns-in_default-2 : goal.returns-in_default-2
returns-in_default-2 c =
    lacks_signatures c.args.rows.now c.args.form.now
    (table_none c.args.rows.now.signatures c.as_slice-2.result.now c.args.form.now.signatures
    c.in_ok-signatures.field-0 c.in_ok-signatures.ensures c.as_slice-2.ensures
    (λ rows e. c.in_default-2.not-Some rows e))

pub returns-in_default-3 : goal.returns-in_default-3
returns-in_default-3 c =
    lacks_functors c.args.rows.now c.args.form.now
    (table_none c.args.rows.now.functors c.as_slice-3.result.now c.args.form.now.functors c.in_ok-functors.field-0
    c.in_ok-functors.ensures c.as_slice-3.ensures (λ rows e. c.in_default-3.not-Some rows e))

pub returns-in_default-4 : goal.returns-in_default-4
returns-in_default-4 c =
    lacks_funsigs c.args.rows.now c.args.form.now
    (table_none c.args.rows.now.functors c.as_slice-4.result.now c.args.form.now.funsigs c.in_ok-funsigs.field-0
    c.in_ok-funsigs.ensures c.as_slice-4.ensures (λ rows e. c.in_default-4.not-Some rows e))

pub returns : goal.returns
returns c = record {
  structures = table_some c.args.rows.now.envs.told.envs c.as_slice.result.now c.args.form.now.structures
      c.in_ok-structures.field-0 c.in-Some.structures c.in_ok-structures.ensures c.as_slice.ensures c.in-Some.is;
  signatures = table_some c.args.rows.now.signatures c.as_slice-2.result.now c.args.form.now.signatures
      c.in_ok-signatures.field-0 c.in-Some-2.signatures c.in_ok-signatures.ensures c.as_slice-2.ensures c.in-Some-2.is;
  functors = table_some c.args.rows.now.functors c.as_slice-3.result.now c.args.form.now.functors
      c.in_ok-functors.field-0 c.in-Some-3.functors c.in_ok-functors.ensures c.as_slice-3.ensures c.in-Some-3.is;
  funsigs = table_some c.args.rows.now.functors c.as_slice-4.result.now c.args.form.now.funsigs
      c.in_ok-funsigs.field-0 c.in-Some-4.funsigs c.in_ok-funsigs.ensures c.as_slice-4.ensures c.in-Some-4.is;
}
