use Rattle.std.proofs.Common.{inl, inr}
use Rattle.row_environments.proofs.Tabled.{rows_none, rows_some, rising_names}
use Rattle.row_environments.proofs.Valued.{values_none_placed, values_some_placed, rising_values}
use Rattle.row_environments.proofs.environments.tables_of.Goals as goal

pub place_rows-requires : goal.place_rows-requires
place_rows-requires c =
    rising_names c.as_slice.result.now c.args.form.now.structures c.as_slice.ensures c.requires.named.structures

pub place_rows-requires-2 : goal.place_rows-requires-2
place_rows-requires-2 c =
    rising_names c.as_slice-2.result.now c.args.form.now.types c.as_slice-2.ensures c.requires.named.types

pub value_rows-requires-clause-rising : goal.value_rows-requires-clause-rising
value_rows-requires-clause-rising c =
    rising_values c.as_slice-3.result.now c.args.form.now.values c.as_slice-3.ensures c.requires.named.values

pub returns-in_default-clause-tables : goal.returns-in_default-clause-tables
returns-in_default-clause-tables c =
    inl (rows_none c.args.told.now.envs c.as_slice.result.now c.args.form.now.structures c.in_ok-structures.field-0
    c.in_ok-structures.ensures c.as_slice.ensures (λ rows e. c.in_default.not-Some rows e))

pub returns-in_default-2-clause-tables : goal.returns-in_default-2-clause-tables
returns-in_default-2-clause-tables c =
    inr (inl (rows_none c.args.told.now.types c.as_slice-2.result.now c.args.form.now.types c.in_ok-types.field-0
    c.in_ok-types.ensures c.as_slice-2.ensures (λ rows e. c.in_default-2.not-Some rows e)))

pub returns-in_default-3-clause-tables : goal.returns-in_default-3-clause-tables
returns-in_default-3-clause-tables c =
    inr (inr (values_none_placed c.args.told.now.entries c.value_rows.new.graph.items c.as_slice-3.result.now
    c.args.form.now.values c.in_ok-values.field-0 c.in_ok-values.ensures.rows c.as_slice-3.ensures
    (λ rows e. c.in_default-3.not-Some rows e)))

pub returns-clause-tables : goal.returns-clause-tables
returns-clause-tables c = record {
  structures = rows_some c.args.told.now.envs c.as_slice.result.now c.args.form.now.structures
      c.in_ok-structures.field-0 c.in-Some.structures c.in_ok-structures.ensures c.as_slice.ensures c.in-Some.is;
  types = rows_some c.args.told.now.types c.as_slice-2.result.now c.args.form.now.types c.in_ok-types.field-0
      c.in-Some-2.types c.in_ok-types.ensures c.as_slice-2.ensures c.in-Some-2.is;
  values = values_some_placed c.args.told.now.entries c.value_rows.new.graph.items c.as_slice-3.result.now
      c.args.form.now.values c.in_ok-values.field-0 c.in-Some-3.values c.in_ok-values.ensures.rows c.as_slice-3.ensures
      c.in-Some-3.is;
}
