use Rattle.node_bytes.specs.Tables.{table_nodes}
use Rattle.sml_modules.specs.Graphs.{top_at}
use Rattle.interface_reading.specs.Remaining.{last_node}
use Rattle.row_entries.proofs.Found.{not_so, is_so}
use Rattle.interface_restoring.proofs.Reading.{of_rest, no_unit, no_names, is_interface, not_built, built, reads_not}
use Rattle.interface_restoring.proofs.restoring.read.Goals as goal

pub returns-in_err-table-clause-reads : goal.returns-in_err-table-clause-reads
returns-in_err-table-clause-reads c =
    reads_not c.args.home.now c.args.bytes.now c.in-Some.rest.now c.args.graph.now c.from_residual.result
    c.in_err-table.field-0.0 c.from_residual.ensures.1 c.in-Some.ensures c.in_err-table.ensures

pub returns-in_default-2-clause-reads : goal.returns-in_default-2-clause-reads
returns-in_default-2-clause-reads c =
    no_unit c.args.home.now c.args.bytes.now (last_node (table_nodes c.as_slice.result.now))
    (of_rest c.args.bytes.now c.in-Some.rest.now c.in_ok-table.table.keys c.as_slice.result.now c.in-Some.ensures
    c.in_ok-table.ensures c.as_slice.ensures.keys)
    (not_built c.args.home.now c.as_slice.result.now c.build.new.graph c.in_ok-top.field-0 c.in_ok-top.ensures.is
    (λ id e. c.in_default-2.not-Some id e))

pub returns-then-not-branch-clause-reads : goal.returns-then-not-branch-clause-reads
returns-then-not-branch-clause-reads c =
    no_names c.args.home.now c.args.bytes.now (last_node (table_nodes c.as_slice.result.now))
    (top_at c.build.new.graph c.in-Some-2.top)
    (of_rest c.args.bytes.now c.in-Some.rest.now c.in_ok-table.table.keys c.as_slice.result.now c.in-Some.ensures
    c.in_ok-table.ensures c.as_slice.ensures.keys)
    (built c.args.home.now c.as_slice.result.now c.build.new.graph c.in_ok-top.field-0 c.in-Some-2.top
    c.in_ok-top.ensures.is c.in-Some-2.is).is
    (not_so c.in_ok-has_names.field-0 c.in_ok-has_names.ensures c.if-not-branch.true)

pub returns-clause-reads : goal.returns-clause-reads
returns-clause-reads c =
    let stands = built c.args.home.now c.as_slice.result.now c.build.new.graph c.in_ok-top.field-0 c.in-Some-2.top
    c.in_ok-top.ensures.is c.in-Some-2.is in record {
      there = stands.kind;
      is = is_interface c.args.home.now c.args.bytes.now (last_node (table_nodes c.as_slice.result.now))
          (top_at c.build.new.graph c.in-Some-2.top) (record { below = λ i. (c.type_inv.bytes i).fits }) c.requires
          (of_rest c.args.bytes.now c.in-Some.rest.now c.in_ok-table.table.keys c.as_slice.result.now c.in-Some.ensures
          c.in_ok-table.ensures c.as_slice.ensures.keys)
          stands.is (is_so c.in_ok-has_names.field-0 c.in_ok-has_names.ensures c.if-not-branch.false);
    }
