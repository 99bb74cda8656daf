use Rattle.std.proofs.Common.{◌∙◌, sym, ap}
use Rattle.sml_modules.specs.Graphs.{top_at}
use Rattle.sml_modules.specs.Nodes.{top_of_tables}
use Rattle.realisation.specs.Names.{names_in_top}
use Rattle.canonical_walks.proofs.Binding.{none_bound}
use Rattle.canonical_walks.proofs.Topped.{top_given}
use Rattle.canonical_walks.proofs.tops.canon_top.Goals as goal

pub canon_tables-requires-clause-own : goal.canon_tables-requires-clause-own
canon_tables-requires-clause-own c = none_bound c.args.graph.now.home
    (names_in_top (top_of_tables c.args.graph.now.items c.in_ok-tables.tables)) c.in_ok-own.own c.in_ok-own.ensures

pub returns-clause-gives : goal.returns-clause-gives
returns-clause-gives c = top_given c.args.graph.now c.canon_tables.new.graph c.add.new.self
    (top_at c.args.graph.now c.args.top) c.in_ok-own.own c.in_ok-tables.tables c.in_ok-made.made c.in_ok-place.place
    (c.in_ok-top_tables.ensures.is ∙ ap (top_of_tables c.args.graph.now.items) (sym c.in_ok-tables.ensures))
    c.in_ok-own.ensures c.in_ok-made.ensures.extends c.in_ok-made.ensures.made c.in_ok-place.ensures.ok
