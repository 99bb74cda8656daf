use Rattle.std.proofs.Common.{refl}
use Rattle.semantic_objects.specs.Tables.{with_entry}
use Rattle.sml_modules.specs.Graphs.{top_at, signature_at}
use Rattle.sml_modules.specs.Nodes.{top_of_tables}
use Rattle.sml_modules.proofs.Keeping.{gives_top_ok}
use Rattle.sml_modules.proofs.Making.{signature_set_are, signature_set_is}
use Rattle.sml_modules.proofs.graph.EnvGraph.with_signature.Goals as goal

pub add_top-requires : goal.add_top-requires
add_top-requires c = signature_set_are c.args.self.now c.in_ok-old.old.now c.in_ok-tables.tables
    (record c.in_ok-tables.tables { signatures = c.set.new.self }) (top_at c.args.self.now c.args.top)
    c.in_ok-name.name c.args.entry c.in_ok-old.ensures c.in_ok-tables.ensures c.requires.entry
    refl c.in_ok-set.ensures.ok refl refl

pub returns-clause-ok : goal.returns-clause-ok
returns-clause-ok c = gives_top_ok c.args.self.now c.add_top.new.self
    (top_of_tables c.args.self.now.items (record c.in_ok-tables.tables { signatures = c.set.new.self }))
    (record (top_at c.args.self.now c.args.top) {
      signatures = with_entry c.args.name.now (signature_at c.args.self.now c.args.entry)
          (top_at c.args.self.now c.args.top).signatures;
    })
    c.add_top.result c.add_top.ensures.ok
    (signature_set_is c.args.self.now c.in_ok-old.old.now c.in_ok-tables.tables
    (record c.in_ok-tables.tables { signatures = c.set.new.self }) (top_at c.args.self.now c.args.top)
    c.args.name.now c.in_ok-name.name c.args.entry c.in_ok-old.ensures c.in_ok-tables.ensures c.in_ok-name.ensures
    refl c.in_ok-set.ensures.ok refl refl)
