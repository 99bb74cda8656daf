use Rattle.env_parts.specs.declared.tables.EnvTables.{EnvTables}
use Rattle.environment_walks.proofs.Changes.{tables_mapped, env_is_changed, env_stays}
use Rattle.environment_walks.proofs.changing.made_tables.Goals as goal

pub returns-then-branch : goal.returns-then-branch
returns-then-branch g c =
    let t = c.in_ok-tables.tables.now in
    let m = tables_mapped (g.C.TypeChanges.change c.args.by.now) c.args.graph.now.items c.args.images.now t t c.requires.changed
    c.in_ok-tables.ensures.are (c.in_ok-are_tables_kept.ensures.structures c.if-branch.true)
    (c.in_ok-are_tables_kept.ensures.types c.if-branch.true)
    (c.in_ok-are_tables_kept.ensures.values c.if-branch.true) in
    env_stays (g.C.TypeChanges.change c.args.by.now) c.args.graph.now.items c.args.place t c.requires.env c.in_ok-tables.ensures m.1

pub returns : goal.returns
returns g c =
    let t = c.in_ok-tables.tables.now in
    let made : EnvTables = record {
      structures = c.in_ok-mapped_rows.field-0;
      types = c.in_ok-mapped_rows-2.field-0;
      values = c.in_ok-mapped_rows-3.field-0;
    } in
    let m = tables_mapped (g.C.TypeChanges.change c.args.by.now) c.args.graph.now.items c.args.images.now t made c.requires.changed
    c.in_ok-tables.ensures.are c.in_ok-mapped_rows.ensures c.in_ok-mapped_rows-2.ensures c.in_ok-mapped_rows-3.ensures
    in (
      m.0,
      env_is_changed (g.C.TypeChanges.change c.args.by.now) c.args.graph.now.items c.args.place t made c.requires.env
          c.in_ok-tables.ensures m.1,
    )
