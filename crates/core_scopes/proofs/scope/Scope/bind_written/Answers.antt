use Rattle.std.proofs.Common.{refl, subst, sym, ap, ◌++◌}
use Rattle.sml_modules.specs.Graphs.{Graph}
use Rattle.core_scopes.specs.Scopes.{Bindings, seen, written_of, written_rows}
use Rattle.core_scopes.specs.Marks.{Becomes}
use Rattle.core_scopes.specs.Listed.{more_written}
use Rattle.core_scopes.proofs.Scoping.{written_bound, adds_nothing}
use Rattle.core_scopes.proofs.scope.Scope.bind_written.Goals as goal

pub returns-clause-ok : goal.returns-clause-ok
returns-clause-ok g c =
    let old : Bindings g.row.V.Denot = c.args.self.now in
    subst (λ (new : Bindings g.row.V.Denot). (graph : Graph) → Becomes graph old new (λ read. seen graph read old)
    (written_rows c.args.rows.now ++ written_of old)) (sym c.in_ok-add_written.ensures.ok)
    (written_bound old (more_written c.args.rows.now old) (written_rows c.args.rows.now) c.add_written.ensures.kept
    refl refl refl refl refl refl)

pub returns-clause-bare : goal.returns-clause-bare
returns-clause-bare g c =
    adds_nothing c.args.self.now c.add_written.new.self
    (ap (λ (sc : Bindings g.row.V.Denot). sc.values) c.in_ok-add_written.ensures.ok)
