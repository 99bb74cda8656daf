use Rattle.std.proofs.Common.{subst, sym}
use Rattle.type_nodes.specs.Tables.{state}
use Rattle.type_schemes.specs.Schemes.{HaveAll, AreSchemesOf}
use Rattle.sml_types.proofs.Ages.{since_of}
use Rattle.sml_types.proofs.table.TypeTable.generalise_since.Goals as goal

pub returns-clause-of : goal.returns-clause-of
returns-clause-of c = subst (λ t. AreSchemesOf (state t) c.in_ok-generalise_since.field-0) c.self.view_is
    (since_of c.self.inside.bindings (state c.args.since.now).next c.args.tys.now c.in_ok-generalise_since.field-0
    c.is_kept.ensures.kept (subst (λ t. HaveAll t c.args.tys.now) (sym c.self.view_is) c.requires.has)
    c.in_ok-generalise_since.ensures)
