use Rattle.std.proofs.Common.{subst, sym}
use Rattle.unification.specs.Fitting.{IsSchemeOf}
use Rattle.type_nodes.specs.Tables.{Has, state}
use Rattle.sml_types.proofs.Freezing.{closed_of}
use Rattle.sml_types.proofs.table.TypeTable.generalise.Goals as goal

pub returns-clause-of : goal.returns-clause-of
returns-clause-of c = subst (λ t. IsSchemeOf (state t) c.in_ok-generalise.field-0) c.self.view_is
    (closed_of c.self.inside.bindings c.args.kept.now c.args.ty c.in_ok-generalise.field-0 c.is_kept.ensures.kept
    (subst (λ t. Has t c.args.ty) (sym c.self.view_is) c.requires.has) c.in_ok-generalise.ensures)
