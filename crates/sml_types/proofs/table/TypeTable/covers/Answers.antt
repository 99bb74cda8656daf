use Rattle.std.proofs.Common.{subst, ◌↔◌}
use Rattle.std.specs.Prelude.{IfOk, IsTrue}
use Rattle.sml_types.specs.Covering.{CoversIn}
use Rattle.sml_types.proofs.table.TypeTable.covers.Goals as goal

pub returns-clause-covers : goal.returns-clause-covers
returns-clause-covers c =
    subst (λ t. IfOk c.covers.result (λ covers. IsTrue covers ↔ CoversIn t c.args.general.now c.args.special.now))
    c.self.view_is c.covers.ensures.covers
