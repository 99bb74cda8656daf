use Rattle.std.proofs.Common.{◌∙◌, ap, ◌++◌, ◌∷◌, []}
use Rattle.core_scopes.proofs.Pathing.{if_ok}
use Rattle.firm_types.proofs.Firm.{open_is}
use Rattle.firm_types.proofs.scheme.open_scheme.Goals as goal

pub returns-clause-scheme : goal.returns-clause-scheme
returns-clause-scheme c =
    if_ok c.generalise.result _ _
    (λ scheme h. h ∙ open_is c.args.t.now c.args.id c.add.new.self (c.in_ok-add.ensures.ok
    ∙ ap (λ (ids : _). ids ++ c.args.id ∷ []) c.new-kept.ensures)) c.generalise.ensures.scheme
