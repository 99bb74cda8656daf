use Rattle.std.proofs.Common.{[], ◌∷◌, ◌++◌, ap, ◌∙◌}
use Rattle.listed_types.proofs.Closing.{open_is}
use Rattle.listed_types.proofs.closed.open_scheme.Goals as goal

pub returns-in-Some-clause-body : goal.returns-in-Some-clause-body
returns-in-Some-clause-body c =
    open_is c.args.t.now c.mark-since.result c.args.ty c.add.new.self c.in_ok-schemes.schemes c.pop.new.self
    c.in-Some.scheme c.is_kept.ensures c.requires c.mark-since.ensures
    (c.in_ok-add.ensures.ok ∙ ap (λ xs. xs ++ c.args.ty ∷ []) c.new-tys.ensures) c.in_ok-schemes.ensures.schemes
    c.in-Some.ensures
