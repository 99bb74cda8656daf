use Rattle.std.proofs.Common.{subst, ◌∙◌}
use Rattle.unification.specs.Generality.{IsOf}
use Rattle.type_nodes.specs.Tables.{state}
use Rattle.type_walks.proofs.Imaging.{if_ok}
use Rattle.structure_matching.proofs.Covering.{closed_of, covered}
use Rattle.structure_matching.proofs.values.is_covered.Goals as goal

pub covers-requires-clause-special : goal.covers-requires-clause-special
covers-requires-clause-special c = closed_of (state c.args.t.now) c.args.special.now.body c.requires

pub returns-clause-covers : goal.returns-clause-covers
returns-clause-covers c =
    let s = state c.args.t.now in
    let g = c.args.general.now in
    if_ok c.covers.result c.covers.ensures.covers (λ b told. covered s g c.args.special.now b c.is_kept.ensures.fit
    (subst (IsOf s) (c.nodes.ensures.tree ∙ c.body.ensures) (c.are_of.ensures c.if-not-are_of.false)) c.requires told)
