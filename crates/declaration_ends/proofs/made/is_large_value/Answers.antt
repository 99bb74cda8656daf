use Rattle.std.proofs.Common.{◌∙◌, ap, sym}
use Rattle.semantic_objects.specs.declared.name.TyId.TheVariants as id
use Rattle.unification.specs.Types.{size}
use Rattle.type_nodes.specs.Tables.{state, whole}
use Rattle.core_scopes.specs.Scopes.{entry_of}
use Rattle.core_scopes.proofs.Pathing.{if_ok}
use Rattle.pattern_elab.specs.Scopes.{own_entry}
use Rattle.declaration_ends.specs.Sizes.{is_large_in, large_value}
use Rattle.declaration_ends.proofs.Sizing.{over_limit}
use Rattle.declaration_ends.proofs.made.is_large_value.Goals as goal

pub returns-in-Entry-clause-large : goal.returns-in-Entry-clause-large
returns-in-Entry-clause-large c =
    let s = (state c.args.t.now).stands in
    if_ok c.is_large.result _ _ (λ large h. h ∙ ap (is_large_in s) c.body.ensures
    ∙ ap (λ v. large_value s (entry_of own_entry v)) (sym c.in-Entry.is)) c.is_large.ensures.large

pub returns-in_ok-counted-in-Own-clause-large : goal.returns-in_ok-counted-in-Own-clause-large
returns-in_ok-counted-in-Own-clause-large c =
    over_limit c.in_ok-counted-in-Own.counted (size (whole c.args.t.now (id.Variable c.in-Own.own.number)))
    c.in_ok-counted-in-Own.ensures.size
    ∙ ap (λ v. large_value (state c.args.t.now).stands (entry_of own_entry v)) (sym c.in-Own.is)
