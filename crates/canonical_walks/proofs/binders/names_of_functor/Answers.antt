use Rattle.std.proofs.Common.{ap, ◌∙◌, [], ◌∷◌, ◌++◌}
use Rattle.sml_modules.specs.Graphs.{env_at}
use Rattle.realisation.specs.Names.{once}
use Rattle.name_walks.specs.Places.{names_in_all}
use Rattle.canonical_walks.proofs.Binding.{fun_named}
use Rattle.canonical_walks.proofs.Canons.{both_ok}
use Rattle.canonical_walks.proofs.binders.names_of_functor.Goals as goal

pub returns : goal.returns
returns c =
    let g = c.args.graph.now in
    both_ok c.functor_names.result c.functor_names.ensures.of_param c.functor_names.ensures.further
    (λ names h k. fun_named c.args.bound.now c.in_ok-names.names (env_at g c.args.param) (env_at g c.args.body) names
    (c.in_ok-names.ensures ∙ ap (λ z. once (names_in_all g z)) (c.in_ok-add-2.ensures.ok
    ∙ ap (λ z. z ++ c.args.body ∷ []) (c.in_ok-add.ensures.ok ∙ ap (λ z. z ++ c.args.param ∷ []) c.new-envs.ensures)))
    h k)
