use Rattle.std.proofs.Common.{ap, ◌∙◌}
use Rattle.sml_modules.specs.Graphs.{functor_of}
use Rattle.sml_modules.proofs.Keeping.{keeps}
use Rattle.realisation.specs.Environments.{changed}
use Rattle.realisation.specs.Canonical.{to_canonical}
use Rattle.canonical_types.specs.Orders.{by_order}
use Rattle.canonical_walks.proofs.Canons.{fun_canon}
use Rattle.canonical_walks.proofs.binders.canon_functor.Goals as goal

pub returns-clause-canon : goal.returns-clause-canon
returns-clause-canon c =
    let old = c.args.graph.now in
    let one = c.change_env.new.graph in
    let two = c.change_env-2.new.graph in
    let grown = keeps old one c.in_ok-param.ensures.extends in
    let later = keeps one two c.in_ok-body.ensures.extends in
    fun_canon c.args.own.now old two c.numbered_functor.new.graph c.change_env-2.new.images c.args.fun.place
    (functor_of old c.in_ok-parts.parts) c.in_ok-param.param c.in_ok-body.body c.numbered_functor.result c.requires.own
    c.requires.there c.in_ok-parts.ensures.parts
    (later.env c.in_ok-param.param c.in_ok-param.ensures.env.there ∙ c.in_ok-param.ensures.env.stands)
    (c.in_ok-body.ensures.env.stands
    ∙ ap (changed (to_canonical (by_order c.args.own.now)))
    (grown.env c.in_ok-parts.parts.result c.in_ok-parts.ensures.there.1))
    c.in_ok-body.ensures.changed c.numbered_functor.ensures.extends c.numbered_functor.ensures.is

pub numbered_functor-requires-clause-param : goal.numbered_functor-requires-clause-param
numbered_functor-requires-clause-param c =
    let later = keeps c.change_env.new.graph c.change_env-2.new.graph c.in_ok-body.ensures.extends in
    later.has_env c.in_ok-param.param c.in_ok-param.ensures.env.there
