use Rattle.std.proofs.Common.{ap, ◌∙◌}
use Rattle.sml_modules.specs.Items.{Item}
use Rattle.sml_modules.specs.Graphs.{env_at}
use Rattle.sml_modules.proofs.Keeping.{keeps, extends_then}
use Rattle.realisation.specs.Environments.{changed}
use Rattle.realisation.specs.Canonical.{to_canonical, canonical_functor}
use Rattle.canonical_types.specs.Orders.{by_order}
use Rattle.canonical_walks.specs.Binders.{unchanged, functor_with}
use Rattle.canonical_walks.proofs.Binding.{fun_of, fun_numbered}
use Rattle.canonical_walks.proofs.Canons.{item_added, added_extends}
use Rattle.canonical_walks.proofs.binders.numbered_functor.Goals as goal

pub returns-clause-extends : goal.returns-clause-extends
returns-clause-extends c =
    let one = c.change_env.new.graph in
    let two = c.change_env-2.new.graph in
    extends_then c.args.graph.now two c.add.new.self
    (extends_then c.args.graph.now one two c.change_env.ensures.extends c.change_env-2.ensures.extends)
    (added_extends two c.add.new.self (Item.FunctorItem (fun_of c.in_ok-bound.bound c.in_ok-further.further
    (env_at two c.in_ok-param.param) (env_at two c.in_ok-body.body))) c.add.result c.add.ensures.ok c.add.ensures.err)

pub returns-clause-is : goal.returns-clause-is
returns-clause-is c =
    let old = c.args.graph.now in
    let one = c.change_env.new.graph in
    let two = c.change_env-2.new.graph in
    let order = c.in_ok-order.order in
    let grown = keeps old one c.in_ok-param.ensures.extends in
    let later = keeps one two c.in_ok-body.ensures.extends in
    item_added two c.add.new.self (Item.FunctorItem (fun_of c.in_ok-bound.bound c.in_ok-further.further
    (env_at two c.in_ok-param.param) (env_at two c.in_ok-body.body)))
    (Item.FunctorItem (canonical_functor unchanged (functor_with c.args.bound.now (env_at old c.args.param)
    (env_at old c.args.body)))) c.add.result c.add.ensures.ok
    (ap Item.FunctorItem (fun_numbered c.args.bound.now c.in_ok-bound.bound c.in_ok-further.further
    (env_at old c.args.param) (env_at old c.args.body) (env_at two c.in_ok-param.param) (env_at two c.in_ok-body.body)
    c.in_ok-names.names order c.in_ok-names.ensures c.in_ok-order.ensures
    (later.env c.in_ok-param.param c.in_ok-param.ensures.env.there ∙ c.in_ok-param.ensures.env.stands)
    (c.in_ok-body.ensures.env.stands
    ∙ ap (changed (to_canonical (by_order order))) (grown.env c.args.body c.requires.body))
    c.in_ok-bound.ensures c.in_ok-further.ensures))

pub returns-in_err-further-clause-extends : goal.returns-in_err-further-clause-extends
returns-in_err-further-clause-extends c = extends_then c.args.graph.now c.change_env.new.graph
    c.change_env-2.new.graph c.change_env.ensures.extends c.change_env-2.ensures.extends

pub add-requires : goal.add-requires
add-requires c =
    let later = keeps c.change_env.new.graph c.change_env-2.new.graph c.in_ok-body.ensures.extends in
    (later.has_env c.in_ok-param.param c.in_ok-param.ensures.env.there, c.in_ok-body.ensures.env.there)
