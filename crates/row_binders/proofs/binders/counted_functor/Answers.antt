use Rattle.std.proofs.Common.{subst}
use Rattle.type_walks.proofs.Imaging.{if_ok}
use Rattle.row_entries.specs.Told.{ToldAt}
use Rattle.row_entries.proofs.Cons.{told_none}
use Rattle.row_binders.proofs.Bound.{env_stands, functor_formed, functor_lacks_param, functor_lacks_body}
use Rattle.row_binders.proofs.binders.counted_functor.Goals as goal

pub functor_over-requires-clause-param : goal.functor_over-requires-clause-param
functor_over-requires-clause-param c =
    env_stands c.requires.0 c.args.graph.now.items c.requires.1.made c.args.envs.now c.args.form.param c.in-Some.param
    c.requires.1.placed (subst (ToldAt c.args.envs.now c.args.form.param) c.in-Some.is c.in_ok-param.ensures)

pub functor_over-requires-clause-body : goal.functor_over-requires-clause-body
functor_over-requires-clause-body c =
    env_stands c.requires.0 c.args.graph.now.items c.requires.1.made c.args.envs.now c.args.form.body c.in-Some-2.body
    c.requires.1.placed (subst (ToldAt c.args.envs.now c.args.form.body) c.in-Some-2.is c.in_ok-body.ensures)

pub returns-in_default-clause-is : goal.returns-in_default-clause-is
returns-in_default-clause-is c =
    functor_lacks_param c.args.envs.now c.args.graph.now.items c.args.graph.now.items c.args.form
    (told_none c.args.envs.now c.args.form.param c.in_ok-param.field-0 c.in_ok-param.ensures
    (λ x e. c.in_default.not-Some x e))

pub returns-in_default-2-clause-is : goal.returns-in_default-2-clause-is
returns-in_default-2-clause-is c =
    functor_lacks_body c.args.envs.now c.args.graph.now.items c.args.graph.now.items c.args.form
    (told_none c.args.envs.now c.args.form.body c.in_ok-body.field-0 c.in_ok-body.ensures
    (λ x e. c.in_default-2.not-Some x e))

pub returns-clause-is : goal.returns-clause-is
returns-clause-is c =
    if_ok c.functor_over.result c.functor_over.ensures.is
    (λ found h. functor_formed c.args.envs.now c.args.graph.now.items c.functor_over.new.graph.items c.args.form
    c.in-Some.param c.in-Some-2.body found
    (subst (ToldAt c.args.envs.now c.args.form.param) c.in-Some.is c.in_ok-param.ensures)
    (subst (ToldAt c.args.envs.now c.args.form.body) c.in-Some-2.is c.in_ok-body.ensures) h)
