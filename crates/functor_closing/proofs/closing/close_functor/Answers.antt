use Rattle.std.proofs.Common.{subst, ap, List}
use Rattle.semantic_objects.specs.declared.name.TyName.{TyName}
use Rattle.semantic_objects.specs.Environments.{Functor}
use Rattle.sml_modules.specs.Graphs.{GivesFunctor, env_at, signature_of}
use Rattle.unit_semantics.specs.UnitInference.{functor_of}
use Rattle.functor_closing.proofs.Growing.{if_ok}
use Rattle.functor_closing.proofs.closing.close_functor.Goals as goal

pub returns-clause-ok : goal.returns-clause-ok
returns-clause-ok c = if_ok c.make_functor.result _ _
    (λ fun f. subst (λ (x : Functor). GivesFunctor c.args.g.now c.make_functor.new.g x fun)
    (ap (λ (names : List TyName). functor_of (signature_of c.args.g.now c.args.param.now)
    (signature_of c.args.g.now c.args.inside.now) names (env_at c.args.g.now c.args.body)) c.in_ok-names.ensures) f)
    c.make_functor.ensures.ok
