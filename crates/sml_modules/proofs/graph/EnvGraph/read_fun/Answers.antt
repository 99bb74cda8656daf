use Rattle.std.proofs.Common.{refl, subst}
use Rattle.sml_modules.specs.Adding.{StandsAt}
use Rattle.sml_modules.proofs.Looking.{reads_functor, functor_there}
use Rattle.sml_modules.proofs.graph.EnvGraph.read_fun.Goals as goal

pub returns-in_ok-further-in-Functor-clause-parts : goal.returns-in_ok-further-in-Functor-clause-parts
returns-in_ok-further-in-Functor-clause-parts c = reads_functor c.args.self.now c.args.fun c.in-Functor.kept
    (record {
      bound = c.in_ok-bound-in-Functor.bound;
      param = record { place = c.in-Functor.kept.param };
      further = c.in_ok-further-in-Functor.further;
      result = record { place = c.in-Functor.kept.result };
    })
    (subst (StandsAt c.args.self.now.items c.args.fun.place) c.in-Functor.is c.in-Some.ensures.node)
    c.in_ok-bound-in-Functor.ensures refl c.in_ok-further-in-Functor.ensures refl

pub returns-in_ok-further-in-Functor-clause-there : goal.returns-in_ok-further-in-Functor-clause-there
returns-in_ok-further-in-Functor-clause-there c = functor_there c.args.self.now.items c.args.fun.place c.in-Functor.kept
    (subst (StandsAt c.args.self.now.items c.args.fun.place) c.in-Functor.is c.in-Some.ensures.node)
