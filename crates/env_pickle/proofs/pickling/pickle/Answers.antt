use Rattle.std.proofs.Common.{ap, subst}
use Rattle.semantic_objects.specs.Environments.{Top}
use Rattle.sml_modules.specs.Graphs.{top_at}
use Rattle.env_pickle.specs.Writing.{WritesInterface}
use Rattle.env_pickle.proofs.Fairness.{canonical_copy, fair_written}
use Rattle.env_pickle.proofs.pickling.pickle.Goals as goal

pub returns-clause-written : goal.returns-clause-written
returns-clause-written c =
    subst (λ (z : Top). WritesInterface c.args.home.now z c.write_top.result)
    (canonical_copy c.args.graph.now c.enter.new.self c.copy_top.new.into c.canon.new.graph c.args.top
    c.in_ok-copied.copied c.in_ok-made.made c.args.home.now (ap (λ g. g.home) c.in_ok-enter.ensures.ok)
    c.in_ok-copied.ensures.ok c.in_ok-made.ensures.ok) c.write_top.ensures

pub returns-clause-interface : goal.returns-clause-interface
returns-clause-interface c = fair_written c.args.home.now (top_at c.args.graph.now c.args.top) c.write_top.result
    (returns-clause-written c)
