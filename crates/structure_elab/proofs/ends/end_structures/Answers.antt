use Rattle.structure_elab.proofs.Steps.{made_there}
use Rattle.structure_elab.proofs.ends.end_structures.Goals as goal

pub check_made-requires : goal.check_made-requires
check_made-requires c = c.in_ok-all.ensures.there c.args.g.now c.requires

pub returns-clause-envs : goal.returns-clause-envs
returns-clause-envs c =
    made_there c.args.g.now c.in_ok-all.all c.check_made.result (c.in_ok-all.ensures.there c.args.g.now c.requires)
    c.check_made.ensures.it
