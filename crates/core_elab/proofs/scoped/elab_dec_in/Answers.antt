use Rattle.core_elab.proofs.scoped.elab_dec_in.Goals as goal

pub elab_declared-requires : goal.elab_declared-requires
elab_declared-requires c =
    record { core = c.requires.scope; kept = c.is_kept.ensures; state = c.requires.ready }

pub returns-clause-infers : goal.returns-clause-infers
returns-clause-infers c = c.elab_declared.ensures.elabs.infers

pub returns-clause-envs : goal.returns-clause-envs
returns-clause-envs c = c.elab_declared.ensures.envs

pub returns-clause-ids : goal.returns-clause-ids
returns-clause-ids c = c.elab_declared.ensures.elabs.goes.ids

pub returns-clause-graph : goal.returns-clause-graph
returns-clause-graph c = c.elab_declared.ensures.elabs.goes.graph

pub returns-clause-home : goal.returns-clause-home
returns-clause-home c = c.elab_declared.ensures.elabs.goes.home

pub returns-clause-left : goal.returns-clause-left
returns-clause-left c = c.elab_declared.ensures.elabs.left
