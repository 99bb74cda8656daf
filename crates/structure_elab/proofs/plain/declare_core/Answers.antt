use Rattle.structure_elab.specs.Moments.{moment}
use Rattle.structure_elab.proofs.Readying.{core_there, core_state}
use Rattle.structure_elab.proofs.Steps.{core_declared}
use Rattle.structure_elab.proofs.plain.declare_core.Goals as goal

pub elab_dec_in-requires-clause-scope : goal.elab_dec_in-requires-clause-scope
elab_dec_in-requires-clause-scope c = core_there {m = moment c.args.g.now c.args.t.now c.args.top.now} c.requires

pub elab_dec_in-requires-clause-ready : goal.elab_dec_in-requires-clause-ready
elab_dec_in-requires-clause-ready c = core_state {m = moment c.args.g.now c.args.t.now c.args.top.now} c.requires
