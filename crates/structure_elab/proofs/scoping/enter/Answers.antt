use Rattle.structure_elab.proofs.Entering.{enters}
use Rattle.structure_elab.proofs.scoping.enter.Goals as goal

pub returns : goal.returns
returns c =
    record {
      ok = enters c.args.made c.args.top.now c.bind_made.new.self c.in_ok-bind_made.ensures.ok
          c.in_ok-bind_made.ensures.bare;
    }
