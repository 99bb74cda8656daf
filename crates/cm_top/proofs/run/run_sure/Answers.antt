use Rattle.std.proofs.Common.{refl}
use Rattle.command_parts.proofs.Ending.{never_rose}
use Rattle.cm_top.proofs.Calls.{never_failed}
use Rattle.cm_top.proofs.run.run_sure.Goals as goal

pub returns : goal.returns
returns g c = λ sure known apart good.
    c.run_to_its_end.ensures c.args.folder.now refl c.args.out.now refl never_rose never_rose
    (never_failed g.T.Tool.class g.T.Tool.rule g.T.Tool.ran g.T.Tool.faults c.args.tools.now c.run_to_its_end.new.tools sure)
    known apart good
