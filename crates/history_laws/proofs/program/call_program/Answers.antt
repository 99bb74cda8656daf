use Rattle.cm_top.proofs.Counts.{box_rules}
use Rattle.history_laws.proofs.program.call_program.Goals as goal

pub returns : goal.returns
returns g c = λ files is text before left tells. record {
  told = tells;
  promise = rw (box_rules g.T.Tool.class g.T.Tool.rule g.T.Tool.ran g.T.Tool.faults c.args.tools.now)
      (c.run_cm.ensures.promise files is text before);
  stays = rw (box_rules g.T.Tool.class g.T.Tool.rule g.T.Tool.ran g.T.Tool.faults c.args.tools.now)
      (c.run_cm.ensures.stays files is);
  tends = c.run_cm.ensures.tool;
}
