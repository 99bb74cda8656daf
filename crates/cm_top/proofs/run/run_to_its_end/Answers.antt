use Rattle.cm_top.proofs.run.run_to_its_end.Goals as goal

pub returns : goal.returns
returns g c = c.run_cm.ensures.complete
