use Rattle.std.proofs.Common.{◌∙◌}
use Rattle.sml_modules.proofs.Keeping.{cut_back}
use Rattle.sml_modules.proofs.graph.EnvGraph.add_over.Goals as goal

pub returns-in-Err-clause-err : goal.returns-in-Err-clause-err
returns-in-Err-clause-err c = c.cut.ensures ∙ cut_back c.args.self.now c.keep_over.new.self c.len-before.result
    c.in-Err.ensures.err c.len-before.ensures
