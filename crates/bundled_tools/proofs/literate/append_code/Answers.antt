use Rattle.bundled_tools.proofs.Lines.{code_step}
use Rattle.bundled_tools.proofs.literate.append_code.Goals as goal

pub loop-line-preserved : goal.loop-line-preserved
loop-line-preserved c = code_step _ _ _ _ _ _ _ c.in_ok-append_line.ensures c.in_ok-u8.ensures.ok
    c.in-Some.ensures.parts c.loop-line.invariant
