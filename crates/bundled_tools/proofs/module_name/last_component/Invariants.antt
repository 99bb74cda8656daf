use Rattle.bundled_tools.proofs.Modules.{IsBehindSlashes}
use Rattle.bundled_tools.proofs.module_name.last_component.Given as goal

-- no slash stands from here on
abbrev pub invariant-loop-start : goal.invariant-loop-start
invariant-loop-start l = IsBehindSlashes l.start l.name

abbrev pub decreases-loop-start : goal.decreases-loop-start
decreases-loop-start l = l.start
