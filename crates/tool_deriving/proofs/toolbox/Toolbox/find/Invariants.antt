use Rattle.std.proofs.Common.{take}
use Rattle.tool_deriving.specs.Toolboxes.{NoneHas}
use Rattle.tool_deriving.proofs.toolbox.Toolbox.find.Given as goal

-- no tool before this one has the class
abbrev pub invariant-loop-at : goal.invariant-loop-at
invariant-loop-at g l = NoneHas g.T.Tool.class l.class (take l.at l.self)
