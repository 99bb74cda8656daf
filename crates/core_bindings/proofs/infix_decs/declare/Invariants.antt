use Rattle.std.proofs.Common.{◌≡◌, drop}
use Rattle.core_bindings.specs.Bindings.{declared}
use Rattle.core_bindings.proofs.infix_decs.declare.Given as goal

-- what the names that are left add makes the whole
abbrev pub invariant-loop-name : goal.invariant-loop-name
invariant-loop-name l =
    declared l.fixity (drop l.name-index l.names) l.fixities ≡ declared l.fn.fixity l.fn.names l.fn.fixities
