use Rattle.std.proofs.Common.{◌≡◌, ◌++◌, drop}
use Rattle.cm_description.specs.Printing.{entry_text, listed}
use Rattle.cm_description.proofs.print.add_exports.Given as goal

-- what is printed, and the lines that are left
abbrev pub invariant-loop-line : goal.invariant-loop-line
invariant-loop-line l =
    l.out.items ++ listed entry_text l.entries (drop l.line-index l.lines)
    ≡ l.fn.out.items ++ listed entry_text l.entries l.lines
