use Rattle.std.proofs.Common.{◌≡◌, ◌++◌, drop}
use Rattle.cm_description.specs.Printing.{member_text, listed}
use Rattle.cm_description.proofs.print.add_members.Given as goal

-- what is printed, and the lines that are left
abbrev pub invariant-loop-line : goal.invariant-loop-line
invariant-loop-line l =
    l.out.items ++ listed member_text l.members (drop l.line-index l.lines)
    ≡ l.fn.out.items ++ listed member_text l.members l.lines
