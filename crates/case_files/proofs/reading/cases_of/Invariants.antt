use Rattle.std.proofs.Common.{◌≡◌, map}
use Rattle.std.specs.Prelude.{count_by}
use Rattle.case_files.specs.Titles.{begins_case, begun}
use Rattle.case_files.proofs.reading.cases_of.Given as goal

-- each title among the lines so far began a case
abbrev pub invariant-loop-line : goal.invariant-loop-line
invariant-loop-line l = begun l.reader ≡ count_by begins_case (map (λ line. line.now) l.yielded)
