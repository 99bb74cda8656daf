use Rattle.std.proofs.Common.{◌≡◌, ◌++◌, length}
use Rattle.bin_store.specs.Paths.{later_path}
use Rattle.bin_store.proofs.paths.append_later.Given as goal

-- what is written, and what is left to write
abbrev pub invariant-loop-part : goal.invariant-loop-part
invariant-loop-part l = l.path ++ later_path l.rest ≡ l.fn.path ++ later_path l.fn.name

abbrev pub decreases-loop-part : goal.decreases-loop-part
decreases-loop-part l = length l.rest
