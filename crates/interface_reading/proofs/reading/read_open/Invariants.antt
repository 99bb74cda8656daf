use Rattle.std.proofs.Common.{◌≡◌, ◌+◌}
use Rattle.interface_reading.specs.Weights.{bytes_weight, opens_weight}
use Rattle.interface_reading.specs.Remaining.{left_of, Holds}
use Rattle.interface_reading.proofs.reading.read_open.Given as goal

abbrev pub invariant-loop-top : goal.invariant-loop-top
invariant-loop-top l = record {
  holds : Holds l.state;
  goes : left_of l.fn.state l.fn.reader ≡ left_of l.state l.reader;
}

abbrev pub decreases-loop-top : goal.decreases-loop-top
decreases-loop-top l = bytes_weight l.reader + opens_weight l.state.opens
