use Rattle.std.proofs.Common.{◌≡◌, ◌-◌, ◌≤◌, length}
use Rattle.grammars.specs.Reading.{read}
use Rattle.core_types.specs.Types.{ty}
use Rattle.core_patterns.specs.Patterns.{typed}
use Rattle.core_patterns.proofs.constraints.typed.Given as goal

-- What is left to read goes on from what was constrained so far, which fits the limit.
abbrev pub invariant-loop-alloc : goal.invariant-loop-alloc
invariant-loop-alloc l = record {
  reads : read (typed l.levels (ty (l.levels - 1)) l.place l.left) l.lexemes.rest.now
      ≡ read (typed l.levels (ty (l.levels - 1)) l.place l.fn.first) l.fn.lexemes.rest.now;
  low : l.left.height ≤ l.levels;
}

abbrev pub decreases-loop-alloc : goal.decreases-loop-alloc
decreases-loop-alloc l = length l.lexemes.rest.now
