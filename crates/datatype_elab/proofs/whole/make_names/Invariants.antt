use Rattle.std.proofs.Common.{◌≡◌, ◌+◌, length}
use Rattle.datatype_elab.specs.Leaving.{MakesNames}
use Rattle.datatype_elab.proofs.whole.make_names.Given as goal

-- the names of the first datatypes were made
abbrev pub invariant-loop-at : goal.invariant-loop-at
invariant-loop-at l = record {
  names : MakesNames l.fn.g l.g;
  count : length l.g.made ≡ length l.fn.g.made + l.at;
}
