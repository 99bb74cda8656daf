use Rattle.std.proofs.Common.{◌≡◌, take}
use Rattle.std.specs.Prelude.{filter}
use Rattle.unit_semantics.specs.UnitInference.{is_since}
use Rattle.functor_closing.proofs.since.kept_since.Given as goal

abbrev pub invariant-loop-name : goal.invariant-loop-name
invariant-loop-name l = l.names ≡ filter (is_since l.fn.home l.fn.number) (take l.name-index l.fn.all)
