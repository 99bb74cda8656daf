use Rattle.std.proofs.Common.{◌≡◌, ◌<◌, ℕ, slice_get, Some}
use Rattle.semantic_objects.specs.declared.name.TyId.{TyId}
use Rattle.type_schemes.specs.Reaching.{IsPassed}
use Rattle.type_schemes.proofs.reach.Reached.has_all.Given as goal

abbrev pub invariant-loop-id : goal.invariant-loop-id
invariant-loop-id l = (k : ℕ) (a : TyId) → k < l.id-index → slice_get l.fn.ids k ≡ Some a → IsPassed l.fn.table l.fn.self a
