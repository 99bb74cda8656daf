use Rattle.std.proofs.Common.{◌≡◌, ◌<◌, ℕ, slice_get, Some, false}
use Rattle.semantic_objects.specs.declared.name.TyId.{TyId}
use Rattle.type_schemes.specs.Numbering.{keeps_id}
use Rattle.type_schemes.proofs.kept.Kept.first_of.Given as goal

abbrev pub invariant-loop-at : goal.invariant-loop-at
invariant-loop-at l = (i : ℕ) (a : TyId) → i < l.at → slice_get l.fn.ids i ≡ Some a → keeps_id l.fn.self a ≡ false
