-- Schemes that are the same.
use Rattle.std.proofs.Common.{◌≡◌, ap₂, List, Bool}
use Rattle.semantic_objects.specs.Trees.{Tree, TypeScheme}

abbrev scheme_of : List Bool → Tree → TypeScheme
scheme_of marks body = record { marks = marks; body = body }

-- schemes of the same marks and the same type are one
pub scheme_is : (a b : TypeScheme) → a.marks ≡ b.marks → a.body ≡ b.body → a ≡ b
scheme_is a b h k = ap₂ scheme_of h k
