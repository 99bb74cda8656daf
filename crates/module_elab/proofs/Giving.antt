-- What may be given, from the answers for the top and for the table.
use Rattle.std.proofs.Common.{◌≡◌, ℕ, List, length, Bool, true, false}
use Rattle.std.specs.Prelude.{◌↔◌, Result, Ok, Err, IfOk}
use Rattle.unification.proofs.Walking.{not_both}
use Rattle.semantic_objects.specs.Environments.{Top}
use Rattle.static_semantics.specs.Inferring.{Progress}
use Rattle.inference_laws.specs.Nodes.{StateOf, below_number}
use Rattle.unit_semantics.specs.Promises.{IsClosedTop}
use Rattle.unit_laws.specs.Parts.{TopOf}
use Rattle.table_laws.specs.Rising.{RisingTop}
use Rattle.basis_laws.specs.Promises.{MayBeGiven}

abbrev pub StandsInFront : List ℕ → Top → Progress → Type 0
StandsInFront home given st = TopOf (below_number home st.names) given × RisingTop given × IsClosedTop given

given_if : (home : List ℕ) (given : Top) (st : Progress) (a b : Bool) → (a ≡ true) ↔ StandsInFront home given st
    → a ≡ true → (b ≡ true) ↔ StateOf (below_number home st.names) st.types → (b ≡ true) ↔ MayBeGiven home given st
given_if home given st a b h t k = (
  λ e. of (h.0 t) (k.0 e),
  λ m. k.1 m.state,
)
  where
    of : StandsInFront home given st → StateOf (below_number home st.names) st.types → MayBeGiven home given st
    of s w = record { below = s.0; state = w; rises = s.1; closed = s.2 }

pub given_then : {E : Type 0} (home : List ℕ) (given : Top) (st : Progress) (a : Bool) (r : Result Bool E)
    → (a ≡ true) ↔ StandsInFront home given st → a ≡ true
    → IfOk r (λ b. (b ≡ true) ↔ StateOf (below_number home st.names) st.types)
    → IfOk r (λ b. (b ≡ true) ↔ MayBeGiven home given st)
given_then home given st a (Ok b) h t k = given_if home given st a b h t k
given_then home given st a (Err e) h t k = tt

pub given_not : (home : List ℕ) (given : Top) (st : Progress) (a : Bool) → (a ≡ true) ↔ StandsInFront home given st
    → a ≡ false → (false ≡ true) ↔ MayBeGiven home given st
given_not home given st a h f = (
  λ e. absurd (cc),
  λ m. absurd (not_both a f (h.1 (m.below, m.rises, m.closed))),
)
