-- Closing the types of a table. The Definition of Standard ML (Revised), section 4.8.
use Rattle.std.specs.Prelude.{◌≡◌, ℕ, List, [], map, slice_get, Option, Some, None, Bool, true, false, ◌||◌, ◌<◌}
use Rattle.semantic_objects.specs.declared.name.TyId.{TyId}
use Rattle.semantic_objects.specs.declared.name.TyId.TheVariants as id
use Rattle.semantic_objects.specs.Trees.{TypeScheme}
use Rattle.unification.specs.Types.{State, occurs_any}
use Rattle.unification.specs.Fitting.{IsSchemeOf}
use Rattle.unification.specs.Closing.{found_in, found_in_all, scheme_over, kept_since}
use Rattle.type_nodes.specs.Tables.{Table, Has, state, whole, whole_all}

-- ids of the table
abbrev pub HaveAll : Table → List TyId → Type 0
HaveAll t ids = (i : ℕ) (a : TyId) → slice_get ids i ≡ Some a → Has t a

-- whether a variable stands in what one of these ids stands for
abbrev pub is_kept : Table → List TyId → ℕ → Bool
is_kept t kept v = occurs_any v (whole_all t kept)

-- the variables of what ids stand for, by first occurrence
abbrev pub all_variables : Table → List TyId → List ℕ
all_variables t ids = found_in_all (λ v. false) (whole_all t ids) []

-- the variables of what an id stands for but for these, by first occurrence
abbrev pub closed_variables : Table → List TyId → TyId → List ℕ
closed_variables t kept a = found_in (is_kept t kept) (whole t a) []

-- the scheme of what an id stands for, closed over these variables with the marks that they have
abbrev pub closed_scheme : Table → List TyId → TyId → TypeScheme
closed_scheme t kept a = scheme_over (closed_variables t kept a) (state t).marks (whole t a)

-- the scheme of what an id stands for, closed by age: a declaration that began when there were `n` variables closes
-- over those that are younger and stand in nothing that stands for an older one
abbrev pub scheme_since : Table → ℕ → TyId → TypeScheme
scheme_since t n a = scheme_over (found_in (kept_since n (state t).stands) (whole t a) []) (state t).marks (whole t a)

abbrev pub schemes_since : Table → ℕ → List TyId → List TypeScheme
schemes_since t n ids = map (scheme_since t n) ids

-- schemes of a state
abbrev pub AreSchemesOf : State → List TypeScheme → Type 0
AreSchemesOf s schemes = (i : ℕ) (σ : TypeScheme) → slice_get schemes i ≡ Some σ → IsSchemeOf s σ

-- whether such a declaration leaves a variable free of which the types of some ids aren't closed
abbrev pub stays_since : Table → ℕ → List TyId → ℕ → Bool
stays_since t n unclosed v = kept_since n (state t).stands v || is_kept t unclosed v

-- the same of an id that is a variable
abbrev pub is_left : Table → ℕ → List TyId → TyId → Bool
is_left t n unclosed (id.Variable v) = stays_since t n unclosed v
is_left t n unclosed (id.Made i) = false

-- at a place stands the first of some ids for which something holds
pub record IsFirstOf (holds : TyId → Bool) (ids : List TyId) (p : ℕ) : Type 0 where
  pub first : TyId
  pub at : slice_get ids p ≡ Some first
  pub is : holds first ≡ true
  pub before : (i : ℕ) (a : TyId) → i < p → slice_get ids i ≡ Some a → holds a ≡ false

-- the place of the first of some ids for which something holds, if it holds for any
abbrev pub MayBeFirstOf : (TyId → Bool) → List TyId → Option ℕ → Type 0
MayBeFirstOf holds ids None = (i : ℕ) (a : TyId) → slice_get ids i ≡ Some a → holds a ≡ false
MayBeFirstOf holds ids (Some p) = IsFirstOf holds ids p
