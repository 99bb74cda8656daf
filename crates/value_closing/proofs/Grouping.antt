-- Bindings of a `val`, one more behind others; and a type of which nothing is closed.
use Rattle.std.proofs.Common.{◌≡◌, ℕ, zero, suc, List, [], ◌∷◌, ◌++◌, refl, ap, ◌∙◌, Bool, true, false, drop}
use Rattle.semantic_objects.specs.declared.name.TyId.{TyId}
use Rattle.semantic_objects.specs.Trees.{TypeScheme}
use Rattle.unification.specs.Types.{Ty, occurs}
use Rattle.unification.specs.Closing.{found_in, found_in_all, scheme_over}
use Rattle.unification.proofs.Walking.{Anything, walk, or_left}
use Rattle.unification.proofs.Closing.{found_same}
use Rattle.type_nodes.specs.Tables.{Table, state, whole}
use Rattle.type_schemes.specs.Schemes.{is_kept, closed_scheme}
use Rattle.name_trails.specs.Trails.{Rows}
use Rattle.static_semantics.specs.CoreInference.{Group}
use Rattle.pattern_elab.specs.declared.own.OwnVariable.{OwnVariable}
use Rattle.pattern_elab.specs.Scopes.{bound_of}
use Rattle.value_closing.specs.declared.group.BoundGroup.{BoundGroup}
use Rattle.value_closing.specs.Groups.{own_rows, group_of, groups_of}

-- ---- one binding more

pub bound_since : (start : ℕ) (rows : Rows OwnVariable) → bound_of (drop start rows) ≡ drop start (bound_of rows)
bound_since zero rows = refl
bound_since (suc n) [] = refl
bound_since (suc n) (row ∷ rows) = bound_since n rows

groups_snoc : (groups : List BoundGroup) (x : BoundGroup) → groups_of (groups ++ x ∷ []) ≡ groups_of groups ++ group_of x ∷ []
groups_snoc [] x = refl
groups_snoc (g ∷ groups) x = ap (λ (z : List Group). group_of g ∷ z) (groups_snoc groups x)

pub group_added : (groups new : List BoundGroup) (x : BoundGroup) (start : ℕ) (rows : Rows OwnVariable)
    → new ≡ groups ++ x ∷ [] → own_rows x.variables ≡ drop start rows
    → groups_of new ≡ groups_of groups ++ (x.closes, drop start (bound_of rows)) ∷ []
group_added groups new x start rows e f =
    ap groups_of e ∙ groups_snoc groups x
    ∙ ap (λ (z : Rows OwnVariable). groups_of groups ++ (x.closes, bound_of z) ∷ []) f
    ∙ ap (λ z. groups_of groups ++ (x.closes, z) ∷ []) (bound_since start rows)

-- ---- a type of which nothing is closed

abbrev Every : ℕ → Bool
Every n = true

nothing_found : (t : Ty) (vs : List ℕ) → found_in Every t vs ≡ vs
nothing_found t = walk Anything (λ u. (vs : List ℕ) → found_in Every u vs ≡ vs)
    (λ us. (vs : List ℕ) → found_in_all Every us vs ≡ vs)
    (record {
      variable = λ n _ vs. refl;
      made = λ c ts h. h;
      none = λ vs. refl;
      more = λ u us h k vs. ap (found_in_all Every us) (h vs) ∙ k vs;
    })
    t (λ n _. tt)

pub open_is : (t : Table) (a : TyId) (kept : List TyId) (σ : TypeScheme) → kept ≡ a ∷ [] → σ ≡ closed_scheme t kept a
    → σ ≡ scheme_over [] (state t).marks (whole t a)
open_is t a kept σ e h =
    h
    ∙ ap (λ (z : List TyId). closed_scheme t z a) e
    ∙ ap (λ (vs : List ℕ). scheme_over vs (state t).marks (whole t a))
    (found_same (is_kept t (a ∷ [])) Every (whole t a) [] (λ n i. or_left (occurs n (whole t a)) false i)
    ∙ nothing_found (whole t a) [])
