-- A group's turn: what it has is known, and its members have it too.
use Rattle.std.proofs.Common.{◌≡◌, ◌∙◌, ℕ, zero, suc, ◌<◌, List, [], ◌∷◌, ◌++◌, append_assoc, length, Option, Some, get_or, refl, ap, sym, subst, arith}
use Rattle.std.specs.Prelude.{slice_get, slice_set}
use Rattle.std.specs.Option.{option_map_or}
use Rattle.std.proofs.lemmas.Option.{slice_get-get_or}
use Rattle.cm_description.specs.declared.loaded.Group.{Group}
use Rattle.project_checks.specs.Owning.{Joins, PassesDown, members_at, own_turn, owned_at}
use Rattle.project_checks.specs.declared.owners.Owned.{Owned}
use Rattle.project_checks.specs.declared.owners.Owned.TheVariants as owned

-- one item less is left of a list, and one more is behind
pub one_back : {A : Type 0} (whole rest before after : List A) (x : A) → whole ≡ rest ++ after
    → rest ≡ before ++ x ∷ [] → whole ≡ before ++ (x ∷ after)
one_back whole rest before after x is last =
    is ∙ ap (λ xs. xs ++ after) last ∙ append_assoc before (x ∷ []) after

-- what stands within a list stands there whatever stands for what doesn't
pub whatever_else : {A : Type 0} (xs : List A) (k : ℕ) (d e : A) → k < length xs → get_or xs k d ≡ get_or xs k e
whatever_else [] k d e below = absurd (omega (arith, below))
whatever_else (x ∷ xs) zero d e below = refl
whatever_else (x ∷ xs) (suc k) d e below = whatever_else xs k d e (omega (arith, below))

pub members_here : (groups : List Group) (number : ℕ) (group : Group) (members : List ℕ) → number < length groups
    → group ≡ get_or groups number group → members ≡ group.members → members ≡ members_at groups number
members_here groups number group members inside here are =
    are ∙ sym (ap (λ (o : Option Group). option_map_or (λ (g : Group). g.members) o [])
    (slice_get-get_or groups number group inside ∙ ap (λ (g : Group). Some g) (sym here)))

pub known_here : (groups : List Group) (owners : List Owned) (number : ℕ) (known : Owned)
    → length owners ≡ length groups → number < length groups → known ≡ get_or owners number known
    → known ≡ owned_at owners number
known_here groups owners number known each inside here =
    here ∙ whatever_else owners number known owned.Nobody (omega (arith, each, inside))

pub passes : (groups : List Group) (number : ℕ) (old new : List Owned) (own known : Owned) (members : List ℕ)
    → members ≡ members_at groups number → own ≡ own_turn groups number known → known ≡ owned_at old number
    → Joins members own (slice_set old number own) new → PassesDown groups number old new
passes groups number old new own known members are is at joins =
    let turn : own ≡ own_turn groups number (owned_at old number) =
    is ∙ ap (λ (o : Owned). own_turn groups number o) at in
    subst (λ (o : Owned). Joins (members_at groups number) o (slice_set old number o) new) turn
    (subst (λ (ms : List ℕ). Joins ms own (slice_set old number own) new) are joins)
