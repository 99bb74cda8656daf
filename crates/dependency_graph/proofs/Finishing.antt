-- The last unit of the way is left, and its group closed where it is the first of that.
use Rattle.std.proofs.Common.{◌≡◌, ◌≢◌, ℕ, ◌<◌, Bool, List, [], ◌∷◌, ◌++◌, length, take, refl, sym, ap, subst, ◌∙◌, inl, inr, arith}
use Rattle.std.specs.Prelude.{All, Contains, reverse}
use Rattle.std.proofs.lemmas.Bool.{cases_lt}
use Rattle.std.proofs.lemmas.List.{get_or_past, get_or_default, nil_from_length}
use Rattle.dependency_graph.specs.Search.{mark_of}
use Rattle.dependency_graph.specs.Components.{Hold, IsHeld, IsClosed, IsLooped, at_place, hold_of}
use Rattle.dependency_graph.specs.declared.ranks.Mark.{Mark}
use Rattle.dependency_graph.specs.declared.ranks.Mark.TheVariants.{New, Open}
use Rattle.dependency_graph.proofs.Holding.{below_top, open_clash, popped}
use Rattle.dependency_graph.proofs.Groups.{group_closed, group_flag}
use Rattle.dependency_graph.proofs.Searching.{last_first}

-- a unit that is open is a unit
pub open_known : (marks : List Mark) (unit : ℕ) → mark_of marks unit ≡ Open → unit < length marks
open_known marks unit met =
    elim (cases_lt unit (length marks)) [
      | inl known ↦ known
      | inr past ↦ open_clash (mark_of marks unit) (unit < length marks) (get_or_past marks unit New past) met
    ]

-- the last place of the way is held
pub top_held : (edges : List (List ℕ)) (marks : List Mark) (places left : List ℕ) (flags : List Bool)
    (held path : List ℕ) (top : ℕ) (starts : List ℕ) →
    IsHeld edges (hold_of marks places left flags held (path ++ top ∷ []) starts) → top < length held
top_held edges marks places left flags held path top starts is =
    is.path_held top (subst (λ l. Contains l top) (sym (last_first path top)) (0, omega arith, refl))

-- each held unit is a unit
pub held_known : (edges : List (List ℕ)) (s : Hold) → IsHeld edges s → All (λ unit. unit < length s.marks) s.held
held_known edges s is k d within =
    let e = get_or_default s.held k 0 d within in
    subst (λ u. u < length s.marks) e (open_known s.marks (at_place s.held k) (is.opened k within).0)

-- the unit of the last place is a unit
pub top_known : (edges : List (List ℕ)) (marks : List Mark) (places left : List ℕ) (flags : List Bool)
    (held path : List ℕ) (top : ℕ) (starts : List ℕ) →
    IsHeld edges (hold_of marks places left flags held (path ++ top ∷ []) starts) →
    at_place held top < length edges
top_known edges marks places left flags held path top starts is =
    let here = top_held edges marks places left flags held path top starts is in
    let open_here = open_known marks (at_place held top) (is.opened top here).0 in
    omega (arith, open_here, is.marked)

-- a unit that isn't the first of its group is left
pub left_inner : (edges : List (List ℕ)) (marks : List Mark) (places left : List ℕ) (flags : List Bool)
    (held path : List ℕ) (top : ℕ) (starts : List ℕ) →
    IsHeld edges (hold_of marks places left flags held (path ++ top ∷ []) starts) →
    at_place left (at_place held top) ≡ 0 → (Contains (reverse starts) top → ⊥) →
    IsHeld edges (hold_of marks places left flags held path starts)
left_inner edges marks places left flags held path top starts is all inner =
    popped edges (hold_of marks places left flags held (path ++ top ∷ []) starts) top (reverse path) is
    (last_first path top) all inner

-- the last start is below the last place, so no other is that place
pub not_start : (edges : List (List ℕ)) (marks : List Mark) (places left : List ℕ) (flags : List Bool)
    (held path : List ℕ) (top : ℕ) (starts rest : List ℕ) (start : ℕ) →
    IsHeld edges (hold_of marks places left flags held (path ++ top ∷ []) starts) → starts ≡ rest ++ start ∷ [] →
    start ≢ top → Contains (reverse starts) top → ⊥
not_start edges marks places left flags held path top starts rest start is same apart on =
    let falls : reverse starts ≡ start ∷ reverse rest = ap reverse same ∙ last_first rest start in
    let low = below_top start (reverse rest) (reverse starts) falls is.starts_fall top on in
    let has = is.starts_on start (subst (λ l. Contains l start) (sym falls) (0, omega arith, refl)) in
    let high = below_top top (reverse path) (reverse (path ++ top ∷ [])) (last_first path top) is.path_falls start has
    in
    apart (omega (arith, low, high))

-- where there is no start no place is one
pub no_start : (starts : List ℕ) (top : ℕ) → length starts ≡ 0 → Contains (reverse starts) top → ⊥
no_start starts top none on =
    let e = ap reverse (nil_from_length starts none) in
    let on_none = subst (λ l. Contains l top) e on in
    omega (arith, on_none.1)

-- the last group is closed
pub left_group : (edges : List (List ℕ)) (marks : List Mark) (places left : List ℕ) (flags : List Bool)
    (held path : List ℕ) (top : ℕ) (starts rest : List ℕ) (flag : Bool) (marks_new : List Mark)
    (flags_new : List Bool) →
    IsHeld edges (hold_of marks places left flags held (path ++ top ∷ []) starts) → starts ≡ rest ++ top ∷ [] →
    at_place left (at_place held top) ≡ 0 → IsLooped edges held top flag →
    IsClosed held top flag marks marks_new flags flags_new →
    IsHeld edges (hold_of marks_new places left flags_new (take top held) path rest)
left_group edges marks places left flags held path top starts rest flag marks_new flags_new is same all looped shut =
    let s : Hold = hold_of marks places left flags held (path ++ top ∷ []) starts in
    let falls : reverse starts ≡ top ∷ reverse rest = ap reverse same ∙ last_first rest top in
    let here = top_held edges marks places left flags held path top starts is in
    group_closed edges s top (reverse path) (reverse rest) flag marks_new flags_new is (last_first path top) falls all
    shut
    (group_flag edges s top (reverse rest) flag is falls all here looped)
