-- One step of the search for components: an edge to a unit that is done, to a held one, or to a new one.
use Rattle.std.proofs.Common.{◌≡◌, ℕ, ◌+◌, ◌-◌, ◌<◌, ◌≤◌, Bool, true, false, List, [], ◌∷◌, ◌++◌, length, set, replicate, refl, sym, ap, subst, ◌∙◌, inl, inr, arith}
use Rattle.std.specs.Prelude.{Contains, MatchBool, reverse}
use Rattle.std.proofs.lemmas.Bool.{cases_lt}
use Rattle.std.proofs.lemmas.List.{get_or_append_left, get_or_push, length_push, get_or-replicate, length-replicate, get_or_past}
use Rattle.std.proofs.lemmas.List.Elements.{Contains-get_or}
use Rattle.dependency_graph.specs.Order.{providers, AllAreUnits}
use Rattle.dependency_graph.specs.Cycle.{IsOnCycle}
use Rattle.dependency_graph.specs.Search.{is_new, mark_of}
use Rattle.dependency_graph.specs.OnCycles.{AreOnCycles, flag_of}
use Rattle.dependency_graph.specs.Components.{AreCut, Hold, IsHeld, LeadsOn, at_place, hold_of}
use Rattle.dependency_graph.specs.declared.ranks.Mark.{Mark}
use Rattle.dependency_graph.specs.declared.ranks.Mark.TheVariants.{New, Open, Done}
use Rattle.dependency_graph.proofs.Walks.{joined, member_cases}
use Rattle.dependency_graph.proofs.Visits.{done_from, member_more, provider_known}
use Rattle.dependency_graph.proofs.Holding.{below_top, mark_clash, open_clash, enter_of, entered, explored, merged}
use Rattle.dependency_graph.proofs.Searching.{last_first}
use Rattle.dependency_graph.proofs.Nearest.{on_true, on_false}

-- the next provider of a unit on the way is gone over
went_over : (edges : List (List ℕ)) (s : Hold) (top count : ℕ) → IsHeld edges s → Contains s.path top →
    at_place s.held top < length edges → count ≡ at_place s.left (at_place s.held top) → 0 < count →
    LeadsOn s top (at_place (providers edges (at_place s.held top)) (length (providers edges (at_place s.held top)) -
    count)) →
    IsHeld edges (record s { left = set s.left (at_place s.held top) (count - 1) })
went_over edges s top count is on known same some leads =
    let few = is.few (at_place s.held top) known in
    explored edges s top (length (providers edges (at_place s.held top)) - count) (count - 1) is on
    (omega (arith, same, some))
    (omega (arith, same, some, few)) known leads

-- the top place is on the way
on_way : (path : List ℕ) (top : ℕ) → Contains (reverse (path ++ top ∷ [])) top
on_way path top = subst (λ l. Contains l top) (sym (last_first path top)) (0, omega arith, refl)

-- no start is above the last place of the way
starts_low : (edges : List (List ℕ)) (s : Hold) (top : ℕ) (rest : List ℕ) → IsHeld edges s → s.path ≡ top ∷ rest →
    (start : ℕ) → Contains s.starts start → start ≤ top
starts_low edges s top rest is path start on =
    below_top top rest s.path path is.path_falls start (is.starts_on start on)

-- an edge to a unit that is done
pub over_done : (edges : List (List ℕ)) (marks : List Mark) (places left : List ℕ) (flags : List Bool)
    (held path : List ℕ) (top : ℕ) (starts : List ℕ) (count provider : ℕ) →
    IsHeld edges (hold_of marks places left flags held (path ++ top ∷ []) starts) →
    at_place held top < length edges → count ≡ at_place left (at_place held top) → 0 < count →
    provider ≡ at_place (providers edges (at_place held top)) (length (providers edges (at_place held top)) - count) →
    mark_of marks provider ≡ Done →
    IsHeld edges
    (hold_of marks places (set left (at_place held top) (count - 1)) flags held (path ++ top ∷ []) starts)
over_done edges marks places left flags held path top starts count provider is known same some at done =
    went_over edges (hold_of marks places left flags held (path ++ top ∷ []) starts) top count is (on_way path top)
    known same
    some (inl (ap (mark_of marks) (sym at) ∙ done))

-- an edge back to a held unit
pub over_held : (edges : List (List ℕ)) (marks : List Mark) (places left : List ℕ) (flags : List Bool)
    (held path : List ℕ) (top : ℕ) (starts cut : List ℕ) (count provider : ℕ) →
    IsHeld edges (hold_of marks places left flags held (path ++ top ∷ []) starts) →
    at_place held top < length edges → count ≡ at_place left (at_place held top) → 0 < count →
    provider ≡ at_place (providers edges (at_place held top)) (length (providers edges (at_place held top)) - count) →
    mark_of marks provider ≡ Open → AreCut (reverse starts) (reverse cut) (at_place places provider) →
    ((start : ℕ) → Contains (reverse cut) start → start ≤ at_place places provider) →
    IsHeld edges (hold_of marks places (set left (at_place held top) (count - 1)) flags held (path ++ top ∷ []) cut)
over_held edges marks places left flags held path top starts cut count provider is known same some at met shut low =
    let s : Hold = hold_of marks places left flags held (path ++ top ∷ []) starts in
    let place = is.open_at provider met in
    let here = is.path_held top (on_way path top) in
    let few = is.few (at_place held top) known in
    let link : Contains (providers edges (at_place held top)) provider =
    subst (Contains (providers edges (at_place held top))) (sym at)
    (Contains-get_or (providers edges (at_place held top)) (length (providers edges (at_place held top)) - count) 0
    (omega (arith, same, some, few))) in
    let joint : IsHeld edges (hold_of marks places left flags held (path ++ top ∷ []) cut) =
    merged edges s top (at_place places provider) (reverse cut) is here place.0
    (starts_low edges s top (reverse path) is (last_first path top))
    (subst (Contains (providers edges (at_place held top))) (sym place.1) link) shut.falls shut.some shut.keep in
    went_over edges (hold_of marks places left flags held (path ++ top ∷ []) cut) top count joint (on_way path top)
    known same
    some (inr (at_place places provider, place.0, place.1 ∙ at, λ start on le. low start on))

-- an edge to a new unit
pub over_new : (edges : List (List ℕ)) (marks : List Mark) (places left : List ℕ) (flags : List Bool)
    (held path : List ℕ) (top : ℕ) (starts : List ℕ) (count provider : ℕ) →
    IsHeld edges (hold_of marks places left flags held (path ++ top ∷ []) starts) → AllAreUnits edges →
    at_place held top < length edges → count ≡ at_place left (at_place held top) → 0 < count →
    provider ≡ at_place (providers edges (at_place held top)) (length (providers edges (at_place held top)) - count) →
    mark_of marks provider ≡ New →
    IsHeld edges
    (hold_of (set marks provider Open) (set places provider (length held)) (set left (at_place held top) (count - 1))
    flags (held ++ provider ∷ []) ((path ++ top ∷ []) ++ length held ∷ []) (starts ++ length held ∷ []))
over_new edges marks places left flags held path top starts count provider is units known same some at new =
    let s : Hold = hold_of marks places left flags held (path ++ top ∷ []) starts in
    let here = is.path_held top (on_way path top) in
    let few = is.few (at_place held top) known in
    let link : Contains (providers edges (at_place held top)) provider =
    subst (Contains (providers edges (at_place held top))) (sym at)
    (Contains-get_or (providers edges (at_place held top)) (length (providers edges (at_place held top)) - count) 0
    (omega (arith, same, some, few))) in
    let within = provider_known edges (at_place held top) provider units known link in
    let in' = entered edges s provider is new within
    (λ place inside.
    let up = is.reach place top inside here
    (λ start on le. starts_low edges s top (reverse path) is (last_first path top) start on) in
    (up.0 + 1, joined edges up.0 1 (at_place held place) (at_place held top) provider up.1 (provider, link, refl))) in
    let early : at_place (held ++ provider ∷ []) top ≡ at_place held top = get_or_append_left held (provider ∷ []) 0
    top here in
    let over = went_over edges (enter_of s provider) top count in'
    (member_more (length held) (reverse (path ++ top ∷ [])) top (on_way path top))
    (subst (λ u. u < length edges) (sym early) known)
    (same ∙ ap (at_place left) (sym early)) some
    (inr (
      length held,
      omega (arith, length_push held provider),
      get_or_push held provider 0 (length held) refl ∙ at
          ∙ ap (λ u. at_place (providers edges u) (length (providers edges u) - count)) (sym early),
      λ start on le.
          elim (member_cases (length held) (reverse starts) start on) [
            | inl is_last ↦ omega (arith, is_last)
            | inr more ↦ let low = is.path_held start (is.starts_on start more) in omega (arith, low)
          ],
    )) in
    let state : List ℕ → List ℕ → List ℕ → Hold = λ l p st.
    record {
      marks = set marks provider Open;
      places = set places provider (length held);
      left = l;
      flags = flags;
      held = held ++ provider ∷ [];
      path = p;
      starts = st;
    } in
    subst (λ p. IsHeld edges (state (set left (at_place held top) (count - 1)) p
    (reverse (starts ++ length held ∷ []))))
    (sym (last_first (path ++ top ∷ []) (length held)))
    (subst (λ st. IsHeld edges (state (set left (at_place held top) (count - 1))
    (length held ∷ reverse (path ++ top ∷ [])) st))
    (sym (last_first starts (length held)))
    (subst (λ u. IsHeld edges (state (set left u (count - 1)) (length held ∷ reverse (path ++ top ∷ []))
    (length held ∷ reverse starts)))
    early over))

-- the same with the unit and the new lists by name
pub step_done : (edges : List (List ℕ)) (marks : List Mark) (places left : List ℕ) (flags : List Bool)
    (held path : List ℕ) (top : ℕ) (starts : List ℕ) (unit : ℕ) (list path_new : List ℕ) →
    IsHeld edges (hold_of marks places left flags held (path ++ top ∷ []) starts) → unit ≡ at_place held top →
    unit < length edges → 0 < at_place left unit → list ≡ providers edges unit → path_new ≡ path ++ top ∷ [] →
    mark_of marks (at_place list (length list - at_place left unit)) ≡ Done →
    IsHeld edges (hold_of marks places (set left unit (at_place left unit - 1)) flags held path_new starts)
step_done edges marks places left flags held path top starts unit list path_new is same known some lists paths mark =
    subst (λ p. IsHeld edges (hold_of marks places (set left unit (at_place left unit - 1)) flags held p starts))
    (sym paths)
    (subst
    (λ u. IsHeld edges
    (hold_of marks places (set left u (at_place left unit - 1)) flags held (path ++ top ∷ []) starts))
    (sym same)
    (over_done edges marks places left flags held path top starts (at_place left unit)
    (at_place list (length list - at_place left unit)) is (subst (λ u. u < length edges) same known)
    (ap (at_place left) same) some
    (ap (λ l. at_place l (length l - at_place left unit)) (lists ∙ ap (providers edges) same)) mark))

-- the same for an edge back to a held unit
pub step_held : (edges : List (List ℕ)) (marks : List Mark) (places left : List ℕ) (flags : List Bool)
    (held path : List ℕ) (top : ℕ) (starts : List ℕ) (unit : ℕ) (list path_new cut : List ℕ) →
    IsHeld edges (hold_of marks places left flags held (path ++ top ∷ []) starts) → unit ≡ at_place held top →
    unit < length edges → 0 < at_place left unit → list ≡ providers edges unit → path_new ≡ path ++ top ∷ [] →
    mark_of marks (at_place list (length list - at_place left unit)) ≡ Open →
    AreCut (reverse starts) (reverse cut) (at_place places (at_place list (length list - at_place left unit))) →
    ((start : ℕ) → Contains (reverse cut) start →
    start ≤ at_place places (at_place list (length list - at_place left unit))) →
    IsHeld edges (hold_of marks places (set left unit (at_place left unit - 1)) flags held path_new cut)
step_held edges marks places left flags held path top starts unit list path_new cut is same known some lists paths
    mark shut low =
    subst (λ p. IsHeld edges (hold_of marks places (set left unit (at_place left unit - 1)) flags held p cut))
    (sym paths)
    (subst
    (λ u. IsHeld edges
    (hold_of marks places (set left u (at_place left unit - 1)) flags held (path ++ top ∷ []) cut))
    (sym same)
    (over_held edges marks places left flags held path top starts cut (at_place left unit)
    (at_place list (length list - at_place left unit)) is (subst (λ u. u < length edges) same known)
    (ap (at_place left) same) some
    (ap (λ l. at_place l (length l - at_place left unit)) (lists ∙ ap (providers edges) same)) mark shut low))

-- the same for an edge to a new unit
pub step_new : (edges : List (List ℕ)) (marks : List Mark) (places left : List ℕ) (flags : List Bool)
    (held path : List ℕ) (top : ℕ) (starts : List ℕ) (unit : ℕ) (list path_mid : List ℕ) →
    IsHeld edges (hold_of marks places left flags held (path ++ top ∷ []) starts) → AllAreUnits edges →
    unit ≡ at_place held top → unit < length edges → 0 < at_place left unit → list ≡ providers edges unit →
    path_mid ≡ path ++ top ∷ [] → mark_of marks (at_place list (length list - at_place left unit)) ≡ New →
    IsHeld edges
    (hold_of (set marks (at_place list (length list - at_place left unit)) Open)
    (set places (at_place list (length list - at_place left unit)) (length held))
    (set left unit (at_place left unit - 1)) flags (held ++ at_place list (length list - at_place left unit) ∷ [])
    (path_mid ++ length held ∷ []) (starts ++ length held ∷ []))
step_new edges marks places left flags held path top starts unit list path_mid is units same known some lists paths
    mark =
    let provider = at_place list (length list - at_place left unit) in
    subst
    (λ p. IsHeld edges
    (hold_of (set marks provider Open) (set places provider (length held)) (set left unit (at_place left unit - 1))
    flags
    (held ++ provider ∷ []) (p ++ length held ∷ []) (starts ++ length held ∷ [])))
    (sym paths)
    (subst
    (λ u. IsHeld edges
    (hold_of (set marks provider Open) (set places provider (length held)) (set left u (at_place left unit - 1)) flags
    (held ++ provider ∷ []) ((path ++ top ∷ []) ++ length held ∷ []) (starts ++ length held ∷ [])))
    (sym same)
    (over_new edges marks places left flags held path top starts (at_place left unit) provider is units
    (subst (λ u. u < length edges) same known) (ap (at_place left) same) some
    (ap (λ l. at_place l (length l - at_place left unit)) (lists ∙ ap (providers edges) same)) mark))

-- the search begins with one held unit
pub hold_begun : (edges : List (List ℕ)) (marks : List Mark) (places left : List ℕ) (flags : List Bool) (unit : ℕ) →
    IsHeld edges (hold_of marks places left flags [] [] []) → mark_of marks unit ≡ New → unit < length edges →
    IsHeld edges
    (hold_of (set marks unit Open) (set places unit 0) left flags (unit ∷ []) (0 ∷ []) (0 ∷ []))
hold_begun edges marks places left flags unit is new known =
    entered edges (hold_of marks places left flags [] [] []) unit is new known
    (λ place within. absurd (omega (arith, within)))

-- a list without members is empty
no_members : (list : List ℕ) → ((x : ℕ) → Contains list x → ⊥) → list ≡ []
no_members [] none = refl
no_members (x ∷ xs) none = absurd (none x (0, omega arith, refl))

-- when the way is empty no unit is held
pub hold_ended : (edges : List (List ℕ)) (marks : List Mark) (places left : List ℕ) (flags : List Bool)
    (held path starts : List ℕ) → IsHeld edges (hold_of marks places left flags held path starts) → path ≡ [] →
    IsHeld edges (hold_of marks places left flags [] [] [])
hold_ended edges marks places left flags held path starts is empty =
    let off : (place : ℕ) → Contains (reverse path) place → ⊥ = λ place on.
    let none = subst (λ p. Contains (reverse p) place) empty on in omega (arith, none.1) in
    let none_held : held ≡ [] = no_members held (λ x on.
    off 0 (is.starts_on 0 (is.bottom (omega (arith, on.1))))) in
    let none_start : reverse starts ≡ [] = no_members (reverse starts) (λ x on. off x (is.starts_on x on)) in
    let state : List ℕ → List ℕ → List ℕ → Hold = λ h p st.
    record { marks = marks; places = places; left = left; flags = flags; held = h; path = p; starts = st } in
    subst (λ h. IsHeld edges (state h [] [])) none_held
    (subst (λ p. IsHeld edges (state held p [])) (ap reverse empty)
    (subst (λ st. IsHeld edges (state held (reverse path) st)) none_start is))

-- nothing is met at the start
pub hold_empty : (edges : List (List ℕ)) (marks : List Mark) (places left : List ℕ) (flags : List Bool) →
    marks ≡ replicate (length edges) New → length places ≡ length edges → length left ≡ length edges →
    length flags ≡ length edges →
    ((unit : ℕ) → unit < length edges → at_place left unit ≡ length (providers edges unit)) →
    IsHeld edges (hold_of marks places left flags [] [] [])
hold_empty edges marks places left flags new placed lefts flagged sizes = record {
  marked = ap length new ∙ length-replicate (length edges) New;
  placed = placed;
  lefts = lefts;
  flagged = flagged;
  opened = λ place within. absurd (omega (arith, within));
  open_at = λ unit met. open_clash (mark_of marks unit) _ (all_new unit) met;
  fresh = λ unit still within. sizes unit within;
  few = λ unit within. omega (arith, sizes unit within);
  path_falls = tt;
  starts_fall = tt;
  starts_on = λ place on. on;
  path_held = λ place on. absurd (omega (arith, on.1));
  bottom = λ some. absurd (omega (arith, some));
  rest = λ place within. absurd (omega (arith, within));
  reach = λ a b here there order. absurd (omega (arith, here));
  edge = λ place k within gone. absurd (omega (arith, within));
  closed = λ unit provider done has. mark_clash (mark_of marks unit) (mark_of marks provider ≡ Done) (all_new unit)
      done;
  right = λ unit done.
      mark_clash (mark_of marks unit) (MatchBool (flag_of flags unit) (IsOnCycle edges unit) (IsOnCycle edges unit → ⊥))
      (all_new unit) done;
}
  where
    all_new : (unit : ℕ) → mark_of marks unit ≡ New
    all_new unit =
        elim (cases_lt unit (length edges)) [
          | inl within ↦ ap (λ m. mark_of m unit) new ∙ get_or-replicate (length edges) unit New New within
          | inr past ↦ get_or_past marks unit New (omega (
            arith,
            past,
            ap length new,
            length-replicate {A = Mark}
                (length edges) New,
          ))
        ]

-- when all units are met and none is held the flags are right
pub flags_found : (edges : List (List ℕ)) (marks : List Mark) (places left : List ℕ) (flags : List Bool) (count : ℕ) →
    IsHeld edges (hold_of marks places left flags [] [] []) →
    ((unit : ℕ) → unit < count → is_new (mark_of marks unit) ≡ false) → length edges ≤ count →
    AreOnCycles edges flags (length edges)
flags_found edges marks places left flags count is met all = record {
  counted = is.flagged;
  on = λ unit flagged.
      elim (cases_lt unit (length edges)) [
        | inl known ↦ on_true (flag_of flags unit) (IsOnCycle edges unit) (IsOnCycle edges unit → ⊥)
            (is.right unit (done unit known)) flagged
        | inr past ↦
            let e : false ≡ true = sym (get_or_past flags unit false (omega (arith, is.flagged, past))) ∙ flagged in
            let bad : ⊥ = cc in absurd bad
      ];
  off = λ unit known clear.
      on_false (flag_of flags unit) (IsOnCycle edges unit) (IsOnCycle edges unit → ⊥)
      (is.right unit (done unit known)) clear;
}
  where
    done : (unit : ℕ) → unit < length edges → mark_of marks unit ≡ Done
    done unit known =
        done_from (mark_of marks unit) (met unit (omega (arith, known, all)))
        (λ met_open. let place = is.open_at unit met_open in omega (arith, place.0))
