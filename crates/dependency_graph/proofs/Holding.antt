-- Steps of the search for components: a unit is entered, an edge gone over, groups merged, a unit left, a group closed.
use Rattle.std.proofs.Common.{◌≡◌, ◌≢◌, ℕ, suc, ◌+◌, ◌<◌, ◌≤◌, List, [], ◌∷◌, ◌++◌, length, set, refl, sym, ap, subst, ◌∙◌, inl, inr, arith}
use Rattle.std.specs.Prelude.{Contains}
use Rattle.std.proofs.lemmas.Bool.{cases_lt, cases_eq}
use Rattle.std.proofs.lemmas.List.{get_or-set_same, get_or-set_other, length-set, length_push, get_or_append_left, get_or_push}
use Rattle.dependency_graph.specs.Order.{providers, Walk}
use Rattle.dependency_graph.specs.Search.{mark_of}
use Rattle.dependency_graph.specs.Components.{Hold, IsHeld, IsInOrder, IsFalling, LeadsOn, at_place}
use Rattle.dependency_graph.specs.declared.ranks.Mark.{Mark}
use Rattle.dependency_graph.specs.declared.ranks.Mark.TheVariants.{New, Open, Done}
use Rattle.dependency_graph.proofs.Walks.{joined, member_cases}
use Rattle.dependency_graph.proofs.Visits.{member_more}
use Rattle.dependency_graph.proofs.Spreading.{set_cases}

-- the state after a unit was entered: it is held last, last on the way, and the first of a group
abbrev pub enter_of : Hold → ℕ → Hold
enter_of s unit = record {
  marks = set s.marks unit Open;
  places = set s.places unit (length s.held);
  left = s.left;
  flags = s.flags;
  held = s.held ++ unit ∷ [];
  path = length s.held ∷ s.path;
  starts = length s.held ∷ s.starts;
}

-- a mark is one
pub mark_clash : (m : Mark) (P : Type 0) → m ≡ New → m ≡ Done → P
mark_clash New P e f = cc
mark_clash Open P e f = cc
mark_clash Done P e f = cc

-- an open unit isn't new
pub open_clash : (m : Mark) (P : Type 0) → m ≡ New → m ≡ Open → P
open_clash New P e f = cc
open_clash Open P e f = cc
open_clash Done P e f = cc

-- a done unit isn't open
pub done_clash : (m : Mark) (P : Type 0) → m ≡ Open → m ≡ Done → P
done_clash New P e f = cc
done_clash Open P e f = cc
done_clash Done P e f = cc

-- a new unit that is opened leaves what is done
done_kept : (s : Hold) (unit other : ℕ) → unit < length s.marks → mark_of s.marks unit ≡ New →
    mark_of s.marks other ≡ Done → mark_of (set s.marks unit Open) other ≡ Done
done_kept s unit other within new done =
    elim (set_cases s.marks unit Open New other within) [
      | inl (same, _) ↦
          mark_clash (mark_of s.marks other) (mark_of (set s.marks unit Open) other ≡ Done)
          (ap (mark_of s.marks) same ∙ new) done
      | inr (_, e) ↦ e ∙ done
    ]

-- what is done after a unit was opened was done before
done_before : (s : Hold) (unit other : ℕ) → unit < length s.marks →
    mark_of (set s.marks unit Open) other ≡ Done → mark_of s.marks other ≡ Done
done_before s unit other within done =
    elim (set_cases s.marks unit Open New other within) [
      | inl (_, e) ↦ done_clash (mark_of (set s.marks unit Open) other) (mark_of s.marks other ≡ Done) e done
      | inr (_, e) ↦ sym e ∙ done
    ]

-- a new unit is entered, to which a walk leads from each held one
pub entered : (edges : List (List ℕ)) (s : Hold) (unit : ℕ) → IsHeld edges s → mark_of s.marks unit ≡ New →
    unit < length edges →
    ((place : ℕ) → place < length s.held → (steps : ℕ) × Walk edges steps (at_place s.held place) unit) →
    IsHeld edges (enter_of s unit)
entered edges s unit is new known from = record {
  marked = length-set s.marks unit Open ∙ is.marked;
  placed = length-set s.places unit (length s.held) ∙ is.placed;
  lefts = is.lefts;
  flagged = is.flagged;
  opened = opened;
  open_at = open_at;
  fresh = λ u still within.
      elim (set_cases s.marks unit Open New u markable) [
        | inl (_, e) ↦ open_clash (mark_of (set s.marks unit Open) u) (at_place s.left u ≡ length (providers edges u))
            still e
        | inr (_, e) ↦ is.fresh u (sym e ∙ still) within
      ];
  few = is.few;
  path_falls = (is.path_held, is.path_falls);
  starts_fall = (λ y on. is.path_held y (is.starts_on y on), is.starts_fall);
  starts_on = λ place on.
      elim (member_cases (length s.held) s.starts place on) [
        | inl same ↦ (0, omega arith, same)
        | inr more ↦ member_more (length s.held) s.path place (is.starts_on place more)
      ];
  path_held = λ place on.
      elim (member_cases (length s.held) s.path place on) [
        | inl same ↦ omega (arith, length_push s.held unit, same)
        | inr more ↦ let old = is.path_held place more in omega (arith, length_push s.held unit, old)
      ];
  bottom = λ some.
      elim (cases_lt 0 (length s.held)) [
        | inl before ↦ member_more (length s.held) s.starts 0 (is.bottom before)
        | inr none ↦ (0, omega arith, omega arith)
      ];
  rest = λ place within.
      elim (cases_lt place (length s.held)) [
        | inl early ↦
            elim (is.rest place early) [
              | inl on ↦ inl (member_more (length s.held) s.path place on)
              | inr all ↦ inr (ap (at_place s.left) (get_or_append_left s.held (unit ∷ []) 0 place early) ∙ all)
            ]
        | inr late ↦ inl (0, omega arith, omega (arith, length_push s.held unit))
      ];
  reach = reach;
  edge = edge;
  closed = λ u provider done has.
      done_kept s unit provider markable new (is.closed u provider (done_before s unit u markable done) has);
  right = λ u done. is.right u (done_before s unit u markable done);
}
  where
    markable : unit < length s.marks
    markable = omega (arith, is.marked)

    at_last : at_place (s.held ++ unit ∷ []) (length s.held) ≡ unit
    at_last = get_or_push s.held unit 0 (length s.held) refl

    opened : (place : ℕ) → place < length (s.held ++ unit ∷ []) →
        (mark_of (set s.marks unit Open) (at_place (s.held ++ unit ∷ []) place) ≡ Open)
        × (at_place (set s.places unit (length s.held)) (at_place (s.held ++ unit ∷ []) place) ≡ place)
    opened place within =
        elim (cases_lt place (length s.held)) [
          | inl early ↦
              let old = is.opened place early in
              let apart : at_place s.held place ≢ unit = λ same.
              open_clash (mark_of s.marks (at_place s.held place)) ⊥ (ap (mark_of s.marks) same ∙ new) old.0 in
              rw (get_or_append_left s.held (unit ∷ []) 0 place early) (
                get_or-set_other s.marks unit (at_place s.held place) Open New apart ∙ old.0,
                get_or-set_other s.places unit (at_place s.held place) (length s.held) 0 apart ∙ old.1,
              )
          | inr late ↦
              let same : place ≡ length s.held = omega (arith, length_push s.held unit) in
              rw (same, at_last) (
                get_or-set_same s.marks unit Open New markable,
                get_or-set_same s.places unit (length s.held) 0 (omega (arith, is.placed)),
              )
        ]

    open_at : (u : ℕ) → mark_of (set s.marks unit Open) u ≡ Open →
        (at_place (set s.places unit (length s.held)) u < length (s.held ++ unit ∷ []))
        × (at_place (s.held ++ unit ∷ []) (at_place (set s.places unit (length s.held)) u) ≡ u)
    open_at u met =
        elim (set_cases s.marks unit Open New u markable) [
          | inl (same, _) ↦
              let e = get_or-set_same s.places unit (length s.held) 0 (omega (arith, is.placed)) in
              rw (same, e) (omega (arith, length_push s.held unit), at_last)
          | inr (apart, e) ↦
              let old = is.open_at u (sym e ∙ met) in
              rw (get_or-set_other s.places unit u (length s.held) 0 apart) (
                omega (arith, length_push s.held unit, old.0),
                get_or_append_left s.held (unit ∷ []) 0 (at_place s.places u) old.0 ∙ old.1,
              )
        ]

    reach : (a b : ℕ) → a < length (s.held ++ unit ∷ []) → b < length (s.held ++ unit ∷ []) →
        IsInOrder (length s.held ∷ s.starts) a b →
        (steps : ℕ) × Walk edges steps (at_place (s.held ++ unit ∷ []) a) (at_place (s.held ++ unit ∷ []) b)
    reach a b here there order =
        elim (cases_lt a (length s.held)) [
          | inl early ↦
              rw (get_or_append_left s.held (unit ∷ []) 0 a early)
              (elim (cases_lt b (length s.held)) [
                | inl first ↦
                    rw (get_or_append_left s.held (unit ∷ []) 0 b first)
                    (is.reach a b early first (λ start on le. order start (member_more (length s.held) s.starts start
                    on) le))
                | inr last ↦
                    let same : b ≡ length s.held = omega (arith, length_push s.held unit) in
                    rw (same, at_last) (from a early)
              ])
          | inr late ↦
              let le = order (length s.held) (0, omega arith, refl) late in
              let same : a ≡ b = omega (arith, length_push s.held unit) in
              (0, ap (at_place (s.held ++ unit ∷ [])) same)
        ]

    leads : (place : ℕ) → place < length s.held → (provider : ℕ) → LeadsOn s place provider →
        LeadsOn (enter_of s unit) place provider
    leads place early provider (inl done) = inl (done_kept s unit provider markable new done)
    leads place early provider (inr (other, within, at, order)) =
        inr (
          other,
          omega (arith, length_push s.held unit, within),
          get_or_append_left s.held (unit ∷ []) 0 other within ∙ at,
          λ start on le.
              elim (member_cases (length s.held) s.starts start on)
              [ inl same ↦ absurd (omega (arith, same, le)) | inr more ↦ order start more le ],
        )

    edge : (place k : ℕ) → place < length (s.held ++ unit ∷ []) →
        k + at_place s.left (at_place (s.held ++ unit ∷ []) place)
        < length (providers edges (at_place (s.held ++ unit ∷ []) place)) →
        LeadsOn (enter_of s unit) place (at_place (providers edges (at_place (s.held ++ unit ∷ []) place)) k)
    edge place k within =
        elim (cases_lt place (length s.held)) [
          | inl early ↦
              rw (get_or_append_left s.held (unit ∷ []) 0 place early)
              (λ gone. leads place early (at_place (providers edges (at_place s.held place)) k)
              (is.edge place k early gone))
          | inr late ↦
              let same : place ≡ length s.held = omega (arith, length_push s.held unit) in
              rw (same, at_last) (λ gone. absurd (omega (arith, is.fresh unit new known, gone)))
        ]

-- a member of a list that falls isn't above its first
pub below_top : (top : ℕ) (rest : List ℕ) (list : List ℕ) → list ≡ top ∷ rest → IsFalling list → (place : ℕ) →
    Contains list place → place ≤ top
below_top top rest list is falls place on =
    elim (member_cases top rest place (subst (λ l. Contains l place) is on)) [
      | inl same ↦ omega (arith, same)
      | inr more ↦ let less = (subst IsFalling is falls).0 place more in omega (arith, less)
    ]

-- one more edge of a unit on the way is gone over
pub explored : (edges : List (List ℕ)) (s : Hold) (top k count : ℕ) → IsHeld edges s → Contains s.path top →
    at_place s.left (at_place s.held top) ≡ suc count →
    k + suc count ≡ length (providers edges (at_place s.held top)) → at_place s.held top < length edges →
    LeadsOn s top (at_place (providers edges (at_place s.held top)) k) →
    IsHeld edges (record s { left = set s.left (at_place s.held top) count })
explored edges s top k count is on left at known leads = record {
  marked = is.marked;
  placed = is.placed;
  lefts = length-set s.left (at_place s.held top) count ∙ is.lefts;
  flagged = is.flagged;
  opened = is.opened;
  open_at = is.open_at;
  fresh = λ u new within.
      get_or-set_other s.left (at_place s.held top) u count 0
      (λ same. open_clash (mark_of s.marks u) ⊥ new (ap (mark_of s.marks) same ∙ (is.opened top held).0))
      ∙ is.fresh u new within;
  few = λ u within.
      elim (cases_eq u (at_place s.held top)) [
        | inl same ↦ rw (same, get_or-set_same s.left (at_place s.held top) count 0 (omega (arith, is.lefts)))
            (omega (arith, at))
        | inr apart ↦ rw (get_or-set_other s.left (at_place s.held top) u count 0 apart) (is.few u within)
      ];
  path_falls = is.path_falls;
  starts_fall = is.starts_fall;
  starts_on = is.starts_on;
  path_held = is.path_held;
  bottom = is.bottom;
  rest = λ place within.
      elim (cases_eq place top) [
        | inl same ↦ inl (subst (Contains s.path) (sym same) on)
        | inr apart ↦
            elim (is.rest place within) [
              | inl stays ↦ inl stays
              | inr all ↦ inr (get_or-set_other s.left (at_place s.held top) (at_place s.held place) count 0
                  (two place within apart) ∙ all)
            ]
      ];
  reach = is.reach;
  edge = λ place j within.
      elim (cases_eq place top) [
        | inl same ↦ rw same (rw (get_or-set_same s.left (at_place s.held top) count 0 (omega (arith, is.lefts)))
            (λ gone. over j gone))
        | inr apart ↦
            rw (get_or-set_other s.left (at_place s.held top) (at_place s.held place) count 0 (two place within apart))
            (is.edge place j within)
      ];
  closed = is.closed;
  right = is.right;
}
  where
    held : top < length s.held
    held = is.path_held top on

    two : (place : ℕ) → place < length s.held → place ≢ top → at_place s.held place ≢ at_place s.held top
    two place within apart same =
        apart (sym (is.opened place within).1 ∙ ap (at_place s.places) same ∙ (is.opened top held).1)

    over : (j : ℕ) → j + count < length (providers edges (at_place s.held top)) →
        LeadsOn s top (at_place (providers edges (at_place s.held top)) j)
    over j gone =
        elim (cases_lt j k) [
          | inl early ↦ is.edge top j held (omega (arith, left, at))
          | inr late ↦
              let same : j ≡ k = omega (arith, gone, at) in
              subst (λ n. LeadsOn s top (at_place (providers edges (at_place s.held top)) n)) (sym same) leads
        ]

-- an edge from the top unit back to a held one joins the groups from there on
pub merged : (edges : List (List ℕ)) (s : Hold) (top back : ℕ) (starts : List ℕ) → IsHeld edges s →
    top < length s.held → back < length s.held → ((start : ℕ) → Contains s.starts start → start ≤ top) →
    Contains (providers edges (at_place s.held top)) (at_place s.held back) → IsFalling starts →
    ((start : ℕ) → Contains starts start → Contains s.starts start) →
    ((start : ℕ) → Contains s.starts start → start ≤ back → Contains starts start) →
    IsHeld edges (record s { starts = starts })
merged edges s top back starts is here there under link falls some keep = record {
  marked = is.marked;
  placed = is.placed;
  lefts = is.lefts;
  flagged = is.flagged;
  opened = is.opened;
  open_at = is.open_at;
  fresh = is.fresh;
  few = is.few;
  path_falls = is.path_falls;
  starts_fall = falls;
  starts_on = λ place on. is.starts_on place (some place on);
  path_held = is.path_held;
  bottom = λ any. keep 0 (is.bottom any) (omega arith);
  rest = is.rest;
  reach = reach;
  edge = λ place k within gone. leads place (at_place (providers edges (at_place s.held place)) k)
      (is.edge place k within gone);
  closed = is.closed;
  right = is.right;
}
  where
    reach : (a b : ℕ) → a < length s.held → b < length s.held → IsInOrder starts a b →
        (steps : ℕ) × Walk edges steps (at_place s.held a) (at_place s.held b)
    reach a b first last order =
        elim (cases_lt a back) [
          | inl early ↦ is.reach a b first last (λ start on le. order start (keep start on (omega (arith, le, early)))
              le)
          | inr late ↦
              let up = is.reach a top first here (λ start on le. under start on) in
              let down = is.reach back b there last (λ start on le. order start (keep start on le)
              (omega (arith, le, late))) in (
                up.0 + suc down.0,
                joined edges up.0 (suc down.0) (at_place s.held a) (at_place s.held top) (at_place s.held b) up.1
                    (at_place s.held back, link, down.1),
              )
        ]

    leads : (place : ℕ) (provider : ℕ) → LeadsOn s place provider →
        LeadsOn (record s { starts = starts }) place provider
    leads place provider (inl done) = inl done
    leads place provider (inr (other, within, at, order)) =
        inr (other, within, at, λ start on le. order start (some start on) le)

-- a unit that isn't the first of its group is left, when all its edges are gone over
pub popped : (edges : List (List ℕ)) (s : Hold) (top : ℕ) (rest : List ℕ) → IsHeld edges s → s.path ≡ top ∷ rest →
    at_place s.left (at_place s.held top) ≡ 0 → (Contains s.starts top → ⊥) →
    IsHeld edges (record s { path = rest })
popped edges s top rest is path all inner = record {
  marked = is.marked;
  placed = is.placed;
  lefts = is.lefts;
  flagged = is.flagged;
  opened = is.opened;
  open_at = is.open_at;
  fresh = is.fresh;
  few = is.few;
  path_falls = (subst IsFalling path is.path_falls).1;
  starts_fall = is.starts_fall;
  starts_on = λ place on.
      elim (member_cases top rest place (subst (λ l. Contains l place) path (is.starts_on place on)))
      [ inl same ↦ absurd (inner (subst (Contains s.starts) (sym same) on)) | inr more ↦ more ];
  path_held = λ place on.
      is.path_held place (subst (λ l. Contains l place) (sym path) (member_more top rest place on));
  bottom = is.bottom;
  rest = λ place within.
      elim (is.rest place within) [
        | inl on ↦
            elim (member_cases top rest place (subst (λ l. Contains l place) path on))
            [ inl same ↦ inr (ap (λ p. at_place s.left (at_place s.held p)) (sym same) ∙ all) | inr more ↦ inl more ]
        | inr done ↦ inr done
      ];
  reach = is.reach;
  edge = is.edge;
  closed = is.closed;
  right = is.right;
}
