-- A whole group of the search for components is closed: which of its units lie on cycles, and what stays.
use Rattle.std.proofs.Common.{◌≡◌, ◌≢◌, ℕ, zero, suc, ◌+◌, ◌<◌, ◌≤◌, Bool, true, false, List, ◌∷◌, length, take, refl, sym, ap, subst, ◌∙◌, inl, inr, arith}
use Rattle.std.specs.Prelude.{Contains, MatchBool}
use Rattle.std.proofs.lemmas.Bool.{cases_lt, cases_eq}
use Rattle.std.proofs.lemmas.List.{get_or-take, length-take-le, get_or_read}
use Rattle.dependency_graph.specs.Order.{providers, Walk}
use Rattle.dependency_graph.specs.Cycle.{IsOnCycle}
use Rattle.dependency_graph.specs.Search.{mark_of}
use Rattle.dependency_graph.specs.OnCycles.{flag_of}
use Rattle.dependency_graph.specs.Components.{Hold, IsHeld, IsClosed, IsLooped, IsInOrder, IsFalling, LeadsOn, at_place}
use Rattle.dependency_graph.specs.declared.ranks.Mark.{Mark}
use Rattle.dependency_graph.specs.declared.ranks.Mark.TheVariants.{New, Open, Done}
use Rattle.dependency_graph.proofs.Walks.{joined, member_cases}
use Rattle.dependency_graph.proofs.Visits.{member_more}
use Rattle.dependency_graph.proofs.Holding.{below_top, done_clash}

-- walks both ways between two units close a cycle
both_ways : (edges : List (List ℕ)) (a b m n : ℕ) → Walk edges m a b → Walk edges n b a → a ≢ b → IsOnCycle edges a
both_ways edges a b zero n there back apart = absurd (apart there)
both_ways edges a b (suc m) n there back apart = (
  m + n,
  subst (λ k. Walk edges k a a) e
      (joined edges (suc m) n a b a there back),
)
  where
    e : suc m + n ≡ suc (m + n)
    e = omega arith

-- two held places have two units
pub two_held : (edges : List (List ℕ)) (s : Hold) (a b : ℕ) → IsHeld edges s → a < length s.held → b < length s.held →
    a ≢ b → at_place s.held a ≢ at_place s.held b
two_held edges s a b is here there apart same =
    apart (sym (is.opened a here).1 ∙ ap (at_place s.places) same ∙ (is.opened b there).1)

-- each unit of a group of two or more lies on a cycle
pub group_on : (edges : List (List ℕ)) (s : Hold) (top : ℕ) (rest : List ℕ) → IsHeld edges s →
    s.starts ≡ top ∷ rest → suc top < length s.held → (place : ℕ) → top ≤ place → place < length s.held →
    IsOnCycle edges (at_place s.held place)
group_on edges s top rest is starts more place from within =
    elim (cases_eq place top) [
      | inl same ↦ joins (suc top) (omega arith) more (λ e. absurd (omega (arith, same, e)))
      | inr apart ↦ joins top (omega arith) (omega arith) apart
    ]
  where
    under : (a b : ℕ) → top ≤ b → IsInOrder s.starts a b
    under a b above start on le = let low = below_top top rest s.starts starts is.starts_fall start on in omega
        (arith, low)

    joins : (other : ℕ) → top ≤ other → other < length s.held → place ≢ other → IsOnCycle edges (at_place s.held place)
    joins other above there apart =
        let out = is.reach place other within there (under place other above) in
        let back = is.reach other place there within (under other place from) in
        both_ways edges (at_place s.held place) (at_place s.held other) out.0 back.0 out.1 back.1
        (two_held edges s place other is within there apart)

-- walks from what is done stay there
done_walk : (edges : List (List ℕ)) (s : Hold) (steps a b : ℕ) → IsHeld edges s → mark_of s.marks a ≡ Done →
    Walk edges steps a b → mark_of s.marks b ≡ Done
done_walk edges s zero a b is done way = subst (λ u. mark_of s.marks u ≡ Done) way done
done_walk edges s (suc steps) a b is done (next, edge, way) =
    done_walk edges s steps next b is (is.closed a next done edge) way

-- a unit of which all edges are gone over leads to what is done, or to a held one of no earlier group
pub all_gone : (edges : List (List ℕ)) (s : Hold) (place : ℕ) → IsHeld edges s → place < length s.held →
    at_place s.left (at_place s.held place) ≡ 0 → (provider : ℕ) →
    Contains (providers edges (at_place s.held place)) provider → LeadsOn s place provider
all_gone edges s place is within all provider (k, inside, same) =
    let e : at_place (providers edges (at_place s.held place)) k ≡ provider =
    sym (get_or_read (providers edges (at_place s.held place)) k provider inside (sym same) 0) in
    subst (LeadsOn s place) e (is.edge place k within (omega (arith, all, inside)))

-- a unit alone in its group that isn't its own provider lies on no cycle
pub alone_off : (edges : List (List ℕ)) (s : Hold) (top : ℕ) (rest : List ℕ) → IsHeld edges s →
    s.starts ≡ top ∷ rest → length s.held ≡ suc top → at_place s.left (at_place s.held top) ≡ 0 →
    (Contains (providers edges (at_place s.held top)) (at_place s.held top) → ⊥) →
    IsOnCycle edges (at_place s.held top) → ⊥
alone_off edges s top rest is starts one all self (steps, (next, edge, way)) =
    elim (all_gone edges s top is (omega arith) all next edge) [
      | inl done ↦
          done_clash (mark_of s.marks (at_place s.held top)) ⊥ (is.opened top (omega arith)).0
          (done_walk edges s steps next (at_place s.held top) is done way)
      | inr (other, within, at, order) ↦
          let low = order top (subst (λ l. Contains l top) (sym starts) (0, omega arith, refl)) (omega arith) in
          let same : other ≡ top = omega (arith, low, within, one) in
          self (subst (Contains (providers edges (at_place s.held top))) (sym at ∙ ap (at_place s.held) same) edge)
    ]

-- the state after the last group was closed
abbrev pub close_of : Hold → ℕ → List ℕ → List ℕ → List Mark → List Bool → Hold
close_of s top path starts marks flags = record {
  marks = marks;
  places = s.places;
  left = s.left;
  flags = flags;
  held = take top s.held;
  path = path;
  starts = starts;
}

-- the last group is closed
pub group_closed : (edges : List (List ℕ)) (s : Hold) (top : ℕ) (path starts : List ℕ) (flag : Bool)
    (marks : List Mark) (flags : List Bool) → IsHeld edges s → s.path ≡ top ∷ path → s.starts ≡ top ∷ starts →
    at_place s.left (at_place s.held top) ≡ 0 → IsClosed s.held top flag s.marks marks s.flags flags →
    ((place : ℕ) → top ≤ place → place < length s.held →
    MatchBool flag (IsOnCycle edges (at_place s.held place)) (IsOnCycle edges (at_place s.held place) → ⊥)) →
    IsHeld edges (close_of s top path starts marks flags)
group_closed edges s top path starts flag marks flags is paths start_is all shut says = record {
  marked = shut.marked ∙ is.marked;
  placed = is.placed;
  lefts = is.lefts;
  flagged = shut.flagged ∙ is.flagged;
  opened = λ place within.
      let low = shorter place within in
      rw (get_or-take top s.held place 0 low) (
        stays (at_place s.held place) place low refl ∙ (is.opened place (omega (arith, low, here))).0,
        (is.opened place (omega (arith, low, here))).1,
      );
  open_at = open_at;
  fresh = λ u new within.
      elim (shut.others u) [
        | inl (place, from, inside, same) ↦
            mark_clash2 (mark_of marks u) (at_place s.left u ≡ length (providers edges u)) new
            (ap (mark_of marks) (sym same) ∙ (shut.within place from inside).0)
        | inr (e, _) ↦ is.fresh u (sym e ∙ new) within
      ];
  few = is.few;
  path_falls = (subst IsFalling paths is.path_falls).1;
  starts_fall = (subst IsFalling start_is is.starts_fall).1;
  starts_on = λ place on.
      elim (member_cases top path place
      (subst (λ l. Contains l place) paths
      (is.starts_on place (subst (λ l. Contains l place) (sym start_is) (member_more top starts place on))))) [
        | inl same ↦ let less = (subst IsFalling start_is is.starts_fall).0 place on in absurd
            (omega (arith, less, same))
        | inr more ↦ more
      ];
  path_held = λ place on.
      let less = (subst IsFalling paths is.path_falls).0 place on in omega (
        arith,
        less,
        length-take-le top s.held
            low_top,
      );
  bottom = λ some.
      elim (member_cases top starts 0
      (subst (λ l. Contains l 0) start_is (is.bottom (omega (arith, here)))))
      [ inl same ↦ absurd (omega (arith, same, some, length-take-le top s.held low_top)) | inr more ↦ more ];
  rest = λ place within.
      let low = shorter place within in
      elim (is.rest place (omega (arith, low, here))) [
        | inl on ↦
            elim (member_cases top path place (subst (λ l. Contains l place) paths on))
            [ inl same ↦ absurd (omega (arith, same, low)) | inr more ↦ inl more ]
        | inr done ↦ inr (ap (at_place s.left) (get_or-take top s.held place 0 low) ∙ done)
      ];
  reach = λ a b first last order.
      let low = shorter a first in
      let under = shorter b last in
      rw (get_or-take top s.held a 0 low, get_or-take top s.held b 0 under)
      (is.reach a b (omega (arith, low, here)) (omega (arith, under, here))
      (λ start on le.
      elim (member_cases top starts start (subst (λ l. Contains l start) start_is on))
      [ inl same ↦ absurd (omega (arith, same, le, low)) | inr more ↦ order start more le ]));
  edge = λ place k within.
      let low = shorter place within in
      rw (get_or-take top s.held place 0 low)
      (λ gone. leads place low (at_place (providers edges (at_place s.held place)) k)
      (is.edge place k (omega (arith, low, here)) gone));
  closed = closed;
  right = right;
}
  where
    here : top < length s.held
    here = is.path_held top (subst (λ l. Contains l top) (sym paths) (0, omega arith, refl))

    low_top : top ≤ length s.held
    low_top = omega (arith, here)

    shorter : (place : ℕ) → place < length (take top s.held) → place < top
    shorter place within = omega (arith, length-take-le top s.held low_top)

    mark_clash2 : (m : Mark) (P : Type 0) → m ≡ New → m ≡ Done → P
    mark_clash2 New P e f = cc
    mark_clash2 Open P e f = cc
    mark_clash2 Done P e f = cc

    stays : (unit place : ℕ) → place < top → at_place s.held place ≡ unit → mark_of marks unit ≡ mark_of s.marks unit
    stays unit place low at =
        elim (shut.others unit) [
          | inl (other, from, inside, same) ↦
              absurd
              (two_held edges s place other is (omega (arith, low, here)) inside
              (λ e. absurd (omega (arith, e, low, from)))
              (at ∙ sym same))
          | inr (e, _) ↦ e
        ]

    open_at : (u : ℕ) → mark_of marks u ≡ Open →
        (at_place s.places u < length (take top s.held)) × (at_place (take top s.held) (at_place s.places u) ≡ u)
    open_at u met =
        elim (shut.others u) [
          | inl (place, from, inside, same) ↦
              done_clash (mark_of marks u)
              ((at_place s.places u < length (take top s.held)) × (at_place (take top s.held) (at_place s.places u) ≡
              u)) met
              (ap (mark_of marks) (sym same) ∙ (shut.within place from inside).0)
          | inr (e, _) ↦
              let old = is.open_at u (sym e ∙ met) in
              elim (cases_lt (at_place s.places u) top) [
                | inl low ↦ (
                  omega (arith, low, length-take-le top s.held low_top),
                  get_or-take top s.held (at_place s.places u) 0 low ∙ old.1,
                )
                | inr high ↦
                    done_clash (mark_of marks u)
                    ((at_place s.places u < length (take top s.held)) ×
                    (at_place (take top s.held) (at_place s.places u) ≡ u)) met
                    (ap (mark_of marks) (sym old.1) ∙ (shut.within (at_place s.places u) high old.0).0)
              ]
        ]

    done_stays : (u : ℕ) → mark_of s.marks u ≡ Done → mark_of marks u ≡ Done
    done_stays u done =
        elim (shut.others u) [
          | inl (place, from, inside, same) ↦ ap (mark_of marks) (sym same) ∙ (shut.within place from inside).0
          | inr (e, _) ↦ e ∙ done
        ]

    leads : (place : ℕ) → place < top → (provider : ℕ) → LeadsOn s place provider →
        LeadsOn (close_of s top path starts marks flags) place provider
    leads place low provider (inl done) = inl (done_stays provider done)
    leads place low provider (inr (other, within, at, order)) =
        elim (cases_lt other top) [
          | inl under ↦
              inr (
                other,
                omega (arith, under, length-take-le top s.held low_top),
                get_or-take top s.held other 0 under ∙ at,
                λ start on le. order start (subst (λ l. Contains l start) (sym start_is)
                    (member_more top starts start on)) le,
              )
          | inr high ↦ inl (ap (mark_of marks) (sym at) ∙ (shut.within other high within).0)
        ]

    gone_all : (place : ℕ) → top ≤ place → place < length s.held → at_place s.left (at_place s.held place) ≡ 0
    gone_all place from within =
        elim (is.rest place within) [
          | inl on ↦
              let high = below_top top path s.path paths is.path_falls place on in
              let same : place ≡ top = omega (arith, high, from) in
              ap (λ p. at_place s.left (at_place s.held p)) same ∙ all
          | inr done ↦ done
        ]

    closed : (u provider : ℕ) → mark_of marks u ≡ Done → Contains (providers edges u) provider →
        mark_of marks provider ≡ Done
    closed u provider done has =
        elim (shut.others u) [
          | inl (place, from, inside, same) ↦
              elim (all_gone edges s place is inside (gone_all place from inside) provider
              (subst (λ x. Contains (providers edges x) provider) (sym same) has)) [
                | inl old ↦ done_stays provider old
                | inr (other, within, at, order) ↦
                    let high = order top (subst (λ l. Contains l top) (sym start_is) (0, omega arith, refl)) from in
                    ap (mark_of marks) (sym at) ∙ (shut.within other high within).0
              ]
          | inr (e, _) ↦ done_stays provider (is.closed u provider (sym e ∙ done) has)
        ]

    right : (u : ℕ) → mark_of marks u ≡ Done →
        MatchBool (flag_of flags u) (IsOnCycle edges u) (IsOnCycle edges u → ⊥)
    right u done =
        elim (shut.others u) [
          | inl (place, from, inside, same) ↦
              subst (λ x. MatchBool (flag_of flags x) (IsOnCycle edges x) (IsOnCycle edges x → ⊥)) same
              (subst
              (λ b. MatchBool b (IsOnCycle edges (at_place s.held place)) (IsOnCycle edges (at_place s.held place) → ⊥))
              (sym (shut.within place from inside).1) (says place from inside))
          | inr (e, f) ↦
              subst (λ b. MatchBool b (IsOnCycle edges u) (IsOnCycle edges u → ⊥)) (sym f) (is.right u (sym e ∙ done))
        ]

-- the flag of a group says whether its units lie on cycles
pub group_flag : (edges : List (List ℕ)) (s : Hold) (top : ℕ) (rest : List ℕ) (flag : Bool) → IsHeld edges s →
    s.starts ≡ top ∷ rest → at_place s.left (at_place s.held top) ≡ 0 → top < length s.held →
    IsLooped edges s.held top flag → (place : ℕ) → top ≤ place → place < length s.held →
    MatchBool flag (IsOnCycle edges (at_place s.held place)) (IsOnCycle edges (at_place s.held place) → ⊥)
group_flag edges s top rest true is starts all here (inl more) place from within =
    group_on edges s top rest is starts more place from within
group_flag edges s top rest true is starts all here (inr self) place from within =
    elim (cases_lt (suc top) (length s.held)) [
      | inl more ↦ group_on edges s top rest is starts more place from within
      | inr one ↦
          let same : place ≡ top = omega (arith, one, within, from) in
          rw same (0, (at_place s.held top, self, refl))
    ]
group_flag edges s top rest false is starts all here (one, self) place from within =
    let same : place ≡ top = omega (arith, one, within, from) in
    rw same (alone_off edges s top rest is starts one all self)
