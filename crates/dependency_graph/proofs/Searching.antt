-- Small steps of the search for components over its lists.
use Rattle.std.proofs.Common.{◌≡◌, ◌≢◌, ℕ, suc, ◌+◌, ◌-◌, ◌<◌, ◌≤◌, Bool, false, List, [], ◌∷◌, ◌++◌, length, get_or, set, drop, sym, ap, subst, ◌∙◌, inl, inr, arith}
use Rattle.std.specs.Prelude.{Contains, reverse}
use Rattle.std.proofs.lemmas.List.{get_or-drop, length-drop, length-set, reverse-append, get_or_default}
use Rattle.std.proofs.lemmas.List.Elements.{Contains-append_left, Contains-push, Contains-push_cases, Contains-get_or}
use Rattle.dependency_graph.specs.OnCycles.{flag_of}
use Rattle.dependency_graph.specs.Components.{AreCut, AreMarked, IsClosed, IsFalling, at_place}
use Rattle.dependency_graph.specs.declared.ranks.Mark.{Mark}
use Rattle.dependency_graph.specs.declared.ranks.Mark.TheVariants.{New, Done}
use Rattle.dependency_graph.proofs.Walks.{member_cases}
use Rattle.dependency_graph.proofs.Spreading.{set_cases}

-- a list with one more at its end, the last first
pub last_first : (list : List ℕ) (x : ℕ) → reverse (list ++ x ∷ []) ≡ x ∷ reverse list
last_first list x = reverse-append list (x ∷ [])

-- one more start that is above the place is taken away
pub cut_more : (old mid new : List ℕ) (start back : ℕ) → AreCut (reverse old) (reverse mid) back →
    mid ≡ new ++ start ∷ [] → back < start → AreCut (reverse old) (reverse new) back
cut_more old mid new start back is same above =
    let e = ap reverse same ∙ last_first new start in
    let cut = subst (λ l. AreCut (reverse old) l back) e is in
    record {
      falls = cut.falls.1;
      some = λ other on. cut.some other (more start (reverse new) other on);
      keep = λ other on le.
          elim (member_cases start (reverse new) other (cut.keep other on le))
          [ inl is_start ↦ absurd (omega (arith, is_start, le, above)) | inr rest ↦ rest ];
    }
  where
    more : (x : ℕ) (xs : List ℕ) (y : ℕ) → Contains xs y → Contains (x ∷ xs) y
    more x xs y (k, within, at) = (suc k, omega arith, at)

-- where the last start isn't above the place no start is
pub cut_low : (old mid new : List ℕ) (start back : ℕ) → AreCut (reverse old) (reverse mid) back →
    mid ≡ new ++ start ∷ [] → start ≤ back → (other : ℕ) → Contains (reverse (new ++ start ∷ [])) other → other ≤ back
cut_low old mid new start back is same low other on =
    let falls = subst IsFalling (ap reverse same ∙ last_first new start) is.falls in
    elim (member_cases start (reverse new) other (subst (λ l. Contains l other) (last_first new start) on)) [
      | inl at ↦ omega (arith, at, low)
      | inr more ↦ let less = falls.0 other more in omega (arith, less, low)
    ]

-- one more unit of the list is done
pub marked_more : (list : List ℕ) (flag : Bool) (old mid : List Mark) (flags_old flags_mid : List Bool) (unit : ℕ) →
    AreMarked list flag old mid flags_old flags_mid → unit < length old → length flags_old ≡ length old →
    AreMarked (list ++ unit ∷ []) flag old (set mid unit Done) flags_old (set flags_mid unit flag)
marked_more list flag old mid flags_old flags_mid unit is known same = record {
  marked = length-set mid unit Done ∙ is.marked;
  flagged = length-set flags_mid unit flag ∙ is.flagged;
  within = λ other on.
      elim (set_cases mid unit Done New other (omega (arith, is.marked))) [
        | inl (at, e) ↦ (e, flag_at other at)
        | inr (apart, e) ↦
            elim (Contains-push_cases list unit other on) [
              | inl early ↦ (e ∙ (is.within other early).0, flag_apart other apart ∙ (is.within other early).1)
              | inr last ↦ absurd (apart (sym last))
            ]
      ];
  others = λ other.
      elim (set_cases mid unit Done New other (omega (arith, is.marked))) [
        | inl (at, _) ↦ inl (subst (Contains (list ++ unit ∷ [])) (sym at) (Contains-push list unit))
        | inr (apart, e) ↦
            elim (is.others other) [
              | inl on ↦ inl (Contains-append_left list (unit ∷ []) other on)
              | inr (m, f) ↦ inr (e ∙ m, flag_apart other apart ∙ f)
            ]
      ];
}
  where
    flag_at : (other : ℕ) → other ≡ unit → flag_of (set flags_mid unit flag) other ≡ flag
    flag_at other at =
        elim (set_cases flags_mid unit flag false other (omega (arith, is.flagged, same)))
        [ inl (_, e) ↦ e | inr (apart, _) ↦ absurd (apart at) ]

    flag_apart : (other : ℕ) → other ≢ unit → flag_of (set flags_mid unit flag) other ≡ flag_of flags_mid other
    flag_apart other apart =
        elim (set_cases flags_mid unit flag false other (omega (arith, is.flagged, same)))
        [ inl (at, _) ↦ absurd (apart at) | inr (_, e) ↦ e ]

-- the units held from a place on are done
pub closed_from : (held : List ℕ) (top : ℕ) (flag : Bool) (old new : List Mark) (flags_old flags_new : List Bool) →
    AreMarked (drop top held) flag old new flags_old flags_new → top < length held →
    IsClosed held top flag old new flags_old flags_new
closed_from held top flag old new flags_old flags_new is here = record {
  marked = is.marked;
  flagged = is.flagged;
  within = λ place from inside.
      let e : top + (place - top) ≡ place = omega arith in
      let at : at_place (drop top held) (place - top) ≡ at_place held place =
      get_or-drop top held (place - top) 0 ∙ ap (at_place held) e in
      is.within (at_place held place)
      (subst (Contains (drop top held)) at
      (Contains-get_or (drop top held) (place - top) 0 (omega (arith, length-drop top held))));
  others = λ unit.
      elim (is.others unit) [
        | inl (k, inside, at) ↦
            inl (
              top + k,
              omega arith,
              omega (arith, inside, length-drop top held),
              there k inside unit at,
            )
        | inr same ↦ inr same
      ];
}
  where
    there : (k : ℕ) → k < length (drop top held) → (unit : ℕ) → get_or (drop top held) k unit ≡ unit →
        at_place held (top + k) ≡ unit
    there k inside unit at =
        sym (get_or-drop top held k 0) ∙ get_or_default (drop top held) k 0 unit inside ∙ at
