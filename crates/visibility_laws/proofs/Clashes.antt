-- Where two sources of a group define one name.
use Rattle.std.proofs.Common.{◌≡◌, ◌∙◌, inl, inr, sym, ap, refl, subst, ℕ, ◌==◌, Bool, true, false, not, cond, List, [], ◌∷◌, ◌++◌, Some, None, eqb-true, ne_eqb}
use borrow.Author.Tests.{eqb-false}
use Rattle.std.specs.Prelude.{Contains, filter}
use Rattle.std.proofs.lemmas.Bool.{cases_Bool, cases_eq}
use Rattle.cm_base.specs.declared.record.ModName.{ModName}
use Rattle.cm_base.specs.declared.record.Skeleton.{Skeleton}
use Rattle.cm_base.specs.declared.record.Spot.{Spot}
use Rattle.cm_conditions.specs.Values.{has_module}
use Rattle.cm_description.specs.declared.loaded.Project.{Project}
use Rattle.visibility.proofs.Among.{Member, filter_from, filter_to, flat_from, flat_to, from_member, has_from, has_to, map_from, map_to, to_member}
use Rattle.visibility.specs.Exports.{clash_in, defined_spots, is_first, spots_in}
use Rattle.visibility.specs.Projects.{defined_by, skeleton_of, sources}
use Rattle.visibility.specs.Providers.{definers_among, IsDefiner}
use Rattle.visibility_laws.proofs.Firsts.{Passes, first_found, first_same, found_first, none_passes, nothing_found}
use Rattle.visibility_laws.specs.Behind.{AreApart}
use Rattle.visibility_laws.specs.Exporting.{IsSecond, StandsBefore}
use Rattle.visibility_laws.specs.Laws.{ClashesAreSeveral}
use Rattle.visibility_laws.specs.Steps.{IsFirst}

-- ---- the first of a list

-- a unit that passes a test, before another one
pub record Earlier (p : ℕ → Bool) (units : List ℕ) (u : ℕ) : Type 0 where
  pub unit : ℕ
  pub among : Member units unit
  pub passes : p unit ≡ true
  pub stands : StandsBefore units unit u

lone : (x u : ℕ) → (x == u) ≡ false → Contains (x ∷ []) u → ⊥
lone x u apart c = elim (to_member (x ∷ []) u c) [ inl same ↦ eqb-false x u apart same | inr more ↦ absurd more ]

not_yet_on : (x u v : ℕ) (before : List ℕ) → (x ≡ u → ⊥) → (Contains (before ++ v ∷ []) u → ⊥)
    → Contains (x ∷ (before ++ v ∷ [])) u → ⊥
not_yet_on x u v before other rest c = elim (to_member (x ∷ (before ++ v ∷ [])) u c) [
  | inl same ↦ other same
  | inr more ↦ rest (from_member (before ++ v ∷ []) u more)
]

earlier_on : (p : ℕ → Bool) (x : ℕ) (xs : List ℕ) (u : ℕ) → (x ≡ u → ⊥) → Earlier p xs u → Earlier p (x ∷ xs) u
earlier_on p x xs u other rest = record {
  unit = rest.unit;
  among = inr rest.among;
  passes = rest.passes;
  stands = record {
    before = x ∷ rest.stands.before;
    after = rest.stands.after;
    split = ap (λ l. x ∷ l) rest.stands.split;
    not_yet = not_yet_on x u rest.unit rest.stands.before other rest.stands.not_yet;
  };
}

earlier_by : (p : ℕ → Bool) (x : ℕ) (xs : List ℕ) (u : ℕ) (b : Bool) → p x ≡ b → p u ≡ true
    → (is_first (filter p xs) u ≡ false → Earlier p xs u) → is_first (cond b (x ∷ filter p xs) (filter p xs)) u ≡ false
    → Earlier p (x ∷ xs) u
earlier_by p x xs u true is defines rest h = record {
  unit = x;
  among = inl refl;
  passes = is;
  stands = record { before = []; after = xs; split = refl; not_yet = lone x u h };
}
earlier_by p x xs u false is defines rest h =
    earlier_on p x xs u (λ same. let clash : true ≡ false = sym defines ∙ sym (ap p same) ∙ is in cc) (rest h)

-- a unit that passes and isn't the first that does has an earlier one
earlier : (p : ℕ → Bool) (units : List ℕ) (u : ℕ) → p u ≡ true → is_first (filter p units) u ≡ false → Earlier p units u
earlier p [] u defines h = cc
earlier p (x ∷ xs) u defines h =
    earlier_by p x xs u (p x) refl defines (λ rest. earlier p xs u defines rest) h

later_by : (p : ℕ → Bool) (x u : ℕ) (rest : List ℕ) (b : Bool) → (x ≡ u → ⊥) → is_first rest u ≡ false
    → is_first (cond b (x ∷ rest) rest) u ≡ false
later_by p x u rest true other h = ne_eqb x u other
later_by p x u rest false other h = h

-- a unit before which one stands that passes isn't the first
later : (p : ℕ → Bool) (before : List ℕ) (v : ℕ) (after : List ℕ) (u : ℕ) → p v ≡ true
    → (Member (before ++ v ∷ []) u → ⊥) → is_first (filter p (before ++ v ∷ after)) u ≡ false
later p [] v after u passes not_yet =
    ap (λ b. is_first (cond b (v ∷ filter p after) (filter p after)) u) passes ∙ ne_eqb v u (λ same. not_yet (inl same))
later p (x ∷ before) v after u passes not_yet =
    later_by p x u (filter p (before ++ v ∷ after)) (p x) (λ same. not_yet (inl same))
    (later p before v after u passes (λ m. not_yet (inr m)))

first_alone : (units : List ℕ) (a b : ℕ) → Member units a → is_first units a ≡ true → is_first units b ≡ true → a ≡ b
first_alone [] a b m first second = absurd m
first_alone (x ∷ units) a b m first second = sym (eqb-true x a first) ∙ eqb-true x b second

-- ---- spots

-- whether a unit defines a name
abbrev defines : List Skeleton → ModName → ℕ → Bool
defines skeletons name u = has_module (defined_by skeletons u) name

-- the test of a clash
abbrev clashes : List Skeleton → List ℕ → ℕ × Spot → Bool
clashes skeletons units at = not (is_first (definers_among skeletons units at.1.name) at.0)

-- a spot of a unit, and the unit defines its name
pub record IsSpot (skeletons : List Skeleton) (units : List ℕ) (at : ℕ × Spot) : Type 0 where
  pub among : Member units at.0
  pub defined : defines skeletons at.1.name at.0 ≡ true

spot_is : (skeletons : List Skeleton) (units : List ℕ) (u : ℕ) (spot : Spot) (at : ℕ × Spot) → Member units u
    → Member (skeleton_of skeletons u).defined spot → ◌≡◌ {A = ℕ × Spot} (u, spot) at → IsSpot skeletons units at
spot_is skeletons units u spot at among has is =
    subst (IsSpot skeletons units) is (record {
      among = among;
      defined = has_from (defined_by skeletons u) spot.name
          (map_from (λ (s : Spot). s.name) (skeleton_of skeletons u).defined spot has);
    })

spot_of : (skeletons : List Skeleton) (units : List ℕ) (at : ℕ × Spot) → Member (defined_spots skeletons units) at
    → IsSpot skeletons units at
spot_of skeletons units at m =
    let holds = flat_to (λ u. spots_in u (skeleton_of skeletons u).defined) units at m in
    let got = map_to (λ (spot : Spot). (holds.item, spot)) (skeleton_of skeletons holds.item).defined at holds.has in
    spot_is skeletons units holds.item got.item at holds.among got.among got.is

-- a unit that defines a name has a spot with it
pub record HasSpot (skeletons : List Skeleton) (units : List ℕ) (name : ModName) (u : ℕ) : Type 0 where
  pub spot : Spot
  pub named : spot.name ≡ name
  pub among : Member (defined_spots skeletons units) (u, spot)

has_spot : (skeletons : List Skeleton) (units : List ℕ) (name : ModName) (u : ℕ) → Member units u
    → Member (defined_by skeletons u) name → HasSpot skeletons units name u
has_spot skeletons units name u among named =
    let got = map_to (λ (s : Spot). s.name) (skeleton_of skeletons u).defined name named in
    record {
      spot = got.item;
      named = got.is;
      among = flat_from (λ v. spots_in v (skeleton_of skeletons v).defined) units u (u, got.item) among
          (map_from (λ (spot : Spot). (u, spot)) (skeleton_of skeletons u).defined got.item got.among);
    }

definer_of : (project : Project) (skeletons : List Skeleton) (g : ℕ) (name : ModName) (u : ℕ)
    → Member (sources project g) u → defines skeletons name u ≡ true → IsDefiner project skeletons g name u
definer_of project skeletons g name u among is = record {
  source = from_member (sources project g) u among;
  named = from_member (defined_by skeletons u) name (has_to (defined_by skeletons u) name is);
}

-- ---- clashes

not_by : (b : Bool) → not b ≡ true → b ≡ false
not_by true h = cc
not_by false h = refl

not_back : (b : Bool) → not b ≡ false → b ≡ true
not_back true h = refl
not_back false h = cc

second_of : (project : Project) (skeletons : List Skeleton) (g : ℕ) (at : ℕ × Spot)
    → Member (defined_spots skeletons (sources project g)) at → Passes (clashes skeletons (sources project g)) at
    → IsSecond project skeletons g at
second_of project skeletons g at m passes =
    let units = sources project g in
    let spot = spot_of skeletons units at m in
    let before = earlier (defines skeletons at.1.name) units at.0 spot.defined
    (not_by (is_first (definers_among skeletons units at.1.name) at.0) passes) in
    record {
      earlier = before.unit;
      defines = definer_of project skeletons g at.1.name before.unit before.among before.passes;
      first = before.stands;
    }

of_second : (project : Project) (skeletons : List Skeleton) (g : ℕ) (at : ℕ × Spot) → IsSecond project skeletons g at
    → Passes (clashes skeletons (sources project g)) at
of_second project skeletons g at second =
    let v = second.earlier in
    let first = second.first in
    let is = has_from (defined_by skeletons v) at.1.name
    (to_member (defined_by skeletons v) at.1.name second.defines.named) in
    ap not (ap (λ units. is_first (definers_among skeletons units at.1.name) at.0) first.split
    ∙ later (defines skeletons at.1.name) first.before v first.after at.0 is
    (λ m. first.not_yet (from_member (first.before ++ v ∷ []) at.0 m)))

-- a clash is at the first spot whose name an earlier source defines ..
pub clash_is : (project : Project) (skeletons : List Skeleton) (g : ℕ) (at : ℕ × Spot)
    → clash_in project skeletons g ≡ Some at
    → IsFirst (IsSecond project skeletons g) (defined_spots skeletons (sources project g)) at
clash_is project skeletons g at is =
    let units = sources project g in
    first_same (Passes (clashes skeletons units)) (IsSecond project skeletons g) (defined_spots skeletons units) at
    (second_of project skeletons g) (λ y m second. of_second project skeletons g y second)
    (found_first (clashes skeletons units) (defined_spots skeletons units) at is)

-- .. and there is one at such a spot
pub is_clash : (project : Project) (skeletons : List Skeleton) (g : ℕ) (at : ℕ × Spot)
    → IsFirst (IsSecond project skeletons g) (defined_spots skeletons (sources project g)) at
    → clash_in project skeletons g ≡ Some at
is_clash project skeletons g at first =
    let units = sources project g in
    first_found (clashes skeletons units) (defined_spots skeletons units) at
    (first_same (IsSecond project skeletons g) (Passes (clashes skeletons units)) (defined_spots skeletons units) at
    (λ y m second. of_second project skeletons g y second) (second_of project skeletons g) first)

-- where there is none, a unit that defines a name is the first that does
first_definer : (project : Project) (skeletons : List Skeleton) (g : ℕ) (name : ModName) (u : ℕ)
    → clash_in project skeletons g ≡ None → IsDefiner project skeletons g name u
    → is_first (definers_among skeletons (sources project g) name) u ≡ true
first_definer project skeletons g name u none definer =
    let units = sources project g in
    let has = has_spot skeletons units name u (to_member units u definer.source)
    (to_member (defined_by skeletons u) name definer.named) in
    not_back (is_first (definers_among skeletons units name) u)
    (sym (ap (λ n. not (is_first (definers_among skeletons units n) u)) has.named)
    ∙ none_passes (clashes skeletons units) (defined_spots skeletons units) (u, has.spot) none has.among)

pub apart_of : (project : Project) (skeletons : List Skeleton) (g : ℕ) → clash_in project skeletons g ≡ None
    → AreApart project skeletons g
apart_of project skeletons g none name several =
    let units = sources project g in
    let among : Member (definers_among skeletons units name) several.first =
    filter_from (defines skeletons name) units several.first (to_member units several.first several.so.source)
    (has_from (defined_by skeletons several.first) name
    (to_member (defined_by skeletons several.first) name several.so.named)) in
    several.apart (first_alone (definers_among skeletons units name) several.first several.second among
    (first_definer project skeletons g name several.first none several.so)
    (first_definer project skeletons g name several.second none several.too))

first_by : (project : Project) (skeletons : List Skeleton) (g : ℕ) (name : ModName) (u : ℕ) (units : List ℕ)
    → ((v : ℕ) → Member units v → v ≡ u) → is_first units u ≡ true
first_by project skeletons g name u [] same = refl
first_by project skeletons g name u (v ∷ more) same = elim (cases_Bool (v == u)) [
  | inl is ↦ is
  | inr apart ↦ absurd (eqb-false v u apart (same v (inl refl)))
]

pub none_of : (project : Project) (skeletons : List Skeleton) (g : ℕ) → AreApart project skeletons g
    → clash_in project skeletons g ≡ None
none_of project skeletons g apart =
    let units = sources project g in
    nothing_found (clashes skeletons units) (defined_spots skeletons units) (λ at m.
    let spot = spot_of skeletons units at m in
    let here = definer_of project skeletons g at.1.name at.0 spot.among spot.defined in
    ap not (first_by project skeletons g at.1.name at.0 (definers_among skeletons units at.1.name) (λ v h.
    let kept = filter_to (defines skeletons at.1.name) units v h in
    let other = definer_of project skeletons g at.1.name v kept.0 kept.1 in
    elim (cases_eq v at.0) [
      | inl same ↦ same
      | inr differ ↦ absurd (apart at.1.name
          (record { first = v; second = at.0; so = other; too = here; apart = differ }))
    ])))

pub clashes_are_several : ClashesAreSeveral
clashes_are_several project skeletons g = (apart_of project skeletons g, none_of project skeletons g)
