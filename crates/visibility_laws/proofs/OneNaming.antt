-- Names, and refusals of names, are one: so the relations give back the value.
use Rattle.std.proofs.Common.{◌≡◌, ◌⊎◌, ◌∙◌, inl, inr, sym, ap, ap₂, refl, subst, ℕ, zero, suc, ◌<◌, ◌≤◌, List, [], ◌∷◌, ◌++◌, length, take, Option, Some, None, Result, Ok, Err, arith}
use Rattle.std.specs.Prelude.{slice_get}
use Rattle.std.specs.Option.{option_map_or}
use Rattle.std.proofs.lemmas.Bool.{cases_lt}
use Rattle.std.proofs.lemmas.List.{take_all}
use Rattle.std.proofs.lemmas.Option.{get_or_from_slice_get}
use Rattle.cm_base.specs.declared.diag.Diag.{Diag}
use Rattle.cm_base.specs.declared.record.Def.{Def}
use Rattle.cm_base.specs.declared.record.Skeleton.{Skeleton}
use Rattle.cm_description.specs.WellFormed.{IsWellFormed, StandsAt}
use Rattle.cm_description.specs.declared.loaded.Export.{Export}
use Rattle.cm_description.specs.declared.loaded.Project.{Project}
use Rattle.cm_description.specs.declared.loaded.Unit.{Unit as ProjectUnit}
use Rattle.cm_description.specs.declared.loaded.Wanted.{Wanted}
use Rattle.visibility.proofs.Among.{Member, from_member, right_from, to_member}
use Rattle.visibility.specs.Exports.{exports_of}
use Rattle.visibility.specs.Imports.{imports_of}
use Rattle.visibility.specs.Naming.{importing, names_of}
use Rattle.visibility.specs.Projects.{group_of}
use Rattle.visibility.specs.declared.names.Names.{Names}
use Rattle.visibility_laws.proofs.Named.{home_of, member_or, names_from, refusal_from, source_known}
use Rattle.visibility_laws.proofs.Places.{one_there, past, same_lists, taken_more, there, within}
use Rattle.visibility_laws.proofs.Stepping.{one_first}
use Rattle.visibility_laws.specs.Laws.{NamesAreRefused, NamesAreThese}
use Rattle.visibility_laws.specs.Naming.{AreExportsInOrder, AreNames, ImportsAt, IsNamesRefusal, IsUnitRefusal}

same_ok : {A : Type 0} (r : Result A Diag) (x y : A) → r ≡ Ok x → r ≡ Ok y → x ≡ y
same_ok {A} r x y first second = let same : ◌≡◌ {A = Result A Diag} (Ok x) (Ok y) = sym first ∙ second in cc

not_both : {A : Type 0} (r : Result A Diag) (x : A) (diag : Diag) → r ≡ Ok x → r ≡ Err diag → ⊥
not_both {A} r x diag first second = let clash : ◌≡◌ {A = Result A Diag} (Ok x) (Err diag) = sym first ∙ second in cc

same_err : {A : Type 0} (r : Result A Diag) (d e : Diag) → r ≡ Err d → r ≡ Err e → d ≡ e
same_err {A} r d e first second = let same : ◌≡◌ {A = Result A Diag} (Err d) (Err e) = sym first ∙ second in cc

module _ (p : Project) (skeletons : List Skeleton) (defs : List Def) (formed : IsWellFormed p) where
  -- ---- exports

  one_more : (a b : List (List Export)) (i : ℕ) (o : Option ℕ) (x y : Option (List Export))
      → AreExportsInOrder p skeletons defs a → AreExportsInOrder p skeletons defs b
      → i < length a → i < length b → i < length p.finished
      → slice_get p.finished i ≡ o → slice_get a i ≡ x → slice_get b i ≡ y → take i a ≡ take i b
      → take (suc i) a ≡ take (suc i) b
  one_more a b i None x y first second la lb lf is_o is_x is_y same =
      let high = past p.finished i is_o in absurd (omega (arith, lf, high))
  one_more a b i (Some g) None y first second la lb lf is_o is_x is_y same =
      let high = past a i is_x in absurd (omega (arith, la, high))
  one_more a b i (Some g) (Some x) None first second la lb lf is_o is_x is_y same =
      let high = past b i is_y in absurd (omega (arith, lb, high))
  one_more a b i (Some g) (Some x) (Some y) first second la lb lf is_o is_x is_y same =
      taken_more a i x is_x
      ∙ ap₂ (λ l z. l ++ z ∷ []) same
      (same_ok (exports_of p skeletons defs g (take i b)) x y
      (ap (exports_of p skeletons defs g) (sym same) ∙ first i g x is_o is_x) (second i g y is_o is_y))
      ∙ sym (taken_more b i y is_y)

  -- the fronts of two lists of exports are one
  same_front : (a b : List (List Export)) → AreExportsInOrder p skeletons defs a
      → AreExportsInOrder p skeletons defs b → (i : ℕ) → i ≤ length a → i ≤ length b → i ≤ length p.finished
      → take i a ≡ take i b
  same_front a b first second zero la lb lf = refl
  same_front a b first second (suc i) la lb lf =
      one_more a b i (slice_get p.finished i) (slice_get a i) (slice_get b i) first second (omega (arith, la))
      (omega (arith, lb)) (omega (arith, lf)) refl refl refl
      (same_front a b first second i (omega (arith, la)) (omega (arith, lb)) (omega (arith, lf)))

  -- ---- imports

  -- a unit has its place, or none
  abbrev HasPlace : ℕ → Type 0
  HasPlace u = ((place : ℕ) × ImportsAt p u place) ⊎ ((place : ℕ) → ImportsAt p u place → ⊥)

  group_below : (u : ℕ) (o : Option ProjectUnit) → u < length p.units → slice_get p.units u ≡ o
      → option_map_or (λ (unit : ProjectUnit). unit.group) o 0 < length p.groups
  group_below u None low is = let high = past p.units u is in absurd (omega (arith, low, high))
  group_below u (Some unit) low is =
      subst (λ (v : ProjectUnit). v.group < length p.groups)
      (get_or_from_slice_get p.units u unit unit is) (formed.owned u unit low)

  no_place : (u : ℕ) → (Member (importing p (group_of p u)) u → ⊥) → (place : ℕ) → ImportsAt p u place → ⊥
  no_place u none place at =
      none (subst (λ g. Member (importing p g) u) (sym (home_of p at.group u formed at.source))
      (to_member (importing p at.group) u at.source))

  has_place : (u : ℕ) → u < length p.units → HasPlace u
  has_place u low = elim (member_or (importing p (group_of p u)) u) [
    | inl m ↦
        let known = group_below u (slice_get p.units u) low refl in
        let stands = formed.finished_all (group_of p u) known in
        inl (
          stands.0,
          record {
            group = group_of p u;
            finished = there p.finished (group_of p u) stands;
            source = from_member (importing p (group_of p u)) u m;
          },
        )
    | inr none ↦ inr (no_place u none)
  ]

  -- ---- names

  same_exports : (a b : Names) → AreNames p skeletons defs a → AreNames p skeletons defs b → a.exports ≡ b.exports
  same_exports a b first second =
      let n = length p.finished in
      let la = first.groups in
      let lb = second.groups in
      sym (take_all n a.exports (omega (arith, la)))
      ∙ same_front a.exports b.exports first.exports second.exports n (omega (arith, la)) (omega (arith, lb))
      (omega arith)
      ∙ take_all n b.exports (omega (arith, lb))

  same_imports : (a b : Names) → AreNames p skeletons defs a → AreNames p skeletons defs b → (u : ℕ)
      (x y : List Wanted) → StandsAt a.wanted u x → StandsAt b.wanted u y → x ≡ y
  same_imports a b first second u x y is_x is_y =
      let within_x = within a.wanted u x is_x in
      let counted = first.units in
      elim (has_place u (omega (arith, within_x, counted))) [
        | inl some ↦
            same_ok (imports_of p skeletons (take some.0 b.exports) u) x y
            (ap (λ e. imports_of p skeletons (take some.0 e) u) (sym (same_exports a b first second))
            ∙ first.imports u some.0 x some.1 is_x)
            (second.imports u some.0 y some.1 is_y)
        | inr none ↦ first.others u x none is_x ∙ sym (second.others u y none is_y)
      ]

  one_naming : (a b : Names) → AreNames p skeletons defs a → AreNames p skeletons defs b → a ≡ b
  one_naming a b first second =
      let la = first.units in
      let lb = second.units in
      ap₂ (λ e w. let all : Names = record { exports = e; wanted = w } in all) (same_exports a b first second)
      (same_lists a.wanted b.wanted (omega (arith, la, lb)) (same_imports a b first second))

  -- ---- refusals

  -- a place of a list of exports that was found has one
  exports_there : (all : List (List Export)) (place g : ℕ) (diag : Diag) (o : Option (List Export))
      → AreExportsInOrder p skeletons defs all → StandsAt p.finished place g → place < length all
      → slice_get all place ≡ o → exports_of p skeletons defs g (take place all) ≡ Err diag → ⊥
  exports_there all place g diag None are at low is wrong =
      let high = past all place is in omega (arith, low, high)
  exports_there all place g diag (Some e) are at low is wrong =
      not_both (exports_of p skeletons defs g (take place all)) e diag (are place g e at is) wrong

  imports_there : (all : Names) (u place : ℕ) (o : Option (List Wanted)) → AreNames p skeletons defs all
      → ImportsAt p u place → slice_get all.wanted u ≡ o
      → (imports : List Wanted) × (imports_of p skeletons (take place all.exports) u ≡ Ok imports)
  imports_there all u place None are at is =
      let high = past all.wanted u is in
      let low = source_known p at.group u formed at.source in
      let counted = are.units in
      absurd (omega (arith, low, high, counted))
  imports_there all u place (Some imports) are at is = (imports, are.imports u place imports at is)

  -- the unit of a refusal has the place of its group
  unit_at : (g place : ℕ) (below : List (List Export)) (diag : Diag) → StandsAt p.finished place g
      → (refusal : IsUnitRefusal p skeletons defs below g diag) → ImportsAt p refusal.unit place
  unit_at g place below diag at refusal = record {
    group = g;
    finished = at;
    source = from_member (importing p g) refusal.unit
        (subst (λ l. Member l refusal.unit) (sym refusal.first.split)
        (right_from refusal.first.before (refusal.unit ∷ refusal.first.after) refusal.unit (inl refl)));
  }

  -- what is refused of a group isn't found
  not_refused : (g place : ℕ) (all below : List (List Export)) (diag : Diag)
      → AreExportsInOrder p skeletons defs all → StandsAt p.finished place g → place < length all
      → take place all ≡ below
      → ((u : ℕ) → ImportsAt p u place
      → (imports : List Wanted) × (imports_of p skeletons (take place all) u ≡ Ok imports))
      → (exports_of p skeletons defs g below ≡ Err diag) ⊎ IsUnitRefusal p skeletons defs below g diag → ⊥
  not_refused g place all below diag are at low same found (inl wrong) =
      exports_there all place g diag (slice_get all place) are at low refl
      (ap (exports_of p skeletons defs g) same ∙ wrong)
  not_refused g place all below diag are at low same found (inr refusal) =
      let some = found refusal.unit (unit_at g place below diag at refusal) in
      not_both (imports_of p skeletons (take place all) refusal.unit) some.0 diag some.1
      (ap (λ b. imports_of p skeletons b refusal.unit) same ∙ refusal.refused)

  -- names that are found aren't refused
  found_not_refused : (all : Names) (diag : Diag) → AreNames p skeletons defs all
      → IsNamesRefusal p skeletons defs diag → ⊥
  found_not_refused all diag are refusal =
      let place = length refusal.below in
      let low = within p.finished place refusal.group refusal.next in
      let counted = are.groups in
      let same : take place all.exports ≡ refusal.below =
      same_front all.exports refusal.below are.exports refusal.exports place (omega (arith, low, counted)) (omega arith)
      (omega (arith, low)) ∙ take_all place refusal.below (omega arith) in
      not_refused refusal.group place all.exports refusal.below diag are.exports refusal.next
      (omega (arith, low, counted)) same
      (λ u at. imports_there all u place (slice_get all.wanted u) are at refl) refusal.refused

  -- a refusal isn't before another one
  not_before : (d e : Diag) (first : IsNamesRefusal p skeletons defs d) (second : IsNamesRefusal p skeletons defs e)
      → length first.below < length second.below → ⊥
  not_before d e first second less =
      let place = length first.below in
      let low = within p.finished place first.group first.next in
      let same : take place second.below ≡ first.below =
      same_front second.below first.below second.exports first.exports place (omega (arith, less)) (omega arith)
      (omega (arith, low)) ∙ take_all place first.below (omega arith) in
      not_refused first.group place second.below first.below d second.exports first.next less same
      (λ u at. second.imported u place less at) first.refused

  one_unit : (g : ℕ) (below : List (List Export)) (d e : Diag) → IsUnitRefusal p skeletons defs below g d
      → IsUnitRefusal p skeletons defs below g e → d ≡ e
  one_unit g below d e first second =
      let same = one_first (λ u. (other : Diag) × (imports_of p skeletons below u ≡ Err other)) (importing p g)
      first.unit second.unit first.first second.first in
      same_err (imports_of p skeletons below second.unit) d e
      (ap (imports_of p skeletons below) (sym same) ∙ first.refused) second.refused

  one_group : (g : ℕ) (below : List (List Export)) (d e : Diag)
      → (exports_of p skeletons defs g below ≡ Err d) ⊎ IsUnitRefusal p skeletons defs below g d
      → (exports_of p skeletons defs g below ≡ Err e) ⊎ IsUnitRefusal p skeletons defs below g e → d ≡ e
  one_group g below d e (inl first) (inl second) = same_err (exports_of p skeletons defs g below) d e first second
  one_group g below d e (inl first) (inr second) =
      absurd (not_both (exports_of p skeletons defs g below) second.exports d second.found first)
  one_group g below d e (inr first) (inl second) =
      absurd (not_both (exports_of p skeletons defs g below) first.exports e first.found second)
  one_group g below d e (inr first) (inr second) = one_unit g below d e first second

  -- there is one refusal
  one_refusal : (d e : Diag) → IsNamesRefusal p skeletons defs d → IsNamesRefusal p skeletons defs e → d ≡ e
  one_refusal d e first second = elim (cases_lt (length first.below) (length second.below)) [
    | inl less ↦ absurd (not_before d e first second less)
    | inr no_less ↦ elim (cases_lt (length second.below) (length first.below)) [
      | inl more ↦ absurd (not_before e d second first more)
      | inr no_more ↦
          let n = length first.below in
          let counted : n ≡ length second.below = omega (arith, no_less, no_more) in
          let low = within p.finished n first.group first.next in
          let below : first.below ≡ second.below =
          sym (take_all n first.below (omega arith))
          ∙ same_front first.below second.below first.exports second.exports n (omega arith) (omega (arith, counted))
          (omega (arith, low))
          ∙ take_all n second.below (omega (arith, counted)) in
          let group : first.group ≡ second.group =
          one_there p.finished n first.group second.group first.next
          (subst (λ m. StandsAt p.finished m second.group) (sym counted) second.next) in
          one_group second.group second.below d e
          (subst (λ g. (exports_of p skeletons defs g second.below ≡ Err d)
          ⊎ IsUnitRefusal p skeletons defs second.below g d) group
          (subst (λ b. (exports_of p skeletons defs first.group b ≡ Err d)
          ⊎ IsUnitRefusal p skeletons defs b first.group d) below first.refused))
          second.refused
    ]
  ]

  -- ---- back to the value

  names_by : (all : Names) (r : Result Names Diag) → names_of p skeletons defs ≡ r → AreNames p skeletons defs all
      → r ≡ Ok all
  names_by all (Ok other) is are =
      ap Ok (one_naming other all (names_from p skeletons defs other formed is) are)
  names_by all (Err diag) is are =
      absurd (found_not_refused all diag are (refusal_from p skeletons defs diag formed is))

  refusal_by : (diag : Diag) (r : Result Names Diag) → names_of p skeletons defs ≡ r
      → IsNamesRefusal p skeletons defs diag → r ≡ Err diag
  refusal_by diag (Ok all) is refusal =
      absurd (found_not_refused all diag (names_from p skeletons defs all formed is) refusal)
  refusal_by diag (Err other) is refusal =
      ap Err (one_refusal other diag (refusal_from p skeletons defs other formed is) refusal)

-- ---- the laws

pub names_are_these : NamesAreThese
names_are_these p skeletons defs all formed = (
  names_from p skeletons defs all formed,
  names_by p skeletons defs formed all (names_of p skeletons defs) refl,
)

pub names_are_refused : NamesAreRefused
names_are_refused p skeletons defs diag formed = (
  refusal_from p skeletons defs diag formed,
  refusal_by p skeletons defs formed diag (names_of p skeletons defs) refl,
)
