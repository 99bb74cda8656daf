-- The names of a project are those of its groups and units, by their numbers; or the first refusal.
use Rattle.std.proofs.Common.{◌≡◌, ◌⊎◌, ◌∙◌, inl, inr, sym, ap, refl, subst, ℕ, zero, suc, ◌+◌, ◌<◌, ◌≤◌, List, [], ◌∷◌, ◌++◌, length, map, take, Option, Some, None, Result, Ok, Err, arith}
use Rattle.std.specs.Prelude.{Contains, slice_get, slice_set}
use Rattle.std.specs.Option.{option_map_or}
use Rattle.std.proofs.lemmas.Bool.{cases_eq}
use Rattle.std.proofs.lemmas.List.{length-append, length-map, length-set, take-append-le, take_all}
use Rattle.std.proofs.lemmas.List.Elements.{All-contains}
use Rattle.std.proofs.lemmas.Option.{get_or_from_slice_get, slice_get_within}
use Rattle.cm_base.specs.Diags.{◌>>=◌}
use Rattle.cm_base.specs.declared.diag.Diag.{Diag}
use Rattle.cm_base.specs.declared.record.Def.{Def}
use Rattle.cm_base.specs.declared.record.Skeleton.{Skeleton}
use Rattle.cm_description.specs.WellFormed.{IsGroupWithin, IsWellFormed, StandsAt}
use Rattle.cm_description.specs.declared.loaded.Export.{Export}
use Rattle.cm_description.specs.declared.loaded.Group.{Group}
use Rattle.cm_description.specs.declared.loaded.Project.{Project}
use Rattle.cm_description.specs.declared.loaded.Unit.{Unit as ProjectUnit}
use Rattle.cm_description.specs.declared.loaded.Wanted.{Wanted}
use Rattle.visibility.proofs.Among.{Member, from_member, right_from, to_member}
use Rattle.visibility.specs.Exports.{exports_of}
use Rattle.visibility.specs.Imports.{imports_in, imports_of}
use Rattle.visibility.specs.Naming.{importing, names, names_of, no_imports, unless_frozen, with_groups, with_imports}
use Rattle.visibility.specs.Projects.{group_of}
use Rattle.visibility.specs.declared.names.Names.{Names}
use Rattle.visibility_laws.proofs.Firsts.{first_same}
use Rattle.visibility_laws.proofs.Places.{after_ok, after_wrong, one_there, past, pushed, set_other, set_there, within}
use Rattle.visibility_laws.proofs.Stepping.{first_here, first_more}
use Rattle.visibility_laws.specs.Naming.{AreExportsInOrder, AreNames, ImportsAt, IsNamesRefusal, IsUnitRefusal}
use Rattle.visibility_laws.specs.Steps.{IsFirst}

-- ---- the units of a group

neither : (x v : ℕ) (xs : List ℕ) → (x ≡ v → ⊥) → (Member xs v → ⊥) → Member (x ∷ xs) v → ⊥
neither x v xs other none (inl same) = other same
neither x v xs other none (inr more) = none more

pub member_or : (xs : List ℕ) (v : ℕ) → Member xs v ⊎ (Member xs v → ⊥)
member_or [] v = inr (λ m. m)
member_or (x ∷ xs) v = elim (cases_eq x v) [
  | inl same ↦ inl (inl same)
  | inr other ↦ elim (member_or xs v) [
    | inl m ↦ inl (inr m)
    | inr none ↦ inr (neither x v xs other none)
  ]
]

-- the imports of these units are set, and no others
pub record Sets (imports : ℕ → Result (List Wanted) Diag) (units : List ℕ) (old new : List (List Wanted)) : Type 0 where
  pub counted : length new ≡ length old
  pub found : (u : ℕ) → Member units u → (list : List Wanted) × (imports u ≡ Ok list)
  pub set : (u : ℕ) (list : List Wanted) → Member units u → StandsAt new u list → imports u ≡ Ok list
  pub kept : (u : ℕ) → (Member units u → ⊥) → slice_get new u ≡ slice_get old u

sets_none : (imports : ℕ → Result (List Wanted) Diag) (old : List (List Wanted)) → Sets imports [] old old
sets_none imports old = record {
  counted = refl;
  found = λ u m. absurd m;
  set = λ u list m is. absurd m;
  kept = λ u none. refl;
}

first_set : (imports : ℕ → Result (List Wanted) Diag) (u : ℕ) (units : List ℕ) (old new : List (List Wanted))
    (these : List Wanted)
    → imports u ≡ Ok these → Sets imports units (slice_set old u these) new → (list : List Wanted)
    → StandsAt new u list → imports u ≡ Ok list
first_set imports u units old new these gives rest list is = elim (member_or units u) [
  | inl m ↦ rest.set u list m is
  | inr none ↦ gives ∙ ap Ok (set_there old u these list (sym (rest.kept u none) ∙ is))
]

sets_more : (imports : ℕ → Result (List Wanted) Diag) (u : ℕ) (units : List ℕ) (old new : List (List Wanted))
    (these : List Wanted)
    → imports u ≡ Ok these → Sets imports units (slice_set old u these) new → Sets imports (u ∷ units) old new
sets_more imports u units old new these gives rest = record {
  counted = rest.counted ∙ length-set old u these;
  found = λ v m. elim m [
    | inl same ↦ (these, ap imports (sym same) ∙ gives)
    | inr more ↦ rest.found v more
  ];
  set = λ v list m is. elim m [
    | inl same ↦ ap imports (sym same)
        ∙ first_set imports u units old new these gives rest list (subst (λ n. StandsAt new n list) (sym same) is)
    | inr more ↦ rest.set v list more is
  ];
  kept = λ v none.
      rest.kept v (λ m. none (inr m)) ∙ set_other old u v these (λ same. none (inl (sym same)));
}

all_set : (imports : ℕ → Result (List Wanted) Diag) (units : List ℕ) (old new : List (List Wanted))
    → with_imports imports units old ≡ Ok new → Sets imports units old new
all_set imports [] old new is = let same : old ≡ new = cc in subst (Sets imports [] old) same (sets_none imports old)
all_set imports (u ∷ units) old new is =
    let step = after_ok (imports u) (λ these. with_imports imports units (slice_set old u these)) new is in
    sets_more imports u units old new step.0 step.1
    (all_set imports units (slice_set old u step.0) new step.2)

-- a unit whose imports are refused
abbrev Refused : (ℕ → Result (List Wanted) Diag) → ℕ → Type 0
Refused imports u = (diag : Diag) × (imports u ≡ Err diag)

-- the first of these units that is refused
abbrev FirstWrong : (ℕ → Result (List Wanted) Diag) → List ℕ → Diag → Type 0
FirstWrong imports units diag = (u : ℕ) × IsFirst (Refused imports) units u × (imports u ≡ Err diag)

not_refused : (imports : ℕ → Result (List Wanted) Diag) (u : ℕ) (these : List Wanted) → imports u ≡ Ok these
    → Refused imports u → ⊥
not_refused imports u these gives refused =
    let clash : ◌≡◌ {A = Result (List Wanted) Diag} (Ok these) (Err refused.0) = sym gives ∙ refused.1 in cc

set_wrong : (imports : ℕ → Result (List Wanted) Diag) (units : List ℕ) (old : List (List Wanted)) (diag : Diag)
    → with_imports imports units old ≡ Err diag → FirstWrong imports units diag
set_wrong imports [] old diag is = cc
set_wrong imports (u ∷ units) old diag is =
    elim (after_wrong (imports u) (λ these. with_imports imports units (slice_set old u these)) diag is) [
      | inl wrong ↦ (u, first_here (Refused imports) u units (diag, wrong), wrong)
      | inr step ↦
          let found = set_wrong imports units (slice_set old u step.0) diag step.2 in (
            found.0,
            first_more (Refused imports) u units found.0 (not_refused imports u step.0 step.1) found.1,
            found.2,
          )
    ]

-- ---- the group of a unit

unfrozen : (thawed : Option (List Export)) (units : List ℕ) (u : ℕ) → Contains (unless_frozen thawed units) u
    → Contains units u
unfrozen None units u c = c
unfrozen (Some recorded) units u c = absurd (to_member [] u c)

home_unit : (p : Project) (g u : ℕ) (group : Group) (o : Option ProjectUnit) → IsWellFormed p
    → StandsAt p.groups g group → Contains group.units u → slice_get p.units u ≡ o
    → option_map_or (λ (unit : ProjectUnit). unit.group) o 0 ≡ g
home_unit p g u group None formed there has is =
    let item = subst (IsGroupWithin (length p.groups) (length p.units))
    (get_or_from_slice_get p.groups g group group there)
    (formed.groups g group (slice_get_within p.groups g group there)) in
    let low = All-contains (λ v. v < length p.units) group.units u item.units_below has in
    let high = past p.units u is in
    absurd (omega (arith, low, high))
home_unit p g u group (Some unit) formed there has is = sym (formed.home u g unit group is there has)

home_group : (p : Project) (g u : ℕ) (o : Option Group) → IsWellFormed p → slice_get p.groups g ≡ o
    → Contains (option_map_or (λ (group : Group). unless_frozen group.thawed group.units) o []) u → group_of p u ≡ g
home_group p g u None formed there c = absurd (to_member [] u c)
home_group p g u (Some group) formed there c =
    home_unit p g u group (slice_get p.units u) formed there (unfrozen group.thawed group.units u c) refl

known_by : (p : Project) (g u : ℕ) (o : Option Group) → IsWellFormed p → slice_get p.groups g ≡ o
    → Contains (option_map_or (λ (group : Group). unless_frozen group.thawed group.units) o []) u → u < length p.units
known_by p g u None formed there c = absurd (to_member [] u c)
known_by p g u (Some group) formed there c =
    let item = subst (IsGroupWithin (length p.groups) (length p.units))
    (get_or_from_slice_get p.groups g group group there)
    (formed.groups g group (slice_get_within p.groups g group there)) in
    All-contains (λ v. v < length p.units) group.units u item.units_below (unfrozen group.thawed group.units u c)

-- a unit whose imports are looked for is a unit
pub source_known : (p : Project) (g u : ℕ) → IsWellFormed p → Contains (importing p g) u → u < length p.units
source_known p g u formed c = known_by p g u (slice_get p.groups g) formed refl c

-- a unit whose imports are looked for with those of a group is of that group
pub home_of : (p : Project) (g u : ℕ) → IsWellFormed p → Contains (importing p g) u → group_of p u ≡ g
home_of p g u formed c = home_group p g u (slice_get p.groups g) formed refl c

-- .. and imports what is said of it alone
imports_alone : (p : Project) (skeletons : List Skeleton) (below : List (List Export)) (g u : ℕ) → IsWellFormed p
    → Contains (importing p g) u → imports_in p skeletons below g u ≡ imports_of p skeletons below u
imports_alone p skeletons below g u formed c = ap (λ h. imports_in p skeletons below h u) (sym (home_of p g u formed c))

-- a unit has one place
one_place : (p : Project) (u i j : ℕ) → IsWellFormed p → ImportsAt p u i → ImportsAt p u j → i ≡ j
one_place p u i j formed first second =
    let same : first.group ≡ second.group =
    sym (home_of p first.group u formed first.source) ∙ home_of p second.group u formed second.source in
    formed.finished_once i j first.group first.finished
    (subst (λ g. StandsAt p.finished j g) (sym same) second.finished)

-- ---- group after group

-- the names of the groups before a place
pub record AreBefore (p : Project) (skeletons : List Skeleton) (defs : List Def) (place : ℕ)
    (all : Names) : Type 0 where
  pub groups : length all.exports ≡ place
  pub exports : AreExportsInOrder p skeletons defs all.exports
  pub units : length all.wanted ≡ length p.units
  pub imported : (u at : ℕ) → at < place → ImportsAt p u at
      → (imports : List Wanted) × (imports_of p skeletons (take at all.exports) u ≡ Ok imports)
  pub imports : (u at : ℕ) (imports : List Wanted) → at < place → ImportsAt p u at → StandsAt all.wanted u imports
      → imports_of p skeletons (take at all.exports) u ≡ Ok imports
  pub others : (u : ℕ) (imports : List Wanted) → ((at : ℕ) → at < place → ImportsAt p u at → ⊥)
      → StandsAt all.wanted u imports → imports ≡ []

none_stands : (xs : List ProjectUnit) (u : ℕ) (imports : List Wanted)
    → StandsAt (map (λ (unit : ProjectUnit). let none : List Wanted = [] in none) xs) u imports → imports ≡ []
none_stands [] u imports is = cc
none_stands (x ∷ xs) zero imports is = let same : ◌≡◌ {A = List Wanted} [] imports = cc in sym same
none_stands (x ∷ xs) (suc u) imports is = none_stands xs u imports is

none_before : (p : Project) (skeletons : List Skeleton) (defs : List Def)
    → AreBefore p skeletons defs 0 (names [] (no_imports p))
none_before p skeletons defs = record {
  groups = refl;
  exports = λ place g exports there is. absurd (let low = within [] place exports is in omega (arith, low));
  units = length-map p.units (λ (unit : ProjectUnit). []);
  imported = λ u at low is. absurd (omega (arith, low));
  imports = λ u at imports low is there. absurd (omega (arith, low));
  others = λ u imports none there. none_stands p.units u imports there;
}

module _ (p : Project) (skeletons : List Skeleton) (defs : List Def) (formed : IsWellFormed p) where
  -- the front of the lists stays as it is
  front : (all : List (List Export)) (last : List Export) (at : ℕ) → at ≤ length all
      → take at (all ++ last ∷ []) ≡ take at all
  front all last at low = take-append-le at all (last ∷ []) low

  -- one more group is named
  before_more : (g place : ℕ) (all : Names) (e : List Export) (wanted : List (List Wanted))
      → StandsAt p.finished place g → AreBefore p skeletons defs place all
      → exports_of p skeletons defs g all.exports ≡ Ok e
      → Sets (imports_in p skeletons all.exports g) (importing p g) all.wanted wanted
      → AreBefore p skeletons defs (place + 1) (names (all.exports ++ e ∷ []) wanted)
  before_more g place all e wanted there before gives sets =
      let counted = before.groups in
      let whole : take place (all.exports ++ e ∷ []) ≡ all.exports =
      front all.exports e place (omega (arith, counted)) ∙ take_all place all.exports (omega (arith, counted)) in
      let of_group : (u at : ℕ) → at ≡ place → ImportsAt p u at → Contains (importing p g) u =
      λ u at same is. subst (λ h. Contains (importing p h) u)
      (one_there p.finished place is.group g (subst (λ n. StandsAt p.finished n is.group) same is.finished) there)
      is.source in
      let early : (u at : ℕ) → at < place → ImportsAt p u at → Member (importing p g) u → ⊥ =
      λ u at low is m.
      let same = one_place p u at place formed is
      (record { group = g; finished = there; source = from_member (importing p g) u m }) in
      omega (arith, low, same) in
      record {
        groups = length-append all.exports (e ∷ []) ∙ ap (λ n. n + 1) counted;
        exports = λ at h list stands is. elim (pushed all.exports e at list is) [
          | inl old ↦
              let low = old.0 in
              ap (exports_of p skeletons defs h) (front all.exports e at (omega (arith, low)))
              ∙ before.exports at h list stands old.1
          | inr new ↦
              let same : at ≡ place = new.0 ∙ counted in
              ap (λ n. exports_of p skeletons defs h (take n (all.exports ++ e ∷ []))) same
              ∙ ap (exports_of p skeletons defs h) whole
              ∙ ap (λ k. exports_of p skeletons defs k all.exports)
              (one_there p.finished place h g (subst (λ n. StandsAt p.finished n h) same stands) there)
              ∙ gives
              ∙ ap Ok new.1
        ];
        units = sets.counted ∙ before.units;
        imported = λ u at low is. elim (cases_eq at place) [
          | inl same ↦
              let source = of_group u at same is in
              let found = sets.found u (to_member (importing p g) u source) in (
                found.0,
                ap (λ n. imports_of p skeletons (take n (all.exports ++ e ∷ [])) u) same
                    ∙ ap (λ b. imports_of p skeletons b u) whole
                    ∙ sym (imports_alone p skeletons all.exports g u formed source)
                    ∙ found.1,
              )
          | inr other ↦
              let less : at < place = omega (arith, low, other) in
              let found = before.imported u at less is in (
                found.0,
                ap (λ b. imports_of p skeletons b u) (front all.exports e at (omega (arith, less, counted))) ∙ found.1,
              )
        ];
        imports = λ u at list low is stands. elim (cases_eq at place) [
          | inl same ↦
              let source = of_group u at same is in
              ap (λ n. imports_of p skeletons (take n (all.exports ++ e ∷ [])) u) same
              ∙ ap (λ b. imports_of p skeletons b u) whole
              ∙ sym (imports_alone p skeletons all.exports g u formed source)
              ∙ sets.set u list (to_member (importing p g) u source) stands
          | inr other ↦
              let less : at < place = omega (arith, low, other) in
              ap (λ b. imports_of p skeletons b u) (front all.exports e at (omega (arith, less, counted)))
              ∙ before.imports u at list less is (sym (sets.kept u (early u at less is)) ∙ stands)
        ];
        others = λ u list none stands.
            before.others u list (λ at low is. none at (omega (arith, low)) is)
            (sym (sets.kept u (λ m. none place (omega arith)
            (record { group = g; finished = there; source = from_member (importing p g) u m }))) ∙ stands);
      }

  -- what is left of the groups, from a place on
  abbrev AreLeft : List ℕ → ℕ → Type 0
  AreLeft groups place =
      (place + length groups ≡ length p.finished)
      × ((i g : ℕ) → StandsAt groups i g → StandsAt p.finished (place + i) g)

  left_more : (g : ℕ) (groups : List ℕ) (place : ℕ) → AreLeft (g ∷ groups) place → AreLeft groups (place + 1)
  left_more g groups place left = (
    let whole = left.0 in omega (arith, whole),
    λ i h is. let next : place + suc i ≡ place + 1 + i = omega arith in
        subst (λ n. StandsAt p.finished n h) next (left.1 (suc i) h is),
  )

  left_first : (g : ℕ) (groups : List ℕ) (place : ℕ) → AreLeft (g ∷ groups) place → StandsAt p.finished place g
  left_first g groups place left =
      let here : place + 0 ≡ place = omega arith in
      subst (λ n. StandsAt p.finished n g) here (left.1 0 g refl)

  abbrev imports_then : List ℕ → Names → List Export → List (List Wanted) → Result Names Diag
  imports_then groups all e wanted = with_groups p skeletons defs groups (names (all.exports ++ e ∷ []) wanted)

  abbrev exports_then : ℕ → List ℕ → Names → List Export → Result Names Diag
  exports_then g groups all e =
      with_imports (imports_in p skeletons all.exports g) (importing p g) all.wanted >>= imports_then groups all e

  all_named : (groups : List ℕ) (place : ℕ) (so_far all : Names) → AreLeft groups place
      → AreBefore p skeletons defs place so_far → with_groups p skeletons defs groups so_far ≡ Ok all
      → AreBefore p skeletons defs (length p.finished) all
  all_named [] place so_far all left before is =
      let same : so_far ≡ all = cc in
      let whole = left.0 in
      let end : place ≡ length p.finished = omega (arith, whole) in
      subst (λ n. AreBefore p skeletons defs n all) end (subst (AreBefore p skeletons defs place) same before)
  all_named (g ∷ groups) place so_far all left before is =
      let first = after_ok (exports_of p skeletons defs g so_far.exports) (exports_then g groups so_far) all is in
      let second = after_ok
      (with_imports (imports_in p skeletons so_far.exports g) (importing p g) so_far.wanted)
      (imports_then groups so_far first.0) all first.2 in
      all_named groups (place + 1) (names (so_far.exports ++ first.0 ∷ []) second.0) all
      (left_more g groups place left)
      (before_more g place so_far first.0 second.0 (left_first g groups place left) before first.1
      (all_set (imports_in p skeletons so_far.exports g) (importing p g) so_far.wanted second.0 second.1))
      second.2

  unit_refused : (g : ℕ) (below : List (List Export)) (e : List Export) (diag : Diag)
      → exports_of p skeletons defs g below ≡ Ok e
      → FirstWrong (imports_in p skeletons below g) (importing p g) diag
      → IsUnitRefusal p skeletons defs below g diag
  unit_refused g below e diag gives (u, first, wrong) =
      let alone : (v : ℕ) → Member (importing p g) v
      → imports_in p skeletons below g v ≡ imports_of p skeletons below v =
      λ v m. imports_alone p skeletons below g v formed (from_member (importing p g) v m) in
      let among : Member (importing p g) u =
      subst (λ l. Member l u) (sym first.split) (right_from first.before (u ∷ first.after) u (inl refl)) in
      record {
        exports = e;
        found = gives;
        unit = u;
        first = first_same (Refused (imports_in p skeletons below g)) (Refused (imports_of p skeletons below))
            (importing p g) u
            (λ v m refused. (refused.0, sym (alone v m) ∙ refused.1))
            (λ v m refused. (refused.0, alone v m ∙ refused.1)) first;
        refused = sym (alone u among) ∙ wrong;
      }

  names_wrong : (groups : List ℕ) (place : ℕ) (so_far : Names) (diag : Diag) → AreLeft groups place
      → AreBefore p skeletons defs place so_far → with_groups p skeletons defs groups so_far ≡ Err diag
      → IsNamesRefusal p skeletons defs diag
  names_wrong [] place so_far diag left before is = cc
  names_wrong (g ∷ groups) place so_far diag left before is =
      let there = left_first g groups place left in
      let counted = before.groups in
      let refusal : (exports_of p skeletons defs g so_far.exports ≡ Err diag)
      ⊎ IsUnitRefusal p skeletons defs so_far.exports g diag → IsNamesRefusal p skeletons defs diag =
      λ refused. record {
        below = so_far.exports;
        exports = before.exports;
        imported = λ u at low at_place. before.imported u at (omega (arith, low, counted)) at_place;
        group = g;
        next = subst (λ n. StandsAt p.finished n g) (sym counted) there;
        refused = refused;
      } in
      elim (after_wrong (exports_of p skeletons defs g so_far.exports) (exports_then g groups so_far) diag is) [
        | inl wrong ↦ refusal (inl wrong)
        | inr first ↦ elim (after_wrong
            (with_imports (imports_in p skeletons so_far.exports g) (importing p g) so_far.wanted)
            (imports_then groups so_far first.0) diag first.2) [
              | inl wrong ↦ refusal (inr (unit_refused g so_far.exports first.0 diag first.1
                  (set_wrong (imports_in p skeletons so_far.exports g) (importing p g) so_far.wanted diag wrong)))
              | inr second ↦ names_wrong groups (place + 1) (names (so_far.exports ++ first.0 ∷ []) second.0) diag
                  (left_more g groups place left)
                  (before_more g place so_far first.0 second.0 there before first.1
                  (all_set (imports_in p skeletons so_far.exports g) (importing p g) so_far.wanted second.0 second.1))
                  second.2
            ]
      ]

  all_left : AreLeft p.finished 0
  all_left = (
    omega arith,
    λ i g is. let same : i ≡ 0 + i = omega arith in subst (λ n. StandsAt p.finished n g) same is,
  )

-- ---- all groups

place_within : (p : Project) (u place : ℕ) → ImportsAt p u place → place < length p.finished
place_within p u place is = within p.finished place is.group is.finished

pub names_from : (p : Project) (skeletons : List Skeleton) (defs : List Def) (all : Names) → IsWellFormed p
    → names_of p skeletons defs ≡ Ok all → AreNames p skeletons defs all
names_from p skeletons defs all formed is =
    let before = all_named p skeletons defs formed p.finished 0 (names [] (no_imports p)) all
    (all_left p skeletons defs formed) (none_before p skeletons defs) is in
    record {
      groups = before.groups;
      exports = before.exports;
      units = before.units;
      imports = λ u place list at stands. before.imports u place list (place_within p u place at) at stands;
      others = λ u list none stands. before.others u list (λ at low here. none at here) stands;
    }

pub refusal_from : (p : Project) (skeletons : List Skeleton) (defs : List Def) (diag : Diag) → IsWellFormed p
    → names_of p skeletons defs ≡ Err diag → IsNamesRefusal p skeletons defs diag
refusal_from p skeletons defs diag formed is =
    names_wrong p skeletons defs formed p.finished 0 (names [] (no_imports p)) diag
    (all_left p skeletons defs formed) (none_before p skeletons defs) is
