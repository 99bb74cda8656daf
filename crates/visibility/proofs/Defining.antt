-- How the table of the first definers grows, and where it meets a name that another unit defines.
use Rattle.std.proofs.Common.{◌≡◌, ◌∙◌, sym, ap, ap₂, refl, ℕ, ◌+◌, ◌<◌, ◌==◌, Bool, true, false, not, ◌||◌, cond, List, [], ◌∷◌, ◌++◌, append_assoc, length, drop, get_or, map, Option, Some, None, eq-eqb}
use Rattle.std.proofs.Math.Path.{fun_ext}
use Rattle.std.proofs.lemmas.List.{drop_all, get_or_default}
use Rattle.std.specs.Prelude.{filter, find}
use Rattle.std.specs.List.{list_any}
use Rattle.std.specs.Option.{option_or}
use Rattle.cm_base.specs.declared.record.ModName.{ModName}
use Rattle.cm_base.specs.declared.record.Skeleton.{Skeleton}
use Rattle.cm_base.specs.declared.record.Spot.{Spot}
use Rattle.cm_conditions.proofs.TableSteps.{left_at, same_is}
use Rattle.cm_conditions.specs.Tables.{same_name}
use Rattle.cm_conditions.specs.Values.{same_module, has_module}
use Rattle.visibility.proofs.ModuleNames.{own_module}
use Rattle.visibility.specs.Exports.{spots_in, defined_spots, is_first, clash_among}
use Rattle.visibility.specs.Projects.{skeleton_of, defined_by}
use Rattle.visibility.specs.Providers.{definers_among}
use Rattle.visibility.specs.Tables.{fits, first_of, unit_of, with_spots, clash_after}

-- ---- alternatives

pub or_none : (o : Option ℕ) → option_or o None ≡ o
or_none None = refl
or_none (Some v) = refl

or_assoc : {A : Type 0} (a b c : Option A) → option_or (option_or a b) c ≡ option_or a (option_or b c)
or_assoc None b c = refl
or_assoc (Some x) b c = refl

or_cond : (b : Bool) (u : ℕ) (rest : Option ℕ) → option_or (cond b (Some u) None) rest ≡ cond b (Some u) rest
or_cond true u rest = refl
or_cond false u rest = refl

-- ---- tables with more spots

-- no unit defines a name yet
abbrev pub none_found : ModName → Option ℕ
none_found name = None

pub with_one : (table : ModName → Option ℕ) (at : ℕ × Spot) (more : List (ℕ × Spot)) (name : ModName)
    → with_spots (with_spots table (at ∷ [])) more name ≡ with_spots table (at ∷ more) name
with_one table at more name =
    or_assoc (table name) (cond (same_name at.1.name name) (Some at.0) None) (unit_of more name)
    ∙ ap (option_or (table name)) (or_cond (same_name at.1.name name) at.0 (unit_of more name))

unit_by : (b : Bool) (u : ℕ) (a c : Option ℕ) → cond b (Some u) (option_or a c) ≡ option_or (cond b (Some u) a) c
unit_by true u a c = refl
unit_by false u a c = refl

pub unit_of-append : (xs ys : List (ℕ × Spot)) (name : ModName)
    → unit_of (xs ++ ys) name ≡ option_or (unit_of xs name) (unit_of ys name)
unit_of-append [] ys name = refl
unit_of-append (at ∷ xs) ys name =
    ap (cond (same_name at.1.name name) (Some at.0)) (unit_of-append xs ys name)
    ∙ unit_by (same_name at.1.name name) at.0 (unit_of xs name) (unit_of ys name)

with_all : (table : ModName → Option ℕ) (xs ys : List (ℕ × Spot)) (name : ModName)
    → with_spots (with_spots table xs) ys name ≡ with_spots table (xs ++ ys) name
with_all table xs ys name =
    or_assoc (table name) (unit_of xs name) (unit_of ys name) ∙ ap (option_or (table name))
    (sym (unit_of-append xs ys name))

clash_by : (b : Bool) (at : ℕ × Spot) (whole first rest : Option (ℕ × Spot)) → whole ≡ option_or first rest
    → cond b whole (Some at) ≡ option_or (cond b first (Some at)) rest
clash_by true at whole first rest h = h
clash_by false at whole first rest h = refl

-- the first clash of spots is that of the first ones, or else of those behind
clash_after-append : (table : ModName → Option ℕ) (xs ys : List (ℕ × Spot))
    → clash_after table (xs ++ ys) ≡ option_or (clash_after table xs) (clash_after (with_spots table xs) ys)
clash_after-append table [] ys = ap (λ t. clash_after t ys) (fun_ext (λ name. sym (or_none (table name))))
clash_after-append table (at ∷ xs) ys =
    clash_by (fits (table at.1.name) at.0) at (clash_after (with_spots table (at ∷ [])) (xs ++ ys))
    (clash_after (with_spots table (at ∷ [])) xs) (clash_after (with_spots table (at ∷ xs)) ys)
    (clash_after-append (with_spots table (at ∷ [])) xs ys
    ∙ ap (λ t. option_or (clash_after (with_spots table (at ∷ [])) xs) (clash_after t ys))
    (fun_ext (with_one table at xs)))

-- ---- the loop over the spots of a unit

-- what is left of a unit's spots and a table say the same of clashes, and find the same
pub record SameSpots (one : ModName → Option ℕ) (left : List (ℕ × Spot)) (other : ModName → Option ℕ)
    (right : List (ℕ × Spot)) : Type 0 where
  pub clash : clash_after one left ≡ clash_after other right
  pub finds : (name : ModName) → with_spots one left name ≡ with_spots other right name

-- a spot that fits is added
pub spot_fits : (old new : ModName → Option ℕ) (u : ℕ) (spots : List Spot) (i : ℕ) (spot : Spot)
    (all : ModName → Option ℕ) (whole : List (ℕ × Spot))
    → i < length spots → spot ≡ get_or spots i spot → fits (old spot.name) u ≡ true
    → ((n : ModName) → new n ≡ option_or (old n) (cond (same_name spot.name n) (Some u) None))
    → SameSpots old (spots_in u (drop i spots)) all whole → SameSpots new (spots_in u (drop (i + 1) spots)) all whole
spot_fits old new u spots i spot all whole lt is fit noted same =
    let rest = spots_in u (drop (i + 1) spots) in
    let here = left_at spots i spot lt is in
    record {
      clash =
          ap (λ t. clash_after t rest) (fun_ext noted)
          ∙ sym (ap (λ b. cond b (clash_after (with_spots old ((u, spot) ∷ [])) rest) (Some (u, spot))) fit)
          ∙ sym (ap (λ left. clash_after old (spots_in u left)) here)
          ∙ same.clash;
      finds = λ name.
          ap (λ o. option_or o (unit_of rest name)) (noted name)
          ∙ with_one old (u, spot) rest name
          ∙ sym (ap (λ left. with_spots old (spots_in u left) name) here)
          ∙ same.finds name;
    }

-- a spot that doesn't is the first clash
pub spot_clashes : (old : ModName → Option ℕ) (u : ℕ) (spots : List Spot) (i : ℕ) (spot : Spot)
    (all : ModName → Option ℕ) (whole : List (ℕ × Spot))
    → i < length spots → spot ≡ get_or spots i spot → fits (old spot.name) u ≡ false
    → SameSpots old (spots_in u (drop i spots)) all whole → clash_after all whole ≡ Some (u, spot)
spot_clashes old u spots i spot all whole lt is unfit same =
    let rest = spots_in u (drop (i + 1) spots) in
    sym same.clash
    ∙ ap (λ left. clash_after old (spots_in u left)) (left_at spots i spot lt is)
    ∙ ap (λ b. cond b (clash_after (with_spots old ((u, spot) ∷ [])) rest) (Some (u, spot))) unfit

-- ---- the loop over units

-- an item of a list of numbers is the one that stands there, whatever stands past the end
pub own_item : (xs : List ℕ) (i : ℕ) → i < length xs → get_or xs i 0 ≡ get_or xs i (get_or xs i 0)
own_item xs i lt = get_or_default xs i 0 (get_or xs i 0) lt

-- a unit without a clash is added
pub unit_fits : (skeletons : List Skeleton) (old new : ModName → Option ℕ) (units : List ℕ) (i u : ℕ)
    (all : ModName → Option ℕ) (whole : List (ℕ × Spot))
    → i < length units → u ≡ get_or units i u
    → clash_after old (spots_in u (skeleton_of skeletons u).defined) ≡ None
    → ((n : ModName) → new n ≡ with_spots old (spots_in u (skeleton_of skeletons u).defined) n)
    → SameSpots old (defined_spots skeletons (drop i units)) all whole
    → SameSpots new (defined_spots skeletons (drop (i + 1) units)) all whole
unit_fits skeletons old new units i u all whole lt is apart noted same =
    let these = spots_in u (skeleton_of skeletons u).defined in
    let rest = defined_spots skeletons (drop (i + 1) units) in
    let here = left_at units i u lt is in
    record {
      clash =
          ap (λ t. clash_after t rest) (fun_ext noted)
          ∙ sym (ap (λ o. option_or o (clash_after (with_spots old these) rest)) apart)
          ∙ sym (clash_after-append old these rest)
          ∙ sym (ap (λ left. clash_after old (defined_spots skeletons left)) here)
          ∙ same.clash;
      finds = λ name.
          ap (λ o. option_or o (unit_of rest name)) (noted name)
          ∙ with_all old these rest name
          ∙ sym (ap (λ left. with_spots old (defined_spots skeletons left) name) here)
          ∙ same.finds name;
    }

-- a unit's clash is the first of all
pub unit_clashes : (skeletons : List Skeleton) (old : ModName → Option ℕ) (units : List ℕ) (i u : ℕ) (at : ℕ × Spot)
    (all : ModName → Option ℕ) (whole : List (ℕ × Spot))
    → i < length units → u ≡ get_or units i u
    → clash_after old (spots_in u (skeleton_of skeletons u).defined) ≡ Some at
    → SameSpots old (defined_spots skeletons (drop i units)) all whole → clash_after all whole ≡ Some at
unit_clashes skeletons old units i u at all whole lt is clash same =
    let these = spots_in u (skeleton_of skeletons u).defined in
    let rest = defined_spots skeletons (drop (i + 1) units) in
    sym same.clash
    ∙ ap (λ left. clash_after old (defined_spots skeletons left)) (left_at units i u lt is)
    ∙ clash_after-append old these rest
    ∙ ap (λ o. option_or o (clash_after (with_spots old these) rest)) clash

-- ---- what all units define

first_by : (b : Bool) (u : ℕ) (us : List ℕ)
    → option_or (cond b (Some u) None) (first_of us) ≡ first_of (cond b (u ∷ us) us)
first_by true u us = refl
first_by false u us = refl

any_by : (a b : Bool) (u : ℕ) (rest : Option ℕ) → rest ≡ cond b (Some u) None
    → cond a (Some u) rest ≡ cond (a || b) (Some u) None
any_by true b u rest h = refl
any_by false b u rest h = h

one_source : (u : ℕ) (spots : List Spot) (name : ModName)
    → unit_of (spots_in u spots) name ≡ cond (has_module (map (λ (s : Spot). s.name) spots) name) (Some u) None
one_source u [] name = refl
one_source u (spot ∷ spots) name =
    ap (λ b. cond b (Some u) (unit_of (spots_in u spots) name)) (same_is spot.name name)
    ∙ any_by (same_module spot.name name) (has_module (map (λ (s : Spot). s.name) spots) name) u
    (unit_of (spots_in u spots) name) (one_source u spots name)

-- the unit of the first spot that has a name is the first that defines it
pub first_definer : (skeletons : List Skeleton) (units : List ℕ) (name : ModName)
    → unit_of (defined_spots skeletons units) name ≡ first_of (definers_among skeletons units name)
first_definer skeletons [] name = refl
first_definer skeletons (u ∷ units) name =
    unit_of-append (spots_in u (skeleton_of skeletons u).defined) (defined_spots skeletons units) name
    ∙ ap₂ option_or (one_source u (skeleton_of skeletons u).defined name) (first_definer skeletons units name)
    ∙ first_by (has_module (defined_by skeletons u) name) u (definers_among skeletons units name)

-- a unit fits where it is the first
pub first_fits : (us : List ℕ) (u : ℕ) → is_first us u ≡ fits (first_of us) u
first_fits [] u = refl
first_fits (v ∷ us) u = refl

own_fits : (o : Option ℕ) (u : ℕ) → fits (option_or o (Some u)) u ≡ fits o u
own_fits None u = eq-eqb u u refl
own_fits (Some v) u = refl

-- what is found of a name at its own spot
own_spot : (seen more : List (ℕ × Spot)) (at : ℕ × Spot)
    → unit_of (seen ++ at ∷ more) at.1.name ≡ option_or (unit_of seen at.1.name) (Some at.0)
own_spot seen more at =
    unit_of-append seen (at ∷ more) at.1.name
    ∙ ap (λ b. option_or (unit_of seen at.1.name) (cond b (Some at.0) (unit_of more at.1.name)))
    (same_is at.1.name at.1.name ∙ own_module at.1.name)

found_by : (b : Bool) (at : ℕ × Spot) (a c : Option (ℕ × Spot)) → a ≡ c → cond b a (Some at) ≡ cond (not b) (Some at) c
found_by true at a c h = h
found_by false at a c h = refl

-- the first clash, by what all spots say of its name
clash_found : (all seen left : List (ℕ × Spot)) (table : ModName → Option ℕ) → all ≡ seen ++ left
    → ((n : ModName) → table n ≡ unit_of seen n)
    → clash_after table left ≡ find (λ (at : ℕ × Spot). not (fits (unit_of all at.1.name) at.0)) left
clash_found all seen [] table split finds = refl
clash_found all seen (at ∷ left) table split finds =
    let test = λ (x : ℕ × Spot). not (fits (unit_of all x.1.name) x.0) in
    let fit : fits (unit_of all at.1.name) at.0 ≡ fits (table at.1.name) at.0 =
    ap (λ xs. fits (unit_of xs at.1.name) at.0) split
    ∙ ap (λ o. fits o at.0) (own_spot seen left at)
    ∙ own_fits (unit_of seen at.1.name) at.0
    ∙ ap (λ o. fits o at.0) (sym (finds at.1.name)) in
    found_by (fits (table at.1.name) at.0) at (clash_after (with_spots table (at ∷ [])) left) (find test left)
    (clash_found all (seen ++ at ∷ []) left (with_spots table (at ∷ []))
    (split ∙ sym (append_assoc seen (at ∷ []) left))
    (λ n. ap (λ o. option_or o (cond (same_name at.1.name n) (Some at.0) None)) (finds n)
    ∙ sym (unit_of-append seen (at ∷ []) n)))
    ∙ ap (λ b. cond (not b) (Some at) (find test left)) (sym fit)

-- .. is the first name that an earlier unit defines too
pub first_clash : (skeletons : List Skeleton) (units : List ℕ)
    → clash_after none_found (defined_spots skeletons units) ≡ clash_among skeletons units
first_clash skeletons units =
    let all = defined_spots skeletons units in
    clash_found all [] all none_found refl (λ n. refl)
    ∙ ap (λ p. find p all) (fun_ext (λ (at : ℕ × Spot).
    ap (λ o. not (fits o at.0)) (first_definer skeletons units at.1.name)
    ∙ sym (ap not (first_fits (definers_among skeletons units at.1.name) at.0))))
