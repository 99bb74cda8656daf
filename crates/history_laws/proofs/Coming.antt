-- What a build leaves in two folders that it comes over.
use Rattle.std.proofs.Common.{◌≡◌, ◌≢◌, ◌∙◌, sym, ap, subst, refl, inl, inr, ℕ, zero, suc, true, false, List, [], ◌∷◌, Option, Some, None, arith}
use Rattle.std.specs.Prelude.{Result, Ok, Err, Contains}
use Rattle.std.specs.FinMap.{get, insert}
use Rattle.std.proofs.lemmas.List.Elements.{Contains-append_cases}
use Rattle.cm_base.specs.Definitions.{Definitions}
use Rattle.cm_base.specs.Files.{Files, is_stored}
use Rattle.cm_base.specs.declared.diag.Diag.{Diag}
use Rattle.cm_base.specs.declared.record.BuiltUnit.{BuiltUnit}
use Rattle.cm_base.specs.declared.record.PlannedUnit.{PlannedUnit}
use Rattle.cm_base.proofs.FileLemmas.{get-insert_other, get-insert_same}
use Rattle.storeless_builds.proofs.Leaving.{builds_leave}
use Rattle.bin_formats.specs.Format.{binfile, interface_file}
use Rattle.bin_store.specs.Paths.{bin_path, interface_path, linked_path}
use Rattle.bin_store.proofs.Elsewhere.{bin_stored, interface_stored, linked_stored}
use Rattle.bin_store.proofs.PathLaws.{bin_is_not_linked, interface_is_not_linked}
use Rattle.build_laws.specs.PlainBuild.{Build, PlainUnit, compiled_unit, compiled_units}
use Rattle.build_laws.specs.Planned.{paths_of}
use Rattle.build_laws.specs.Stale.{marked}
use Rattle.build_laws.specs.Storing.{bin_of_unit, unit_paths, with_unit, with_units}
use Rattle.linker.specs.Linked.{linked_program}
use Rattle.command_parts.specs.Answers.{IsOutside}
use Rattle.command_parts.specs.Meaning.{Meaning, of_cut, with_linked}
use Rattle.command_parts.specs.ProjectBuild.{built, coming, plain_over}
use Rattle.history_laws.specs.FromNothing.{build_of, end_of}
use Rattle.history_laws.proofs.Linking.{end_same, linked_same}

-- ---- a meaning by its plain build

abbrev pub units_in : Result (List PlannedUnit) Diag → List PlannedUnit
units_in (Ok planned) = planned
units_in (Err diag) = []

pub built_is : (by : Definitions) (files : Files) (r : Result (List PlannedUnit) Diag)
    → built (plain_over by) files r ≡ coming files (units_in r) (build_of by r)
built_is by files (Ok planned) = refl
built_is by files (Err diag) = refl

-- what a build means that comes so over files
abbrev pub coming_to : Definitions → Files → Option (List ℕ) → List (List ℕ) → Result (List PlannedUnit) Diag → Meaning
coming_to by files target skeletons r = of_cut target skeletons (coming files (units_in r) (build_of by r))

-- ---- what linking adds

stored_apart : (path q : List ℕ) → is_stored path ≡ false → is_stored q ≡ true → q ≢ path
stored_apart path q outside inside same = let at = ap is_stored same in absurd (cc (outside, inside, at))

linked_other : (target : Option (List ℕ)) (ended : Option Diag) (units : List BuiltUnit) (files : Files) (path : List ℕ)
    → path ≢ linked_path → target ≢ Some path → get (with_linked target ended units files) path ≡ get files path
linked_other target (Some diag) units files path other apart = refl
linked_other None None units files path other apart =
    get-insert_other files linked_path (linked_program units) path other
linked_other (Some at) None units files path other apart =
    get-insert_other (insert files linked_path (linked_program units)) at (linked_program units) path
    (λ same. apart (ap Some (sym same)))
    ∙ get-insert_other files linked_path (linked_program units) path other

linked_there : (target : Option (List ℕ)) (units : List BuiltUnit) (files : Files) → IsOutside target
    → get (with_linked target None units files) linked_path ≡ Some (linked_program units)
linked_there None units files outside = get-insert_same files linked_path (linked_program units)
linked_there (Some at) units files outside =
    get-insert_other (insert files linked_path (linked_program units)) at (linked_program units) linked_path
    (stored_apart at linked_path outside linked_stored)
    ∙ get-insert_same files linked_path (linked_program units)

target_there : (target : Option (List ℕ)) (path : List ℕ) (units : List BuiltUnit) (files : Files) → target ≡ Some path
    → get (with_linked target None units files) path ≡ Some (linked_program units)
target_there None path units files is = cc
target_there (Some at) path units files is =
    let same : at ≡ path = cc in
    subst (λ q. get (with_linked (Some at) None units files) q ≡ Some (linked_program units)) same
    (get-insert_same (insert files linked_path (linked_program units)) at (linked_program units))

target_apart : (target : Option (List ℕ)) (path : List ℕ) → IsOutside target → is_stored path ≡ true
    → target ≢ Some path
target_apart target path outside stored is = stored_apart path path (subst IsOutside is outside) stored refl

-- ---- the paths of units

unit_outside : (files : Files) (p : PlannedUnit) (u : BuiltUnit) (q : List ℕ) → is_stored q ≡ false
    → get (with_unit files p u) q ≡ get files q
unfolding with_unit
unit_outside files p u q outside =
    get-insert_other (insert files (interface_path u.hash) (interface_file u.interface)) (bin_path p.unit)
    (binfile (bin_of_unit p u)) q (λ same. stored_apart q (bin_path p.unit) outside (bin_stored p.unit) (sym same))
    ∙ get-insert_other files (interface_path u.hash) (interface_file u.interface) q
    (λ same. stored_apart q (interface_path u.hash) outside (interface_stored u.hash) (sym same))

units_outside : (ps : List PlannedUnit) (us : List BuiltUnit) (files : Files) (q : List ℕ) → is_stored q ≡ false
    → get (with_units files ps us) q ≡ get files q
units_outside [] us files q outside = refl
units_outside (p ∷ ps) [] files q outside = refl
units_outside (p ∷ ps) (u ∷ us) files q outside =
    units_outside ps us (with_unit files p u) q outside ∙ unit_outside files p u q outside

-- a path of the store that isn't the linked program's
record IsOfUnits (path : List ℕ) : Type 0 where
  stored : is_stored path ≡ true
  other : path ≢ linked_path

unit_path_is : (u : BuiltUnit) (path : List ℕ) → Contains (unit_paths u) path → IsOfUnits path
unit_path_is u path (zero, within, at) =
    subst IsOfUnits at (record { stored = interface_stored u.hash; other = interface_is_not_linked u.hash })
unit_path_is u path (suc zero, within, at) =
    subst IsOfUnits at (record { stored = bin_stored u.unit; other = bin_is_not_linked u.unit })
unit_path_is u path (suc (suc n), within, at) = absurd (omega (arith, within))

none_within : (path : List ℕ) → Contains [] path → ⊥
none_within path (n, within, at) = omega (arith, within)

path_is : (us : List PlainUnit) (path : List ℕ) → Contains (paths_of us) path → IsOfUnits path
path_is [] path within = absurd (none_within path within)
path_is (u ∷ us) path within =
    elim (Contains-append_cases (unit_paths (compiled_unit u)) (paths_of us) path within) [
      | inl here ↦ unit_path_is (compiled_unit u) path here
      | inr later ↦ path_is us path later
    ]

-- ---- over two folders

units_alike : (by : Definitions) (a b : Files) (r : Result (List PlannedUnit) Diag) (path : List ℕ)
    → Contains (paths_of (build_of by r).units) path
    → get (with_units a (units_in r) (compiled_units (build_of by r).units)) path
    ≡ get (with_units b (units_in r) (compiled_units (build_of by r).units)) path
units_alike by a b (Ok planned) path within = (builds_leave by.compiled planned a b).units path within
units_alike by a b (Err diag) path within = absurd (none_within path within)

module _ (by : Definitions) (files clean : Files) (target : Option (List ℕ)) (outside : IsOutside target)
    (r : Result (List PlannedUnit) Diag) (skeletons others : List (List ℕ)) where
  abbrev b : Build
  b = build_of by r

  -- the files with the units, in each folder
  abbrev left : Files → Files
  left here = with_units here (units_in r) (compiled_units b.units)

  abbrev linked : Files → Option Diag → Files
  linked here ended = with_linked target ended (marked here b) (left here)

  files_are : (here : Files) (asked : List (List ℕ))
      → (coming_to by here target asked r).files ≡ linked here (end_of b)
  files_are here asked = ap (linked here) (end_same here b b.ended)

  pub path_alike : (path : List ℕ) → Contains (paths_of b.units) path
      → get (coming_to by files target skeletons r).files path ≡ get (coming_to by clean target others r).files path
  path_alike path within =
      let is = path_is b.units path within in
      let at : (here : Files) (asked : List (List ℕ)) → get (coming_to by here target asked r).files path
      ≡ get (left here) path =
      λ here asked. ap (λ (f : Files). get f path) (files_are here asked)
      ∙ linked_other target (end_of b) (marked here b) (left here) path is.other
      (target_apart target path outside is.stored) in
      at files skeletons ∙ units_alike by files clean r path within ∙ sym (at clean others)

  -- where no diagnostic comes
  well : (here : Files) (asked : List (List ℕ)) → end_of b ≡ None
      → (coming_to by here target asked r).files ≡ linked here None
  well here asked none = files_are here asked ∙ ap (linked here) none

  pub linked_alike : end_of b ≡ None
      → get (coming_to by files target skeletons r).files linked_path
      ≡ get (coming_to by clean target others r).files linked_path
  linked_alike none =
      let at : (here : Files) (asked : List (List ℕ)) → get (coming_to by here target asked r).files linked_path
      ≡ Some (linked_program (compiled_units b.units)) =
      λ here asked. ap (λ (f : Files). get f linked_path) (well here asked none)
      ∙ linked_there target (marked here b) (left here) outside ∙ ap Some (linked_same here b) in
      at files skeletons ∙ sym (at clean others)

  pub target_alike : (path : List ℕ) → end_of b ≡ None → target ≡ Some path
      → get (coming_to by files target skeletons r).files path ≡ get (coming_to by clean target others r).files path
  target_alike path none is =
      let at : (here : Files) (asked : List (List ℕ)) → get (coming_to by here target asked r).files path
      ≡ Some (linked_program (compiled_units b.units)) =
      λ here asked. ap (λ (f : Files). get f path) (well here asked none)
      ∙ target_there target path (marked here b) (left here) is ∙ ap Some (linked_same here b) in
      at files skeletons ∙ sym (at clean others)

  pub project_kept : (path : List ℕ) → is_stored path ≡ false → target ≢ Some path
      → get (coming_to by files target skeletons r).files path ≡ get files path
  project_kept path out apart =
      ap (λ (f : Files). get f path) (files_are files skeletons)
      ∙ linked_other target (end_of b) (marked files b) (left files) path
      (λ same. stored_apart path linked_path out linked_stored (sym same)) apart
      ∙ units_outside (units_in r) (compiled_units b.units) files path out
