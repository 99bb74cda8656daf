-- A project that is loaded with tools and then built, over a folder and where it stands alone.
use Rattle.std.proofs.Common.{◌≡◌, ◌≢◌, ◌∙◌, sym, ap, ap₂, subst, refl, ℕ, Bool, false, cond, List, [], ◌∷◌, Option, Some, None, append-nil}
use Rattle.std.specs.Prelude.{Result, Ok, Err, Contains, filter, is_some, map, not}
use Rattle.std.specs.FinMap.{get}
use Rattle.cm_base.specs.Definitions.{Definitions}
use Rattle.cm_base.specs.Derived.{ToolRules}
use Rattle.cm_base.specs.Files.{Files, is_stored}
use Rattle.cm_base.specs.declared.diag.Diag.{Diag}
use Rattle.cm_base.specs.declared.record.BuiltUnit.{BuiltUnit}
use Rattle.cm_base.specs.declared.record.Def.{Def}
use Rattle.cm_base.specs.declared.record.PlannedUnit.{PlannedUnit}
use Rattle.bin_store.specs.Paths.{linked_path}
use Rattle.cm_description.specs.declared.loaded.Project.{Project}
use Rattle.cm_description.specs.declared.loaded.Unit.{Unit as ProjectUnit}
use Rattle.cm_description.specs.declared.loaded.UnitBody.{UnitBody}
use Rattle.cm_description.specs.declared.loaded.UnitBody.TheVariants as body
use Rattle.project_planning.specs.Planning.{plain_plan}
use Rattle.skeleton_asking.specs.Skeletons.{is_unread, skeleton_of_source, stored_skeleton, up_to_refused}
use Rattle.build_laws.specs.CutBuild.{Cut}
use Rattle.build_laws.specs.PlainBuild.{Build, compiled_units}
use Rattle.build_laws.specs.Planned.{paths_of}
use Rattle.build_laws.specs.Stale.{asked_in, inputs_of, marked}
use Rattle.member_deriving.specs.Uses.{after_uses, runs_of}
use Rattle.tool_deriving.specs.Deriving.{ToolUse}
use Rattle.tool_loading.specs.Laws.{LoadsAlike}
use Rattle.tool_loading.specs.Projects.{project_of, tool_uses}
use Rattle.tool_loading.proofs.Stores.{loading_reads}
use Rattle.use_laws.proofs.Fresh.{SameUnits, stays_fresh, uses_same}
use Rattle.use_laws.proofs.Records.{runs_keep}
use Rattle.command_parts.specs.Answers.{IsOutside}
use Rattle.command_parts.specs.Lines.{report}
use Rattle.command_parts.specs.Meaning.{ended_in, interfaces_in, status_of, with_linked}
use Rattle.command_parts.specs.Meaning as plain
use Rattle.command_parts.specs.ProjectBuild.{built, of_loading}
use Rattle.command_parts.specs.ProjectBuild as build
use Rattle.command_parts.proofs.Showing.{interfaces_marked}
use Rattle.history_laws.specs.FromNothing.{HasProjectAlone, build_of, end_of, if_loaded, sources_in, unread_in}
use Rattle.history_laws.proofs.Alone.{alone_asked, alone_compiled}
use Rattle.history_laws.proofs.Linking.{end_same}
use Rattle.history_laws.proofs.Coming.{built_is, coming_to, linked_alike, path_alike, project_kept, target_alike}
use Rattle.history_laws.proofs.Planned.{asked_loading, unread_alone}
use Rattle.cm_top.specs.Meaning.{Meaning, of_project, of_root}
use Rattle.cm_top.specs.Ways.{plain_way}
use Rattle.cm_top.specs.declared.printed.Printed.TheVariants as printed
use Rattle.cm_top.proofs.Loading.{records_same}
use Rattle.history_laws.specs.FromNothing.{units_of}

-- ---- a meaning but for the paths that it writes

pub record SameEffect (a b : plain.Meaning) : Type 0 where
  pub status : a.status ≡ b.status
  pub output : a.output ≡ b.output
  pub files : a.files ≡ b.files
  pub asked : a.asked ≡ b.asked
  pub skeletons : a.asked_skeletons ≡ b.asked_skeletons
  pub interfaces : a.interfaces ≡ b.interfaces

module _ (by : Definitions) (target : Option (List ℕ)) (defs : List Def) where
  abbrev pub built_of : Result Project Diag → Files → plain.Meaning
  built_of r files = of_project printed.Report (build.plain_way by) target defs r files

  abbrev pub skeletons_at : Result Project Diag → Files → List (List ℕ)
  skeletons_at r files = (of_loading (plain_plan by.skel files) defs r).asked_skeletons

  pub effect_is : (r : Result Project Diag) (files : Files)
      → SameEffect (built_of r files) (coming_to by files target (skeletons_at r files) (units_of by files defs r))
  effect_is (Ok project) files =
      let is = built_is by files (units_of by files defs (Ok project)) in
      record {
        status = ap (λ (cut : Cut). status_of (ended_in cut)) is;
        output = ap (λ (cut : Cut). report cut.units (ended_in cut)) is;
        files = ap (λ (cut : Cut). with_linked target (ended_in cut) cut.units cut.files) is;
        asked = ap (λ (cut : Cut). cut.asked) is;
        skeletons = refl;
        interfaces = ap (λ (cut : Cut). interfaces_in cut.units) is;
      }
  effect_is (Err diag) files = record {
    status = refl;
    output = refl;
    files = refl;
    asked = refl;
    skeletons = refl;
    interfaces = refl;
  }

  units_free : (a b : Files) (r : Result Project Diag) → units_of by a defs r ≡ units_of by b defs r
  units_free a b (Ok project) = refl
  units_free a b (Err diag) = refl

-- ---- skeletons over records

filter_same : {A : Type 0} (p q : A → Bool) → ((x : A) → p x ≡ q x) → (xs : List A) → filter p xs ≡ filter q xs
filter_same p q same [] = refl
filter_same {A} p q same (x ∷ xs) =
    ap₂ (λ (t : Bool) (rest : List A). cond t (x ∷ rest) rest) (same x) (filter_same p q same xs)

module _ (a b : Files) (same : SameUnits a b) where
  skeleton_same : (unit source : List ℕ) → stored_skeleton b unit source ≡ stored_skeleton a unit source
  unfolding stored_skeleton
  skeleton_same unit source = ap (skeleton_of_source source) (same.bins unit)

  unread_at : (name : List ℕ) (one : UnitBody) → is_unread b name one ≡ is_unread a name one
  unread_at name (body.Source options source) = ap (λ s. not (is_some s)) (skeleton_same name source)
  unread_at name (body.Frozen imports interface code) = refl

  pub unread_same : (by : Definitions) (project : Option Project) → unread_in by b project ≡ unread_in by a project
  unread_same by None = refl
  unread_same by (Some project) =
      ap (λ (units : List ProjectUnit). map (λ (unit : ProjectUnit). unit.name) units)
      (filter_same (λ (unit : ProjectUnit). is_unread b unit.name unit.body)
      (λ (unit : ProjectUnit). is_unread a unit.name unit.body) (λ unit. unread_at unit.name unit.body)
      (up_to_refused by.skel project.units))

-- ---- over a folder and alone

module _ (by : Definitions) (rules : ToolRules) (files clean : Files) (alone : HasProjectAlone files clean)
    (target : Option (List ℕ)) (outside : IsOutside target) (defs : List Def) (root : List ℕ) where
  abbrev pub uses_in : Files → List ToolUse
  uses_in here = tool_uses here rules defs root

  -- the files as loading leaves them
  abbrev pub loaded_in : Files → Files
  loaded_in here = after_uses here (uses_in here)

  abbrev pub means_in : Files → Meaning
  means_in here = of_root printed.Report (plain_way by rules) target defs root here

  alike : LoadsAlike files clean
  alike = loading_reads files clean alone.project

  abbrev pub r : Result Project Diag
  r = project_of clean rules defs root false

  abbrev pub u : Result (List PlannedUnit) Diag
  u = units_of by clean defs r

  abbrev pub b : Build
  b = build_of by u

  abbrev sk : Files → List (List ℕ)
  sk here = skeletons_at by target defs r (loaded_in here)

  effect_at : (here : Files) → SameEffect (built_of by target defs r here) (coming_to by here target
      (skeletons_at by target defs r here) u)
  effect_at here =
      subst (λ units. SameEffect (built_of by target defs r here)
      (coming_to by here target (skeletons_at by target defs r here) units))
      (units_free by target defs here clean r) (effect_is by target defs r here)

  -- here
  abbrev f : Files
  f = loaded_in files

  abbrev g : Files
  g = loaded_in clean

  meant : built_of by target defs (project_of files rules defs root false) f ≡ built_of by target defs r f
  meant = ap (λ (x : Result Project Diag). built_of by target defs x f) (alike.project rules defs root false)

  m_is : SameEffect (built_of by target defs r f) (coming_to by f target (sk files) u)
  m_is = effect_at f

  s_is : SameEffect (built_of by target defs r g) (coming_to by g target (sk clean) u)
  s_is = effect_at g

  pub root_build : units_of by files defs (project_of files rules defs root false) ≡ u
  root_build =
      ap (λ (x : Result Project Diag). units_of by files defs x) (alike.project rules defs root false)
      ∙ units_free by target defs files clean r

  pub root_status : (means_in files).effect.status ≡ (means_in clean).effect.status
  root_status =
      ap (λ (a : plain.Meaning). a.status) meant ∙ m_is.status
      ∙ ap status_of (end_same f b b.ended) ∙ sym (ap status_of (end_same g b b.ended)) ∙ sym s_is.status

  pub root_output : (means_in files).effect.output ≡ report (marked files b) (end_of b)
  root_output =
      ap (λ (a : plain.Meaning). a.output) meant ∙ m_is.output
      ∙ ap (report (marked f b)) (end_same f b b.ended)
      ∙ ap (λ (us : List BuiltUnit). report us (end_of b)) ((stays_fresh files (uses_in files)).units b)

  pub root_output_alone : (means_in clean).effect.output ≡ report (compiled_units b.units) (end_of b)
  root_output_alone =
      s_is.output ∙ ap (report (marked g b)) (end_same g b b.ended)
      ∙ ap (λ (us : List BuiltUnit). report us (end_of b))
      ((stays_fresh clean (uses_in clean)).units b ∙ alone_compiled clean b alone.none)

  file_m : (path : List ℕ) → get (means_in files).effect.files path
      ≡ get (coming_to by f target (sk files) u).files path
  file_m path =
      ap (λ (a : plain.Meaning). get a.files path) meant ∙ ap (λ (fs : Files). get fs path) m_is.files

  file_s : (path : List ℕ) → get (means_in clean).effect.files path
      ≡ get (coming_to by g target (sk clean) u).files path
  file_s path = ap (λ (fs : Files). get fs path) s_is.files

  pub root_units : (path : List ℕ) → Contains (paths_of b.units) path
      → get (means_in files).effect.files path ≡ get (means_in clean).effect.files path
  root_units path within =
      file_m path ∙ path_alike by f g target outside u (sk files) (sk clean) path within ∙ sym (file_s path)

  pub root_linked : end_of b ≡ None
      → get (means_in files).effect.files linked_path ≡ get (means_in clean).effect.files linked_path
  root_linked none =
      file_m linked_path ∙ linked_alike by f g target outside u (sk files) (sk clean) none ∙ sym (file_s linked_path)

  pub root_target : (path : List ℕ) → end_of b ≡ None → target ≡ Some path
      → get (means_in files).effect.files path ≡ get (means_in clean).effect.files path
  root_target path none is =
      file_m path ∙ target_alike by f g target outside u (sk files) (sk clean) path none is ∙ sym (file_s path)

  pub root_project : (path : List ℕ) → is_stored path ≡ false → target ≢ Some path
      → get (means_in files).effect.files path ≡ get files path
  root_project path out apart =
      file_m path ∙ project_kept by f g target outside u (sk files) (sk clean) path out apart
      ∙ records_same files f (Some f) (runs_of files (uses_in files)) (runs_keep files (uses_in files)) refl path out

  pub root_asked : (means_in files).effect.asked ≡ asked_in files b
  root_asked =
      ap (λ (a : plain.Meaning). a.asked) meant ∙ m_is.asked ∙ (stays_fresh files (uses_in files)).asked b

  pub root_asked_alone : (means_in clean).effect.asked ≡ map (λ input. input.unit) (inputs_of b)
  root_asked_alone = s_is.asked ∙ (stays_fresh clean (uses_in clean)).asked b ∙ alone_asked clean b alone.none

  pub root_skeletons : (means_in files).effect.asked_skeletons ≡ unread_in by files (if_loaded r)
  root_skeletons =
      ap (λ (a : plain.Meaning). a.asked_skeletons) meant ∙ m_is.skeletons ∙ asked_loading by f defs r
      ∙ unread_same files f (uses_same files (uses_in files)) by (if_loaded r)

  pub root_skeletons_alone : (means_in clean).effect.asked_skeletons ≡ sources_in by (if_loaded r)
  root_skeletons_alone =
      s_is.skeletons ∙ asked_loading by g defs r
      ∙ unread_same clean g (uses_same clean (uses_in clean)) by (if_loaded r)
      ∙ unread_alone by clean (if_loaded r) alone.none

  pub root_interfaces : (means_in files).effect.interfaces ≡ (means_in clean).effect.interfaces
  root_interfaces =
      ap (λ (a : plain.Meaning). a.interfaces) meant ∙ m_is.interfaces
      ∙ interfaces_marked f b ∙ sym (interfaces_marked g b) ∙ sym s_is.interfaces

  pub root_uses : (means_in files).uses ≡ (means_in clean).uses
  root_uses = append-nil (uses_in files) ∙ alike.uses rules defs root ∙ sym (append-nil (uses_in clean))

  pub root_runs : (here : Files) → (means_in here).runs ≡ runs_of here (means_in here).uses
  root_runs here =
      append-nil (runs_of here (uses_in here)) ∙ ap (runs_of here) (sym (append-nil (uses_in here)))
