-- The store is never read, and over true records loading over the store is loading by rules.
use Rattle.std.proofs.Common.{◌≡◌, ◌≢◌, ◌∙◌, ap, sym, refl, ℕ, List, [], ◌∷◌, ◌++◌, Bool, true, false, Result, if◌then◌else◌}
use Rattle.std.specs.FinMap.{get}
use Rattle.cm_base.specs.Derived.{ToolRules}
use Rattle.cm_base.specs.Diags.{◌>>=◌}
use Rattle.cm_base.specs.Files.{Files, is_stored, project_part}
use Rattle.cm_base.specs.declared.diag.Diag.{Diag}
use Rattle.cm_base.specs.declared.record.Def.{Def}
use Rattle.cm_base.proofs.FileLemmas.{get-insert_other}
use Rattle.bin_formats.specs.Format.{record_file}
use Rattle.bin_store.specs.Paths.{tool_path}
use Rattle.bin_store.proofs.Elsewhere.{tool_stored}
use Rattle.tool_records.specs.Stored.{with_record}
use Rattle.path_anchors.specs.Names.{folder_path_of}
use Rattle.path_anchors.specs.Pathconfig.{AreBindings, config_file}
use Rattle.project_checks.specs.Checks.{checked}
use Rattle.project_checks.specs.declared.progress.Progress.{Progress}
use Rattle.project_loading.specs.Projects.{bound_by, frozen}
use Rattle.loading_laws.specs.Laws.{SameProjectFiles}
use Rattle.loading_laws.proofs.Outside.{anchors_bound, config_outside, names_outside, part_same}
use Rattle.tool_deriving.specs.Deriving.{ToolUse, record_of_use, uses, after_use}
use Rattle.tool_deriving.proofs.Runs.{text_is}
use Rattle.tool_deriving.proofs.Truth.{use_keeps_true}
use Rattle.member_deriving.specs.Laws.{HasTrueRecords}
use Rattle.member_deriving.specs.Uses.{Work, after_uses, outcome, with_use, work_of}
use Rattle.member_deriving.proofs.Uses.{leave_in_turn}
use Rattle.tool_loading.specs.Laws.{LoadsAlike, LoadingReadsTheProject, LoadingKnowsNoStore, LoadsOverTrueRecords}
use Rattle.tool_loading.specs.Projects.{plain_means, reached_by, reached_from, reached_in, setting_by, store_means}
use Rattle.tool_loading.proofs.Alike.{reached_alike}
use Rattle.tool_loading.proofs.Steps.{Same, goes_same}

-- ---- two folders with the same files outside the store

module _ (a b : Files) (same : SameProjectFiles a b) where
  abbrev SameUses : Work → Work → Type 0
  SameUses v w = v.uses ≡ w.uses

  reads : (rules : ToolRules) (defs : List Def) (root : List ℕ)
      → Same SameUses (reached_in a rules defs root) (reached_in b rules defs root)
  reads rules defs root =
      goes_same SameUses (outcome (work_of a []) (bound_by (get a config_file)))
      (outcome (work_of b []) (bound_by (get b config_file)))
      (λ anchors after. reached_from (setting_by (plain_means a) rules defs anchors) root after)
      (λ anchors after. reached_from (setting_by (plain_means b) rules defs anchors) root after)
      (record { work = refl; result = ap bound_by (same config_file config_outside) })
      (λ anchors v w is so.
      let are : AreBindings anchors = anchors_bound a anchors is in
      reached_alike (plain_means a) (plain_means b) anchors defs rules SameUses
      (λ name named x y like. same (folder_path_of anchors name) (names_outside anchors name are named).file)
      (λ name named x y like. same (frozen (folder_path_of anchors name)) (names_outside anchors name are named).beside)
      (λ x y like job. refl)
      (λ x y like job. ap (λ (jobs : List ToolUse). jobs ++ job ∷ []) like) root v w so)

  pub loads_alike : LoadsAlike a b
  loads_alike = record {
    project = λ rules defs root freezing.
        ap (λ (r : Result Progress Diag). r >>= λ p. checked freezing p) (reads rules defs root).result;
    uses = λ rules defs root. (reads rules defs root).work;
  }

pub loading_reads : LoadingReadsTheProject
loading_reads a b same = loads_alike a b same

pub loading_storeless : LoadingKnowsNoStore
loading_storeless files = loads_alike files (project_part files) (part_same files)

-- ---- over true records

-- a use changes no file outside it
use_outside : (files : Files) (job : ToolUse) (path : List ℕ) → is_stored path ≡ false
    → get (after_use files job) path ≡ get files path
use_outside files job path out = by_test (uses files job)
  where
    apart : path ≢ tool_path job.unit
    apart is = absurd (cc (tool_stored job.unit, ap is_stored is, out))

    by_test : (b : Bool) → get (if b then with_record files (record_of_use job) else files) path ≡ get files path
    by_test true =
        get-insert_other files (tool_path job.unit) (record_file (record_of_use job)) path apart
    by_test false = refl

module _ (files : Files) where
  -- the works of both loadings: the same, over files that differ in records alone, which are true
  record Stands (v w : Work) : Type 0 where
    same : v ≡ w
    project : (path : List ℕ) → is_stored path ≡ false → get v.files path ≡ get files path
    true_records : HasTrueRecords v.files
    after : v.files ≡ after_uses files v.uses

  with_one_more : (v w : Work) → Stands v w → (job : ToolUse) → Stands (with_use job v) (with_use job w)
  with_one_more v w stands job = record {
    same = ap (with_use job) stands.same;
    project = λ path out. use_outside v.files job path out ∙ stands.project path out;
    true_records = λ unit. use_keeps_true v.files job unit (stands.true_records unit);
    after = ap (λ (f : Files). after_use f job) stands.after ∙ sym (leave_in_turn files v.uses (job ∷ []));
  }

  begins : HasTrueRecords files → Stands (work_of files []) (work_of files [])
  begins true_records = record { same = refl; project = λ path out. refl; true_records = true_records; after = refl }

  stands : (rules : ToolRules) (defs : List Def) (root : List ℕ) → HasTrueRecords files
      → Same Stands (reached_by store_means rules defs root (work_of files [])) (reached_in files rules defs root)
  stands rules defs root true_records =
      goes_same Stands (outcome (work_of files []) (bound_by (get files config_file)))
      (outcome (work_of files []) (bound_by (get files config_file)))
      (λ anchors after. reached_from (setting_by store_means rules defs anchors) root after)
      (λ anchors after. reached_from (setting_by (plain_means files) rules defs anchors) root after)
      (record { work = begins true_records; result = refl })
      (λ anchors v w is so.
      let are : AreBindings anchors = anchors_bound files anchors is in
      reached_alike store_means (plain_means files) anchors defs rules Stands
      (λ name named x y like. like.project (folder_path_of anchors name) (names_outside anchors name are named).file)
      (λ name named x y like. like.project (frozen (folder_path_of anchors name)) (names_outside anchors name are named).beside)
      (λ x y like job.
      text_is x.files job (like.true_records job.unit))
      with_one_more root v w so)

  -- a work of which this is known
  work_is : (v w : Work) → Stands v w → v ≡ work_of (after_uses files w.uses) w.uses
  work_is v w stands =
      ap (λ (f : Files). work_of f v.uses) stands.after
      ∙ ap (λ (u : List ToolUse). work_of (after_uses files u) u) (ap (λ (x : Work). x.uses) stands.same)

pub over_true : LoadsOverTrueRecords
over_true files rules defs root freezing true_records =
    let all = stands files rules defs root true_records in
    let over = reached_by store_means rules defs root (work_of files []) in
    let by_rules = reached_in files rules defs root in
    ap (λ (r : Result Progress Diag). outcome over.work (r >>= λ p. checked freezing p)) all.result
    ∙ ap (λ (w : Work). outcome w (by_rules.result >>= λ p. checked freezing p))
    (work_is files over.work by_rules.work all.work)
