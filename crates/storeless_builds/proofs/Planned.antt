-- What is planned in a folder is planned without its store.
use Rattle.std.proofs.Common.{◌≡◌, ◌∙◌, sym, inl, inr, ℕ, List, false}
use Rattle.cm_base.specs.Definitions.{Definitions}
use Rattle.cm_base.specs.Files.{Files, project_part}
use Rattle.cm_base.specs.declared.diag.Diag.{Diag}
use Rattle.cm_base.specs.declared.record.Def.{Def}
use Rattle.cm_base.specs.declared.record.PlannedUnit.{PlannedUnit}
use Rattle.project_loading.specs.Projects.{project_of}
use Rattle.loading_laws.proofs.Alike.{loading_reads}
use Rattle.loading_laws.proofs.Outside.{part_same}
use Rattle.storeless_builds.specs.Laws.{ArePlannedIn, IsRefusedIn, BuildReadsTheProject, BuildKnowsNoStore}
use Rattle.storeless_builds.proofs.Leaving.{builds_leave}

planned_on : (by : Definitions) (a b : Files) (defs : List Def) (root : List ℕ) (units : List PlannedUnit)
    → project_of a defs root false ≡ project_of b defs root false → ArePlannedIn by a defs root units
    → ArePlannedIn by b defs root units
planned_on by a b defs root units same are = record {
  project = are.project;
  loads = sym same ∙ are.loads;
  plan = are.plan;
  plans = are.plans;
  units_are = are.units_are;
}

refused_on : (by : Definitions) (a b : Files) (defs : List Def) (root : List ℕ) (diag : Diag)
    → project_of a defs root false ≡ project_of b defs root false → IsRefusedIn by a defs root diag
    → IsRefusedIn by b defs root diag
refused_on by a b defs root diag same (inl refused) = inl (sym same ∙ refused)
refused_on by a b defs root diag same (inr (project, loads, unplanned)) = inr (project, sym same ∙ loads, unplanned)

pub build_reads : BuildReadsTheProject
build_reads by a b same defs root =
    let alike : project_of a defs root false ≡ project_of b defs root false =
    (loading_reads a b same).project defs root false in
    record {
      planned = λ units. (planned_on by a b defs root units alike, planned_on by b a defs root units (sym alike));
      refused = λ diag. (refused_on by a b defs root diag alike, refused_on by b a defs root diag (sym alike));
      left = λ units are. builds_leave by.compiled units a b;
    }

pub build_storeless : BuildKnowsNoStore
build_storeless by files defs root = build_reads by files (project_part files) (part_same files) defs root
