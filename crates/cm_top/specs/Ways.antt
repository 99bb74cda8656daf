-- How a command goes about its work over files where members may be of tools' classes: how it loads a project, how it
-- plans it, and how it builds the units.
use Rattle.std.specs.Prelude.{ℕ, false, List}
use Rattle.cm_base.specs.Definitions.{Definitions}
use Rattle.cm_base.specs.Derived.{ToolRules}
use Rattle.cm_base.specs.Files.{Files}
use Rattle.cm_base.specs.declared.record.Def.{Def}
use Rattle.cm_description.specs.declared.loaded.Project.{Project}
use Rattle.member_deriving.specs.Uses.{Outcome, after_uses, outcome, work_of}
use Rattle.tool_loading.specs.Projects.{loaded_over, project_of, tool_uses}
use Rattle.command_parts.specs.ProjectBuild as build

-- what loading ROOT in a folder gives under definitions, and the work of tools in it
abbrev pub Loader : Type 0
Loader = Files → List Def → List ℕ → Outcome Project

-- by the rules of the tools, which know no store: the project, or its first refusal; then the files have a record for
-- each use that ran its tool
abbrev pub by_rules : ToolRules → Loader
by_rules rules files defs root =
    outcome (work_of (after_uses files (tool_uses files rules defs root)) (tool_uses files rules defs root))
    (project_of files rules defs root false)

-- over the records of the store as it stands, whoever wrote them
abbrev pub over_store : ToolRules → Loader
over_store rules files defs root = loaded_over files rules defs root false

-- the tools of a box are its classes and rules. Planning and building know no tools: they work over the files as loading
-- leaves them.
pub record Way : Type 0 where
  pub loads : Loader
  pub works : build.Way

abbrev pub plain_way : Definitions → ToolRules → Way
plain_way by rules = record { loads = by_rules rules; works = build.plain_way by }

-- .. with the records, the skeletons and the units of the store as it stands
abbrev pub store_way : Definitions → ToolRules → Way
store_way by rules = record { loads = over_store rules; works = build.store_way by }
