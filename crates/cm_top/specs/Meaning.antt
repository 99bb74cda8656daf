-- What a command means where members may be of tools' classes: what it prints, leaves and asks the compiler for, the uses
-- of tools that its loading makes, and those of them that run their tools.
use Rattle.std.specs.Prelude.{ℕ, List, [], ◌++◌, Option, Some, None, Result, Ok, Err}
use Rattle.cm_base.specs.Definitions.{Definitions}
use Rattle.cm_base.specs.Derived.{ToolRules}
use Rattle.cm_base.specs.Files.{Files}
use Rattle.cm_base.specs.declared.diag.Diag.{Diag}
use Rattle.cm_base.specs.declared.record.Def.{Def}
use Rattle.cm_description.specs.declared.loaded.Project.{Project}
use Rattle.build_laws.specs.CutBuild.{Cut}
use Rattle.tool_deriving.specs.Deriving.{ToolUse}
use Rattle.member_deriving.specs.Uses.{Outcome, Work, runs_of}
use Rattle.use_laws.specs.Left.{record_paths}
use Rattle.command_words.specs.Words.{command_of}
use Rattle.command_words.specs.declared.command.Command.{Command}
use Rattle.command_words.specs.declared.command.Command.TheVariants as command
use Rattle.command_parts.specs.Generating.{last_of, printing}
use Rattle.command_parts.specs.InTurn as turn
use Rattle.command_parts.specs.Lines.{report}
use Rattle.command_parts.specs.Meaning.{ended_in, of_build, prints_last, usage}
use Rattle.command_parts.specs.Meaning as plain
use Rattle.command_parts.specs.ProjectBuild.{Builder, Prepared, built, of_planning}
use Rattle.command_parts.specs.ProjectBuild as build
use Rattle.command_parts.specs.Sessions.{refused}
use Rattle.command_parts.specs.Targets.{out_in}
use Rattle.command_parts.specs.declared.status.Status.TheVariants as status
use Rattle.cm_top.specs.Ways.{Way, plain_way}
use Rattle.cm_top.specs.declared.printed.Printed.{Printed}
use Rattle.cm_top.specs.declared.printed.Printed.TheVariants as printed

-- the meaning but for tools; the uses of tools in the order in which loading makes them, up to its diagnostic; and those
-- that run their tools, each in the store as it stands at that use
pub record Meaning : Type 0 where
  pub effect : plain.Meaning
  pub uses : List ToolUse
  pub runs : List ToolUse

-- what uses no tool
abbrev pub without_tools : plain.Meaning → Meaning
without_tools effect = record { effect = effect; uses = []; runs = [] }

-- one behind the other, with the uses of both
abbrev pub then_command : Meaning → Meaning → Meaning
then_command first rest = record {
  effect = turn.then_command first.effect rest.effect;
  uses = first.uses ++ rest.uses;
  runs = first.runs ++ rest.runs;
}

-- ---- loading

-- what a loading does that makes this work of tools: it leaves a record for each use that runs, and prints nothing and
-- asks for nothing. It does so where it ends with a diagnostic, too.
abbrev pub loading : Files → Work → Meaning
loading files work = record {
  effect = record {
    status = status.Ok;
    output = [];
    cuts = prints_last;
    files = work.files;
    asked = [];
    asked_skeletons = [];
    interfaces = [];
    paths = record_paths (runs_of files work.uses);
    outside = [];
  };
  uses = work.uses;
  runs = runs_of files work.uses;
}

-- ---- builds

-- what is printed of a build: its report, or the last line of that
abbrev pub said : Printed → Cut → List ℕ
said printed.Report cut = report cut.units (ended_in cut)
said printed.LastLine cut = last_of cut

-- a build of what is prepared, of which so much is printed
abbrev pub of_prepared : Printed → Builder → Option (List ℕ) → Prepared → Files → plain.Meaning
of_prepared part builds target ready files =
    printing (said part (built builds files ready.units)) (of_build builds files target ready)

-- A project that was loaded is planned and built over the files as loading leaves them. Of its refusal the line is printed.
abbrev pub of_project : Printed → build.Way → Option (List ℕ) → List Def → Result Project Diag → Files → plain.Meaning
of_project part works target defs (Err diag) files = refused files diag
of_project part works target defs (Ok project) files =
    of_prepared part works.builds target (of_planning project (works.plans files project defs)) files

-- the one and then the other
abbrev pub of_loaded : Printed → build.Way → Option (List ℕ) → List Def → Files → Outcome Project → Meaning
of_loaded part works target defs files loaded =
    then_command (loading files loaded.work)
    (without_tools (of_project part works target defs loaded.result loaded.work.files))

abbrev pub of_root : Printed → Way → Option (List ℕ) → List Def → List ℕ → Files → Meaning
of_root part way target defs root files = of_loaded part way.works target defs files (way.loads files defs root)

-- .. of `link`, whose OUT may be refused before anything is loaded
abbrev pub of_link : Printed → Way → List Def → List ℕ → Files → Result (List ℕ) Diag → Meaning
of_link part way defs root files (Err diag) = without_tools (refused files diag)
of_link part way defs root files (Ok path) = of_root part way (Some path) defs root files

-- ---- commands

abbrev pub of_command : Printed → Way → Files → Command → Meaning
of_command part way files (command.Build defs root) = of_root part way None defs root files
of_command part way files (command.Link defs root out) = of_link part way defs root files (out_in files root out)

abbrev pub of_words : Printed → Way → Files → Option Command → Meaning
of_words part way files None = without_tools (usage files)
of_words part way files (Some command) = of_command part way files command

-- What the words mean in a folder, with a compiler of these two definitions and tools of these classes and rules. The
-- files at entry say which uses run their tools, which units are stale, and so which of them are compiled, and of which
-- sources the compiler is asked for the skeletons. The texts of members are by their tools' rules, what is planned is by
-- the compiler's skeletons, and what the build gives and leaves is the plain build's: they know no store.
abbrev pub meaning_of : Definitions → ToolRules → List (List ℕ) → Files → Meaning
meaning_of by rules words files = of_words printed.Report (plain_way by rules) files (command_of words)
