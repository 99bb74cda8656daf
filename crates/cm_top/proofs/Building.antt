-- A build of a project that was loaded, of which so much is printed.
use Rattle.std.proofs.Common.{◌≡◌, ◌∙◌, ℕ, List, ◌++◌, Option, Some}
use Rattle.std.specs.Prelude.{Result, Ok, Err}
use Rattle.cm_base.specs.Definitions.{Definitions}
use Rattle.cm_base.specs.Files.{Files, Told}
use Rattle.cm_base.specs.Fronts.{GrowsUpTo}
use Rattle.cm_base.specs.declared.record.Def.{Def}
use Rattle.cm_description.specs.declared.loaded.Project.{Project}
use Rattle.project_planning.specs.Planning.{plain_plan, plan_over}
use Rattle.build_laws.specs.CutBuild.{Cut}
use Rattle.command_parts.specs.Answers.{AsksFor, AsksFromGood, Does, Prints, Reports, Works}
use Rattle.command_parts.specs.Headline.{Ends, IsCutShort, KeepsOutside, Run, Stays}
use Rattle.command_parts.specs.Meaning.{Meaning, target_paths}
use Rattle.command_parts.specs.Performing.{Performs, State, between}
use Rattle.command_parts.specs.ProjectBuild.{Builder, Prepared, built, of_planning, plain_over, plain_way, store_over, store_way}
use Rattle.command_parts.specs.declared.status.Status.{Status}
use Rattle.command_parts.specs.declared.status.Status.TheVariants as status
use Rattle.command_parts.specs.declared.work.Report.{Report}
use Rattle.command_parts.specs.declared.work.WorkFault.{WorkFault}
use Rattle.command_parts.proofs.Ending.{after_cut, after_print, nothing_printed, stays_built}
use Rattle.command_parts.proofs.Steps.{printed_plain, target_outside}
use Rattle.cm_top.specs.Meaning.{of_prepared, of_project, said}
use Rattle.cm_top.specs.Reports.{text_of}
use Rattle.cm_top.specs.declared.printed.Printed.{Printed}
use Rattle.cm_top.specs.declared.printed.Printed.TheVariants as part

-- what is printed of a report is that part of the build
said_is : (p : Printed) (target : Option (List ℕ)) (report : Report) (cut : Cut) (holds : Option Files)
    → Reports target report cut holds → text_of p report ≡ said p cut
said_is part.Report target report cut holds is = is.text
said_is part.LastLine target report cut holds is = is.last

module _ (p : Printed) (files : Files) (target : Option (List ℕ)) (run : Run) (old : Option (List ℕ)) (builds : Builder)
    (ready : Prepared) where
  printed : (result : Status) (report : Report)
      → Works target (Ok report) (built builds files ready.units) run.holds run.asked run.asked_then → old ≡ Some run.text
      → run.skeletons_then ≡ run.skeletons ++ ready.asked_skeletons
      → Prints result report.status old run.written (text_of p report)
      → Ends result (of_prepared p builds target ready files) run
  printed result report works before skeletons prints =
      after_print (of_prepared p builds target ready files) run old result report.status (text_of p report)
      works.ends.status (said_is p target report (built builds files ready.units) run.holds works.ends) before
      works.ends.files works.asks skeletons nothing_printed prints

  cut_off : (fault : WorkFault)
      → Works target (Err fault) (built builds files ready.units) run.holds run.asked run.asked_then → old ≡ Some run.text
      → run.written ≡ old → GrowsUpTo run.skeletons run.skeletons_then ready.asked_skeletons
      → IsCutShort (of_prepared p builds target ready files) run
  cut_off fault works before same skeletons =
      after_cut (of_prepared p builds target ready files) run old same before nothing_printed works.asks skeletons

module _ (by : Definitions) (p : Printed) (target : Option (List ℕ)) (defs : List Def) (project : Project)
    (s0 s1 : State) where
  abbrev over : Files → Prepared
  over files = of_planning project (plan_over by.skel files project defs)

  abbrev plain : Files → Prepared
  plain files = of_planning project (plain_plan by.skel files project defs)

  -- what is known of the work
  abbrev Work : Result Report WorkFault → Type 0
  Work result =
      Told s0.holds (λ files. Does by files target (over files).units (plain files).units result s1.holds s0.asked s1.asked)

  abbrev Asking : Result Report WorkFault → Type 0
  Asking result = Told s0.holds (λ files. AsksFor result (over files).asked_skeletons s0.skeletons s1.skeletons)

  abbrev AskingWell : Result Report WorkFault → Type 0
  AskingWell result =
      Told s0.holds (λ files. AsksFromGood by files result (plain files).asked_skeletons s0.skeletons s1.skeletons)

  abbrev doing : Files → Meaning
  doing = of_project p (store_way by) target defs (Ok project)

  abbrev meant : Files → Meaning
  meant = of_project p (plain_way by) target defs (Ok project)

  outside : (result : Result Report WorkFault) → Work result → (files : Files) → s0.holds ≡ Some files
      → KeepsOutside (target_paths target) files s1.holds
  outside result work files is = target_outside _ target files s1.holds (work files is).project

  stays : (result : Result Report WorkFault) → Work result → (files : Files) → s0.holds ≡ Some files
      → Stays by files (meant files) s1.holds
  stays result work files is =
      let built = stays_built by files target (over files) (plain files) result s1.holds s0.asked s1.asked (work files is) in
      record { frame = built.frame; good = built.good }

  pub built_performs : (report : Report) (result : Status) → Work (Ok report) → Asking (Ok report)
      → AskingWell (Ok report) → Prints result report.status s0.written s1.written (text_of p report)
      → Performs by doing meant result s0 s1
  built_performs report result work asks unread prints = record {
    does = λ files is text before.
        printed p files target (between text s0 s1) s0.written (store_over by) (over files) result report
        (work files is).over_store before (asks files is) prints;
    promise = λ files is text before. record {
      ends = λ known apart good.
          printed p files target (between text s0 s1) s0.written (plain_over by) (plain files) result report
          ((work files is).from_good known apart good).works before (unread files is known good) prints;
    };
    frame = λ files is. (work files is).frame;
    outside = outside (Ok report) work;
    stays = stays (Ok report) work;
    leaves = λ files is well.
        let same : result ≡ report.status =
        printed_plain result report.status s0.written s1.written (text_of p report) well prints in
        record {
          ends = same ∙ (work files is).over_store.ends.status;
          does = (work files is).over_store.ends.files;
          promise_ends = λ known apart good. same ∙ ((work files is).from_good known apart good).works.ends.status;
          promise = λ known apart good. ((work files is).from_good known apart good).works.ends.files;
        };
  }

  -- the work was cut off
  module _ (fault : WorkFault) (work : Work (Err fault)) (asks : Asking (Err fault)) (unread : AskingWell (Err fault))
      (same : s1.written ≡ s0.written) where
    does_short : (files : Files) → s0.holds ≡ Some files → (text : List ℕ) → s0.written ≡ Some text
        → IsCutShort (doing files) (between text s0 s1)
    does_short files is text before =
        cut_off p files target (between text s0 s1) s0.written (store_over by) (over files) fault
        (work files is).over_store before same (asks files is)

    pub built_failed : Performs by doing meant status.FolderFault s0 s1
    built_failed = record {
      does = does_short;
      promise = λ files is text before. record {
        ends = λ known apart good.
            cut_off p files target (between text s0 s1) s0.written (plain_over by) (plain files) fault
            ((work files is).from_good known apart good).works before same (unread files is known good);
      };
      frame = λ files is. (work files is).frame;
      outside = outside (Err fault) work;
      stays = stays (Err fault) work;
      leaves = λ files is well. absurd well;
    }

    pub built_wanting : Performs by doing meant status.NoMemory s0 s1
    built_wanting = record {
      does = does_short;
      promise = λ files is text before. record {
        ends = λ known apart good.
            cut_off p files target (between text s0 s1) s0.written (plain_over by) (plain files) fault
            ((work files is).from_good known apart good).works before same (unread files is known good);
      };
      frame = λ files is. (work files is).frame;
      outside = outside (Err fault) work;
      stays = stays (Err fault) work;
      leaves = λ files is well. absurd well;
    }
