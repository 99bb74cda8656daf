-- What uses of tools leave of a folder: the records of those that ran, whole or, of the one that was cut off, a front.
use Rattle.std.proofs.Common.{◌≡◌, ◌∙◌, ◌⊎◌, ap, sym, subst, refl, inl, inr, arith, ℕ, zero, suc, Bool, true, false, cond, List, [], ◌∷◌, ◌++◌, Option, Some, append_assoc}
use Rattle.std.specs.Prelude.{Contains}
use Rattle.std.proofs.lemmas.List.Elements.{Contains-append_left}
use Rattle.cm_base.specs.Definitions.{Definitions}
use Rattle.cm_base.specs.Files.{Files, is_stored}
use Rattle.cm_base.specs.Keeping.{Keeps, Touches}
use Rattle.cm_base.proofs.KeepingLemmas.{keeps_same, keeps_then, keeps_touches, keeps_wider, touches_written}
use Rattle.bin_formats.specs.Format.{IsRecord, record_file}
use Rattle.bin_store.specs.GoodStore.{IsGoodStore, StoreIsGood}
use Rattle.bin_store.specs.Paths.{tool_path}
use Rattle.bin_store.proofs.Elsewhere.{tool_stored}
use Rattle.bin_store.proofs.GoodAfter.{store_after_record, store_is_good}
use Rattle.tool_records.specs.Stored.{with_record}
use Rattle.tool_deriving.specs.Deriving.{ToolState, ToolUse, after_use, record_of_use, text_of_use, uses}
use Rattle.member_deriving.specs.Uses.{Work, after_uses, runs_of, work_of}
use Rattle.member_deriving.proofs.Good.{uses_good}
use Rattle.member_deriving.proofs.Uses.{in_turn}
use Rattle.box_deriving.specs.Boxes.{CutOff, InStep, Origin, Reached, UnderWay, World, after_runs, counts_of}
use Rattle.box_deriving.proofs.Stepping.{runs_behind}
use Rattle.use_laws.specs.Laws.{CutOffLeavesFronts, UsesInStepLeave, UsesWriteRecords}
use Rattle.use_laws.specs.Left.{Leaves, RanUpTo, record_paths}

-- ---- paths

pub paths_stored : (jobs : List ToolUse) (q : List ℕ) → Contains (record_paths jobs) q → is_stored q ≡ true
paths_stored [] q (i, within, at) = absurd (omega (arith, within))
paths_stored (job ∷ jobs) q (zero, within, at) = subst (λ (p : List ℕ). is_stored p ≡ true) at (tool_stored job.unit)
paths_stored (job ∷ jobs) q (suc i, within, at) = paths_stored jobs q (i, omega (arith, within), at)

paths_more : (first more : List ToolUse) → record_paths (first ++ more) ≡ record_paths first ++ record_paths more
paths_more [] more = refl
paths_more (job ∷ first) more = ap (λ (paths : List (List ℕ)). tool_path job.unit ∷ paths) (paths_more first more)

first_within : (first more : List ToolUse) (q : List ℕ) → Contains (record_paths first) q
    → Contains (record_paths (first ++ more)) q
first_within first more q within =
    subst (λ (paths : List (List ℕ)). Contains paths q) (sym (paths_more first more))
    (Contains-append_left (record_paths first) (record_paths more) q within)

-- ---- uses

-- the uses that ran wrote their records, and no other file
pub runs_keep : (files : Files) (jobs : List ToolUse)
    → Keeps (Some files) (Some (after_uses files jobs)) (record_paths (runs_of files jobs))
runs_keep files [] = keeps_same (Some files) (Some files) [] refl
runs_keep files (job ∷ jobs) =
    by_test (uses files job) (runs_keep (with_record files (record_of_use job)) jobs) (runs_keep files jobs)
  where
    put : Files
    put = with_record files (record_of_use job)

    by_test : (b : Bool)
        → Keeps (Some put) (Some (after_uses put jobs)) (record_paths (runs_of put jobs))
        → Keeps (Some files) (Some (after_uses files jobs)) (record_paths (runs_of files jobs))
        → Keeps (Some files) (Some (after_uses (cond b put files) jobs))
        (record_paths (cond b (job ∷ runs_of (cond b put files) jobs) (runs_of (cond b put files) jobs)))
    by_test true ran rested =
        keeps_then
        (keeps_touches
        (touches_written (Some files) (Some put) (tool_path job.unit) (record_file (record_of_use job)) refl))
        ran
    by_test false ran rested = rested

-- ---- where a loading stands

module _ (origin : Origin) (now : World) where
  abbrev files : Files
  files = origin.files

  abbrev tools : List ToolState
  tools = origin.tools

  abbrev ran_in : List ToolUse → List ToolUse
  ran_in front = runs_of files front

  -- between two uses
  between : (front more : List ToolUse)
      → InStep origin (work_of (after_uses files front) front) now
      → Leaves origin (ran_in front ++ more) now
  between front more here = record {
    keeps = keeps_wider
        (subst (λ (holds : Option Files). Keeps (Some files) holds (record_paths (ran_in front))) (sym here.holds)
        (runs_keep files front))
        (λ q within. first_within (ran_in front) more q within);
    ran = record { front = ran_in front; rest = more; all = refl; ran = here.ran };
    good = λ by known good. store_is_good here.holds (uses_good by known files front good);
  }

  -- within one
  module _ (front : List ToolUse) (job : ToolUse) (more : List ToolUse)
      (way : UnderWay origin front job now) where
    one_keeps : (now.holds ≡ Some (after_uses files front))
        ⊎ Touches (Some (after_uses files front)) now.holds (tool_path job.unit) (record_file (record_of_use job))
        → Keeps (Some (after_uses files front)) now.holds (tool_path job.unit ∷ [])
    one_keeps (inl same) = keeps_same (Some (after_uses files front)) now.holds (tool_path job.unit ∷ []) same
    one_keeps (inr touched) = keeps_touches touched

    so_far : (q : List ℕ) → Contains (record_paths (ran_in front) ++ (tool_path job.unit ∷ [])) q
        → Contains (record_paths (ran_in front ++ (job ∷ more))) q
    so_far q within =
        subst (λ (jobs : List ToolUse). Contains (record_paths jobs) q)
        (append_assoc (ran_in front) (job ∷ []) more)
        (first_within (ran_in front ++ (job ∷ [])) more q
        (subst (λ (paths : List (List ℕ)). Contains paths q) (sym (paths_more (ran_in front) (job ∷ []))) within))

    ran_so : (counts_of now.tools ≡ after_runs (ran_in front) (counts_of tools))
        ⊎ (counts_of now.tools ≡ after_runs (job ∷ []) (after_runs (ran_in front) (counts_of tools)))
        → RanUpTo (ran_in front ++ (job ∷ more)) tools now.tools
    ran_so (inl same) = record { front = ran_in front; rest = job ∷ more; all = refl; ran = same }
    ran_so (inr once) = record {
      front = ran_in front ++ (job ∷ []);
      rest = more;
      all = sym (append_assoc (ran_in front) (job ∷ []) more);
      ran = once ∙ sym (runs_behind (ran_in front) (job ∷ []) (counts_of tools));
    }

    good_so : (by : Definitions) (known : List (List ℕ)) → IsGoodStore by known (after_uses files front)
        → (now.holds ≡ Some (after_uses files front)) ⊎ IsRecord (record_of_use job)
        → (now.holds ≡ Some (after_uses files front))
        ⊎ Touches (Some (after_uses files front)) now.holds (tool_path job.unit) (record_file (record_of_use job))
        → StoreIsGood by known now.holds
    unfolding text_of_use
    good_so by known good (inl same) left = store_is_good same good
    good_so by known good (inr fits) (inl same) = store_is_good same good
    good_so by known good (inr fits) (inr touched) =
        store_after_record by known (Some (after_uses files front)) now.holds (record_of_use job) fits refl touched
        (store_is_good refl good)

    within : Leaves origin (ran_in front ++ (job ∷ more)) now
    within = record {
      keeps = keeps_wider (keeps_then (runs_keep files front) (one_keeps way.leaves)) so_far;
      ran = ran_so way.ran;
      good = λ by known good. good_so by known (uses_good by known files front good) way.fits way.leaves;
    }

  -- the first of some uses runs
  runs_first : (f : Files) (job : ToolUse) (rest : List ToolUse) → uses f job ≡ true
      → runs_of f (job ∷ rest) ≡ job ∷ runs_of (after_use f job) rest
  runs_first f job rest is =
      ap (λ (b : Bool). cond b (job ∷ runs_of (after_use f job) rest) (runs_of (after_use f job) rest)) is

  by_reached : (front rest : List ToolUse) → Reached origin front rest now
      → Leaves origin (ran_in front ++ runs_of (after_uses files front) rest) now
  by_reached front [] here = between front [] here
  by_reached front (job ∷ rest) (inl here) = between front (runs_of (after_uses files front) (job ∷ rest)) here
  by_reached front (job ∷ rest) (inr way) =
      subst (λ (more : List ToolUse). Leaves origin (ran_in front ++ more) now)
      (sym (runs_first (after_uses files front) job rest way.runs))
      (within front job (runs_of (after_use (after_uses files front) job) rest) way)

  pub left_by : (jobs : List ToolUse) → CutOff origin jobs now → Leaves origin (runs_of files jobs) now
  left_by jobs cut =
      subst (λ (runs : List ToolUse). Leaves origin runs now)
      (sym (ap (runs_of files) cut.all ∙ (in_turn files cut.front cut.rest).run))
      (by_reached cut.front cut.rest cut.reached)

  -- .. and where it went on to its end
  pub left_whole : (work : Work) → InStep origin work now → Leaves origin (runs_of files work.uses) now
  left_whole work here = record {
    keeps = subst (λ (holds : Option Files). Keeps (Some files) holds (record_paths (runs_of files work.uses)))
        (sym (here.holds ∙ ap (λ (f : Files). Some f) here.made)) (runs_keep files work.uses);
    ran = record { front = runs_of files work.uses; rest = []; all = no_rest (runs_of files work.uses); ran = here.ran };
    good = λ by known good.
        store_is_good (here.holds ∙ ap (λ (f : Files). Some f) here.made) (uses_good by known files work.uses good);
  }
    where
      no_rest : (jobs : List ToolUse) → jobs ≡ jobs ++ []
      no_rest [] = refl
      no_rest (job ∷ more) = ap (λ (rest : List ToolUse). job ∷ rest) (no_rest more)

pub writes_records : UsesWriteRecords
writes_records files jobs = record { keeps = runs_keep files jobs; stored = paths_stored jobs }

pub whole_leaves : UsesInStepLeave
whole_leaves origin work now here = left_whole origin now work here

pub cut_leaves : CutOffLeavesFronts
cut_leaves origin jobs now cut = left_by origin now jobs cut
