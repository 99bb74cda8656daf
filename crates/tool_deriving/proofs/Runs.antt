-- A use by the store's record, and a use by a run.
use Rattle.std.proofs.Common.{◌≡◌, ◌≢◌, ◌⊎◌, ◌∙◌, ap, sym, subst, refl, inl, inr, ℕ, ◌&&◌, Bool, true, false, cond, not, List, Option, Some, None, Result, Ok, Err, arith}
use Rattle.std.specs.Prelude.{nat_eq, is_some, unwrap_or}
use Rattle.std.specs.Cmp.Lexicographic.{pointwise, nat_list_eq_equiv, same_text}
use Rattle.cm_base.specs.Causes.{HasCause}
use Rattle.cm_base.specs.Derived.{derived_text}
use Rattle.cm_base.specs.Files.{Files, Told, told}
use Rattle.cm_base.specs.Keeping.{Touches}
use Rattle.cm_base.proofs.KeepingLemmas.{touches_written}
use Rattle.bin_formats.specs.declared.bin.ToolRecord.{ToolRecord}
use Rattle.bin_formats.specs.Format.{record_file, IsRecord}
use Rattle.bin_store.specs.Paths.{tool_path}
use Rattle.tool_records.specs.Laws.{IsSmallRun}
use Rattle.tool_records.specs.Stored.{stored_record, with_record, HasTrueRecord}
use Rattle.tool_records.proofs.Sizes.{small_fits, small_is_short}
use Rattle.tool_records.proofs.Storing.{record_unit, put_is_stored}
use Rattle.tool_deriving.specs.Deriving.{ToolUse, tool_use, text_of_use, record_with, record_of_use, served, stored_output, text_over, uses, after_use, ran_after, IsSmallUse, Derives, LeavesUse, ToolState, use_by, DerivesBy, RunsOnce}
use Rattle.tool_deriving.specs.declared.fault.DeriveFault.{DeriveFault}
use Rattle.tool_deriving.specs.declared.fault.DeriveFault.TheVariants as fault

-- ---- sizes

-- the record of a small use
small_run : (job : ToolUse) → IsSmallUse job → IsSmallRun (record_of_use job)
unfolding text_of_use
small_run job small = record {
  unit = small.unit;
  class = small.class;
  rule = small.rule;
  input = small.input;
  derived = refl;
}

-- .. has a spelling
pub run_fits : (job : ToolUse) (run : ToolRecord) → IsSmallUse job → run ≡ record_of_use job → IsRecord run
run_fits job run small is = subst IsRecord (sym is) (small_fits (record_of_use job) (small_run job small))

-- the record of a run, as code makes it
pub made_fits : (class rule unit input output old_class old_rule : List ℕ) (run : ToolRecord)
    → IsSmallUse (tool_use old_class old_rule unit input) → class ≡ old_class → rule ≡ old_rule
    → output ≡ derived_text old_rule unit input → run ≡ record_with (tool_use class rule unit input) output → IsRecord run
unfolding text_of_use
made_fits class rule unit input output old_class old_rule run small a b d is =
    run_fits (tool_use old_class old_rule unit input) run small
    (is ∙ ap (λ (o : List ℕ). record_with (tool_use class rule unit input) o) d
    ∙ ap (λ (k : List ℕ). record_with (tool_use k rule unit input) (derived_text old_rule unit input)) a
    ∙ ap (λ (k : List ℕ). record_with (tool_use old_class k unit input) (derived_text old_rule unit input)) b)

-- ---- what the store has for a use

-- a test that chooses
chosen : (test : Bool) (x y : List ℕ) → cond test (Some x) None ≡ Some y → (test ≡ true) × (x ≡ y)
chosen true x y e = (refl, cc)
chosen false x y e = absurd cc

both : (a b : Bool) → (a && b) ≡ true → (a ≡ true) × (b ≡ true)
both true b h = (refl, h)
both false b h = absurd cc

-- a true record of the same class, rule and input has the text
true_output : (job : ToolUse) (record_is : Option ToolRecord) (text : List ℕ)
    → ((run : ToolRecord) → record_is ≡ Some run → run.output ≡ derived_text run.rule job.unit run.input)
    → served job record_is ≡ Some text → text ≡ text_of_use job
unfolding text_of_use
true_output job None text derived e = absurd cc
true_output job (Some run) text derived e =
    let is = chosen (pointwise nat_eq run.class job.class
    && (pointwise nat_eq run.rule job.rule && pointwise nat_eq run.input job.input)) run.output text e in
    let one = both (pointwise nat_eq run.class job.class)
    (pointwise nat_eq run.rule job.rule && pointwise nat_eq run.input job.input) is.0 in
    let two = both (pointwise nat_eq run.rule job.rule) (pointwise nat_eq run.input job.input) one.1 in
    sym is.1 ∙ derived run refl
    ∙ ap (λ (rule : List ℕ). derived_text rule job.unit run.input) (same_text run.rule job.rule (sym two.0))
    ∙ ap (derived_text job.rule job.unit) (same_text run.input job.input (sym two.1))

stored_text : (files : Files) (job : ToolUse) (text : List ℕ) → HasTrueRecord files job.unit
    → stored_output files job ≡ Some text → text ≡ text_of_use job
unfolding stored_output
stored_text files job text true_record e =
    true_output job (stored_record files job.unit) text
    (λ run is. true_record.derived run is
    ∙ ap (λ (unit : List ℕ). derived_text run.rule unit run.input) (record_unit files job.unit run is)) e

-- so the text over the store is the text
pub text_is : (files : Files) (job : ToolUse) → HasTrueRecord files job.unit → text_over files job ≡ text_of_use job
text_is files job true_record = by_output (stored_output files job) refl
  where
    by_output : (o : Option (List ℕ)) → stored_output files job ≡ o → unwrap_or o (text_of_use job) ≡ text_of_use job
    by_output None e = refl
    by_output (Some text) e = stored_text files job text true_record e

-- where the store has an output, the tool rests
rests_where : (files : Files) (job : ToolUse) (text : List ℕ) → stored_output files job ≡ Some text → uses files job ≡ false
rests_where files job text e = ap (λ (o : Option (List ℕ)). not (is_some o)) e

-- where it has none, the tool runs
runs_where : (files : Files) (job : ToolUse) → stored_output files job ≡ None → uses files job ≡ true
runs_where files job e = ap (λ (o : Option (List ℕ)). not (is_some o)) e

-- ---- what is promised of a use

-- answers, with their type
abbrev err : DeriveFault → Result (List ℕ) DeriveFault
err f = Err f

abbrev done : List ℕ → Result (List ℕ) DeriveFault
done text = Ok text

same_count : (n : ℕ) (failed : Type 0) → (failed → ⊥) → HasCause n n failed
same_count n failed never = record { later = omega arith; rose = λ h. absurd (never h) }

-- after a fault before any run
pub stopped : (state : ToolState) (unit input : List ℕ) (f : DeriveFault) (before after : Option Files)
    → err f ≢ err fault.Tool → after ≡ before → DerivesBy state state unit input (Err f) before after
stopped state unit input f before after other same = record {
  cause = same_count state.faults (err f ≡ err fault.Tool) other;
  class = refl;
  rule = refl;
  derives = record {
    text = λ files is. tt;
    runs = λ files is. tt;
    puts = λ files is. tt;
    rests = λ files is none. (refl, same);
  };
  leaves = record { once = inl refl; leaves = inl same; fits = inl same; failed = λ h. absurd (other h) };
}

-- by the record
pub by_record : (state : ToolState) (unit input : List ℕ) (text : List ℕ) (before after : Option Files)
    → after ≡ before → Told before (λ files. Some text ≡ stored_output files (use_by state unit input))
    → DerivesBy state state unit input (Ok text) before after
by_record state unit input text before after same found = record {
  cause = same_count state.faults (done text ≡ err fault.Tool) (λ e. cc);
  class = refl;
  rule = refl;
  derives = record {
    text = λ files is. ap (λ (o : Option (List ℕ)). unwrap_or o (text_of_use job)) (found files is);
    runs = λ files is. ap (λ (b : Bool). ran_after b state.ran) (sym (rests_where files job text (sym (found files is))));
    puts = λ files is.
        same ∙ is
        ∙ ap (λ (b : Bool). Some (cond b (with_record files (record_of_use job)) files))
        (sym (rests_where files job text (sym (found files is))));
    rests = λ files is none. (refl, same);
  };
  leaves = record { once = inl refl; leaves = inl same; fits = inl same; failed = λ h. absurd cc };
}
  where
    job : ToolUse
    job = use_by state unit input

-- what was found, in the words of the tool's state
pub answer_so : (unit input class rule old_class old_rule : List ℕ) (stored answer : Option (List ℕ)) (before : Option Files)
    → class ≡ old_class → rule ≡ old_rule → stored ≡ answer
    → Told before (λ files. stored ≡ stored_output files (tool_use class rule unit input))
    → Told before (λ files. answer ≡ stored_output files (tool_use old_class old_rule unit input))
answer_so unit input class rule old_class old_rule stored answer before a b is found = λ files told_is.
    sym is ∙ found files told_is
    ∙ ap (λ (k : List ℕ). stored_output files (tool_use k rule unit input)) a
    ∙ ap (λ (k : List ℕ). stored_output files (tool_use old_class k unit input)) b

-- a tool that runs doesn't rest
runs_not_rests : (files : Files) (job : ToolUse) → None ≡ stored_output files job → uses files job ≡ false → ⊥
runs_not_rests files job none rests = let runs = runs_where files job (sym none) in cc

-- by a run
pub by_run : (old new : ToolState) (unit input : List ℕ) (r : Result (List ℕ) DeriveFault) (before middle after : Option Files)
    → HasCause old.faults new.faults (r ≡ err fault.Tool) → new.class ≡ old.class → new.rule ≡ old.rule
    → middle ≡ before → Told before (λ files. None ≡ stored_output files (use_by old unit input))
    → IsSmallUse (use_by old unit input) → RunsOnce (use_by old unit input) r middle after old.ran new.ran
    → DerivesBy old new unit input r before after
by_run old new unit input r before middle after cause class rule same none small once = record {
  cause = cause;
  class = class;
  rule = rule;
  derives = derives r once;
  leaves = leaves r once;
}
  where
    job : ToolUse
    job = use_by old unit input

    absent : Told before (λ files. uses files job ≡ false → (new.ran ≡ old.ran) × (after ≡ before))
    absent = λ files is rests. absurd (runs_not_rests files job (none files is) rests)

    derives : (r : Result (List ℕ) DeriveFault) → RunsOnce job r middle after old.ran new.ran
        → Derives job r before after old.ran new.ran
    derives (Err f) once = record {
      text = λ files is. tt;
      runs = λ files is. tt;
      puts = λ files is. tt;
      rests = absent;
    }
    derives (Ok text) once = record {
      text = λ files is.
          once.0 ∙ ap (λ (o : Option (List ℕ)). unwrap_or o (text_of_use job)) (none files is);
      runs = λ files is.
          once.1 ∙ ap (λ (b : Bool). ran_after b old.ran) (sym (runs_where files job (sym (none files is))));
      puts = λ files is.
          once.2 ∙ ap (told (λ f. with_record f (record_of_use job))) (same ∙ is)
          ∙ ap (λ (b : Bool). Some (cond b (with_record files (record_of_use job)) files))
          (sym (runs_where files job (sym (none files is))));
      rests = absent;
    }

    moved : (after ≡ middle) ⊎ Touches middle after (tool_path job.unit) (record_file (record_of_use job))
        → (after ≡ before) ⊎ Touches before after (tool_path job.unit) (record_file (record_of_use job))
    moved left =
        subst (λ (m : Option Files). (after ≡ m) ⊎ Touches m after (tool_path job.unit) (record_file (record_of_use job)))
        same left

    fits : (after ≡ before) ⊎ IsRecord (record_of_use job)
    fits = inr (run_fits job (record_of_use job) small refl)

    leaves : (r : Result (List ℕ) DeriveFault) → RunsOnce job r middle after old.ran new.ran
        → LeavesUse job r before after old.ran new.ran
    leaves (Ok text) once = record {
      once = inr once.1;
      leaves = moved (inr (touches_written middle after (tool_path job.unit) (record_file (record_of_use job)) once.2));
      fits = fits;
      failed = λ h. absurd cc;
    }
    leaves (Err fault.Tool) once = record {
      once = inr once.0;
      leaves = inl (once.1 ∙ same);
      fits = fits;
      failed = λ h. (once.0, once.1 ∙ same);
    }
    leaves (Err fault.Folder) once = record {
      once = inr once.0;
      leaves = moved once.1;
      fits = fits;
      failed = λ h. absurd cc;
    }
    leaves (Err fault.NoMemory) once = record {
      once = once.0;
      leaves = moved once.1;
      fits = fits;
      failed = λ h. absurd cc;
    }

-- ---- a second use

-- the record of a use serves it
serves_itself : (job : ToolUse) → served job (Some (record_of_use job)) ≡ Some (text_of_use job)
serves_itself job =
    rw (nat_list_eq_equiv.refl job.class, nat_list_eq_equiv.refl job.rule, nat_list_eq_equiv.refl job.input) refl

stored_after : (files : Files) (job : ToolUse) → IsSmallUse job
    → stored_output (with_record files (record_of_use job)) job ≡ Some (text_of_use job)
unfolding stored_output
stored_after files job small =
    let run = record_of_use job in
    ap (served job)
    (put_is_stored files run (small_fits run (small_run job small)) (small_is_short run (small_run job small)))
    ∙ serves_itself job

pub second_rests : (files : Files) (job : ToolUse) → IsSmallUse job → uses (after_use files job) job ≡ false
second_rests files job small = by_test (uses files job) refl
  where
    by_test : (b : Bool) → uses files job ≡ b
        → uses (cond b (with_record files (record_of_use job)) files) job ≡ false
    by_test false e = e
    by_test true e =
        rests_where (with_record files (record_of_use job)) job (text_of_use job) (stored_after files job small)
