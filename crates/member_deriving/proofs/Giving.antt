-- A member's source, over a store with true records, and what the call that derives it leaves.
use Rattle.std.proofs.Common.{◌≡◌, ◌≢◌, ◌∙◌, ap, sym, subst, refl, inl, ℕ, zero, suc, ◌<◌, Bool, true, false, cond, List, [], ◌∷◌, length, Option, Some, Result, Ok, Err, arith}
use Rattle.std.specs.Prelude.{IsErrAnd}
use Rattle.cm_base.specs.Calls.{Gives}
use Rattle.cm_base.specs.Causes.{HasCause}
use Rattle.cm_base.specs.Files.{Files, Told}
use Rattle.cm_base.specs.declared.diag.Diag.{Diag}
use Rattle.cm_base.specs.declared.fault.Fault.{Fault}
use Rattle.cm_base.specs.declared.fault.Fault.TheVariants as refusal
use Rattle.tool_deriving.specs.Deriving.{ToolUse, ToolState, text_of_use, text_over, uses, ran_after, use_by, DerivesBy}
use Rattle.tool_deriving.specs.Toolboxes.{OfOne}
use Rattle.tool_deriving.specs.declared.fault.DeriveFault.{DeriveFault}
use Rattle.tool_deriving.specs.declared.fault.DeriveFault.TheVariants as derive
use Rattle.tool_deriving.proofs.Runs.{text_is}
use Rattle.tool_deriving.proofs.Truth.{use_keeps_true}
use Rattle.member_deriving.specs.Faults.{of_deriving, of_refusal}
use Rattle.member_deriving.specs.Laws.{HasTrueRecords, GivesByRules, SourcesOverTrueRecords}
use Rattle.member_deriving.specs.Sources.{IsGiven, OnGiven, Sources, texts_by_rules, texts_over_stores, within_source, if_within, used_within, source_by, SourcesBy}
use Rattle.member_deriving.specs.Uses.{Work, outcome, with_use, work_of, ran_more, runs_of}
use Rattle.member_deriving.specs.declared.fault.MemberFault.{MemberFault}
use Rattle.member_deriving.specs.declared.fault.MemberFault.TheVariants as fault

-- ---- over true records

module _ (job : ToolUse) (work : Work) (true_records : HasTrueRecords work.files) where
  same_text : text_over work.files job ≡ text_of_use job
  same_text = text_is work.files job (true_records job.unit)

  by_size : (within : Result (Unit {0}) Diag)
      → used_within within texts_over_stores job work ≡ used_within within texts_by_rules job work
  by_size (Err diag) = refl
  by_size (Ok within) =
      ap (λ (text : List ℕ). outcome (with_use job work) (if_within (within_source job.unit text) text)) same_text

  stay_true : (within : Result (Unit {0}) Diag) → HasTrueRecords (used_within within texts_by_rules job work).work.files
  stay_true (Err diag) = true_records
  stay_true (Ok within) = λ unit. use_keeps_true work.files job unit (true_records unit)

  pub by_rules : GivesByRules job work
  by_rules = record {
    same = by_size (within_source job.unit job.input);
    stays = stay_true (within_source job.unit job.input);
  }

pub over_true : SourcesOverTrueRecords
over_true job work true_records = by_rules job work true_records

-- ---- what the call leaves

-- a tool of a box that stays as it is
pub untouched : {A : Type 0} (at : ℕ) (tools : List A) (Holds : A → A → Type 0) → at < length tools
    → ((tool : A) → Holds tool tool) → OfOne at tools tools Holds
untouched at [] Holds lt so = absurd (omega (arith, lt))
untouched zero (tool ∷ tools) Holds lt so = record { before = tool; after = tool; was = refl; is = refl; so = so tool }
untouched {A} (suc at) (tool ∷ tools) Holds lt so =
    let rest = untouched at tools Holds (omega (arith, lt)) so in
    record {
      before = rest.before;
      after = rest.after;
      was = rest.was;
      is = ap (λ (more : List A). tool ∷ more) rest.is;
      so = rest.so;
    }

-- what holds of a tool before and after, in other words
pub reworded : {A : Type 0} (at : ℕ) (old new : List A) (Holds Says : A → A → Type 0) → OfOne at old new Holds
    → ((before after : A) → Holds before after → Says before after) → OfOne at old new Says
reworded at old new Holds Says one says =
    record { before = one.before; after = one.after; was = one.was; is = one.is; so = says one.before one.after one.so }

-- answers, with their type
abbrev err : MemberFault → Result (List ℕ) MemberFault
err f = Err f

same_count : (n : ℕ) (failed : Type 0) → (failed → ⊥) → HasCause n n failed
same_count n failed never = record { later = omega arith; rose = λ h. absurd (never h) }

-- what holds of any answer holds of one that is given
on_given : (r : Result (List ℕ) MemberFault) (so : Type 0) → so → OnGiven r so
on_given (Ok text) so is = is
on_given (Err (fault.Diag diag)) so is = is
on_given (Err fault.Folder) so is = tt
on_given (Err fault.Tool) so is = tt
on_given (Err fault.NoMemory) so is = tt

-- a run or none, as a count of runs
one_run : (b : Bool) (job : ToolUse) (ran : ℕ) → ran_after b ran ≡ ran_more (length (cond b (job ∷ []) [])) ran
one_run true job ran = refl
one_run false job ran = refl

-- an input that is too large
pub refused_input : (state : ToolState) (unit input : List ℕ) (diag : Diag) (before after : Option Files)
    → within_source unit input ≡ Err diag → after ≡ before
    → SourcesBy state state unit input (Err (fault.Diag diag)) before after
refused_input state unit input diag before after large same = record {
  cause = same_count state.faults (err (fault.Diag diag) ≡ err fault.Tool) (λ e. absurd cc);
  class = refl;
  rule = refl;
  sources = record {
    gives = λ files is.
        ap (λ (w : Result (Unit {0}) Diag). (used_within w texts_over_stores job (work_of files [])).result) large;
    puts = λ files is.
        same ∙ is
        ∙ ap (λ (w : Result (Unit {0}) Diag). Some (used_within w texts_over_stores job (work_of files [])).work.files)
        (sym large);
    runs = λ files is.
        ap (λ (w : Result (Unit {0}) Diag).
        ran_more (length (runs_of files (used_within w texts_over_stores job (work_of files [])).work.uses)) state.ran)
        (sym large);
    rests = λ files is none. (refl, same);
  };
  leaves = record { once = inl refl; leaves = inl same; fits = inl same; failed = λ e. absurd cc };
}
  where
    job : ToolUse
    job = use_by state unit input

-- want of memory before the use
pub wants_memory : (state : ToolState) (unit input : List ℕ) (before after : Option Files) → after ≡ before
    → SourcesBy state state unit input (Err fault.NoMemory) before after
wants_memory state unit input before after same = record {
  cause = same_count state.faults (err fault.NoMemory ≡ err fault.Tool) (λ e. absurd cc);
  class = refl;
  rule = refl;
  sources = record {
    gives = λ files is. tt;
    puts = λ files is. tt;
    runs = λ files is. tt;
    rests = λ files is none. (refl, same);
  };
  leaves = record { once = inl refl; leaves = inl same; fits = inl same; failed = λ e. absurd cc };
}

-- where no run is among them, the use doesn't run
no_run : (b : Bool) (job : ToolUse) → ◌≡◌ {A = List ToolUse} (cond b (job ∷ []) []) [] → b ≡ false
no_run true job e = absurd cc
no_run false job e = refl

module _ (old new : ToolState) (unit input : List ℕ) (before after : Option Files) where
  abbrev used : ToolUse
  used = use_by old unit input

  -- ---- a use that fails

  is_tool : (f : DeriveFault) → err (of_deriving f) ≡ err fault.Tool
      → ◌≡◌ {A = Result (List ℕ) DeriveFault} (Err f) (Err derive.Tool)
  is_tool derive.Tool e = refl
  is_tool derive.Folder e = absurd cc
  is_tool derive.NoMemory e = absurd cc

  -- a use that isn't meant to run leaves all as it was
  rests_by : (r : Result (List ℕ) DeriveFault) → within_source unit input ≡ Ok tt → DerivesBy old new unit input r before after
      → Told before (λ files. runs_of files (source_by texts_over_stores used (work_of files [])).work.uses ≡ []
      → (new.ran ≡ old.ran) × (after ≡ before))
  rests_by r small by = λ files is none.
      by.derives.rests files is (no_run (uses files used) used
      (ap (λ (w : Result (Unit {0}) Diag). runs_of files (used_within w texts_over_stores used (work_of files [])).work.uses)
      (sym small) ∙ none))

  unknown : (f : DeriveFault) → within_source unit input ≡ Ok tt → DerivesBy old new unit input (Err f) before after
      → Sources used (Err (of_deriving f)) before after old.ran new.ran
  unknown derive.Tool small by =
      record { gives = λ files is. tt; puts = λ files is. tt; runs = λ files is. tt; rests = rests_by (Err derive.Tool) small by }
  unknown derive.Folder small by =
      record { gives = λ files is. tt; puts = λ files is. tt; runs = λ files is. tt; rests = rests_by (Err derive.Folder) small by }
  unknown derive.NoMemory small by =
      record { gives = λ files is. tt; puts = λ files is. tt; runs = λ files is. tt; rests = rests_by (Err derive.NoMemory) small by }

  pub fails : (f : DeriveFault) → within_source unit input ≡ Ok tt → DerivesBy old new unit input (Err f) before after
      → SourcesBy old new unit input (Err (of_deriving f)) before after
  fails f small by = record {
    cause = record { later = by.cause.later; rose = λ e. by.cause.rose (is_tool f e) };
    class = by.class;
    rule = by.rule;
    sources = unknown f small by;
    leaves = record {
      once = by.leaves.once;
      leaves = by.leaves.leaves;
      fits = by.leaves.fits;
      failed = λ e. by.leaves.failed (is_tool f e);
    };
  }

  -- ---- a use that gives a text

  module _ (text : List ℕ) (small : within_source unit input ≡ Ok tt)
      (by : DerivesBy old new unit input (Ok text) before after) where
    sources_of : (r : Result (List ℕ) MemberFault) → IsGiven r (if_within (within_source unit text) text)
        → Sources used r before after old.ran new.ran
    sources_of r given = record {
      gives = λ files is.
          subst (IsGiven r)
          (ap (λ (t : List ℕ). if_within (within_source unit t) t) (by.derives.text files is)
          ∙ ap (λ (w : Result (Unit {0}) Diag). (used_within w texts_over_stores used (work_of files [])).result)
          (sym small)) given;
      puts = λ files is.
          on_given r (after ≡ Some (source_by texts_over_stores used (work_of files [])).work.files)
          (by.derives.puts files is
          ∙ ap (λ (w : Result (Unit {0}) Diag). Some (used_within w texts_over_stores used (work_of files [])).work.files)
          (sym small));
      runs = λ files is.
          on_given r
          (new.ran ≡ ran_more (length (runs_of files (source_by texts_over_stores used (work_of files [])).work.uses))
          old.ran)
          (by.derives.runs files is ∙ one_run (uses files used) used old.ran
          ∙ ap (λ (w : Result (Unit {0}) Diag).
          ran_more (length (runs_of files (used_within w texts_over_stores used (work_of files [])).work.uses)) old.ran)
          (sym small));
      rests = rests_by (Ok text) small by;
    }

    -- .. whatever is answered then but a failing tool
    pub answers : (r : Result (List ℕ) MemberFault) → IsGiven r (if_within (within_source unit text) text)
        → r ≢ err fault.Tool → SourcesBy old new unit input r before after
    answers r given other = record {
      cause = record { later = by.cause.later; rose = λ e. absurd (other e) };
      class = by.class;
      rule = by.rule;
      sources = sources_of r given;
      leaves = record {
        once = by.leaves.once;
        leaves = by.leaves.leaves;
        fits = by.leaves.fits;
        failed = λ e. absurd (other e);
      };
    }

    pub gives_text : within_source unit text ≡ Ok tt → SourcesBy old new unit input (Ok text) before after
    gives_text fits =
        answers (Ok text) (ap (λ (w : Result (Unit {0}) Diag). if_within w text) fits) (λ e. absurd cc)

    pub refuses_text : (diag : Diag) → within_source unit text ≡ Err diag
        → SourcesBy old new unit input (Err (fault.Diag diag)) before after
    refuses_text diag large =
        answers (Err (fault.Diag diag)) (ap (λ (w : Result (Unit {0}) Diag). if_within w text) large) (λ e. absurd cc)

    pub forgets_text : SourcesBy old new unit input (Err fault.NoMemory) before after
    forgets_text = answers (Err fault.NoMemory) tt (λ e. absurd cc)

-- ---- as the call passes faults on

-- before the use
by_refusal : (state : ToolState) (unit input : List ℕ) (e : Fault) (before after : Option Files)
    → Gives {A = Unit {0}} (Err e) (within_source unit input) → after ≡ before
    → SourcesBy state state unit input (Err (of_refusal e)) before after
by_refusal state unit input (refusal.Diag diag) before after gives same =
    refused_input state unit input diag before after gives same
by_refusal state unit input refusal.NoMemory before after gives same = wants_memory state unit input before after same

pub stops_before : (state : ToolState) (unit input : List ℕ) (r : Result (List ℕ) MemberFault) (e : Fault)
    (before after : Option Files) → IsErrAnd r (λ y. y ≡ of_refusal e)
    → Gives {A = Unit {0}} (Err e) (within_source unit input) → after ≡ before
    → SourcesBy state state unit input r before after
stops_before state unit input (Ok text) e before after is gives same = absurd is
stops_before state unit input (Err y) e before after is gives same =
    subst (λ (f : MemberFault). SourcesBy state state unit input (Err f) before after) (sym is)
    (by_refusal state unit input e before after gives same)

-- in the use
pub stops_within : (old new : ToolState) (unit input : List ℕ) (before after : Option Files)
    (r : Result (List ℕ) MemberFault) (f : DeriveFault) → IsErrAnd r (λ y. y ≡ of_deriving f)
    → within_source unit input ≡ Ok tt → DerivesBy old new unit input (Err f) before after
    → SourcesBy old new unit input r before after
stops_within old new unit input before after (Ok text) f is small by = absurd is
stops_within old new unit input before after (Err y) f is small by =
    subst (λ (x : MemberFault). SourcesBy old new unit input (Err x) before after) (sym is)
    (fails old new unit input before after f small by)

-- after the use
after_refusal : (old new : ToolState) (unit input : List ℕ) (before after : Option Files) (text : List ℕ) (e : Fault)
    → within_source unit input ≡ Ok tt → DerivesBy old new unit input (Ok text) before after
    → Gives {A = Unit {0}} (Err e) (within_source unit text)
    → SourcesBy old new unit input (Err (of_refusal e)) before after
after_refusal old new unit input before after text (refusal.Diag diag) small by gives =
    refuses_text old new unit input before after text small by diag gives
after_refusal old new unit input before after text refusal.NoMemory small by gives =
    forgets_text old new unit input before after text small by

pub stops_after : (old new : ToolState) (unit input : List ℕ) (before after : Option Files) (text : List ℕ)
    (r : Result (List ℕ) MemberFault) (e : Fault) → IsErrAnd r (λ y. y ≡ of_refusal e)
    → within_source unit input ≡ Ok tt → DerivesBy old new unit input (Ok text) before after
    → Gives {A = Unit {0}} (Err e) (within_source unit text) → SourcesBy old new unit input r before after
stops_after old new unit input before after text (Ok given) e is small by gives = absurd is
stops_after old new unit input before after text (Err y) e is small by gives =
    subst (λ (f : MemberFault). SourcesBy old new unit input (Err f) before after) (sym is)
    (after_refusal old new unit input before after text e small by gives)
