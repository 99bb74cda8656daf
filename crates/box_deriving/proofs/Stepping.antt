-- A member's use of a tool as the next step of a loading.
use Rattle.std.proofs.Common.{◌≡◌, ◌∙◌, ◌⊎◌, ap, ap₂, sym, subst, refl, inl, inr, ℕ, zero, suc, Bool, true, false, cond, List, [], ◌∷◌, ◌++◌, length, map, set, Option, Some, Result, Ok, Err, arith}
use Rattle.std.specs.Prelude.{slice_get}
use Rattle.cm_base.specs.Causes.{one_more}
use Rattle.cm_base.specs.Files.{Files, Told}
use Rattle.cm_base.specs.Keeping.{Touches}
use Rattle.cm_base.specs.declared.diag.Diag.{Diag}
use Rattle.bin_formats.specs.Format.{IsRecord, record_file}
use Rattle.bin_store.specs.Paths.{tool_path}
use Rattle.tool_deriving.specs.Deriving.{ToolState, ToolUse, tool_use, record_of_use, uses, after_use, use_by}
use Rattle.tool_deriving.specs.Toolboxes.{OfOne, rules_of}
use Rattle.member_deriving.specs.Classes.{IsToolOf, rule_named}
use Rattle.member_deriving.specs.Sources.{IsGiven, LeavesMember, OnGiven, SourcesBy, source_by, texts_over_stores, used_within, within_source}
use Rattle.member_deriving.specs.Uses.{Work, after_uses, ran_more, runs_of, with_use, work_of}
use Rattle.member_deriving.specs.declared.fault.MemberFault.{MemberFault}
use Rattle.member_deriving.specs.declared.fault.MemberFault.TheVariants as fault
use Rattle.member_deriving.proofs.Uses.{in_turn, leave_in_turn}
use Rattle.box_deriving.specs.Boxes.{Counts, CutOff, InStep, OnFault, Origin, StepsOn, Tends, Went, after_runs, counts_of, one_run, world_of, rules_in}
use Rattle.box_deriving.proofs.Places.{get_set, get_state, one_more_run, same_counts, same_rules, set_state, set_there}

-- ---- answers

on_both : (r : Result (List ℕ) MemberFault) (P Q R : Type 0) → (P → Q → R) → OnGiven r P → OnGiven r Q → OnGiven r R
on_both (Ok text) P Q R both p q = both p q
on_both (Err (fault.Diag diag)) P Q R both p q = both p q
on_both (Err fault.Folder) P Q R both p q = tt
on_both (Err fault.Tool) P Q R both p q = tt
on_both (Err fault.NoMemory) P Q R both p q = tt

on_given : (r : Result (List ℕ) MemberFault) (P : Type 0) → P → OnGiven r P
on_given (Ok text) P p = p
on_given (Err (fault.Diag diag)) P p = p
on_given (Err fault.Folder) P p = tt
on_given (Err fault.Tool) P p = tt
on_given (Err fault.NoMemory) P p = tt

on_fault : (r : Result (List ℕ) MemberFault) (P : Type 0) → P → OnFault r P
on_fault (Ok text) P p = tt
on_fault (Err (fault.Diag diag)) P p = tt
on_fault (Err fault.Folder) P p = p
on_fault (Err fault.Tool) P p = p
on_fault (Err fault.NoMemory) P p = p

-- ---- counts

pub runs_behind : (first more : List ToolUse) (counts : Counts)
    → after_runs (first ++ more) counts ≡ after_runs more (after_runs first counts)
runs_behind [] more counts = refl
runs_behind (job ∷ first) more counts = runs_behind first more (one_run job.class counts)

nothing_behind : (jobs : List ToolUse) → jobs ≡ jobs ++ []
nothing_behind [] = refl
nothing_behind (job ∷ jobs) = ap (λ (more : List ToolUse). job ∷ more) (nothing_behind jobs)

-- ---- the step

module _ (origin : Origin) (work : Work) (job : ToolUse) (r : Result (List ℕ) MemberFault) (old new : List ToolState)
    (before after : Option Files) (ran now : ℕ)
    (here : InStep origin work (world_of before old))
    (rules : rules_in new ≡ rules_in old)
    (stays : now ≡ ran → counts_of new ≡ counts_of old)
    (once : now ≡ one_more ran → counts_of new ≡ one_run job.class (counts_of old))
    (leaves : LeavesMember job r before after ran now) where
  -- the work so far, by its uses alone
  by_uses : InStep origin work (world_of after new)
      → InStep origin (work_of (after_uses origin.files work.uses) work.uses) (world_of after new)
  by_uses step = record {
    holds = step.holds ∙ ap (λ (f : Files). Some f) step.made;
    made = refl;
    ran = step.ran;
    rules = step.rules;
  }

  -- nothing changed
  rested : (now ≡ ran) × (after ≡ before) → InStep origin work (world_of after new)
  rested is = record {
    holds = is.1 ∙ here.holds;
    made = here.made;
    ran = stays is.0 ∙ here.ran;
    rules = rules ∙ here.rules;
  }

  refuses : (diag : Diag)
      → Told before (λ files. IsGiven r (used_within (Err diag) texts_over_stores job (work_of files [])).result)
      → Told before (λ files. runs_of files (used_within (Err diag) texts_over_stores job (work_of files [])).work.uses ≡ []
      → (now ≡ ran) × (after ≡ before))
      → StepsOn origin work (used_within (Err diag) texts_over_stores job work) r (world_of after new)
  refuses diag gives rests =
      let step = rested (rests work.files here.holds refl) in
      record {
        gives = gives work.files here.holds;
        leads = on_given r (InStep origin work (world_of after new)) step;
        cut = on_fault r (CutOff origin work.uses (world_of after new)) (record {
          front = work.uses;
          rest = [];
          all = nothing_behind work.uses;
          reached = by_uses step;
        });
      }

  -- the counts after the use
  counted : (t : Bool) → now ≡ ran_more (length (cond t (job ∷ []) [])) ran
      → counts_of new ≡ after_runs (cond t (job ∷ []) []) (counts_of old)
  counted true is = once is
  counted false is = stays is

  ran_then : now ≡ ran_more (length (runs_of work.files (job ∷ []))) ran
      → counts_of new ≡ after_runs (runs_of origin.files (work.uses ++ job ∷ [])) (counts_of origin.tools)
  ran_then is =
      counted (uses work.files job) is
      ∙ ap₂ (λ (f : Files) (c : Counts). after_runs (runs_of f (job ∷ [])) c) here.made here.ran
      ∙ sym (runs_behind (runs_of origin.files work.uses) (runs_of (after_uses origin.files work.uses) (job ∷ []))
      (counts_of origin.tools))
      ∙ ap (λ (jobs : List ToolUse). after_runs jobs (counts_of origin.tools))
      (sym (in_turn origin.files work.uses (job ∷ [])).run)

  stepped : after ≡ Some (after_use work.files job) → now ≡ ran_more (length (runs_of work.files (job ∷ []))) ran
      → InStep origin (with_use job work) (world_of after new)
  stepped put is = record {
    holds = put;
    made = ap (λ (f : Files). after_use f job) here.made ∙ sym (leave_in_turn origin.files work.uses (job ∷ []));
    ran = ran_then is;
    rules = rules ∙ here.rules;
  }

  -- .. and within it
  started : before ≡ Some (after_uses origin.files work.uses)
  started = here.holds ∙ ap (λ (f : Files). Some f) here.made

  left_so : (after ≡ before) ⊎ Touches before after (tool_path job.unit) (record_file (record_of_use job))
      → (after ≡ Some (after_uses origin.files work.uses))
      ⊎ Touches (Some (after_uses origin.files work.uses)) after (tool_path job.unit) (record_file (record_of_use job))
  left_so left =
      subst (λ (b : Option Files). (after ≡ b) ⊎ Touches b after (tool_path job.unit) (record_file (record_of_use job)))
      started left

  ran_so : (now ≡ ran) ⊎ (now ≡ one_more ran)
      → (counts_of new ≡ after_runs (runs_of origin.files work.uses) (counts_of origin.tools))
      ⊎ (counts_of new ≡ one_run job.class (after_runs (runs_of origin.files work.uses) (counts_of origin.tools)))
  ran_so (inl same) = inl (stays same ∙ here.ran)
  ran_so (inr more) = inr (once more ∙ ap (one_run job.class) here.ran)

  fits_so : (after ≡ before) ⊎ IsRecord (record_of_use job)
      → (after ≡ Some (after_uses origin.files work.uses)) ⊎ IsRecord (record_of_use job)
  fits_so fits =
      subst (λ (b : Option Files). (after ≡ b) ⊎ IsRecord (record_of_use job)) started fits

  -- where it runs no tool, nothing changed
  under_way : ((uses work.files job ≡ false) → (now ≡ ran) × (after ≡ before))
      → CutOff origin (work.uses ++ job ∷ []) (world_of after new)
  under_way rests = by_test (uses work.files job) refl
    where
      by_test : (t : Bool) → uses work.files job ≡ t → CutOff origin (work.uses ++ job ∷ []) (world_of after new)
      by_test true is = record {
        front = work.uses;
        rest = job ∷ [];
        all = refl;
        reached = inr (record {
          leaves = left_so leaves.leaves;
          runs = ap (λ (f : Files). uses f job) (sym here.made) ∙ is;
          fits = fits_so leaves.fits;
          ran = ran_so leaves.once;
        });
      }
      by_test false is =
          record { front = work.uses; rest = job ∷ []; all = refl; reached = inl (by_uses (rested (rests is))) }

  no_run : uses work.files job ≡ false → runs_of work.files (job ∷ []) ≡ []
  no_run is = ap (λ (t : Bool). cond t (job ∷ []) []) is

  used : Told before (λ files. IsGiven r (used_within (Ok tt) texts_over_stores job (work_of files [])).result)
      → Told before (λ files. OnGiven r
      (after ≡ Some (used_within (Ok tt) texts_over_stores job (work_of files [])).work.files))
      → Told before (λ files. OnGiven r
      (now ≡ ran_more (length (runs_of files (used_within (Ok tt) texts_over_stores job (work_of files [])).work.uses)) ran))
      → Told before (λ files. runs_of files (used_within (Ok tt) texts_over_stores job (work_of files [])).work.uses ≡ []
      → (now ≡ ran) × (after ≡ before))
      → StepsOn origin work (used_within (Ok tt) texts_over_stores job work) r (world_of after new)
  used gives puts runs rests = record {
    gives = gives work.files here.holds;
    leads = on_both r (after ≡ Some (after_use work.files job))
        (now ≡ ran_more (length (runs_of work.files (job ∷ []))) ran)
        (InStep origin (with_use job work) (world_of after new)) stepped (puts work.files here.holds)
        (runs work.files here.holds);
    cut = on_fault r (CutOff origin (work.uses ++ job ∷ []) (world_of after new))
        (under_way (λ is. rests work.files here.holds (no_run is)));
  }

  -- whichever it is
  pub steps_by : (w : Result (Unit {0}) Diag)
      → Told before (λ files. IsGiven r (used_within w texts_over_stores job (work_of files [])).result)
      → Told before (λ files. OnGiven r (after ≡ Some (used_within w texts_over_stores job (work_of files [])).work.files))
      → Told before (λ files. OnGiven r
      (now ≡ ran_more (length (runs_of files (used_within w texts_over_stores job (work_of files [])).work.uses)) ran))
      → Told before (λ files. runs_of files (used_within w texts_over_stores job (work_of files [])).work.uses ≡ []
      → (now ≡ ran) × (after ≡ before))
      → StepsOn origin work (used_within w texts_over_stores job work) r (world_of after new)
  steps_by (Err diag) gives puts runs rests = refuses diag gives rests
  steps_by (Ok within) gives puts runs rests = used gives puts runs rests

-- ---- over the tools of a box

stays : (tool : ToolState) → Went tool tool
stays tool = record { runs = zero; ran = refl; faults = omega arith }

module _ {A : Type 0} (state : A → ToolState) (at : ℕ) (old new : List A) (unit input : List ℕ)
    (r : Result (List ℕ) MemberFault) (before after : Option Files)
    (one : OfOne at old new (λ x y. SourcesBy (state x) (state y) unit input r before after)) where
  abbrev found : ToolState
  found = state one.before

  abbrev left : ToolState
  left = state one.after

  there : slice_get (map state old) at ≡ Some found
  there = get_state state at old one.before one.was

  changed : map state new ≡ set (map state old) at left
  changed = ap (map state) one.is ∙ set_state state at old one.after

  rules_stay : rules_in (map state new) ≡ rules_in (map state old)
  rules_stay =
      ap rules_in changed
      ∙ same_rules at (map state old) found left there one.so.class one.so.rule

  went_by : (left.ran ≡ found.ran) ⊎ (left.ran ≡ one_more found.ran) → Went found left
  went_by (inl same) = record { runs = zero; ran = same; faults = one.so.cause.later }
  went_by (inr more) = record { runs = suc zero; ran = more; faults = one.so.cause.later }

  pub tends : Tends r (map state old) (map state new)
  tends = record {
    rules = rules_stay;
    later = λ place x y was is.
        get_set Went stays at place (map state old) found left x y there was
        (ap (λ (tools : List ToolState). slice_get tools place) (sym changed) ∙ is) (went_by one.so.leaves.once);
    blamed = λ failed. record {
      at = at;
      before = found;
      after = left;
      was = there;
      is = ap (λ (tools : List ToolState). slice_get tools at) changed ∙ set_there at (map state old) found left there;
      ran = (one.so.leaves.failed failed).0;
      rose = one.so.cause.rose failed;
    };
  }

  module _ (class rule : List ℕ)
      (tool : IsToolOf (λ t. (state t).class) (λ t. (state t).rule) class old at)
      (named : rule_named (rules_of (λ t. (state t).class) (λ t. (state t).rule) old) class ≡ Some rule) where
    is_it : tool.place.tool ≡ one.before
    is_it = cc (tool.place.there, one.was)

    has_class : found.class ≡ class
    has_class = ap (λ (t : A). (state t).class) (sym is_it) ∙ tool.place.has

    has_rule : found.rule ≡ rule
    has_rule =
        let same : (state tool.place.tool).rule ≡ rule = cc (tool.named, named) in
        ap (λ (t : A). (state t).rule) (sym is_it) ∙ same

    counts_stay : left.ran ≡ found.ran → counts_of (map state new) ≡ counts_of (map state old)
    counts_stay same = ap counts_of changed ∙ same_counts at (map state old) found left there one.so.class same

    counts_go_on : left.ran ≡ one_more found.ran
        → counts_of (map state new) ≡ one_run found.class (counts_of (map state old))
    counts_go_on more =
        ap counts_of changed
        ∙ one_more_run state class at old one.before left one.was has_class tool.place.first one.so.class more
        ∙ ap (λ (c : List ℕ). one_run c (counts_of (map state old))) (sym has_class)

    pub steps : (origin : Origin) (work : Work) → InStep origin work (world_of before (map state old))
        → StepsOn origin work (source_by texts_over_stores (tool_use class rule unit input) work) r
        (world_of after (map state new))
    steps origin work here =
        subst (λ (job : ToolUse). StepsOn origin work (source_by texts_over_stores job work) r (world_of after (map state new)))
        (ap₂ (λ (c k : List ℕ). tool_use c k unit input) has_class has_rule)
        (steps_by origin work (use_by found unit input) r (map state old) (map state new) before after found.ran left.ran
        here rules_stay counts_stay counts_go_on one.so.leaves (within_source unit input)
        one.so.sources.gives one.so.sources.puts one.so.sources.runs one.so.sources.rests)
