-- A call of the program, by the classes and rules of its box; and completeness.
use Rattle.std.proofs.Common.{◌≡◌, ◌∙◌, ap, sym, subst, refl, inl, inr, ℕ, zero, suc, List, [], ◌∷◌, Some}
use Rattle.std.specs.Prelude.{slice_get}
use Rattle.cm_base.specs.Causes.{Rose}
use Rattle.cm_base.specs.Definitions.{Definitions}
use Rattle.cm_base.specs.Derived.{ToolRules}
use Rattle.cm_base.specs.Files.{Files}
use Rattle.command_words.specs.Words.{call_of}
use Rattle.tool_deriving.specs.Deriving.{ToolState, tool_state}
use Rattle.group_loader.specs.Loading.{Failed, states_by}
use Rattle.command_parts.specs.Headline.{Run}
use Rattle.command_parts.specs.declared.status.Status.{Status}
use Rattle.command_parts.specs.declared.status.Status.TheVariants as status
use Rattle.command_parts.proofs.Ending.{never_rose}
use Rattle.cm_top.specs.Headline.{Completes, IsAsPromised}
use Rattle.cm_top.specs.Meaning.{Meaning}
use Rattle.cm_top.specs.Performing.{Does, Performs, Stage, rules_among}
use Rattle.cm_top.specs.Sessions.{doing_of_call, meaning_of_call, of_call}
use Rattle.cm_top.specs.Ways.{plain_way, store_way}

pub by_box : (by : Definitions) (words : List (List ℕ)) (end : Status) (s0 s1 : Stage) (rules : ToolRules)
    → rules_among s0.tools ≡ rules
    → Performs by (λ r files. of_call (store_way by r) files (call_of words))
    (λ r files. of_call (plain_way by r) files (call_of words)) end s0 s1
    → Does by (doing_of_call by rules words) (meaning_of_call by rules words) end s0 s1
by_box by words end s0 s1 rules same one =
    subst (λ (r : ToolRules). Does by (doing_of_call by r words) (meaning_of_call by r words) end s0 s1) same one

-- ---- completeness

module _ (by : Definitions) (files : Files) (m : Meaning) where
  pub completes : (end : Status) (run : Run) (old new : List ToolState) (folder_failed sink_failed tool_failed : Type 0)
      → (end ≡ status.FolderFault → folder_failed) → (end ≡ status.SinkFault → sink_failed)
      → (end ≡ status.ToolFault → tool_failed) → IsAsPromised by files m end run old new
      → Completes by files m end folder_failed sink_failed tool_failed
  completes status.Ok run old new P Q R f s t promise =
      λ nf ns nt known apart good. inl (promise.ends known apart good).status
  completes status.Diagnostic run old new P Q R f s t promise =
      λ nf ns nt known apart good. inl (promise.ends known apart good).status
  completes status.Usage run old new P Q R f s t promise =
      λ nf ns nt known apart good. inl (promise.ends known apart good).status
  completes status.FolderFault run old new P Q R f s t promise = λ nf ns nt known apart good. absurd (nf (f refl))
  completes status.SinkFault run old new P Q R f s t promise = λ nf ns nt known apart good. absurd (ns (s refl))
  completes status.NoMemory run old new P Q R f s t promise = λ nf ns nt known apart good. inr refl
  completes status.ToolFault run old new P Q R f s t promise = λ nf ns nt known apart good. absurd (nt (t refl))

-- tools whose counts of faults are always 0 never fail
module _ {A : Type 0} (class_of rule_of : A → List ℕ) (ran_of faults_of : A → ℕ)
    (sure : (tool : A) → faults_of tool ≡ zero) where
  abbrev states_of : A → ToolState
  states_of tool = tool_state (class_of tool) (rule_of tool) (ran_of tool) (faults_of tool)

  no_faults : (tools : List A) (at : ℕ) (x : ToolState)
      → slice_get (states_by class_of rule_of ran_of faults_of tools) at ≡ Some x → x.faults ≡ zero
  no_faults [] at x there = absurd cc
  no_faults (tool ∷ tools) zero x there =
      let is : states_of tool ≡ x = cc (there) in sym (ap (λ (t : ToolState). t.faults) is) ∙ sure tool
  no_faults (tool ∷ tools) (suc at) x there = no_faults tools at x there

pub never_failed : {A : Type 0} (class_of rule_of : A → List ℕ) (ran_of faults_of : A → ℕ) (old new : List A)
    → ((tool : A) → faults_of tool ≡ zero)
    → Failed (states_by class_of rule_of ran_of faults_of old) (states_by class_of rule_of ran_of faults_of new) → ⊥
never_failed class_of rule_of ran_of faults_of old new sure failed =
    never_rose
    (subst (λ (n : ℕ). Rose n 0) (no_faults class_of rule_of ran_of faults_of sure old failed.at failed.before failed.was)
    (subst (λ (n : ℕ). Rose failed.before.faults n)
    (no_faults class_of rule_of ran_of faults_of sure new failed.at failed.after failed.is) failed.rose))
