-- How often tools ran, in one piece and then another.
use Rattle.std.proofs.Common.{◌≡◌, ◌≢◌, ap, refl, ℕ, List, [], ◌++◌, Option}
use Rattle.std.specs.Prelude.{not, filter}
use Rattle.tool_deriving.specs.Deriving.{ToolState, ToolUse}
use Rattle.tool_deriving.specs.Toolboxes.{is_built_in, rules_of}
use Rattle.use_laws.specs.Left.{RanFor, RanUpTo}
use Rattle.use_laws.proofs.Turns.{both_ran, front_more, front_ran, up_to_all}
use Rattle.group_loader.specs.Loading.{Tends, states_by}
use Rattle.group_loader.proofs.MemberSteps.{fused}
use Rattle.command_parts.specs.Answers.{Prints}
use Rattle.command_parts.specs.Headline.{IsPlain}
use Rattle.command_parts.specs.declared.status.Status.{Status}
use Rattle.command_parts.specs.declared.status.Status.TheVariants as status
use Rattle.cm_top.specs.Headline.{Ran}
use Rattle.cm_top.specs.Performing.{rules_among}

-- ---- runs

-- tools that ran for all uses, however the command ended
pub ran_all : (end : Status) (runs : List ToolUse) (old new : List ToolState) → RanFor runs old new → Ran end runs old new
ran_all status.Ok runs old new is = is
ran_all status.Diagnostic runs old new is = is
ran_all status.Usage runs old new is = is
ran_all status.FolderFault runs old new is = up_to_all runs old new is
ran_all status.SinkFault runs old new is = up_to_all runs old new is
ran_all status.NoMemory runs old new is = up_to_all runs old new is
ran_all status.ToolFault runs old new is = up_to_all runs old new is

-- a command without a fault ran them for all
pub ran_plain : (end : Status) → IsPlain end → (runs : List ToolUse) (old new : List ToolState) → Ran end runs old new
    → RanFor runs old new
ran_plain status.Ok plain runs old new is = is
ran_plain status.Diagnostic plain runs old new is = is
ran_plain status.Usage plain runs old new is = is
ran_plain status.FolderFault plain runs old new is = absurd plain
ran_plain status.SinkFault plain runs old new is = absurd plain
ran_plain status.NoMemory plain runs old new is = absurd plain
ran_plain status.ToolFault plain runs old new is = absurd plain

-- one that was cut off ran them for a front
pub ran_front : (end : Status) → (IsPlain end → ⊥) → (runs : List ToolUse) (old new : List ToolState)
    → RanUpTo runs old new → Ran end runs old new
ran_front status.Ok fault runs old new is = absurd (fault tt)
ran_front status.Diagnostic fault runs old new is = absurd (fault tt)
ran_front status.Usage fault runs old new is = absurd (fault tt)
ran_front status.FolderFault fault runs old new is = is
ran_front status.SinkFault fault runs old new is = is
ran_front status.NoMemory fault runs old new is = is
ran_front status.ToolFault fault runs old new is = is

fault_front : (end : Status) → (IsPlain end → ⊥) → (runs : List ToolUse) (old new : List ToolState)
    → Ran end runs old new → RanUpTo runs old new
fault_front status.Ok fault runs old new is = absurd (fault tt)
fault_front status.Diagnostic fault runs old new is = absurd (fault tt)
fault_front status.Usage fault runs old new is = absurd (fault tt)
fault_front status.FolderFault fault runs old new is = is
fault_front status.SinkFault fault runs old new is = is
fault_front status.NoMemory fault runs old new is = is
fault_front status.ToolFault fault runs old new is = is

-- where none ran
pub ran_none : (end : Status) → (IsPlain end → ⊥) → (runs : List ToolUse) (tools : List ToolState)
    → Ran end runs tools tools
ran_none end fault runs tools =
    ran_front end fault runs tools tools (record { front = []; rest = runs; all = refl; ran = refl })

-- ---- in turn

module _ (first more : List ToolUse) (a b c : List ToolState) (one : RanFor first a b) where
  pub ran_then : (end : Status) → Ran end more b c → Ran end (first ++ more) a c
  ran_then status.Ok two = both_ran first more a b c one two
  ran_then status.Diagnostic two = both_ran first more a b c one two
  ran_then status.Usage two = both_ran first more a b c one two
  ran_then status.FolderFault two = front_ran first more a b c one two
  ran_then status.SinkFault two = front_ran first more a b c one two
  ran_then status.NoMemory two = front_ran first more a b c one two
  ran_then status.ToolFault two = front_ran first more a b c one two

-- .. where the first was cut off
pub ran_first : (end : Status) → (IsPlain end → ⊥) → (first more : List ToolUse) (old new : List ToolState)
    → Ran end first old new → Ran end (first ++ more) old new
ran_first end fault first more old new one =
    ran_front end fault (first ++ more) old new
    (front_more first more old new (fault_front end fault first old new one))

-- ---- boxes

-- classes and rules are as they were
pub rules_stay : {F : Type 0} (old new : List ToolState) → Tends F old new → rules_among new ≡ rules_among old
rules_stay old new tends =
    ap (λ (both : List (List ℕ × List ℕ)). filter (λ (tool : List ℕ × List ℕ). not (is_built_in tool.0)) both) tends.rules

-- .. of a box as calls tell them
pub box_rules : {A : Type 0} (class_of rule_of : A → List ℕ) (ran_of faults_of : A → ℕ) (tools : List A)
    → rules_among (states_by class_of rule_of ran_of faults_of tools) ≡ rules_of class_of rule_of tools
box_rules class_of rule_of ran_of faults_of tools =
    ap (λ (both : List (List ℕ × List ℕ)). filter (λ (tool : List ℕ × List ℕ). not (is_built_in tool.0)) both)
    (fused class_of rule_of ran_of faults_of tools)

-- ---- statuses

pub ok_is_no_tool : status.Ok ≢ status.ToolFault
ok_is_no_tool e = cc

-- printing blames no tool
pub printed_no_tool : (result plain : Status) (old new : Option (List ℕ)) (text : List ℕ)
    → Prints result plain old new text → result ≢ status.ToolFault
printed_no_tool status.Ok plain old new text prints e = cc
printed_no_tool status.Diagnostic plain old new text prints e = cc
printed_no_tool status.Usage plain old new text prints e = cc
printed_no_tool status.FolderFault plain old new text prints e = cc
printed_no_tool status.SinkFault plain old new text prints e = cc
printed_no_tool status.NoMemory plain old new text prints e = cc
printed_no_tool status.ToolFault plain old new text prints e = prints
