-- What is done with tools, one piece behind the other.
use Rattle.std.proofs.Common.{◌≡◌, ◌≢◌, ap, sym, subst, refl, true, false, ℕ, List, [], ◌++◌, Option, Some}
use Rattle.cm_base.specs.Definitions.{Definitions}
use Rattle.cm_base.specs.Derived.{ToolRules}
use Rattle.cm_base.specs.Files.{Files}
use Rattle.cm_bytes.specs.Hashes.{HashesApart}
use Rattle.bin_store.specs.GoodStore.{IsGoodStore}
use Rattle.tool_deriving.specs.Deriving.{ToolState}
use Rattle.group_loader.specs.Loading.{Tends}
use Rattle.group_loader.proofs.Ending.{tends_as, tends_rests, tends_then}
use Rattle.command_parts.specs.Answers.{Prints}
use Rattle.command_parts.specs.Headline.{IsPlain}
use Rattle.command_parts.specs.InTurn.{at_end}
use Rattle.command_parts.specs.Lines.{status_line}
use Rattle.command_parts.specs.Meaning as plain
use Rattle.command_parts.specs.Performing.{State, is_plain, state_of}
use Rattle.command_parts.specs.Performing as did
use Rattle.command_parts.specs.declared.status.Status.{Status}
use Rattle.command_parts.specs.declared.status.Status.TheVariants as status
use Rattle.command_parts.proofs.Pieces.{apart_left, end_performs, first_performs, performs_alike, second, then_performs}
use Rattle.command_parts.proofs.Steps.{fault_performs, line_performs, plain_is}
use Rattle.cm_top.specs.Headline.{Ran}
use Rattle.cm_top.specs.Meaning.{Meaning, then_command, without_tools}
use Rattle.cm_top.specs.Performing.{Does, Performs, Stage, rules_among}
use Rattle.cm_top.specs.Sessions.{reported}
use Rattle.cm_top.proofs.Counts.{ok_is_no_tool, printed_no_tool, ran_all, ran_first, ran_none, ran_plain, ran_then, rules_stay}

-- what is left of a meaning without its tools
abbrev pub effects : (Files → Meaning) → Files → plain.Meaning
effects a files = (a files).effect

abbrev pub stage : State → List ToolState → Stage
stage state tools = record { state = state; tools = tools }

-- ---- one and then another

module _ (by : Definitions) (d1 m1 d2 m2 : Files → Meaning) (end : Status) (s0 s1 s2 : Stage)
    (one : Does by d1 m1 status.Ok s0 s1) (two : Does by d2 m2 end s1 s2) where
  abbrev both : (Files → Meaning) → (Files → Meaning) → Files → Meaning
  both a b files = then_command (a files) (b (a files).effect.files)

  pub then_does : Does by (both d1 d2) (both m1 m2) end s0 s2
  then_does = record {
    effect = then_performs by (effects d1) (effects m1) (effects d2) (effects m2) end s0.state s1.state s2.state
        one.effect two.effect;
    tools = tends_then s0.tools s1.tools s2.tools one.tools two.tools;
    runs = λ files is.
        ran_then (d1 files).runs (d2 (d1 files).effect.files).runs s0.tools s1.tools s2.tools (one.runs files is) end
        (two.runs (d1 files).effect.files (one.effect.leaves files is tt).does);
    promise = λ files is known apart good.
        let next = second by (effects d1) (effects m1) (effects d2) (effects m2) end s0.state s1.state s2.state
        one.effect two.effect known files is apart good in
        ran_then (m1 files).runs (m2 (m1 files).effect.files).runs s0.tools s1.tools s2.tools
        (one.promise files is known next.left good) end
        (two.promise (m1 files).effect.files next.holds (known ++ (m1 files).effect.interfaces) next.apart next.good);
  }

-- .. where the first was cut off
module _ (by : Definitions) (d1 m1 d2 m2 : Files → Meaning) (end : Status) (s0 s1 : Stage)
    (fault : IsPlain end → ⊥) (one : Does by d1 m1 end s0 s1) where
  pub first_does : Does by (λ files. then_command (d1 files) (d2 (d1 files).effect.files))
      (λ files. then_command (m1 files) (m2 (m1 files).effect.files)) end s0 s1
  first_does = record {
    effect = first_performs by (effects d1) (effects m1) (effects d2) (effects m2) end s0.state s1.state fault one.effect;
    tools = one.tools;
    runs = λ files is.
        ran_first end fault (d1 files).runs (d2 (d1 files).effect.files).runs s0.tools s1.tools (one.runs files is);
    promise = λ files is known apart good.
        ran_first end fault (m1 files).runs (m2 (m1 files).effect.files).runs s0.tools s1.tools
        (one.promise files is known
        (apart_left known (m1 files).effect.interfaces (m2 (m1 files).effect.files).effect.interfaces apart) good);
  }

-- what does the same over the files that there are, and means the same where their store is good
module _ (by : Definitions) (d m d' m' : Files → Meaning) (end : Status) (s0 s1 : Stage)
    (ds : (files : Files) → s0.state.holds ≡ Some files → d files ≡ d' files)
    (ms : (files : Files) → s0.state.holds ≡ Some files → (known : List (List ℕ))
    → HashesApart (known ++ (m' files).effect.interfaces) → IsGoodStore by known files → m files ≡ m' files)
    (one : Does by d m end s0 s1) where
  pub does_alike : Does by d' m' end s0 s1
  does_alike = record {
    effect = performs_alike by (effects d) (effects m) (effects d') (effects m') end s0.state s1.state
        (λ files is. ap (λ (a : Meaning). a.effect) (ds files is))
        (λ files is known apart good. ap (λ (a : Meaning). a.effect) (ms files is known apart good)) one.effect;
    tools = one.tools;
    runs = λ files is.
        subst (λ (a : Meaning). Ran end a.runs s0.tools s1.tools) (ds files is) (one.runs files is);
    promise = λ files is known apart good.
        let same : m files ≡ m' files = ms files is known apart good in
        subst (λ (a : Meaning). Ran end a.runs s0.tools s1.tools) same
        (one.promise files is known
        (subst (λ (a : Meaning). HashesApart (known ++ a.effect.interfaces)) (sym same) apart) good);
  }

-- what means the same, over the files that there are
pub does_same : (by : Definitions) (d m d' m' : Files → Meaning) (end : Status) (s0 s1 : Stage)
    → ((files : Files) → s0.state.holds ≡ Some files → d files ≡ d' files)
    → ((files : Files) → s0.state.holds ≡ Some files → m files ≡ m' files)
    → Does by d m end s0 s1 → Does by d' m' end s0 s1
does_same by d m d' m' end s0 s1 ds ms one =
    does_alike by d m d' m' end s0 s1 ds (λ files is known apart good. ms files is) one

-- ---- with the classes and rules of the box

-- the same by the rules of an earlier box
pub by_rules_of : (by : Definitions) (doing meant : ToolRules → Files → Meaning) (end : Status)
    (s s0 s1 : Stage) → rules_among s0.tools ≡ rules_among s.tools → Performs by doing meant end s0 s1
    → Does by (doing (rules_among s.tools)) (meant (rules_among s.tools)) end s0 s1
by_rules_of by doing meant end s s0 s1 same one =
    subst (λ (rules : ToolRules). Does by (doing rules) (meant rules) end s0 s1) same one

abbrev pub both_by : (ToolRules → Files → Meaning) → (ToolRules → Files → Meaning) → ToolRules → Files → Meaning
both_by a b rules files = then_command (a rules files) (b rules (a rules files).effect.files)

pub then_performs_by : (by : Definitions) (d1 m1 d2 m2 : ToolRules → Files → Meaning) (end : Status) (s0 s1 s2 : Stage)
    → Performs by d1 m1 status.Ok s0 s1 → Performs by d2 m2 end s1 s2
    → Performs by (both_by d1 d2) (both_by m1 m2) end s0 s2
then_performs_by by d1 m1 d2 m2 end s0 s1 s2 one two =
    let rules = rules_among s0.tools in
    then_does by (d1 rules) (m1 rules) (d2 rules) (m2 rules) end s0 s1 s2 one
    (by_rules_of by d2 m2 end s0 s1 s2 (rules_stay s0.tools s1.tools one.tools) two)

-- ---- what uses no tool

pub lift_does : (by : Definitions) (d m : Files → plain.Meaning) (end : Status) (s0 s1 : State) (tools : List ToolState)
    → end ≢ status.ToolFault → did.Performs by d m end s0 s1
    → Does by (λ files. without_tools (d files)) (λ files. without_tools (m files)) end (stage s0 tools) (stage s1 tools)
lift_does by d m end s0 s1 tools other one = record {
  effect = one;
  tools = tends_rests tools other;
  runs = λ files is. ran_all end [] tools tools refl;
  promise = λ files is known apart good. ran_all end [] tools tools refl;
}

-- nothing was done at all
pub still_does : (by : Definitions) (d m : Files → Meaning) (end : Status) (s0 s1 : State) (tools : List ToolState)
    → end ≢ status.ToolFault → (IsPlain end → ⊥) → did.Performs by (effects d) (effects m) end s0 s1
    → Does by d m end (stage s0 tools) (stage s1 tools)
still_does by d m end s0 s1 tools other fault one = record {
  effect = one;
  tools = tends_rests tools other;
  runs = λ files is. ran_none end fault (d files).runs tools;
  promise = λ files is known apart good. ran_none end fault (m files).runs tools;
}

pub end_does : (by : Definitions) (s : Stage)
    → Does by (λ files. without_tools (at_end files)) (λ files. without_tools (at_end files)) status.Ok s s
end_does by s = lift_does by at_end at_end status.Ok s.state s.state s.tools ok_is_no_tool (end_performs by s.state)

-- ---- commands within a session

pub line_does : (by : Definitions) (d m : Files → Meaning) (end result : Status) (s0 s1 : Stage) (new : Option (List ℕ))
    → is_plain end ≡ true → Does by d m end s0 s1 → Prints result status.Ok s1.state.written new (status_line end)
    → Does by (λ files. reported (d files)) (λ files. reported (m files)) result s0
    (stage (state_of new s1.state.holds s1.state.asked s1.state.skeletons) s1.tools)
line_does by d m end result s0 s1 new plain one prints = record {
  effect = line_performs by (effects d) (effects m) end result s0.state s1.state new plain one.effect prints;
  tools = tends_as s0.tools s1.tools one.tools
      (λ failed. absurd (printed_no_tool result status.Ok s1.state.written new (status_line end) prints failed));
  runs = λ files is.
      ran_all result (d files).runs s0.tools s1.tools
      (ran_plain end (plain_is end plain) (d files).runs s0.tools s1.tools (one.runs files is));
  promise = λ files is known apart good.
      ran_all result (m files).runs s0.tools s1.tools
      (ran_plain end (plain_is end plain) (m files).runs s0.tools s1.tools (one.promise files is known apart good));
}

pub fault_does : (by : Definitions) (d m : Files → Meaning) (end : Status) (s0 s1 : Stage) → is_plain end ≡ false
    → Does by d m end s0 s1 → Does by (λ files. reported (d files)) (λ files. reported (m files)) end s0 s1
fault_does by d m end s0 s1 fault one = record {
  effect = fault_performs by (effects d) (effects m) end s0.state s1.state fault one.effect;
  tools = one.tools;
  runs = one.runs;
  promise = one.promise;
}

-- what is done of a folder that tells its files; tools are blamed as they are of any
pub does_told : {F : Type 0} (by : Definitions) (d m : Files → Meaning) (end : Status) (s0 s1 : Stage)
    → Tends F s0.tools s1.tools → (end ≡ status.ToolFault → F)
    → ((files : Files) → s0.state.holds ≡ Some files → Does by d m end s0 s1) → Does by d m end s0 s1
does_told by d m end s0 s1 tends blamed told = record {
  effect = record {
    does = λ files is. (told files is).effect.does files is;
    promise = λ files is. (told files is).effect.promise files is;
    frame = λ files is. (told files is).effect.frame files is;
    outside = λ files is. (told files is).effect.outside files is;
    stays = λ files is. (told files is).effect.stays files is;
    leaves = λ files is. (told files is).effect.leaves files is;
  };
  tools = tends_as s0.tools s1.tools tends blamed;
  runs = λ files is. (told files is).runs files is;
  promise = λ files is. (told files is).promise files is;
}
