-- The rule of a class, among the tools of a box.
use Rattle.std.proofs.Common.{◌≡◌, ◌≢◌, ◌∙◌, ap, sym, refl, ℕ, zero, suc, Bool, true, false, not, cond, List, [], ◌∷◌, take, Option, Some, None}
use Rattle.std.specs.Prelude.{nat_eq, slice_get, MatchOption}
use Rattle.std.specs.Cmp.Lexicographic.{pointwise, nat_list_eq_equiv, same_text}
use Rattle.std.proofs.lemmas.List.Elements.{All-head, All-tail}
use Rattle.cm_base.specs.Derived.{ToolRules}
use Rattle.tool_deriving.specs.Toolboxes.{is_built_in, rules_of, NoneHas, IsPlaceOf}
use Rattle.member_deriving.specs.Classes.{rule_named, IsToolOf}
use Rattle.member_deriving.specs.Laws.{BuiltInHaveNoTool}

-- texts that differ don't pass the test
differ : (a b : List ℕ) → a ≢ b → pointwise nat_eq a b ≡ false
differ a b apart = by_test (pointwise nat_eq a b) refl
  where
    by_test : (t : Bool) → pointwise nat_eq a b ≡ t → t ≡ false
    by_test true e = absurd (apart (same_text a b (sym e)))
    by_test false e = refl

same : (a b : List ℕ) → a ≡ b → pointwise nat_eq a b ≡ true
same a b e = ap (pointwise nat_eq a) (sym e) ∙ nat_list_eq_equiv.refl a

module _ {A : Type 0} (class_of rule_of : A → List ℕ) where
  -- the rules of a box with one tool more at its front
  abbrev with_front : Bool → A → List A → ToolRules
  with_front test tool tools =
      cond test ((class_of tool, rule_of tool) ∷ rules_of class_of rule_of tools) (rules_of class_of rule_of tools)

  -- a front tool of another class
  passed_over : (b : Bool) (tool : A) (tools : List A) (class : List ℕ) → class_of tool ≢ class
      → rule_named (with_front b tool tools) class ≡ rule_named (rules_of class_of rule_of tools) class
  passed_over true tool tools class apart = rw (differ (class_of tool) class apart) refl
  passed_over false tool tools class apart = refl

  -- a class that isn't built in, of the front tool
  taken : (b : Bool) (tool : A) (tools : List A) (class : List ℕ) → b ≡ true → class_of tool ≡ class
      → rule_named (with_front b tool tools) class ≡ Some (rule_of tool)
  taken true tool tools class plain has = rw (same (class_of tool) class has) refl
  taken false tool tools class plain has = absurd cc

  -- a built-in class is in no rules
  built_in_front : (b : Bool) (tool : A) (tools : List A) (class : List ℕ) → not (is_built_in (class_of tool)) ≡ b
      → is_built_in class ≡ true → rule_named (rules_of class_of rule_of tools) class ≡ None
      → rule_named (with_front b tool tools) class ≡ None
  built_in_front false tool tools class e built rest = rest
  built_in_front true tool tools class e built rest =
      passed_over true tool tools class
      (λ is. absurd (cc (e, ap (λ (c : List ℕ). not (is_built_in c)) is, ap not built))) ∙ rest

  pub built_in_none : (tools : List A) (class : List ℕ) → is_built_in class ≡ true
      → rule_named (rules_of class_of rule_of tools) class ≡ None
  built_in_none [] class built = refl
  built_in_none (tool ∷ tools) class built =
      built_in_front (not (is_built_in (class_of tool))) tool tools class refl built (built_in_none tools class built)

  -- a class that no tool has
  pub none_named : (tools : List A) (class : List ℕ) → NoneHas class_of class tools
      → rule_named (rules_of class_of rule_of tools) class ≡ None
  none_named [] class none = refl
  none_named (tool ∷ tools) class none =
      passed_over (not (is_built_in (class_of tool))) tool tools class
      (All-head (λ one. class_of one ≢ class) tool tools none)
      ∙ none_named tools class (All-tail (λ one. class_of one ≢ class) tool tools none)

  -- the class of the tool of a place
  named_at : (tools : List A) (at : ℕ) (one : A) (class : List ℕ) → is_built_in class ≡ false
      → slice_get tools at ≡ Some one → class_of one ≡ class → NoneHas class_of class (take at tools)
      → rule_named (rules_of class_of rule_of tools) class ≡ Some (rule_of one)
  named_at [] at one class plain there has first = absurd cc
  named_at (tool ∷ tools) zero one class plain there has first =
      let is : tool ≡ one = cc in
      let of : class_of tool ≡ class = ap class_of is ∙ has in
      taken (not (is_built_in (class_of tool))) tool tools class
      (ap (λ (c : List ℕ). not (is_built_in c)) of ∙ ap not plain) of
      ∙ ap (λ (t : A). Some (rule_of t)) is
  named_at (tool ∷ tools) (suc at) one class plain there has first =
      passed_over (not (is_built_in (class_of tool))) tool tools class
      (All-head (λ one. class_of one ≢ class) tool (take at tools) first)
      ∙ named_at tools at one class plain there has (All-tail (λ one. class_of one ≢ class) tool (take at tools) first)

  -- .. so it is the one that members of the class use
  pub tool_of : (tools : List A) (at : ℕ) (class : List ℕ) → is_built_in class ≡ false
      → IsPlaceOf class_of class tools at → IsToolOf class_of rule_of class tools at
  tool_of tools at class plain place = record {
    place = place;
    named = named_at tools at place.tool class plain place.there place.has place.first;
  }

  -- what is found in the box
  pub found_tool : (tools : List A) (class : List ℕ) (found : Option ℕ) → is_built_in class ≡ false
      → MatchOption found (NoneHas class_of class tools) (IsPlaceOf class_of class tools)
      → MatchOption found (rule_named (rules_of class_of rule_of tools) class ≡ None) (IsToolOf class_of rule_of class tools)
  found_tool tools class None plain none = none_named tools class none
  found_tool tools class (Some at) plain place = tool_of tools at class plain place

pub built_in_have_none : BuiltInHaveNoTool
built_in_have_none tools class built = built_in_none (λ tool. tool.class) (λ tool. tool.rule) tools class built
