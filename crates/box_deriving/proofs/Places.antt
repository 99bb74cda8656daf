-- One tool of a box is changed: the states and the counts of the box.
use Rattle.std.proofs.Common.{◌≡◌, ◌≢◌, ◌∙◌, ap, ap₂, sym, subst, refl, ℕ, zero, suc, ◌<◌, Bool, true, false, List, [], ◌∷◌, length, map, set, take, Some, arith}
use Rattle.std.specs.Prelude.{nat_eq, slice_get}
use Rattle.std.specs.Cmp.Lexicographic.{pointwise, nat_list_eq_equiv, same_text}
use Rattle.std.proofs.lemmas.List.Elements.{All-head, All-tail}
use Rattle.cm_base.specs.Causes.{one_more}
use Rattle.tool_deriving.specs.Deriving.{ToolState}
use Rattle.tool_deriving.specs.Toolboxes.{NoneHas}
use Rattle.box_deriving.specs.Boxes.{Counts, counts_of, one_run, rules_in}

-- a place where something stands is one of the list's
pub within : {A : Type 0} (at : ℕ) (tools : List A) (tool : A) → slice_get tools at ≡ Some tool → at < length tools
within at [] tool there = absurd cc
within zero (one ∷ tools) tool there = omega arith
within (suc at) (one ∷ tools) tool there = omega (arith, within at tools tool there)

module _ {A : Type 0} (state : A → ToolState) where
  pub get_state : (at : ℕ) (tools : List A) (tool : A) → slice_get tools at ≡ Some tool
      → slice_get (map state tools) at ≡ Some (state tool)
  get_state at [] tool there = absurd cc
  get_state zero (one ∷ tools) tool there = let is : one ≡ tool = cc in ap (λ (t : A). Some (state t)) is
  get_state (suc at) (one ∷ tools) tool there = get_state at tools tool there

  pub set_state : (at : ℕ) (tools : List A) (tool : A) → map state (set tools at tool) ≡ set (map state tools) at (state tool)
  set_state at [] tool = refl
  set_state zero (one ∷ tools) tool = refl
  set_state (suc at) (one ∷ tools) tool = ap (λ (more : List ToolState). state one ∷ more) (set_state at tools tool)

-- what stands in a place of a box of which that place was changed
module _ (Related : ToolState → ToolState → Type 0) (same : (tool : ToolState) → Related tool tool) where
  pub get_set : (at place : ℕ) (tools : List ToolState) (before after found now : ToolState)
      → slice_get tools at ≡ Some before → slice_get tools place ≡ Some found
      → slice_get (set tools at after) place ≡ Some now → Related before after → Related found now
  get_set at place [] before after found now there was is so = absurd cc
  get_set zero zero (one ∷ tools) before after found now there was is so =
      let a : before ≡ found = cc in
      let b : after ≡ now = cc in
      subst (λ (t : ToolState). Related t now) a (subst (λ (t : ToolState). Related before t) b so)
  get_set zero (suc place) (one ∷ tools) before after found now there was is so =
      let a : found ≡ now = cc in subst (λ (t : ToolState). Related found t) a (same found)
  get_set (suc at) zero (one ∷ tools) before after found now there was is so =
      let a : found ≡ now = cc in subst (λ (t : ToolState). Related found t) a (same found)
  get_set (suc at) (suc place) (one ∷ tools) before after found now there was is so =
      get_set at place tools before after found now there was is so

pub set_there : (at : ℕ) (tools : List ToolState) (before after : ToolState) → slice_get tools at ≡ Some before
    → slice_get (set tools at after) at ≡ Some after
set_there at [] before after there = absurd cc
set_there zero (one ∷ tools) before after there = refl
set_there (suc at) (one ∷ tools) before after there = set_there at tools before after there

pub same_rules : (at : ℕ) (tools : List ToolState) (before after : ToolState) → slice_get tools at ≡ Some before
    → after.class ≡ before.class → after.rule ≡ before.rule
    → rules_in (set tools at after) ≡ rules_in tools
same_rules at [] before after there class rule = absurd cc
same_rules zero (one ∷ tools) before after there class rule =
    let is : one ≡ before = cc in
    ap₂ (λ (c r : List ℕ). (c, r) ∷ rules_in tools)
    (class ∙ ap (λ (t : ToolState). t.class) (sym is)) (rule ∙ ap (λ (t : ToolState). t.rule) (sym is))
same_rules (suc at) (one ∷ tools) before after there class rule =
    ap (λ (more : List (List ℕ × List ℕ)). (one.class, one.rule) ∷ more) (same_rules at tools before after there class rule)

pub same_counts : (at : ℕ) (tools : List ToolState) (before after : ToolState) → slice_get tools at ≡ Some before
    → after.class ≡ before.class → after.ran ≡ before.ran → counts_of (set tools at after) ≡ counts_of tools
same_counts at [] before after there class ran = absurd cc
same_counts zero (one ∷ tools) before after there class ran =
    let is : one ≡ before = cc in
    ap₂ (λ (c : List ℕ) (n : ℕ). (c, n) ∷ counts_of tools)
    (class ∙ ap (λ (t : ToolState). t.class) (sym is)) (ran ∙ ap (λ (t : ToolState). t.ran) (sym is))
same_counts (suc at) (one ∷ tools) before after there class ran =
    ap (λ (more : Counts). (one.class, one.ran) ∷ more) (same_counts at tools before after there class ran)

differ : (a b : List ℕ) → a ≢ b → pointwise nat_eq a b ≡ false
differ a b apart = by_test (pointwise nat_eq a b) refl
  where
    by_test : (t : Bool) → pointwise nat_eq a b ≡ t → t ≡ false
    by_test true e = absurd (apart (same_text a b (sym e)))
    by_test false e = refl

same : (a b : List ℕ) → a ≡ b → pointwise nat_eq a b ≡ true
same a b e = ap (pointwise nat_eq a) (sym e) ∙ nat_list_eq_equiv.refl a

module _ {A : Type 0} (state : A → ToolState) (class : List ℕ) where
  pub one_more_run : (at : ℕ) (tools : List A) (before : A) (after : ToolState) → slice_get tools at ≡ Some before
      → (state before).class ≡ class → NoneHas (λ tool. (state tool).class) class (take at tools)
      → after.class ≡ (state before).class → after.ran ≡ one_more (state before).ran
      → counts_of (set (map state tools) at after) ≡ one_run class (counts_of (map state tools))
  one_more_run at [] before after there has first same_class ran = absurd cc
  one_more_run zero (one ∷ tools) before after there has first same_class ran =
      let is : one ≡ before = cc in
      let of : (state one).class ≡ class = ap (λ (t : A). (state t).class) is ∙ has in
      ap₂ (λ (c : List ℕ) (n : ℕ). (c, n) ∷ counts_of (map state tools))
      (same_class ∙ ap (λ (t : A). (state t).class) (sym is))
      (ran ∙ ap (λ (t : A). one_more (state t).ran) (sym is))
      ∙ rw (same (state one).class class of) refl
  one_more_run (suc at) (one ∷ tools) before after there has first same_class ran =
      let apart : (state one).class ≢ class = All-head (λ tool. (state tool).class ≢ class) one (take at tools) first in
      ap (λ (more : Counts). ((state one).class, (state one).ran) ∷ more)
      (one_more_run at tools before after there has
      (All-tail (λ tool. (state tool).class ≢ class) one (take at tools) first) same_class ran)
      ∙ rw (differ (state one).class class apart) refl
