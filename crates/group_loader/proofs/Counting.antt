-- The count of the tool of a class, after uses.
use Rattle.std.proofs.Common.{◌≡◌, ◌≢◌, ◌∙◌, ap, sym, subst, refl, ℕ, zero, suc, Bool, true, false, cond, List, [], ◌∷◌, length, take, Some, if◌then◌else◌}
use Rattle.std.specs.Prelude.{nat_eq, filter, slice_get}
use Rattle.std.specs.Cmp.Lexicographic.{pointwise, same_text}
use Rattle.std.proofs.lemmas.List.Elements.{All-cons, All-head, All-tail}
use Rattle.cm_base.specs.Causes.{one_more}
use Rattle.tool_deriving.specs.Deriving.{ToolUse}
use Rattle.tool_deriving.specs.Toolboxes.{NoneHas}
use Rattle.member_deriving.specs.Uses.{ran_more}
use Rattle.box_deriving.specs.Boxes.{Counts, after_runs, one_run}
use Rattle.group_loader.specs.Laws.{ToolsRunByClass, uses_of_class}

abbrev class_of : List ℕ × ℕ → List ℕ
class_of count = count.0

differ : (a b : List ℕ) → a ≢ b → pointwise nat_eq a b ≡ false
differ a b apart = by_test (pointwise nat_eq a b) refl
  where
    by_test : (t : Bool) → pointwise nat_eq a b ≡ t → t ≡ false
    by_test true e = absurd (apart (same_text a b (sym e)))
    by_test false e = refl

-- the place of a class, and the count that stands there
record Stands (class : List ℕ) (counts : Counts) (at ran : ℕ) : Type 0 where
  there : slice_get counts at ≡ Some (class, ran)
  first : NoneHas class_of class (take at counts)

-- the count after one run of a class
abbrev counted : Bool → ℕ → ℕ
counted b ran = cond b (one_more ran) ran

module _ (class job : List ℕ) where
  -- one more tool in front, of another class
  behind : (tool : List ℕ × ℕ) (counts : Counts) (at ran : ℕ) → class_of tool ≢ class → Stands class counts at ran
      → Stands class (tool ∷ counts) (suc at) ran
  behind tool counts at ran apart here = record {
    there = here.there;
    first = All-cons (λ (t : List ℕ × ℕ). class_of t ≢ class) tool (take at counts) apart here.first;
  }

  run_there : (counts : Counts) (at ran : ℕ) → Stands class counts at ran
      → Stands class (one_run job counts) at (counted (pointwise nat_eq class job) ran)
  run_there [] at ran here = absurd (cc (here.there))
  run_there (tool ∷ counts) zero ran here =
      let is : tool ≡ (class, ran) = cc (here.there) in
      subst (λ (t : List ℕ × ℕ). Stands class (one_run job (t ∷ counts)) zero
      (counted (pointwise nat_eq class job) ran))
      (sym is) (by_test (pointwise nat_eq class job))
    where
      by_test : (b : Bool) → Stands class
          (if b then (class, one_more ran) ∷ counts else (class, ran) ∷ one_run job counts) zero
          (counted b ran)
      by_test true = record { there = refl; first = here.first }
      by_test false = record { there = refl; first = here.first }
  run_there (tool ∷ counts) (suc at) ran here =
      by_test (pointwise nat_eq (class_of tool) job) refl (run_there counts at ran rest)
    where
      apart : class_of tool ≢ class
      apart = All-head (λ (t : List ℕ × ℕ). class_of t ≢ class) tool (take at counts) here.first

      rest : Stands class counts at ran
      rest = record {
        there = here.there;
        first = All-tail (λ (t : List ℕ × ℕ). class_of t ≢ class) tool (take at counts) here.first;
      }

      by_test : (b : Bool) → pointwise nat_eq (class_of tool) job ≡ b
          → Stands class (one_run job counts) at (counted (pointwise nat_eq class job) ran)
          → Stands class (if b then (tool.0, one_more tool.1) ∷ counts else tool ∷ one_run job counts) (suc at)
          (counted (pointwise nat_eq class job) ran)
      by_test true e below =
          let same : class_of tool ≡ job = same_text (class_of tool) job (sym e) in
          let other : pointwise nat_eq class job ≡ false =
          differ class job (λ is. apart (same ∙ sym is)) in
          subst (λ (b : Bool). Stands class ((tool.0, one_more tool.1) ∷ counts) (suc at) (counted b ran)) (sym other)
          (behind (tool.0, one_more tool.1) counts at ran apart rest)
      by_test false e below =
          behind tool (one_run job counts) at (counted (pointwise nat_eq class job) ran) apart below

more_runs : (b : Bool) (job : ToolUse) (class : List ℕ) (jobs : List ToolUse) (ran : ℕ)
    → ran_more (uses_of_class class jobs) (counted b ran)
    ≡ ran_more (length (cond b (job ∷ filter (λ job. pointwise nat_eq class job.class) jobs)
    (filter (λ job. pointwise nat_eq class job.class) jobs))) ran
more_runs true job class jobs ran = refl
more_runs false job class jobs ran = refl

runs_there : (class : List ℕ) (jobs : List ToolUse) (counts : Counts) (at ran : ℕ) → Stands class counts at ran
    → slice_get (after_runs jobs counts) at ≡ Some (class, ran_more (uses_of_class class jobs) ran)
runs_there class [] counts at ran here = here.there
runs_there class (job ∷ jobs) counts at ran here =
    runs_there class jobs (one_run job.class counts) at (counted (pointwise nat_eq class job.class) ran)
    (run_there class job.class counts at ran here)
    ∙ ap (λ (n : ℕ). Some (class, n)) (more_runs (pointwise nat_eq class job.class) job class jobs ran)

pub tools_run_by_class : ToolsRunByClass
tools_run_by_class jobs counts at class place =
    runs_there class jobs counts at place.tool.1 (record {
      there = place.there ∙ ap (λ (c : List ℕ). Some (c, place.tool.1)) place.has;
      first = place.first;
    })
