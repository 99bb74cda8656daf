-- What holds of the operands of a run, and of the names of its operators, holds of what the run makes, where it lasts
-- over each step.
use Rattle.std.proofs.Common.{ℕ, zero, suc, Bool, true, false, List, [], ◌∷◌, Option, Some, None}
use Rattle.std.specs.Option.{unwrap_or}
use Rattle.sml_trees.specs.declared.name.Name.{Name}
use Rattle.bare_forms.specs.declared.run.Infix.{Infix}
use Rattle.bare_forms.specs.Runs.{Before, After, Part, is_from_right, is_from_left, right_step, left_step, bind_right, bind_left, bind_below, bind_all, applied_to, operands, run_from, run_of}
use Rattle.body_laws.proofs.Signatures.{Each}

module _ {A : Type 0} (P : A → Type 0) (Q : Name → Type 0) (joined : Name → A → A → A)
    (join : (op : Name) (x y : A) → Q op → P x → P y → P (joined op x y)) where
  -- an operand and the operator behind it, and an operator and the operand behind it
  abbrev GoodPair : A × Infix → Type 0
  GoodPair p = P p.0 × Q p.1.name

  abbrev GoodBack : Infix × A → Type 0
  GoodBack p = Q p.0.name × P p.1

  record GoodBefore (run : Before A) : Type 0 where
    before : Each GoodPair run.before
    last : P run.last

  record GoodAfter (run : After A) : Type 0 where
    first : P run.first
    after : Each GoodBack run.after

  right_step_good : (b : Bool) (x : A) (op : Infix) (run : After A) → P x → Q op.name → GoodAfter run
      → GoodAfter (right_step joined b x op run)
  right_step_good true x op run is called good =
      record { first = join op.name x run.first called is good.first; after = good.after }
  right_step_good false x op run is called good = record { first = is; after = ((called, good.first), good.after) }

  right_good : (k : ℕ) (before : List (A × Infix)) (last : A) → Each GoodPair before → P last
      → GoodAfter (bind_right joined k before last)
  right_good k [] last all is = record { first = is; after = tt }
  right_good k (p ∷ before) last all is =
      right_step_good (is_from_right k p.1) p.0 p.1 (bind_right joined k before last) all.0.0 all.0.1
      (right_good k before last all.1 is)

  left_step_good : (b : Bool) (x : A) (op : Infix) (y : A) (rest : A → Before A) → ((z : A) → P z → GoodBefore (rest z))
      → P x → Q op.name → P y → GoodBefore (left_step joined b x op y rest)
  left_step_good true x op y rest each first called second =
      each (joined op.name x y) (join op.name x y called first second)
  left_step_good false x op y rest each first called second =
      let good = each y second in record { before = ((first, called), good.before); last = good.last }

  left_good : (k : ℕ) (after : List (Infix × A)) (first : A) → Each GoodBack after → P first
      → GoodBefore (bind_left joined k first after)
  left_good k [] first all is = record { before = tt; last = is }
  left_good k (p ∷ after) first all is =
      left_step_good (is_from_left k p.0) first p.0 p.1 (λ x. bind_left joined k x after)
      (λ z so. left_good k after z all.1 so) is all.0.0 all.0.1

  below_good : (k : ℕ) (before : List (A × Infix)) (last : A) → Each GoodPair before → P last
      → P (bind_below joined k before last)
  below_good zero before last all is = is
  below_good (suc k) before last all is =
      let right = bind_right joined k before last in
      let right_is = right_good k before last all is in
      let run = bind_left joined k right.first right.after in
      let run_is = left_good k right.after right.first right_is.after right_is.first in
      below_good k run.before run.last run_is.before run_is.last

  all_good : (before : List (A × Infix)) (last : A) → Each GoodPair before → P last → P (bind_all joined before last)
  unfolding bind_all
  all_good before last all is = below_good 10 before last all is

  -- a part of a run
  abbrev pub GoodPart : Part A → Type 0
  GoodPart (Part.Atom x) = P x
  GoodPart (Part.Operator op) = Q op.name

  module _ (applied : A → A → A) (apply : (x y : A) → P x → P y → P (applied x y)) (missing : A)
      (absent : P missing) where
    abbrev GoodBegun : Option A → Type 0
    GoodBegun None = Unit {0}
    GoodBegun (Some x) = P x

    begun_good : (begun : Option A) → GoodBegun begun → P (unwrap_or begun missing)
    begun_good None is = absent
    begun_good (Some x) is = is

    more_good : (begun : Option A) (x : A) → GoodBegun begun → P x → P (applied_to applied begun x)
    more_good None x is so = so
    more_good (Some f) x is so = apply f x is so

    operands_good : (begun : Option A) (parts : List (Part A)) → GoodBegun begun → Each GoodPart parts
        → GoodBefore (operands applied missing begun parts)
    operands_good begun [] is all = record { before = tt; last = begun_good begun is }
    operands_good begun (Part.Atom x ∷ parts) is all =
        operands_good (Some (applied_to applied begun x)) parts (more_good begun x is all.0) all.1
    operands_good begun (Part.Operator op ∷ parts) is all =
        let rest = operands_good None parts tt all.1 in
        record { before = ((begun_good begun is, all.0), rest.before); last = rest.last }

    pub run_good : (parts : List (Part A)) → Each GoodPart parts → P (run_of joined applied missing parts)
    unfolding run_from
    run_good parts all =
        let run = operands applied missing None parts in
        let good = operands_good None parts tt all in
        all_good run.before run.last good.before good.last
