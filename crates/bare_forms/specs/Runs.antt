-- Runs: operands and infix operators in the order in which they are written, and the one value that they make. The
-- same definitions serve patterns and expressions, by what an operator makes of two operands.
use Rattle.std.specs.Prelude.{ℕ, zero, suc, Bool, true, false, not, ◌&&◌, ◌==◌, List, [], ◌∷◌, ◌++◌, Option, Some, None}
use Rattle.std.specs.Option.{unwrap_or}
use Rattle.sml_trees.specs.declared.name.Name.{Name}
use Rattle.sml_trees.specs.declared.full_pat.Fixity.{Fixity}
use Rattle.bare_forms.specs.declared.run.Infix.{Infix}

-- ---- a run with its operators

-- operands with the operators behind them, and the last operand
pub record Before (A : Type 0) : Type 0 where
  pub before : List (A × Infix)
  pub last : A

-- the first operand, and operators with the operands behind them
pub record After (A : Type 0) : Type 0 where
  pub first : A
  pub after : List (Infix × A)

-- ---- what the strengths and sides say: a stronger operator takes its operands before a weaker one, and of operators
-- of one strength that stand beside one another those of `infix` from the left and those of `infixr` from the right
-- (The Definition, 2.6)

abbrev pub is_from_right : ℕ → Infix → Bool
is_from_right strength op = op.fixity.strength == strength && op.fixity.right

abbrev pub is_from_left : ℕ → Infix → Bool
is_from_left strength op = op.fixity.strength == strength && not op.fixity.right

-- an operand and its operator, before a run whose own operators of the strength have their operands already
abbrev pub right_step : {A : Type 0} → (Name → A → A → A) → Bool → A → Infix → After A → After A
right_step joined true x op run = record { first = joined op.name x run.first; after = run.after }
right_step joined false x op run = record { first = x; after = (op, run.first) ∷ run.after }

-- the run in which the operators of this strength that bind from the right have their operands
abbrev pub bind_right : {A : Type 0} → (Name → A → A → A) → ℕ → List (A × Infix) → A → After A
bind_right joined strength [] last = record { first = last; after = [] }
bind_right joined strength (p ∷ before) last =
    right_step joined (is_from_right strength p.1) p.0 p.1 (bind_right joined strength before last)

abbrev pub kept_before : {A : Type 0} → A × Infix → Before A → Before A
kept_before p run = record { before = p ∷ run.before; last = run.last }

-- an operand, the operator behind it, and what the rest makes of the operand that stands before it
abbrev pub left_step : {A : Type 0} → (Name → A → A → A) → Bool → A → Infix → A → (A → Before A) → Before A
left_step joined true x op y rest = rest (joined op.name x y)
left_step joined false x op y rest = kept_before (x, op) (rest y)

-- the run in which the operators of this strength that bind from the left have their operands
abbrev pub bind_left : {A : Type 0} → (Name → A → A → A) → ℕ → A → List (Infix × A) → Before A
bind_left joined strength first [] = record { before = []; last = first }
bind_left joined strength first (p ∷ after) =
    left_step joined (is_from_left strength p.0) first p.0 p.1 (λ x. bind_left joined strength x after)

-- .. in which all operators of this strength have their operands
abbrev pub bind_at : {A : Type 0} → (Name → A → A → A) → ℕ → List (A × Infix) → A → Before A
bind_at joined strength before last =
    let right = bind_right joined strength before last in bind_left joined strength right.first right.after

-- what is made of a run by its operators of a strength below this, from the strongest to the weakest; there is no
-- operator of 10 or more
abbrev pub bind_below : {A : Type 0} → (Name → A → A → A) → ℕ → List (A × Infix) → A → A
bind_below joined zero before last = last
bind_below joined (suc strength) before last =
    let run = bind_at joined strength before last in bind_below joined strength run.before run.last

unfoldable pub bind_all : {A : Type 0} → (Name → A → A → A) → List (A × Infix) → A → A
bind_all joined before last = bind_below joined 10 before last

-- ---- the operands of a run, each an atom or an application

-- a part of a run
pub data Part (A : Type 0) : Type 0 where
  Atom : A → Part A
  Operator : Infix → Part A

-- an atom behind what stands before it
abbrev pub applied_to : {A : Type 0} → (A → A → A) → Option A → A → A
applied_to applied None x = x
applied_to applied (Some f) x = applied f x

-- the operands and operators of a run whose first operand has begun so; what no source has, an operator without an
-- operand, is given one
abbrev pub operands : {A : Type 0} → (A → A → A) → A → Option A → List (Part A) → Before A
operands applied missing begun [] = record { before = []; last = unwrap_or begun missing }
operands applied missing begun (Part.Atom x ∷ parts) =
    operands applied missing (Some (applied_to applied begun x)) parts
operands applied missing begun (Part.Operator op ∷ parts) =
    kept_before (unwrap_or begun missing, op) (operands applied missing None parts)

-- what a run makes whose operators so far are these, and whose operand has begun so
unfoldable pub run_from : {A : Type 0} → (Name → A → A → A) → (A → A → A) → A → List (A × Infix) → Option A
    → List (Part A) → A
run_from joined applied missing before begun parts =
    let run = operands applied missing begun parts in bind_all joined (before ++ run.before) run.last

-- what a run makes
abbrev pub run_of : {A : Type 0} → (Name → A → A → A) → (A → A → A) → A → List (Part A) → A
run_of joined applied missing parts = run_from joined applied missing [] None parts
