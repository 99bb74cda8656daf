-- What is made of a run by its operands' values is the value of what is made of it, where the two ways of joining agree.
use Rattle.std.proofs.Common.{◌≡◌, ℕ, zero, suc, Bool, true, false, List, [], ◌∷◌, ◌++◌, Option, Some, None, refl, sym, ap, ap₂, ◌∙◌, map}
use Rattle.std.specs.Option.{option_map, unwrap_or}
use Rattle.sml_trees.specs.declared.name.Name.{Name}
use Rattle.bare_forms.specs.declared.run.Infix.{Infix}
use Rattle.bare_forms.specs.RunValues.{part_value}
use Rattle.bare_forms.specs.Runs.{Before, After, Part, is_from_right, is_from_left, right_step, left_step, kept_before, bind_right, bind_left, bind_below, bind_all, applied_to, operands, run_from, run_of}

-- the values of the operands of a run
abbrev pub operator_value : {A B : Type 0} → (A → B) → A × Infix → B × Infix
operator_value h p = (h p.0, p.1)

abbrev pub operand_value : {A B : Type 0} → (A → B) → Infix × A → Infix × B
operand_value h p = (p.0, h p.1)

abbrev pub value_before : {A B : Type 0} → (A → B) → Before A → Before B
value_before h run = record { before = map (operator_value h) run.before; last = h run.last }

abbrev pub value_after : {A B : Type 0} → (A → B) → After A → After B
value_after h run = record { first = h run.first; after = map (operand_value h) run.after }

-- two ways of joining that agree on values
abbrev pub Agree : {A B : Type 0} → (A → B) → (Name → A → A → A) → (Name → B → B → B) → Type 0
Agree {A} {B} h joined made = (op : Name) (x y : A) → h (joined op x y) ≡ made op (h x) (h y)

right_step-value : {A B : Type 0} (h : A → B) (joined : Name → A → A → A) (made : Name → B → B → B) → Agree h joined made
    → (b : Bool) (x : A) (op : Infix) (run : After A)
    → right_step made b (h x) op (value_after h run) ≡ value_after h (right_step joined b x op run)
right_step-value h joined made agree true x op run =
    ap (λ first. record { first = first; after = map (operand_value h) run.after }) (sym (agree op.name x run.first))
right_step-value h joined made agree false x op run = refl

right-value : {A B : Type 0} (h : A → B) (joined : Name → A → A → A) (made : Name → B → B → B) → Agree h joined made
    → (k : ℕ) (before : List (A × Infix)) (last : A)
    → bind_right made k (map (operator_value h) before) (h last) ≡ value_after h (bind_right joined k before last)
right-value h joined made agree k [] last = refl
right-value h joined made agree k (p ∷ before) last =
    ap (right_step made (is_from_right k p.1) (h p.0) p.1) (right-value h joined made agree k before last)
    ∙ right_step-value h joined made agree (is_from_right k p.1) p.0 p.1 (bind_right joined k before last)

left_step-value : {A B : Type 0} (h : A → B) (joined : Name → A → A → A) (made : Name → B → B → B) → Agree h joined made
    → (b : Bool) (x : A) (op : Infix) (y : A) (values : B → Before B) (rest : A → Before A)
    → ((z : A) → values (h z) ≡ value_before h (rest z))
    → left_step made b (h x) op (h y) values ≡ value_before h (left_step joined b x op y rest)
left_step-value h joined made agree true x op y values rest same =
    ap values (sym (agree op.name x y)) ∙ same (joined op.name x y)
left_step-value h joined made agree false x op y values rest same = ap (kept_before (h x, op)) (same y)

left-value : {A B : Type 0} (h : A → B) (joined : Name → A → A → A) (made : Name → B → B → B) → Agree h joined made
    → (k : ℕ) (after : List (Infix × A)) (first : A)
    → bind_left made k (h first) (map (operand_value h) after) ≡ value_before h (bind_left joined k first after)
left-value h joined made agree k [] first = refl
left-value h joined made agree k (p ∷ after) first =
    left_step-value h joined made agree (is_from_left k p.0) first p.0 p.1
    (λ x. bind_left made k x (map (operand_value h) after)) (λ x. bind_left joined k x after)
    (λ z. left-value h joined made agree k after z)

below-value : {A B : Type 0} (h : A → B) (joined : Name → A → A → A) (made : Name → B → B → B) → Agree h joined made
    → (k : ℕ) (before : List (A × Infix)) (last : A)
    → bind_below made k (map (operator_value h) before) (h last) ≡ h (bind_below joined k before last)
below-value h joined made agree zero before last = refl
below-value {A} {B} h joined made agree (suc k) before last =
    let right = bind_right joined k before last in
    let run = bind_left joined k right.first right.after in
    ap (λ (r : After B). bind_below made k (bind_left made k r.first r.after).before (bind_left made k r.first r.after).last)
    (right-value h joined made agree k before last)
    ∙ ap (λ (r : Before B). bind_below made k r.before r.last) (left-value h joined made agree k right.after right.first)
    ∙ below-value h joined made agree k run.before run.last

all-value : {A B : Type 0} (h : A → B) (joined : Name → A → A → A) (made : Name → B → B → B) → Agree h joined made
    → (before : List (A × Infix)) (last : A)
    → bind_all made (map (operator_value h) before) (h last) ≡ h (bind_all joined before last)
unfolding bind_all
all-value h joined made agree before last = below-value h joined made agree 10 before last

-- ---- operands

begun-value : {A B : Type 0} (h : A → B) (applied : A → A → A) (given : B → B → B)
    → ((x y : A) → h (applied x y) ≡ given (h x) (h y)) → (begun : Option A) (x : A)
    → applied_to given (option_map h begun) (h x) ≡ h (applied_to applied begun x)
begun-value h applied given agree None x = refl
begun-value h applied given agree (Some f) x = sym (agree f x)

missing-value : {A B : Type 0} (h : A → B) (missing : A) (none : B) → h missing ≡ none → (begun : Option A)
    → unwrap_or (option_map h begun) none ≡ h (unwrap_or begun missing)
missing-value h missing none same None = sym same
missing-value h missing none same (Some x) = refl

operands-value : {A B : Type 0} (h : A → B) (applied : A → A → A) (given : B → B → B)
    → ((x y : A) → h (applied x y) ≡ given (h x) (h y)) → (missing : A) (none : B) → h missing ≡ none
    → (begun : Option A) (parts : List (Part A))
    → operands given none (option_map h begun) (map (part_value h) parts) ≡ value_before h (operands applied missing begun parts)
operands-value h applied given agree missing none same begun [] =
    ap (λ last. record { before = []; last = last }) (missing-value h missing none same begun)
operands-value h applied given agree missing none same begun (Part.Atom x ∷ parts) =
    ap (λ now. operands given none (Some now) (map (part_value h) parts)) (begun-value h applied given agree begun x)
    ∙ operands-value h applied given agree missing none same (Some (applied_to applied begun x)) parts
operands-value h applied given agree missing none same begun (Part.Operator op ∷ parts) =
    ap₂ (λ x run. kept_before (x, op) run) (missing-value h missing none same begun)
    (operands-value h applied given agree missing none same None parts)

-- the value of what a run makes is made of the values of its parts
pub run-value : {A B : Type 0} (h : A → B) (joined : Name → A → A → A) (made : Name → B → B → B) → Agree h joined made
    → (applied : A → A → A) (given : B → B → B) → ((x y : A) → h (applied x y) ≡ given (h x) (h y))
    → (missing : A) (none : B) → h missing ≡ none → (parts : List (Part A))
    → h (run_of joined applied missing parts) ≡ run_of made given none (map (part_value h) parts)
unfolding run_from
run-value {A} {B} h joined made agree applied given same missing none absent parts =
    let run = operands applied missing None parts in
    sym (ap (λ (r : Before B). bind_all made r.before r.last) (operands-value h applied given same missing none absent None parts)
    ∙ all-value h joined made agree run.before run.last)
