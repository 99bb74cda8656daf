-- What the last operator of a run, taken first from the right, does to it; and one strength after another.
use Rattle.std.proofs.Common.{◌≡◌, ℕ, zero, suc, ◌-◌, ◌<◌, Bool, true, false, Option, Some, None, List, [], ◌∷◌, ◌++◌, reverse, length, map, drop, get_or, ◌+◌, ◌≤◌, refl, sym, ap, ap₂, ◌∙◌, add-one, drop-cons, append_assoc, append-nil, arith}
use Rattle.std.specs.Option.{unwrap_or}
use Rattle.std.proofs.lemmas.List.{drop_all, reverse-append}
use Rattle.sml_trees.specs.declared.name.Name.{Name}
use Rattle.bare_forms.specs.declared.run.Infix.{Infix}
use Rattle.bare_forms.specs.Runs.{After, is_from_right, right_step, bind_right, bind_left, bind_below, bind_all, Part, applied_to, operands, run_from}

-- a run with one operator and operand more at its end
abbrev pub with_last : {A : Type 0} → After A → Infix × A → After A
with_last run p = record { first = run.first; after = run.after ++ p ∷ [] }

step-with_last : {A : Type 0} (joined : Name → A → A → A) (b : Bool) (x : A) (op : Infix) (run : After A) (p : Infix × A)
    → right_step joined b x op (with_last run p) ≡ with_last (right_step joined b x op run) p
step-with_last joined true x op run p = refl
step-with_last joined false x op run p = refl

-- the last operator takes the operands on its sides
pub bind_right-joined : {A : Type 0} (joined : Name → A → A → A) (k : ℕ) (before : List (A × Infix)) (x : A) (op : Infix) (z : A)
    → is_from_right k op ≡ true
    → bind_right joined k (before ++ (x, op) ∷ []) z ≡ bind_right joined k before (joined op.name x z)
bind_right-joined joined k [] x op z binds =
    ap (λ b. right_step joined b x op (record { first = z; after = [] })) binds
bind_right-joined joined k (p ∷ before) x op z binds =
    ap (right_step joined (is_from_right k p.1) p.0 p.1) (bind_right-joined joined k before x op z binds)

-- .. or stays
pub bind_right-kept : {A : Type 0} (joined : Name → A → A → A) (k : ℕ) (before : List (A × Infix)) (x : A) (op : Infix) (z : A)
    → is_from_right k op ≡ false
    → bind_right joined k (before ++ (x, op) ∷ []) z ≡ with_last (bind_right joined k before x) (op, z)
bind_right-kept joined k [] x op z stays =
    ap (λ b. right_step joined b x op (record { first = z; after = [] })) stays
bind_right-kept joined k (p ∷ before) x op z stays =
    ap (right_step joined (is_from_right k p.1) p.0 p.1) (bind_right-kept joined k before x op z stays)
    ∙ step-with_last joined (is_from_right k p.1) p.0 p.1 (bind_right joined k before x) (op, z)

pub ruleset right_steps = (bind_right-joined, bind_right-kept, reverse-append, append_assoc)

pub ruleset left_steps = (reverse-append, append_assoc)

-- one strength of a run
pub strength_step : {A : Type 0} (joined : Name → A → A → A) (n : ℕ) (before : List (A × Infix)) (last first : A)
    (after : List (Infix × A)) (kept : List (A × Infix)) (z : A) → 0 < n
    → first ≡ (bind_right joined (n - 1) before last).first
    → reverse after ≡ (bind_right joined (n - 1) before last).after
    → kept ≡ (bind_left joined (n - 1) first (reverse after)).before
    → z ≡ (bind_left joined (n - 1) first (reverse after)).last
    → bind_below joined (n - 1) kept z ≡ bind_below joined n before last
strength_step joined n before last first after kept z more first_is after_is kept_is z_is =
    let count : n ≡ suc (n - 1) = omega (arith, more) in
    ap₂ (bind_below joined (n - 1)) kept_is z_is
    ∙ ap₂ (λ f a. bind_below joined (n - 1) (bind_left joined (n - 1) f a).before (bind_left joined (n - 1) f a).last)
    first_is after_is
    ∙ ap (λ m. bind_below joined m before last) (sym count)

-- ---- the parts of a run, one after another

pub run_from-Atom : {A : Type 0} (joined : Name → A → A → A) (applied : A → A → A) (missing : A)
    (before : List (A × Infix)) (begun : Option A) (x : A) (parts : List (Part A))
    → run_from joined applied missing before begun (Part.Atom x ∷ parts)
    ≡ run_from joined applied missing before (Some (applied_to applied begun x)) parts
unfolding run_from
run_from-Atom joined applied missing before begun x parts = refl

pub run_from-Operator : {A : Type 0} (joined : Name → A → A → A) (applied : A → A → A) (missing : A)
    (before : List (A × Infix)) (begun : Option A) (op : Infix) (parts : List (Part A))
    → run_from joined applied missing before begun (Part.Operator op ∷ parts)
    ≡ run_from joined applied missing (before ++ (unwrap_or begun missing, op) ∷ []) None parts
unfolding run_from
run_from-Operator joined applied missing before begun op parts =
    ap (λ b. bind_all joined b (operands applied missing None parts).last)
    (sym (append_assoc before ((unwrap_or begun missing, op) ∷ []) (operands applied missing None parts).before))

pub run_from-end : {A : Type 0} (joined : Name → A → A → A) (applied : A → A → A) (missing : A)
    (before : List (A × Infix)) (begun : Option A)
    → run_from joined applied missing before begun [] ≡ bind_all joined before (unwrap_or begun missing)
unfolding run_from
run_from-end joined applied missing before begun =
    ap (λ b. bind_all joined b (unwrap_or begun missing)) (append-nil before)

-- ---- a loop over the parts of a run

left_at : {B : Type 0} (items : List B) (i : ℕ) (item : B) → i < length items → item ≡ get_or items i item
    → drop i items ≡ item ∷ drop (i + 1) items
left_at items i item lt is = drop-cons items i item lt ∙ ap (λ b. b ∷ drop (suc i) items) (sym is)
    ∙ ap (λ n. item ∷ drop n items) (sym (add-one i))

pub atom_step : {A B : Type 0} (joined : Name → A → A → A) (applied : A → A → A) (missing : A) (item_of : B → Part A)
    (items : List B) (i : ℕ) (item : B) (x y : A) (before next : List (A × Infix)) (begun now : Option A) (whole : A)
    → i < length items → item ≡ get_or items i item
    → item_of item ≡ Part.Atom x → y ≡ applied_to applied begun x → now ≡ Some y → next ≡ before
    → run_from joined applied missing before begun (map item_of (drop i items)) ≡ whole
    → run_from joined applied missing next now (map item_of (drop (i + 1) items)) ≡ whole
atom_step joined applied missing item_of items i item x y before next begun now whole lt here item_is y_is now_is next_is is =
    let rest = map item_of (drop (i + 1) items) in
    ap₂ (λ b g. run_from joined applied missing b g rest) next_is (now_is ∙ ap Some y_is)
    ∙ sym (run_from-Atom joined applied missing before begun x rest)
    ∙ ap (λ p. run_from joined applied missing before begun (p ∷ rest)) (sym item_is)
    ∙ ap (λ left. run_from joined applied missing before begun (map item_of left)) (sym (left_at items i item lt here))
    ∙ is

pub operator_step : {A B : Type 0} (joined : Name → A → A → A) (applied : A → A → A) (missing : A) (item_of : B → Part A)
    (items : List B) (i : ℕ) (item : B) (op : Infix) (before next : List (A × Infix)) (begun now : Option A) (whole : A)
    → i < length items → item ≡ get_or items i item
    → item_of item ≡ Part.Operator op → now ≡ None → next ≡ before ++ (unwrap_or begun missing, op) ∷ []
    → run_from joined applied missing before begun (map item_of (drop i items)) ≡ whole
    → run_from joined applied missing next now (map item_of (drop (i + 1) items)) ≡ whole
operator_step joined applied missing item_of items i item op before next begun now whole lt here item_is now_is next_is is =
    let rest = map item_of (drop (i + 1) items) in
    ap₂ (λ b g. run_from joined applied missing b g rest) next_is now_is
    ∙ sym (run_from-Operator joined applied missing before begun op rest)
    ∙ ap (λ p. run_from joined applied missing before begun (p ∷ rest)) (sym item_is)
    ∙ ap (λ left. run_from joined applied missing before begun (map item_of left)) (sym (left_at items i item lt here))
    ∙ is

pub run_end : {A B : Type 0} (joined : Name → A → A → A) (applied : A → A → A) (missing : A) (item_of : B → Part A)
    (items : List B) (i : ℕ) (before : List (A × Infix)) (begun : Option A) (last whole : A)
    → length items ≤ i → last ≡ unwrap_or begun missing
    → run_from joined applied missing before begun (map item_of (drop i items)) ≡ whole
    → bind_all joined before last ≡ whole
run_end joined applied missing item_of items i before begun last whole end last_is is =
    ap (bind_all joined before) last_is
    ∙ sym (run_from-end joined applied missing before begun)
    ∙ ap (λ left. run_from joined applied missing before begun (map item_of left)) (sym (drop_all i items end))
    ∙ is
