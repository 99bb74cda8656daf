-- A run has one tree in which its operators have their operands as strengths and sides say, and its value is that tree's.
use Rattle.std.proofs.Common.{◌≡◌, ℕ, zero, suc, ◌+◌, ◌≤◌, ◌<◌, ◌==◌, ◌&&◌, Bool, true, false, not, List, [], ◌∷◌, ◌++◌, refl, sym, ap, ap₂, ◌∙◌, subst, append_assoc, append-nil, map, arith}
use Rattle.sml_trees.specs.declared.name.Name.{Name}
use Rattle.bare_forms.specs.declared.run.Infix.{Infix}
use Rattle.bare_forms.specs.Runs.{Before, After, is_from_right, is_from_left, right_step, left_step, kept_before, bind_right, bind_left, bind_at, bind_below, bind_all}
use Rattle.bare_forms.specs.RunTrees.{RunTree, IsMadeByOneTree, value, first_of, after_of, as_after, side, rank, Binds, IsTreeOf, AreStrengths}

-- ---- one tree at most

-- each operator of a list binds so strongly or more
abbrev pub Above : {A : Type 0} → ℕ → List (Infix × A) → Type 0
Above least [] = Unit {0}
Above least (p ∷ ps) = (least ≤ rank p.0) × Above least ps

above-append : {A : Type 0} (n : ℕ) (xs ys : List (Infix × A)) → Above n xs → Above n ys → Above n (xs ++ ys)
above-append n [] ys a b = b
above-append n (x ∷ xs) ys a b = (a.0, above-append n xs ys a.1 b)

above-less : {A : Type 0} (m n : ℕ) (xs : List (Infix × A)) → m ≤ n → Above n xs → Above m xs
above-less m n [] less a = tt
above-less m n (x ∷ xs) less a =
    let here = a.0 in
    let least : m ≤ rank x.0 = omega (arith, less, here) in (least, above-less m n xs less a.1)

above-inside : {A : Type 0} (n : ℕ) (xs : List (Infix × A)) (p : Infix × A) (ys : List (Infix × A))
    → Above n (xs ++ p ∷ ys) → n ≤ rank p.0
above-inside n [] p ys a = a.0
above-inside n (x ∷ xs) p ys a = above-inside n xs p ys a.1

binds-above : {A : Type 0} (n : ℕ) (t : RunTree A) → Binds n t → Above n (after_of t)
binds-above n (RunTree.Operand x) b = tt
binds-above n (RunTree.Joined l op r) b =
    let least = b.0 in
    let left : n ≤ rank op + side op.fixity.right = omega (arith, least) in
    let right : n ≤ rank op + side (not op.fixity.right) = omega (arith, least) in
    above-append n (after_of l) ((op, first_of r) ∷ after_of r)
    (above-less n (rank op + side op.fixity.right) (after_of l) left (binds-above (rank op + side op.fixity.right) l b.1.0)) (
      least,
      above-less n (rank op + side (not op.fixity.right)) (after_of r) right
          (binds-above (rank op + side (not op.fixity.right)) r b.1.1),
    )

-- how a list is split at two places
data Split {B : Type 0} (xs : List B) (a : B) (us ys : List B) (b : B) (vs : List B) : Type 0 where
  same : xs ≡ ys → a ≡ b → us ≡ vs → Split xs a us ys b vs
  later : (zs : List B) → xs ≡ ys ++ b ∷ zs → vs ≡ zs ++ a ∷ us → Split xs a us ys b vs
  sooner : (zs : List B) → ys ≡ xs ++ a ∷ zs → us ≡ zs ++ b ∷ vs → Split xs a us ys b vs

split-cons : {B : Type 0} (x y : B) (xs : List B) (a : B) (us ys : List B) (b : B) (vs : List B) → x ≡ y
    → Split xs a us ys b vs → Split (x ∷ xs) a us (y ∷ ys) b vs
split-cons x y xs a us ys b vs e (Split.same p q r) = Split.same (ap₂ (λ h t. h ∷ t) e p) q r
split-cons x y xs a us ys b vs e (Split.later zs p q) = Split.later zs (ap₂ (λ h t. h ∷ t) e p) q
split-cons x y xs a us ys b vs e (Split.sooner zs p q) = Split.sooner zs (ap₂ (λ h t. h ∷ t) (sym e) p) q

split : {B : Type 0} (xs : List B) (a : B) (us ys : List B) (b : B) (vs : List B)
    → xs ++ a ∷ us ≡ ys ++ b ∷ vs → Split xs a us ys b vs
split [] a us [] b vs e =
    let head : a ≡ b = cc in let tail : us ≡ vs = cc in Split.same refl head tail
split [] a us (y ∷ ys) b vs e =
    let head : a ≡ y = cc in let tail : us ≡ ys ++ b ∷ vs = cc in
    Split.sooner ys (ap (λ h. h ∷ ys) (sym head)) tail
split (x ∷ xs) a us [] b vs e =
    let head : x ≡ b = cc in let tail : xs ++ a ∷ us ≡ vs = cc in
    Split.later xs (ap (λ h. h ∷ xs) head) (sym tail)
split (x ∷ xs) a us (y ∷ ys) b vs e =
    let head : x ≡ y = cc in let tail : xs ++ a ∷ us ≡ ys ++ b ∷ vs = cc in
    split-cons x y xs a us ys b vs head (split xs a us ys b vs tail)

-- of two operators neither stands in the other's operand both ways
clash : (s t : ℕ) (b c : Bool) → (s + s + side b) + side b ≤ t + t + side c → (t + t + side c) + side (not c) ≤ s + s + side b
    → ⊥
clash s t true true p q = omega (arith, p, q)
clash s t true false p q = omega (arith, p, q)
clash s t false true p q = omega (arith, p, q)
clash s t false false p q = omega (arith, p, q)

no_cons : {B : Type 0} (xs : List B) (a : B) (us : List B) → [] ≡ xs ++ a ∷ us → ⊥
no_cons [] a us e = cc
no_cons (x ∷ xs) a us e = cc

-- trees whose operators stand at one place are the same where their operands are
by_split : {A : Type 0} (l : RunTree A) (op : Infix) (r k : RunTree A) (p : Infix) (s : RunTree A)
    → Binds (rank op + side op.fixity.right) l → Binds (rank op + side (not op.fixity.right)) r
    → Binds (rank p + side p.fixity.right) k → Binds (rank p + side (not p.fixity.right)) s
    → (after_of l ≡ after_of k → l ≡ k)
    → (first_of r ≡ first_of s → after_of r ≡ after_of s → r ≡ s)
    → Split (after_of l) (op, first_of r) (after_of r) (after_of k) (p, first_of s) (after_of s)
    → RunTree.Joined l op r ≡ RunTree.Joined k p s
by_split {A} l op r k p s bl br bk bs lefts rights (Split.same e g h) =
    let ops : op ≡ p = ap (λ (q : Infix × A). q.0) g in
    let firsts : first_of r ≡ first_of s = ap (λ (q : Infix × A). q.1) g in
    let left : l ≡ k = lefts e in
    let right : r ≡ s = rights firsts h in
    cc
by_split l op r k p s bl br bk bs lefts rights (Split.later zs e h) =
    let in_left : rank op + side op.fixity.right ≤ rank p =
    above-inside (rank op + side op.fixity.right) (after_of k) (p, first_of s) zs
    (subst (Above (rank op + side op.fixity.right)) e (binds-above (rank op + side op.fixity.right) l bl)) in
    let in_right : rank p + side (not p.fixity.right) ≤ rank op =
    above-inside (rank p + side (not p.fixity.right)) zs (op, first_of r) (after_of r)
    (subst (Above (rank p + side (not p.fixity.right))) h (binds-above (rank p + side (not p.fixity.right)) s bs)) in
    absurd (clash op.fixity.strength p.fixity.strength op.fixity.right p.fixity.right in_left in_right)
by_split l op r k p s bl br bk bs lefts rights (Split.sooner zs e h) =
    let in_left : rank p + side p.fixity.right ≤ rank op =
    above-inside (rank p + side p.fixity.right) (after_of l) (op, first_of r) zs
    (subst (Above (rank p + side p.fixity.right)) e (binds-above (rank p + side p.fixity.right) k bk)) in
    let in_right : rank op + side (not op.fixity.right) ≤ rank p =
    above-inside (rank op + side (not op.fixity.right)) zs (p, first_of s) (after_of s)
    (subst (Above (rank op + side (not op.fixity.right))) h (binds-above (rank op + side (not op.fixity.right)) r br)) in
    absurd (clash p.fixity.strength op.fixity.strength p.fixity.right op.fixity.right in_left in_right)

-- trees of one run whose operators have their operands as they should are the same tree
pub unique : {A : Type 0} (n m : ℕ) (t u : RunTree A) → Binds n t → Binds m u → first_of t ≡ first_of u
    → after_of t ≡ after_of u → t ≡ u
unique n m (RunTree.Operand x) (RunTree.Operand y) b c f a = ap RunTree.Operand f
unique n m (RunTree.Operand x) (RunTree.Joined l op r) b c f a =
    absurd (no_cons (after_of l) (op, first_of r) (after_of r) a)
unique n m (RunTree.Joined l op r) (RunTree.Operand y) b c f a =
    absurd (no_cons (after_of l) (op, first_of r) (after_of r) (sym a))
unique n m (RunTree.Joined l op r) (RunTree.Joined k p s) b c f a =
    by_split l op r k p s b.1.0 b.1.1 c.1.0 c.1.1
    (λ e. unique (rank op + side op.fixity.right) (rank p + side p.fixity.right) l k b.1.0 c.1.0 f e)
    (λ firsts h. unique (rank op + side (not op.fixity.right)) (rank p + side (not p.fixity.right)) r s b.1.1 c.1.1 firsts h)
    (split (after_of l) (op, first_of r) (after_of r) (after_of k) (p, first_of s) (after_of s) a)

-- ---- the steps on trees

abbrev pub tree_right_step : {A : Type 0} → Bool → RunTree A → Infix → After (RunTree A) → After (RunTree A)
tree_right_step true x op run = record { first = RunTree.Joined x op run.first; after = run.after }
tree_right_step false x op run = record { first = x; after = (op, run.first) ∷ run.after }

abbrev pub tree_right : {A : Type 0} → ℕ → List (RunTree A × Infix) → RunTree A → After (RunTree A)
tree_right k [] last = record { first = last; after = [] }
tree_right k (p ∷ before) last = tree_right_step (is_from_right k p.1) p.0 p.1 (tree_right k before last)

abbrev pub tree_left_step : {A : Type 0} → Bool → RunTree A → Infix → RunTree A → (RunTree A → Before (RunTree A)) → Before (RunTree A)
tree_left_step true x op y rest = rest (RunTree.Joined x op y)
tree_left_step false x op y rest = kept_before (x, op) (rest y)

abbrev pub tree_left : {A : Type 0} → ℕ → RunTree A → List (Infix × RunTree A) → Before (RunTree A)
tree_left k first [] = record { before = []; last = first }
tree_left k first (p ∷ after) = tree_left_step (is_from_left k p.0) first p.0 p.1 (λ x. tree_left k x after)

abbrev pub tree_below : {A : Type 0} → ℕ → List (RunTree A × Infix) → RunTree A → RunTree A
tree_below zero before last = last
tree_below (suc k) before last =
    let right = tree_right k before last in
    let run = tree_left k right.first right.after in tree_below k run.before run.last

-- ---- .. make what the steps on values make

abbrev pub values_before : {A : Type 0} → (Name → A → A → A) → List (RunTree A × Infix) → List (A × Infix)
values_before joined [] = []
values_before joined (p ∷ ps) = (value joined p.0, p.1) ∷ values_before joined ps

abbrev pub values_after : {A : Type 0} → (Name → A → A → A) → List (Infix × RunTree A) → List (Infix × A)
values_after joined [] = []
values_after joined (p ∷ ps) = (p.0, value joined p.1) ∷ values_after joined ps

abbrev pub value_after : {A : Type 0} → (Name → A → A → A) → After (RunTree A) → After A
value_after joined run = record { first = value joined run.first; after = values_after joined run.after }

abbrev pub value_before : {A : Type 0} → (Name → A → A → A) → Before (RunTree A) → Before A
value_before joined run = record { before = values_before joined run.before; last = value joined run.last }

right_step-value : {A : Type 0} (joined : Name → A → A → A) (b : Bool) (x : RunTree A) (op : Infix) (run : After (RunTree A))
    → right_step joined b (value joined x) op (value_after joined run) ≡ value_after joined (tree_right_step b x op run)
right_step-value joined true x op run = refl
right_step-value joined false x op run = refl

right-value : {A : Type 0} (joined : Name → A → A → A) (k : ℕ) (before : List (RunTree A × Infix)) (last : RunTree A)
    → bind_right joined k (values_before joined before) (value joined last) ≡ value_after joined (tree_right k before last)
right-value joined k [] last = refl
right-value joined k (p ∷ before) last =
    ap (right_step joined (is_from_right k p.1) (value joined p.0) p.1) (right-value joined k before last)
    ∙ right_step-value joined (is_from_right k p.1) p.0 p.1 (tree_right k before last)

left_step-value : {A : Type 0} (joined : Name → A → A → A) (b : Bool) (x : RunTree A) (op : Infix) (y : RunTree A)
    (rest : A → Before A) (trees : RunTree A → Before (RunTree A))
    → ((z : RunTree A) → rest (value joined z) ≡ value_before joined (trees z))
    → left_step joined b (value joined x) op (value joined y) rest ≡ value_before joined (tree_left_step b x op y trees)
left_step-value joined true x op y rest trees agree = agree (RunTree.Joined x op y)
left_step-value joined false x op y rest trees agree = ap (kept_before (value joined x, op)) (agree y)

left-value : {A : Type 0} (joined : Name → A → A → A) (k : ℕ) (after : List (Infix × RunTree A)) (first : RunTree A)
    → bind_left joined k (value joined first) (values_after joined after) ≡ value_before joined (tree_left k first after)
left-value joined k [] first = refl
left-value joined k (p ∷ after) first =
    left_step-value joined (is_from_left k p.0) first p.0 p.1 (λ x. bind_left joined k x (values_after joined after))
    (λ x. tree_left k x after) (λ z. left-value joined k after z)

below-value : {A : Type 0} (joined : Name → A → A → A) (k : ℕ) (before : List (RunTree A × Infix)) (last : RunTree A)
    → bind_below joined k (values_before joined before) (value joined last) ≡ value joined (tree_below k before last)
below-value joined zero before last = refl
below-value {A} joined (suc k) before last =
    let right = tree_right k before last in
    let run = tree_left k right.first right.after in
    ap (λ (r : After A). bind_below joined k (bind_left joined k r.first r.after).before (bind_left joined k r.first r.after).last)
    (right-value joined k before last)
    ∙ ap (λ (r : Before A). bind_below joined k r.before r.last) (left-value joined k right.after right.first)
    ∙ below-value joined k run.before run.last

-- ---- .. and keep the operands and operators in their order

abbrev pub flat_after : {A : Type 0} → List (Infix × RunTree A) → List (Infix × A)
flat_after [] = []
flat_after (p ∷ ps) = (p.0, first_of p.1) ∷ (after_of p.1 ++ flat_after ps)

abbrev pub flat : {A : Type 0} → After (RunTree A) → After A
flat run = record { first = first_of run.first; after = after_of run.first ++ flat_after run.after }

abbrev pub opened : {A : Type 0} → RunTree A → Infix → After A → After A
opened x op run = record { first = first_of x; after = after_of x ++ (op, run.first) ∷ run.after }

right_step-flat : {A : Type 0} (b : Bool) (x : RunTree A) (op : Infix) (run : After (RunTree A))
    → flat (tree_right_step b x op run) ≡ opened x op (flat run)
right_step-flat {A} true x op run =
    ap (λ (xs : List (Infix × A)). record { first = first_of x; after = xs })
    (append_assoc (after_of x) ((op, first_of run.first) ∷ after_of run.first) (flat_after run.after))
right_step-flat false x op run = refl

right-flat : {A : Type 0} (k : ℕ) (before : List (RunTree A × Infix)) (last : RunTree A)
    → flat (tree_right k before last) ≡ flat (as_after before last)
right-flat k [] last = refl
right-flat k (p ∷ before) last =
    right_step-flat (is_from_right k p.1) p.0 p.1 (tree_right k before last)
    ∙ ap (opened p.0 p.1) (right-flat k before last)

left_step-flat : {A : Type 0} (b : Bool) (x : RunTree A) (op : Infix) (y : RunTree A) (after : List (Infix × RunTree A))
    (rest : RunTree A → Before (RunTree A))
    → ((z : RunTree A) → flat (as_after (rest z).before (rest z).last) ≡ flat (record { first = z; after = after }))
    → flat (as_after (tree_left_step b x op y rest).before (tree_left_step b x op y rest).last)
    ≡ flat (record { first = x; after = (op, y) ∷ after })
left_step-flat {A} true x op y after rest agree =
    agree (RunTree.Joined x op y)
    ∙ ap (λ (xs : List (Infix × A)). record { first = first_of x; after = xs })
    (append_assoc (after_of x) ((op, first_of y) ∷ after_of y) (flat_after after))
left_step-flat false x op y after rest agree = ap (opened x op) (agree y)

left-flat : {A : Type 0} (k : ℕ) (after : List (Infix × RunTree A)) (first : RunTree A)
    → flat (as_after (tree_left k first after).before (tree_left k first after).last)
    ≡ flat (record { first = first; after = after })
left-flat k [] first = refl
left-flat k (p ∷ after) first =
    left_step-flat (is_from_left k p.0) first p.0 p.1 after (λ x. tree_left k x after) (λ z. left-flat k after z)

-- ---- .. and give each operator its operands

abbrev pub TightBefore : {A : Type 0} → ℕ → ℕ → List (RunTree A × Infix) → Type 0
TightBefore n limit [] = Unit {0}
TightBefore n limit (p ∷ ps) = Binds n p.0 × ((rank p.1 < limit) × TightBefore n limit ps)

abbrev pub TightAfter : {A : Type 0} → ℕ → ℕ → List (Infix × RunTree A) → Type 0
TightAfter n limit [] = Unit {0}
TightAfter n limit (p ∷ ps) = (rank p.0 < limit) × (Binds n p.1 × TightAfter n limit ps)

binds-less : {A : Type 0} (m n : ℕ) (t : RunTree A) → m ≤ n → Binds n t → Binds m t
binds-less m n (RunTree.Operand x) less b = tt
binds-less m n (RunTree.Joined l op r) less b =
    let here = b.0 in let least : m ≤ rank op = omega (arith, less, here) in (least, b.1)

-- an operator of this strength from the right, or from the left
right-rank : (s k : ℕ) (b : Bool) → (s == k && b) ≡ true → (s + s + side b ≡ k + k + 1) × (b ≡ true)
right-rank s k true e = (search (arith), refl)
right-rank s k false e = search (arith)

left-rank : (s k : ℕ) (b : Bool) → (s == k && not b) ≡ true → (s + s + side b ≡ k + k) × (b ≡ false)
left-rank s k true e = search (arith)
left-rank s k false e = (search (arith), refl)

-- .. and every other one is weaker
right-other : (s k : ℕ) (b : Bool) → (s == k && b) ≡ false → s + s + side b < k + k + 2 → s + s + side b < k + k + 1
right-other s k true e less = search (arith)
right-other s k false e less = search (arith)

left-other : (s k : ℕ) (b : Bool) → (s == k && not b) ≡ false → s + s + side b < k + k + 1 → s + s + side b < k + k
left-other s k true e less = search (arith)
left-other s k false e less = search (arith)

-- operands at least so tight with weaker operators between them, from either end
abbrev pub IsTightAfter : {A : Type 0} → ℕ → After (RunTree A) → Type 0
IsTightAfter n run = Binds n run.first × TightAfter n n run.after

abbrev pub IsTightBefore : {A : Type 0} → ℕ → Before (RunTree A) → Type 0
IsTightBefore n run = TightBefore n n run.before × Binds n run.last

joined-right : {A : Type 0} (k : ℕ) (x : RunTree A) (op : Infix) (y : RunTree A)
    → (op.fixity.strength == k && op.fixity.right) ≡ true → Binds (k + k + 2) x → Binds (k + k + 1) y
    → Binds (k + k + 1) (RunTree.Joined x op y)
joined-right k x op y binds left right =
    let r = right-rank op.fixity.strength k op.fixity.right binds in
    let rank_is : rank op ≡ k + k + 1 = r.0 in
    let side_is : side op.fixity.right ≡ 1 = ap side r.1 in
    let other_is : side (not op.fixity.right) ≡ 0 = ap (λ b. side (not b)) r.1 in
    let least : k + k + 1 ≤ rank op = omega (arith, rank_is) in
    let on_left : rank op + side op.fixity.right ≤ k + k + 2 = omega (arith, rank_is, side_is) in
    let on_right : rank op + side (not op.fixity.right) ≤ k + k + 1 = omega (arith, rank_is, other_is) in (
      least,
      (
        binds-less (rank op + side op.fixity.right) (k + k + 2) x on_left left,
        binds-less (rank op + side (not op.fixity.right)) (k + k + 1) y on_right right,
      ),
    )

joined-left : {A : Type 0} (k : ℕ) (x : RunTree A) (op : Infix) (y : RunTree A)
    → (op.fixity.strength == k && not op.fixity.right) ≡ true → Binds (k + k) x → Binds (k + k + 1) y
    → Binds (k + k) (RunTree.Joined x op y)
joined-left k x op y binds left right =
    let r = left-rank op.fixity.strength k op.fixity.right binds in
    let rank_is : rank op ≡ k + k = r.0 in
    let side_is : side op.fixity.right ≡ 0 = ap side r.1 in
    let other_is : side (not op.fixity.right) ≡ 1 = ap (λ b. side (not b)) r.1 in
    let least : k + k ≤ rank op = omega (arith, rank_is) in
    let on_left : rank op + side op.fixity.right ≤ k + k = omega (arith, rank_is, side_is) in
    let on_right : rank op + side (not op.fixity.right) ≤ k + k + 1 = omega (arith, rank_is, other_is) in (
      least,
      (
        binds-less (rank op + side op.fixity.right) (k + k) x on_left left,
        binds-less (rank op + side (not op.fixity.right)) (k + k + 1) y on_right right,
      ),
    )

right_step-tight : {A : Type 0} (k : ℕ) (b : Bool) (x : RunTree A) (op : Infix) (run : After (RunTree A))
    → (op.fixity.strength == k && op.fixity.right) ≡ b → Binds (k + k + 2) x → rank op < k + k + 2
    → IsTightAfter (k + k + 1) run → IsTightAfter (k + k + 1) (tree_right_step b x op run)
right_step-tight k true x op run is tight less rest = (joined-right k x op run.first is tight rest.0, rest.1)
right_step-tight k false x op run is tight less rest =
    let steps : k + k + 1 ≤ k + k + 2 = omega arith in (
      binds-less (k + k + 1) (k + k + 2) x steps tight,
      (right-other op.fixity.strength k op.fixity.right is less, (rest.0, rest.1)),
    )

right-tight : {A : Type 0} (k : ℕ) (before : List (RunTree A × Infix)) (last : RunTree A)
    → TightBefore (k + k + 2) (k + k + 2) before → Binds (k + k + 2) last
    → IsTightAfter (k + k + 1) (tree_right k before last)
right-tight k [] last tight binds =
    let steps : k + k + 1 ≤ k + k + 2 = omega arith in (binds-less (k + k + 1) (k + k + 2) last steps binds, tt)
right-tight k (p ∷ before) last tight binds =
    right_step-tight k (is_from_right k p.1) p.0 p.1 (tree_right k before last) refl tight.0 tight.1.0
    (right-tight k before last tight.1.1 binds)

left_step-tight : {A : Type 0} (k : ℕ) (b : Bool) (x : RunTree A) (op : Infix) (y : RunTree A)
    (rest : RunTree A → Before (RunTree A))
    → (op.fixity.strength == k && not op.fixity.right) ≡ b → Binds (k + k) x → rank op < k + k + 1 → Binds (k + k + 1) y
    → ((z : RunTree A) → Binds (k + k) z → IsTightBefore (k + k) (rest z))
    → IsTightBefore (k + k) (tree_left_step b x op y rest)
left_step-tight k true x op y rest is tight less right more =
    more (RunTree.Joined x op y) (joined-left k x op y is tight right)
left_step-tight k false x op y rest is tight less right more =
    let steps : k + k ≤ k + k + 1 = omega arith in
    let others = more y (binds-less (k + k) (k + k + 1) y steps right) in
    ((tight, (left-other op.fixity.strength k op.fixity.right is less, others.0)), others.1)

left-tight : {A : Type 0} (k : ℕ) (after : List (Infix × RunTree A)) (first : RunTree A)
    → Binds (k + k) first → TightAfter (k + k + 1) (k + k + 1) after → IsTightBefore (k + k) (tree_left k first after)
left-tight k [] first binds tight = (tt, binds)
left-tight k (p ∷ after) first binds tight =
    left_step-tight k (is_from_left k p.0) first p.0 p.1 (λ x. tree_left k x after) refl binds tight.0 tight.1.0
    (λ z b. left-tight k after z b tight.1.1)

-- ---- one strength after another

twice : (k : ℕ) → suc k + suc k ≡ k + k + 2
twice k = omega arith

-- a pass over operands that are tight leaves them so
pass-tight : {A : Type 0} (k : ℕ) (before : List (RunTree A × Infix)) (last : RunTree A)
    → TightBefore (suc k + suc k) (suc k + suc k) before → Binds (suc k + suc k) last
    → IsTightBefore (k + k) (tree_left k (tree_right k before last).first (tree_right k before last).after)
pass-tight k before last tight binds =
    let right = right-tight k before last (subst (λ n. TightBefore n n before) (twice k) tight)
    (subst (λ n. Binds n last) (twice k) binds) in
    let steps : k + k ≤ k + k + 1 = omega arith in
    left-tight k (tree_right k before last).after (tree_right k before last).first
    (binds-less (k + k) (k + k + 1) (tree_right k before last).first steps right.0) right.1

below-tight : {A : Type 0} (k : ℕ) (before : List (RunTree A × Infix)) (last : RunTree A)
    → TightBefore (k + k) (k + k) before → Binds (k + k) last → Binds 0 (tree_below k before last)
below-tight zero before last tight binds = binds
below-tight (suc k) before last tight binds =
    let right = tree_right k before last in
    let run = tree_left k right.first right.after in
    let now = pass-tight k before last tight binds in
    below-tight k run.before run.last now.0 now.1

abbrev pub flat_tree : {A : Type 0} → RunTree A → After A
flat_tree t = record { first = first_of t; after = after_of t }

none-weaker : {A : Type 0} (before : List (RunTree A × Infix)) (last : RunTree A) → TightBefore 0 0 before
    → flat_tree last ≡ flat (as_after before last)
none-weaker {A} [] last tight =
    ap (λ (xs : List (Infix × A)). record { first = first_of last; after = xs }) (sym (append-nil (after_of last)))
none-weaker (p ∷ before) last tight = let less = tight.1.0 in absurd (omega (arith, less))

below-flat : {A : Type 0} (k : ℕ) (before : List (RunTree A × Infix)) (last : RunTree A)
    → TightBefore (k + k) (k + k) before → Binds (k + k) last
    → flat_tree (tree_below k before last) ≡ flat (as_after before last)
below-flat zero before last tight binds = none-weaker before last tight
below-flat (suc k) before last tight binds =
    let right = tree_right k before last in
    let run = tree_left k right.first right.after in
    let now = pass-tight k before last tight binds in
    below-flat k run.before run.last now.0 now.1
    ∙ left-flat k right.after right.first ∙ right-flat k before last

-- ---- a run of operands

abbrev pub leaves : {A : Type 0} → List (A × Infix) → List (RunTree A × Infix)
leaves [] = []
leaves (p ∷ before) = (RunTree.Operand p.0, p.1) ∷ leaves before

small_rank : (s : ℕ) (b : Bool) → s < 10 → s + s + side b < 20
small_rank s true less = omega (arith, less)
small_rank s false less = omega (arith, less)

leaves-tight : {A : Type 0} (before : List (A × Infix)) → AreStrengths before → TightBefore 20 20 (leaves before)
leaves-tight [] small = tt
leaves-tight (p ∷ before) small = (tt, (small_rank p.1.fixity.strength p.1.fixity.right small.0, leaves-tight before small.1))

leaves-value : {A : Type 0} (joined : Name → A → A → A) (before : List (A × Infix)) → values_before joined (leaves before) ≡ before
leaves-value joined [] = refl
leaves-value joined (p ∷ before) = ap (λ rest. p ∷ rest) (leaves-value joined before)

leaves-flat : {A : Type 0} (before : List (A × Infix)) (last : A)
    → flat (as_after (leaves before) (RunTree.Operand last)) ≡ as_after before last
leaves-flat [] last = refl
leaves-flat {A} (p ∷ before) last =
    ap (λ (run : After A). record { first = p.0; after = (p.1, run.first) ∷ run.after }) (leaves-flat before last)

-- the tree that the passes make
abbrev pub passes : {A : Type 0} → List (A × Infix) → A → RunTree A
passes before last = tree_below 10 (leaves before) (RunTree.Operand last)

passes-are : {A : Type 0} (before : List (A × Infix)) (last : A) → AreStrengths before
    → IsTreeOf before last (passes before last)
passes-are {A} before last small =
    let same : flat_tree (passes before last) ≡ as_after before last =
    below-flat 10 (leaves before) (RunTree.Operand last) (leaves-tight before small) tt ∙ leaves-flat before last in
    record {
      binds = below-tight 10 (leaves before) (RunTree.Operand last) (leaves-tight before small) tt;
      first = ap (λ (run : After A). run.first) same;
      after = ap (λ (run : After A). run.after) same;
    }

-- a run with operators of strengths below 10 has one tree, and makes what that tree makes
pub one_tree : {A : Type 0} (joined : Name → A → A → A) (before : List (A × Infix)) (last : A) → AreStrengths before
    → IsMadeByOneTree joined before last (bind_all joined before last)
unfolding bind_all
one_tree joined before last small = record {
  tree = passes before last;
  is = passes-are before last small;
  only = λ other is.
      let made = passes-are before last small in
      unique 0 0 other (passes before last) is.binds made.binds (is.first ∙ sym made.first) (is.after ∙ sym made.after);
  makes =
      ap (λ b. bind_below joined 10 b last) (sym (leaves-value joined before))
      ∙ below-value joined 10 (leaves before) (RunTree.Operand last);
}
