-- a type of a table is no higher than the table has nodes, so that types that are one already are made one at once
use Rattle.std.proofs.Common.{◌≡◌, ℕ, zero, suc, ◌+◌, ◌-◌, ◌<◌, ◌≤◌, List, [], ◌∷◌, length, refl, sym, ap, ◌∙◌, subst, Option, Some, None, Bool, true, false, cond, arith, slice_get, get_or}
use Rattle.std.proofs.lemmas.Bool.{ltb-true, ltb-false}
use Rattle.std.proofs.lemmas.Option.{slice_get-get_or}
use Rattle.std.specs.Prelude.{ltb, max, Ok, Err}
use Rattle.semantic_objects.specs.declared.name.TyId.{TyId}
use Rattle.semantic_objects.specs.declared.name.TyId.TheVariants as id
use Rattle.semantic_objects.specs.declared.symbol.Symbol.{Symbol}
use Rattle.semantic_objects.specs.declared.symbol.Symbol.TheVariants as symbol
use Rattle.type_nodes.specs.declared.node.Node.{Node}
use Rattle.semantic_objects.proofs.Same.{symbol_same}
use Rattle.unification.specs.Types.{Ty, Types, State, put, put_all, size, size_all}
use Rattle.unification.specs.Unification.{Fault, Answer, then, unify_all, unify_in, unify_step, Solves}
use Rattle.unification.proofs.Putting.{either_way, put_solved}
use Rattle.type_nodes.specs.Tables.{Table, store_of, Has, state, whole, type_of, rank, IsHead, LinkedTo}
use Rattle.type_nodes.specs.Tables as tables
use Rattle.type_nodes.specs.Keeping.{IsKept}
use Rattle.sml_types.specs.Frames.{seen, stood_all, parts_at, symbol_at}
use Rattle.sml_types.proofs.Frames.{whole_node_at, part_has, size_some}
use Rattle.sml_types.proofs.Solving.{link_same}

abbrev mutual
  height : Ty → ℕ
  height (Ty.Var n) = 1
  height (Ty.Made c ts) = height_all ts + 1

  height_all : Types → ℕ
  height_all Types.Nil = 0
  height_all (Types.Cons t ts) = max (height t) (height_all ts)

height_some : (t : Ty) → 1 ≤ height t
height_some (Ty.Var n) = omega arith
height_some (Ty.Made c ts) = omega arith

-- types that are one already
made_parts : (c : Symbol) (ts us : Types) → Ty.Made c ts ≡ Ty.Made c us → ts ≡ us
made_parts c ts us h = cc

cons_first : (t u : Ty) (ts us : Types) → Types.Cons t ts ≡ Types.Cons u us → t ≡ u
cons_first t u ts us h = cc

cons_rest : (t u : Ty) (ts us : Types) → Types.Cons t ts ≡ Types.Cons u us → ts ≡ us
cons_rest t u ts us h = cc

abbrev Reflexive : (Ty → Ty → State → Answer) → ℕ → State → Type 0
Reflexive rec n s = (t : Ty) → put s.stands t ≡ t → height t ≤ n → rec t t s ≡ Some (Ok s)

all_reflexive : (rec : Ty → Ty → State → Answer) (n : ℕ) (s : State) (ts : Types) → Reflexive rec n s
    → put_all s.stands ts ≡ ts → height_all ts ≤ n → unify_all rec ts ts s ≡ Some (Ok s)
all_reflexive rec n s Types.Nil h e l = refl
all_reflexive rec n s (Types.Cons t ts) h e l =
    ap (λ a. then a (λ r. unify_all rec ts ts r)) (h t (cons_first _ _ _ _ e) (omega (arith, l)))
    ∙ all_reflexive rec n s ts h (cons_rest _ _ _ _ e) (omega (arith, l))

step_reflexive : (rec : Ty → Ty → State → Answer) (n : ℕ) (s : State) (u : Ty) → Reflexive rec n s → put s.stands u ≡ u
    → height u ≤ suc n → unify_step rec u u s ≡ Some (Ok s)
step_reflexive rec n s (Ty.Var v) h e l = ap Some (link_same v v s refl)
step_reflexive rec n s (Ty.Made c ts) h e l =
    ap (λ b. cond b (unify_all rec ts ts s) (Some (Err Fault.Clash))) (symbol_same c)
    ∙ all_reflexive rec n s ts h (made_parts c _ _ e) (omega (arith, l))

unify_reflexive : (n : ℕ) (s : State) (x y : Ty) → Solves s s → put s.stands x ≡ put s.stands y → height (put s.stands x) ≤ n
    → unify_in n x y s ≡ Some (Ok s)
unify_reflexive zero s x y h e l = absurd (omega (arith, l, height_some (put s.stands x)))
unify_reflexive (suc n) s x y h e l = ap (λ u. unify_step (unify_in n) (put s.stands x) u s) (sym e)
    ∙ step_reflexive (unify_in n) n s (put s.stands x)
    (λ t f k. unify_reflexive n s t t h refl (subst (λ u. height u ≤ n) (sym f) k)) (put_solved s s x h) l

-- how many of the first numbers have a value up to a bound
abbrev one_if : Bool → ℕ
one_if b = cond b 1 0

abbrev up_to : (ℕ → ℕ) → ℕ → ℕ → ℕ
up_to f k zero = 0
up_to f k (suc n) = up_to f k n + one_if (ltb (f n) (suc k))

one_at_most : (b : Bool) → one_if b ≤ 1
one_at_most true = omega arith
one_at_most false = omega arith

up_to_all : (f : ℕ → ℕ) (k n : ℕ) → up_to f k n ≤ n
up_to_all f k zero = omega arith
up_to_all f k (suc n) = omega (arith, up_to_all f k n, one_at_most (ltb (f n) (suc k)))

below_is : (x k : ℕ) → x < k → ltb x k ≡ true
below_is x k h = either_way (ltb x k) (λ e. e) (λ e. let l : k ≤ x = ltb-false x k e in absurd (omega (arith, l, h)))

above_is : (x k : ℕ) → k ≤ x → ltb x k ≡ false
above_is x k h = either_way (ltb x k) (λ e. let l : x < k = ltb-true x k e in absurd (omega (arith, l, h))) (λ e. e)

if_more : (x j k : ℕ) → j ≤ k → one_if (ltb x (suc j)) ≤ one_if (ltb x (suc k))
if_more x j k h = either_way (ltb x (suc j))
    (λ e. (let l : x < suc j = ltb-true x (suc j) e in
    let m : one_if (ltb x (suc j)) ≤ 1 = one_at_most (ltb x (suc j)) in
    let n : one_if (ltb x (suc k)) ≡ 1 = ap one_if (below_is x (suc k) (omega (arith, l, h))) in omega (arith, m, n)))
    (λ e. (let m : one_if (ltb x (suc j)) ≡ 0 = ap one_if e in omega (arith, m)))

up_to_more : (f : ℕ → ℕ) (j k n : ℕ) → j ≤ k → up_to f j n ≤ up_to f k n
up_to_more f j k zero h = omega arith
up_to_more f j k (suc n) h = omega (arith, up_to_more f j k n h, if_more (f n) j k h)

before_last : {P : Type 0} (i n : ℕ) → i < suc n → (i < n → P) → (i ≡ n → P) → P
before_last zero zero h f g = g refl
before_last zero (suc n) h f g = f (omega arith)
before_last (suc i) zero h f g = absurd (omega (arith, h))
before_last (suc i) (suc n) h f g = before_last i n (omega (arith, h)) (λ l. f (omega (arith, l))) (λ e. g (ap suc e))

up_to_one_more : (f : ℕ → ℕ) (j k i n : ℕ) → i < n → f i ≡ k → j < k → up_to f j n + 1 ≤ up_to f k n
up_to_one_more f j k i zero h e l = absurd (omega (arith, h))
up_to_one_more f j k i (suc n) h e l = before_last i n h
    (λ m. (let a : up_to f j n + 1 ≤ up_to f k n = up_to_one_more f j k i n m e l in
    let b : one_if (ltb (f n) (suc j)) ≤ one_if (ltb (f n) (suc k)) = if_more (f n) j k (omega (arith, l)) in omega (arith, a, b)))
    (λ m. (let x : f n ≡ k = ap f (sym m) ∙ e in
    let a : up_to f j n ≤ up_to f k n = up_to_more f j k n (omega (arith, l)) in
    let b : one_if (ltb (f n) (suc j)) ≡ 0 = ap one_if (above_is (f n) (suc j) (omega (arith, x, l))) in
    let c : one_if (ltb (f n) (suc k)) ≡ 1 = ap one_if (below_is (f n) (suc k) (omega (arith, x))) in omega (arith, a, b, c)))

-- what an id comes to
record HeadOf (t : Table) (a : TyId) : Type 0 where
  pub head : TyId
  pub has : Has t head
  pub is : IsHead t head
  pub whole : whole t head ≡ whole t a

head_by : (t : Table) (v : ℕ) (o : Option TyId) → IsKept t → Has t (id.Variable v)
    → ((b : TyId) → Has t b → rank t b < rank t (id.Variable v) → HeadOf t b)
    → tables.link t v ≡ o → HeadOf t (id.Variable v)
head_by t v None k h f e = record { head = id.Variable v; has = h; is = e; whole = refl }
head_by t v (Some b) k h f e =
    let m : LinkedTo t v b = k.linked v b e in
    let g : HeadOf t b = f b m.has m.falls in
    record { head = g.head; has = g.has; is = g.is; whole = g.whole ∙ sym m.whole }

head_of : (t : Table) (n : ℕ) (a : TyId) → IsKept t → Has t a → rank t a ≤ n → HeadOf t a
head_of t n (id.Made i) k h l = record { head = id.Made i; has = h; is = tt; whole = refl }
head_of t zero (id.Variable v) k h l = head_by t v (tables.link t v) k h (λ b i j. absurd (omega (arith, j, l))) refl
head_of t (suc n) (id.Variable v) k h l = head_by t v (tables.link t v) k h
    (λ b i j. head_of t n b k i (omega (arith, j, l))) refl

-- heights
abbrev node_size : Table → ℕ → ℕ
node_size t i = size (whole t (id.Made i))

abbrev Bounded : Table → ℕ → Type 0
Bounded t m = (a : TyId) → Has t a → size (whole t a) ≤ m
    → height (whole t a) ≤ up_to (node_size t) (size (whole t a)) (length t.nodes) + 1

parts_bounded : (t : Table) (m i : ℕ) (ids : List TyId) → Bounded t m → i < length t.nodes
    → ((k : ℕ) (a : TyId) → slice_get ids k ≡ Some a → Has t a) → size_all (stood_all (seen t) ids) ≤ m
    → size_all (stood_all (seen t) ids) < node_size t i
    → height_all (stood_all (seen t) ids) ≤ up_to (node_size t) (node_size t i) (length t.nodes)
parts_bounded t m i [] b l h n s = omega arith
parts_bounded t m i (a ∷ ids) b l h n s =
    let first : height (whole t a) ≤ up_to (node_size t) (size (whole t a)) (length t.nodes) + 1 =
    b a (h 0 a refl) (omega (arith, n)) in
    let more : up_to (node_size t) (size (whole t a)) (length t.nodes) + 1 ≤ up_to (node_size t) (node_size t i) (length t.nodes) =
    up_to_one_more (node_size t) (size (whole t a)) (node_size t i) i (length t.nodes) l refl (omega (arith, s)) in
    let rest : height_all (stood_all (seen t) ids) ≤ up_to (node_size t) (node_size t i) (length t.nodes) =
    parts_bounded t m i ids b l (λ k c e. h (suc k) c e) (omega (arith, n)) (omega (arith, s, size_some (whole t a))) in
    omega (arith, first, more, rest)

parts_have : (t : Table) (i : ℕ) → IsKept t → i < length t.nodes
    → (k : ℕ) (a : TyId) → slice_get (parts_at (seen t) i) k ≡ Some a → Has t a
parts_have t i k h j a e =
    let x : Node = get_or t.nodes i (record { symbol = symbol.Arrow; parts = [] }) in
    let at : slice_get t.nodes i ≡ Some x = slice_get-get_or t.nodes i (record { symbol = symbol.Arrow; parts = [] }) h in
    part_has t i j x a k.made at e

head_bounded : (t : Table) (m : ℕ) (a : TyId) → IsKept t → Bounded t m → Has t a → IsHead t a → size (whole t a) ≤ suc m
    → height (whole t a) ≤ up_to (node_size t) (size (whole t a)) (length t.nodes) + 1
head_bounded t m (id.Variable v) k b h e l =
    let i : height (whole t (id.Variable v)) ≡ 1 = ap height (k.unlinked v e) in omega (arith, i)
head_bounded t m (id.Made i) k b h e l =
    let ts : Types = stood_all (seen t) (parts_at (seen t) i) in
    let made : whole t (id.Made i) ≡ Ty.Made (symbol_at (seen t) i) ts = whole_node_at t i k h in
    let n : size (whole t (id.Made i)) ≡ size_all ts + 1 = ap size made in
    let o : height (whole t (id.Made i)) ≡ height_all ts + 1 = ap height made in
    let p : height_all ts ≤ up_to (node_size t) (node_size t i) (length t.nodes) =
    parts_bounded t m i (parts_at (seen t) i) b h (parts_have t i k h) (omega (arith, n, l)) (omega (arith, n)) in
    omega (arith, o, p)

bounded : (t : Table) (m : ℕ) → IsKept t → Bounded t m
bounded t zero k a h l = absurd (omega (arith, l, size_some (whole t a)))
bounded t (suc m) k a h l =
    let g : HeadOf t a = head_of t (rank t a) a k h (omega arith) in
    subst (λ u. height u ≤ up_to (node_size t) (size u) (length t.nodes) + 1) g.whole
    (head_bounded t m g.head k (bounded t m k) g.has g.is (subst (λ u. size u ≤ suc m) (sym g.whole) l))

pub height_bound : (t : Table) (a : TyId) → IsKept t → Has t a → height (whole t a) ≤ length t.nodes + 1
height_bound t a k h =
    let i : height (whole t a) ≤ up_to (node_size t) (size (whole t a)) (length t.nodes) + 1 =
    bounded t (size (whole t a)) k a h (omega arith) in
    omega (arith, i, up_to_all (node_size t) (size (whole t a)) (length t.nodes))

-- two ids that stand for one type
pub same_unifies : (t : Table) (d : ℕ) (a b : TyId) → IsKept t → Has t a → put (state t).stands (type_of t a)
    ≡ put (state t).stands (type_of t b) → 0 < d → length t.nodes < d - 1
    → unify_in d (type_of t a) (type_of t b) (state t) ≡ Some (Ok (state t))
same_unifies t d a b k h e z l = unify_reflexive d (state t) (type_of t a) (type_of t b) k.fit.settled.solves e
    (let i : height (whole t a) ≤ length t.nodes + 1 = height_bound t a k h in omega (arith, i, z, l))
