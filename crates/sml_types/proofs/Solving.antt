-- a variable, and what is put in for it
use Rattle.std.proofs.Common.{◌≡◌, ℕ, zero, suc, ◌+◌, ◌<◌, ◌≤◌, List, [], ◌∷◌, ◌++◌, length, refl, sym, ap, ap₂, ◌∙◌, subst, Option, Some, None, Bool, true, false, cond, arith, slice_get, take}
use Rattle.std.proofs.lemmas.Bool.{eq-eqb, eqb-true, ltb-true, ltb-false}
use Rattle.std.proofs.lemmas.Option.{get_or_from_slice_get}
use Rattle.std.proofs.lemmas.List.{length-append}
use Rattle.std.proofs.Math.Seq.{take-append_seam}
use Rattle.std.specs.Prelude.{eqb, ltb, Result, Ok, Err}
use Rattle.semantic_objects.specs.declared.name.TyId.{TyId}
use Rattle.semantic_objects.specs.declared.name.TyId.TheVariants as id
use Rattle.unification.specs.Types.{Ty, Marks, State, put, occurs, admits, require}
use Rattle.unification.specs.Unification.{Fault, bind, bound_where, assign, link_by, link, solve}
use Rattle.unification.proofs.Putting.{either_way, put_free}
use Rattle.unification.proofs.Requiring.{Demanded, Admits, requires}
use Rattle.type_nodes.specs.declared.node.Birth.{Birth}
use Rattle.type_nodes.specs.declared.entry.Entry.{Entry}
use Rattle.type_nodes.specs.Nodes.{rigid_in}
use Rattle.type_nodes.specs.Tables.{Table, Has, state, whole, type_of, rank, IsHead, IsEnd, bound_in, with_entry}
use Rattle.type_nodes.specs.Keeping.{IsOpen, MayStand, IsKept}
use Rattle.type_nodes.proofs.Binding.{rank_open}
use Rattle.sml_types.specs.declared.fault.TypeFault.{TypeFault}
use Rattle.sml_types.specs.declared.fault.TypeFault.TheVariants as fault
use Rattle.sml_types.specs.Requiring.{MarksMore}
use Rattle.sml_types.specs.Unifying.{Grown, NamesOwn, Solved}

-- growth
pub take_whole : {X : Type 0} (xs : List X) → take (length xs) xs ≡ xs
take_whole [] = refl
take_whole (x ∷ xs) = ap (λ l. x ∷ l) (take_whole xs)

pub grown_same : (t : Table) → Grown t t
grown_same t = record { births = refl; nodes = refl; front = take_whole t.trail; longer = omega arith }

take_front : {X : Type 0} (xs ys zs : List X) → take (length xs) ys ≡ xs → take (length ys) zs ≡ ys → length xs ≤ length ys
    → take (length xs) zs ≡ xs
take_front [] ys zs h k l = refl
take_front (x ∷ xs) [] zs h k l = absurd (omega (arith, l))
take_front (x ∷ xs) (y ∷ ys) [] h k l = absurd (cc)
take_front (x ∷ xs) (y ∷ ys) (z ∷ zs) h k l =
    let a : take (length xs) ys ≡ xs = cc in
    let b : take (length ys) zs ≡ ys = cc in
    let c : x ≡ y = cc in
    let d : y ≡ z = cc in
    ap₂ ◌∷◌ (sym (c ∙ d)) (take_front xs ys zs a b (omega (arith, l)))

pub grown_then : (a b c : Table) → Grown a b → Grown b c → Grown a c
grown_then a b c h k = record {
  births = k.births ∙ h.births;
  nodes = k.nodes ∙ h.nodes;
  front = take_front a.trail b.trail c.trail h.front k.front h.longer;
  longer = omega (arith, h.longer, k.longer);
}

pub grown_marks : (a b : Table) → MarksMore a b → Grown a b
grown_marks a b h = record { births = h.births; nodes = h.nodes; front = h.front; longer = h.longer }

pub grown_entry : (t : Table) (e : Entry) → Grown t (with_entry e t)
grown_entry t e = record {
  births = refl;
  nodes = refl;
  front = take-append_seam t.trail (e ∷ []);
  longer = (let k : length (t.trail ++ e ∷ []) ≡ length t.trail + 1 = length-append t.trail (e ∷ []) in omega (arith, k));
}

pub grown_to : (a b c : Table) (e : Entry) → Grown a b → c ≡ with_entry e b → Grown a c
grown_to a b c e h k = subst (Grown a) (sym k) (grown_then a b (with_entry e b) h (grown_entry b e))

-- the ids of a fault are ids of the table before
has_back : (a b : Table) (x : TyId) → b.births ≡ a.births → b.nodes ≡ a.nodes → Has b x → Has a x
has_back a b (id.Variable v) h k l = subst (λ bs. v < length bs) h l
has_back a b (id.Made i) h k l = subst (λ ns. i < length ns) k l

pub named_back : (a b : Table) (r : Result (Unit {0}) TypeFault) → b.births ≡ a.births → b.nodes ≡ a.nodes → NamesOwn b r → NamesOwn a r
named_back a b (Ok done) h k n = tt
named_back a b (Err (fault.Clash x y)) h k n = (has_back a b x h k n.0, has_back a b y h k n.1)
named_back a b (Err (fault.Circular x y)) h k n = (has_back a b x h k n.0, has_back a b y h k n.1)
named_back a b (Err (fault.NotEquality x)) h k n = has_back a b x h k n
named_back a b (Err fault.NoMemory) h k n = tt

-- a birth that was read
pub rigid_read : (births : List Birth) (v : ℕ) (b : Birth) → slice_get births v ≡ Some b → rigid_in births v ≡ b.rigid
rigid_read births v b h = ap (λ (x : Birth). x.rigid) (get_or_from_slice_get births v b (record { marked = false; rigid = false }) h)

-- what stands at an id after marks were added
whole_marks : (a b : Table) (x : TyId) → MarksMore a b → whole b x ≡ whole a x
whole_marks a b (id.Variable v) h = ap (λ f. f v) h.stands
whole_marks a b (id.Made i) h = ap₂ (λ f ns. put f (type_of (record { births = []; nodes = ns; trail = [] }) (id.Made i))) h.stands h.nodes

head_marks : (a b : Table) (x : TyId) → MarksMore a b → IsHead a x → IsHead b x
head_marks a b (id.Variable v) h k = h.links v ∙ k
head_marks a b (id.Made i) h k = k

has_marks : (a b : Table) (x : TyId) → MarksMore a b → Has a x → Has b x
has_marks a b (id.Variable v) h k = subst (λ bs. v < length bs) (sym h.births) k
has_marks a b (id.Made i) h k = subst (λ ns. i < length ns) (sym h.nodes) k

rank_marks : (a b : Table) (x : TyId) → MarksMore a b → rank b x ≡ rank a x
rank_marks a b (id.Variable v) h = ap (λ bs. cond (rigid_in bs v) 0 (v + 1)) h.births
rank_marks a b (id.Made i) h = refl

open_marks : (a b : Table) (v : ℕ) → MarksMore a b → IsOpen a v → IsOpen b v
open_marks a b v h k = record {
  within = subst (λ bs. v < length bs) (sym h.births) k.within;
  unlinked = h.links v ∙ k.unlinked;
  flexible = ap (λ bs. rigid_in bs v) h.births ∙ k.flexible;
}

-- a marked variable takes a type that was made an equality type
needed : (u : Ty) (rigid q r : Marks) (o : Option Marks) → o ≡ Some r → Demanded (Admits u) rigid q o → admits r u ≡ true
needed u rigid q r None e h = absurd (cc)
needed u rigid q r (Some x) e h =
    let k : x ≡ r = cc in
    let free : State = record { next = 0; stands = Ty.Var; marks = x; rigid = rigid } in
    let i : admits x (put Ty.Var u) ≡ true = h.given free (λ n j. j) in
    subst (λ z. admits z u ≡ true) k (subst (λ t. admits x t ≡ true) (put_free u) i)

pub may_stand_marked : (a b : Table) (v : ℕ) (x : TyId) → IsOpen a v → Has a x → IsHead a x → occurs v (whole a x) ≡ false
    → rank a x < rank a (id.Variable v) → MarksMore a b
    → require (state a).rigid (whole a x) (state a).marks ≡ Some (state b).marks → MayStand b v x
may_stand_marked a b v x at has head absent falls m e = record {
  at = open_marks a b v m at;
  has = has_marks a b x m has;
  head = head_marks a b x m head;
  absent = ap (occurs v) (whole_marks a b x m) ∙ absent;
  admitted = λ k. ap (admits (state b).marks) (whole_marks a b x m)
      ∙ needed (whole a x) (state a).rigid (state a).marks (state b).marks (require (state a).rigid (whole a x) (state a).marks) e
      (requires (whole a x) (state a).rigid (state a).marks);
  falls = (let i : rank b x ≡ rank a x = rank_marks a b x m in
      let j : rank b (id.Variable v) ≡ rank a (id.Variable v) = rank_marks a b (id.Variable v) m in omega (arith, i, j, falls));
}

pub may_stand_plain : (t : Table) (v : ℕ) (x : TyId) → IsOpen t v → Has t x → IsHead t x → occurs v (whole t x) ≡ false
    → rank t x < rank t (id.Variable v) → (state t).marks v ≡ false → MayStand t v x
may_stand_plain t v x at has head absent falls e = record {
  at = at;
  has = has;
  head = head;
  absent = absent;
  falls = falls;
  admitted = λ k. (let i : true ≡ false = sym k ∙ e in absurd (cc));
}

-- what assigning answers
assign_by : (v : ℕ) (u : Ty) (s : State) (b : Bool) → s.marks v ≡ b
    → assign v u s ≡ bound_where v u s (cond b (require s.rigid u s.marks) (Some s.marks))
assign_by v u s b h = ap (λ z. bound_where v u s (cond z (require s.rigid u s.marks) (Some s.marks))) h

pub state_path : (s r : State) → s.next ≡ r.next → s.stands ≡ r.stands → s.marks ≡ r.marks → s.rigid ≡ r.rigid → s ≡ r
state_path s r a b c d = λ i. record { next = a i; stands = b i; marks = c i; rigid = d i }

pub assigned_marked : (a b : Table) (v : ℕ) (x : TyId) (r : State) → IsKept a → IsKept b → (state a).marks v ≡ true → MarksMore a b
    → require (state a).rigid (whole a x) (state a).marks ≡ Some (state b).marks → r ≡ bound_in v (whole b x) (state b)
    → assign v (whole a x) (state a) ≡ Ok r
assigned_marked a b v x r k l e m h g = assign_by v (whole a x) (state a) true e
    ∙ ap (bound_where v (whole a x) (state a)) h
    ∙ ap Ok (state_path _ _ (k.next ∙ ap length (sym m.births) ∙ sym l.next)
    (ap₂ (λ u f. bind v u f) (sym (whole_marks a b x m)) (sym m.stands)) refl
    (k.rigid ∙ ap rigid_in (sym m.births) ∙ sym l.rigid) ∙ sym g)

pub refused_marked : (v : ℕ) (u : Ty) (s : State) → s.marks v ≡ true → require s.rigid u s.marks ≡ None
    → assign v u s ≡ Err Fault.NotEquality
refused_marked v u s e h = assign_by v u s true e ∙ ap (bound_where v u s) h

pub assigned_plain : (v : ℕ) (u : Ty) (s r : State) → s.marks v ≡ false → r ≡ bound_in v u s → assign v u s ≡ Ok r
assigned_plain v u s r e g = assign_by v u s false e ∙ ap Ok (sym g)

-- two variables
end_whole : (t : Table) (v : ℕ) → IsEnd t (id.Variable v) → whole t (id.Variable v) ≡ Ty.Var v
end_whole t v h = h.1

unlike : (v w : ℕ) → (v ≡ w → ⊥) → eqb v w ≡ false
unlike v w h = either_way (eqb v w) (λ e. absurd (h (eqb-true v w e))) (λ e. e)

pub open_at : (t : Table) (v : ℕ) → v < length t.births → IsEnd t (id.Variable v) → rigid_in t.births v ≡ false → IsOpen t v
open_at t v l h r = record { within = l; unlinked = h.0; flexible = r }

pub absent_variable : (t : Table) (v w : ℕ) → IsEnd t (id.Variable w) → (v ≡ w → ⊥) → occurs v (whole t (id.Variable w)) ≡ false
absent_variable t v w h d = ap (occurs v) h.1 ∙ unlike v w d

pub falls_older : (t : Table) (v w : ℕ) → rigid_in t.births v ≡ false → w < v → rank t (id.Variable w) < rank t (id.Variable v)
falls_older t v w r h = either_way (rigid_in t.births w)
    (λ e. (let i : rank t (id.Variable v) ≡ v + 1 = rank_open t v r in
    let j : rank t (id.Variable w) ≡ 0 = ap (λ b. cond b 0 (w + 1)) e in omega (arith, i, j)))
    (λ e. (let i : rank t (id.Variable v) ≡ v + 1 = rank_open t v r in
    let j : rank t (id.Variable w) ≡ w + 1 = rank_open t w e in omega (arith, i, j, h)))

pub falls_rigid : (t : Table) (v w : ℕ) → rigid_in t.births v ≡ false → rigid_in t.births w ≡ true
    → rank t (id.Variable w) < rank t (id.Variable v)
falls_rigid t v w r h =
    let i : rank t (id.Variable v) ≡ v + 1 = rank_open t v r in
    let j : rank t (id.Variable w) ≡ 0 = ap (λ b. cond b 0 (w + 1)) h in omega (arith, i, j)

pub falls_made : (t : Table) (v i : ℕ) → rigid_in t.births v ≡ false → rank t (id.Made i) < rank t (id.Variable v)
falls_made t v i r = (let k : rank t (id.Variable v) ≡ v + 1 = rank_open t v r in omega (arith, k))

pub solved_as : (want got : Result State Fault) (r : Result (Unit {0}) TypeFault) (new : State) → got ≡ want → Solved want r new → Solved got r new
solved_as want got r new e h = subst (λ w. Solved w r new) (sym e) h

linked_by : (v w : ℕ) (s : State) (a b : Bool) → (v ≡ w → ⊥) → s.rigid v ≡ a → s.rigid w ≡ b → link v w s ≡ link_by a b v w s
linked_by v w s a b d e f = ap (λ z. cond z (Ok s) (link_by (s.rigid v) (s.rigid w) v w s)) (unlike v w d)
    ∙ ap₂ (λ x y. link_by x y v w s) e f

pub link_same : (v w : ℕ) (s : State) → v ≡ w → link v w s ≡ Ok s
link_same v w s e = ap (λ z. cond z (Ok s) (link_by (s.rigid v) (s.rigid w) v w s)) (eq-eqb v w e)

pub link_rigid : (v w : ℕ) (s : State) → (v ≡ w → ⊥) → s.rigid v ≡ true → s.rigid w ≡ true → link v w s ≡ Err Fault.Clash
link_rigid v w s d e f = linked_by v w s true true d e f

pub link_first : (t : Table) (v w : ℕ) → IsEnd t (id.Variable w) → (v ≡ w → ⊥) → (state t).rigid v ≡ false → (state t).rigid w ≡ true
    → link v w (state t) ≡ assign v (whole t (id.Variable w)) (state t)
link_first t v w h d e f = linked_by v w (state t) false true d e f ∙ ap (λ u. assign v u (state t)) (sym h.1)

pub link_second : (t : Table) (v w : ℕ) → IsEnd t (id.Variable v) → (v ≡ w → ⊥) → (state t).rigid v ≡ true → (state t).rigid w ≡ false
    → link v w (state t) ≡ assign w (whole t (id.Variable v)) (state t)
link_second t v w h d e f = linked_by v w (state t) true false d e f ∙ ap (λ u. assign w u (state t)) (sym h.1)

is_below : (v w : ℕ) → v < w → ltb v w ≡ true
is_below v w h = either_way (ltb v w) (λ e. e) (λ e. let l : w ≤ v = ltb-false v w e in absurd (omega (arith, l, h)))

pub link_younger_second : (t : Table) (v w : ℕ) → IsEnd t (id.Variable v) → v < w → (state t).rigid v ≡ false
    → (state t).rigid w ≡ false → link v w (state t) ≡ assign w (whole t (id.Variable v)) (state t)
link_younger_second t v w h l e f = linked_by v w (state t) false false (λ i. omega (arith, i, l)) e f
    ∙ ap (λ z. cond z (assign w (Ty.Var v) (state t)) (assign v (Ty.Var w) (state t))) (is_below v w l)
    ∙ ap (λ u. assign w u (state t)) (sym h.1)

pub link_younger_first : (t : Table) (v w : ℕ) → IsEnd t (id.Variable w) → w < v → (state t).rigid v ≡ false
    → (state t).rigid w ≡ false → link v w (state t) ≡ assign v (whole t (id.Variable w)) (state t)
link_younger_first t v w h l e f = linked_by v w (state t) false false (λ i. omega (arith, i, l)) e f
    ∙ ap (λ z. cond z (assign w (Ty.Var v) (state t)) (assign v (Ty.Var w) (state t)))
    (either_way (ltb v w) (λ x. let k : v < w = ltb-true v w x in absurd (omega (arith, k, l))) (λ x. x))
    ∙ ap (λ u. assign v u (state t)) (sym h.1)

-- a variable and a node
pub solve_rigid : (v : ℕ) (u : Ty) (s : State) → s.rigid v ≡ true → solve v u s ≡ Err Fault.Clash
solve_rigid v u s e = ap (λ z. cond z (Err Fault.Clash) (cond (occurs v u) (Err Fault.Circular) (assign v u s))) e

pub solve_circular : (v : ℕ) (u : Ty) (s : State) → s.rigid v ≡ false → occurs v u ≡ true → solve v u s ≡ Err Fault.Circular
solve_circular v u s e f = ap (λ z. cond z (Err Fault.Clash) (cond (occurs v u) (Err Fault.Circular) (assign v u s))) e
    ∙ ap (λ z. cond z (Err Fault.Circular) (assign v u s)) f

pub solve_assigns : (v : ℕ) (u : Ty) (s : State) → s.rigid v ≡ false → occurs v u ≡ false → solve v u s ≡ assign v u s
solve_assigns v u s e f = ap (λ z. cond z (Err Fault.Clash) (cond (occurs v u) (Err Fault.Circular) (assign v u s))) e
    ∙ ap (λ z. cond z (Err Fault.Circular) (assign v u s)) f

pub older_of : (v w : ℕ) → (v ≡ w → ⊥) → w ≤ v → w < v
older_of zero zero d h = absurd (d refl)
older_of zero (suc w) d h = absurd (omega (arith, h))
older_of (suc v) zero d h = omega arith
older_of (suc v) (suc w) d h = (let k : w < v = older_of v w (λ e. d (ap suc e)) (omega (arith, h)) in omega (arith, k))
