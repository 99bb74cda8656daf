-- one entry more keeps what holds of tables
use Rattle.std.proofs.Common.{◌≡◌, ℕ, zero, suc, ◌+◌, ◌<◌, ◌≤◌, List, [], length, refl, sym, ap, ap₂, ◌∙◌, subst, Option, Some, None, Bool, true, false, cond, arith, slice_get, get_or}
use Rattle.std.proofs.lemmas.Option.{slice_get-get_or}
use Rattle.std.proofs.lemmas.Bool.{eq-eqb, eqb-true, ltb-true}
use Rattle.std.specs.Prelude.{eqb, ltb, ◌||◌, Result, Ok, Err}
use Rattle.semantic_objects.specs.declared.name.TyId.{TyId}
use Rattle.semantic_objects.specs.declared.name.TyId.TheVariants as id
use Rattle.semantic_objects.specs.declared.symbol.Symbol.TheVariants as symbol
use Rattle.unification.specs.Types.{Ty, Types, Marks, State, put, put_all, occurs, admits, admits_all, require, require_all, marked, equality_of, where_parts, required_by, require_variable, and_then}
use Rattle.unification.specs.Unification.{single, bound_where, assign, link_by, unify_in, Solves, IsMostGeneral, MakesEqual, unify_step, Fault}
use Rattle.unification.specs.Fitting.{IsFit, IsBelow}
use Rattle.unification.specs.declared.equality.Equality.{Equality}
use Rattle.unification.specs.declared.equality.Equality.TheVariants as equality
use Rattle.unification.proofs.Putting.{either_way, put-put, put_solved, one_other, and_left, and_right, or_either, or_left, or_right}
use Rattle.unification.proofs.Requiring.{admits_more}
use Rattle.unification.proofs.General.{most_general}
use Rattle.unification.proofs.Fitting.{fit_unified, put_below}
use Rattle.type_nodes.specs.declared.node.Birth.{Birth}
use Rattle.type_nodes.specs.declared.node.Node.{Node}
use Rattle.type_nodes.specs.Nodes.{AreMade, types_in, made, born, rigid_in}
use Rattle.type_nodes.proofs.Making.{type_below}
use Rattle.type_nodes.specs.declared.entry.Entry.TheVariants as entry
use Rattle.type_nodes.specs.Tables.{Table, store_of, Has, type_of, bound_in, marked_state, state, whole, link, rank, LinkedTo, IsHead, with_entry}
use Rattle.type_nodes.specs.Keeping.{MayStand, MayMark, IsKept}
use Rattle.type_nodes.proofs.Playing.{after_snoc, link_bound, link_marked}

pub same_marks : (p q : Marks) → ((n : ℕ) → p n ≡ q n) → p ≡ q
same_marks p q h = λ i n. h n i

already : (n m : ℕ) (q : Marks) (b : Bool) → eqb n m ≡ b → q n ≡ true → (b || q m) ≡ q m
already n m q true e h = sym (sym (ap q (eqb-true n m e)) ∙ h)
already n m q false e h = refl

admitted_variable : (r : Bool) (n : ℕ) (q : Marks) → q n ≡ true → require_variable r (q n) n q ≡ Some q
admitted_variable false n q h = ap Some (same_marks (marked n q) q (λ m. already n m q (eqb n m) refl h))
admitted_variable true n q h = ap (λ b. require_variable true b n q) h

admitted_kind : (k : Equality) (b : Bool) (q : Marks) (o : Option Marks) → where_parts k b ≡ true → (b ≡ true → o ≡ Some q)
    → required_by k q o ≡ Some q
admitted_kind equality.Never b q o h f = absurd (cc)
admitted_kind equality.Always b q o h f = refl
admitted_kind equality.ByParts b q o h f = f h

-- of a type that admits equality nothing is required
mutual
  pub require_admitted : (rigid q : Marks) (t : Ty) → admits q t ≡ true → require rigid t q ≡ Some q
  require_admitted rigid q (Ty.Var n) h = admitted_variable (rigid n) n q h
  require_admitted rigid q (Ty.Made c ts) h = admitted_kind (equality_of c) (admits_all q ts) q (require_all rigid ts q) h
      (λ e. require_all_admitted rigid q ts e)

  pub require_all_admitted : (rigid q : Marks) (ts : Types) → admits_all q ts ≡ true → require_all rigid ts q ≡ Some q
  require_all_admitted rigid q Types.Nil h = refl
  require_all_admitted rigid q (Types.Cons t ts) h =
      ap (λ o. and_then o (require_all rigid ts)) (require_admitted rigid q t (and_left (admits q t) (admits_all q ts) h))
      ∙ require_all_admitted rigid q ts (and_right (admits q t) (admits_all q ts) h)

assigned : (v : ℕ) (u : Ty) (s : State) (b : Bool) → (b ≡ true → admits s.marks u ≡ true)
    → bound_where v u s (cond b (require s.rigid u s.marks) (Some s.marks)) ≡ Ok (bound_in v u s)
assigned v u s true h = ap (bound_where v u s) (require_admitted s.rigid s.marks u (h refl))
assigned v u s false h = refl

pub assign_is : (v : ℕ) (u : Ty) (s : State) → (s.marks v ≡ true → admits s.marks u ≡ true)
    → assign v u s ≡ Ok (bound_in v u s)
assign_is v u s h = assigned v u s (s.marks v) h

linked_by : (v w : ℕ) (s : State) (b : Bool) → (b ≡ false → ltb v w ≡ false)
    → link_by false b v w s ≡ assign v (Ty.Var w) s
linked_by v w s true h = refl
linked_by v w s false h = ap (λ z. cond z (assign w (Ty.Var v) s) (assign v (Ty.Var w) s)) (h refl)

-- a type that is put in is what unification puts in
step_bound : (rec : Ty → Ty → State → Option (Result State Fault)) (v : ℕ) (u : Ty) (s : State)
    → s.rigid v ≡ false → occurs v u ≡ false
    → (s.marks v ≡ true → admits s.marks u ≡ true)
    → ((w : ℕ) → u ≡ Ty.Var w → s.rigid w ≡ false → ltb v w ≡ false)
    → unify_step rec (Ty.Var v) u s ≡ Some (Ok (bound_in v u s))
step_bound rec v (Ty.Var w) s flexible absent admitted younger =
    ap Some (ap (λ b. cond b (Ok s) (link_by (s.rigid v) (s.rigid w) v w s)) absent
    ∙ ap (λ b. link_by b (s.rigid w) v w s) flexible
    ∙ linked_by v w s (s.rigid w) (younger w refl) ∙ assign_is v (Ty.Var w) s admitted)
step_bound rec v (Ty.Made c ts) s flexible absent admitted younger =
    ap Some (ap (λ b. cond b (Err Fault.Clash) (cond (occurs v (Ty.Made c ts)) (Err Fault.Circular) (assign v (Ty.Made c ts) s))) flexible
    ∙ ap (λ b. cond b (Err Fault.Circular) (assign v (Ty.Made c ts) s)) absent
    ∙ assign_is v (Ty.Made c ts) s admitted)

-- what stands at a node
pub node_whole : (t : Table) (i : ℕ) (x : Node) → AreMade (store_of t) → slice_get t.nodes i ≡ Some x
    → whole t (id.Made i) ≡ Ty.Made x.symbol (put_all (state t).stands (types_in (made t.nodes) x.parts))
node_whole t i x h e = ap (put (state t).stands) (h.noted i x e)

no_node : Node
no_node = record { symbol = symbol.Arrow; parts = [] }

some_node : (t : Table) (i : ℕ) → i < length t.nodes → slice_get t.nodes i ≡ Some (get_or t.nodes i no_node)
some_node t i l = slice_get-get_or t.nodes i no_node l

made_variable : (t : Table) (i w : ℕ) (x : Node) (ts : Types) → whole t (id.Made i) ≡ Ty.Made x.symbol ts
    → whole t (id.Made i) ≡ Ty.Var w → ⊥
made_variable t i w x ts h e = let k : Ty.Made x.symbol ts ≡ Ty.Var w = sym h ∙ e in cc

var_is : (v w : ℕ) → Ty.Var v ≡ Ty.Var w → v ≡ w
var_is v w h = cc

below_not : (v w : ℕ) → w ≤ v → ltb v w ≡ false
below_not v w h = either_way (ltb v w) (λ e. let l : v < w = ltb-true v w e in absurd (omega (arith, l, h))) (λ e. e)

pub rank_open : (t : Table) (v : ℕ) → rigid_in t.births v ≡ false → rank t (id.Variable v) ≡ v + 1
rank_open t v h = ap (λ b. cond b 0 (v + 1)) h

-- a head that is put in is younger than no variable that isn't rigid
pub head_younger : (t : Table) (v : ℕ) (a : TyId) → IsKept t → rigid_in t.births v ≡ false → Has t a → IsHead t a
    → rank t a < rank t (id.Variable v) → (w : ℕ) → whole t a ≡ Ty.Var w → (state t).rigid w ≡ false → ltb v w ≡ false
head_younger t v (id.Variable x) k flexible has head falls w e r =
    let same : x ≡ w = var_is x w (sym (k.unlinked x head) ∙ e) in
    let this : rank t (id.Variable v) ≡ v + 1 = rank_open t v flexible in
    let that : rank t (id.Variable x) ≡ x + 1 = rank_open t x (ap (rigid_in t.births) same ∙ sym (ap (λ f. f w) k.rigid) ∙ r) in
    below_not v w (omega (arith, same, this, that, falls))
head_younger t v (id.Made i) k flexible has head falls w e r =
    absurd (made_variable t i w (get_or t.nodes i no_node) _ (node_whole t i (get_or t.nodes i no_node) k.made (some_node t i has)) e)

-- everything is put in already
pub whole_put : (t : Table) (a : TyId) → IsKept t → put (state t).stands (whole t a) ≡ whole t a
whole_put t a k = put_solved (state t) (state t) (type_of t a) k.fit.settled.solves

pub bound_unifies : (t : Table) (v : ℕ) (a : TyId) → IsKept t → MayStand t v a
    → unify_in (suc zero) (Ty.Var v) (whole t a) (state t) ≡ Some (Ok (bound_in v (whole t a) (state t)))
bound_unifies t v a k m =
    ap₂ (λ x y. unify_step (unify_in zero) x y (state t)) (k.unlinked v m.at.unlinked) (whole_put t a k)
    ∙ step_bound (unify_in zero) v (whole t a) (state t) (ap (λ f. f v) k.rigid ∙ m.at.flexible) m.absent m.admitted
    (head_younger t v a k m.at.flexible m.has m.head m.falls)

below_variable : (n v : ℕ) → v < n → IsBelow n (Ty.Var v)
below_variable n v h m e = let k : m ≡ v = eqb-true m v e in omega (arith, k, h)

pub whole_below : (t : Table) (a : TyId) → IsKept t → Has t a → IsBelow (state t).next (whole t a)
whole_below t a k h = put_below (state t) (type_of t a) k.fit
    (subst (λ n. IsBelow n (type_of t a)) (sym k.next) (type_below (store_of t) a k.made h))

-- the state after a type was put in
pub record Put (t : Table) (v : ℕ) (a : TyId) (r : State) : Type 0 where
  pub fit : IsFit r
  pub solves : Solves r (state t)
  pub same : r.stands v ≡ put r.stands (whole t a)

pub put_in : (t : Table) (v : ℕ) (a : TyId) → IsKept t → MayStand t v a → Put t v a (bound_in v (whole t a) (state t))
put_in t v a k m =
    let r : State = bound_in v (whole t a) (state t) in
    let e : unify_in (suc zero) (Ty.Var v) (whole t a) (state t) ≡ Some (Ok r) = bound_unifies t v a k m in
    let g : IsMostGeneral (state t) r (MakesEqual (Ty.Var v) (whole t a)) =
    most_general (suc zero) (Ty.Var v) (whole t a) (state t) (Ok r) k.fit.settled e in
    let n : Solves r (state t) × (put r.stands (Ty.Var v) ≡ put r.stands (whole t a)) = g.sound r g.settled.solves in
    record {
      fit = fit_unified (suc zero) (Ty.Var v) (whole t a) (state t) r k.fit
          (below_variable (state t).next v (subst (λ z. v < z) (sym k.next) m.at.within)) (whole_below t a k m.has) e;
      solves = n.0;
      same = n.1;
    }

link_cases : {P : Type 0} (b : Bool) (a c : TyId) (o : Option TyId) → cond b (Some a) o ≡ Some c
    → (b ≡ true → a ≡ c → P) → (b ≡ false → o ≡ Some c → P) → P
link_cases true a c o h f g = f refl (cc)
link_cases false a c o h f g = g refl h

unlinked_cases : (b : Bool) (a : TyId) (o : Option TyId) → cond b (Some a) o ≡ None → (b ≡ false) × (o ≡ None)
unlinked_cases true a o h = absurd (cc)
unlinked_cases false a o h = (refl, h)

bound_at : (t : Table) (v : ℕ) (a : TyId) (r : State) → Put t v a r → MayStand t v a
    → state (with_entry (entry.Bound v a) t) ≡ r → LinkedTo (with_entry (entry.Bound v a) t) v a
bound_at t v a r p m e = record {
  whole = ap (λ s. s.stands v) e ∙ p.same ∙ put_solved r (state t) (type_of t a) p.solves
      ∙ sym (ap (λ (s : State). put s.stands (type_of t a)) e);
  has = m.has;
  falls = m.falls;
}

pub bound_other : (t : Table) (v w : ℕ) (a b : TyId) → LinkedTo t w b
    → state (with_entry (entry.Bound v a) t) ≡ bound_in v (whole t a) (state t)
    → LinkedTo (with_entry (entry.Bound v a) t) w b
bound_other t v w a b l e = record {
  whole = ap (λ s. s.stands w) e ∙ ap (put (single v (whole t a))) l.whole
      ∙ put-put (single v (whole t a)) (state t).stands (type_of t b)
      ∙ sym (ap (λ (s : State). put s.stands (type_of t b)) e);
  has = l.has;
  falls = l.falls;
}

pub state_bound : (t : Table) (v : ℕ) (a : TyId)
    → state (with_entry (entry.Bound v a) t) ≡ bound_in v (whole t a) (state t)
state_bound t v a = after_snoc (made t.nodes) (born t.births) t.trail (entry.Bound v a)

pub state_marked : (t : Table) (v : ℕ) → state (with_entry (entry.Marked v) t) ≡ marked_state v (state t)
state_marked t v = after_snoc (made t.nodes) (born t.births) t.trail (entry.Marked v)

pub kept_bound : (t : Table) (v : ℕ) (a : TyId) → IsKept t → MayStand t v a → IsKept (with_entry (entry.Bound v a) t)
kept_bound t v a k m =
    let r : State = bound_in v (whole t a) (state t) in
    let e : state (with_entry (entry.Bound v a) t) ≡ r = state_bound t v a in
    let p : Put t v a r = put_in t v a k m in
    record {
      made = k.made;
      fit = subst IsFit (sym e) p.fit;
      next = ap (λ (s : State). s.next) e ∙ k.next;
      rigid = ap (λ (s : State). s.rigid) e ∙ k.rigid;
      unlinked = λ w h. (let i = unlinked_cases (eqb v w) a (link t w) (sym (link_bound w v a None t.trail) ∙ h) in
          ap (λ (s : State). s.stands w) e ∙ ap (put (single v (whole t a))) (k.unlinked w i.1) ∙ one_other v w (whole t a) i.0);
      linked = λ w b h. link_cases (eqb v w) a b (link t w) (sym (link_bound w v a None t.trail) ∙ h)
          (λ i j. subst (LinkedTo (with_entry (entry.Bound v a) t) w) j
          (subst (λ z. LinkedTo (with_entry (entry.Bound v a) t) z a) (eqb-true v w i) (bound_at t v a r p m e)))
          (λ i j. bound_other t v w a b (k.linked w b j) e);
      steady = λ w h. ap (λ (s : State). s.marks w) e ∙ k.steady w h;
    }

-- a variable that is marked
marked_more : (v n : ℕ) (q : Marks) → q n ≡ true → marked v q n ≡ true
marked_more v n q h = or_right (eqb v n) (q n) h

pub fit_marked : (v : ℕ) (s : State) → IsFit s → v < s.next → s.stands v ≡ Ty.Var v → IsFit (marked_state v s)
fit_marked v s h l free = record {
  settled = record {
    solves = record {
      types = h.settled.solves.types;
      marks = λ n k. or_either (eqb v n) (s.marks n) k
          (λ e. subst (λ z. admits (marked v s.marks) (s.stands z) ≡ true) (eqb-true v n e)
          (subst (λ z. admits (marked v s.marks) z ≡ true) (sym free) (or_left (eqb v v) (s.marks v) (eq-eqb v v refl))))
          (λ i. admits_more s.marks (marked v s.marks) (s.stands n) (λ m j. marked_more v m s.marks j)
          (h.settled.solves.marks n i));
    };
    leaves = record { alone = h.settled.leaves.alone; unmarked = λ n i j. j };
  };
  beyond = h.beyond;
  below = h.below;
  marks = λ n k. or_either (eqb v n) (s.marks n) k (λ e. subst (λ z. z < s.next) (eqb-true v n e) l) (λ i. h.marks n i);
  rigid = h.rigid;
}

pub linked_marked : (t : Table) (v w : ℕ) (b : TyId) → LinkedTo t w b
    → state (with_entry (entry.Marked v) t) ≡ marked_state v (state t) → LinkedTo (with_entry (entry.Marked v) t) w b
linked_marked t v w b l e = record {
  whole = ap (λ (s : State). s.stands w) e ∙ l.whole ∙ sym (ap (λ (s : State). put s.stands (type_of t b)) e);
  has = l.has;
  falls = l.falls;
}

unmarked_rigid : (v w : ℕ) (births : List Birth) (q : Marks) → rigid_in births v ≡ false → rigid_in births w ≡ true
    → marked v q w ≡ q w
unmarked_rigid v w births q h k = either_way (eqb v w)
    (λ e. let f : false ≡ true = sym h ∙ ap (rigid_in births) (eqb-true v w e) ∙ k in absurd (cc))
    (λ e. ap (λ b. b || q w) e)

pub kept_marked : (t : Table) (v : ℕ) → IsKept t → MayMark t v → IsKept (with_entry (entry.Marked v) t)
kept_marked t v k m =
    let r : State = marked_state v (state t) in
    let e : state (with_entry (entry.Marked v) t) ≡ r = state_marked t v in
    record {
      made = k.made;
      fit = subst IsFit (sym e) (fit_marked v (state t) k.fit (subst (λ z. v < z) (sym k.next) m.at.within)
          (k.unlinked v m.at.unlinked));
      next = ap (λ (s : State). s.next) e ∙ k.next;
      rigid = ap (λ (s : State). s.rigid) e ∙ k.rigid;
      unlinked = λ w h. ap (λ (s : State). s.stands w) e ∙ k.unlinked w (sym (link_marked w v None t.trail) ∙ h);
      linked = λ w b h. linked_marked t v w b (k.linked w b (sym (link_marked w v None t.trail) ∙ h)) e;
      steady = λ w h. ap (λ (s : State). s.marks w) e
          ∙ unmarked_rigid v w t.births (state t).marks m.at.flexible h ∙ k.steady w h;
    }
