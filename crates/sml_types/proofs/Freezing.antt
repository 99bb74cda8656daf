-- Variables for which rigid ones are put in.
use Rattle.std.proofs.Common.{◌≡◌, ℕ, zero, suc, ◌+◌, ◌<◌, ◌≤◌, refl, sym, ap, ap₂, ◌∙◌, subst, Bool, true, false, cond, arith, List, [], ◌∷◌, length, take, get_or, slice_get, Option, Some, None, ◌⊎◌, inl, inr, ◌↔◌}
use Rattle.std.proofs.lemmas.Bool.{eq-eqb, eqb-true, ltb-true, ltb-false}
use Rattle.std.proofs.lemmas.Option.{slice_get-get_or}
use Rattle.std.proofs.Math.Seq.{take-append_seam}
use Rattle.std.specs.Prelude.{eqb, ltb, IsTrue, ◌||◌}
use Rattle.semantic_objects.specs.declared.name.TyId.{TyId}
use Rattle.semantic_objects.specs.declared.name.TyId.TheVariants as id
use Rattle.semantic_objects.specs.declared.symbol.Symbol.TheVariants as symbol
use Rattle.semantic_objects.specs.Trees.{TypeScheme}
use Rattle.unification.specs.Types.{Ty, Substitution, State, put, occurs, admits}
use Rattle.unification.specs.Unification.{Solves, single}
use Rattle.unification.specs.Instances.{with_variable, with_variables, instance, IsMoreGeneral}
use Rattle.unification.specs.Closing.{is_among}
use Rattle.unification.specs.Generality.{IsOf}
use Rattle.unification.specs.Fitting.{IsFit, IsSchemeOf}
use Rattle.unification.proofs.Walking.{either_way, not_both, or_left, or_right, or_either}
use Rattle.unification.proofs.Putting.{one_same, one_other}
use Rattle.unification.proofs.Fitting.{solves_before}
use Rattle.unification.proofs.Closing.{found_all, closed_fits}
use Rattle.type_nodes.specs.declared.node.Birth.{Birth}
use Rattle.type_nodes.specs.Nodes.{rigid_in}
use Rattle.type_nodes.specs.Tables.{Table, Has, state, link, whole, whole_all, type_of, bound_in, IsEnd, LinkedTo, IsFrontOf, with_variable_of, with_entry}
use Rattle.type_nodes.specs.declared.entry.Entry.{Entry}
use Rattle.type_nodes.specs.Keeping.{IsKept, MayStand}
use Rattle.type_nodes.proofs.Making.{length_snoc}
use Rattle.type_nodes.proofs.Binding.{whole_below, put_in, Put}
use Rattle.type_nodes.proofs.Histories.{take_less}
use Rattle.type_schemes.specs.Instances.{Extends}
use Rattle.type_schemes.specs.Schemes.{HaveAll, all_variables, closed_scheme, closed_variables}
use Rattle.sml_types.proofs.Frames.{some_same, before_or}
use Rattle.sml_types.specs.Unifying.{Grown}
use Rattle.sml_types.specs.Covering.{CoversIn, Follows, put_scheme, unit_type, IsNamed, IsFreezing, IsFrozenAt, GetsName, Freezes, FreezesBelow, HasOwn, AreFrozen, IsFrozen, IsDecided}
use Rattle.sml_types.proofs.Solving.{absent_variable, falls_rigid, take_whole}
use Rattle.sml_types.proofs.Looking.{extends_variable}
use Rattle.sml_types.proofs.Covering.{Compared, after_special, after_both, raw, full, covers_where, chosen_where, solves_then, with_next, stands_both, special_held, raw_is, own_new}

-- a type that is closed is a scheme of the table
pub closed_of : (t : Table) (kept : List TyId) (a : TyId) (σ : TypeScheme) → IsKept t → Has t a → σ ≡ closed_scheme t kept a
    → IsSchemeOf (state t) σ
closed_of t kept a σ k h e = subst (IsSchemeOf (state t)) (sym e)
    (closed_fits (state t) (closed_variables t kept a) (state t).marks (whole t a) (whole_below t a k h))

-- ---- tables that follow

front_then : {X : Type 0} (xs ys zs : List X) → take (length xs) ys ≡ xs → take (length ys) zs ≡ ys → length xs ≤ length ys
    → take (length xs) zs ≡ xs
front_then xs ys zs h k l = sym (take_less (length xs) (length ys) zs l) ∙ ap (take (length xs)) k ∙ h

front_length : {X : Type 0} (xs ys : List X) → take (length xs) ys ≡ xs → length xs ≤ length ys
front_length [] ys h = omega arith
front_length (x ∷ xs) [] h = absurd (cc)
front_length (x ∷ xs) (y ∷ ys) h =
    let k : take (length xs) ys ≡ xs = cc in let l : length xs ≤ length ys = front_length xs ys k in omega (arith, l)

pub fronts_then : (a b c : Table) → IsFrontOf a b → IsFrontOf b c → IsFrontOf a c
fronts_then a b c h k = record {
  births = front_then a.births b.births c.births h.births k.births (front_length a.births b.births h.births);
  nodes = front_then a.nodes b.nodes c.nodes h.nodes k.nodes (front_length a.nodes b.nodes h.nodes);
  trail = front_then a.trail b.trail c.trail h.trail k.trail (front_length a.trail b.trail h.trail);
}

pub follows_then : (a b c : Table) → Follows a b → Follows b c → Follows a c
follows_then a b c h k = record {
  front = fronts_then a b c h.front k.front;
  types = λ x e. k.types x (h.ids x e) ∙ h.types x e;
  ids = λ x e. k.ids x (h.ids x e);
}

pub front_same : (t : Table) → IsFrontOf t t
front_same t = record { births = take_whole t.births; nodes = take_whole t.nodes; trail = take_whole t.trail }

pub front_to : (a b : Table) → b ≡ a → IsFrontOf a b
front_to a b e = subst (IsFrontOf a) (sym e) (front_same a)

pub next_within : (a b : Table) (own : ℕ) → Extends a b → own ≡ length a.births → own ≤ length b.births
next_within a b own h e = (let k : length a.births ≤ length b.births = front_length a.births b.births h.front.births in omega (arith, k, e))

pub follows_same : (a b : Table) → b ≡ a → Follows a b
follows_same a b e = subst (Follows a) (sym e) (record { front = front_same a; types = λ x h. refl; ids = λ x h. h })

pub follows_extends : (a b : Table) → Extends a b → Follows a b
follows_extends a b h = record { front = h.front; types = h.types; ids = h.ids }

pub front_grown : (a b : Table) → Grown a b → IsFrontOf a b
front_grown a b h = record {
  births = ap (take (length a.births)) h.births ∙ take_whole a.births;
  nodes = ap (take (length a.nodes)) h.nodes ∙ take_whole a.nodes;
  trail = h.front;
}

follows_entry : (t : Table) (e : Entry) → Follows t (with_entry e t)
follows_entry t e = record {
  front = record { births = take_whole t.births; nodes = take_whole t.nodes; trail = take-append_seam t.trail (e ∷ []) };
  types = λ x h. refl;
  ids = λ x h. h;
}

pub follows_named : (t a b : Table) (x : Birth) (e : Entry) → a ≡ with_variable_of x t → b ≡ with_entry e a → Follows t b
follows_named t a b x e f g = subst (Follows t) (sym g) (follows_then t a (with_entry e a)
    (subst (Follows t) (sym f) (follows_extends t (with_variable_of x t) (extends_variable t x))) (follows_entry a e))

pub follows_variable : (t a b : Table) (x : Birth) → a ≡ with_variable_of x t → b ≡ a → Follows t b
follows_variable t a b x f g = subst (Follows t) (sym (g ∙ f)) (follows_extends t (with_variable_of x t) (extends_variable t x))

pub wider : (t a : Table) (own : ℕ) → Follows t a → own ≤ length t.births → own ≤ length a.births
wider t a own f h =
    let k : length t.births ≤ length a.births = front_length t.births a.births f.front.births in omega (arith, h, k)

pub have_two : (t : Table) (a b : TyId) → Has t a → Has t b → HaveAll t (a ∷ b ∷ [])
have_two t a b h k zero x e = subst (Has t) (some_same a x e) h
have_two t a b h k (suc zero) x e = subst (Has t) (some_same b x e) k
have_two t a b h k (suc (suc i)) x e = absurd (cc)

-- ---- a new rigid variable

abbrev rigid_birth : Bool → Birth
rigid_birth m = record { marked = m; rigid = true }

link_beyond : (t : Table) (v : ℕ) (o : Option TyId) → IsKept t → length t.births ≤ v → link t v ≡ o → o ≡ None
link_beyond t v None k h e = refl
link_beyond t v (Some a) k h e =
    let l : LinkedTo t v a = k.linked v a e in
    let f : Ty.Var v ≡ whole t a = sym (k.fit.beyond v (subst (λ n. n ≤ v) (sym k.next) h)) ∙ l.whole in
    let i : v < (state t).next = whole_below t a k l.has v (subst (λ u. occurs v u ≡ true) f (eq-eqb v v refl)) in
    let j : (state t).next ≡ length t.births = k.next in absurd (omega (arith, i, j, h))

flag_at : (n : ℕ) (b c : Bool) → cond (eqb n n) b c ≡ b
flag_at n b c = ap (λ z. cond z b c) (eq-eqb n n refl)

flag_other : (n next : ℕ) (b c : Bool) → n < next → cond (eqb n next) b c ≡ c
flag_other n next b c h = either_way (eqb n next)
    (λ e. let l : n ≡ next = eqb-true n next e in absurd (omega (arith, h, l))) (λ e. ap (λ z. cond z b c) e)

-- it may stand for the variable
name_stands : (t : Table) (v : ℕ) (m : Bool) → IsKept t → IsKept (with_variable_of (rigid_birth m) t)
    → state (with_variable_of (rigid_birth m) t) ≡ with_variable true m (state t)
    → v < length t.births → link t v ≡ None → rigid_in t.births v ≡ false → m ≡ (state t).marks v
    → MayStand (with_variable_of (rigid_birth m) t) v (id.Variable (length t.births))
name_stands t v m k j e within unlinked flexible mark =
    let a : Table = with_variable_of (rigid_birth m) t in
    let n : ℕ = length t.births in
    let s : State = state t in
    let more : length a.births ≡ n + 1 = length_snoc t.births (rigid_birth m) in
    let same : n ≡ s.next = sym k.next in
    let below : v < s.next = subst (λ z. v < z) same within in
    let free : link a n ≡ None = link_beyond t n (link t n) k (omega arith) refl in
    let alone : whole a (id.Variable n) ≡ Ty.Var n = j.unlinked n free in
    let loose : rigid_in a.births v ≡ false = sym (ap (λ z. z v) j.rigid) ∙ ap (λ (z : State). z.rigid v) e
    ∙ flag_other v s.next true (s.rigid v) below ∙ ap (λ z. z v) k.rigid ∙ flexible in
    let fixed : rigid_in a.births n ≡ true = sym (ap (λ z. z n) j.rigid) ∙ ap (λ (z : State). z.rigid n) e
    ∙ ap (λ z. cond (eqb z s.next) true (s.rigid z)) same ∙ flag_at s.next true (s.rigid s.next) in
    let there : (state a).marks n ≡ m = ap (λ (z : State). z.marks n) e
    ∙ ap (λ z. cond (eqb z s.next) m (s.marks z)) same ∙ flag_at s.next m (s.marks s.next) in
    let here : (state a).marks v ≡ s.marks v = ap (λ (z : State). z.marks v) e ∙ flag_other v s.next m (s.marks v) below in
    record {
      at = record { within = omega (arith, more, within); unlinked = unlinked; flexible = loose };
      has = omega (arith, more);
      head = free;
      absent = absent_variable a v n (free, alone) (λ z. omega (arith, within, z));
      admitted = λ z. ap (admits (state a).marks) alone ∙ there ∙ mark ∙ sym here ∙ z;
      falls = falls_rigid a v n loose fixed;
    }

pub may_name : (t a : Table) (v : ℕ) (m : Bool) (name : TyId) → IsKept t → IsKept a → a ≡ with_variable_of (rigid_birth m) t
    → name ≡ id.Variable (length t.births) → state a ≡ with_variable true m (state t) → v < length t.births
    → IsEnd t (id.Variable v) → rigid_in t.births v ≡ false → m ≡ (state t).marks v → MayStand a v name
may_name t a v m name k j e f g within end flexible mark = subst (λ z. MayStand z v name) (sym e)
    (subst (MayStand (with_variable_of (rigid_birth m) t) v) (sym f)
    (name_stands t v m k (subst IsKept e j) (ap state (sym e) ∙ g) within end.0 flexible mark))

name_whole : (t a : Table) (name : TyId) (m : Bool) → IsKept t → name ≡ id.Variable (length t.births)
    → state a ≡ with_variable true m (state t) → whole a name ≡ Ty.Var (state t).next
name_whole t a name m k f g = ap (whole a) f ∙ ap (λ (z : State). z.stands (length t.births)) g
    ∙ k.fit.beyond (length t.births) (let l : (state t).next ≡ length t.births = k.next in omega (arith, l))
    ∙ ap Ty.Var (sym k.next)

pub name_given : (t a new : Table) (v : ℕ) (m : Bool) (name : TyId) → IsKept t → IsKept a
    → name ≡ id.Variable (length t.births) → state a ≡ with_variable true m (state t) → v < length t.births
    → IsEnd t (id.Variable v) → rigid_in t.births v ≡ false → m ≡ (state t).marks v → MayStand a v name
    → state new ≡ bound_in v (whole a name) (state a) → Freezes (state t) (state new) v
name_given t a new v m name k j f g within end flexible mark stand h =
    let p : Put a v name (bound_in v (whole a name) (state a)) = put_in a v name j stand in
    let l : Solves (bound_in v (whole a name) (state a)) (with_variable true m (state t)) =
    subst (Solves (bound_in v (whole a name) (state a))) g p.solves in
    inr (record {
      flexible = ap (λ z. z v) k.rigid ∙ flexible;
      alone = end.1;
      within = subst (λ z. v < z) (sym k.next) within;
      is = h ∙ ap₂ (bound_in v) (name_whole t a name m k f g) g
          ∙ ap (λ z. bound_in v (Ty.Var (state t).next) (with_variable true z (state t))) mark;
      later = subst (λ z. Solves z (state t)) (sym h) (solves_before true m (bound_in v (whole a name) (state a)) (state t) k.fit l);
    })

pub name_stays : (t : Table) (v : ℕ) (r : State) → IsKept t → IsEnd t (id.Variable v) → rigid_in t.births v ≡ true
    → r ≡ state t → Freezes (state t) r v
name_stays t v r k end e f = inl (record { same = f; rigid = ap (λ z. z v) k.rigid ∙ e; alone = end.1 })

-- ---- one variable after the other

abbrev with_name : ℕ → ℕ → Substitution → Substitution
with_name w v names n = cond (eqb n w) (Ty.Var v) (names n)

name_at : (w v : ℕ) (names : Substitution) → with_name w v names w ≡ Ty.Var v
name_at w v names = ap (λ z. cond z (Ty.Var v) (names w)) (eq-eqb w w refl)

name_other : (w v n : ℕ) (names : Substitution) → n < w → with_name w v names n ≡ names n
name_other w v n names h = either_way (eqb n w)
    (λ e. let l : n ≡ w = eqb-true n w e in absurd (omega (arith, h, l))) (λ e. ap (λ z. cond z (Ty.Var v) (names n)) e)

apart : (v n : ℕ) → (v ≡ n → ⊥) → eqb v n ≡ false
apart v n h = either_way (eqb v n) (λ e. absurd (h (eqb-true v n e))) (λ e. e)

-- the state after a name was given
named_stands : (r : State) (v n x : ℕ) → r.stands n ≡ Ty.Var x → (v ≡ x → ⊥)
    → (bound_in v (Ty.Var r.next) (with_variable true (r.marks v) r)).stands n ≡ Ty.Var x
named_stands r v n x e h = ap (put (single v (Ty.Var r.next))) e ∙ one_other v x (Ty.Var r.next) (apart v x h)

named_flags : (own : ℕ) (s r : State) (names : Substitution) (v w : ℕ) → IsFit r → v < r.next → IsNamed own s r names w
    → IsNamed own s (bound_in v (Ty.Var r.next) (with_variable true (r.marks v) r)) (with_name r.next v names) w
named_flags own s r names v w fit l k =
    let i : w < r.next = fit.rigid w k.rigid in
    record {
      rigid = flag_other w r.next true (r.rigid w) i ∙ k.rigid;
      of = k.of;
      older = k.older;
      is = name_other r.next v w names i ∙ k.is;
      marked = λ e. k.marked (sym (flag_other w r.next (r.marks v) (r.marks w) i) ∙ e);
    }

named_more : (own : ℕ) (s r : State) (names : Substitution) (v w : ℕ) → IsFit r → v < r.next → v < own
    → (r.marks v ≡ true → s.marks v ≡ true) → (names w ≡ unit_type) ⊎ IsNamed own s r names w
    → (with_name r.next v names w ≡ unit_type)
    ⊎ IsNamed own s (bound_in v (Ty.Var r.next) (with_variable true (r.marks v) r)) (with_name r.next v names) w
named_more own s r names v w fit l o m (inr k) = inr (named_flags own s r names v w fit l k)
named_more own s r names v w fit l o m (inl k) = either_way (eqb w r.next)
    (λ e. let i : w ≡ r.next = eqb-true w r.next e in
    subst (λ z. (with_name r.next v names z ≡ unit_type)
    ⊎ IsNamed own s (bound_in v (Ty.Var r.next) (with_variable true (r.marks v) r)) (with_name r.next v names) z) (sym i)
    (inr (record {
      rigid = flag_at r.next true (r.rigid r.next);
      of = v;
      older = o;
      is = name_at r.next v names;
      marked = λ z. m (sym (flag_at r.next (r.marks v) (r.marks r.next)) ∙ z);
    })))
    (λ e. inl (ap (λ z. cond z (Ty.Var v) (names w)) e ∙ k))

freezing_named : (own : ℕ) (s r q : State) (names : Substitution) (v : ℕ) → IsFit r → v < own → own ≤ s.next
    → ((n : ℕ) → s.rigid n ≡ true → n < own) → IsFreezing own s r names
    → GetsName r q v → q ≡ bound_in v (Ty.Var r.next) (with_variable true (r.marks v) r) → IsFreezing own s q (with_name r.next v names)
freezing_named own s r q names v fit o below old h k g =
    subst (λ z. IsFreezing own s z (with_name r.next v names)) (sym g) (record {
      later = solves_then s r _ (subst (λ z. Solves z r) g k.later) h.later;
      next = (let l : s.next ≤ r.next = h.next in omega (arith, l));
      marks = λ n l. flag_other n r.next (r.marks v) (r.marks n) (let i : s.next ≤ r.next = h.next in omega (arith, l, i)) ∙ h.marks n l;
      flags = λ n l. flag_other n r.next true (r.rigid n) (let i : s.next ≤ r.next = h.next in omega (arith, l, i)) ∙ h.flags n l;
      loose = λ n l i. let m : s.next ≤ r.next = h.next in (
        named_stands r v n n (h.loose n l i).0 (λ e. omega (arith, o, l, e)),
        flag_other n r.next true (r.rigid n) (omega (arith, i, m)) ∙ (h.loose n l i).1,
      );
      named = λ w. named_more own s r names v w fit k.within o (λ e. sym (h.marks v (omega (arith, o, below))) ∙ e) (h.named w);
      rigid = λ n e. name_other r.next v n names (let i : n < own = old n e in let m : s.next ≤ r.next = h.next in omega (arith, i, m, below)) ∙ h.rigid n e;
    })

-- one that is frozen stays so
frozen_stays : (r : State) (names : Substitution) (v n : ℕ) → IsFit r → r.rigid v ≡ false → IsFrozenAt r names n
    → IsFrozenAt (bound_in v (Ty.Var r.next) (with_variable true (r.marks v) r)) (with_name r.next v names) n
frozen_stays r names v n fit e f =
    let i : f.name < r.next = fit.rigid f.name f.rigid in
    record {
      name = f.name;
      stands = named_stands r v n f.name f.stands (λ z. not_both (r.rigid v) e (subst (λ x. r.rigid x ≡ true) (sym z) f.rigid));
      rigid = flag_other f.name r.next true (r.rigid f.name) i ∙ f.rigid;
      is = name_other r.next v f.name names i ∙ f.is;
    }

frozen_new : (r : State) (names : Substitution) (v : ℕ) → r.stands v ≡ Ty.Var v
    → IsFrozenAt (bound_in v (Ty.Var r.next) (with_variable true (r.marks v) r)) (with_name r.next v names) v
frozen_new r names v e = record {
  name = r.next;
  stands = ap (put (single v (Ty.Var r.next))) e ∙ one_same v (Ty.Var r.next);
  rigid = flag_at r.next true (r.rigid r.next);
  is = name_at r.next v names;
}

item_is : (vs : List ℕ) (i k v n : ℕ) → slice_get vs i ≡ Some v → k ≡ i → slice_get vs k ≡ Some n → v ≡ n
item_is vs i k v n e f g = some_same v n (sym e ∙ sym (ap (slice_get vs) f) ∙ g)

pub frozen_next : (own : ℕ) (s r q : State) (vs : List ℕ) (i v : ℕ) → IsFit r → own ≤ s.next
    → ((n : ℕ) → s.rigid n ≡ true → n < own) → AreFrozen own s r vs i
    → slice_get vs i ≡ Some v → v < own → Freezes r q v → AreFrozen own s q vs (i + 1)
frozen_next own s r q vs i v fit below old h e l (inl k) = subst (λ z. AreFrozen own s z vs (i + 1)) (sym k.same) (record {
  names = h.names;
  freezing = h.freezing;
  each = λ j n m g o. before_or j i m (λ z. h.each j n z g o)
      (λ z. subst (IsFrozenAt r h.names) (item_is vs i j v n e z g) (record {
        name = v;
        stands = k.alone;
        rigid = k.rigid;
        is = h.freezing.rigid v (sym (h.freezing.flags v (omega (arith, l, below))) ∙ k.rigid);
      }));
})
frozen_next own s r q vs i v fit below old h e l (inr k) = record {
  names = with_name r.next v h.names;
  freezing = freezing_named own s r q h.names v fit l below old h.freezing k k.is;
  each = λ j n m g o. subst (λ z. IsFrozenAt z (with_name r.next v h.names) n) (sym k.is) (before_or j i m
      (λ z. frozen_stays r h.names v n fit k.flexible (h.each j n z g o))
      (λ z. subst (IsFrozenAt _ (with_name r.next v h.names)) (item_is vs i j v n e z g) (frozen_new r h.names v k.alone)));
}

pub frozen_past : (own : ℕ) (s r : State) (vs : List ℕ) (i v : ℕ) → AreFrozen own s r vs i → slice_get vs i ≡ Some v → own ≤ v
    → AreFrozen own s r vs (i + 1)
frozen_past own s r vs i v h e l = record {
  names = h.names;
  freezing = h.freezing;
  each = λ j n m g o. before_or j i m (λ z. h.each j n z g o)
      (λ z. let x : v ≡ n = item_is vs i j v n e z g in absurd (omega (arith, x, o, l)));
}

pub frozen_step : (own : ℕ) (s r q : State) (vs : List ℕ) (i v d : ℕ) → IsFit r → own ≤ s.next
    → ((n : ℕ) → s.rigid n ≡ true → n < own) → AreFrozen own s r vs i → i < length vs → v ≡ get_or vs i d
    → FreezesBelow own r q v → AreFrozen own s q vs (i + 1)
frozen_step own s r q vs i v d fit below old h l e f =
    let at : slice_get vs i ≡ Some v = slice_get-get_or vs i d l ∙ ap Some (sym e) in
    either_way (ltb v own)
    (λ k. let o : v < own = ltb-true v own k in frozen_next own s r q vs i v fit below old h at o (f.0 o))
    (λ k. let o : own ≤ v = ltb-false v own k in
    subst (λ z. AreFrozen own s z vs (i + 1)) (sym (f.1 o)) (frozen_past own s r vs i v h at o))

pub frozen_long : (own : ℕ) (s r : State) (vs : List ℕ) (i : ℕ) → AreFrozen own s r vs i → length vs ≤ i
    → AreFrozen own s r vs (length vs)
frozen_long own s r vs i h l = record {
  names = h.names;
  freezing = h.freezing;
  each = λ j n m g o. h.each j n (omega (arith, m, l)) g o;
}

-- ---- at the beginning, and at the end

abbrev first_names : State → Substitution
first_names s n = cond (s.rigid n) (Ty.Var n) unit_type

first_named : (own : ℕ) (s : State) (w : ℕ) → HasOwn own s → (b : Bool) → s.rigid w ≡ b
    → (first_names s w ≡ unit_type) ⊎ IsNamed own s s (first_names s) w
first_named own s w h false e = inl (ap (λ z. cond z (Ty.Var w) unit_type) e)
first_named own s w h true e = inr (record {
  rigid = e;
  of = w;
  older = h.rigid w e;
  is = ap (λ z. cond z (Ty.Var w) unit_type) e;
  marked = λ z. z;
})

pub frozen_first : (own : ℕ) (t : Table) (vs : List ℕ) → IsKept t → HasOwn own (state t) → AreFrozen own (state t) (state t) vs 0
frozen_first own t vs k h = record {
  names = first_names (state t);
  freezing = record {
    later = k.fit.settled.solves;
    next = omega arith;
    marks = λ n l. refl;
    flags = λ n l. refl;
    loose = λ n l i. h.loose n l;
    named = λ w. first_named own (state t) w h ((state t).rigid w) refl;
    rigid = λ n e. ap (λ z. cond z (Ty.Var n) unit_type) e;
  };
  each = λ j n m g o. absurd (omega (arith, m));
}

among_item : {P : Type 0} (vs : List ℕ) (n : ℕ) → is_among n vs ≡ true → ((k : ℕ) → slice_get vs k ≡ Some n → P) → P
among_item [] n h f = absurd (cc)
among_item (v ∷ vs) n h f = or_either (eqb n v) (is_among n vs) h
    (λ e. f 0 (ap Some (sym (eqb-true n v e)))) (λ e. among_item vs n e (λ k. f (suc k)))

slice_within : (vs : List ℕ) (k n : ℕ) → slice_get vs k ≡ Some n → k < length vs
slice_within [] k n h = absurd (cc)
slice_within (v ∷ vs) zero n h = omega arith
slice_within (v ∷ vs) (suc k) n h = (let l : k < length vs = slice_within vs k n h in omega (arith, l))

pub frozen_all : (own : ℕ) (t new : Table) (ids : List TyId) (vs : List ℕ) (count : ℕ) → vs ≡ all_variables t ids
    → length vs ≤ count → AreFrozen own (state t) (state new) vs count → IsFrozen own t ids new
frozen_all own t new ids vs count e l h = record {
  names = h.names;
  freezing = h.freezing;
  each = λ n o m. among_item vs n
      (ap (is_among n) e ∙ found_all (λ v. false) n (Ty.Made symbol.Arrow (whole_all t ids)) [] o refl)
      (λ k g. h.each k n (let i : k < length vs = slice_within vs k n g in omega (arith, i, l)) g m);
}

-- ---- the whole comparison

not_rigid_new : (b c : Bool) → cond b false c ≡ true → c ≡ true
not_rigid_new true c h = absurd (cc)
not_rigid_new false c h = h

rigid_before : (ms : List Bool) (s : State) (n : ℕ) → (with_variables false ms s).rigid n ≡ true → s.rigid n ≡ true
rigid_before [] s n e = e
rigid_before (m ∷ ms) s n e = not_rigid_new (eqb n s.next) (s.rigid n) (rigid_before ms (with_variable false m s) n e)

has_own : (s : State) (g h : TypeScheme) → IsFit s → HasOwn (after_special s h).next (after_both s g h)
has_own s g h fit =
    let l : s.next ≤ (after_special s h).next = with_next h.marks s in
    let old : (n : ℕ) → (after_both s g h).rigid n ≡ true → n < s.next =
    λ n e. fit.rigid n (rigid_before h.marks s n (rigid_before g.marks (after_special s h) n e)) in
    record {
      rigid = λ n e. (let i : n < s.next = old n e in omega (arith, i, l));
      loose = λ n i. (
        stands_both s g h n ∙ fit.beyond n (omega (arith, i, l)),
        either_way ((after_both s g h).rigid n) (λ e. let j : n < s.next = old n e in absurd (omega (arith, i, j, l))) (λ e. e),
      );
    }

pub own_at : (t a b : Table) (g h : TypeScheme) (own : ℕ) → IsKept t → IsKept a → state a ≡ (instance h (state t)).1
    → state b ≡ (instance g (state a)).1 → own ≡ length a.births → HasOwn own (state b)
own_at t a b g h own kt ka sa sb o =
    let first : own ≡ (after_special (state t) h).next = o ∙ sym ka.next ∙ ap (λ (z : State). z.next) sa in
    let both : state b ≡ after_both (state t) g h = sb ∙ ap (with_variables false g.marks) sa in
    subst (λ z. HasOwn z (state b)) (sym first) (subst (HasOwn (after_special (state t) h).next) (sym both)
    (has_own (state t) g h kt.fit))

pub compared_at : (t a b c : Table) (g h : TypeScheme) (x y : TyId) (own : ℕ) → IsKept t → IsKept a → IsKept b → IsKept c
    → state a ≡ (instance h (state t)).1 → type_of a x ≡ (instance h (state t)).0 → Has a x
    → state b ≡ (instance g (state a)).1 → type_of b y ≡ (instance g (state a)).0 → Has b y → Extends a b
    → own ≡ length a.births → IsOf (state t) g.body → IsOf (state t) h.body
    → (f : IsFrozen own b (y ∷ x ∷ []) c) → Compared (state t) g h (state c) f.names
compared_at t a b c g h x y own kt ka kb kc sa tx hx sb ty hy ext o of_g of_h f =
    let s : State = state t in
    let first : own ≡ (after_special s h).next = o ∙ sym ka.next ∙ ap (λ (z : State). z.next) sa in
    let both : state b ≡ after_both s g h = sb ∙ ap (with_variables false g.marks) sa in
    let read_y : type_of b y ≡ raw (after_special s h).next g = ty ∙ ap (λ (z : State). raw z.next g) sa in
    let read_x : type_of b x ≡ raw s.next h = ext.types x hx ∙ tx in
    let full_y : whole b y ≡ full s (after_special s h).next g =
    ap₂ (λ (z : State) u. put z.stands u) both read_y ∙ raw_is s (after_both s g h) (after_special s h).next g kt.fit (with_next h.marks s) (stands_both s g h) in
    let full_x : whole b x ≡ full s s.next h =
    ap₂ (λ (z : State) u. put z.stands u) both read_x ∙ raw_is s (after_both s g h) s.next h kt.fit (omega arith) (stands_both s g h) in
    let full_a : whole a x ≡ full s s.next h =
    ap₂ (λ (z : State) u. put z.stands u) sa tx ∙ raw_is s (after_special s h) s.next h kt.fit (omega arith) (λ n. special_held s h n) in
    record {
      fit = kt.fit;
      fit_special = subst IsFit sa ka.fit;
      of_general = of_g;
      of_special = of_h;
      settled = kc.fit.settled;
      freezing = subst (λ z. IsFreezing z (after_both s g h) (state c) f.names) first
          (subst (λ z. IsFreezing own z (state c) f.names) both f.freezing);
      general = λ n e l. f.each n (or_left (occurs n (whole b y)) (occurs n (whole b x) || false) (ap (occurs n) full_y ∙ e))
          (subst (λ z. n < z) (sym first) l);
      special = λ n e. f.each n (or_right (occurs n (whole b y)) (occurs n (whole b x) || false)
          (or_left (occurs n (whole b x)) false (ap (occurs n) full_x ∙ e)))
          (let l : n < (state a).next = whole_below a x ka hx n (ap (occurs n) full_a ∙ e) in
          let m : (state a).next ≡ length a.births = ka.next in omega (arith, l, m, o));
      bound = λ i e. let l : (after_special s h).next + i < (state b).next =
          whole_below b y kb hy ((after_special s h).next + i) (ap (occurs ((after_special s h).next + i)) full_y
          ∙ own_new s (after_special s h).next g i e) in
          subst (λ (z : State). (after_special s h).next + i < z.next) both l;
    }

-- what the two ids stand for then
pub pattern_whole : (t a b c : Table) (g h : TypeScheme) (y : TyId) → state a ≡ (instance h (state t)).1
    → type_of b y ≡ (instance g (state a)).0 → Has b y → Follows b c
    → whole c y ≡ put (state c).stands (raw (after_special (state t) h).next g)
pattern_whole t a b c g h y sa ty hy f = ap (put (state c).stands) (f.types y hy ∙ ty ∙ ap (λ (z : State). raw z.next g) sa)

pub instance_whole : (t a b c : Table) (h : TypeScheme) (x : TyId) → type_of a x ≡ (instance h (state t)).0 → Has a x
    → Extends a b → Follows b c → whole c x ≡ put (state c).stands (raw (state t).next h)
instance_whole t a b c h x tx hx ext f = ap (put (state c).stands) (f.types x (ext.ids x hx) ∙ ext.types x hx ∙ tx)

decided_by : (s : State) (g h : TypeScheme) (r : State) (names : Substitution) (answer : Bool) → Compared s g h r names
    → IsDecided (put r.stands (raw (after_special s h).next g)) (put r.stands (raw s.next h)) r answer
    → IsTrue answer ↔ IsMoreGeneral s (put_scheme s g) (put_scheme s h)
decided_by s g h r names true c d = ((λ e. covers_where s g h r d.0 names c d.1), (λ m. refl))
decided_by s g h r names false c d = (
  (λ e. absurd (cc)),
  (λ m. let p = chosen_where s g h r names c m in absurd (d p.by p.solves p.leaves p.same)),
)

pub compared_answer : (t c : Table) (g h : TypeScheme) (x y : TyId) (names : Substitution) (answer : Bool)
    → Compared (state t) g h (state c) names
    → whole c y ≡ put (state c).stands (raw (after_special (state t) h).next g)
    → whole c x ≡ put (state c).stands (raw (state t).next h)
    → IsDecided (whole c y) (whole c x) (state c) answer → IsTrue answer ↔ CoversIn t g h
compared_answer t c g h x y names answer k e f d = decided_by (state t) g h (state c) names answer k
    (subst (λ u. IsDecided u (put (state c).stands (raw (state t).next h)) (state c) answer) e
    (subst (λ u. IsDecided (whole c y) u (state c) answer) f d))
