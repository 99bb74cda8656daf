-- demanding equality, step by step
use Rattle.std.proofs.Common.{◌≡◌, ℕ, suc, ◌+◌, ◌*◌, ◌<◌, ◌≤◌, List, [], ◌∷◌, ◌++◌, length, refl, sym, ap, ap₂, ◌∙◌, subst, Option, Some, None, Bool, true, false, cond, arith, inl, inr, slice_get, take, drop}
use Rattle.std.proofs.lemmas.Bool.{eq-eqb, eqb-true}
use Rattle.std.proofs.lemmas.List.{length-append}
use Rattle.std.proofs.Math.Seq.{take-length, take-append_seam}
use Rattle.std.specs.Prelude.{eqb, ◌&&◌, nat_eq, Result, Ok, Err}
use Rattle.semantic_objects.specs.declared.name.TyId.{TyId}
use Rattle.semantic_objects.specs.declared.name.TyId.TheVariants as id
use Rattle.unification.specs.Types.{Ty, Types, Marks, State, size, size_all, admits, admits_all, and_then, marked, equality_of, where_parts, require, require_all, require_variable, required_by}
use Rattle.unification.specs.declared.equality.Equality.{Equality}
use Rattle.unification.specs.declared.equality.Equality.TheVariants as equality
use Rattle.unification.proofs.Putting.{either_way, or_left, or_right, and_both, or_false_left, or_false_right}
use Rattle.unification.proofs.Requiring.{admits_more}
use Rattle.type_nodes.specs.declared.node.Birth.{Birth}
use Rattle.type_nodes.specs.declared.facts.Facts.{Facts}
use Rattle.type_nodes.specs.declared.entry.Entry.TheVariants as entry
use Rattle.type_nodes.specs.Nodes.{rigid_in, marked_in}
use Rattle.type_nodes.specs.Facts.{has_variable, have_variable, flexible_in, facts_of}
use Rattle.type_nodes.specs.Tables.{Table, state, whole, type_of, with_entry, marked_state}
use Rattle.type_nodes.specs.Keeping.{IsKept}
use Rattle.type_nodes.proofs.Playing.{link_marked}
use Rattle.type_nodes.proofs.Binding.{require_admitted, state_marked}
use Rattle.type_nodes.proofs.Histories.{take_less}
use Rattle.indexmap.specs.IndexMap.{get}
use Rattle.sml_types.specs.declared.fault.TypeFault.{TypeFault}
use Rattle.sml_types.specs.declared.fault.TypeFault.TheVariants as fault
use Rattle.sml_types.specs.declared.frame.Frame.{Frame}
use Rattle.sml_types.specs.declared.notes.Notes.{Notes}
use Rattle.sml_types.specs.Frames.{Standing, seen, stood, stood_all, parts_at, symbol_at, left, after, NextPart, NoPart, steps_left, IsFrame, AreFrames, nothing}
use Rattle.sml_types.specs.Requiring.{MarksMore, admitted, by_parts, IsAdmitted, require_left, DemandedOk, Demanded, RequiredMore, RequiredOn}
use Rattle.sml_types.proofs.Frames.{steps_snoc, size_some, frames_as, frames_push, frames_pop, frame_after, frame_new, whole_node_at, all_passed, not_false}
use Rattle.sml_types.proofs.Occurring.{fixed_whole}

-- more marks
pub marks_same : (t : Table) → MarksMore t t
marks_same t = record {
  births = refl;
  nodes = refl;
  front = take-length t.trail;
  longer = omega arith;
  links = λ v. refl;
  stands = refl;
  more = λ n h. h;
}

pub marks_then : (a b c : Table) → MarksMore a b → MarksMore b c → MarksMore a c
marks_then a b c h k = record {
  births = k.births ∙ h.births;
  nodes = k.nodes ∙ h.nodes;
  front = sym (take_less (length a.trail) (length b.trail) c.trail h.longer) ∙ ap (take (length a.trail)) k.front ∙ h.front;
  longer = omega (arith, h.longer, k.longer);
  links = λ v. k.links v ∙ h.links v;
  stands = k.stands ∙ h.stands;
  more = λ n i. k.more n (h.more n i);
}

pub marks_entry : (t : Table) (v : ℕ) → MarksMore t (with_entry (entry.Marked v) t)
marks_entry t v = record {
  births = refl;
  nodes = refl;
  front = take-append_seam t.trail (entry.Marked v ∷ []);
  longer = (let k : length (t.trail ++ entry.Marked v ∷ []) ≡ length t.trail + 1 = length-append t.trail (entry.Marked v ∷ []) in
      omega (arith, k));
  links = λ w. link_marked w v None t.trail;
  stands = ap (λ (s : State). s.stands) (state_marked t v);
  more = λ n h. ap (λ (s : State). s.marks n) (state_marked t v) ∙ or_right (eqb v n) ((state t).marks n) h;
}

pub seen_same : (a b : Table) → b.nodes ≡ a.nodes → (state b).stands ≡ (state a).stands → seen b ≡ seen a
seen_same a b h k = λ i. record { nodes = h i; stands = k i }

pub marks_seen : (a b : Table) → MarksMore a b → seen b ≡ seen a
marks_seen a b h = seen_same a b h.nodes h.stands

and_then_assoc : (o : Option Marks) (f g : Marks → Option Marks)
    → and_then (and_then o f) g ≡ and_then o (λ q. and_then (f q) g)
and_then_assoc None f g = refl
and_then_assoc (Some q) f g = refl

and_then_some : (o : Option Marks) → o ≡ and_then o (λ q. Some q)
and_then_some None = refl
and_then_some (Some q) = refl

pub require_snoc : (rigid : Marks) (s : Standing) (fs : List Frame) (f : Frame) (q : Marks)
    → require_left rigid s (fs ++ f ∷ []) q ≡ and_then (require_all rigid (left s f) q) (require_left rigid s fs)
require_snoc rigid s [] f q = and_then_some (require_all rigid (left s f) q)
require_snoc rigid s (g ∷ gs) f q =
    ap (λ o. and_then o (require_all rigid (left s g))) (require_snoc rigid s gs f q)
    ∙ and_then_assoc (require_all rigid (left s f) q) (require_left rigid s gs) (require_all rigid (left s g))

-- types that admit equality already
pub demanded_already : (t : Table) (u : Ty) (fs : List Frame) → admitted (state t).marks u → DemandedOk t t u fs fs
demanded_already t u fs h = record {
  answer = ap (λ o. and_then o (require_left (state t).rigid (seen t) fs)) (require_admitted (state t).rigid (state t).marks u h);
  frames = λ k. frames_as by_parts (admitted (state t).marks) (admitted (state t).marks) (λ x. x ≡ u) nothing (seen t) fs
      (λ x p. p) (λ x e. inl (subst (admitted (state t).marks) (sym e) h)) k;
  less = (let n : 1 ≤ size u = size_some u in omega (arith, n));
}

-- variables
pub refused_variable : (t : Table) (n : ℕ) (u : Ty) → u ≡ Ty.Var n → (state t).rigid n ≡ true → (state t).marks n ≡ false
    → require (state t).rigid u (state t).marks ≡ None
refused_variable t n u e h k = ap (λ x. require (state t).rigid x (state t).marks) e
    ∙ ap₂ (λ a b. require_variable a b n (state t).marks) h k

pub demanded_variable : (t new : Table) (n : ℕ) (u : Ty) (fs : List Frame) → u ≡ Ty.Var n → (state t).rigid n ≡ false
    → state new ≡ marked_state n (state t) → DemandedOk t new u fs fs
demanded_variable t new n u fs e h k =
    let q : Marks = marked n (state t).marks in
    let is : (state new).marks ≡ q = ap (λ (s : State). s.marks) k in
    let here : admitted (state new).marks u = subst (λ r. admitted r u) (sym is)
    (subst (admitted q) (sym e) (or_left (eqb n n) ((state t).marks n) (eq-eqb n n refl))) in
    record {
      answer = ap (λ x. and_then (require (state t).rigid x (state t).marks) (require_left (state t).rigid (seen t) fs)) e
          ∙ ap (λ a. and_then (require_variable a ((state t).marks n) n (state t).marks) (require_left (state t).rigid (seen t) fs)) h
          ∙ ap (require_left (state t).rigid (seen t) fs) (sym is);
      frames = λ l. frames_as by_parts (admitted (state t).marks) (admitted (state new).marks) (λ x. x ≡ u) nothing (seen t) fs
          (λ x p. admits_more (state t).marks (state new).marks x
          (λ m j. ap (λ r. r m) is ∙ or_right (eqb n m) ((state t).marks m) j) p)
          (λ x p. inl (subst (admitted (state new).marks) (sym p) here)) l;
      less = (let m : 1 ≤ size u = size_some u in omega (arith, m));
    }

-- nodes without flexible variables
mutual
  admits_fixed : (t : Table) (u : Ty) → IsKept t → has_variable (flexible_in t.births) u ≡ false
      → admits (state t).marks u ≡ admits (marked_in t.births) u
  admits_fixed t (Ty.Var n) k h = k.steady n (not_false (rigid_in t.births n) h)
  admits_fixed t (Ty.Made c ts) k h = ap (where_parts (equality_of c)) (admit_fixed t ts k h)

  admit_fixed : (t : Table) (us : Types) → IsKept t → have_variable (flexible_in t.births) us ≡ false
      → admits_all (state t).marks us ≡ admits_all (marked_in t.births) us
  admit_fixed t Types.Nil k h = refl
  admit_fixed t (Types.Cons u us) k h = ap₂ ◌&&◌
      (admits_fixed t u k (or_false_left (has_variable (flexible_in t.births) u) (have_variable (flexible_in t.births) us) h))
      (admit_fixed t us k (or_false_right (has_variable (flexible_in t.births) u) (have_variable (flexible_in t.births) us) h))

refused_at : (a b : Bool) (n : ℕ) (q : Marks) → a ≡ true → b ≡ false → require_variable a b n q ≡ None
refused_at a b n q h k = ap₂ (λ x y. require_variable x y n q) h k

refused_kind : (e : Equality) (b : Bool) (q : Marks) (o : Option Marks) → where_parts e b ≡ false → (b ≡ false → o ≡ None)
    → required_by e q o ≡ None
refused_kind equality.Never b q o h f = refl
refused_kind equality.Always b q o h f = absurd (cc)
refused_kind equality.ByParts b q o h f = f h

and_cases : {P : Type 0} (a b : Bool) → (a && b) ≡ false → (a ≡ false → P) → (a ≡ true → b ≡ false → P) → P
and_cases true b h f g = g refl h
and_cases false b h f g = f refl

mutual
  refused_fixed : (births : List Birth) (q : Marks) (u : Ty) → has_variable (flexible_in births) u ≡ false
      → admits q u ≡ false → require (rigid_in births) u q ≡ None
  refused_fixed births q (Ty.Var n) h k = refused_at (rigid_in births n) (q n) n q (not_false (rigid_in births n) h) k
  refused_fixed births q (Ty.Made c ts) h k = refused_kind (equality_of c) (admits_all q ts) q (require_all (rigid_in births) ts q) k
      (refused_all births q ts h)

  refused_all : (births : List Birth) (q : Marks) (us : Types) → have_variable (flexible_in births) us ≡ false
      → admits_all q us ≡ false → require_all (rigid_in births) us q ≡ None
  refused_all births q Types.Nil h k = absurd (cc)
  refused_all births q (Types.Cons u us) h k = and_cases (admits q u) (admits_all q us) k
      (λ e. ap (λ o. and_then o (require_all (rigid_in births) us))
      (refused_fixed births q u (or_false_left (has_variable (flexible_in births) u) (have_variable (flexible_in births) us) h) e))
      (λ e f. ap (λ o. and_then o (require_all (rigid_in births) us)) (require_admitted (rigid_in births) q u e)
      ∙ refused_all births q us (or_false_right (has_variable (flexible_in births) u) (have_variable (flexible_in births) us) h) f)

pub fixed_admits : (t : Table) (i : ℕ) (f : Facts) → IsKept t → f ≡ facts_of t.births (type_of t (id.Made i))
    → f.flexible ≡ false → f.equality ≡ true → admitted (state t).marks (whole t (id.Made i))
fixed_admits t i f k e h g = ap (admits (state t).marks) (fixed_whole t i f k e h)
    ∙ admits_fixed t (type_of t (id.Made i)) k (sym (ap (λ (x : Facts). x.flexible) e) ∙ h)
    ∙ sym (ap (λ (x : Facts). x.equality) e) ∙ g

pub fixed_refuses : (t : Table) (i : ℕ) (f : Facts) → IsKept t → f ≡ facts_of t.births (type_of t (id.Made i))
    → f.flexible ≡ false → f.equality ≡ false → require (state t).rigid (whole t (id.Made i)) (state t).marks ≡ None
fixed_refuses t i f k e h g = ap₂ (λ r u. require r u (state t).marks) k.rigid (fixed_whole t i f k e h)
    ∙ refused_fixed t.births (state t).marks (type_of t (id.Made i)) (sym (ap (λ (x : Facts). x.flexible) e) ∙ h)
    (admits_fixed t (type_of t (id.Made i)) k (sym (ap (λ (x : Facts). x.flexible) e) ∙ h)
    ∙ sym (ap (λ (x : Facts). x.equality) e) ∙ g)

-- other nodes
pub node_never : (t : Table) (i : ℕ) → IsKept t → i < length t.nodes → equality_of (symbol_at (seen t) i) ≡ equality.Never
    → require (state t).rigid (whole t (id.Made i)) (state t).marks ≡ None
node_never t i k l e = ap (λ u. require (state t).rigid u (state t).marks) (whole_node_at t i k l)
    ∙ ap (λ x. required_by x (state t).marks (require_all (state t).rigid (stood_all (seen t) (parts_at (seen t) i)) (state t).marks)) e

pub node_always : (t : Table) (i : ℕ) → IsKept t → i < length t.nodes → equality_of (symbol_at (seen t) i) ≡ equality.Always
    → admitted (state t).marks (whole t (id.Made i))
node_always t i k l e = ap (admits (state t).marks) (whole_node_at t i k l)
    ∙ ap (λ x. where_parts x (admits_all (state t).marks (stood_all (seen t) (parts_at (seen t) i)))) e

pub node_by_parts : (t : Table) (i : ℕ) (u : Ty) (fs : List Frame) (f : Frame) → IsKept t → i < length t.nodes
    → by_parts (symbol_at (seen t) i) → whole t (id.Made i) ≡ u → f.node ≡ i → f.next ≡ 0
    → DemandedOk t t u fs (fs ++ f ∷ [])
node_by_parts t i u fs f k l c e a b =
    let s : Standing = seen t in
    let q : Marks = (state t).marks in
    let r : Marks = (state t).rigid in
    let parts : left s f ≡ stood_all s (parts_at s i) = ap₂ (λ n j. stood_all s (drop n (parts_at s j))) b a in
    let made : u ≡ Ty.Made (symbol_at s i) (stood_all s (parts_at s i)) = sym e ∙ whole_node_at t i k l in
    let all : require r u q ≡ require_all r (left s f) q = ap (λ x. require r x q) made
    ∙ ap (λ x. required_by x q (require_all r (stood_all s (parts_at s i)) q)) c
    ∙ ap (λ ts. require_all r ts q) (sym parts) in
    record {
      answer = ap (λ o. and_then o (require_left r s fs)) all ∙ sym (require_snoc r s fs f q);
      frames = λ h. frames_push by_parts (admitted q) nothing s fs f
          (frames_as by_parts (admitted q) (admitted q) (λ x. x ≡ u) (λ x. x ≡ stood s (id.Made f.node)) s fs (λ x p. p)
          (λ x p. inr (p ∙ sym e ∙ ap (λ j. stood s (id.Made j)) (sym a))) h)
          (frame_new by_parts (admitted q) s f (subst (λ j. j < length t.nodes) (sym a) l)
          (subst (λ j. by_parts (symbol_at s j)) (sym a) c) b);
      less = (let n : size u ≡ size_all (stood_all s (parts_at s i)) + 1 = ap size made in
          let m : size_all (left s f) ≡ size_all (stood_all s (parts_at s i)) = ap size_all parts in
          let j : steps_left s (fs ++ f ∷ []) ≡ steps_left s fs + (2 * size_all (left s f) + 1) = steps_snoc s fs f in
          omega (arith, n, m, j));
    }

-- a frame that has passed all parts
admit_all : (q : Marks) (s : Standing) (ids : List TyId) → ((k : ℕ) (a : TyId) → slice_get ids k ≡ Some a → admitted q (stood s a))
    → admits_all q (stood_all s ids) ≡ true
admit_all q s [] h = refl
admit_all q s (a ∷ ids) h = and_both (admits q (stood s a)) (admits_all q (stood_all s ids)) (h 0 a refl)
    (admit_all q s ids (λ k b e. h (suc k) b e))

pub admitted_passed : (q : Marks) (t : Table) (f : Frame) → IsKept t → NoPart (seen t) f
    → IsFrame by_parts (admitted q) nothing (seen t) f → admitted q (whole t (id.Made f.node))
admitted_passed q t f k n h = ap (admits q) (whole_node_at t f.node k h.within)
    ∙ ap (λ x. where_parts x (admits_all q (stood_all (seen t) (parts_at (seen t) f.node)))) h.kind
    ∙ admit_all q (seen t) (parts_at (seen t) f.node) (all_passed by_parts (admitted q) (seen t) f n h)

pub admitted_more : (q : Marks) (s : Standing) (i m : ℕ) (old new : Notes) → IsAdmitted q s old → admitted q (stood s (id.Made i))
    → ((n : ℕ) → get nat_eq new.numbers n ≡ cond (nat_eq i n) (Some m) (get nat_eq old.numbers n)) → IsAdmitted q s new
admitted_more q s i m old new h c e n o g = either_way (nat_eq i n)
    (λ j. subst (λ z. admitted q (stood s (id.Made z))) (eqb-true i n j) c)
    (λ j. h n o (sym (ap (λ b. cond b (Some m) (get nat_eq old.numbers n)) j) ∙ sym (e n) ∙ g))

pub required_none : (t : Table) (fs : List Frame) (f : Frame) (m : ℕ) (old new : Notes) → IsKept t → NoPart (seen t) f
    → AreFrames by_parts (admitted (state t).marks) nothing (seen t) (fs ++ f ∷ []) → IsAdmitted (state t).marks (seen t) old
    → ((n : ℕ) → get nat_eq new.numbers n ≡ cond (nat_eq f.node n) (Some m) (get nat_eq old.numbers n))
    → RequiredMore t t (fs ++ f ∷ []) fs new
required_none t fs f m old new k n h i e =
    let s : Standing = seen t in
    let q : Marks = (state t).marks in
    let g = frames_pop by_parts (admitted q) nothing s fs f h in
    let c : admitted q (whole t (id.Made f.node)) = admitted_passed q t f k n g.1 in
    record {
      answer = require_snoc (state t).rigid s fs f q
          ∙ ap (λ ts. and_then (require_all (state t).rigid ts q) (require_left (state t).rigid s fs)) n.left;
      frames = frames_as by_parts (admitted q) (admitted q) (λ x. x ≡ stood s (id.Made f.node)) nothing s fs (λ x p. p)
          (λ x p. inl (subst (admitted q) (sym p) c)) g.0;
      done = admitted_more q s f.node m old new i c e;
      less = (let j : steps_left s (fs ++ f ∷ []) ≡ steps_left s fs + (2 * size_all (left s f) + 1) = steps_snoc s fs f in
          omega (arith, j));
    }

-- the next part
same_steps : (f g : Marks → Option Marks) → ((q : Marks) → f q ≡ g q) → f ≡ g
same_steps f g h = λ i q. h q i

part_answer : (t : Table) (fs : List Frame) (f : Frame) (a : TyId) (q : Marks) → NextPart t f a
    → require_left (state t).rigid (seen t) (fs ++ f ∷ []) q
    ≡ and_then (require (state t).rigid (whole t a) q) (require_left (state t).rigid (seen t) (fs ++ after f ∷ []))
part_answer t fs f a q n =
    let r : Marks = (state t).rigid in
    let s : Standing = seen t in
    require_snoc r s fs f q ∙ ap (λ ts. and_then (require_all r ts q) (require_left r s fs)) n.left
    ∙ and_then_assoc (require r (whole t a) q) (require_all r (left s (after f))) (require_left r s fs)
    ∙ ap (and_then (require r (whole t a) q)) (same_steps _ _ (λ p. sym (require_snoc r s fs (after f) p)))

pub required_part : (t new : Table) (fs gs : List Frame) (f : Frame) (a : TyId) (notes : Notes)
    (r : Result (Unit {0}) TypeFault) → NextPart t f a
    → AreFrames by_parts (admitted (state t).marks) nothing (seen t) (fs ++ f ∷ []) → IsAdmitted (state t).marks (seen t) notes
    → MarksMore t new → Demanded t new (whole t a) (fs ++ after f ∷ []) gs r → RequiredOn t new (fs ++ f ∷ []) gs notes r
required_part t new fs gs f a notes (Ok done) n h i o m =
    let s : Standing = seen t in
    let q : Marks = (state t).marks in
    let g = frames_pop by_parts (admitted q) nothing s fs f h in
    let k : AreFrames by_parts (admitted q) (λ x. x ≡ whole t a) s (fs ++ after f ∷ []) =
    frames_push by_parts (admitted q) (λ x. x ≡ whole t a) s fs (after f) g.0 (frame_after by_parts (admitted q) nothing t f a n g.1) in
    record {
      answer = part_answer t fs f a q n ∙ m.answer;
      frames = m.frames k;
      done = λ j l e. admits_more q (state new).marks (stood s (id.Made j)) o.more (i j l e);
      less = (let j : steps_left s (fs ++ f ∷ []) ≡ steps_left s fs + (2 * size_all (left s f) + 1) = steps_snoc s fs f in
          let l : steps_left s (fs ++ after f ∷ []) ≡ steps_left s fs + (2 * size_all (left s (after f)) + 1) = steps_snoc s fs (after f) in
          let p : size_all (left s f) ≡ size (whole t a) + size_all (left s (after f)) = ap size_all n.left in
          let x : steps_left s gs < steps_left s (fs ++ after f ∷ []) + 2 * size (whole t a) = m.less in
          omega (arith, j, l, p, x));
    }
required_part t new fs gs f a notes (Err (fault.Clash x y)) n h i o m = m
required_part t new fs gs f a notes (Err (fault.Circular x y)) n h i o m = m
required_part t new fs gs f a notes (Err (fault.NotEquality x)) n h i o m = part_answer t fs f a (state t).marks n
    ∙ ap (λ z. and_then z (require_left (state t).rigid (seen t) (fs ++ after f ∷ []))) m
required_part t new fs gs f a notes (Err fault.NoMemory) n h i o m = tt

-- the whole of a demand
rigid_same : (old new : Table) → IsKept old → IsKept new → MarksMore old new → (state new).rigid ≡ (state old).rigid
rigid_same old new k l m = l.rigid ∙ ap rigid_in m.births ∙ sym k.rigid

pub start_answer : (old new : Table) (u : Ty) (fs : List Frame) → IsKept old → IsKept new → MarksMore old new
    → DemandedOk old new u [] fs → require (state old).rigid u (state old).marks
    ≡ require_left (state new).rigid (seen new) fs (state new).marks
start_answer old new u fs k l m h = and_then_some (require (state old).rigid u (state old).marks) ∙ h.answer
    ∙ ap₂ (λ r s. require_left r s fs (state new).marks) (sym (rigid_same old new k l m)) (sym (marks_seen old new m))

pub start_frames : (old new : Table) (u : Ty) (fs : List Frame) → MarksMore old new → DemandedOk old new u [] fs
    → AreFrames by_parts (admitted (state new).marks) nothing (seen new) fs
start_frames old new u fs m h = subst (λ s. AreFrames by_parts (admitted (state new).marks) nothing s fs) (sym (marks_seen old new m))
    (h.frames tt)

pub nothing_done : (q : Marks) (s : Standing) (notes : Notes) → ((n : ℕ) → get nat_eq notes.numbers n ≡ None) → IsAdmitted q s notes
nothing_done q s notes h i m e = absurd (let k : None ≡ Some m = sym (h i) ∙ e in cc)

pub step_answer : (first old new : Table) (u : Ty) (before fs : List Frame) (notes : Notes) → IsKept old → IsKept new
    → MarksMore old new
    → require (state first).rigid u (state first).marks ≡ require_left (state old).rigid (seen old) before (state old).marks
    → RequiredMore old new before fs notes → require (state first).rigid u (state first).marks
    ≡ require_left (state new).rigid (seen new) fs (state new).marks
step_answer first old new u before fs notes k l m e h = e ∙ h.answer
    ∙ ap₂ (λ r s. require_left r s fs (state new).marks) (sym (rigid_same old new k l m)) (sym (marks_seen old new m))

pub step_frames : (old new : Table) (before fs : List Frame) (notes : Notes) → MarksMore old new
    → RequiredMore old new before fs notes → AreFrames by_parts (admitted (state new).marks) nothing (seen new) fs
step_frames old new before fs notes m h =
    subst (λ s. AreFrames by_parts (admitted (state new).marks) nothing s fs) (sym (marks_seen old new m)) h.frames

pub step_done : (old new : Table) (before fs : List Frame) (notes : Notes) → MarksMore old new
    → RequiredMore old new before fs notes → IsAdmitted (state new).marks (seen new) notes
step_done old new before fs notes m h = subst (λ s. IsAdmitted (state new).marks s notes) (sym (marks_seen old new m)) h.done

pub step_less : (old new : Table) (before fs : List Frame) (notes : Notes) → MarksMore old new
    → RequiredMore old new before fs notes → steps_left (seen new) fs < steps_left (seen old) before
step_less old new before fs notes m h = subst (λ s. steps_left s fs < steps_left (seen old) before) (sym (marks_seen old new m)) h.less
