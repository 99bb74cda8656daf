-- making two types one, step by step
use Rattle.std.proofs.Common.{◌≡◌, ℕ, zero, suc, ◌-◌, ◌<◌, ◌≤◌, List, [], ◌∷◌, ◌++◌, length, refl, sym, ap, ap₂, ◌∙◌, subst, Some, None, true, false, cond, arith, ◌⊎◌, inl, inr, slice_get, get_or, drop}
use Rattle.std.proofs.lemmas.Bool.{eqb-true}
use Rattle.std.proofs.lemmas.Option.{slice_get-get_or, slice_get_within}
use Rattle.std.specs.Prelude.{nat_eq, Result, Ok, Err, IsErrAnd}
use Rattle.semantic_objects.specs.declared.name.TyId.{TyId}
use Rattle.semantic_objects.specs.declared.name.TyId.TheVariants as id
use Rattle.semantic_objects.specs.declared.symbol.Symbol.{Symbol}
use Rattle.semantic_objects.specs.declared.symbol.Symbol.TheVariants as symbol
use Rattle.semantic_objects.specs.Symbols.{same_symbol, part_count}
use Rattle.semantic_objects.proofs.Same.{symbol_is, symbol_same}
use Rattle.unification.specs.Types.{Ty, Types, State, put, put_all}
use Rattle.unification.specs.Unification.{Fault, Answer, then, unify_all, unify_in, unify_step, link, solve, IsSettled, IsMostGeneral, MakesEqual}
use Rattle.unification.proofs.Putting.{either_way, put-put, put_same}
use Rattle.unification.proofs.General.{most_general}
use Rattle.type_nodes.specs.declared.node.Node.{Node}
use Rattle.type_nodes.specs.Nodes.{AreMade, type_in, made}
use Rattle.type_nodes.specs.Tables.{Table, store_of, state, whole, type_of, types_of}
use Rattle.type_nodes.specs.Keeping.{IsKept}
use Rattle.indexmap.specs.IndexMap.{get}
use Rattle.sml_types.specs.declared.fault.TypeFault.{TypeFault}
use Rattle.sml_types.specs.declared.fault.TypeFault.TheVariants as fault
use Rattle.sml_types.specs.declared.pair.Pair.{Pair}
use Rattle.sml_types.specs.declared.notes.Notes.{Notes}
use Rattle.sml_types.specs.Frames.{seen, stood_all, parts_at, symbol_at}
use Rattle.sml_types.specs.Unifying.{Solved, Sought, IsMostGeneralFor}
use Rattle.sml_types.specs.Pairs.{left_parts, right_parts, after_pair, NextPair, NoPair, IsSame, IsOne, OneAt, AreOne, IsLater, IsPair, AreThese, ArePairs, no_exception, pair_answer, unify_left, MeetingOk, Meeting, meeting_answer, SteppingOk, Stepping}
use Rattle.sml_types.proofs.Frames.{drop_at, drop_past, none_past, part_has, parts_are, whole_node_at, either, before_or, some_same}
use Rattle.sml_types.proofs.Heights.{same_unifies}

-- later states
pub put_later : (r s : State) (t : Ty) → IsLater r s → put r.stands (put s.stands t) ≡ put r.stands t
put_later r s t h = put-put r.stands s.stands t ∙ put_same _ _ t h

-- r is later than s, and s than q
pub later_then : (r s q : State) → IsLater r s → IsLater s q → IsLater r q
later_then r s q h k n = sym (put_later r s (q.stands n) h) ∙ ap (put r.stands) (k n) ∙ h n

pub later_same : (t : Table) → IsKept t → IsLater (state t) (state t)
later_same t k = k.fit.settled.solves.types

pub same_later : (r s : State) (x y : Ty) → IsLater r s → IsSame s x y → IsSame r x y
same_later r s x y h e = sym (put_later r s x h) ∙ ap (put r.stands) e ∙ put_later r s y h

-- what a unification that is answered says
pub unified_later : (d : ℕ) (a b : Ty) (s r : State) → IsSettled s → unify_in d a b s ≡ Some (Ok r) → IsLater r s
unified_later d a b s r h e =
    let m : IsMostGeneral s r (MakesEqual a b) = most_general d a b s (Ok r) h e in
    (m.sound r m.settled.solves).0.types

pub unified_same : (d : ℕ) (a b : Ty) (s r : State) → IsSettled s → unify_in d a b s ≡ Some (Ok r) → IsSame r a b
unified_same d a b s r h e =
    let m : IsMostGeneral s r (MakesEqual a b) = most_general d a b s (Ok r) h e in
    (m.sound r m.settled.solves).1

pub unified_settled : (d : ℕ) (a b : Ty) (s r : State) → IsSettled s → unify_in d a b s ≡ Some (Ok r) → IsSettled r
unified_settled d a b s r h e =
    let m : IsMostGeneral s r (MakesEqual a b) = most_general d a b s (Ok r) h e in m.settled

-- pairs
pub next_pair : (t : Table) (p : Pair) (x y : Node) (a b : TyId) → AreMade (store_of t) → slice_get t.nodes p.left ≡ Some x
    → slice_get t.nodes p.right ≡ Some y → slice_get x.parts p.next ≡ Some a → slice_get y.parts p.next ≡ Some b
    → NextPair t p a b
next_pair t p x y a b h e f i j =
    let l : slice_get (parts_at (seen t) p.left) p.next ≡ Some a =
    ap (λ ps. slice_get ps p.next) (parts_are (seen t) p.left x e) ∙ i in
    let r : slice_get (parts_at (seen t) p.right) p.next ≡ Some b =
    ap (λ ps. slice_get ps p.next) (parts_are (seen t) p.right y f) ∙ j in
    record {
      has_left = part_has t p.left p.next x a h e i;
      has_right = part_has t p.right p.next y b h f j;
      at_left = l;
      at_right = r;
      left = ap (types_of t) (drop_at (parts_at (seen t) p.left) p.next a l);
      right = ap (types_of t) (drop_at (parts_at (seen t) p.right) p.next b r);
    }

pub no_pair : (t : Table) (p : Pair) (x y : Node) → slice_get t.nodes p.left ≡ Some x → slice_get t.nodes p.right ≡ Some y
    → None ≡ slice_get x.parts p.next → None ≡ slice_get y.parts p.next → NoPair t p
no_pair t p x y e f i j =
    let l : length (parts_at (seen t) p.left) ≤ p.next =
    none_past (parts_at (seen t) p.left) p.next (i ∙ sym (ap (λ ps. slice_get ps p.next) (parts_are (seen t) p.left x e))) in
    let r : length (parts_at (seen t) p.right) ≤ p.next =
    none_past (parts_at (seen t) p.right) p.next (j ∙ sym (ap (λ ps. slice_get ps p.next) (parts_are (seen t) p.right y f))) in
    record {
      left = ap (types_of t) (drop_past (parts_at (seen t) p.left) p.next l);
      right = ap (types_of t) (drop_past (parts_at (seen t) p.right) p.next r);
      ended_left = l;
      ended_right = r;
    }

pub pair_as : (t : Table) (r s : State) (E F : Ty → Ty → Type 0) (p : Pair) → IsLater r s
    → ((x y : Ty) → E x y → IsSame r x y ⊎ F x y) → IsPair t s E p → IsPair t r F p
pair_as t r s E F p l g h = record {
  left = h.left;
  right = h.right;
  symbol = h.symbol;
  passed = λ k a b m e f. either (IsSame s (type_of t a) (type_of t b)) (E (type_of t a) (type_of t b))
      (IsSame r (type_of t a) (type_of t b) ⊎ F (type_of t a) (type_of t b)) (h.passed k a b m e f)
      (λ i. inl (same_later r s (type_of t a) (type_of t b) l i)) (λ i. g (type_of t a) (type_of t b) i);
}

these_later : (r s : State) (u v x y : Ty) → IsLater r s → AreThese s u v x y → AreThese r u v x y
these_later r s u v x y l h = (same_later r s x u l h.0, same_later r s y v l h.1)

pub pairs_as : (t : Table) (r s : State) (E F : Ty → Ty → Type 0) (ps : List Pair) → IsLater r s
    → ((x y : Ty) → E x y → IsSame r x y ⊎ F x y) → ArePairs t s E ps → ArePairs t r F ps
pairs_as t r s E F [] l g h = tt
pairs_as t r s E F (p ∷ []) l g h = (pair_as t r s E F p l g h.0, tt)
pairs_as t r s E F (p ∷ q ∷ ps) l g h = (
  pair_as t r s (AreThese s (type_of t (id.Made q.left)) (type_of t (id.Made q.right)))
      (AreThese r (type_of t (id.Made q.left)) (type_of t (id.Made q.right))) p l
      (λ x y e. inr (these_later r s (type_of t (id.Made q.left)) (type_of t (id.Made q.right)) x y l e)) h.0,
  pairs_as t r s E F (q ∷ ps) l g h.1,
)

pub pairs_push : (t : Table) (s : State) (E : Ty → Ty → Type 0) (ps : List Pair) (p : Pair)
    → ArePairs t s (AreThese s (type_of t (id.Made p.left)) (type_of t (id.Made p.right))) ps → IsPair t s E p
    → ArePairs t s E (ps ++ p ∷ [])
pairs_push t s E [] p h k = (k, tt)
pairs_push t s E (q ∷ []) p h k = (h.0, (k, tt))
pairs_push t s E (q ∷ q' ∷ qs) p h k = (h.0, pairs_push t s E (q' ∷ qs) p h.1 k)

pub pairs_pop : (t : Table) (s : State) (E : Ty → Ty → Type 0) (ps : List Pair) (p : Pair) → ArePairs t s E (ps ++ p ∷ [])
    → ArePairs t s (AreThese s (type_of t (id.Made p.left)) (type_of t (id.Made p.right))) ps × IsPair t s E p
pairs_pop t s E [] p h = (tt, h.0)
pairs_pop t s E (q ∷ []) p h = ((h.0, tt), h.1.0)
pairs_pop t s E (q ∷ q' ∷ qs) p h = (let k = pairs_pop t s E (q' ∷ qs) p h.1 in ((h.0, k.0), k.1))

pub last_pair : (t : Table) (s : State) (E : Ty → Ty → Type 0) (ps : List Pair) (p : Pair) → ArePairs t s E (ps ++ p ∷ [])
    → IsPair t s E p
last_pair t s E ps p h = (pairs_pop t s E ps p h).1

pub pair_after : (t : Table) (s : State) (p : Pair) (a b : TyId) → NextPair t p a b → IsPair t s no_exception p
    → IsPair t s (AreThese s (type_of t a) (type_of t b)) (after_pair p)
pair_after t s p a b n h = record {
  left = h.left;
  right = h.right;
  symbol = h.symbol;
  passed = λ k x y l e f. before_or k p.next l
      (λ i. either (IsSame s (type_of t x) (type_of t y)) ⊥ (IsSame s (type_of t x) (type_of t y) ⊎ AreThese s (type_of t a) (type_of t b) (type_of t x) (type_of t y)) (h.passed k x y i e f) (λ q. inl q) (λ z. absurd z))
      (λ i. inr (
        ap (λ z. put s.stands (type_of t z)) (some_same x a (sym e ∙ ap (slice_get (parts_at (seen t) p.left)) i ∙ n.at_left)),
        ap (λ z. put s.stands (type_of t z)) (some_same y b (sym f ∙ ap (slice_get (parts_at (seen t) p.right)) i ∙ n.at_right)),
      ));
}

-- answers
then_assoc : (o : Answer) (f g : State → Answer) → then (then o f) g ≡ then o (λ s. then (f s) g)
then_assoc None f g = refl
then_assoc (Some (Ok s)) f g = refl
then_assoc (Some (Err e)) f g = refl

then_ok : (o : Answer) → o ≡ then o (λ s. Some (Ok s))
then_ok None = refl
then_ok (Some (Ok s)) = refl
then_ok (Some (Err e)) = refl

pub left_snoc : (t : Table) (ps : List Pair) (p : Pair) (s : State)
    → unify_left t (ps ++ p ∷ []) s ≡ then (pair_answer t p s) (unify_left t ps)
left_snoc t [] p s = then_ok (pair_answer t p s)
left_snoc t (q ∷ qs) p s = ap (λ o. then o (pair_answer t q)) (left_snoc t qs p s)
    ∙ then_assoc (pair_answer t p s) (unify_left t qs) (pair_answer t q)

same_steps : (f g : State → Answer) → ((s : State) → f s ≡ g s) → f ≡ g
same_steps f g h = λ i s. h s i

part_answer : (t : Table) (ps : List Pair) (p : Pair) (a b : TyId) (s : State) → NextPair t p a b
    → unify_left t (ps ++ p ∷ []) s ≡ then (unify_in p.depth (type_of t a) (type_of t b) s) (unify_left t (ps ++ after_pair p ∷ []))
part_answer t ps p a b s n =
    left_snoc t ps p s
    ∙ ap₂ (λ ts us. then (unify_all (unify_in p.depth) ts us s) (unify_left t ps)) n.left n.right
    ∙ then_assoc (unify_in p.depth (type_of t a) (type_of t b) s)
    (λ r. unify_all (unify_in p.depth) (left_parts t (after_pair p)) (right_parts t (after_pair p)) r) (unify_left t ps)
    ∙ ap (then (unify_in p.depth (type_of t a) (type_of t b) s))
    (same_steps _ (unify_left t (ps ++ after_pair p ∷ [])) (λ r. sym (left_snoc t ps (after_pair p) r)))

-- unification hangs on what its types stand for
pub unify_put : (n : ℕ) (a b : Ty) (r s : State) → IsLater r s → IsLater r r
    → unify_in n (put s.stands a) (put s.stands b) r ≡ unify_in n a b r
unify_put zero a b r s h k = refl
unify_put (suc n) a b r s h k = ap₂ (λ p q. unify_step (unify_in n) p q r) (put_later r s a h) (put_later r s b h)

then_same : (o : Answer) (f g : State → Answer) → ((r : State) → o ≡ Some (Ok r) → f r ≡ g r) → then o f ≡ then o g
then_same None f g h = refl
then_same (Some (Ok r)) f g h = h r refl
then_same (Some (Err e)) f g h = refl

pub all_put : (n : ℕ) (ts us : Types) (r s : State) → IsLater r s → IsSettled r
    → unify_all (unify_in n) (put_all s.stands ts) (put_all s.stands us) r ≡ unify_all (unify_in n) ts us r
all_put n Types.Nil Types.Nil r s h k = refl
all_put n Types.Nil (Types.Cons u us) r s h k = refl
all_put n (Types.Cons t ts) Types.Nil r s h k = refl
all_put n (Types.Cons t ts) (Types.Cons u us) r s h k =
    ap (λ o. then o (λ q. unify_all (unify_in n) (put_all s.stands ts) (put_all s.stands us) q))
    (unify_put n t u r s h k.solves.types)
    ∙ then_same (unify_in n t u r) _ _ (λ q e. all_put n ts us q s (later_then q r s (unified_later n t u r q k e) h)
    (unified_settled n t u r q k e))

unify_at : (d : ℕ) (a b : Ty) (s : State) → 0 < d
    → unify_in d a b s ≡ unify_step (unify_in (d - 1)) (put s.stands a) (put s.stands b) s
unify_at zero a b s h = absurd (omega (arith, h))
unify_at (suc n) a b s h = let e : n ≡ suc n - 1 = omega arith in
    ap (λ m. unify_step (unify_in m) (put s.stands a) (put s.stands b) s) e

pub unify_whole : (d : ℕ) (a b x y : Ty) (s : State) → 0 < d → put s.stands a ≡ x → put s.stands b ≡ y
    → unify_in d a b s ≡ unify_step (unify_in (d - 1)) x y s
unify_whole d a b x y s h e f = unify_at d a b s h ∙ ap₂ (λ p q. unify_step (unify_in (d - 1)) p q s) e f

-- one unification by steps that are answered
meeting_solved : (old new : Table) (d : ℕ) (a b : TyId) (ps : List Pair) (want : Result State Fault)
    (r : Result (Unit {0}) TypeFault) → IsKept old
    → unify_in d (type_of old a) (type_of old b) (state old) ≡ Some want → Solved want r (state new)
    → Meeting old new (meeting_answer old d a b ps) (AreThese (state old) (type_of old a) (type_of old b)) ps ps r
meeting_solved old new d a b ps want (Ok done) k e h =
    let f : unify_in d (type_of old a) (type_of old b) (state old) ≡ Some (Ok (state new)) = e ∙ ap Some h in
    let l : IsLater (state new) (state old) = unified_later d (type_of old a) (type_of old b) (state old) (state new) k.fit.settled f in
    let o : IsSame (state new) (type_of old a) (type_of old b) =
    unified_same d (type_of old a) (type_of old b) (state old) (state new) k.fit.settled f in
    record {
      answer = ap (λ x. then x (unify_left old ps)) f;
      later = l;
      pairs = pairs_as old (state new) (state old) (AreThese (state old) (type_of old a) (type_of old b)) no_exception ps l
          (λ x y i. inl (same_later (state new) (state old) x (type_of old a) l i.0 ∙ o
          ∙ sym (same_later (state new) (state old) y (type_of old b) l i.1)));
    }
meeting_solved old new d a b ps want (Err (fault.Clash x y)) k e h = ap (λ z. then z (unify_left old ps)) (e ∙ ap Some h)
meeting_solved old new d a b ps want (Err (fault.Circular x y)) k e h = ap (λ z. then z (unify_left old ps)) (e ∙ ap Some h)
meeting_solved old new d a b ps want (Err (fault.NotEquality x)) k e h = ap (λ z. then z (unify_left old ps)) (e ∙ ap Some h)
meeting_solved old new d a b ps want (Err fault.NoMemory) k e h = tt

pub meeting_variables : (old new : Table) (d v w : ℕ) (a b : TyId) (ps : List Pair) (r : Result (Unit {0}) TypeFault)
    → IsKept old → 0 < d → whole old a ≡ Ty.Var v → whole old b ≡ Ty.Var w → Solved (link v w (state old)) r (state new)
    → Meeting old new (meeting_answer old d a b ps) (AreThese (state old) (type_of old a) (type_of old b)) ps ps r
meeting_variables old new d v w a b ps r k z e f h = meeting_solved old new d a b ps (link v w (state old)) r k
    (unify_whole d (type_of old a) (type_of old b) (Ty.Var v) (Ty.Var w) (state old) z e f) h

step_left : (rec : Ty → Ty → State → Answer) (v : ℕ) (u : Ty) (c : Symbol) (ts : Types) (s : State) → u ≡ Ty.Made c ts
    → unify_step rec (Ty.Var v) u s ≡ Some (solve v u s)
step_left rec v u c ts s e = ap (λ x. unify_step rec (Ty.Var v) x s) e ∙ ap (λ x. Some (solve v x s)) (sym e)

step_right : (rec : Ty → Ty → State → Answer) (v : ℕ) (u : Ty) (c : Symbol) (ts : Types) (s : State) → u ≡ Ty.Made c ts
    → unify_step rec u (Ty.Var v) s ≡ Some (solve v u s)
step_right rec v u c ts s e = ap (λ x. unify_step rec x (Ty.Var v) s) e ∙ ap (λ x. Some (solve v x s)) (sym e)

pub meeting_left : (old new : Table) (d v i : ℕ) (a b : TyId) (ps : List Pair) (r : Result (Unit {0}) TypeFault)
    → IsKept old → 0 < d → i < length old.nodes → whole old a ≡ Ty.Var v → whole old (id.Made i) ≡ whole old b
    → Solved (solve v (whole old (id.Made i)) (state old)) r (state new)
    → Meeting old new (meeting_answer old d a b ps) (AreThese (state old) (type_of old a) (type_of old b)) ps ps r
meeting_left old new d v i a b ps r k z l e f h = meeting_solved old new d a b ps (solve v (whole old (id.Made i)) (state old)) r k
    (unify_whole d (type_of old a) (type_of old b) (Ty.Var v) (whole old (id.Made i)) (state old) z e (sym f)
    ∙ step_left (unify_in (d - 1)) v (whole old (id.Made i)) _ _ (state old) (whole_node_at old i k l)) h

pub meeting_right : (old new : Table) (d v i : ℕ) (a b : TyId) (ps : List Pair) (r : Result (Unit {0}) TypeFault)
    → IsKept old → 0 < d → i < length old.nodes → whole old (id.Made i) ≡ whole old a → whole old b ≡ Ty.Var v
    → Solved (solve v (whole old (id.Made i)) (state old)) r (state new)
    → Meeting old new (meeting_answer old d a b ps) (AreThese (state old) (type_of old a) (type_of old b)) ps ps r
meeting_right old new d v i a b ps r k z l e f h = meeting_solved old new d a b ps (solve v (whole old (id.Made i)) (state old)) r k
    (unify_whole d (type_of old a) (type_of old b) (whole old (id.Made i)) (Ty.Var v) (state old) z (sym e) f
    ∙ step_right (unify_in (d - 1)) v (whole old (id.Made i)) _ _ (state old) (whole_node_at old i k l)) h

-- the same for ids that stand for the same types
unify_alike : (d : ℕ) (x y a b : Ty) (s : State) → IsSame s x a → IsSame s y b → unify_in d x y s ≡ unify_in d a b s
unify_alike zero x y a b s e f = refl
unify_alike (suc n) x y a b s e f = ap₂ (λ p q. unify_step (unify_in n) p q s) e f

meeting_to : (old new : Table) (want got : Answer) (E F : Ty → Ty → Type 0) (ps qs : List Pair) (r : Result (Unit {0}) TypeFault)
    → want ≡ got → ((u v : Ty) → F u v → E u v) → IsKept old → Meeting old new want E ps qs r → Meeting old new got F ps qs r
meeting_to old new want got E F ps qs (Ok done) e g k h = record {
  answer = sym e ∙ h.answer;
  later = h.later;
  pairs = λ i. h.pairs (pairs_as old (state old) (state old) F E ps (later_same old k) (λ u v j. inr (g u v j)) i);
}
meeting_to old new want got E F ps qs (Err (fault.Clash x y)) e g k h = sym e ∙ h
meeting_to old new want got E F ps qs (Err (fault.Circular x y)) e g k h = sym e ∙ h
meeting_to old new want got E F ps qs (Err (fault.NotEquality x)) e g k h = sym e ∙ h
meeting_to old new want got E F ps qs (Err fault.NoMemory) e g k h = tt

pub meeting_as : (old new : Table) (d : ℕ) (a b x y : TyId) (ps qs : List Pair) (r : Result (Unit {0}) TypeFault)
    → IsKept old → whole old x ≡ whole old a → whole old y ≡ whole old b
    → Meeting old new (meeting_answer old d x y ps) (AreThese (state old) (type_of old x) (type_of old y)) ps qs r
    → Meeting old new (meeting_answer old d a b ps) (AreThese (state old) (type_of old a) (type_of old b)) ps qs r
meeting_as old new d a b x y ps qs r k e f h = meeting_to old new _ _ _ _ ps qs r
    (ap (λ o. then o (unify_left old ps)) (unify_alike d (type_of old x) (type_of old y) (type_of old a) (type_of old b) (state old) e f))
    (λ u v i. (i.0 ∙ sym e, i.1 ∙ sym f)) k h

-- two nodes
pub nodes_one : (t : Table) (d i j l m : ℕ) (ps : List Pair) → IsKept t → 0 < d → i < length t.nodes → IsOne t (state t) l i
    → IsOne t (state t) m j → l ≡ m → length t.nodes < d - 1
    → MeetingOk t t (meeting_answer t d (id.Made i) (id.Made j) ps)
    (AreThese (state t) (type_of t (id.Made i)) (type_of t (id.Made j))) ps ps
nodes_one t d i j l m ps k z h e f g n =
    let o : IsSame (state t) (type_of t (id.Made i)) (type_of t (id.Made j)) =
    sym e ∙ ap (λ x. whole t (id.Made x)) g ∙ f in
    record {
      answer = ap (λ x. then x (unify_left t ps)) (same_unifies t d (id.Made i) (id.Made j) k h o z n);
      later = later_same t k;
      pairs = pairs_as t (state t) (state t) (AreThese (state t) (type_of t (id.Made i)) (type_of t (id.Made j))) no_exception ps
          (later_same t k) (λ x y q. inl (q.0 ∙ o ∙ sym q.1));
    }

nodes_step : (t : Table) (d i j l m : ℕ) → IsKept t → 0 < d → l < length t.nodes → m < length t.nodes → IsOne t (state t) l i
    → IsOne t (state t) m j → unify_in d (type_of t (id.Made i)) (type_of t (id.Made j)) (state t)
    ≡ cond (same_symbol (symbol_at (seen t) l) (symbol_at (seen t) m))
    (unify_all (unify_in (d - 1)) (stood_all (seen t) (parts_at (seen t) l)) (stood_all (seen t) (parts_at (seen t) m)) (state t))
    (Some (Err Fault.Clash))
nodes_step t d i j l m k z a b e f = unify_whole d (type_of t (id.Made i)) (type_of t (id.Made j)) _ _ (state t) z
    (sym e ∙ whole_node_at t l k a) (sym f ∙ whole_node_at t m k b)

unlike_symbols : (c e : Symbol) → (c ≡ e → ⊥) → same_symbol c e ≡ false
unlike_symbols c e h = either_way (same_symbol c e) (λ i. absurd (h (symbol_is c e i))) (λ i. i)

pub nodes_clash : (t : Table) (d i j l m : ℕ) (ps : List Pair) → IsKept t → 0 < d → l < length t.nodes → m < length t.nodes
    → IsOne t (state t) l i → IsOne t (state t) m j → (symbol_at (seen t) l ≡ symbol_at (seen t) m → ⊥)
    → meeting_answer t d (id.Made i) (id.Made j) ps ≡ Some (Err Fault.Clash)
nodes_clash t d i j l m ps k z a b e f h = ap (λ x. then x (unify_left t ps)) (nodes_step t d i j l m k z a b e f
    ∙ ap (λ x. cond x (unify_all (unify_in (d - 1)) (stood_all (seen t) (parts_at (seen t) l)) (stood_all (seen t) (parts_at (seen t) m)) (state t)) (Some (Err Fault.Clash))) (unlike_symbols (symbol_at (seen t) l) (symbol_at (seen t) m) h))

pub nodes_push : (t : Table) (d i j : ℕ) (p : Pair) (ps : List Pair) → IsKept t → 0 < d → p.left < length t.nodes
    → p.right < length t.nodes → IsOne t (state t) p.left i → IsOne t (state t) p.right j
    → symbol_at (seen t) p.left ≡ symbol_at (seen t) p.right → p.next ≡ 0 → p.depth ≡ d - 1
    → MeetingOk t t (meeting_answer t d (id.Made i) (id.Made j) ps)
    (AreThese (state t) (type_of t (id.Made i)) (type_of t (id.Made j))) ps (ps ++ p ∷ [])
nodes_push t d i j p ps k z a b e f c n g =
    let s : State = state t in
    let ls : Types = types_of t (parts_at (seen t) p.left) in
    let rs : Types = types_of t (parts_at (seen t) p.right) in
    let one : unify_in d (type_of t (id.Made i)) (type_of t (id.Made j)) s ≡ pair_answer t p s =
    nodes_step t d i j p.left p.right k z a b e f
    ∙ ap (λ x. cond x (unify_all (unify_in (d - 1)) (put_all s.stands ls) (put_all s.stands rs) s) (Some (Err Fault.Clash)))
    (subst (λ x. same_symbol (symbol_at (seen t) p.left) x ≡ true) c (symbol_same (symbol_at (seen t) p.left)))
    ∙ all_put (d - 1) ls rs s s (later_same t k) k.fit.settled
    ∙ ap₂ (λ x y. unify_all (unify_in x) (types_of t (drop y (parts_at (seen t) p.left))) (types_of t (drop y (parts_at (seen t) p.right))) s)
    (sym g) (sym n) in
    record {
      answer = ap (λ x. then x (unify_left t ps)) one ∙ sym (left_snoc t ps p s);
      later = later_same t k;
      pairs = λ h. pairs_push t s no_exception ps p
          (pairs_as t s s (AreThese s (type_of t (id.Made i)) (type_of t (id.Made j)))
          (AreThese s (type_of t (id.Made p.left)) (type_of t (id.Made p.right))) ps (later_same t k)
          (λ x y q. inr (q.0 ∙ sym e, q.1 ∙ sym f)) h)
          (record { left = a; right = b; symbol = c; passed = λ o x y l v w. absurd (omega (arith, l, n)) });
    }

-- a pair that has passed all parts
all_same : (t : Table) (s : State) (xs ys : List TyId)
    → ((k : ℕ) (a b : TyId) → slice_get xs k ≡ Some a → slice_get ys k ≡ Some b → IsSame s (type_of t a) (type_of t b))
    → length xs ≡ length ys → put_all s.stands (types_of t xs) ≡ put_all s.stands (types_of t ys)
all_same t s [] [] h l = refl
all_same t s [] (b ∷ ys) h l = absurd (omega (arith, l))
all_same t s (a ∷ xs) [] h l = absurd (omega (arith, l))
all_same t s (a ∷ xs) (b ∷ ys) h l = ap₂ Types.Cons (h 0 a b refl refl)
    (all_same t s xs ys (λ k x y e f. h (suc k) x y e f) (omega (arith, l)))

raw_node : (t : Table) (i : ℕ) → IsKept t → i < length t.nodes
    → type_of t (id.Made i) ≡ Ty.Made (symbol_at (seen t) i) (types_of t (parts_at (seen t) i))
raw_node t i k h = k.made.noted i (get_or t.nodes i (record { symbol = symbol.Arrow; parts = [] }))
    (slice_get-get_or t.nodes i (record { symbol = symbol.Arrow; parts = [] }) h)

count_at : (t : Table) (i : ℕ) → IsKept t → i < length t.nodes → length (parts_at (seen t) i) ≡ part_count (symbol_at (seen t) i)
count_at t i k h = (k.made.each i (get_or t.nodes i (record { symbol = symbol.Arrow; parts = [] }))
    (slice_get-get_or t.nodes i (record { symbol = symbol.Arrow; parts = [] }) h)).counted

pub pair_done : (t : Table) (p : Pair) → IsKept t → NoPair t p → IsPair t (state t) no_exception p
    → IsOne t (state t) p.left p.right
pair_done t p k n h =
    let s : State = state t in
    let counts : length (parts_at (seen t) p.left) ≡ length (parts_at (seen t) p.right) =
    count_at t p.left k h.left ∙ ap part_count h.symbol ∙ sym (count_at t p.right k h.right) in
    ap (put s.stands) (raw_node t p.left k h.left)
    ∙ ap₂ Ty.Made h.symbol (all_same t s (parts_at (seen t) p.left) (parts_at (seen t) p.right)
    (λ j a b e f. either (IsSame s (type_of t a) (type_of t b)) ⊥ (IsSame s (type_of t a) (type_of t b))
    (h.passed j a b (let l : j < length (parts_at (seen t) p.left) = slice_get_within (parts_at (seen t) p.left) j a e in
    omega (arith, l, n.ended_left)) e f) (λ q. q) (λ q. absurd q)) counts)
    ∙ sym (ap (put s.stands) (raw_node t p.right k h.right))

pub stepping_none : (t : Table) (ps : List Pair) (p : Pair) (notes : Notes) → IsKept t → NoPair t p
    → ArePairs t (state t) no_exception (ps ++ p ∷ []) → AreOne t (state t) notes → SteppingOk t t (ps ++ p ∷ []) ps notes
stepping_none t ps p notes k n h o =
    let s : State = state t in
    let g = pairs_pop t s no_exception ps p h in
    let c : IsOne t s p.left p.right = pair_done t p k n g.1 in
    record {
      answer = left_snoc t ps p s ∙ ap₂ (λ ts us. then (unify_all (unify_in p.depth) ts us s) (unify_left t ps)) n.left n.right;
      later = later_same t k;
      pairs = pairs_as t s s (AreThese s (type_of t (id.Made p.left)) (type_of t (id.Made p.right))) no_exception ps
          (later_same t k) (λ x y q. inl (q.0 ∙ c ∙ sym q.1)) g.0;
      one = o;
    }

pub one_later : (t : Table) (r s : State) (notes : Notes) → IsLater r s → AreOne t s notes → AreOne t r notes
one_later t r s notes l h i j e = (let o : OneAt t s i j = h i j e in
    record { falls = o.falls; within = o.within; one = same_later r s (type_of t (id.Made j)) (type_of t (id.Made i)) l o.one })

pub stepping_part : (t new : Table) (ps qs : List Pair) (p : Pair) (a b : TyId) (notes : Notes)
    (r : Result (Unit {0}) TypeFault) → NextPair t p a b → ArePairs t (state t) no_exception (ps ++ p ∷ [])
    → AreOne t (state t) notes
    → Meeting t new (meeting_answer t p.depth a b (ps ++ after_pair p ∷ [])) (AreThese (state t) (type_of t a) (type_of t b))
    (ps ++ after_pair p ∷ []) qs r
    → Stepping t new (ps ++ p ∷ []) qs notes r
stepping_part t new ps qs p a b notes (Ok done) n h o m =
    let s : State = state t in
    let g = pairs_pop t s no_exception ps p h in
    record {
      answer = part_answer t ps p a b s n ∙ m.answer;
      later = m.later;
      pairs = m.pairs (pairs_push t s (AreThese s (type_of t a) (type_of t b)) ps (after_pair p) g.0 (pair_after t s p a b n g.1));
      one = one_later t (state new) s notes m.later o;
    }
stepping_part t new ps qs p a b notes (Err (fault.Clash x y)) n h o m = part_answer t ps p a b (state t) n ∙ m
stepping_part t new ps qs p a b notes (Err (fault.Circular x y)) n h o m = part_answer t ps p a b (state t) n ∙ m
stepping_part t new ps qs p a b notes (Err (fault.NotEquality x)) n h o m = part_answer t ps p a b (state t) n ∙ m
stepping_part t new ps qs p a b notes (Err fault.NoMemory) n h o m = tt

-- what is noted
pub one_root : (t : Table) (s : State) (notes : Notes) (i j node : ℕ) → AreOne t s notes → get nat_eq notes.numbers i ≡ Some j
    → IsOne t s i node → IsOne t s j node
one_root t s notes i j node h e o = (h i j e).one ∙ o

pub one_made : (t : Table) (s : State) (l r left right : ℕ) → IsOne t s l left → IsOne t s r right → IsOne t s left right
    → IsOne t s l r
one_made t s l r left right h k m = h ∙ m ∙ sym k

pub one_noted : (t : Table) (s : State) (old new : Notes) (i j : ℕ) → AreOne t s old → j < i → i < length t.nodes
    → IsOne t s j i
    → ((n : ℕ) → get nat_eq new.numbers n ≡ cond (nat_eq i n) (Some j) (get nat_eq old.numbers n)) → AreOne t s new
one_noted t s old new i j h l w o e n m f = either_way (nat_eq i n)
    (λ x. (let y : j ≡ m = some_same j m (sym (ap (λ b. cond b (Some j) (get nat_eq old.numbers n)) x) ∙ sym (e n) ∙ f) in
    subst (λ z. OneAt t s z m) (eqb-true i n x) (subst (λ z. OneAt t s i z) y (record { falls = l; within = w; one = o }))))
    (λ x. h n m (sym (ap (λ b. cond b (Some j) (get nat_eq old.numbers n)) x) ∙ sym (e n) ∙ f))

pub one_nothing : (t : Table) (s : State) (notes : Notes) → ((n : ℕ) → get nat_eq notes.numbers n ≡ None) → AreOne t s notes
one_nothing t s notes h i j e = absurd (let k : None ≡ Some j = sym (h i) ∙ e in cc)

-- between tables with the same nodes
pub left_nodes : (a b : Table) (ps : List Pair) (s : State) → b.nodes ≡ a.nodes → unify_left b ps s ≡ unify_left a ps s
left_nodes a b ps s h = ap (λ ns. unify_left (record { births = a.births; nodes = ns; trail = a.trail }) ps s) h

pair_nodes : (a b : Table) (s : State) (E : Ty → Ty → Type 0) (p : Pair) → b.nodes ≡ a.nodes → IsPair a s E p → IsPair b s E p
pair_nodes a b s E p h k = record {
  left = subst (λ ns. p.left < length ns) (sym h) k.left;
  right = subst (λ ns. p.right < length ns) (sym h) k.right;
  symbol = subst (λ ns. (get_or {A = Node} ns p.left (record { symbol = symbol.Arrow; parts = [] })).symbol
      ≡ (get_or {A = Node} ns p.right (record { symbol = symbol.Arrow; parts = [] })).symbol) (sym h) k.symbol;
  passed = subst (λ ns. (n : ℕ) (x y : TyId) → n < p.next
      → slice_get (get_or {A = Node} ns p.left (record { symbol = symbol.Arrow; parts = [] })).parts n ≡ Some x
      → slice_get (get_or {A = Node} ns p.right (record { symbol = symbol.Arrow; parts = [] })).parts n ≡ Some y
      → IsSame s (type_in (made ns) x) (type_in (made ns) y) ⊎ E (type_in (made ns) x) (type_in (made ns) y)) (sym h) k.passed;
}

pub pairs_nodes : (a b : Table) (ps : List Pair) (s : State) → b.nodes ≡ a.nodes → ArePairs a s no_exception ps
    → ArePairs b s no_exception ps
pairs_nodes a b [] s h k = tt
pairs_nodes a b (p ∷ []) s h k = (pair_nodes a b s no_exception p h k.0, tt)
pairs_nodes a b (p ∷ q ∷ ps) s h k = (
  subst (λ ns. IsPair b s (AreThese s (type_in (made ns) (id.Made q.left)) (type_in (made ns) (id.Made q.right))) p) (sym h)
      (pair_nodes a b s (AreThese s (type_of a (id.Made q.left)) (type_of a (id.Made q.right))) p h k.0),
  pairs_nodes a b (q ∷ ps) s h k.1,
)

pub one_nodes : (a b : Table) (notes : Notes) (s : State) → b.nodes ≡ a.nodes → AreOne a s notes → AreOne b s notes
one_nodes a b notes s h k i j e = (let o : OneAt a s i j = k i j e in record {
  falls = o.falls;
  within = subst (λ ns. i < length ns) (sym h) o.within;
  one = subst (λ ns. IsSame s (type_in (made ns) (id.Made j)) (type_in (made ns) (id.Made i))) (sym h) o.one;
})

-- the whole unification
pub sought_whole : (d : ℕ) (t new : Table) (a b : TyId) (r : Result (Unit {0}) TypeFault) → IsKept t
    → Sought (unify_in d (type_of t a) (type_of t b) (state t)) r (state new)
    → Sought (unify_in d (whole t a) (whole t b) (state t)) r (state new)
sought_whole d t new a b r k h = subst (λ w. Sought w r (state new))
    (sym (unify_put d (type_of t a) (type_of t b) (state t) (state t) (later_same t k) (later_same t k))) h

-- an answer that is most general
pub sought_general : (d : ℕ) (a b : Ty) (s new : State) (r : Result (Unit {0}) TypeFault) → IsSettled s
    → Sought (unify_in d a b s) r new → IsMostGeneralFor a b s r new
sought_general d a b s new (Ok done) h k = most_general d a b s (Ok new) h k
sought_general d a b s new (Err (fault.Clash x y)) h k = most_general d a b s (Err Fault.Clash) h k
sought_general d a b s new (Err (fault.Circular x y)) h k = most_general d a b s (Err Fault.Circular) h k
sought_general d a b s new (Err (fault.NotEquality x)) h k = most_general d a b s (Err Fault.NotEquality) h k
sought_general d a b s new (Err fault.NoMemory) h k = tt

pub sought_fault : (want : Answer) (f : TypeFault) (r new : State) → Sought want (Err f) r → Sought want (Err f) new
sought_fault want (fault.Clash x y) r new h = h
sought_fault want (fault.Circular x y) r new h = h
sought_fault want (fault.NotEquality x) r new h = h
sought_fault want fault.NoMemory r new h = h

-- the answer of the whole at its beginning
pub begun : (t new : Table) (d : ℕ) (a b : TyId) (E : Ty → Ty → Type 0) (qs : List Pair) → new.nodes ≡ t.nodes
    → MeetingOk t new (meeting_answer t d a b []) E [] qs
    → unify_in d (type_of t a) (type_of t b) (state t) ≡ unify_left new qs (state new)
begun t new d a b E qs n m = then_ok (unify_in d (type_of t a) (type_of t b) (state t)) ∙ m.answer
    ∙ sym (left_nodes t new qs (state new) n)

-- refusals
fault_as : (want : Answer) (f : TypeFault) (r : Result (Unit {0}) TypeFault) (new : State) → IsErrAnd r (λ e. e ≡ f)
    → Sought want (Err f) new → Sought want r new
fault_as want f (Ok done) new h k = absurd h
fault_as want f (Err e) new h k = subst (λ (x : TypeFault). Sought want (Err x) new) (sym h) k

met_fault : (old new : Table) (want : Answer) (E : Ty → Ty → Type 0) (ps qs : List Pair) (f : TypeFault)
    → Meeting old new want E ps qs (Err f) → Sought want (Err f) (state new)
met_fault old new want E ps qs (fault.Clash x y) h = h
met_fault old new want E ps qs (fault.Circular x y) h = h
met_fault old new want E ps qs (fault.NotEquality x) h = h
met_fault old new want E ps qs fault.NoMemory h = h

stepped_fault : (old new : Table) (ps qs : List Pair) (notes : Notes) (f : TypeFault) → Stepping old new ps qs notes (Err f)
    → Sought (unify_left old ps (state old)) (Err f) (state new)
stepped_fault old new ps qs notes (fault.Clash x y) h = h
stepped_fault old new ps qs notes (fault.Circular x y) h = h
stepped_fault old new ps qs notes (fault.NotEquality x) h = h
stepped_fault old new ps qs notes fault.NoMemory h = h

pub first_fault : (t new : Table) (d : ℕ) (a b : TyId) (E : Ty → Ty → Type 0) (qs : List Pair) (f : TypeFault)
    (r : Result (Unit {0}) TypeFault) → IsKept t → IsErrAnd r (λ e. e ≡ f)
    → Meeting t new (meeting_answer t d a b []) E [] qs (Err f)
    → Sought (unify_in d (whole t a) (whole t b) (state t)) r (state new)
first_fault t new d a b E qs f r k i h = sought_whole d t new a b r k
    (fault_as (unify_in d (type_of t a) (type_of t b) (state t)) f r (state new) i
    (subst (λ w. Sought w (Err f) (state new)) (sym (then_ok (unify_in d (type_of t a) (type_of t b) (state t))))
    (met_fault t new (meeting_answer t d a b []) E [] qs f h)))

pub later_fault : (t old new : Table) (d : ℕ) (a b : TyId) (ps qs : List Pair) (notes : Notes) (f : TypeFault)
    (r : Result (Unit {0}) TypeFault) → IsKept t → IsErrAnd r (λ e. e ≡ f)
    → unify_in d (type_of t a) (type_of t b) (state t) ≡ unify_left old ps (state old) → Stepping old new ps qs notes (Err f)
    → Sought (unify_in d (whole t a) (whole t b) (state t)) r (state new)
later_fault t old new d a b ps qs notes f r k i e h = sought_whole d t new a b r k
    (fault_as (unify_in d (type_of t a) (type_of t b) (state t)) f r (state new) i
    (subst (λ w. Sought w (Err f) (state new)) (sym e) (stepped_fault old new ps qs notes f h)))
