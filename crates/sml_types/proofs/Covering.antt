-- Two schemes are compared by unification over rigid variables.
use Rattle.std.proofs.Common.{◌≡◌, ℕ, zero, suc, ◌+◌, ◌-◌, ◌<◌, ◌≤◌, refl, sym, ap, ◌∙◌, subst, Bool, true, false, cond, arith, List, [], ◌∷◌, get_or, ◌⊎◌, inl, inr}
use Rattle.std.proofs.lemmas.Bool.{eq-eqb, eqb-true, lt-ltb, le-ltb, ltb-true, ltb-false}
use Rattle.std.specs.Prelude.{eqb, ltb}
use Rattle.semantic_objects.specs.Trees.{Tree, Trees, TypeScheme, binds, binds_any, frees, frees_any}
use Rattle.unification.specs.Types.{Ty, Types, Substitution, Marks, State, put, occurs, occurs_any, admits}
use Rattle.unification.specs.Unification.{Solves, LeavesRigid, MakesEqual, IsSettled, IsMostGeneral}
use Rattle.unification.specs.Instances.{mark_of, fill, fill_all, with_variable, with_variables, IsInstance, IsMoreGeneral}
use Rattle.unification.specs.Generality.{IsOf}
use Rattle.unification.specs.Fitting.{IsFit}
use Rattle.unification.proofs.Walking.{either_way, not_both, or_left, or_right, or_either, alike_tree}
use Rattle.unification.proofs.Putting.{put-put, put_alike, put_still, put_solved}
use Rattle.unification.proofs.Requiring.{admits_put}
use Rattle.unification.proofs.Filling.{put_fill, fill_put}
use Rattle.sml_types.specs.Covering.{put_scheme, unit_type, IsNamed, IsFreezing, IsFrozenAt}

-- ---- types that were filled

mutual
  bound_held : (b f : Substitution) (i n : ℕ) (x : Tree) → binds i x ≡ true → occurs n (b i) ≡ true
      → occurs n (fill b f x) ≡ true
  bound_held b f i n (Tree.Bound j) h k = subst (λ z. occurs n (b z) ≡ true) (eqb-true i j h) k
  bound_held b f i n (Tree.Free m) h k = absurd (cc)
  bound_held b f i n (Tree.Made c ts) h k = bounds_held b f i n ts h k

  bounds_held : (b f : Substitution) (i n : ℕ) (xs : Trees) → binds_any i xs ≡ true → occurs n (b i) ≡ true
      → occurs_any n (fill_all b f xs) ≡ true
  bounds_held b f i n Trees.Nil h k = absurd (cc)
  bounds_held b f i n (Trees.Cons x xs) h k = or_either (binds i x) (binds_any i xs) h
      (λ e. or_left (occurs n (fill b f x)) (occurs_any n (fill_all b f xs)) (bound_held b f i n x e k))
      (λ e. or_right (occurs n (fill b f x)) (occurs_any n (fill_all b f xs)) (bounds_held b f i n xs e k))

mutual
  free_held : (b f : Substitution) (m n : ℕ) (x : Tree) → frees m x ≡ true → occurs n (f m) ≡ true
      → occurs n (fill b f x) ≡ true
  free_held b f m n (Tree.Bound j) h k = absurd (cc)
  free_held b f m n (Tree.Free l) h k = subst (λ z. occurs n (f z) ≡ true) (eqb-true m l h) k
  free_held b f m n (Tree.Made c ts) h k = frees_held b f m n ts h k

  frees_held : (b f : Substitution) (m n : ℕ) (xs : Trees) → frees_any m xs ≡ true → occurs n (f m) ≡ true
      → occurs_any n (fill_all b f xs) ≡ true
  frees_held b f m n Trees.Nil h k = absurd (cc)
  frees_held b f m n (Trees.Cons x xs) h k = or_either (frees m x) (frees_any m xs) h
      (λ e. or_left (occurs n (fill b f x)) (occurs_any n (fill_all b f xs)) (free_held b f m n x e k))
      (λ e. or_right (occurs n (fill b f x)) (occurs_any n (fill_all b f xs)) (frees_held b f m n xs e k))

fill_alike : (b d f e : Substitution) (x : Tree) → ((i : ℕ) → binds i x ≡ true → b i ≡ d i)
    → ((m : ℕ) → frees m x ≡ true → f m ≡ e m) → fill b f x ≡ fill d e x
fill_alike b d f e x h k = alike_tree Ty.Made Types.Nil Types.Cons (fill b f) (fill d e) (fill_all b f) (fill_all d e)
    (record { at_made = λ c ts. refl; at_none = refl; at_more = λ y ys. refl })
    (record { at_made = λ c ts. refl; at_none = refl; at_more = λ y ys. refl }) x h k

-- ---- new variables

with_stands : (ms : List Bool) (s : State) → (with_variables false ms s).stands ≡ s.stands
with_stands [] s = refl
with_stands (m ∷ ms) s = with_stands ms (with_variable false m s)

pub with_next : (ms : List Bool) (s : State) → s.next ≤ (with_variables false ms s).next
with_next [] s = omega arith
with_next (m ∷ ms) s = (let k : s.next + 1 ≤ (with_variables false ms (with_variable false m s)).next =
    with_next ms (with_variable false m s) in omega (arith, k))

other_mark : (next n : ℕ) (b c : Bool) → (n ≡ next → ⊥) → cond (eqb n next) b c ≡ c
other_mark next n b c h = either_way (eqb n next) (λ e. absurd (h (eqb-true n next e))) (λ e. ap (λ z. cond z b c) e)

marks_below : (ms : List Bool) (s : State) (n : ℕ) → n < s.next → (with_variables false ms s).marks n ≡ s.marks n
marks_below [] s n h = refl
marks_below (m ∷ ms) s n h = marks_below ms (with_variable false m s) n (omega (arith, h))
    ∙ other_mark s.next n m (s.marks n) (λ e. absurd (omega (arith, h, e)))

marks_on : (ms : List Bool) (s : State) (i n : ℕ) → n ≡ s.next + i
    → (with_variables false ms s).marks n ≡ get_or ms i (s.marks n)
marks_on [] s i n e = refl
marks_on (m ∷ ms) s zero n e =
    let k : n ≡ s.next = omega (arith, e) in
    marks_below ms (with_variable false m s) n (omega (arith, k))
    ∙ ap (λ z. cond z m (s.marks n)) (eq-eqb n s.next k)
marks_on (m ∷ ms) s (suc i) n e =
    let k : n ≡ s.next + 1 + i = omega (arith, e) in
    marks_on ms (with_variable false m s) i n k
    ∙ ap (get_or ms i) (other_mark s.next n m (s.marks n) (λ z. absurd (omega (arith, k, z))))

no_mark : (s : State) (n : ℕ) → IsFit s → s.next ≤ n → s.marks n ≡ false
no_mark s n h k = either_way (s.marks n)
    (λ e. let l : n < s.next = h.marks n e in absurd (omega (arith, k, l))) (λ e. e)

-- the marks of new variables are those of the list
mark_new : (ms : List Bool) (s : State) (i : ℕ) → IsFit s
    → (with_variables false ms s).marks (s.next + i) ≡ mark_of ms i
mark_new ms s i h = marks_on ms s i (s.next + i) refl
    ∙ ap (get_or ms i) (no_mark s (s.next + i) h (omega arith))

-- ---- a state after another one

pub solves_then : (a b c : State) → Solves c b → Solves b a → Solves c a
solves_then a b c h k = record {
  types = λ n. sym (put_solved c b (a.stands n) h) ∙ ap (put c.stands) (k.types n) ∙ h.types n;
  marks = λ n e. subst (λ t. admits c.marks t ≡ true) (h.types n)
      (admits_put b.marks c.marks c.stands (b.stands n) h.marks (k.marks n e));
}

-- ---- the two schemes

abbrev pub after_special : State → TypeScheme → State
after_special s h = with_variables false h.marks s

abbrev pub after_both : State → TypeScheme → TypeScheme → State
after_both s g h = with_variables false g.marks (after_special s h)

-- the types that were read, and what they stand for
abbrev pub raw : ℕ → TypeScheme → Ty
raw base σ = fill (λ i. Ty.Var (base + i)) Ty.Var σ.body

abbrev pub full : State → ℕ → TypeScheme → Ty
full s base σ = fill (λ i. Ty.Var (base + i)) s.stands σ.body

pub record Compared (s : State) (g h : TypeScheme) (r : State) (names : Substitution) : Type 0 where
  pub fit : IsFit s
  pub fit_special : IsFit (after_special s h)
  pub of_general : IsOf s g.body
  pub of_special : IsOf s h.body
  pub settled : IsSettled r
  pub freezing : IsFreezing (after_special s h).next (after_both s g h) r names
  pub general : (n : ℕ) → occurs n (full s (after_special s h).next g) ≡ true → n < (after_special s h).next
      → IsFrozenAt r names n
  pub special : (n : ℕ) → occurs n (full s s.next h) ≡ true → IsFrozenAt r names n
  pub bound : (i : ℕ) → binds i g.body ≡ true → (after_special s h).next + i < (after_both s g h).next

pub stands_both : (s : State) (g h : TypeScheme) (n : ℕ) → (after_both s g h).stands n ≡ s.stands n
stands_both s g h n = ap (λ z. z n) (with_stands g.marks (after_special s h) ∙ with_stands h.marks s)

pub special_held : (s : State) (h : TypeScheme) (n : ℕ) → (after_special s h).stands n ≡ s.stands n
special_held s h n = ap (λ z. z n) (with_stands h.marks s)

-- what was read, with what stands for variables
pub raw_is : (s r : State) (base : ℕ) (σ : TypeScheme) → IsFit s → s.next ≤ base → ((n : ℕ) → r.stands n ≡ s.stands n)
    → put r.stands (raw base σ) ≡ full s base σ
raw_is s r base σ fit l same = put_fill r.stands (λ i. Ty.Var (base + i)) Ty.Var σ.body
    ∙ fill_alike (λ i. r.stands (base + i)) (λ i. Ty.Var (base + i)) r.stands s.stands σ.body
    (λ i e. same (base + i) ∙ fit.beyond (base + i) (omega (arith, l))) (λ m e. same m)

-- the first scheme's variables stand in its type
pub own_new : (s : State) (base : ℕ) (g : TypeScheme) (i : ℕ) → binds i g.body ≡ true → occurs (base + i) (full s base g) ≡ true
own_new s base g i e = bound_held (λ j. Ty.Var (base + j)) s.stands i (base + i) g.body e (eq-eqb (base + i) (base + i) refl)

-- a later state makes the same of both
raw_full : (s u : State) (g h : TypeScheme) (base : ℕ) (σ : TypeScheme) → Solves u (after_both s g h)
    → put u.stands (raw base σ) ≡ put u.stands (full s base σ)
raw_full s u g h base σ k = put_fill u.stands (λ i. Ty.Var (base + i)) Ty.Var σ.body
    ∙ fill_alike (λ i. u.stands (base + i)) (λ i. u.stands (base + i)) u.stands (λ m. put u.stands (s.stands m)) σ.body
    (λ i e. refl)
    (λ m e. sym (ap (put u.stands) (sym (stands_both s g h m)) ∙ k.types m))
    ∙ sym (put_fill u.stands (λ i. Ty.Var (base + i)) s.stands σ.body)

-- ---- where unification answers

abbrev named_by : Substitution → State → Substitution
named_by names u n = put names (u.stands n)

frozen_name : (r u : State) (names : Substitution) (n : ℕ) → Solves u r → IsSettled u → u.rigid ≡ r.rigid
    → IsFrozenAt r names n → named_by names u n ≡ Ty.Var n
frozen_name r u names n h k e f =
    let alone : u.stands f.name ≡ Ty.Var f.name = k.leaves.alone f.name (ap (λ z. z f.name) e ∙ f.rigid) in
    let there : u.stands n ≡ Ty.Var f.name = sym (h.types n) ∙ ap (put u.stands) f.stands ∙ alone in
    ap (put names) there ∙ f.is

-- types of the table stay
table_stays : (s : State) (f : Substitution) (m : ℕ) → IsFit s → m < s.next
    → ((n : ℕ) → occurs n (s.stands m) ≡ true → n < s.next → f n ≡ Ty.Var n) → put f (s.stands m) ≡ s.stands m
table_stays s f m h k e = put_still f (s.stands m) (λ n o. e n o (h.below m k n o))

found_is : (s : State) (g h : TypeScheme) (r u : State) (names : Substitution) → Compared s g h r names → Solves u r → IsSettled u
    → u.rigid ≡ r.rigid → put u.stands (raw (after_special s h).next g) ≡ put u.stands (raw s.next h)
    → fill (λ i. named_by names u ((after_special s h).next + i)) s.stands g.body ≡ full s s.next h
found_is s g h r u names c k l e same =
    let base : ℕ = (after_special s h).next in
    let later : Solves u (after_both s g h) = solves_then (after_both s g h) r u k c.freezing.later in
    let more : s.next ≤ base = with_next h.marks s in
    let η : Substitution = named_by names u in
    fill_alike (λ i. η (base + i)) (λ i. η (base + i)) s.stands (λ m. put η (s.stands m)) g.body (λ i z. refl)
    (λ m z. sym (table_stays s η m c.fit (c.of_general m z)
    (λ n o b. frozen_name r u names n k l e (c.general n (free_held (λ i. Ty.Var (base + i)) s.stands m n g.body z o)
    (omega (arith, b, more))))))
    ∙ sym (put_fill η (λ i. Ty.Var (base + i)) s.stands g.body)
    ∙ sym (put-put names u.stands (full s base g))
    ∙ ap (put names) (sym (raw_full s u g h base g later) ∙ same ∙ raw_full s u g h s.next h later)
    ∙ put-put names u.stands (full s s.next h)
    ∙ put_still η (full s s.next h) (λ n o. frozen_name r u names n k l e (c.special n o))

named_admits : (own : ℕ) (s r u : State) (q : Marks) (names : Substitution) (w : ℕ) → (r.rigid w ≡ true → u.marks w ≡ true → r.marks w ≡ true)
    → ((n : ℕ) → n < own → s.marks n ≡ true → q n ≡ true) → u.marks w ≡ true → (names w ≡ unit_type) ⊎ IsNamed own s r names w
    → admits q (names w) ≡ true
named_admits own s r u q names w spared older m (inl e) = ap (admits q) e
named_admits own s r u q names w spared older m (inr k) =
    ap (admits q) k.is ∙ older k.of k.older (k.marked (spared k.rigid m))

found_admits : (s : State) (g h : TypeScheme) (r u : State) (names : Substitution) (i : ℕ) → Compared s g h r names → Solves u r
    → ((n : ℕ) → r.rigid n ≡ true → u.marks n ≡ true → r.marks n ≡ true) → mark_of g.marks i ≡ true
    → admits (after_special s h).marks (named_by names u ((after_special s h).next + i)) ≡ true
found_admits s g h r u names i c k spared e =
    let base : ℕ = (after_special s h).next in
    let later : Solves u (after_both s g h) = solves_then (after_both s g h) r u k c.freezing.later in
    admits_put u.marks (after_special s h).marks names (u.stands (base + i))
    (λ w m. named_admits base (after_both s g h) r u (after_special s h).marks names w (spared w)
    (λ n o z. sym (marks_below g.marks (after_special s h) n o) ∙ z) m (c.freezing.named w))
    (later.marks (base + i) (mark_new g.marks (after_special s h) i c.fit_special ∙ e))

-- the second scheme's variables stand for these types
abbrev over : ℕ → Substitution → Substitution
over next c n = cond (ltb n next) (Ty.Var n) (c (n - next))

over_below : (next n : ℕ) (c : Substitution) → n < next → over next c n ≡ Ty.Var n
over_below next n c h = ap (λ z. cond z (Ty.Var n) (c (n - next))) (lt-ltb n next h)

over_on : (next i : ℕ) (c : Substitution) → over next c (next + i) ≡ c i
over_on next i c = ap (λ z. cond z (Ty.Var (next + i)) (c (next + i - next))) (le-ltb (next + i) next (omega arith))
    ∙ ap c (let k : next + i - next ≡ i = omega arith in k)

over_admits : (s : State) (h : TypeScheme) (q : Marks) (c : Substitution) (n : ℕ) → IsFit s
    → ((m : ℕ) → m < s.next → q m ≡ s.marks m) → ((i : ℕ) → mark_of h.marks i ≡ true → admits q (c i) ≡ true)
    → (after_special s h).marks n ≡ true → admits q (over s.next c n) ≡ true
over_admits s h q c n fit same admitted m = either_way (ltb n s.next)
    (λ e. let l : n < s.next = ltb-true n s.next e in
    ap (admits q) (over_below s.next n c l) ∙ same n l ∙ sym (marks_below h.marks s n l) ∙ m)
    (λ e. let l : s.next ≤ n = ltb-false n s.next e in
    let k : n ≡ s.next + (n - s.next) = omega (arith, l) in
    subst (λ z. admits q (over s.next c z) ≡ true) (sym k)
    (ap (admits q) (over_on s.next (n - s.next) c)
    ∙ admitted (n - s.next) (sym (mark_new h.marks s (n - s.next) fit) ∙ ap (after_special s h).marks (sym k) ∙ m)))

over_fills : (s : State) (b c : Substitution) (σ : TypeScheme) → IsFit s → IsOf s σ.body
    → put (over s.next c) (fill b s.stands σ.body) ≡ fill (λ i. put (over s.next c) (b i)) s.stands σ.body
over_fills s b c σ fit of = put_fill (over s.next c) b s.stands σ.body
    ∙ fill_alike (λ i. put (over s.next c) (b i)) (λ i. put (over s.next c) (b i)) (λ m. put (over s.next c) (s.stands m)) s.stands
    σ.body (λ i e. refl) (λ m e. table_stays s (over s.next c) m fit (of m e) (λ n o l. over_below s.next n c l))

-- what was found for the first scheme's variables makes each instance of the second one of the first
general_by : (s : State) (g h : TypeScheme) (b : Substitution) → IsFit s → IsOf s g.body → IsOf s h.body
    → fill b s.stands g.body ≡ full s s.next h
    → ((i : ℕ) → mark_of g.marks i ≡ true → admits (after_special s h).marks (b i) ≡ true)
    → IsMoreGeneral s (put_scheme s g) (put_scheme s h)
general_by s g h b fit of_g of_h is admitted q same t i =
    let σ : Substitution = over s.next i.by in
    record {
      by = λ j. put σ (b j);
      admitted = λ j k. admits_put (after_special s h).marks q σ (b j)
          (λ n m. over_admits s h q i.by n fit same i.admitted m) (admitted j k);
      is = fill_put (λ j. put σ (b j)) s.stands g.body ∙ sym (over_fills s b i.by g fit of_g) ∙ ap (put σ) is
          ∙ over_fills s (λ j. Ty.Var (s.next + j)) i.by h fit of_h
          ∙ fill_alike (λ j. σ (s.next + j)) i.by s.stands s.stands h.body (λ j k. over_on s.next j i.by) (λ m k. refl)
          ∙ sym (fill_put i.by s.stands h.body) ∙ i.is;
    }

pub covers_where : (s : State) (g h : TypeScheme) (r u : State) (names : Substitution) → Compared s g h r names
    → IsMostGeneral r u (MakesEqual (put r.stands (raw (after_special s h).next g)) (put r.stands (raw s.next h)))
    → IsMoreGeneral s (put_scheme s g) (put_scheme s h)
covers_where s g h r u names c m =
    let base : ℕ = (after_special s h).next in
    let k : Solves u r = (m.sound u m.settled.solves).0 in
    let same : put u.stands (raw base g) ≡ put u.stands (raw s.next h) =
    sym (put_solved u r (raw base g) k) ∙ (m.sound u m.settled.solves).1 ∙ put_solved u r (raw s.next h) k in
    general_by s g h (λ i. named_by names u (base + i)) c.fit c.of_general c.of_special
    (found_is s g h r u names c k m.settled m.rigid same)
    (λ i e. found_admits s g h r u names i c k m.unmarked e)

-- ---- where it refuses

-- types for the variables from `base` to `end`
abbrev chosen : ℕ → ℕ → Substitution → Substitution
chosen base end f n = cond (ltb n base) (Ty.Var n) (cond (ltb n end) (f (n - base)) (Ty.Var n))

chosen_on : (base end i : ℕ) (f : Substitution) → base + i < end → chosen base end f (base + i) ≡ f i
chosen_on base end i f h =
    ap (λ z. cond z (Ty.Var (base + i)) (cond (ltb (base + i) end) (f (base + i - base)) (Ty.Var (base + i))))
    (le-ltb (base + i) base (omega arith))
    ∙ ap (λ z. cond z (f (base + i - base)) (Ty.Var (base + i))) (lt-ltb (base + i) end h)
    ∙ ap f (let k : base + i - base ≡ i = omega arith in k)

-- what holds of all else and of these holds of what is chosen
chosen_case : (P : ℕ → Ty → Type 0) (base end : ℕ) (f : Substitution) (n : ℕ) → P n (Ty.Var n)
    → ((i : ℕ) → n ≡ base + i → n < end → P (base + i) (f i)) → P n (chosen base end f n)
chosen_case P base end f n other here = either_way (ltb n base)
    (λ e. subst (P n) (sym (ap (λ z. cond z (Ty.Var n) (cond (ltb n end) (f (n - base)) (Ty.Var n))) e)) other)
    (λ e. subst (P n) (sym (ap (λ z. cond z (Ty.Var n) (cond (ltb n end) (f (n - base)) (Ty.Var n))) e))
    (either_way (ltb n end)
    (λ l. subst (P n) (sym (ap (λ z. cond z (f (n - base)) (Ty.Var n)) l))
    (let o : base ≤ n = ltb-false n base e in
    let k : n ≡ base + (n - base) = omega (arith, o) in
    subst (λ z. P z (f (n - base))) (sym k) (here (n - base) k (ltb-true n end l))))
    (λ l. subst (P n) (sym (ap (λ z. cond z (f (n - base)) (Ty.Var n)) l)) other)))

abbrev choice : State → Substitution → State
choice r f = record { next = r.next; stands = λ n. put f (r.stands n); marks = r.marks; rigid = r.rigid }

choice_solves : (r : State) (f : Substitution) → IsSettled r
    → ((n : ℕ) → r.marks n ≡ true → admits r.marks (f n) ≡ true) → Solves (choice r f) r
choice_solves r f h k = record {
  types = λ n. sym (put-put f r.stands (r.stands n)) ∙ ap (put f) (h.solves.types n);
  marks = λ n e. admits_put r.marks r.marks f (r.stands n) k (h.solves.marks n e);
}

choice_leaves : (r : State) (f : Substitution) → IsSettled r → ((n : ℕ) → r.rigid n ≡ true → f n ≡ Ty.Var n)
    → LeavesRigid (choice r f) r
choice_leaves r f h k = record {
  alone = λ n e. ap (put f) (h.leaves.alone n e) ∙ k n e;
  unmarked = λ n e m. m;
}

-- what makes the instance of the second scheme one of the first
abbrev by_instance : State → TypeScheme → TypeScheme → State → Substitution → Substitution
by_instance s g h r b = chosen (after_special s h).next (after_both s g h).next (λ i. put r.stands (b i))

leaves_rigid : (s : State) (g h : TypeScheme) (r : State) (names b : Substitution) (n : ℕ) → Compared s g h r names
    → r.rigid n ≡ true → by_instance s g h r b n ≡ Ty.Var n
leaves_rigid s g h r names b n c e =
    let base : ℕ = (after_special s h).next in
    chosen_case (λ m t. r.rigid m ≡ true → t ≡ Ty.Var m) base (after_both s g h).next (λ i. put r.stands (b i)) n (λ k. refl)
    (λ i k l m. absurd (not_both (r.rigid (base + i))
    (c.freezing.loose (base + i) (omega arith) (subst (λ z. z < (after_both s g h).next) k l)).1 m)) e

special_mark : (s : State) (g h : TypeScheme) (n : ℕ) → IsFit (after_special s h) → (after_special s h).marks n ≡ true
    → (after_both s g h).marks n ≡ true
special_mark s g h n fit m = marks_below g.marks (after_special s h) n (fit.marks n m) ∙ m

own_admits : (s : State) (g h : TypeScheme) (r : State) (names b : Substitution) (n : ℕ) → Compared s g h r names
    → ((i : ℕ) → mark_of g.marks i ≡ true → admits (after_special s h).marks (b i) ≡ true)
    → r.marks n ≡ true → admits r.marks (by_instance s g h r b n) ≡ true
own_admits s g h r names b n c admitted m =
    let base : ℕ = (after_special s h).next in
    chosen_case (λ k t. r.marks k ≡ true → admits r.marks t ≡ true) base (after_both s g h).next (λ i. put r.stands (b i)) n (λ e. e)
    (λ i k l e. admits_put (after_special s h).marks r.marks r.stands (b i)
    (λ x z. c.freezing.later.marks x (special_mark s g h x c.fit_special z))
    (admitted i (sym (mark_new g.marks (after_special s h) i c.fit_special)
    ∙ sym (c.freezing.marks (base + i) (subst (λ z. z < (after_both s g h).next) k l)) ∙ e))) m

chosen_same : (s : State) (g h : TypeScheme) (r : State) (names b : Substitution) → Compared s g h r names
    → fill b s.stands g.body ≡ full s s.next h → Solves (choice r (by_instance s g h r b)) r
    → MakesEqual (put r.stands (raw (after_special s h).next g)) (put r.stands (raw s.next h)) (choice r (by_instance s g h r b))
chosen_same s g h r names b c is k =
    let base : ℕ = (after_special s h).next in
    let f : Substitution = by_instance s g h r b in
    let p : State = choice r f in
    let later : Solves p (after_both s g h) = solves_then (after_both s g h) r p k c.freezing.later in
    put_solved p r (raw base g) k ∙ raw_full s p g h base g later
    ∙ put_fill p.stands (λ i. Ty.Var (base + i)) s.stands g.body
    ∙ fill_alike (λ i. p.stands (base + i)) (λ i. put p.stands (b i)) (λ m. put p.stands (s.stands m)) (λ m. put p.stands (s.stands m))
    g.body
    (λ i e. ap (put f) (c.freezing.loose (base + i) (omega arith) (c.bound i e)).0
    ∙ chosen_on base (after_both s g h).next i (λ j. put r.stands (b j)) (c.bound i e)
    ∙ put_alike r.stands p.stands (b i)
    (λ n o. let z : IsFrozenAt r names n = c.special n (subst (λ t. occurs n t ≡ true) is (bound_held b s.stands i n g.body e o)) in
    z.stands ∙ sym (leaves_rigid s g h r names b z.name c z.rigid) ∙ sym (ap (put f) z.stands)))
    (λ m e. refl)
    ∙ sym (put_fill p.stands b s.stands g.body) ∙ ap (put p.stands) is
    ∙ sym (raw_full s p g h s.next h later) ∙ sym (put_solved p r (raw s.next h) k)

-- a choice that makes the two types one
pub record Choice (r : State) (a b : Ty) : Type 0 where
  pub by : State
  pub solves : Solves by r
  pub leaves : LeavesRigid by r
  pub same : MakesEqual a b by

pub chosen_where : (s : State) (g h : TypeScheme) (r : State) (names : Substitution) → Compared s g h r names
    → IsMoreGeneral s (put_scheme s g) (put_scheme s h)
    → Choice r (put r.stands (raw (after_special s h).next g)) (put r.stands (raw s.next h))
chosen_where s g h r names c more =
    let i : IsInstance (after_special s h).marks (put_scheme s g) (full s s.next h) =
    more (after_special s h).marks (λ n l. marks_below h.marks s n l) (full s s.next h) (record {
      by = λ j. Ty.Var (s.next + j);
      admitted = λ j e. mark_new h.marks s j c.fit ∙ e;
      is = fill_put (λ j. Ty.Var (s.next + j)) s.stands h.body;
    }) in
    let f : Substitution = by_instance s g h r i.by in
    let k : Solves (choice r f) r =
    choice_solves r f c.settled (λ n e. own_admits s g h r names i.by n c i.admitted e) in
    record {
      by = choice r f;
      solves = k;
      leaves = choice_leaves r f c.settled (λ n e. leaves_rigid s g h r names i.by n c e);
      same = chosen_same s g h r names i.by c (sym (fill_put i.by s.stands g.body) ∙ i.is) k;
    }
