-- The canonical form of a scheme has the scheme's instances.
use Rattle.std.proofs.Common.{◌≡◌, ℕ, zero, suc, ◌<◌, refl, sym, ap, ◌∙◌, subst, arith, Bool, true, false, ◌||◌, cond, List, [], ◌∷◌, ◌++◌, length, map, get_or, ◌↔◌}
use Rattle.std.proofs.lemmas.Bool.{eqb-true}
use Rattle.std.proofs.lemmas.List.{get_or-map}
use Rattle.std.specs.Prelude.{eqb}
use Rattle.semantic_objects.specs.Trees.{Tree, TypeScheme, binds, binds_any}
use Rattle.semantic_objects.specs.declared.symbol.Symbol.TheVariants as symbol
use Rattle.unification.specs.Closing.{is_among, place_of, bound_in, bound_in_all, renumbered, canonical_scheme}
use Rattle.unification.specs.Instances.{mark_of, IsInstance}
use Rattle.unification.specs.Types.{Ty, Types, Substitution, Marks, admits}
use Rattle.unification.proofs.Walking.{Anything, either_way, or_left, or_right, or_either, walk_tree}
use Rattle.unification.proofs.Filling.{fill_plug, fill_same_on}

-- ---- variables in lists

-- what stands in a list after a variable was added at its end
pub among_push : (i v : ℕ) (vs : List ℕ) → (is_among i vs || eqb i v) ≡ true → is_among i (vs ++ v ∷ []) ≡ true
among_push i v [] h = or_left (eqb i v) false h
among_push i v (x ∷ vs) h = or_either (eqb i x || is_among i vs) (eqb i v) h
    (λ k. or_either (eqb i x) (is_among i vs) k
    (λ e. or_left (eqb i x) (is_among i (vs ++ v ∷ [])) e)
    (λ e. or_right (eqb i x) (is_among i (vs ++ v ∷ [])) (among_push i v vs (or_left (is_among i vs) (eqb i v) e))))
    (λ k. or_right (eqb i x) (is_among i (vs ++ v ∷ [])) (among_push i v vs (or_right (is_among i vs) (eqb i v) k)))

-- .. where it wasn't there before
pub among_once : (i v : ℕ) (vs : List ℕ) (c : Bool) → is_among v vs ≡ c → (is_among i vs || eqb i v) ≡ true
    → is_among i (cond c vs (vs ++ v ∷ [])) ≡ true
among_once i v vs false e h = among_push i v vs h
among_once i v vs true e h = or_either (is_among i vs) (eqb i v) h (λ k. k)
    (λ k. subst (λ z. is_among z vs ≡ true) (sym (eqb-true i v k)) e)

-- the place of a variable that stands in a list
place_here : (i x : ℕ) (vs : List ℕ) (b : Bool) → eqb i x ≡ b
    → place_of i (x ∷ vs) ≡ cond b zero (suc (place_of i vs))
place_here i x vs b e = ap (λ z. cond z zero (suc (place_of i vs))) e

among_rest : (i x : ℕ) (vs : List ℕ) → eqb i x ≡ false → is_among i (x ∷ vs) ≡ true → is_among i vs ≡ true
among_rest i x vs e h = sym (ap (λ z. z || is_among i vs) e) ∙ h

pub place_below : (i : ℕ) (vs : List ℕ) → is_among i vs ≡ true → place_of i vs < length vs
place_below i [] h = absurd (cc)
place_below i (x ∷ vs) h = either_way (eqb i x)
    (λ e. let k : place_of i (x ∷ vs) ≡ 0 = place_here i x vs true e in omega (arith, k))
    (λ e. let k : place_of i (x ∷ vs) ≡ suc (place_of i vs) = place_here i x vs false e in
    let l : place_of i vs < length vs = place_below i vs (among_rest i x vs e h) in omega (arith, k, l))

pub stands_there : (i : ℕ) (vs : List ℕ) → is_among i vs ≡ true → get_or vs (place_of i vs) 0 ≡ i
stands_there i [] h = absurd (cc)
stands_there i (x ∷ vs) h = either_way (eqb i x)
    (λ e. ap (λ z. get_or (x ∷ vs) z 0) (place_here i x vs true e) ∙ sym (eqb-true i x e))
    (λ e. ap (λ z. get_or (x ∷ vs) z 0) (place_here i x vs false e) ∙ stands_there i vs (among_rest i x vs e h))

-- ---- variables of a scheme

-- what was found before, or stands in the tree, is found
bound_found : (i : ℕ) (x : Tree) (vs : List ℕ) → (is_among i vs || binds i x) ≡ true → is_among i (bound_in x vs) ≡ true
bound_found i x = walk_tree Anything Anything
    (λ y. (vs : List ℕ) → (is_among i vs || binds i y) ≡ true → is_among i (bound_in y vs) ≡ true)
    (λ ys. (vs : List ℕ) → (is_among i vs || binds_any i ys) ≡ true → is_among i (bound_in_all ys vs) ≡ true)
    (record {
      bound = λ j _ vs. among_once i j vs (is_among j vs) refl;
      free = λ n _ vs h. or_either (is_among i vs) false h (λ e. e) (λ e. absurd (cc));
      made = λ c ts h. h;
      none = λ vs h. or_either (is_among i vs) false h (λ e. e) (λ e. absurd (cc));
      more = λ t ts k ks vs h. ks (bound_in t vs) (or_either (is_among i vs) (binds i t || binds_any i ts) h
          (λ e. or_left (is_among i (bound_in t vs)) (binds_any i ts) (k vs (or_left (is_among i vs) (binds i t) e)))
          (λ e. or_either (binds i t) (binds_any i ts) e
          (λ l. or_left (is_among i (bound_in t vs)) (binds_any i ts)
          (k vs (or_right (is_among i vs) (binds i t) l)))
          (λ l. or_right (is_among i (bound_in t vs)) (binds_any i ts) l)));
    })
    x (λ i _. tt) (λ n _. tt)

-- ---- renumbering

-- a list with all variables that stand in a scheme
abbrev HasAll : List ℕ → TypeScheme → Type 0
HasAll vs σ = (i : ℕ) → binds i σ.body ≡ true → is_among i vs ≡ true

mark_there : (q : ℕ → Bool) (vs : List ℕ) (j : ℕ) → mark_of (map q vs) j ≡ true → q (get_or vs j 0) ≡ true
mark_there q [] j h = absurd (cc)
mark_there q (x ∷ vs) zero h = h
mark_there q (x ∷ vs) (suc j) h = mark_there q vs j h

mark_at : (q : ℕ → Bool) (vs : List ℕ) (i : ℕ) → is_among i vs ≡ true → mark_of (map q vs) (place_of i vs) ≡ q i
mark_at q vs i h = get_or-map q vs (place_of i vs) 0 false (place_below i vs h) ∙ ap q (stands_there i vs h)

forth : (vs : List ℕ) (σ : TypeScheme) (q : Marks) (t : Ty) → HasAll vs σ → IsInstance q σ t
    → IsInstance q (renumbered vs σ) t
forth vs σ q t all i =
    let by : Substitution = λ j. i.by (get_or vs j 0) in
    record {
      by = by;
      admitted = λ j k. i.admitted (get_or vs j 0) (mark_there (mark_of σ.marks) vs j k);
      is = fill_plug by Ty.Var (λ j. Tree.Bound (place_of j vs)) σ.body
          ∙ fill_same_on (λ j. by (place_of j vs)) i.by Ty.Var σ.body
          (λ j k. ap i.by (stands_there j vs (all j k)))
          ∙ i.is;
    }

-- variables that aren't in the list stand nowhere, and take the empty record
abbrev or_unit : Bool → Ty → Ty
or_unit c t = cond c t (Ty.Made (symbol.Record []) Types.Nil)

taken_admits : (vs : List ℕ) (q p : Marks) (b : Substitution) (j : ℕ) (c : Bool) → is_among j vs ≡ c
    → ((k : ℕ) → mark_of (map p vs) k ≡ true → admits q (b k) ≡ true) → p j ≡ true
    → admits q (or_unit c (b (place_of j vs))) ≡ true
taken_admits vs q p b j true e h k = h (place_of j vs) (mark_at p vs j e ∙ k)
taken_admits vs q p b j false e h k = refl

back : (vs : List ℕ) (σ : TypeScheme) (q : Marks) (t : Ty) → HasAll vs σ → IsInstance q (renumbered vs σ) t
    → IsInstance q σ t
back vs σ q t all i =
    let by : Substitution = λ j. or_unit (is_among j vs) (i.by (place_of j vs)) in
    record {
      by = by;
      admitted = λ j k. taken_admits vs q (mark_of σ.marks) i.by j (is_among j vs) refl i.admitted k;
      is = fill_same_on by (λ j. i.by (place_of j vs)) Ty.Var σ.body
          (λ j k. ap (λ c. or_unit c (i.by (place_of j vs))) (all j k))
          ∙ sym (fill_plug i.by Ty.Var (λ j. Tree.Bound (place_of j vs)) σ.body) ∙ i.is;
    }

pub canonical_law : (σ : TypeScheme) (q : Marks) (t : Ty) → IsInstance q σ t ↔ IsInstance q (canonical_scheme σ) t
canonical_law σ q t =
    let all : HasAll (bound_in σ.body []) σ = λ i h. bound_found i σ.body [] h in
    (forth (bound_in σ.body []) σ q t all, back (bound_in σ.body []) σ q t all)
