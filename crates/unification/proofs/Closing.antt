-- What is found in a type, and that a closed type is a scheme of its state.
use Rattle.std.proofs.Common.{◌≡◌, ℕ, ◌<◌, refl, sym, ap, ◌∙◌, subst, Bool, true, false, ◌||◌, cond, arith, List, [], ◌∷◌, ◌++◌, length, map}
use Rattle.std.proofs.lemmas.Bool.{eqb-true}
use Rattle.std.proofs.lemmas.List.{length-map}
use Rattle.std.specs.Prelude.{eqb}
use Rattle.semantic_objects.specs.Trees.{Tree, binds, binds_any, frees, frees_any}
use Rattle.unification.specs.Closing.{is_among, place_of, noticed, found_in, found_in_all, closed_over, closed_over_all, filler, scheme_over}
use Rattle.unification.specs.Fitting.{IsBelow, IsSchemeOf}
use Rattle.unification.specs.Instances.{mark_of, IsInstance}
use Rattle.unification.specs.Touching.{IsWithin}
use Rattle.unification.specs.Types.{Ty, Substitution, Marks, State, put, occurs, occurs_any, admits}
use Rattle.unification.proofs.Walking.{Anything, walk, or_left, or_right, or_either}
use Rattle.unification.proofs.Canonical.{among_once, place_below}
use Rattle.unification.proofs.Filling.{fill_closed}

-- predicates that agree on the variables of a type find the same
pub found_same : (p q : ℕ → Bool) (t : Ty) (vs : List ℕ) → ((n : ℕ) → occurs n t ≡ true → p n ≡ q n)
    → found_in p t vs ≡ found_in q t vs
found_same p q t vs h = walk (λ n. p n ≡ q n) (λ u. (ws : List ℕ) → found_in p u ws ≡ found_in q u ws)
    (λ us. (ws : List ℕ) → found_in_all p us ws ≡ found_in_all q us ws)
    (record {
      variable = λ n e ws. ap (λ b. noticed b n ws) e;
      made = λ c ts k. k;
      none = λ ws. refl;
      more = λ u us k ks ws. ap (found_in_all p us) (k ws) ∙ ks (found_in q u ws);
    })
    t h vs

-- ---- all that is wanted is found

-- a variable that isn't kept
noticed_wanted : (n m : ℕ) (vs : List ℕ) (kept : Bool) → (eqb n m ≡ true → kept ≡ false)
    → (is_among n vs || eqb n m) ≡ true → is_among n (noticed kept m vs) ≡ true
noticed_wanted n m vs false k h = among_once n m vs (is_among m vs) refl h
noticed_wanted n m vs true k h = or_either (is_among n vs) (eqb n m) h (λ e. e)
    (λ e. let l : true ≡ false = k e in absurd (cc))

wanted_found : (kept : ℕ → Bool) (n : ℕ) → kept n ≡ false → (t : Ty) (vs : List ℕ)
    → (is_among n vs || occurs n t) ≡ true → is_among n (found_in kept t vs) ≡ true
wanted_found kept n free t = walk Anything
    (λ u. (vs : List ℕ) → (is_among n vs || occurs n u) ≡ true → is_among n (found_in kept u vs) ≡ true)
    (λ us. (vs : List ℕ) → (is_among n vs || occurs_any n us) ≡ true → is_among n (found_in_all kept us vs) ≡ true)
    (record {
      variable = λ m _ vs. noticed_wanted n m vs (kept m) (λ e. sym (ap kept (eqb-true n m e)) ∙ free);
      made = λ c ts h. h;
      none = λ vs h. or_either (is_among n vs) false h (λ e. e) (λ e. absurd (cc));
      more = λ u us k ks vs h. ks (found_in kept u vs) (or_either (is_among n vs) (occurs n u || occurs_any n us) h
          (λ e. or_left (is_among n (found_in kept u vs)) (occurs_any n us)
          (k vs (or_left (is_among n vs) (occurs n u) e)))
          (λ e. or_either (occurs n u) (occurs_any n us) e
          (λ l. or_left (is_among n (found_in kept u vs)) (occurs_any n us)
          (k vs (or_right (is_among n vs) (occurs n u) l)))
          (λ l. or_right (is_among n (found_in kept u vs)) (occurs_any n us) l)));
    })
    t (λ m _. tt)

pub found_all : (kept : ℕ → Bool) (n : ℕ) (t : Ty) (vs : List ℕ) → occurs n t ≡ true → kept n ≡ false
    → is_among n (found_in kept t vs) ≡ true
found_all kept n t vs h free = wanted_found kept n free t vs (or_right (is_among n vs) (occurs n t) h)

-- ---- and nothing else

abbrev EachOf : (ℕ → Type 0) → List ℕ → Type 0
EachOf P vs = (n : ℕ) → is_among n vs ≡ true → P n

each_push : (P : ℕ → Type 0) (m : ℕ) (vs : List ℕ) → EachOf P vs → P m → EachOf P (vs ++ m ∷ [])
each_push P m [] h k n e =
    or_either (eqb n m) false e (λ i. subst P (sym (eqb-true n m i)) k) (λ i. absurd (cc))
each_push P m (x ∷ vs) h k n e = or_either (eqb n x) (is_among n (vs ++ m ∷ [])) e
    (λ i. h n (or_left (eqb n x) (is_among n vs) i))
    (each_push P m vs (λ j i. h j (or_right (eqb j x) (is_among j vs) i)) k n)

each_noticed : (P : ℕ → Type 0) (m : ℕ) (vs : List ℕ) (kept there : Bool) → EachOf P vs → (kept ≡ false → P m)
    → EachOf P (cond (kept || there) vs (vs ++ m ∷ []))
each_noticed P m vs true there h k = h
each_noticed P m vs false true h k = h
each_noticed P m vs false false h k = each_push P m vs h (k refl)

pub found_only : (P : ℕ → Type 0) (kept : ℕ → Bool) (t : Ty) (vs : List ℕ) → EachOf P vs
    → ((n : ℕ) → occurs n t ≡ true → kept n ≡ false → P n) → EachOf P (found_in kept t vs)
found_only P kept t vs h k = walk (λ n. kept n ≡ false → P n)
    (λ u. (ws : List ℕ) → EachOf P ws → EachOf P (found_in kept u ws))
    (λ us. (ws : List ℕ) → EachOf P ws → EachOf P (found_in_all kept us ws))
    (record {
      variable = λ m i ws e. each_noticed P m ws (kept m) (is_among m ws) e i;
      made = λ c ts i. i;
      none = λ ws e. e;
      more = λ u us i is ws e. is (found_in kept u ws) (i ws e);
    })
    t k vs h

-- ---- closed types

-- a variable as it stands in a closed type
variable_bound : (vs : List ℕ) (n : ℕ) (c : Bool) → is_among n vs ≡ c → (i : ℕ)
    → binds i (cond c (Tree.Bound (place_of n vs)) (Tree.Free n)) ≡ true → i < length vs
variable_bound vs n true e i h = subst (λ z. z < length vs) (sym (eqb-true i (place_of n vs) h)) (place_below n vs e)
variable_bound vs n false e i h = absurd (cc)

variable_free : (P : ℕ → Type 0) (vs : List ℕ) (n : ℕ) (c : Bool) → P n → (m : ℕ)
    → frees m (cond c (Tree.Bound (place_of n vs)) (Tree.Free n)) ≡ true → P m
variable_free P vs n true k m h = absurd (cc)
variable_free P vs n false k m h = subst P (sym (eqb-true m n h)) k

closed_binds : (vs : List ℕ) (t : Ty) (i : ℕ) → binds i (closed_over vs t) ≡ true → i < length vs
closed_binds vs t = walk Anything (λ u. (i : ℕ) → binds i (closed_over vs u) ≡ true → i < length vs)
    (λ us. (i : ℕ) → binds_any i (closed_over_all vs us) ≡ true → i < length vs)
    (record {
      variable = λ n _. variable_bound vs n (is_among n vs) refl;
      made = λ c ts h. h;
      none = λ i h. absurd (cc);
      more = λ u us k ks i h. or_either (binds i (closed_over vs u)) (binds_any i (closed_over_all vs us)) h (k i)
          (ks i);
    })
    t (λ n _. tt)

-- what holds of all variables of a type holds of those that are free in it when it is closed
closed_frees : (P : ℕ → Type 0) (vs : List ℕ) (t : Ty) → IsWithin P t → (m : ℕ) → frees m (closed_over vs t) ≡ true
    → P m
closed_frees P vs = walk P (λ u. (m : ℕ) → frees m (closed_over vs u) ≡ true → P m)
    (λ us. (m : ℕ) → frees_any m (closed_over_all vs us) ≡ true → P m)
    (record {
      variable = λ n k. variable_free P vs n (is_among n vs) k;
      made = λ c ts h. h;
      none = λ m h. absurd (cc);
      more = λ u us k ks m h. or_either (frees m (closed_over vs u)) (frees_any m (closed_over_all vs us)) h (k m)
          (ks m);
    })

pub closed_fits : (s : State) (vs : List ℕ) (eq : Marks) (t : Ty) → IsBelow s.next t
    → IsSchemeOf s (scheme_over vs eq t)
closed_fits s vs eq t h = record {
  closed = λ i k. let l : i < length vs = closed_binds vs t i k in
      let m : length (map eq vs) ≡ length vs = length-map vs eq in omega (arith, l, m);
  of = closed_frees (λ n. n < s.next) vs t h;
}

-- with types for the closed variables, equality types where it is asked, a type is an instance of its scheme
pub closed_instance : (q : Marks) (vs : List ℕ) (eq : Marks) (t : Ty) (b : Substitution)
    → ((i : ℕ) → mark_of (map eq vs) i ≡ true → admits q (b i) ≡ true)
    → IsInstance q (scheme_over vs eq t) (put (filler vs b Ty.Var) t)
closed_instance q vs eq t b h = record { by = b; admitted = h; is = fill_closed b Ty.Var vs t }
