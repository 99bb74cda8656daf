-- variables that are met one after the other
use Rattle.std.proofs.Common.{◌≡◌, ℕ, List, [], ◌∷◌, ◌++◌, refl, ap, ◌∙◌, subst, Bool, true, false, cond}
use Rattle.std.proofs.lemmas.Bool.{eq-eqb, eqb-true}
use Rattle.std.specs.Prelude.{eqb, ◌||◌}
use Rattle.unification.specs.Types.{Ty, Types, occurs, occurs_any}
use Rattle.unification.specs.Closing.{is_among, noticed, found_in, found_in_all}
use Rattle.unification.proofs.Putting.{or_left, or_right, or_either}
use Rattle.type_schemes.specs.Reaching.{noticed_all}

pub noticed_more : (kept : ℕ → Bool) (ns ms : List ℕ) (vs : List ℕ)
    → noticed_all kept (ns ++ ms) vs ≡ noticed_all kept ms (noticed_all kept ns vs)
noticed_more kept [] ms vs = refl
noticed_more kept (n ∷ ns) ms vs = noticed_more kept ns ms (noticed (kept n) n vs)

pub among_both : (n : ℕ) (xs ys : List ℕ) → is_among n xs ≡ true → is_among n (xs ++ ys) ≡ true
among_both n [] ys h = absurd (cc)
among_both n (x ∷ xs) ys h = or_either (eqb n x) (is_among n xs) h
    (λ e. or_left (eqb n x) (is_among n (xs ++ ys)) e)
    (λ e. or_right (eqb n x) (is_among n (xs ++ ys)) (among_both n xs ys e))

pub among_last : (n : ℕ) (xs : List ℕ) → is_among n (xs ++ n ∷ []) ≡ true
among_last n [] = or_left (eqb n n) false (eq-eqb n n refl)
among_last n (x ∷ xs) = or_right (eqb n x) (is_among n (xs ++ n ∷ [])) (among_last n xs)

pub among_snoc : {P : Type 0} (n m : ℕ) (xs : List ℕ) → is_among n (xs ++ m ∷ []) ≡ true
    → (is_among n xs ≡ true → P) → (n ≡ m → P) → P
among_snoc n m [] h f g = or_either (eqb n m) false h (λ e. g (eqb-true n m e)) (λ e. absurd (cc))
among_snoc n m (x ∷ xs) h f g = or_either (eqb n x) (is_among n (xs ++ m ∷ [])) h
    (λ e. f (or_left (eqb n x) (is_among n xs) e))
    (λ e. among_snoc n m xs e (λ k. f (or_right (eqb n x) (is_among n xs) k)) g)

-- what was noticed before stays
noticed_by : (k there : Bool) (n m : ℕ) (vs : List ℕ) → is_among n vs ≡ true
    → is_among n (cond (k || there) vs (vs ++ m ∷ [])) ≡ true
noticed_by true there n m vs h = h
noticed_by false true n m vs h = h
noticed_by false false n m vs h = among_both n vs (m ∷ []) h

noticed_stays : (kept : ℕ → Bool) (ns : List ℕ) (n : ℕ) (vs : List ℕ) → is_among n vs ≡ true
    → is_among n (noticed_all kept ns vs) ≡ true
noticed_stays kept [] n vs h = h
noticed_stays kept (m ∷ ns) n vs h =
    noticed_stays kept ns n (noticed (kept m) m vs) (noticed_by (kept m) (is_among m vs) n m vs h)

noticed_it : (k there : Bool) (n : ℕ) (vs : List ℕ) → k ≡ false → is_among n vs ≡ there
    → is_among n (cond (k || there) vs (vs ++ n ∷ [])) ≡ true
noticed_it true there n vs h e = absurd (cc)
noticed_it false true n vs h e = e
noticed_it false false n vs h e = among_last n vs

-- one that was met and isn't kept is noticed
pub noticed_among : (kept : ℕ → Bool) (n : ℕ) → kept n ≡ false → (ns : List ℕ) (vs : List ℕ) → is_among n ns ≡ true
    → is_among n (noticed_all kept ns vs) ≡ true
noticed_among kept n free [] vs h = absurd (cc)
noticed_among kept n free (m ∷ ns) vs h = or_either (eqb n m) (is_among n ns) h
    (λ e. noticed_stays kept ns n (noticed (kept m) m vs)
    (subst (λ k. is_among n (noticed (kept k) k vs) ≡ true) (eqb-true n m e)
    (noticed_it (kept n) (is_among n vs) n vs free refl)))
    (λ e. noticed_among kept n free ns (noticed (kept m) m vs) e)

-- and nothing else is
only_by : {P : Type 0} (k there : Bool) (n m : ℕ) (vs : List ℕ) → is_among n (cond (k || there) vs (vs ++ m ∷ [])) ≡ true
    → (is_among n vs ≡ true → P) → (n ≡ m → P) → P
only_by true there n m vs h f g = f h
only_by false true n m vs h f g = f h
only_by false false n m vs h f g = among_snoc n m vs h f g

pub noticed_only : {P : Type 0} (kept : ℕ → Bool) (n : ℕ) (ns : List ℕ) (vs : List ℕ)
    → is_among n (noticed_all kept ns vs) ≡ true → (is_among n ns ≡ true → P) → (is_among n vs ≡ true → P) → P
noticed_only kept n [] vs h f g = g h
noticed_only kept n (m ∷ ns) vs h f g = noticed_only kept n ns (noticed (kept m) m vs) h
    (λ e. f (or_right (eqb n m) (is_among n ns) e))
    (λ e. only_by (kept m) (is_among m vs) n m vs e g
    (λ i. f (or_left (eqb n m) (is_among n ns) (eq-eqb n m i))))

-- a type whose variables are kept or found finds nothing new
still_by : (k there : Bool) (n : ℕ) (vs : List ℕ) → (k ≡ false → there ≡ true) → cond (k || there) vs (vs ++ n ∷ []) ≡ vs
still_by true there n vs h = refl
still_by false true n vs h = refl
still_by false false n vs h = (let e : false ≡ true = h refl in absurd (cc))

mutual
  pub finds_nothing : (kept : ℕ → Bool) (u : Ty) (vs : List ℕ)
      → ((n : ℕ) → occurs n u ≡ true → kept n ≡ false → is_among n vs ≡ true) → found_in kept u vs ≡ vs
  finds_nothing kept (Ty.Var n) vs h = still_by (kept n) (is_among n vs) n vs (h n (eq-eqb n n refl))
  finds_nothing kept (Ty.Made c us) vs h = find_nothing kept us vs h

  find_nothing : (kept : ℕ → Bool) (us : Types) (vs : List ℕ)
      → ((n : ℕ) → occurs_any n us ≡ true → kept n ≡ false → is_among n vs ≡ true) → found_in_all kept us vs ≡ vs
  find_nothing kept Types.Nil vs h = refl
  find_nothing kept (Types.Cons u us) vs h =
      ap (found_in_all kept us) (finds_nothing kept u vs (λ n e. h n (or_left (occurs n u) (occurs_any n us) e)))
      ∙ find_nothing kept us vs (λ n e. h n (or_right (occurs n u) (occurs_any n us) e))
