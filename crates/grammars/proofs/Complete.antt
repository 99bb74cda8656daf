-- What the relation says is read so, for every grammar.
use Rattle.std.proofs.Common.{◌≡◌, ℕ, zero, suc, List, [], ◌∷◌, ◌++◌, length, None, Bool, true, false, ◌⊎◌, inl}
use Rattle.std.proofs.Common.{inr, if◌then◌else◌, refl, ap, ◌∙◌, subst, ◌≤◌, arith, append_assoc, length-append}
use Rattle.grammars.specs.Grammar.{Grammar, End, Relation, begins, head_or, Then, Broken, Rounds, Ends}
use Rattle.grammars.specs.Reading.{Out, Reader, chain, choose, rounds, read}
use Rattle.grammars.specs.Laws.{IsComplete}

-- The lexeme after a part is the first of what stands behind it.
pub head_append : {L : Type 0} (zs rest : List L) → head_or zs (head_or rest None) ≡ head_or (zs ++ rest) None
head_append [] rest = refl
head_append (z ∷ zs) rest = refl

-- A last part is no longer than the whole.
pub shorter : {L : Type 0} (ys zs xs : List L) → xs ≡ ys ++ zs → length zs ≤ length xs
shorter ys zs xs split = rw (split, length-append) (omega arith)

-- A choice whose test says yes.
pub goes : {C : Type 0} (b : Bool) (o p : C) → b ≡ true → (if b then o else p) ≡ o
goes true o p h = refl
goes false o p h = absurd (cc)

-- A choice whose test says no.
pub stops : {C : Type 0} (b : Bool) (o p : C) → b ≡ false → (if b then o else p) ≡ p
stops true o p h = absurd (cc)
stops false o p h = refl

-- A choice goes the other way where no lexeme passes its test.
chosen_none : {L A : Type 0} (t : L → Bool) (go : L → Reader L A) (or : Reader L A) (rest : List L)
    → begins t (head_or rest None) ≡ false → choose t go or rest ≡ or rest
chosen_none t go or [] h = refl
chosen_none t go or (x ∷ rest) h = stops (t x) _ _ h

module _ {L A B : Type 0} (r : Reader L A) (k : A → Reader L B) (P : Relation L A) (Q : A → Relation L B) where
  -- Two parts, one after the other, are read so if each of them is.
  pub then_complete : IsComplete r P → (e : End B) (xs rest : List L)
      → ((a : A) (zs : List L) → length zs ≤ length xs → Q a e zs (head_or rest None) → k a
      (zs ++ rest) ≡ Out.out e rest)
      → (Then P Q e xs (head_or rest None) ⊎ Broken P e xs (head_or rest None))
      → chain (r (xs ++ rest)) k ≡ Out.out e rest
  then_complete rs e xs rest ks (inl (a, ys, zs, split, p, q)) =
      let first : r (ys ++ (zs ++ rest)) ≡ Out.out (End.whole a) (zs ++ rest) =
      rs (End.whole a) ys (zs ++ rest) (subst (P (End.whole a) ys) (head_append zs rest) p) in
      let second : k a (zs ++ rest) ≡ Out.out e rest = ks a zs (shorter ys zs xs split) q in
      ap (λ l. chain (r (l ++ rest)) k) split ∙ ap (λ l. chain (r l) k) (append_assoc ys zs rest)
      ∙ ap (λ (o : Out L A). chain o k) first ∙ second
  then_complete rs (End.whole b) xs rest ks (inr h) = absurd h
  then_complete rs End.refused xs rest ks (inr h) = ap (λ (o : Out L A). chain o k) (rs End.refused xs rest h)
  then_complete rs End.deep xs rest ks (inr h) = ap (λ (o : Out L A). chain o k) (rs End.deep xs rest h)

module _ {L A : Type 0} (t : A → L → Bool) (step : A → L → Reader L A) (Step : A → L → Relation L A) where
  -- No round is read where none begins.
  rounds_stop : (m : ℕ) (a : A) (xs : List L) → begins (t a) (head_or xs None) ≡ false
      → rounds t step m a xs ≡ Out.out (End.whole a) xs
  rounds_stop zero a xs h = refl
  rounds_stop (suc m) a [] h = refl
  rounds_stop (suc m) a (x ∷ xs) h = stops (t a x) _ _ h

  -- Rounds are read so if each of them is.
  rounds_complete : ((a : A) (x : L) → IsComplete (step a x) (Step a x))
      → (n m : ℕ) (a : A) (e : End A) (xs rest : List L) → length xs ≤ m
      → Rounds t Step n a e xs (head_or rest None)
      → rounds t step m a (xs ++ rest) ≡ Out.out e rest
  rounds_complete each zero m a e xs rest le (stop, nil, is) =
      rw (nil, is) (rounds_stop m a rest
      (subst (λ (l : List L). begins (t a) (head_or l (head_or rest None)) ≡ false) nil stop))
  rounds_complete each (suc n) m a e [] rest le h = absurd h
  rounds_complete each (suc n) zero a e (x ∷ xs) rest le h = absurd (omega arith)
  rounds_complete each (suc n) (suc m) a e (x ∷ xs) rest le (go, h) =
      goes (t a x) _ _ go
      ∙ then_complete (step a x) (rounds t step m) (Step a x) (Rounds t Step n) (each a x) e xs rest
      (λ b zs short q. rounds_complete each n m b e zs rest (omega arith) q) h

-- What the relation says of lexemes is what the reader makes of them, whatever follows.
pub complete : {L A : Type 0} (g : Grammar L A) → IsComplete (read g) (Ends g)
complete (Grammar.pure a) e xs rest h = rw (h.0, h.1) refl
complete Grammar.refuse e xs rest h = rw (h.0, h.1) refl
complete (Grammar.bind g k) e xs rest h =
    then_complete (read g) (λ a. read (k a)) (Ends g) (λ a. Ends (k a)) (complete g) e xs rest
    (λ a zs short q. complete (k a) e zs rest q) h
complete (Grammar.on t go or) e [] rest h =
    chosen_none t (λ x l. read (go x) l) (read or) rest h.0 ∙ complete or e [] rest h.1
complete (Grammar.on t go or) e (x ∷ xs) rest (inl h) = goes (t x) _ _ h.0 ∙ complete (go x) e xs rest h.1
complete (Grammar.on t go or) e (x ∷ xs) rest (inr h) = stops (t x) _ _ h.0 ∙ complete or e (x ∷ xs) rest h.1
complete (Grammar.many t step a) e xs rest (n, h) =
    rounds_complete t (λ a x. read (step a x)) (λ a x. Ends (step a x)) (λ b x. complete (step b x)) n
    (length (xs ++ rest)) a e xs rest (rw length-append (omega arith)) h
complete (Grammar.within ok g) e xs rest (inl h) = rw h.0 (complete g e xs rest h.1)
complete (Grammar.within ok g) e xs rest (inr h) = rw (h.0, h.1, h.2) refl
