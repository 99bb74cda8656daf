-- Rounds, one at a time: the equations that loops in code are proved with.
use Rattle.std.proofs.Common.{◌≡◌, ℕ, zero, suc, List, [], ◌∷◌, length, None, Bool, true, false, if◌then◌else◌}
use Rattle.std.proofs.Common.{nat_lt, refl, sym, ap, subst, ◌∙◌, ◌≤◌, arith, length-append}
use Rattle.grammars.specs.Grammar.{Grammar, End, begins, head_or, fold, Tall, above, wrap, wraps}
use Rattle.grammars.specs.Reading.{Out, Reader, chain, end_of, left_of, rounds, read}
use Rattle.grammars.proofs.Complete.{goes, stops}
use Rattle.grammars.proofs.Sound.{is_out, sound}

-- Reading leaves no more than there was.
pub left_shorter : {L A : Type 0} (g : Grammar L A) (xs : List L) → length (left_of (read g xs)) ≤ length xs
left_shorter g xs =
    let one = sound g xs (end_of (read g xs)) (left_of (read g xs)) (is_out (read g xs)) in
    rw (ap length one.1, length-append) (omega arith)

-- What reading leaves is no longer than the text.
pub not_longer : {L A : Type 0} (g : Grammar L A) (e : End A) (xs rest : List L) → read g xs ≡ Out.out e rest
    → length rest ≤ length xs
not_longer {L} {A} g e xs rest h =
    subst (λ (o : Out L A). length (left_of o) ≤ length xs) h (left_shorter g xs)

-- What follows a part need agree only where no more is left.
pub same_chain : {L A B : Type 0} (n : ℕ) (o : Out L A) (j k : A → Reader L B) → length (left_of o) ≤ n
    → ((a : A) (l : List L) → length l ≤ n → j a l ≡ k a l) → chain o j ≡ chain o k
same_chain n (Out.out (End.whole b) rest) j k h same = same b rest h
same_chain n (Out.out End.refused rest) j k h same = refl
same_chain n (Out.out End.deep rest) j k h same = refl

module _ {L A : Type 0} (t : A → L → Bool) (step : A → L → Reader L A)
    (shorter : (a : A) (x : L) (xs : List L) → length (left_of (step a x xs)) ≤ length xs) where
  -- A count of rounds that is no less than the lexemes is always enough.
  rounds_enough : (n m : ℕ) (a : A) (xs : List L) → length xs ≤ n → length xs ≤ m
      → rounds t step n a xs ≡ rounds t step m a xs
  rounds_enough zero zero a xs p q = refl
  rounds_enough zero (suc m) a [] p q = refl
  rounds_enough (suc n) zero a [] p q = refl
  rounds_enough (suc n) (suc m) a [] p q = refl
  rounds_enough zero (suc m) a (x ∷ xs) p q = absurd (omega arith)
  rounds_enough (suc n) zero a (x ∷ xs) p q = absurd (omega arith)
  rounds_enough (suc n) (suc m) a (x ∷ xs) p q =
      ap (λ (o : Out L A). if t a x then o else Out.out (End.whole a) (x ∷ xs))
      (same_chain (length xs) (step a x xs) (rounds t step n) (rounds t step m) (shorter a x xs)
      (λ b l h. rounds_enough n m b l (omega arith) (omega arith)))

module _ {L A : Type 0} (t : A → L → Bool) (step : A → L → Grammar L A) where
  -- a round, as it is read
  abbrev steps : A → L → Reader L A
  steps a x xs = read (step a x) xs

  -- After a lexeme that begins a round, the round and then more rounds.
  pub many_go : (a : A) (x : L) (xs : List L) → t a x ≡ true
      → read (Grammar.many t step a) (x ∷ xs)
      ≡ chain (read (step a x) xs) (λ b rest. read (Grammar.many t step b) rest)
  many_go a x xs h =
      goes (t a x) _ _ h
      ∙ same_chain (length xs) (read (step a x) xs) (rounds t steps (length xs))
      (λ b rest. read (Grammar.many t step b) rest) (left_shorter (step a x) xs)
      (λ b rest le. rounds_enough t steps (λ a x xs. left_shorter (step a x) xs) (length xs) (length rest) b rest
      le (omega arith))

  -- No round before a lexeme that begins none.
  pub many_stop : (a : A) (x : L) (xs : List L) → t a x ≡ false
      → read (Grammar.many t step a) (x ∷ xs) ≡ Out.out (End.whole a) (x ∷ xs)
  many_stop a x xs h = stops (t a x) _ _ h

  -- No round where no lexeme is left, or none that begins one.
  pub many_end : (a : A) (xs : List L) → begins (t a) (head_or xs None) ≡ false
      → read (Grammar.many t step a) xs ≡ Out.out (End.whole a) xs
  many_end a [] h = refl
  many_end a (x ∷ xs) h = many_stop a x xs h

-- A round that is whole: reading goes on from its value.
pub round_whole : {L A B : Type 0} (o : Out L A) (p : Out L B) (k : A → Reader L B) (a : A) (left : List L)
    → chain o k ≡ p → o ≡ Out.out (End.whole a) left → k a left ≡ p
round_whole {L} {A} o p k a left step is = sym (ap (λ (o : Out L A). chain o k) is) ∙ step

-- What follows a part and a value made of its value follows the part.
pub chain_pure : {L A B C : Type 0} (o : Out L A) (f : A → B) (k : B → Reader L C)
    → chain (chain o (λ a rest. Out.out (End.whole (f a)) rest)) k ≡ chain o (λ a rest. k (f a) rest)
chain_pure (Out.out (End.whole a) rest) f k = refl
chain_pure (Out.out End.refused rest) f k = refl
chain_pure (Out.out End.deep rest) f k = refl

module _ {L A B : Type 0} (t : L → Bool) (part : L → Grammar L B) (add : A → B → A) where
  -- After a lexeme that begins a round of a fold, its part and then more rounds.
  pub fold_go : (a : A) (x : L) (xs : List L) → t x ≡ true
      → read (fold t part add a) (x ∷ xs) ≡ chain (read (part x) xs) (λ b rest. read
      (fold t part add (add a b)) rest)
  fold_go a x xs h =
      many_go (λ _ x. t x) (λ a x. Grammar.bind (part x) (λ b. Grammar.pure (add a b))) a x xs h
      ∙ chain_pure (read (part x) xs) (add a) (λ b rest. read (fold t part add b) rest)

  -- No round of a fold where no lexeme begins one.
  pub fold_end : (a : A) (xs : List L) → begins t (head_or xs None) ≡ false
      → read (fold t part add a) xs ≡ Out.out (End.whole a) xs
  fold_end a xs h = many_end (λ _ x. t x) (λ a x. Grammar.bind (part x) (λ b. Grammar.pure (add a b))) a xs h

module _ {L A B : Type 0} (limit : ℕ) (t : L → Bool) (part : L → Grammar L (Tall B)) (join : L → A → B → A) where
  -- what is read behind a lexeme that wraps, given whether a level is left
  abbrev wrapped : Bool → Tall A → L → List L → Out L (Tall A)
  wrapped ok left x xs =
      if ok then chain (read (part x) xs) (λ right rest. Out.out (End.whole (above (join x) left right)) rest)
      else Out.out End.deep xs

  -- After a lexeme that wraps, where a level is left: its part, and then more rounds round the two.
  pub wraps_go : (left : Tall A) (x : L) (xs : List L) → t x ≡ true → nat_lt left.height limit ≡ true
      → read (wraps limit t part join left) (x ∷ xs)
      ≡ chain (read (part x) xs) (λ right rest. read (wraps limit t part join (above (join x) left right)) rest)
  wraps_go left x xs h room =
      many_go (λ _ x. t x) (wrap limit part join) left x xs h
      ∙ ap (λ (ok : Bool). chain (wrapped ok left x xs) (λ b rest. read (wraps limit t part join b) rest)) room
      ∙ chain_pure (read (part x) xs) (above (join x) left) (λ b rest. read (wraps limit t part join b) rest)

  -- Behind a lexeme that wraps what has no level left, the text is too deep.
  pub wraps_deep : (left : Tall A) (x : L) (xs : List L) → t x ≡ true → nat_lt left.height limit ≡ false
      → read (wraps limit t part join left) (x ∷ xs) ≡ Out.out End.deep xs
  wraps_deep left x xs h room =
      many_go (λ _ x. t x) (wrap limit part join) left x xs h
      ∙ ap (λ (ok : Bool). chain (wrapped ok left x xs) (λ b rest. read (wraps limit t part join b) rest)) room

  -- Nothing is wrapped where no lexeme begins a round.
  pub wraps_end : (left : Tall A) (xs : List L) → begins t (head_or xs None) ≡ false
      → read (wraps limit t part join left) xs ≡ Out.out (End.whole left) xs
  wraps_end left [] h = refl
  wraps_end left (x ∷ xs) h = stops (t x) _ _ h
