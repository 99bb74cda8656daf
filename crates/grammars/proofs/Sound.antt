-- What is read is what the relation says of the lexemes that were taken, for every grammar.
use Rattle.std.proofs.Common.{◌≡◌, ℕ, zero, suc, List, [], ◌∷◌, ◌++◌, length, None, Bool, true, false, ◌⊎◌, inl}
use Rattle.std.proofs.Common.{inr, if◌then◌else◌, refl, sym, ap, ◌∙◌, subst, ◌≤◌, arith, append_assoc}
use Rattle.std.proofs.Common.{length-append}
use Rattle.grammars.specs.Grammar.{Grammar, End, Relation, begins, head_or, Chosen, Then, Broken, Rounds, Ends}
use Rattle.grammars.specs.Reading.{Out, Reader, chain, end_of, left_of, rounds, read}
use Rattle.grammars.specs.Laws.{Taken, IsSoundAt}
use Rattle.grammars.proofs.Complete.{head_append}

-- What reading answers is its end and what is left.
pub is_out : {L A : Type 0} (o : Out L A) → o ≡ Out.out (end_of o) (left_of o)
is_out (Out.out e l) = refl

-- What goes on from an answer goes on from its end and what is left.
by_out : {L A B : Type 0} (o : Out L A) (k : A → Reader L B) {p : Out L B} → chain o k ≡ p
    → chain (Out.out (end_of o) (left_of o)) k ≡ p
by_out (Out.out e l) k h = h

-- the answer with this end and these lexemes left, as a function
abbrev pub pair_of : {L A : Type 0} → End A → List L → Out L A
pair_of e l = Out.out e l

module _ {L A B : Type 0} (r : Reader L A) (k : A → Reader L B) (P : Relation L A) (Q : A → Relation L B) where
  -- what the relation says of two parts, before the rest
  abbrev Both : End B → List L → List L → Type 0
  Both e rest ys = Then P Q e ys (head_or rest None) ⊎ Broken P e ys (head_or rest None)

  -- A part that isn't whole is where both end.
  broken : (e : End A) (b : End B) (xs mid rest : List L) → IsSoundAt r P xs → r xs ≡ Out.out e mid → mid ≡ rest
      → ((ys : List L) → P e ys (head_or rest None) → Both b rest ys) → Taken (Both b rest) xs rest
  broken e b xs mid rest rs is same ends =
      let one : Taken (λ ys. P e ys (head_or rest None)) xs rest =
      rs e rest (is ∙ ap (λ (l : List L). pair_of e l) same) in
      (one.0, one.1, ends one.0 one.2)

  -- Two parts, one after the other, are what the relation says if each of them is.
  then_sound : (e : End B) (xs rest : List L) → IsSoundAt r P xs
      → ((a : A) (zs : List L) → length zs ≤ length xs → k a zs ≡ Out.out e rest
      → Taken (λ ys. Q a e ys (head_or rest None)) zs rest)
      → (o : End A) (mid : List L) → r xs ≡ Out.out o mid → chain (Out.out o mid) k ≡ Out.out e rest
      → Taken (Both e rest) xs rest
  then_sound e xs rest rs ks (End.whole a) mid is h =
      let one : Taken (λ ys. P (End.whole a) ys (head_or mid None)) xs mid = rs (End.whole a) mid is in
      let two : Taken (λ ys. Q a e ys (head_or rest None)) mid rest =
      ks a mid (rw (one.1, length-append) (omega arith)) h in
      let first : P (End.whole a) one.0 (head_or two.0 (head_or rest None)) =
      subst (P (End.whole a) one.0)
      (ap (λ (l : List L). head_or l None) two.1 ∙ sym (head_append two.0 rest)) one.2 in (
        one.0 ++ two.0,
        one.1 ∙ ap (λ (l : List L). one.0 ++ l) two.1 ∙ sym (append_assoc one.0 two.0 rest),
        inl (a, one.0, two.0, refl, first, two.2),
      )
  then_sound (End.whole b) xs rest rs ks End.refused mid is h =
      let no : End.refused ≡ End.whole b = ap end_of h in absurd (cc)
  then_sound End.refused xs rest rs ks End.refused mid is h =
      broken End.refused End.refused xs mid rest rs is (ap left_of h) (λ ys p. inr p)
  then_sound End.deep xs rest rs ks End.refused mid is h =
      let no : ◌≡◌ {A = End B} End.refused End.deep = ap end_of h in absurd (cc)
  then_sound (End.whole b) xs rest rs ks End.deep mid is h =
      let no : End.deep ≡ End.whole b = ap end_of h in absurd (cc)
  then_sound End.refused xs rest rs ks End.deep mid is h =
      let no : ◌≡◌ {A = End B} End.deep End.refused = ap end_of h in absurd (cc)
  then_sound End.deep xs rest rs ks End.deep mid is h =
      broken End.deep End.deep xs mid rest rs is (ap left_of h) (λ ys p. inr p)

module _ {L A : Type 0} (t : A → L → Bool) (step : A → L → Reader L A) (Step : A → L → Relation L A) where
  -- some number of rounds
  abbrev Some_rounds : A → Relation L A
  Some_rounds a e ys after = (n : ℕ) × Rounds t Step n a e ys after

  -- one more round than there were
  counted : (a : A) (e : End A) (x : L) (ys rest : List L) → t a x ≡ true
      → (Then (Step a x) Some_rounds e ys (head_or rest None) ⊎ Broken (Step a x) e ys (head_or rest None))
      → Some_rounds a e (x ∷ ys) (head_or rest None)
  counted a e x ys rest go (inl (b, us, vs, split, p, (n, q))) = (suc n, (go, inl (b, us, vs, split, p, q)))
  counted a e x ys rest go (inr h) = (suc zero, (go, inr h))

  -- A text before which no round begins has none.
  no_rounds : (a : A) (e : End A) (xs rest : List L) → begins (t a) (head_or xs None) ≡ false
      → Out.out (End.whole a) xs ≡ Out.out e rest → Taken (λ ys. Some_rounds a e ys (head_or rest None)) xs rest
  no_rounds a e xs rest stop h =
      let left : xs ≡ rest = ap left_of h in (
        [],
        left,
        (zero, (subst (λ (l : List L). begins (t a) (head_or l None) ≡ false) left stop, refl, sym (ap end_of h))),
      )

  -- A round and the rounds after it are what the relation says if each of them is.
  round_sound : ((a : A) (x : L) (xs : List L) → IsSoundAt (step a x) (Step a x) xs)
      → (m : ℕ) (a : A) (e : End A) (x : L) (xs rest : List L)
      → ((b : A) (zs : List L) → length zs ≤ length xs → rounds t step m b zs ≡ Out.out e rest
      → Taken (λ ys. Some_rounds b e ys (head_or rest None)) zs rest)
      → (b : Bool) → t a x ≡ b
      → (if b then (chain (step a x xs) (rounds t step m)) else Out.out (End.whole a) (x ∷ xs)) ≡ Out.out e rest
      → Taken (λ ys. Some_rounds a e ys (head_or rest None)) (x ∷ xs) rest
  round_sound each m a e x xs rest more true go h =
      let round = then_sound (step a x) (rounds t step m) (Step a x) Some_rounds e xs rest (each a x xs) more
      (end_of (step a x xs)) (left_of (step a x xs)) (is_out (step a x xs)) (by_out (step a x xs) _ h) in
      (x ∷ round.0, ap (λ (l : List L). x ∷ l) round.1, counted a e x round.0 rest go round.2)
  round_sound each m a e x xs rest more false stop h = no_rounds a e (x ∷ xs) rest stop h

  -- Rounds are what the relation says if each of them is.
  rounds_sound : ((a : A) (x : L) (xs : List L) → IsSoundAt (step a x) (Step a x) xs)
      → (m : ℕ) (a : A) (e : End A) (xs rest : List L) → length xs ≤ m → rounds t step m a xs ≡ Out.out e rest
      → Taken (λ ys. Some_rounds a e ys (head_or rest None)) xs rest
  rounds_sound each zero a e [] rest le h = no_rounds a e [] rest refl h
  rounds_sound each (suc m) a e [] rest le h = no_rounds a e [] rest refl h
  rounds_sound each zero a e (x ∷ xs) rest le h = absurd (omega arith)
  rounds_sound each (suc m) a e (x ∷ xs) rest le h =
      round_sound each m a e x xs rest (λ b zs short. rounds_sound each m b e zs rest (omega arith)) (t a x) refl h

module _ {L A : Type 0} (t : L → Bool) (Go : L → Relation L A) (Or : Relation L A) (e : End A) (rest : List L) where
  -- what the relation says of a choice, before the rest
  abbrev Choice : List L → Type 0
  Choice ys =
      Chosen t (λ x ys. Go x e ys (head_or rest None)) (λ ys. Or e ys (head_or rest None)) ys (head_or rest None)

  -- A choice before the end of the text.
  chosen_empty : (ys : List L) → [] ≡ ys ++ rest → Or e ys (head_or rest None) → Choice ys
  chosen_empty [] h p = (subst (λ (l : List L). begins t (head_or l None) ≡ false) h refl, p)
  chosen_empty (y ∷ ys) h p = absurd (cc)

  -- A choice whose lexeme doesn't pass the test.
  chosen_other : (x : L) (xs ys : List L) → x ∷ xs ≡ ys ++ rest → t x ≡ false → Or e ys (head_or rest None)
      → Choice ys
  chosen_other x xs [] h stop p = (subst (λ (l : List L). begins t (head_or l None) ≡ false) h stop, p)
  chosen_other x xs (y ∷ ys) h stop p =
      let same : x ≡ y = cc in inr (subst (λ (z : L). t z ≡ false) same stop, p)

  -- A choice is what the relation says if both ways are.
  on_sound : (go : L → Reader L A) (or : Reader L A) (x : L) (xs : List L)
      → (go x xs ≡ Out.out e rest → Taken (λ ys. Go x e ys (head_or rest None)) xs rest)
      → (or (x ∷ xs) ≡ Out.out e rest → Taken (λ ys. Or e ys (head_or rest None)) (x ∷ xs) rest)
      → (b : Bool) → t x ≡ b → (if b then go x xs else or (x ∷ xs)) ≡ Out.out e rest → Taken Choice (x ∷ xs) rest
  on_sound go or x xs goes ors true is h =
      let one = goes h in (x ∷ one.0, ap (λ (l : List L). x ∷ l) one.1, inl (is, one.2))
  on_sound go or x xs goes ors false is h =
      let one = ors h in (one.0, one.1, chosen_other x xs one.0 one.1 is one.2)

-- A limit is what the relation says if what it allows is.
within_sound : {L A : Type 0} (o : Out L A) (P : List L → Type 0) (e : End A) (xs rest : List L)
    → (o ≡ Out.out e rest → Taken P xs rest) → (ok : Bool)
    → (if ok then o else Out.out End.deep xs) ≡ Out.out e rest
    → Taken (λ ys. ((ok ≡ true) × P ys) ⊎ ((ok ≡ false) × (ys ≡ []) × (e ≡ End.deep))) xs rest
within_sound o P e xs rest p true h = let one = p h in (one.0, one.1, inl (refl, one.2))
within_sound o P e xs rest p false h = ([], ap left_of h, inr (refl, refl, sym (ap end_of h)))

-- What is read of a text is what the relation says of the lexemes that were taken.
pub sound : {L A : Type 0} (g : Grammar L A) (xs : List L) → IsSoundAt (read g) (Ends g) xs
sound (Grammar.pure a) xs e rest h = ([], ap left_of h, (refl, sym (ap end_of h)))
sound Grammar.refuse xs e rest h = ([], ap left_of h, (refl, sym (ap end_of h)))
sound (Grammar.bind g k) xs e rest h =
    then_sound (read g) (λ a. read (k a)) (Ends g) (λ a. Ends (k a)) e xs rest (sound g xs)
    (λ a zs short. sound (k a) zs e rest) (end_of (read g xs)) (left_of (read g xs)) (is_out (read g xs))
    (by_out (read g xs) _ h)
sound (Grammar.on t go or) [] e rest h =
    let one = sound or [] e rest h in
    (one.0, one.1, chosen_empty t (λ x. Ends (go x)) (Ends or) e rest one.0 one.1 one.2)
sound (Grammar.on t go or) (x ∷ xs) e rest h =
    on_sound t (λ x. Ends (go x)) (Ends or) e rest (λ x l. read (go x) l) (read or) x xs (sound (go x) xs e rest)
    (sound or (x ∷ xs) e rest) (t x) refl h
sound (Grammar.many t step a) xs e rest h =
    rounds_sound t (λ a x. read (step a x)) (λ a x. Ends (step a x)) (λ b x. sound (step b x))
    (length xs) a e xs rest
    (omega arith) h
sound (Grammar.within ok g) xs e rest h =
    within_sound (read g xs) (λ ys. Ends g e ys (head_or rest None)) e xs rest (sound g xs e rest) ok h
