-- Wider limits, form by form: what is refused under one limit is refused under a wider one.
use Rattle.std.proofs.Common.{◌≡◌, ℕ, zero, suc, ◌-◌, List, [], ◌∷◌, length, None, Bool, true, false}
use Rattle.std.proofs.Common.{if◌then◌else◌, nat_lt, refl, sym, ap, ◌∙◌, subst, ◌≤◌, arith}
use Rattle.std.proofs.lemmas.Bool.{lt-ltb, ltb-true}
use Rattle.grammars.specs.Grammar.{Grammar, End, Phrase, Tall, above, wrap, wraps}
use Rattle.grammars.specs.Front.{Front}
use Rattle.grammars.specs.Reading.{Out, Reader, chain, end_of, left_of, rounds, read}
use Rattle.grammars.specs.Texts.{IsRefused}
use Rattle.grammars.specs.Wider.{Widens, IsWider, KeepsRefusals}
use Rattle.grammars.proofs.Sound.{is_out}
use Rattle.grammars.proofs.Fronts.{front_read, read_front}
use Rattle.grammars.proofs.Texts.{phrase_read, phrase_whole, refused_read, more_read, too_deep_read, refused_once}
use Rattle.grammars.proofs.Texts.{deep_not_refused}
use Rattle.grammars.proofs.Rounds.{left_shorter}

-- Each answer widens to itself.
widens_self : {L A : Type 0} (o : Out L A) → Widens o o
widens_self (Out.out (End.whole a) rest) = refl
widens_self (Out.out End.refused rest) = refl
widens_self (Out.out End.deep rest) = omega arith

-- What goes on from an answer leaves no more than the answer does.
left_chain : {L A B : Type 0} (n : ℕ) (p : Out L A) (j : A → Reader L B) → length (left_of p) ≤ n
    → ((a : A) (l : List L) → length (left_of (j a l)) ≤ length l) → length (left_of (chain p j)) ≤ n
left_chain n (Out.out (End.whole a) rest) j le shorter = let less = shorter a rest in omega arith
left_chain n (Out.out End.refused rest) j le shorter = le
left_chain n (Out.out End.deep rest) j le shorter = le

-- Two parts, one after the other, widen if each of them does.
chain_widens : {L A B : Type 0} (o p : Out L A) (k j : A → Reader L B) → Widens o p
    → ((a : A) (l : List L) → Widens (k a l) (j a l)) → ((a : A) (l : List L) → length (left_of (j a l)) ≤ length l)
    → Widens (chain o k) (chain p j)
chain_widens (Out.out (End.whole a) rest) p k j w next shorter =
    subst (λ (q : Out _ _). Widens (k a rest) (chain q j)) (sym w) (next a rest)
chain_widens (Out.out End.refused rest) p k j w next shorter = ap (λ (q : Out _ _). chain q j) w
chain_widens (Out.out End.deep rest) p k j w next shorter = left_chain (length rest) p j w shorter

module _ {L A : Type 0} (t : A → L → Bool) (step other : A → L → Reader L A)
    (shorter : (a : A) (x : L) (xs : List L) → length (left_of (other a x xs)) ≤ length xs) where
  -- So many rounds leave no more than there was.
  rounds_shorter : (n : ℕ) (a : A) (xs : List L) → length (left_of (rounds t other n a xs)) ≤ length xs
  rounds_shorter zero a xs = omega arith
  rounds_shorter (suc n) a [] = omega arith
  rounds_shorter (suc n) a (x ∷ xs) =
      by_test (left_chain (length xs) (other a x xs) (rounds t other n) (shorter a x xs) (rounds_shorter n)) (t a x)
    where
      by_test : length (left_of (chain (other a x xs) (rounds t other n))) ≤ length xs → (b : Bool)
          → length (left_of (if b then chain (other a x xs) (rounds t other n) else Out.out (End.whole a) (x ∷ xs)))
          ≤ length (x ∷ xs)
      by_test less true = omega arith
      by_test less false = omega arith

  -- Rounds widen if each of them does.
  rounds_widen : ((a : A) (x : L) (xs : List L) → Widens (step a x xs) (other a x xs)) → (n : ℕ) (a : A) (xs : List L)
      → Widens (rounds t step n a xs) (rounds t other n a xs)
  rounds_widen each zero a xs = refl
  rounds_widen each (suc n) a [] = refl
  rounds_widen each (suc n) a (x ∷ xs) = by_test (rounds_widen each n) (t a x)
    where
      by_test : ((b : A) (zs : List L) → Widens (rounds t step n b zs) (rounds t other n b zs)) → (b : Bool)
          → Widens (if b then chain (step a x xs) (rounds t step n) else Out.out (End.whole a) (x ∷ xs))
          (if b then chain (other a x xs) (rounds t other n) else Out.out (End.whole a) (x ∷ xs))
      by_test more true =
          chain_widens (step a x xs) (other a x xs) (rounds t step n) (rounds t other n) (each a x xs) more
          (rounds_shorter n)
      by_test more false = refl

-- Each grammar is as wide as itself.
pub wider_self : {L A : Type 0} (g : Grammar L A) → IsWider g g
wider_self g = record { widens = λ xs. widens_self (read g xs) }

-- One part, then the next, is wider if both are.
pub wider_bind : {L A B : Type 0} (g h : Grammar L A) (k j : A → Grammar L B) → IsWider g h
    → ((a : A) → IsWider (k a) (j a)) → IsWider (Grammar.bind g k) (Grammar.bind h j)
wider_bind g h k j w next = record {
  widens = λ xs. chain_widens (read g xs) (read h xs) (λ a. read (k a)) (λ a. read (j a)) (w.widens xs)
      (λ a. (next a).widens) (λ a. left_shorter (j a));
}

-- A choice is wider if both ways are.
pub wider_on : {L A : Type 0} (t : L → Bool) (go to : L → Grammar L A) (or than : Grammar L A)
    → ((x : L) → IsWider (go x) (to x)) → IsWider or than → IsWider (Grammar.on t go or) (Grammar.on t to than)
wider_on {L} t go to or than ways w = record { widens = by_text }
  where
    by_test : (b : Bool) (x : L) (xs : List L)
        → Widens (if b then read (go x) xs else read or (x ∷ xs)) (if b then read (to x) xs else read than (x ∷ xs))
    by_test true x xs = (ways x).widens xs
    by_test false x xs = w.widens (x ∷ xs)

    by_text : (xs : List L) → Widens (read (Grammar.on t go or) xs) (read (Grammar.on t to than) xs)
    by_text [] = w.widens []
    by_text (x ∷ xs) = by_test (t x) x xs

-- Rounds are wider if each of them is.
pub wider_many : {L A : Type 0} (t : A → L → Bool) (step other : A → L → Grammar L A) (a : A)
    → ((a : A) (x : L) → IsWider (step a x) (other a x)) → IsWider (Grammar.many t step a) (Grammar.many t other a)
wider_many t step other a each = record {
  widens = λ xs. rounds_widen t (λ a x. read (step a x)) (λ a x. read (other a x)) (λ a x. left_shorter (other a x))
      (λ a x. (each a x).widens) (length xs) a xs;
}

-- Every grammar is wider than what is too deep at once.
pub wider_deep : {L A : Type 0} (g h : Grammar L A) → IsWider (Grammar.within false g) h
wider_deep g h = record { widens = left_shorter h }

-- A limit is wider if it allows all that the other does, and what it allows is wider.
pub wider_within : {L A : Type 0} (ok okay : Bool) (g h : Grammar L A) → (ok ≡ true → okay ≡ true) → IsWider g h
    → IsWider (Grammar.within ok g) (Grammar.within okay h)
wider_within true true g h more w = record { widens = w.widens }
wider_within true false g h more w = absurd (let never : false ≡ true = more refl in cc)
wider_within false okay g h more w = wider_deep g (Grammar.within okay h)

-- A test of a lower limit passes that of a higher one.
passes : (h m n : ℕ) → m ≤ n → nat_lt h m ≡ true → nat_lt h n ≡ true
passes h m n le p = let low = ltb-true h m p in lt-ltb h n (omega arith)

-- Forms that nest to the left are wider if their limit is and what stands beside a wrap is.
pub wider_wraps : {L A B : Type 0} (m n : ℕ) (t : L → Bool) (part other : L → Grammar L (Tall B))
    (join : L → A → B → A) (left : Tall A) → m ≤ n → ((x : L) → IsWider (part x) (other x))
    → IsWider (wraps m t part join left) (wraps n t other join left)
wider_wraps m n t part other join left le parts =
    wider_many (λ _ x. t x) (wrap m part join) (wrap n other join) left
    (λ left x. wider_within (nat_lt left.height m) (nat_lt left.height n)
    (Grammar.bind (part x) (λ right. Grammar.pure (above (join x) left right)))
    (Grammar.bind (other x) (λ right. Grammar.pure (above (join x) left right)))
    (passes left.height m n le)
    (wider_bind (part x) (other x) (λ right. Grammar.pure (above (join x) left right))
    (λ right. Grammar.pure (above (join x) left right)) (parts x)
    (λ right. wider_self (Grammar.pure (above (join x) left right)))))

-- ---- what a wider limit keeps

-- A list of no length is none.
no_length : {L : Type 0} (xs : List L) → length xs ≤ 0 → xs ≡ []
no_length [] h = refl
no_length (x ∷ xs) h = absurd (omega arith)

module _ {L A : Type 0} (g h : Grammar L A) (w : IsWider g h) where
  -- What widens an answer that a text was read as.
  widens_to : (o : Out L A) (xs : List L) → read g xs ≡ o → Widens o (read h xs)
  widens_to o xs is = subst (λ (o : Out L A). Widens o (read h xs)) is (w.widens xs)

  -- A phrase under a limit is one under the wider one.
  phrase_kept : (xs : List L) (a : A) → Phrase g xs None a → Phrase h xs None a
  phrase_kept xs a p = phrase_read h xs a (widens_to (Out.out (End.whole a) []) xs (phrase_whole g xs a p))

  -- A front under a limit is one under the wider one.
  front_kept : (xs : List L) → Front g xs → Front h xs
  front_kept xs f = let all = front_read g xs f in by_end all.0 all.1
    where
      by_end : (e : End A) → read g xs ≡ Out.out e [] → Front h xs
      by_end (End.whole a) is = read_front h xs (End.whole a, widens_to (Out.out (End.whole a) []) xs is)
      by_end End.refused is = read_front h xs (End.refused, widens_to (Out.out End.refused []) xs is)
      by_end End.deep is =
          let none = no_length (left_of (read h xs)) (widens_to (Out.out End.deep []) xs is) in
          let all : read h xs ≡ Out.out (end_of (read h xs)) [] =
          is_out (read h xs) ∙ ap (λ (l : List L). Out.out (end_of (read h xs)) l) none in
          read_front h xs (end_of (read h xs), all)

  -- A text that is refused under a limit is refused at the same place under the wider one.
  refusal_kept : (xs : List L) (n : ℕ) → IsRefused g xs n → IsRefused h xs n
  refusal_kept xs n r = by_end (end_of (read g xs)) (left_of (read g xs)) (is_out (read g xs))
    where
      at : (m : ℕ) → IsRefused g xs m → IsRefused h xs m → IsRefused h xs n
      at m p q = subst (λ (k : ℕ). IsRefused h xs k) (refused_once g xs m n p r) q

      by_end : (e : End A) (rest : List L) → read g xs ≡ Out.out e rest → IsRefused h xs n
      by_end (End.whole a) [] is = absurd (r.no_phrase a (phrase_read g xs a is))
      by_end (End.whole a) (y ∷ rest) is =
          at (length xs - length (y ∷ rest)) (more_read g xs a y rest is)
          (more_read h xs a y rest (widens_to (Out.out (End.whole a) (y ∷ rest)) xs is))
      by_end End.refused rest is =
          at (length xs - length rest) (refused_read g xs rest is)
          (refused_read h xs rest (widens_to (Out.out End.refused rest) xs is))
      by_end End.deep rest is =
          absurd (deep_not_refused g xs (length xs - length rest) n (too_deep_read g xs rest is) r)

  -- Phrases, fronts and refusals under a limit are those under the wider one.
  pub keeps_refusals : KeepsRefusals g h
  keeps_refusals = record {
    phrases = phrase_kept;
    fronts = front_kept;
    refusals = refusal_kept;
  }
