-- Choices, by the next lexeme: the equations that a `match` in code is proved with.
use Rattle.std.proofs.Common.{◌≡◌, List, [], ◌∷◌, Some, None, Bool, true, false, drop, refl}
use Rattle.grammars.specs.Grammar.{Grammar, End, begins, head_or, expect}
use Rattle.grammars.specs.Reading.{Out, read}
use Rattle.grammars.proofs.Complete.{goes, stops}

module _ {L A : Type 0} (t : L → Bool) (go : L → Grammar L A) (or : Grammar L A) where
  -- Where the next lexeme passes the test, what stands behind it is read.
  pub on_go : (x : L) (xs : List L) → head_or xs None ≡ Some x → t x ≡ true
      → read (Grammar.on t go or) xs ≡ read (go x) (drop 1 xs)
  on_go x [] h is = absurd (cc)
  on_go x (y ∷ xs) h is = let same : y ≡ x = cc in rw same (goes (t x) _ _ is)

  -- Where no lexeme is left, or the next one doesn't pass the test, the other way is read.
  pub on_stop : (xs : List L) → begins t (head_or xs None) ≡ false → read (Grammar.on t go or) xs ≡ read or xs
  on_stop [] h = refl
  on_stop (x ∷ xs) h = stops (t x) _ _ h

module _ {L : Type 0} (t : L → Bool) where
  -- A lexeme that is expected is taken.
  pub expect_go : (x : L) (xs : List L) → head_or xs None ≡ Some x → t x ≡ true
      → read (expect t) xs ≡ Out.out (End.whole x) (drop 1 xs)
  expect_go x xs h is = on_go t (λ x. Grammar.pure x) Grammar.refuse x xs h is

  -- Where another lexeme than is expected stands, or none, there is a refusal.
  pub expect_stop : (xs : List L) → begins t (head_or xs None) ≡ false → read (expect t) xs ≡ Out.out End.refused xs
  expect_stop xs h = on_stop t (λ x. Grammar.pure x) Grammar.refuse xs h
