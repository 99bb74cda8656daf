-- Grammars that differ in their limits alone: what is refused under one limit is refused under a wider one.
use Rattle.std.specs.Prelude.{◌≡◌, ℕ, List, length, None, ◌≤◌}
use Rattle.grammars.specs.Grammar.{Grammar, End, Phrase}
use Rattle.grammars.specs.Front.{Front}
use Rattle.grammars.specs.Reading.{Out, left_of, read}
use Rattle.grammars.specs.Texts.{IsRefused}

-- where the first answer isn't that the text is too deep, the second is the same, and else it leaves no more
abbrev pub Widens : {L A : Type 0} → Out L A → Out L A → Type 0
Widens (Out.out (End.whole a) rest) other = other ≡ Out.out (End.whole a) rest
Widens (Out.out End.refused rest) other = other ≡ Out.out End.refused rest
Widens (Out.out End.deep rest) other = length (left_of other) ≤ length rest

-- the second grammar is the first with wider limits, as far as reading tells
pub record IsWider {L A : Type 0} (g h : Grammar L A) : Type 0 where
  pub widens : (xs : List L) → Widens (read g xs) (read h xs)

-- phrases, fronts and refusals under a limit are those under the wider one
pub record KeepsRefusals {L A : Type 0} (g h : Grammar L A) : Type 0 where
  pub phrases : (xs : List L) (a : A) → Phrase g xs None a → Phrase h xs None a
  pub fronts : (xs : List L) → Front g xs → Front h xs
  pub refusals : (xs : List L) (n : ℕ) → IsRefused g xs n → IsRefused h xs n
