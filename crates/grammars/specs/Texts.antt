-- Whole texts: which are a phrase, and at which place one is refused.
use Rattle.std.specs.Prelude.{ℕ, List, length, take, drop, None, ◌≤◌}
use Rattle.grammars.specs.Grammar.{Grammar, End, head_or, Ends, Phrase}
use Rattle.grammars.specs.Front.{FirstNoFront}

-- The text is no phrase, and the place is that behind so many lexemes: each beginning of those is a front, and with
-- the next lexeme nothing is. Where none is next, the text ends too early. No level too many was opened before.
pub record IsRefused {L A : Type 0} (g : Grammar L A) (xs : List L) (taken : ℕ) : Type 0 where
  pub inside : taken ≤ length xs
  pub place : FirstNoFront g xs (drop taken xs)
  pub no_phrase : (a : A) → Phrase g xs None a → ⊥
  pub not_deep : Ends g End.deep (take taken xs) (head_or (drop taken xs) None) → ⊥

-- the last of so many lexemes opens a level too many
pub record IsTooDeep {L A : Type 0} (g : Grammar L A) (xs : List L) (taken : ℕ) : Type 0 where
  pub inside : taken ≤ length xs
  pub ends : Ends g End.deep (take taken xs) (head_or (drop taken xs) None)
