-- What the reading of all lexemes answers.
use Rattle.std.proofs.Common.{◌≡◌, ◌≢◌, ◌-◌, ℕ, List, [], ◌∷◌, length, None, refl, arith}
use Rattle.grammars.specs.Grammar.{End, Phrase}
use Rattle.grammars.specs.Reading.{Out, read}
use Rattle.grammars.specs.Texts.{IsRefused}
use Rattle.grammars.proofs.Texts.{phrase_read, more_read}
use Rattle.cm_conditions.specs.Grammar.{condition}
use Rattle.cm_conditions.specs.declared.cond.Cond.{Cond}
use Rattle.cm_conditions.specs.declared.lexeme.Lexeme.{Lexeme}

pub whole_answer : (n : ℕ) (xs rest : List Lexeme) (cond : Cond) → read (condition n) xs ≡ Out.out (End.whole cond) rest
    → length rest ≡ 0 → Phrase (condition n) xs None cond
whole_answer n xs [] cond h none = phrase_read (condition n) xs cond h
whole_answer n xs (y ∷ rest) cond h none = absurd (omega arith)

pub more_answer : (n : ℕ) (xs rest : List Lexeme) (cond : Cond) → read (condition n) xs ≡ Out.out (End.whole cond) rest
    → length rest ≢ 0 → IsRefused (condition n) xs (length xs - length rest)
more_answer n xs [] cond h some = absurd (some refl)
more_answer n xs (y ∷ rest) cond h some = more_read (condition n) xs cond y rest h
