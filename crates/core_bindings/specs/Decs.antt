-- Declarations, of the core or of structures, with the infix status of names that they leave.
use Rattle.std.specs.Prelude.{◌≡◌, ℕ, ◌++◌, max, List, [], ◌∷◌, Result, Ok, Err}
use Rattle.grammars.specs.Grammar.{End, ◌>>=◌}
use Rattle.grammars.specs.Grammar.Grammar.{pure}
use Rattle.grammars.specs.Reading.{Out, read}
use Rattle.sml_lexer.specs.declared.lexeme.Lexeme.{Lexeme}
use Rattle.infix_names.specs.Fixities.{Fixities}
use Rattle.phrase_reading.specs.Reads.{Stops}
use Rattle.phrase_reading.specs.Words.{g}
use Rattle.phrase_reading.specs.declared.stop.Stop.{Stop}
use Rattle.phrase_reading.specs.declared.tall.Tall.{Tall}

-- declarations that were read, the infix status of names after them, and the height of the highest
pub record Decs (A : Type 0) : Type 0 where
  pub decs : List A
  pub fixities : Fixities
  pub height : ℕ

-- one declaration, and the infix status of names after it
abbrev pub declares : {A : Type 0} → Tall A → Fixities → Decs A
declares dec fs = record { decs = dec.tree ∷ []; fixities = fs; height = dec.height }

-- declarations with the infix status behind them
abbrev pub declared : {A : Type 0} → Tall (List A) → Fixities → Decs A
declared made fs = record { decs = made.tree; fixities = fs; height = made.height }

-- a declaration that leaves infix status as it is
unfoldable pub plain : {A : Type 0} → Fixities → g (Tall A) → g (Decs A)
plain fs dec = do
  found ← dec
  pure (declares found fs)

-- the declarations before, and one more
abbrev pub with_dec : {A : Type 0} → Decs A → Decs A → Decs A
with_dec found next = record {
  decs = found.decs ++ next.decs;
  fixities = next.fixities;
  height = max found.height next.height;
}

-- ---- what contracts see: the answer of a call, the infix status and the lexemes that it leaves are those of the
-- grammar's reader

-- of a call that reads one declaration
abbrev pub ReadsDec : {A : Type 0} → g (Decs A) → List Lexeme → Result (Tall A) Stop → Fixities → List Lexeme → Type 0
ReadsDec g rest (Ok dec) fs left = read g rest ≡ Out.out (End.whole (declares dec fs)) left
ReadsDec g rest (Err why) fs left = Stops why (read g rest) left

-- of a call that reads declarations
abbrev pub ReadsDecs : {A : Type 0} → g (Decs A) → List Lexeme → Result (Tall (List A)) Stop → Fixities → List Lexeme
    → Type 0
ReadsDecs g rest (Ok made) fs left = read g rest ≡ Out.out (End.whole (declared made fs)) left
ReadsDecs g rest (Err why) fs left = Stops why (read g rest) left
