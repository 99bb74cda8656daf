-- The unit that a text is, or its first diagnostic, as one function: the reader of the grammar goes through all lexemes
-- of the text, and how it ends is the answer. `IsUnit` and `IsFirstDiagnostic` say the same without a reader; that they
-- agree is `UnitsAreParsed` and `DiagnosticsAreParsed`.
use Rattle.std.specs.Prelude.{ℕ, List, [], ◌∷◌, Result, Ok, Err}
use Rattle.cm_base.specs.Diags.{whole_file}
use Rattle.cm_base.specs.declared.diag.Diag.{Diag}
use Rattle.grammars.specs.Grammar.{End}
use Rattle.grammars.specs.Reading.{Out, read}
use Rattle.sml_lexer.specs.Lexing.{lexemes_of}
use Rattle.sml_lexer.specs.declared.lexeme.Lexeme.{Lexeme}
use Rattle.sml_trees.specs.declared.full_unit.FullTopDec.{FullTopDec}
use Rattle.sml_trees.specs.declared.full_unit.FullUnit.{FullUnit}
use Rattle.phrase_reading.specs.Refusals.{refusal}
use Rattle.phrase_reading.specs.declared.tall.Tall.{Tall}
use Rattle.module_parser.specs.Units.{topdecs, top_refusal}

-- What the reading of all lexemes of a file gives: a unit where none is left behind it; 21 or 20 at one that stands
-- behind a unit; 20 at the lexeme where nothing goes on; and 12 on the file for a level too many.
abbrev pub parsed : List ℕ → List Lexeme → Out Lexeme (Tall (List FullTopDec)) → Result FullUnit Diag
parsed file all (Out.out (End.whole made) []) = Ok (record { file = file; topdecs = made.tree })
parsed file all (Out.out (End.whole made) (x ∷ left)) = Err (top_refusal file x)
parsed file all (Out.out End.refused left) = Err (refusal file all left)
parsed file all (Out.out End.deep left) = Err (whole_file 12 file)

abbrev pub parsed_lexemes : List ℕ → Result (List Lexeme) Diag → Result FullUnit Diag
parsed_lexemes file (Ok lexemes) = parsed file lexemes (read topdecs lexemes)
parsed_lexemes file (Err diag) = Err diag

-- the unit of a source, or its first diagnostic
unfoldable pub parsed_unit : List ℕ → List ℕ → Result FullUnit Diag
parsed_unit file source = parsed_lexemes file (lexemes_of file source)
