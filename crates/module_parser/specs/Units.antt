-- Whole units (The Definition of Standard ML, figure 8), which texts they are, and the first diagnostic of a text that
-- is none:
--
--     unit   = { topdec [ ";" ] }
--     topdec = "structure" strbind { "and" strbind } | "signature" sigid "=" sigexp { "and" sigid "=" sigexp }
--            | "functor" funbind { "and" funbind } | "funsig" funsig { "and" funsig }
--
-- A unit nests at most 128 levels. One semicolon at most may stand behind each declaration of the top level, and none
-- before the first. Each of these declarations begins with the infix status of the initial basis.
use Rattle.std.specs.Prelude.{◌≡◌, ℕ, zero, suc, ◌⊎◌, Bool, true, false, Option, None, Some, List, [], ◌∷◌, Result, Ok, Err}
use Rattle.grammars.specs.Grammar.{Grammar, End, Phrase, ◌>>=◌, ◌>>◌}
use Rattle.grammars.specs.Grammar.Grammar.{pure, refuse, on, many, within}
use Rattle.cm_base.specs.Diags.{whole_file}
use Rattle.cm_base.specs.declared.diag.Diag.{Diag}
use Rattle.sml_lexer.specs.Lexing.{lexemes_of}
use Rattle.sml_lexer.specs.declared.lexeme.Lexeme.{Lexeme}
use Rattle.sml_trees.specs.declared.full_str.FullStrBind.{FullStrBind}
use Rattle.sml_trees.specs.declared.full_sig.FullSigBind.{FullSigBind}
use Rattle.sml_trees.specs.declared.full_unit.FullFunctorBind.{FullFunctorBind}
use Rattle.sml_trees.specs.declared.full_unit.FullFunsigBind.{FullFunsigBind}
use Rattle.sml_trees.specs.declared.full_unit.FullTopDec.{FullTopDec}
use Rattle.sml_trees.specs.declared.full_unit.FullTopDec.TheVariants as top
use Rattle.sml_trees.specs.declared.full_unit.FullUnit.{FullUnit}
use Rattle.sml_trees.specs.declared.name.At.{At}
use Rattle.phrase_reading.specs.Refusals.{LongestRun, place_of, refusal}
use Rattle.expression_parts.specs.ExpStarts.{starts_dec_word}
use Rattle.infix_names.specs.Fixities.{initial}
use Rattle.phrase_reading.specs.Sized.{over, more}
use Rattle.phrase_reading.specs.Words.{g, is, word, at}
use Rattle.phrase_reading.specs.declared.tall.Tall.{Tall}
use Rattle.sml_lexer.specs.declared.words.Word.{Word}
use Rattle.sml_lexer.specs.declared.words.Word.TheVariants as w
use Rattle.module_parser.specs.Functors.{fun_bind, funsig_bind}
use Rattle.signature_parser.specs.Joined.{bindings}
use Rattle.signature_parser.specs.SigLevels.{sig_level}
use Rattle.signature_parser.specs.Signatures.{sig_bind}
use Rattle.module_parser.specs.StrLevels.{str_level}
use Rattle.module_parser.specs.Structures.{str_bind}

-- ---- the grammar

-- structure strbind and ..
unfoldable pub top_structures : ℕ → At → g (Tall FullTopDec)
top_structures n place = do
  found ← bindings (str_bind n (str_level n) initial)
  pure (over (λ (binds : List FullStrBind). top.Structures binds place) found)

-- signature sigid = sigexp and ..
unfoldable pub top_signatures : ℕ → At → g (Tall FullTopDec)
top_signatures n place = do
  found ← bindings (sig_bind (sig_level n).sig w.Equals)
  pure (over (λ (binds : List FullSigBind). top.Signatures binds place) found)

-- functor funbind and ..
unfoldable pub top_functors : ℕ → At → g (Tall FullTopDec)
top_functors n place = do
  found ← bindings (fun_bind n)
  pure (over (λ (binds : List FullFunctorBind). top.Functors binds place) found)

-- funsig funid ( strid : sigexp ) = sigexp and ..
unfoldable pub top_funsigs : ℕ → At → g (Tall FullTopDec)
top_funsigs n place = do
  found ← bindings (funsig_bind n)
  pure (over (λ (binds : List FullFunsigBind). top.Funsigs binds place) found)

-- whether a declaration of the top level begins with this word
abbrev pub starts_top : Option Word → Bool
starts_top (Some w.Structure) = true
starts_top (Some w.Signature) = true
starts_top (Some w.Functor) = true
starts_top (Some w.Funsig) = true
starts_top _ = false

-- a declaration of the top level behind its first word, over parts of so many levels
abbrev pub top_word : ℕ → At → Option Word → g (Tall FullTopDec)
top_word n place (Some w.Structure) = top_structures n place
top_word n place (Some w.Signature) = top_signatures n place
top_word n place (Some w.Functor) = top_functors n place
top_word n place (Some w.Funsig) = top_funsigs n place
top_word n place _ = refuse

-- [ ; ]
unfoldable pub semicolon : g (Unit {0})
semicolon = on (is w.Semicolon) (λ _. pure tt) (pure tt)

-- one more declaration of the top level behind its first word, and its semicolon
unfoldable pub top_round : ℕ → Tall (List FullTopDec) → Lexeme → g (Tall (List FullTopDec))
top_round n found x = do
  next ← top_word n (at x) (word x)
  semicolon
  pure (more found next)

-- further declarations of the top level
unfoldable pub topdecs_from : ℕ → Tall (List FullTopDec) → g (Tall (List FullTopDec))
topdecs_from n found = many (λ _ x. starts_top (word x)) (top_round n) found

-- The declarations of a unit, each of which opens a level, so that 127 are left for what stands in them.
unfoldable pub topdecs : g (Tall (List FullTopDec))
topdecs = topdecs_from 127 (record { tree = []; height = 0 })

-- ---- units

-- The text of this file is this unit: its lexemes, all of them, are a phrase of the grammar with these declarations.
abbrev pub IsUnit : List ℕ → List ℕ → FullUnit → Type 0
IsUnit file source unit =
    (lexemes : List Lexeme) × (lexemes_of file source ≡ Ok lexemes)
    × (height : ℕ) × Phrase topdecs lexemes None (record { tree = unit.topdecs; height = height })
    × (unit.file ≡ file)

-- ---- the first diagnostic

abbrev pub top_number : Bool → ℕ
top_number true = 21
top_number false = 20

-- what is refused behind a whole unit: a declaration of the core may not stand at the top level, which has a number of
-- its own
abbrev pub top_refusal : List ℕ → Lexeme → Diag
top_refusal file x =
    record { number = top_number (starts_dec_word (word x)); at = place_of file (Some x); names = [] }

-- The first diagnostic of these lexemes, by the lexeme at which it arises. The longest run of lexemes all of whose
-- beginnings are fronts of a unit stands before it.
--
-- The run is no unit: 20 at the lexeme behind it, or at the last lexeme of a text that ends too early, or on the file
-- where there is no lexeme.
abbrev pub IsCutShort : List ℕ → List Lexeme → Diag → Type 0
IsCutShort file lexemes diag =
    (left : List Lexeme) × LongestRun topdecs End.refused lexemes left × (diag ≡ refusal file lexemes left)

-- The last lexeme of the run opens a level too many: 12 on the file.
abbrev pub IsTooDeep : List ℕ → List Lexeme → Diag → Type 0
IsTooDeep file lexemes diag =
    (left : List Lexeme) × LongestRun topdecs End.deep lexemes left × (diag ≡ whole_file 12 file)

-- The run is a whole unit, and a lexeme stands behind it: 21 at that lexeme where it begins a declaration of the core,
-- and else 20.
abbrev pub IsBehindUnit : List ℕ → List Lexeme → Diag → Type 0
IsBehindUnit file lexemes diag =
    (unit : Tall (List FullTopDec)) × (x : Lexeme) × (left : List Lexeme)
    × LongestRun topdecs (End.whole unit) lexemes (x ∷ left) × (diag ≡ top_refusal file x)

-- The first diagnostic of a source: that of its size, or else the first of its lexemes', or else the first of its
-- grammar's.
abbrev pub IsFirstDiagnostic : List ℕ → List ℕ → Diag → Type 0
IsFirstDiagnostic file source diag =
    (lexemes_of file source ≡ Err diag)
    ⊎ ((lexemes : List Lexeme) × (lexemes_of file source ≡ Ok lexemes)
    × (IsCutShort file lexemes diag ⊎ (IsTooDeep file lexemes diag ⊎ IsBehindUnit file lexemes diag)))
