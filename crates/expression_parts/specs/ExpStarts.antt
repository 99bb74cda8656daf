-- With which lexemes expressions and declarations of the core begin, and with which a run of an expression goes on (The
-- Definition of Standard ML, sections 2.4 to 2.6 and 2.8).
use Rattle.std.specs.Prelude.{ℕ, ◌||◌, Bool, true, false, not, Option, None, Some, is_some, List, [], ◌∷◌}
use Rattle.sml_lexer.specs.declared.lexeme.Lexeme.{Lexeme}
use Rattle.sml_lexer.specs.declared.lexeme.LexemeKind.{LexemeKind}
use Rattle.sml_lexer.specs.declared.lexeme.LexemeKind.TheVariants as k
use Rattle.sml_trees.specs.declared.full_pat.Fixity.{Fixity}
use Rattle.infix_names.specs.Fixities.{Fixities, if_name, clash}
use Rattle.phrase_reading.specs.Words.{word, only}
use Rattle.sml_lexer.specs.Words.{word_of}
use Rattle.sml_lexer.specs.declared.words.Word.{Word}
use Rattle.sml_lexer.specs.declared.words.Word.TheVariants as w

-- ---- first lexemes

-- whether an atomic expression begins with this reserved word or mark
abbrev pub starts_atexp_word : Option Word → Bool
starts_atexp_word (Some w.Op) = true
starts_atexp_word (Some w.OpenBrace) = true
starts_atexp_word (Some w.Open) = true
starts_atexp_word (Some w.OpenBracket) = true
starts_atexp_word (Some w.Let) = true
starts_atexp_word _ = false

abbrev pub starts_atexp_kind : Fixities → LexemeKind → Bool
starts_atexp_kind fs (k.Reserved text) = starts_atexp_word (word_of text)
starts_atexp_kind fs (k.Name parts) = not (is_some (if_name fs (only parts)))
starts_atexp_kind fs (k.TyVar text) = false
starts_atexp_kind fs (k.Int value _) = true
starts_atexp_kind fs (k.Str text) = true
starts_atexp_kind fs (k.Char byte) = true

-- whether an atomic expression begins with the lexeme: not with a name that is infix
abbrev pub starts_atexp : Fixities → Lexeme → Bool
starts_atexp fs x = starts_atexp_kind fs x.kind

-- whether a form that reaches to the right begins with this reserved word
abbrev pub starts_prefix : Option Word → Bool
starts_prefix (Some w.Raise) = true
starts_prefix (Some w.If) = true
starts_prefix (Some w.While) = true
starts_prefix (Some w.Case) = true
starts_prefix (Some w.Fn) = true
starts_prefix _ = false

-- whether an expression begins with the lexeme
abbrev pub starts_exp : Fixities → Lexeme → Bool
starts_exp fs x = starts_prefix (word x) || starts_atexp fs x

-- ---- names in expressions: there `=` is one, which is always infix (The Definition, section 2.4)

abbrev pub if_equals : Option Word → List ℕ → Option (List ℕ)
if_equals (Some w.Equals) text = Some text
if_equals _ text = None

abbrev pub infix_name_in : LexemeKind → Option (List ℕ)
infix_name_in (k.Reserved text) = if_equals (word_of text) text
infix_name_in (k.Name parts) = only parts
infix_name_in (k.TyVar text) = None
infix_name_in (k.Int value _) = None
infix_name_in (k.Str text) = None
infix_name_in (k.Char byte) = None

-- the name that a lexeme is, where it may be infix
abbrev pub infix_name : Lexeme → Option (List ℕ)
infix_name x = infix_name_in x.kind

-- how a lexeme binds as an infix operator of an expression, if it is one
abbrev pub exp_operator : Fixities → Lexeme → Option Fixity
exp_operator fs x = if_name fs (infix_name x)

abbrev pub alone : Option (List ℕ) → Option (List (List ℕ))
alone None = None
alone (Some text) = Some (text ∷ [])

abbrev pub op_parts_in : LexemeKind → Option (List (List ℕ))
op_parts_in (k.Reserved text) = alone (if_equals (word_of text) text)
op_parts_in (k.Name parts) = Some parts
op_parts_in (k.TyVar text) = None
op_parts_in (k.Int value _) = None
op_parts_in (k.Str text) = None
op_parts_in (k.Char byte) = None

-- the parts of the name that a lexeme is, where it may stand behind `op`
abbrev pub op_parts : Lexeme → Option (List (List ℕ))
op_parts x = op_parts_in x.kind

-- ---- runs of applications and infix operators

abbrev pub goes_on_with : Option Fixity → List Fixity → Bool → Bool
goes_on_with None ops starts = starts
goes_on_with (Some f) ops starts = not (clash f ops)

-- whether a run with these operators goes on with the lexeme: an operator that doesn't clash, or an atomic expression
abbrev pub goes_on : Fixities → List Fixity → Lexeme → Bool
goes_on fs ops x = goes_on_with (exp_operator fs x) ops (starts_atexp fs x)

-- ---- first words of declarations

-- whether a declaration begins with this word
abbrev pub starts_dec_word : Option Word → Bool
starts_dec_word (Some w.Val) = true
starts_dec_word (Some w.Fun) = true
starts_dec_word (Some w.TypeWord) = true
starts_dec_word (Some w.Datatype) = true
starts_dec_word (Some w.Exception) = true
starts_dec_word (Some w.Local) = true
starts_dec_word (Some w.OpenWord) = true
starts_dec_word (Some w.Infix) = true
starts_dec_word (Some w.Infixr) = true
starts_dec_word (Some w.Nonfix) = true
starts_dec_word _ = false

-- whether a declaration begins with the lexeme
abbrev pub starts_dec : Lexeme → Bool
starts_dec x = starts_dec_word (word x)
