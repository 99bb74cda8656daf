-- Declarations (The Definition of Standard ML, sections 2.8 and 2.9, appendix B), in the order of the printed grammar:
--
--     decs = { dec | ";" }
--     dec  = "val" tyvars valbind { "and" valbind } | "fun" tyvars function { "and" function }
--          | "type" typbind { "and" typbind } | "datatype" datbind { "and" datbind }
--          | "datatype" tycon "=" "datatype" longtycon | "exception" exbind { "and" exbind }
--          | "local" decs "in" decs "end" | "open" longstrid { longstrid }
--          | "infix" [ digit ] vid { vid } | "infixr" [ digit ] vid { vid } | "nonfix" vid { vid }
--
-- What is bound stands in `Bindings`, functions in `Clauses`.
--
-- Declarations of infix status hold for the text behind them. Those before the `in` of a `local` end with it; those
-- behind its `in` hold on.
--
-- A declaration is read behind its first word, which decides its form, has its place and opens its level. What stands
-- in it is one level down, in `parts`.
use Rattle.std.specs.Prelude.{ℕ, zero, suc, ◌+◌, max, length, Bool, true, false, Option, None, Some, []}
use Rattle.grammars.specs.Grammar.{◌>>=◌, ◌>>◌}
use Rattle.grammars.specs.Grammar.Grammar.{pure, refuse, on, many, within}
use Rattle.sml_lexer.specs.declared.lexeme.Lexeme.{Lexeme}
use Rattle.sml_trees.specs.declared.full_exp.FullDec.{FullDec}
use Rattle.sml_trees.specs.declared.full_exp.FullDec.TheVariants as d
use Rattle.sml_trees.specs.declared.name.At.{At}
use Rattle.core_expressions.specs.Values.{val_dec}
use Rattle.core_bindings.specs.Bindings.{type_dec, datatype_dec, exception_dec, open_dec, infix_dec, nonfix_dec}
use Rattle.core_bindings.specs.Decs.{declares, Decs}
use Rattle.phrase_reading.specs.Names.{either}
use Rattle.core_expressions.specs.Clauses.{fun_dec}
use Rattle.infix_names.specs.Fixities.{Fixities, left_over}
use Rattle.core_expressions.specs.Level.{Level}
use Rattle.core_types.specs.Types.{ty}
use Rattle.phrase_reading.specs.Words.{g, is, word, at, token}
use Rattle.sml_lexer.specs.declared.words.Word.{Word}
use Rattle.sml_lexer.specs.declared.words.Word.TheVariants as w
use Rattle.expression_parts.specs.ExpStarts.{starts_dec_word}
use Rattle.core_bindings.specs.Decs.{plain, with_dec}

-- local decs in decs end
unfoldable pub local_dec : Level → Fixities → At → g (Decs FullDec)
local_dec parts fs place = do
  hidden ← parts.decs fs
  token w.In
  shown ← parts.decs hidden.fixities
  token w.End
  pure (declares (record { tree = d.Local hidden.decs shown.decs place; height = max hidden.height shown.height + 1 })
      (left_over (length fs) (length hidden.fixities) shown.fixities))

-- a declaration behind its first word, over parts of so many levels
abbrev pub dec_word : ℕ → Level → Fixities → At → Option Word → g (Decs FullDec)
dec_word n parts fs place (Some w.Val) = plain fs (val_dec parts fs place)
dec_word n parts fs place (Some w.Fun) = plain fs (fun_dec n parts fs place)
dec_word n parts fs place (Some w.TypeWord) = plain fs (type_dec (ty n) place)
dec_word n parts fs place (Some w.Datatype) = plain fs (datatype_dec (ty n) place)
dec_word n parts fs place (Some w.Exception) = plain fs (exception_dec (ty n) place)
dec_word n parts fs place (Some w.Local) = local_dec parts fs place
dec_word n parts fs place (Some w.OpenWord) = plain fs (open_dec place)
dec_word n parts fs place (Some w.Infix) = infix_dec fs place false
dec_word n parts fs place (Some w.Infixr) = infix_dec fs place true
dec_word n parts fs place (Some w.Nonfix) = nonfix_dec fs place
dec_word n parts fs place _ = refuse

-- a declaration behind its first word, with so many levels left
abbrev pub dec_of : ℕ → Level → Fixities → Lexeme → g (Decs FullDec)
dec_of zero parts fs x = within false refuse
dec_of (suc n) parts fs x = dec_word n parts fs (at x) (word x)

-- ---- sequences

abbrev pub is_round : Option Word → Bool
is_round (Some w.Semicolon) = true
is_round found = starts_dec_word found

abbrev pub if_round : Bool → Lexeme → Option Lexeme
if_round true x = Some x
if_round false x = None

-- the lexeme of one more round, if it stands next
abbrev pub next_round : Option Lexeme → Option Lexeme
next_round None = None
next_round (Some x) = if_round (is_round (word x)) x

-- one more declaration
unfoldable pub next_dec : ℕ → Level → Decs FullDec → Lexeme → g (Decs FullDec)
next_dec n parts found x = do
  next ← dec_of n parts found.fixities x
  pure (with_dec found next)

-- one more declaration behind its first word, or nothing behind a semicolon
abbrev pub round : ℕ → Level → Decs FullDec → Lexeme → g (Decs FullDec)
round n parts found x = either (is w.Semicolon x) (pure found) (next_dec n parts found x)

-- whether one more round begins with the lexeme
abbrev pub starts_round : Lexeme → Bool
starts_round x = is_round (word x)

-- one more round
unfoldable pub one_round : ℕ → Level → Decs FullDec → g (Decs FullDec)
one_round n parts found = on starts_round (round n parts found) refuse

-- further declarations and semicolons
unfoldable pub decs_from : ℕ → Level → Decs FullDec → g (Decs FullDec)
decs_from n parts found = many (λ _ x. starts_round x) (round n parts) found

-- declarations and semicolons, none or more
abbrev pub decs_of : ℕ → Level → Fixities → g (Decs FullDec)
decs_of n parts fs = decs_from n parts (record { decs = []; fixities = fs; height = 0 })
