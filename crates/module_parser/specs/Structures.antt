-- Structure expressions and the declarations in structures (The Definition of Standard ML, figure 5 and appendix A), in
-- the order of the printed grammar:
--
--     strexp  = atstr { ":" sigexp | ":>" sigexp }
--     atstr   = "struct" strdec "end" | longstrid | funid "(" strexp ")" | funid "(" strdec ")"
--             | "let" strdec "in" strexp "end"
--     strdec  = { dec | "structure" strbind { "and" strbind } | "local" strdec "in" strdec "end" | ";" }
--     strbind = strid [ ":" sigexp | ":>" sigexp ] "=" strexp
--
-- `dec` is a declaration of the core. Each structure expression and each declaration is a level, also a structure with a
-- signature around that before it: the mark before a signature makes what stands before it a part, which the limit
-- has to allow.
--
-- Declarations of infix status hold for the text behind them, up to the end of the `struct`, of the `let` or of the
-- functor's argument in which they stand. Those before the `in` of a `local` end with it; those behind its `in` hold
-- on.
--
-- What stands behind the parenthesis of a functor is a structure expression where it begins with `struct`, `let` or a
-- name, and declarations, of which there may be none, where it begins otherwise.
use Rattle.std.specs.Prelude.{ℕ, zero, suc, ◌+◌, ◌-◌, ◌++◌, ◌||◌, ◌&&◌, not, max, length, map, Bool, true, false, Option, None, Some, is_some, List, [], ◌∷◌, if◌then◌else◌}
use Rattle.grammars.specs.Grammar.{Grammar, ◌>>=◌, ◌>>◌}
use Rattle.grammars.specs.Grammar.Grammar.{pure, refuse, on, many, within}
use Rattle.sml_lexer.specs.declared.lexeme.Lexeme.{Lexeme}
use Rattle.sml_trees.specs.declared.full_exp.FullDec.{FullDec}
use Rattle.sml_trees.specs.declared.full_str.FullStrDec.{FullStrDec}
use Rattle.sml_trees.specs.declared.full_str.FullStrDec.TheVariants as d
use Rattle.sml_trees.specs.declared.full_str.FullStrBind.{FullStrBind, roll-FullStrBind}
use Rattle.sml_trees.specs.declared.full_str.FullStrExp.{FullStrExp}
use Rattle.sml_trees.specs.declared.full_str.FullStrExp.TheVariants as t
use Rattle.sml_trees.specs.declared.full_sig.FullSeal.{FullSeal}
use Rattle.sml_trees.specs.declared.full_sig.FullSigExp.{FullSigExp}
use Rattle.sml_trees.specs.declared.name.At.{At}
use Rattle.sml_trees.specs.declared.name.Name.{Name}
use Rattle.core_bindings.specs.Decs.{declares}
use Rattle.phrase_reading.specs.Names.{either, if_mark, if_marked, flat, strid_of}
use Rattle.core_bindings.specs.Decs.{plain, with_dec}
use Rattle.expression_parts.specs.ExpStarts.{starts_dec_word}
use Rattle.infix_names.specs.Fixities.{Fixities, left_over}
use Rattle.core_bindings.specs.Decs.{Decs}
use Rattle.phrase_reading.specs.Sized.{opened}
use Rattle.core_expressions.specs.Levels.{level}
use Rattle.phrase_reading.specs.Sized.{leaf, over, part, lower}
use Rattle.phrase_reading.specs.Words.{g, is, word, at, named, long_named, made, token}
use Rattle.phrase_reading.specs.declared.tall.Tall.{Tall}
use Rattle.sml_lexer.specs.declared.words.Word.{Word}
use Rattle.sml_lexer.specs.declared.words.Word.TheVariants as w
use Rattle.signature_parser.specs.Joined.{module_name_of, apart, alone, joined_over, bindings}
use Rattle.signature_parser.specs.SigLevels.{sig_level}
use Rattle.signature_parser.specs.declared.joined.Joined.{Joined}

-- the phrases of structures that nest at most so deep
pub record StrLevel : Type 1 where
  -- a structure expression, behind its first lexeme
  pub str_after : Fixities → Lexeme → g (Joined FullStrExp)
  -- declarations and semicolons, none or more
  pub decs : Fixities → g (Decs FullStrDec)
  -- declarations and semicolons from this first lexeme on, behind it
  pub decs_behind : Fixities → Lexeme → g (Decs FullStrDec)

-- whether a structure expression begins with the lexeme
abbrev pub starts_str : Lexeme → Bool
starts_str x = is w.Struct x || (is w.Let x || is_some (strid_of x))

abbrev pub if_str : Bool → Lexeme → Option Lexeme
if_str true x = Some x
if_str false x = None

-- the next lexeme, if a structure expression begins with it
abbrev pub next_str : Option Lexeme → Option Lexeme
next_str None = None
next_str (Some x) = if_str (starts_str x) x

-- whether a declaration begins with this word, or it is a semicolon
abbrev pub is_str_round : Option Word → Bool
is_str_round (Some w.Structure) = true
is_str_round (Some w.Semicolon) = true
is_str_round found = starts_dec_word found

-- no declarations
abbrev pub no_str_decs : Fixities → Decs FullStrDec
no_str_decs fs = record { decs = []; fixities = fs; height = 0 }

-- a structure expression
abbrev pub str : StrLevel → Fixities → g (Joined FullStrExp)
str parts fs = on starts_str (parts.str_after fs) refuse

-- ---- signatures that structures are given

abbrev pub seal : Bool → At → FullSigExp → Option FullSeal
seal opaque place sig = Some (record { opaque = opaque; sig = sig; at = place })

-- the signature behind this mark
unfoldable pub seal_behind : g (Joined FullSigExp) → Bool → Lexeme → g (Tall (Option FullSeal))
seal_behind sig opaque x = do
  found ← alone sig
  pure (part (seal opaque (at x)) found)

-- [ : sigexp | :> sigexp ] before the `=` of a binding
unfoldable pub maybe_seal : g (Joined FullSigExp) → g (Tall (Option FullSeal))
maybe_seal sig =
    if_marked w.Colon (seal_behind sig false) (if_marked w.Seal (seal_behind sig true) (pure (flat None)))

-- strid [ : sigexp | :> sigexp ] = strexp, behind the name, over parts of so many levels
unfoldable pub str_bind : ℕ → StrLevel → Fixities → Name → g (Joined FullStrBind)
str_bind n parts fs called = do
  given ← maybe_seal (sig_level n).sig
  token w.Equals
  body ← str parts fs
  pure (record {
    made = record {
      tree = roll-FullStrBind (record { name = called; seal = given.tree; body = body.made.tree });
      height = max given.height body.made.height;
    };
    joined = body.joined;
  })

-- ---- structure expressions

-- struct strdec end, behind `struct`
unfoldable pub struct_str : StrLevel → Fixities → At → g (Tall FullStrExp)
struct_str parts fs place = do
  inner ← parts.decs fs
  token w.End
  pure (record { tree = t.Struct inner.decs place; height = inner.height + 1 })

-- let strdec in strexp end, behind `let`
unfoldable pub let_str : StrLevel → Fixities → At → g (Tall FullStrExp)
let_str parts fs place = do
  inner ← parts.decs fs
  token w.In
  body ← alone (str parts inner.fixities)
  token w.End
  pure (record { tree = t.Within inner.decs body.tree place; height = max inner.height body.height + 1 })

-- funid ( strexp ), where the strexp is this one
unfoldable pub of_str : g (Joined FullStrExp) → Name → At → g (Tall FullStrExp)
of_str argument called place = do
  found ← alone argument
  token w.Close
  pure (over (λ (argument : FullStrExp). t.Functor called argument place) found)

-- funid ( strdec ), where these are the declarations and they begin there
unfoldable pub of_decs : g (Decs FullStrDec) → Name → At → At → g (Tall FullStrExp)
of_decs decs called begin place = do
  inner ← decs
  token w.Close
  pure (record { tree = t.FunctorOfDecs called inner.decs begin place; height = inner.height + 1 })

-- where what an argument holds begins: at this lexeme, or at the functor where there is nothing
abbrev pub first_at : Option Lexeme → At → At
first_at (Some x) functor = at x
first_at None functor = functor

-- funid ( strdec ), behind the parenthesis: the declarations begin at their first lexeme, which may be a semicolon
unfoldable pub of_strdec : StrLevel → Fixities → Name → At → g (Tall FullStrExp)
of_strdec parts fs called place =
    on (λ x. is_str_round (word x)) (λ x. of_decs (parts.decs_behind fs x) called (first_at (Some x) place) place)
    (of_decs (pure (no_str_decs fs)) called (first_at None place) place)

-- a functor's argument, behind the parenthesis
unfoldable pub argument : StrLevel → Fixities → Name → At → g (Tall FullStrExp)
argument parts fs called place =
    on starts_str (λ x. of_str (parts.str_after fs x) called place) (of_strdec parts fs called place)

abbrev pub str_name : Lexeme → List (List ℕ) → Tall FullStrExp
str_name x parts = leaf (t.Named (long_named x parts) (at x))

-- what begins with a name: where it has no structures before it, it may be a functor's
abbrev pub str_named : StrLevel → Fixities → Lexeme → Option (List ℕ) → g (Tall FullStrExp)
str_named parts fs x None = made (str_name x) (strid_of x)
str_named parts fs x (Some text) =
    if_mark w.Open (argument parts fs (named x text) (at x)) (pure (str_name x (text ∷ [])))

-- a structure expression without a signature behind it, behind its first lexeme
abbrev pub str_atom : StrLevel → Fixities → Lexeme → g (Tall FullStrExp)
str_atom parts fs x =
    either (is w.Struct x) (struct_str parts fs (at x))
    (either (is w.Let x) (let_str parts fs (at x)) (str_named parts fs x (module_name_of x)))

-- whether the lexeme is the mark before a signature that a structure is given
abbrev pub is_seal : Lexeme → Bool
is_seal x = is w.Colon x || is w.Seal x

-- whether a structure expression goes on with this mark, which it may where no `and` was taken behind it
abbrev pub seals_on : Bool → Lexeme → Bool
seals_on joined x = not joined && is_seal x

abbrev pub if_seal : Bool → Lexeme → Option Lexeme
if_seal true x = Some x
if_seal false x = None

-- the mark with which a structure expression goes on, if it stands next
abbrev pub next_seal : Bool → Option Lexeme → Option Lexeme
next_seal joined None = None
next_seal joined (Some x) = if_seal (seals_on joined x) x

abbrev pub sealed_tree : Bool → At → FullStrExp → FullSigExp → FullStrExp
sealed_tree true place body sig = t.Opaque body sig place
sealed_tree false place body sig = t.Transparent body sig place

-- a structure with the signature behind the mark
unfoldable pub sealed_of : g (Joined FullSigExp) → At → Tall FullStrExp → Bool → g (Joined FullStrExp)
sealed_of sig place left opaque = do
  found ← sig
  pure (joined_over (sealed_tree opaque place) left found)

-- behind the mark: what stands before it becomes a part of one with so many levels
unfoldable pub seal_of : ℕ → g (Joined FullSigExp) → At → Tall FullStrExp → Lexeme → g (Joined FullStrExp)
seal_of n sig place left x = lower n left (sealed_of sig place left (is w.Seal x))

-- none, one or more signatures, around what stands before them
unfoldable pub seals : ℕ → g (Joined FullSigExp) → At → Joined FullStrExp → g (Joined FullStrExp)
seals n sig place left = many (λ left x. seals_on left.joined x) (λ left x. seal_of n sig place left.made x) left

-- a structure expression of so many levels, of which its first lexeme opened one, behind that lexeme
unfoldable pub str_within : ℕ → StrLevel → Fixities → Lexeme → g (Joined FullStrExp)
str_within n parts fs x = do
  first ← str_atom parts fs x
  seals n (sig_level (n - 1)).sig (at x) (apart first)

-- a structure expression behind its first lexeme, with so many levels left
abbrev pub str_behind : ℕ → StrLevel → Fixities → Lexeme → g (Joined FullStrExp)
str_behind n parts fs x = opened n (str_within n parts fs x)

-- ---- declarations

-- structure strbind and ..
unfoldable pub structures : ℕ → StrLevel → Fixities → At → g (Tall FullStrDec)
structures n parts fs place = do
  found ← bindings (str_bind n parts fs)
  pure (over (λ (binds : List FullStrBind). d.Structures binds place) found)

-- local strdec in strdec end
unfoldable pub local_str : StrLevel → Fixities → At → g (Decs FullStrDec)
local_str parts fs place = do
  hidden ← parts.decs fs
  token w.In
  shown ← parts.decs hidden.fixities
  token w.End
  pure (declares (record { tree = d.Local hidden.decs shown.decs place; height = max hidden.height shown.height + 1 })
      (left_over (length fs) (length hidden.fixities) shown.fixities))

-- declarations of the core as declarations in a structure, of the same levels
abbrev pub of_core : Decs FullDec → Decs FullStrDec
of_core found = record { decs = map d.Core found.decs; fixities = found.fixities; height = found.height }

-- a declaration of the core with at most so many levels, behind its first word
unfoldable pub core_dec : ℕ → Fixities → Lexeme → g (Decs FullStrDec)
core_dec n fs x = do
  found ← (level n).dec fs x
  pure (of_core found)

-- A declaration of so many levels, of which its first word opened one, behind that word. A `local` here is always one
-- of structures, which may declare structures on both sides.
abbrev pub str_dec_word : ℕ → StrLevel → Fixities → Lexeme → Option Word → g (Decs FullStrDec)
str_dec_word n parts fs x (Some w.Structure) = plain fs (structures (n - 1) parts fs (at x))
str_dec_word n parts fs x (Some w.Local) = local_str parts fs (at x)
str_dec_word n parts fs x _ = core_dec n fs x

-- a declaration behind its first word, with so many levels left
abbrev pub str_dec_of : ℕ → StrLevel → Fixities → Lexeme → g (Decs FullStrDec)
str_dec_of n parts fs x = opened n (str_dec_word n parts fs x (word x))

-- one more declaration
unfoldable pub next_str_dec : ℕ → StrLevel → Decs FullStrDec → Lexeme → g (Decs FullStrDec)
next_str_dec n parts found x = do
  next ← str_dec_of n parts found.fixities x
  pure (with_dec found next)

-- one more declaration behind its first word, or nothing behind a semicolon
abbrev pub str_round : ℕ → StrLevel → Decs FullStrDec → Lexeme → g (Decs FullStrDec)
str_round n parts found x = either (is w.Semicolon x) (pure found) (next_str_dec n parts found x)

-- further declarations and semicolons
unfoldable pub str_decs_from : ℕ → StrLevel → Decs FullStrDec → g (Decs FullStrDec)
str_decs_from n parts found = many (λ _ x. is_str_round (word x)) (str_round n parts) found

-- declarations and semicolons, none or more
abbrev pub str_decs_of : ℕ → StrLevel → Fixities → g (Decs FullStrDec)
str_decs_of n parts fs = str_decs_from n parts (no_str_decs fs)

-- declarations and semicolons from this first lexeme on, behind it
unfoldable pub str_decs_behind : ℕ → StrLevel → Fixities → Lexeme → g (Decs FullStrDec)
str_decs_behind n parts fs x = do
  first ← str_round n parts (no_str_decs fs) x
  str_decs_from n parts first
