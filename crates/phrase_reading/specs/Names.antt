-- Names and type variables, and the parts of productions that many share (The Definition of Standard ML, section 2.4
-- and appendix B):
--
--     tyvars  = [ tyvar | "(" tyvar { "," tyvar } ")" ]
--
-- What a declaration of names binds may be any name without structures before it, whether it is infix or not.
use Rattle.std.specs.Prelude.{ℕ, ◌++◌, Bool, true, false, Option, None, Some, is_some, List, [], ◌∷◌, if◌then◌else◌, ◌+◌}
use Rattle.grammars.specs.Grammar.{fold, ◌>>=◌, ◌>>◌, expect}
use Rattle.grammars.specs.Grammar.Grammar.{pure, on}
use Rattle.cm_base.specs.ByteClasses.{is_letter}
use Rattle.sml_lexer.specs.declared.lexeme.Lexeme.{Lexeme}
use Rattle.sml_trees.specs.declared.full_ty.OpLong.{OpLong}
use Rattle.sml_trees.specs.declared.full_ty.OpName.{OpName}
use Rattle.sml_trees.specs.declared.name.LongName.{LongName}
use Rattle.sml_trees.specs.declared.name.Name.{Name}
use Rattle.phrase_reading.specs.Words.{g, is, name_of, long_of, tyvar_of, is_star_text, last_part, if_not, and_then, named, long_named, made, taken, name, tyvar, long, token}
use Rattle.phrase_reading.specs.declared.tall.Tall.{Tall}
use Rattle.sml_lexer.specs.declared.words.Word.{Word}
use Rattle.sml_lexer.specs.declared.words.Word.TheVariants as w

-- ---- parts of productions

-- the first where it is so, and else the second
abbrev pub either : {A : Type 0} → Bool → g A → g A → g A
either true go or = go
either false go or = or

-- behind this mark the first, and the second where it doesn't stand
unfoldable pub if_mark : {A : Type 0} → Word → g A → g A → g A
if_mark mark go or = on (is mark) (λ _. go) or

-- behind this mark what goes on from it, and the second where it doesn't stand
unfoldable pub if_marked : {A : Type 0} → Word → (Lexeme → g A) → g A → g A
if_marked mark go or = on (is mark) go or

abbrev pub if_is : Word → Lexeme → Bool → Option Lexeme
if_is mark x true = Some x
if_is mark x false = None

-- the lexeme that this mark is, if it stands next
abbrev pub marked : Word → Option Lexeme → Option Lexeme
marked mark None = None
marked mark (Some x) = if_is mark x (is mark x)

-- what is known of a lexeme, and what goes on from there; the second where nothing is
unfoldable pub if_taken : {A B C : Type 0} → (Lexeme → Option A) → (Lexeme → A → B) → (B → g C) → g C → g C
if_taken what make go or = on (λ x. is_some (what x)) (λ x. made (make x) (what x) >>= go) or

-- one more
abbrev pub and_one : {A : Type 0} → List A → A → List A
and_one found next = found ++ next ∷ []

-- further lexemes of which it is known
unfoldable pub taken_from : {A B : Type 0} → (Lexeme → Option A) → (Lexeme → A → B) → List B → g (List B)
taken_from what make found = fold (λ x. is_some (what x)) (λ x. made (make x) (what x)) and_one found

-- what is no level and has none in it
abbrev pub flat : {A : Type 0} → A → Tall A
flat tree = record { tree = tree; height = 0 }

-- ---- names and type variables

abbrev pub short_tycon_text : List ℕ → Option (List ℕ)
short_tycon_text text = if_not (is_star_text text) text

-- the type constructor without structures before it that a lexeme is, if it is one
abbrev pub short_tycon_of : Lexeme → Option (List ℕ)
short_tycon_of x = and_then short_tycon_text (name_of x)

-- a type constructor without structures before it
abbrev pub short_tycon : g Name
short_tycon = taken short_tycon_of named

abbrev pub begins_with_letter : List ℕ → Bool
begins_with_letter [] = false
begins_with_letter (byte ∷ text) = is_letter byte

abbrev pub strid_parts : List (List ℕ) → Option (List (List ℕ))
strid_parts parts = if begins_with_letter (last_part parts) then Some parts else None

-- the name of a structure that a lexeme is, if it is one: names of structures are no symbols
abbrev pub strid_of : Lexeme → Option (List (List ℕ))
strid_of x = and_then strid_parts (long_of x)

-- the name of a structure
abbrev pub strid : g LongName
strid = taken strid_of long_named

-- further type variables, each behind a comma
unfoldable pub tyvars_from : List Name → g (List Name)
tyvars_from found = fold (is w.Comma) (λ _. tyvar) and_one found

-- a list of type variables in parentheses, behind the first
unfoldable pub tyvar_list : Name → g (List Name)
tyvar_list first = do
  found ← tyvars_from (first ∷ [])
  token w.Close
  pure found

-- a type variable, and what goes on from there; the second where none stands
abbrev pub if_tyvar : {A : Type 0} → (Name → g A) → g A → g A
if_tyvar go or = if_taken tyvar_of named go or

-- ( tyvar , .. )
unfoldable pub tyvars_in_parens : g (List Name)
tyvars_in_parens = do
  first ← tyvar
  tyvar_list first

-- no type variable, one, or a list in parentheses
unfoldable pub tyvars : g (List Name)
tyvars = if_tyvar (λ var. pure (var ∷ [])) (if_mark w.Open tyvars_in_parens (pure []))

-- vid, with `op` before it or without
unfoldable pub name_with : Bool → g OpName
name_with op = do
  called ← name
  pure (record { op = op; name = called })

-- [ op ] vid
unfoldable pub op_name : g OpName
op_name = if_mark w.Op (name_with true) (name_with false)

-- longvid, with `op` before it or without
unfoldable pub long_with : Bool → g OpLong
long_with op = do
  called ← long
  pure (record { op = op; long = called })

-- [ op ] longvid
unfoldable pub op_long : g OpLong
op_long = if_mark w.Op (long_with true) (long_with false)

-- ---- infix status

-- vid ..
unfoldable pub names : g (List Name)
names = do
  first ← name
  taken_from name_of named (first ∷ [])

-- ---- first lexemes

-- a lexeme with which a phrase begins
unfoldable pub beginning : (Lexeme → Bool) → g Lexeme
beginning t = expect t
