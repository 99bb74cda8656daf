-- What declarations bind besides values and functions: types, datatypes, exceptions, the contents of structures and
-- infix status (The Definition of Standard ML, sections 2.8 and 2.9, appendix B), in the order of the printed grammar:
--
--     tyvars  = [ tyvar | "(" tyvar { "," tyvar } ")" ]
--     typbind = tyvars tycon "=" ty
--     datbind = tyvars tycon "=" conbind { "|" conbind }
--     conbind = [ "op" ] vid [ "of" ty ]
--     exbind  = [ "op" ] vid [ "of" ty | "=" [ "op" ] longvid ]
--
-- What `datatype`, `exception` and the three declarations of infix status bind may be any name without structures
-- before it, whether it is infix or not. A declaration is read behind its first word, which has its place. What stands
-- in it is one level down: `ty` is a type of one level less than the declaration.
use Rattle.std.specs.Prelude.{ℕ, ◌++◌, ◌==◌, ◌&&◌, ◌||◌, map, Bool, true, false, Option, None, Some, is_some, List, [], ◌∷◌, nat_lt, if◌then◌else◌, ℤ, pos, negsuc}
use Rattle.grammars.specs.Grammar.{◌>>=◌, ◌>>◌}
use Rattle.grammars.specs.Grammar.Grammar.{pure, on}
use Rattle.sml_lexer.specs.declared.lexeme.Lexeme.{Lexeme}
use Rattle.sml_lexer.specs.declared.lexeme.LexemeKind.{LexemeKind}
use Rattle.sml_lexer.specs.declared.lexeme.LexemeKind.TheVariants as k
use Rattle.sml_trees.specs.declared.full_exp.FullDec.{FullDec}
use Rattle.sml_trees.specs.declared.full_exp.FullDec.TheVariants as d
use Rattle.sml_trees.specs.declared.full_pat.Fixity.{Fixity}
use Rattle.sml_trees.specs.declared.full_ty.FullConBind.{FullConBind}
use Rattle.sml_trees.specs.declared.full_ty.FullDatBind.{FullDatBind}
use Rattle.sml_trees.specs.declared.full_ty.FullExBind.{FullExBind}
use Rattle.sml_trees.specs.declared.full_ty.FullExBody.{FullExBody}
use Rattle.sml_trees.specs.declared.full_ty.FullExBody.TheVariants as body
use Rattle.sml_trees.specs.declared.full_ty.FullTy.{FullTy}
use Rattle.sml_trees.specs.declared.full_ty.FullTypBind.{FullTypBind}
use Rattle.sml_trees.specs.declared.name.At.{At}
use Rattle.sml_trees.specs.declared.name.Name.{Name}
use Rattle.infix_names.specs.Fixities.{Fixities}
use Rattle.phrase_reading.specs.Sized.{leaf, over, part, one, more, further, maybe}
use Rattle.phrase_reading.specs.Words.{g, long_named, name, tycon, token}
use Rattle.phrase_reading.specs.declared.tall.Tall.{Tall}
use Rattle.sml_lexer.specs.declared.words.Word.TheVariants as w
use Rattle.phrase_reading.specs.Names.{either, flat, if_mark, names, op_long, op_name, short_tycon, strid, strid_of, taken_from, tyvars}
use Rattle.core_bindings.specs.Decs.{Decs, declares}

-- ---- types

-- tyvars tycon = ty
unfoldable pub typ_bind : g (Tall FullTy) → g (Tall FullTypBind)
typ_bind ty = do
  vars ← tyvars
  called ← short_tycon
  token w.Equals
  inner ← ty
  pure (part (λ ty. record { tyvars = vars; name = called; ty = ty }) inner)

-- type typbind and ..
unfoldable pub type_dec : g (Tall FullTy) → At → g (Tall FullDec)
type_dec ty place = do
  first ← typ_bind ty
  found ← further w.And (typ_bind ty) (one first)
  pure (over (λ binds. d.Types binds place) found)

-- ---- datatypes and exceptions

-- a constructor
unfoldable pub con_bind : g (Tall FullTy) → g (Tall FullConBind)
con_bind ty = do
  called ← op_name
  arg ← maybe w.Of ty
  pure (part (λ arg. record { name = called; arg = arg }) arg)

-- a datatype behind its `=`
unfoldable pub dat_bind_of : g (Tall FullTy) → List Name → Name → g (Tall FullDatBind)
dat_bind_of ty vars called = do
  first ← con_bind ty
  cons ← further w.Bar (con_bind ty) (one first)
  pure (part (λ cons. record { tyvars = vars; name = called; cons = cons }) cons)

-- tyvars tycon = conbind | ..
unfoldable pub dat_bind : g (Tall FullTy) → g (Tall FullDatBind)
dat_bind ty = do
  vars ← tyvars
  called ← short_tycon
  token w.Equals
  dat_bind_of ty vars called

-- datatypes, behind the first `=`
unfoldable pub datatypes : g (Tall FullTy) → At → List Name → Name → g (Tall FullDec)
datatypes ty place vars called = do
  first ← dat_bind_of ty vars called
  found ← further w.And (dat_bind ty) (one first)
  pure (over (λ binds. d.Datatypes binds place) found)

-- a datatype that is another one, behind the second `datatype`
unfoldable pub replication : At → Name → g (Tall FullDec)
replication place called = do
  original ← tycon
  pure (leaf (d.Replication called original place))

abbrev pub has_none : {A : Type 0} → List A → Bool
has_none [] = true
has_none (found ∷ more) = false

-- behind the first `=`: without type variables it may be a replication
unfoldable pub datatype_from : g (Tall FullTy) → At → List Name → Name → g (Tall FullDec)
datatype_from ty place vars called =
    either (has_none vars) (if_mark w.Datatype (replication place called) (datatypes ty place vars called))
    (datatypes ty place vars called)

-- datatype datbind and .., and datatype tycon = datatype longtycon
unfoldable pub datatype_dec : g (Tall FullTy) → At → g (Tall FullDec)
datatype_dec ty place = do
  vars ← tyvars
  called ← short_tycon
  token w.Equals
  datatype_from ty place vars called

-- what stands behind the name of an exception
unfoldable pub ex_body : g (Tall FullTy) → g (Tall FullExBody)
ex_body ty =
    if_mark w.Of (ty >>= λ inner. pure (part body.Of inner))
    (if_mark w.Equals (op_long >>= λ original. pure (flat (body.Copy original))) (pure (flat body.Plain)))

unfoldable pub ex_bind : g (Tall FullTy) → g (Tall FullExBind)
ex_bind ty = do
  called ← op_name
  body ← ex_body ty
  pure (part (λ body. record { name = called; body = body }) body)

-- exception exbind and ..
unfoldable pub exception_dec : g (Tall FullTy) → At → g (Tall FullDec)
exception_dec ty place = do
  first ← ex_bind ty
  found ← further w.And (ex_bind ty) (one first)
  pure (over (λ binds. d.Exceptions binds place) found)

-- ---- open

-- open longstrid ..
unfoldable pub open_dec : At → g (Tall FullDec)
open_dec place = do
  first ← strid
  found ← taken_from strid_of long_named (first ∷ [])
  pure (leaf (d.Open found place))

-- ---- infix status

-- the strength that a number stands for: 1 to 9 in decimal digits alone, or a zero
abbrev pub digit_value : ℤ → Bool → Option ℕ
digit_value (pos n) label = if (n == 0) || (label && nat_lt n 10) then Some n else None
digit_value (negsuc n) label = None

abbrev pub digit_in : LexemeKind → Option ℕ
digit_in (k.Reserved text) = None
digit_in (k.Name parts) = None
digit_in (k.TyVar text) = None
digit_in (k.Int value label) = digit_value value label
digit_in (k.Str text) = None
digit_in (k.Char byte) = None

-- the strength that a lexeme is, if it is one
abbrev pub digit_of : Lexeme → Option ℕ
digit_of x = digit_in x.kind

abbrev pub next_digit : Option Lexeme → Option ℕ
next_digit None = None
next_digit (Some x) = digit_of x

-- [ digit ]
unfoldable pub digit : g (Option ℕ)
digit = on (λ x. is_some (digit_of x)) (λ x. pure (digit_of x)) (pure None)

abbrev pub strength_of : Option ℕ → ℕ
strength_of None = 0
strength_of (Some strength) = strength

-- how names bind from here on
abbrev pub declared : Option Fixity → List Name → Fixities → Fixities
declared fixity names fs = fs ++ map (λ called. record { name = called.text; fixity = fixity }) names

abbrev pub infix_tree : Bool → Option ℕ → List Name → At → FullDec
infix_tree true digit names place = d.Infixr digit names place
infix_tree false digit names place = d.Infix digit names place

-- infix [ digit ] vid .. and infixr [ digit ] vid ..
unfoldable pub infix_dec : Fixities → At → Bool → g (Decs FullDec)
infix_dec fs place right = do
  strength ← digit
  found ← names
  pure (declares (leaf (infix_tree right strength found place))
      (declared (Some (record { strength = strength_of strength; right = right })) found fs))

-- nonfix vid ..
unfoldable pub nonfix_dec : Fixities → At → g (Decs FullDec)
nonfix_dec fs place = do
  found ← names
  pure (declares (leaf (d.Nonfix found place)) (declared None found fs))
