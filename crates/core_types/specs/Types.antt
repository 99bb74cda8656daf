-- The grammar of types (The Definition of Standard ML, figure 3 and appendix A), with its parts named as a grammar is
-- printed:
--
--     ty    = tuple [ "->" ty ]
--     tuple = part { "*" part }
--     part  = atom { longtycon }
--     atom  = tyvar | longtycon | "{" [ label ":" ty { "," label ":" ty } ] "}"
--           | "(" ty ")" | "(" ty "," ty { "," ty } ")" longtycon
--
-- Each node of the tree is a level. What stands in brackets, beside a `*` and behind a `->` is one level down. What
-- stands before a `*`, a `->` or a type constructor becomes a part there, which the limit has to allow.
use Rattle.std.specs.Prelude.{ℕ, zero, suc, Bool, true, false, List, [], Option, Some, is_some}
use Rattle.sml_lexer.specs.declared.lexeme.Lexeme.{Lexeme}
use Rattle.sml_lexer.specs.declared.lexeme.LexemeKind.{LexemeKind}
use Rattle.sml_lexer.specs.declared.lexeme.LexemeKind.TheVariants as k
use Rattle.sml_trees.specs.declared.name.At.{At}
use Rattle.sml_trees.specs.declared.name.LongName.{LongName}
use Rattle.sml_trees.specs.declared.full_ty.FullTy.{FullTy}
use Rattle.sml_trees.specs.declared.full_ty.FullTy.TheVariants as t
use Rattle.sml_trees.specs.declared.full_ty.FullTyField.{FullTyField, roll-FullTyField}
use Rattle.grammars.specs.Grammar.{fold, ◌>>=◌, ◌>>◌}
use Rattle.grammars.specs.Grammar.Grammar.{pure, refuse, on, many, within}
use Rattle.phrase_reading.specs.Words.{g, is, is_tycon, is_star, tycon_of, tycon_parts, made, label, tycon, token, at, named, long_named}
use Rattle.sml_lexer.specs.Words.{word_of}
use Rattle.phrase_reading.specs.Sized.{leaf, over, over_two, part, one, more, lower, further}
use Rattle.sml_lexer.specs.declared.words.Word.{Word}
use Rattle.sml_lexer.specs.declared.words.Word.TheVariants as w
use Rattle.phrase_reading.specs.declared.tall.Tall.{Tall}

-- the phrases that nest at most so many levels
pub record TyLevel : Type 1 where
  -- a type
  pub ty : g (Tall FullTy)
  -- what stands beside a `*`
  pub part : g (Tall FullTy)

-- whether a type begins with the reserved word or mark
abbrev pub starts_ty_word : Option Word → Bool
starts_ty_word (Some w.Open) = true
starts_ty_word (Some w.OpenBrace) = true
starts_ty_word _ = false

abbrev pub starts_ty_kind : LexemeKind → Bool
starts_ty_kind (k.Reserved text) = starts_ty_word (word_of text)
starts_ty_kind (k.Name parts) = is_some (tycon_parts parts)
starts_ty_kind (k.TyVar text) = true
starts_ty_kind (k.Int value ok) = false
starts_ty_kind (k.Str text) = false
starts_ty_kind (k.Char byte) = false

-- whether a type begins with the lexeme
abbrev pub starts_ty : Lexeme → Bool
starts_ty x = starts_ty_kind x.kind

-- ---- atoms

-- a field of a record type
unfoldable pub field : g (Tall FullTy) → g (Tall FullTyField)
field ty = do
  called ← label
  token w.Colon
  inner ← ty
  pure (part (λ (ty : FullTy). roll-FullTyField (record { label = called; ty = ty })) inner)

-- the fields of a record type, and its closing brace
unfoldable pub fields_of : g (Tall FullTy) → At → g (Tall FullTy)
fields_of ty place = do
  first ← field ty
  fields ← further w.Comma (field ty) (one first)
  token w.CloseBrace
  pure (over (λ (fields : List FullTyField). t.Record fields place) fields)

-- a record type behind its brace, at a place
unfoldable pub record_of : g (Tall FullTy) → At → g (Tall FullTy)
record_of ty place = on (is w.CloseBrace) (λ _. pure (leaf (t.Record [] place))) (fields_of ty place)

-- behind the comma after the first of several types in parentheses: the other ones, and the type constructor that takes them
unfoldable pub applied_all : g (Tall FullTy) → At → Tall FullTy → g (Tall FullTy)
applied_all ty place first = do
  second ← ty
  args ← further w.Comma ty (more (one first) second)
  token w.Close
  long ← tycon
  pure (over (λ (args : List FullTy). t.AppliedAll args long place) args)

-- behind the first type in parentheses
unfoldable pub behind_first : g (Tall FullTy) → At → Tall FullTy → g (Tall FullTy)
behind_first ty place first =
    on (is w.Comma) (λ _. applied_all ty place first)
    (do
      token w.Close
      pure (over (λ (ty : FullTy). t.Paren ty place) first))

-- what begins with a parenthesis, behind it
unfoldable pub in_parens : g (Tall FullTy) → At → g (Tall FullTy)
in_parens ty place = do
  first ← ty
  behind_first ty place first

abbrev pub atom_word : g (Tall FullTy) → Lexeme → Option Word → g (Tall FullTy)
atom_word ty x (Some w.Open) = in_parens ty (at x)
atom_word ty x (Some w.OpenBrace) = record_of ty (at x)
atom_word ty x _ = refuse

abbrev pub atom_kind : g (Tall FullTy) → Lexeme → LexemeKind → g (Tall FullTy)
atom_kind ty x (k.Reserved text) = atom_word ty x (word_of text)
atom_kind ty x (k.Name parts) = pure (leaf (t.Con (long_named x parts) (at x)))
atom_kind ty x (k.TyVar text) = pure (leaf (t.Var (named x text) (at x)))
atom_kind ty x (k.Int value ok) = refuse
atom_kind ty x (k.Str text) = refuse
atom_kind ty x (k.Char byte) = refuse

-- an atom behind its first lexeme
abbrev pub atom_after : g (Tall FullTy) → Lexeme → g (Tall FullTy)
atom_after ty x = atom_kind ty x x.kind

-- ---- what goes on from there

-- a type constructor behind its one argument
abbrev pub apply : At → Tall FullTy → LongName → Tall FullTy
apply place left long = over (λ (ty : FullTy). t.Applied ty long place) left

-- one more type constructor, whose argument stands before it, behind its lexeme
abbrev pub constructor_after : ℕ → At → Tall FullTy → Lexeme → g (Tall FullTy)
constructor_after levels place left x =
    lower levels left (made (λ parts. apply place left (long_named x parts)) (tycon_of x))

-- one more type constructor, whose argument stands before it
unfoldable pub constructor : ℕ → At → Tall FullTy → g (Tall FullTy)
constructor levels place left = on is_tycon (constructor_after levels place left) refuse

-- type constructors behind their one argument, with so many levels
unfoldable pub applied : ℕ → At → Tall FullTy → g (Tall FullTy)
applied levels place left = many (λ _ x. is_tycon x) (constructor_after levels place) left

-- what stands beside a `*`, behind its first lexeme
unfoldable pub part_after : ℕ → g (Tall FullTy) → Lexeme → g (Tall FullTy)
part_after levels ty x = do
  atom ← atom_after ty x
  applied levels (at x) atom

-- further parts of a tuple, each behind a `*`
unfoldable pub starred : g (Tall FullTy) → Tall (List FullTy) → g (Tall (List FullTy))
starred part found = fold is_star (λ _. part) more found

-- behind the first `*` of a tuple
unfoldable pub tuple_of : g (Tall FullTy) → At → Tall FullTy → g (Tall FullTy)
tuple_of part place first = do
  second ← part
  parts ← starred part (more (one first) second)
  pure (over (λ (parts : List FullTy). t.Tuple parts place) parts)

-- a tuple type, or the first part alone
unfoldable pub tuple : ℕ → g (Tall FullTy) → At → Tall FullTy → g (Tall FullTy)
tuple levels part place first = on is_star (λ _. lower levels first (tuple_of part place first)) (pure first)

-- the result of an arrow, behind the mark
unfoldable pub arrow_of : g (Tall FullTy) → At → Tall FullTy → g (Tall FullTy)
arrow_of ty place left = do
  right ← ty
  pure (over_two (λ (left right : FullTy). t.Arrow left right place) left right)

-- an arrow, or what stands before it alone
unfoldable pub arrow : ℕ → g (Tall FullTy) → At → Tall FullTy → g (Tall FullTy)
arrow levels ty place left = on (is w.Arrow) (λ _. lower levels left (arrow_of ty place left)) (pure left)

-- a type behind its first lexeme
unfoldable pub ty_after : ℕ → TyLevel → Lexeme → g (Tall FullTy)
ty_after levels below x = do
  first ← part_after levels below.ty x
  left ← tuple levels below.part (at x) first
  arrow levels below.ty (at x) left

-- ---- levels

-- the phrases with so many levels, over those with one less
abbrev pub level_of : ℕ → TyLevel → TyLevel
level_of levels below = record {
  ty = on starts_ty (ty_after levels below) refuse;
  part = on starts_ty (part_after levels below.ty) refuse;
}

-- where no level is left, whatever begins a type is one too many
abbrev pub no_level : TyLevel
no_level = record {
  ty = on starts_ty (λ _. within false refuse) refuse;
  part = on starts_ty (λ _. within false refuse) refuse;
}

unfoldable pub ty_level : ℕ → TyLevel
ty_level zero = no_level
ty_level (suc n) = level_of (suc n) (ty_level n)

-- a type that nests at most so many levels
abbrev pub ty : ℕ → g (Tall FullTy)
ty levels = (ty_level levels).ty
