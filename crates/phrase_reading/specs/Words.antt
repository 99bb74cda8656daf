-- What lexemes are to the grammar: reserved words and marks, names, labels, type variables and constants, and the
-- places of trees.
use Rattle.std.specs.Prelude.{ℕ, Bool, true, false, Option, None, Some, is_some, List, [], ◌∷◌, nat_eq, length, ◌-◌, slice_get, if◌then◌else◌, codes, ℤ, pos, negsuc}
use Rattle.std.specs.Fmt.{decimal}
use Rattle.sml_lexer.specs.Words.{same_word, word_of}
use Rattle.sml_lexer.specs.declared.lexeme.Lexeme.{Lexeme}
use Rattle.sml_lexer.specs.declared.lexeme.LexemeKind.{LexemeKind}
use Rattle.sml_lexer.specs.declared.lexeme.LexemeKind.TheVariants as k
use Rattle.sml_trees.specs.declared.name.At.{At}
use Rattle.sml_trees.specs.declared.name.Name.{Name}
use Rattle.sml_trees.specs.declared.name.LongName.{LongName}
use Rattle.grammars.specs.Grammar.{Grammar}
use lib.Pointwise.{pointwise}
use Rattle.sml_lexer.specs.declared.words.Word.{Word}
use Rattle.phrase_reading.specs.declared.lexemes.Label.{Label}

-- a grammar of phrases of Standard ML
abbrev pub g : Type 0 → Type 1
g A = Grammar Lexeme A

-- ---- reserved words and marks (The Definition of Standard ML, sections 2.1 and 3.1)

abbrev pub word_in : LexemeKind → Option Word
word_in (k.Reserved text) = word_of text
word_in (k.Name parts) = None
word_in (k.TyVar text) = None
word_in (k.Int value ok) = None
word_in (k.Str text) = None
word_in (k.Char byte) = None

-- the reserved word or mark that a lexeme is, if it is one
abbrev pub word : Lexeme → Option Word
word x = word_in x.kind

abbrev pub is_that : Word → Option Word → Bool
is_that w None = false
is_that w (Some found) = same_word found w

-- whether a lexeme is this reserved word or mark
abbrev pub is : Word → Lexeme → Bool
is w x = is_that w (word x)

-- ---- names

-- the one part of a name that has no structures before it
abbrev pub only : {A : Type 0} → List A → Option A
only [] = None
only (part ∷ []) = Some part
only (part ∷ second ∷ parts) = None

-- a text, or none at all
abbrev pub or_empty : Option (List ℕ) → List ℕ
or_empty None = []
or_empty (Some text) = text

-- the last part of a name
abbrev pub last_part : List (List ℕ) → List ℕ
last_part parts = or_empty (slice_get parts (length parts - 1))

abbrev pub name_in : LexemeKind → Option (List ℕ)
name_in (k.Reserved text) = None
name_in (k.Name parts) = only parts
name_in (k.TyVar text) = None
name_in (k.Int value ok) = None
name_in (k.Str text) = None
name_in (k.Char byte) = None

-- the name without structures before it that a lexeme is, if it is one
abbrev pub name_of : Lexeme → Option (List ℕ)
name_of x = name_in x.kind

abbrev pub long_in : LexemeKind → Option (List (List ℕ))
long_in (k.Reserved text) = None
long_in (k.Name parts) = Some parts
long_in (k.TyVar text) = None
long_in (k.Int value ok) = None
long_in (k.Str text) = None
long_in (k.Char byte) = None

-- the parts of the name that a lexeme is, if it is one
abbrev pub long_of : Lexeme → Option (List (List ℕ))
long_of x = long_in x.kind

-- the one name that no type constructor has
unfoldable pub is_star_text : List ℕ → Bool
is_star_text text = pointwise nat_eq text (codes "*")

abbrev pub if_not : {A : Type 0} → Bool → A → Option A
if_not true found = None
if_not false found = Some found

abbrev pub tycon_parts : List (List ℕ) → Option (List (List ℕ))
tycon_parts parts = if_not (is_star_text (last_part parts)) parts

abbrev pub and_then : {A B : Type 0} → (A → Option B) → Option A → Option B
and_then f None = None
and_then f (Some found) = f found

-- the type constructor that a lexeme is, if it is one: any name but `*` (The Definition, section 2.4)
abbrev pub tycon_of : Lexeme → Option (List (List ℕ))
tycon_of x = and_then tycon_parts (long_of x)

abbrev pub is_tycon : Lexeme → Bool
is_tycon x = is_some (tycon_of x)

abbrev pub passes : {A : Type 0} → (A → Bool) → Option A → Bool
passes t None = false
passes t (Some found) = t found

-- whether a lexeme is the mark between the parts of a tuple type
abbrev pub is_star : Lexeme → Bool
is_star x = passes is_star_text (name_of x)

abbrev pub tyvar_in : LexemeKind → Option (List ℕ)
tyvar_in (k.Reserved text) = None
tyvar_in (k.Name parts) = None
tyvar_in (k.TyVar text) = Some text
tyvar_in (k.Int value ok) = None
tyvar_in (k.Str text) = None
tyvar_in (k.Char byte) = None

-- the type variable that a lexeme is, if it is one
abbrev pub tyvar_of : Lexeme → Option (List ℕ)
tyvar_of x = tyvar_in x.kind

-- a number's digits, where the lexer says that it may be a label
abbrev pub digits_of : ℤ → Bool → Option (List ℕ)
digits_of (pos n) true = Some (decimal n)
digits_of (pos n) false = None
digits_of (negsuc n) ok = None

abbrev pub label_in : LexemeKind → Option (List ℕ)
label_in (k.Reserved text) = None
label_in (k.Name parts) = only parts
label_in (k.TyVar text) = None
label_in (k.Int value ok) = digits_of value ok
label_in (k.Str text) = None
label_in (k.Char byte) = None

-- the record label that a lexeme is, if it is one: a name, or a number that the lexer has marked so (The Definition,
-- section 2.4)
abbrev pub label_of : Lexeme → Option (List ℕ)
label_of x = label_in x.kind

-- ---- places

-- where a lexeme begins
abbrev pub at : Lexeme → At
at x = record { line = x.line; col = x.col }

-- a text that stands at a lexeme
abbrev pub named : Lexeme → List ℕ → Name
named x text = record { text = text; line = x.line; col = x.col }

-- a name of these parts that stands at a lexeme
abbrev pub long_named : Lexeme → List (List ℕ) → LongName
long_named x parts = record { parts = parts; line = x.line; col = x.col }

-- ---- parts of productions that take one lexeme

abbrev pub made : {A B : Type 0} → (A → B) → Option A → g B
made make None = Grammar.refuse
made make (Some found) = Grammar.pure (make found)

abbrev pub given : {A B : Type 0} → (A → g B) → Option A → g B
given go None = Grammar.refuse
given go (Some found) = go found

-- a lexeme of which something is known, and what is made of that
unfoldable pub taken : {A B : Type 0} → (Lexeme → Option A) → (Lexeme → A → B) → g B
taken what make = Grammar.on (λ x. is_some (what x)) (λ x. made (make x) (what x)) Grammar.refuse

-- a name without structures before it
abbrev pub name : g Name
name = taken name_of named

-- a record label
abbrev pub label : g Name
label = taken label_of named

-- the label of a field in a record pattern, and whether it is a name
abbrev pub field_label : g Label
field_label = taken label_of (λ x text. record { name = named x text; is_name = is_some (name_of x) })

-- a type variable
abbrev pub tyvar : g Name
tyvar = taken tyvar_of named

-- a name, with structures before it or without
abbrev pub long : g LongName
long = taken long_of long_named

-- a type constructor
abbrev pub tycon : g LongName
tycon = taken tycon_of long_named

-- this reserved word or mark
unfoldable pub token : Word → g (Unit {0})
token w = Grammar.on (is w) (λ _. Grammar.pure tt) Grammar.refuse
