-- How a row of the table is read: its words, and the type that some of them write. A row of the table has no
-- parentheses, and one arrow at most.
use Rattle.std.specs.Prelude.{ℕ, nat_eq, ◌==◌, ◌||◌, List, [], ◌∷◌, length, map, Bool, true, false, Option, Some, None, if◌then◌else◌, codes}
use Rattle.std.specs.List.{slice_split, list_any, before_first, after_first, fold}
use Rattle.std.specs.Str.{bytes_eq}
use Rattle.semantic_objects.specs.declared.name.TyName.{TyName}
use Rattle.semantic_objects.specs.declared.symbol.Symbol.TheVariants as symbol
use Rattle.semantic_objects.specs.Trees.{Tree, Trees, trees_of, TypeScheme}
use Rattle.semantic_objects.specs.Parts.{arrow_tree}
use Rattle.initial_basis.specs.declared.row.Row.{Row}
use Rattle.initial_basis.specs.declared.type_names.NamedName.{NamedName}

-- the words of a line, a blank between them
abbrev pub words_of : List ℕ → List (List ℕ)
words_of line = slice_split (λ byte. byte == 32) line

abbrev pub is_colon : List ℕ → Bool
is_colon word = bytes_eq word (codes ":")

-- a line as a row: names, and what stands behind the colon
abbrev pub row_of : List ℕ → Row
row_of line = record {
  names = before_first is_colon (words_of line);
  is = after_first is_colon (words_of line);
}

abbrev pub rows_of : List (List ℕ) → List Row
rows_of lines = map row_of lines

-- ---- types

-- the type name of a word
abbrev pub known : List NamedName → List ℕ → Option TyName
known [] word = None
known (first ∷ names) word = if bytes_eq first.name word then Some first.is else known names word

-- the empty record, which `unit` abbreviates
abbrev pub unit_tree : Tree
unit_tree = Tree.Made (symbol.Record []) Trees.Nil

-- what words stand for that write no type; no row has any, and no definition rests on it
abbrev pub no_type : Tree
no_type = unit_tree

-- a type name over arguments
abbrev pub over_args : Option TyName → List Tree → Tree
over_args None args = no_type
over_args (Some name) args = Tree.Made (symbol.Name name) (trees_of args)

abbrev pub named : List NamedName → List ℕ → List Tree → Tree
named names word args = over_args (known names word) args

-- the two type variables of the table, of which the second ranges over equality types
abbrev pub is_equality_variable : List ℕ → Bool
is_equality_variable word = bytes_eq word (codes "''a")

abbrev pub is_variable : List ℕ → Bool
is_variable word = bytes_eq word (codes "'a") || is_equality_variable word

-- a type variable, `unit`, or a type name without arguments
abbrev pub atom : List NamedName → List ℕ → Tree
atom names word =
    if is_variable word then Tree.Bound 0 else if bytes_eq word (codes "unit") then unit_tree else named names word []

-- a type behind which type names of one argument stand
abbrev pub applied : List NamedName → List (List ℕ) → Tree
applied names [] = no_type
applied names (word ∷ words) = fold (λ tree name. named names name (tree ∷ [])) (atom names word) words

-- a tuple type of two or three parts
abbrev pub tuple : List Tree → Tree
tuple [] = no_type
tuple (one ∷ []) = one
tuple (one ∷ two ∷ []) = Tree.Made (symbol.Record (codes "1" ∷ codes "2" ∷ [])) (trees_of (one ∷ two ∷ []))
tuple (one ∷ two ∷ three ∷ []) =
    Tree.Made (symbol.Record (codes "1" ∷ codes "2" ∷ codes "3" ∷ [])) (trees_of (one ∷ two ∷ three ∷ []))
tuple (one ∷ two ∷ three ∷ four ∷ more) = no_type

abbrev pub is_star : List ℕ → Bool
is_star word = bytes_eq word (codes "*")

abbrev pub product : List NamedName → List (List ℕ) → Tree
product names words = tuple (map (applied names) (slice_split is_star words))

abbrev pub is_arrow : List ℕ → Bool
is_arrow word = bytes_eq word (codes "->")

-- the type that words write: `->` binds loosest, then `*`
abbrev pub type_of : List NamedName → List (List ℕ) → Tree
type_of names words =
    if list_any is_arrow words
    then arrow_tree (product names (before_first is_arrow words) ∷ product names (after_first is_arrow words) ∷ [])
    else product names words

-- the type closed over the variable that is written in it
abbrev pub marks_of : List (List ℕ) → List Bool
marks_of words =
    if list_any is_equality_variable words then true ∷ [] else if list_any is_variable words then false ∷ [] else []

abbrev pub scheme_of : List NamedName → List (List ℕ) → TypeScheme
scheme_of names words = record { marks = marks_of words; body = type_of names words }
