-- The words of descriptions: which tokens stand for what.
use Rattle.std.specs.Prelude.{ℕ, ◌-◌, ◌==◌, ◌||◌, ◌&&◌, Bool, true, false, Option, Some, None, is_some, List, [], ◌∷◌, nat_eq, codes, if◌then◌else◌, length, take, drop}
use Rattle.std.specs.Prelude.{reverse}
use Rattle.std.specs.List.{prefix_len, list_all}
use Rattle.cm_base.specs.ByteClasses.{is_letter, is_identifier_byte}
use Rattle.cm_base.specs.declared.diag.Place.{Place}
use Rattle.cm_base.specs.declared.record.Namespace.{Namespace}
use Rattle.cm_lexer.specs.Spelling.{slice_of}
use Rattle.cm_lexer.specs.declared.token.TokenKind.{TokenKind}
use Rattle.cm_lexer.specs.declared.token.TokenKind.TheVariants as kind
use Rattle.cm_lexer.specs.declared.token.Token.{Token}
use Rattle.cm_conditions.specs.Grammar.{space_of}
use Rattle.cm_description.specs.declared.directive.Directive.{Directive}
use Rattle.cm_description.specs.declared.directive.Directive.TheVariants as directive
use Rattle.cm_description.specs.declared.word.WordKind.{WordKind}
use Rattle.cm_description.specs.declared.word.WordKind.TheVariants as wanted
use lib.Pointwise.{pointwise}

-- where a token stands
abbrev pub place : List ℕ → Token → Place
place file x = record { file = file; line = x.line; col = x.col }

-- ---- words

-- the word that begins a group, as it is, with a capital or in capitals
unfoldable pub is_group_word : List ℕ → Bool
is_group_word word =
    pointwise nat_eq word (codes "group") || (pointwise nat_eq word (codes "Group") || pointwise nat_eq word (codes "GROUP"))

unfoldable pub is_is_word : List ℕ → Bool
is_is_word word = pointwise nat_eq word (codes "is") || pointwise nat_eq word (codes "IS")

-- the word that begins a library, as it is, with a capital or in capitals
unfoldable pub is_library_word : List ℕ → Bool
is_library_word word =
    pointwise nat_eq word (codes "library") || (pointwise nat_eq word (codes "Library")
    || pointwise nat_eq word (codes "LIBRARY"))

-- an alphanumeric identifier: a letter, and then letters, digits, `_` and primes
abbrev pub is_identifier : List ℕ → Bool
is_identifier [] = false
is_identifier (byte ∷ bytes) = is_letter byte && list_all is_identifier_byte bytes

-- whether a word is one that is wanted; classes and options are words of letters
abbrev pub allows : WordKind → List ℕ → Bool
allows wanted.Kind word = is_group_word word || is_library_word word
allows wanted.Is word = is_is_word word
allows wanted.Identifier word = is_identifier word
allows wanted.Letters word = list_all is_letter word

-- ---- tokens

-- a token that passes
abbrev pub that : (Token → Bool) → Option Token → Option Token
that t None = None
that t (Some x) = if t x then Some x else None

abbrev pub word_by : WordKind → TokenKind → List ℕ → Bool
word_by want kind.Word word = allows want word
word_by want _ word = false

-- whether a token is a word that is wanted
abbrev pub is_word : WordKind → List ℕ → Token → Bool
is_word want text x = word_by want x.kind (slice_of text x)

abbrev pub space_by : TokenKind → List ℕ → Option Namespace
space_by kind.Word word = space_of word
space_by _ word = None

-- the name space that a token stands for, if it does
abbrev pub space_at : List ℕ → Token → Option Namespace
space_at text x = space_by x.kind (slice_of text x)

abbrev pub same_kind : TokenKind → TokenKind → Bool
same_kind kind.Word kind.Word = true
same_kind kind.Quoted kind.Quoted = true
same_kind kind.Colon kind.Colon = true
same_kind kind.Open kind.Open = true
same_kind kind.Close kind.Close = true
same_kind kind.Directive kind.Directive = true
same_kind kind.Rest kind.Rest = true
same_kind _ _ = false

-- whether a token is of this kind
abbrev pub has_kind : TokenKind → Token → Bool
has_kind kind x = same_kind kind x.kind

-- whether a member begins with a token
abbrev pub is_path : Token → Bool
is_path x = has_kind kind.Word x || has_kind kind.Quoted x

-- a quoted text without its quotes, or a word as it is
abbrev pub path_by : TokenKind → List ℕ → List ℕ
path_by kind.Quoted text = take (length text - 2) (drop 1 text)
path_by _ text = text

-- the path that a token is
abbrev pub path_of : List ℕ → Token → List ℕ
path_of text x = path_by x.kind (slice_of text x)

-- ---- directives

abbrev pub is_space : ℕ → Bool
is_space byte = (byte == 32) || (byte == 9)

-- without the spaces and tabs at the front
abbrev pub without_spaces : List ℕ → List ℕ
without_spaces text = drop (prefix_len is_space text) text

-- without those at the end
abbrev pub without_spaces_behind : List ℕ → List ℕ
without_spaces_behind text = take (length text - prefix_len is_space (reverse text)) text

-- without those at both ends
abbrev pub trimmed : List ℕ → List ℕ
trimmed text = without_spaces_behind (without_spaces text)

-- what a directive's word, behind its sign, stands for
unfoldable pub directive_of : List ℕ → Directive
directive_of word =
    if pointwise nat_eq word (codes "if") then directive.If
    else (if pointwise nat_eq word (codes "elif") then directive.Elif
    else (if pointwise nat_eq word (codes "else") then directive.Else
    else (if pointwise nat_eq word (codes "endif") then directive.Endif else directive.Error)))

-- the directive that a token is
abbrev pub directive_at : List ℕ → Token → Directive
directive_at text x = directive_of (drop 1 (slice_of text x))

-- ---- lines

-- whether a line of an export list begins with a token
abbrev pub begins_export : List ℕ → Token → Bool
begins_export text x = is_some (space_at text x) || has_kind kind.Directive x

-- whether a line of a member list begins with a token
abbrev pub begins_member : Token → Bool
begins_member x = is_path x || has_kind kind.Directive x
