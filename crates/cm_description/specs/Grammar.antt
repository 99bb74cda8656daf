-- The grammar of descriptions over the tokens of a text, as data, with its parts named as a grammar is printed:
--
--     description = kind { entry | directive } "is" { member | directive }
--     kind        = "group" | "library"
--     entry       = space identifier
--     space       = "structure" | "signature" | "functor" | "funsig"
--     member      = path [ ":" class [ "(" option { option } ")" ] ]
--     path        = word | quoted text
--     class       = letters
--     option      = letters
--     directive   = "#if" condition | "#elif" condition | "#else" rest | "#endif" rest | "#error" rest
--
-- `group`, `library` and `is` may also stand in capitals, and the first two with a capital. A directive whose condition
-- is none, or asks for a module in the list of members, ends the reading behind its rest, as a level too many does.
use Rattle.std.specs.Prelude.{ℕ, Bool, true, false, not, ◌||◌, if◌then◌else◌, Option, Some, None, option_map, List, [], ◌∷◌, ◌++◌, length}
use Rattle.cm_base.specs.declared.diag.Place.{Place}
use Rattle.cm_base.specs.declared.record.Namespace.{Namespace}
use Rattle.grammars.specs.Grammar.{Grammar, expect, ◌>>=◌, ◌>>◌}
use Rattle.grammars.specs.Grammar.Grammar.{pure, refuse, on, many, within}
use Rattle.cm_lexer.specs.Spelling.{slice_of}
use Rattle.cm_lexer.specs.declared.token.Token.{Token}
use Rattle.cm_lexer.specs.declared.token.TokenKind.{TokenKind}
use Rattle.cm_lexer.specs.declared.token.TokenKind.TheVariants as kind
use Rattle.cm_conditions.specs.declared.cond.Cond.{Cond}
use Rattle.cm_conditions.specs.declared.line.Line.{Line}
use Rattle.cm_conditions.specs.declared.line.LineBody.{LineBody}
use Rattle.cm_conditions.specs.declared.line.LineBody.TheVariants as body
use Rattle.cm_description.specs.Words.{place, is_library_word, is_word, space_at, has_kind, is_path, path_of, trimmed, directive_at, begins_export, begins_member}
use Rattle.cm_description.specs.Modules.{condition_of, names_module}
use Rattle.cm_description.specs.declared.description.Description.{Description}
use Rattle.cm_description.specs.declared.description.Entry.{Entry}
use Rattle.cm_description.specs.declared.description.MemberEntry.{MemberEntry}
use Rattle.cm_description.specs.declared.directive.Directive.{Directive}
use Rattle.cm_description.specs.declared.directive.Directive.TheVariants as directive
use Rattle.cm_description.specs.declared.word.WordKind.{WordKind}
use Rattle.cm_description.specs.declared.word.WordKind.TheVariants as wanted
use Rattle.cm_description.specs.declared.found.Classed.{Classed}
use Rattle.cm_description.specs.declared.found.Exports.{Exports}
use Rattle.cm_description.specs.declared.found.Members.{Members}

-- a grammar over the tokens of a text
abbrev pub g : Type 0 → Type 1
g A = Grammar Token A

-- a word that is wanted
unfoldable pub word : WordKind → List ℕ → g Token
word want text = expect (is_word want text)

-- a token of this kind
unfoldable pub mark : TokenKind → g Token
mark kind = expect (has_kind kind)

-- ---- directives

-- a condition that may stand here, if it is one: modules may be asked for in the export list alone
abbrev pub allowed : Bool → Option Cond → Option Cond
allowed modules None = None
allowed modules (Some cond) = if modules || not (names_module cond) then Some cond else None

-- what a directive with this rest says, unless its condition may not stand here
abbrev pub body_of : Bool → Directive → List ℕ → Option LineBody
body_of modules directive.If rest = option_map body.If (allowed modules (condition_of rest))
body_of modules directive.Elif rest = option_map body.Elif (allowed modules (condition_of rest))
body_of modules directive.Else rest = Some body.Else
body_of modules directive.Endif rest = Some body.Endif
body_of modules directive.Error rest = Some (body.Error (trimmed rest))

-- what is said, or the end of the reading
abbrev pub said : Option LineBody → g LineBody
said None = within false refuse
said (Some body) = pure body

-- behind a directive: its rest
unfoldable pub line : Bool → List ℕ → List ℕ → Token → g Line
line modules file text x = do
  rest ← mark kind.Rest
  body ← said (body_of modules (directive_at text x) (slice_of text rest))
  pure (record { at = place file x; body = body })

-- the line of an item
abbrev pub item : Place → ℕ → Line
item at number = record { at = at; body = body.Item number }

-- ---- the export list

abbrev pub no_exports : Exports
no_exports = record { entries = []; lines = [] }

abbrev pub with_export_line : Exports → Line → Exports
with_export_line found line = record { entries = found.entries; lines = found.lines ++ line ∷ [] }

abbrev pub with_entry : Exports → Entry → Exports
with_entry found entry = record {
  entries = found.entries ++ entry ∷ [];
  lines = found.lines ++ item entry.at (length found.entries) ∷ [];
}

-- behind a name space: a module's name
unfoldable pub entry : List ℕ → List ℕ → Token → Namespace → g Entry
entry file text x space = do
  name ← word wanted.Identifier text
  pure (record { at = place file x; name = record { space = space; name = slice_of text name } })

-- an entry where a name space stands, and else a directive
unfoldable pub export_step : List ℕ → List ℕ → Exports → Token → Option Namespace → g Exports
export_step file text found x (Some space) = do
  one ← entry file text x space
  pure (with_entry found one)
export_step file text found x None = do
  one ← line true file text x
  pure (with_export_line found one)

-- what follows the lines that were read
unfoldable pub exports : List ℕ → List ℕ → Exports → g Exports
exports file text found =
    many (λ _ x. begins_export text x) (λ found x. export_step file text found x (space_at text x)) found

-- ---- the member list

abbrev pub no_members : Members
no_members = record { members = []; lines = [] }

abbrev pub with_member_line : Members → Line → Members
with_member_line found line = record { members = found.members; lines = found.lines ++ line ∷ [] }

abbrev pub with_member : Members → MemberEntry → Members
with_member found member = record {
  members = found.members ++ member ∷ [];
  lines = found.lines ++ item member.at (length found.members) ∷ [];
}

-- further options, behind those that were read
unfoldable pub options : List ℕ → List (List ℕ) → g (List (List ℕ))
options text found =
    many (λ _ x. is_word wanted.Letters text x) (λ found x. pure (found ++ slice_of text x ∷ [])) found

-- behind an opening parenthesis: at least one option, and the closing one
unfoldable pub some_options : List ℕ → g (List (List ℕ))
some_options text = do
  first ← word wanted.Letters text
  found ← options text (slice_of text first ∷ [])
  mark kind.Close
  pure found

-- the options of a class, if there are any
unfoldable pub maybe_options : List ℕ → g (List (List ℕ))
maybe_options text = on (has_kind kind.Open) (λ _. some_options text) (pure [])

-- behind a colon: a class, and its options
unfoldable pub class : List ℕ → g Classed
class text = do
  name ← word wanted.Letters text
  found ← maybe_options text
  pure (record { class = Some (slice_of text name); options = found })

abbrev pub unclassed : Classed
unclassed = record { class = None; options = [] }

-- behind a path: a class, if one is written
unfoldable pub maybe_class : List ℕ → g Classed
maybe_class text = on (has_kind kind.Colon) (λ _. class text) (pure unclassed)

-- behind a path: the rest of its member
unfoldable pub member : List ℕ → List ℕ → Token → g MemberEntry
member file text x = do
  found ← maybe_class text
  pure (record { at = place file x; path = path_of text x; class = found.class; options = found.options })

-- a member where a path stands, and else a directive
unfoldable pub member_step : List ℕ → List ℕ → Members → Token → Bool → g Members
member_step file text found x true = do
  one ← member file text x
  pure (with_member found one)
member_step file text found x false = do
  one ← line false file text x
  pure (with_member_line found one)

-- what follows the lines that were read
unfoldable pub members : List ℕ → List ℕ → Members → g Members
members file text found =
    many (λ _ x. begins_member x) (λ found x. member_step file text found x (is_path x)) found

-- ---- the whole

-- what both lists say
abbrev pub described : Bool → Exports → Members → Description
described library exported found = record {
  library = library;
  entries = exported.entries;
  export_lines = exported.lines;
  members = found.members;
  member_lines = found.lines;
}

-- a description of this file, over the tokens of its text
unfoldable pub description : List ℕ → List ℕ → g Description
description file text = do
  begun ← word wanted.Kind text
  exported ← exports file text no_exports
  word wanted.Is text
  found ← members file text no_members
  pure (described (is_library_word (slice_of text begun)) exported found)
