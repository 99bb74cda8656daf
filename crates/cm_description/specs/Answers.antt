-- Which texts are descriptions, and what is refused, in terms of phrases and fronts alone.
use Rattle.std.specs.Prelude.{◌≡◌, ◌⊎◌, ◌<◌, ◌≤◌, ℕ, Bool, true, false, ◌||◌, ◌&&◌, nat_lt, if◌then◌else◌, Option, Some, None, List, [], ◌∷◌, ◌++◌, take, drop, length, Result, Ok, Err}
use Rattle.std.specs.List.{list_any}
use Rattle.cm_base.specs.Diags.{whole_file}
use Rattle.cm_base.specs.declared.diag.Diag.{Diag}
use Rattle.cm_base.specs.declared.diag.Place.{Place}
use Rattle.cm_base.specs.declared.fault.Fault.{Fault}
use Rattle.cm_base.specs.declared.fault.Fault.TheVariants as fault
use Rattle.grammars.specs.Grammar.{Phrase}
use Rattle.grammars.specs.Texts.{IsRefused, IsTooDeep}
use Rattle.cm_lexer.specs.Spelling.{slice_of}
use Rattle.cm_lexer.specs.Tokens.{scan_of}
use Rattle.cm_lexer.specs.declared.point.Point.{Point}
use Rattle.cm_lexer.specs.declared.token.Scan.{Scan}
use Rattle.cm_lexer.specs.declared.token.Token.{Token}
use Rattle.cm_lexer.specs.declared.token.TokenKind.TheVariants as kind
use Rattle.cm_conditions.specs.Answers.{ReadsCondition}
use Rattle.cm_conditions.specs.Values.{bad_condition}
use Rattle.cm_conditions.specs.declared.cond.Cond.{Cond}
use Rattle.cm_description.specs.Words.{place, has_kind, is_word}
use Rattle.cm_description.specs.Grammar.{description, exports, no_exports}
use Rattle.cm_description.specs.Modules.{names_module}
use Rattle.cm_description.specs.declared.description.Description.{Description}
use Rattle.cm_description.specs.declared.found.Exports.{Exports}
use Rattle.cm_description.specs.declared.word.WordKind.TheVariants as wanted

-- ---- descriptions

-- the whole text is tokens, and these are a phrase of the grammar with this value
pub record IsDescription (file text : List ℕ) (d : Description) : Type 0 where
  pub whole : (scan_of text).wrong ≡ None
  pub phrase : Phrase (description file text) (scan_of text).tokens None d

-- ---- places

-- a place of no line, where a text has no token
abbrev pub no_place : List ℕ → Place
no_place file = record { file = file; line = 0; col = 0 }

-- the last token that is no rest, behind a place
abbrev pub last_place : List ℕ → Place → List Token → Place
last_place file at [] = at
last_place file at (x ∷ xs) = last_place file (if has_kind kind.Rest x then at else place file x) xs

-- where a text without more tokens ends: at the byte that begins none, or else at the last word, quoted text, mark or
-- directive
abbrev pub end_place : List ℕ → List Token → Option Point → Place
end_place file xs (Some p) = record { file = file; line = p.line; col = p.col }
end_place file xs None = last_place file (no_place file) xs

-- where a text stops, before the tokens that are left
abbrev pub stop_place : List ℕ → Scan → List Token → Place
stop_place file scan [] = end_place file scan.tokens scan.wrong
stop_place file scan (x ∷ rest) = place file x

abbrev pub first_place : List ℕ → List Token → Place
first_place file [] = no_place file
first_place file (x ∷ xs) = place file x

-- ---- texts that are no description

-- a refusal without names
abbrev pub refusal_at : ℕ → Place → Diag
refusal_at number at = record { number = number; at = at; names = [] }

-- these tokens are a first word, an export list and `is`, and then some of a member list
abbrev pub IsInMembers : List ℕ → List ℕ → List Token → Type 0
IsInMembers file text before =
    (begun : Token) × (exported : List Token) × (between : Token) × (more : List Token) × (found : Exports)
    × (before ≡ begun ∷ (exported ++ between ∷ more)) × (is_word wanted.Kind text begun ≡ true)
    × Phrase (exports file text no_exports) exported (Some between) found × (is_word wanted.Is text between ≡ true)

-- What is wrong with a directive and its rest, behind these tokens: the text of the condition is none; or it is one
-- that asks for a module, in the member list, which may not.
abbrev pub IsBadDirective : List ℕ → List ℕ → List Token → Token → Token → Diag → Type 0
IsBadDirective file text before x rest diag =
    ReadsCondition (place file x) (slice_of text rest) (Err (fault.Diag diag))
    ⊎ ((cond : Cond) × ReadsCondition (place file x) (slice_of text rest) (Ok cond)
    × (names_module cond ≡ true) × IsInMembers file text before × (diag ≡ bad_condition (place file x)))

-- these tokens end with such a directive and its rest
abbrev pub EndsBadly : List ℕ → List ℕ → List Token → Diag → Type 0
EndsBadly file text taken diag =
    (before : List Token) × (x rest : Token) × (taken ≡ before ++ x ∷ rest ∷ [])
    × IsBadDirective file text before x rest diag

-- The text is no description. At some token, or at its end, no text of the grammar can go on, which is 2 there; or its
-- tokens are a description, but a byte that begins none stands behind them, which is 2 at that byte; or it ends at a
-- directive whose condition may not stand there, which is 3 at the directive, or 12.
abbrev pub IsNoDescription : List ℕ → List ℕ → Diag → Type 0
IsNoDescription file text diag =
    ((n : ℕ) × IsRefused (description file text) (scan_of text).tokens n
    × (diag ≡ refusal_at 2 (stop_place file (scan_of text) (drop n (scan_of text).tokens))))
    ⊎ (((d : Description) × (p : Point) × Phrase (description file text) (scan_of text).tokens None d
    × ((scan_of text).wrong ≡ Some p) × (diag ≡ refusal_at 2 (stop_place file (scan_of text) [])))
    ⊎ ((n : ℕ) × IsTooDeep (description file text) (scan_of text).tokens n
    × EndsBadly file text (take n (scan_of text).tokens) diag))

-- neither a token nor a byte is left
abbrev pub is_end : List Token → Option Point → Bool
is_end [] None = true
is_end [] (Some p) = false
is_end (x ∷ rest) wrong = false

-- a description, or what makes a text none
abbrev pub IsWhole : List ℕ → List ℕ → Result Description Fault → Type 0
IsWhole file text (Ok d) = IsDescription file text d
IsWhole file text (Err (fault.Diag diag)) = IsNoDescription file text diag
IsWhole file text (Err fault.NoMemory) = Unit {0}

-- ---- descriptions that are refused

-- more than 4,096 members, or a name of more than 255 bytes in the export list
abbrev pub passes_limits : Description → Bool
passes_limits d = nat_lt 4096 (length d.members) || list_any (λ entry. nat_lt 255 (length entry.name.name)) d.entries

-- a library whose export list has no entry
abbrev pub is_empty : {A : Type 0} → List A → Bool
is_empty [] = true
is_empty (x ∷ xs) = false

abbrev pub lacks_exports : Description → Bool
lacks_exports d = d.library && is_empty d.entries

-- a description, or 12 for its limits, or 19 at its first word
abbrev pub checked : List ℕ → List Token → Description → Result Description Diag
checked file xs d =
    if passes_limits d then Err (whole_file 12 file)
    else (if lacks_exports d then Err (refusal_at 19 (first_place file xs)) else Ok d)

-- What a text is refused with: 12 for its size; or what makes it no description; or what it is refused with as one.
abbrev pub IsRefusal : List ℕ → List ℕ → Diag → Type 0
IsRefusal file text diag =
    ((65536 < length text) × (diag ≡ whole_file 12 file))
    ⊎ (((length text ≤ 65536) × IsNoDescription file text diag)
    ⊎ ((length text ≤ 65536) × (d : Description) × IsDescription file text d
    × (checked file (scan_of text).tokens d ≡ Err diag)))

-- The text is within its size and a description within its limits; or it is refused. Nothing is said for want of
-- memory.
abbrev pub ReadsDescription : List ℕ → List ℕ → Result Description Fault → Type 0
ReadsDescription file text (Ok d) =
    (length text ≤ 65536) × IsDescription file text d × (checked file (scan_of text).tokens d ≡ Ok d)
ReadsDescription file text (Err (fault.Diag diag)) = IsRefusal file text diag
ReadsDescription file text (Err fault.NoMemory) = Unit {0}
