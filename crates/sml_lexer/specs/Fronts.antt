-- What stands at the front of a text. Each kind of lexeme is the longest run of its class; no byte but `~`, `#` and `(`
-- begins two kinds, and of those the longer one is taken: a number, a character, a comment.
use Rattle.std.specs.Prelude.{◌≡◌, ℕ, ◌≤◌, ⊤, ◌==◌, nat_lt, List, take, if◌then◌else◌}
use Rattle.std.specs.List.{prefix_len}
use Rattle.sml_lexer.specs.declared.lexeme.LexemeKind.TheVariants as kind
use Rattle.sml_lexer.specs.declared.front.Front.{Front}
use Rattle.sml_lexer.specs.declared.front.Front.TheVariants.{Gap, Lexeme, Refused}
use Rattle.sml_lexer.specs.Classes.{first, is_blank}
use Rattle.sml_lexer.specs.Names.{word_len, word_front, type_variable_front, mark_len}
use Rattle.sml_lexer.specs.Numbers.{begins_number, number_front}
use Rattle.sml_lexer.specs.Quoted.{string_front, begins_character, character_front}
use Rattle.sml_lexer.specs.Gaps.{begins_comment, comment_front}

-- a mark of other bytes than symbols, or nothing that may stand in a source
unfoldable pub mark_front : List ℕ → Front
mark_front text =
    if nat_lt 0 (mark_len text) then Lexeme (kind.Reserved (take (mark_len text) text)) (mark_len text) else Refused 20

unfoldable pub front : List ℕ → Front
front text =
    if is_blank (first text) then Gap (prefix_len is_blank text)
    else if begins_comment text then comment_front text
    else if begins_number text then number_front text
    else if first text == 34 then string_front text
    else if begins_character text then character_front text
    else if first text == 39 then type_variable_front text
    else if nat_lt 0 (word_len text) then word_front text
    else mark_front text

-- what stands at the front takes at least one byte, and no more than there are
abbrev pub TakesWithin : Front → ℕ → Type 0
TakesWithin (Gap len) all = (1 ≤ len) × (len ≤ all)
TakesWithin (Lexeme kind len) all = (1 ≤ len) × (len ≤ all)
TakesWithin (Refused number) all = ⊤

-- what stands at the front takes so many bytes
abbrev pub Takes : Front → ℕ → Type 0
Takes (Gap len) n = len ≡ n
Takes (Lexeme kind len) n = len ≡ n
Takes (Refused number) n = ⊤
