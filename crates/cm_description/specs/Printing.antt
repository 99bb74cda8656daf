-- The text that a description is printed as: a line for each directive, entry and member, in their order.
use Rattle.std.specs.Prelude.{ℕ, ◌&&◌, Bool, true, false, if◌then◌else◌, Option, Some, None, List, [], ◌∷◌, ◌++◌, codes, slice_get}
use Rattle.std.specs.List.{flat_map, list_all}
use Rattle.cm_lexer.specs.Bytes.{is_word_byte}
use Rattle.cm_conditions.specs.Printing.{module_text, printed as printed_condition}
use Rattle.cm_conditions.specs.declared.line.Line.{Line}
use Rattle.cm_conditions.specs.declared.line.LineBody.{LineBody}
use Rattle.cm_conditions.specs.declared.line.LineBody.TheVariants as body
use Rattle.cm_description.specs.declared.description.Description.{Description}
use Rattle.cm_description.specs.declared.description.Entry.{Entry}
use Rattle.cm_description.specs.declared.description.MemberEntry.{MemberEntry}

-- ---- directives

-- the word of a directive; an item has none
unfoldable pub directive_word : LineBody → List ℕ
directive_word (body.If cond) = codes "if"
directive_word (body.Elif cond) = codes "elif"
directive_word body.Else = codes "else"
directive_word body.Endif = codes "endif"
directive_word (body.Error text) = codes "error"
directive_word (body.Item number) = []

-- what stands behind that word: a space and what the directive says, or nothing
abbrev pub directive_rest : LineBody → List ℕ
directive_rest (body.If cond) = 32 ∷ printed_condition cond
directive_rest (body.Elif cond) = 32 ∷ printed_condition cond
directive_rest body.Else = []
directive_rest body.Endif = []
directive_rest (body.Error text) = 32 ∷ text
directive_rest (body.Item number) = []

-- the line of a directive
abbrev pub directive_line : LineBody → List ℕ
directive_line body = 35 ∷ (directive_word body ++ (directive_rest body ++ 10 ∷ []))

-- ---- entries and members

-- a path as it is, where it is a word, and else in quotes
abbrev pub is_plain : List ℕ → Bool
is_plain [] = false
is_plain (byte ∷ bytes) = is_word_byte byte && list_all is_word_byte bytes

abbrev pub path_text : List ℕ → List ℕ
path_text path = if is_plain path then path else 34 ∷ (path ++ 34 ∷ [])

-- an option behind another
abbrev pub option_text : List ℕ → List ℕ
option_text option = 32 ∷ option

-- the options of a class in their parentheses, if there are any
abbrev pub options_text : List (List ℕ) → List ℕ
options_text [] = []
options_text (option ∷ options) = 32 ∷ (40 ∷ (option ++ (flat_map option_text options ++ 41 ∷ [])))

-- a class and its options, if there is one
abbrev pub class_text : Option (List ℕ) → List (List ℕ) → List ℕ
class_text None options = []
class_text (Some class) options = 32 ∷ (58 ∷ (32 ∷ (class ++ options_text options)))

abbrev pub member_text : MemberEntry → List ℕ
member_text member = path_text member.path ++ class_text member.class member.options

abbrev pub entry_text : Entry → List ℕ
entry_text entry = module_text entry.name

-- ---- lists

-- the line of an item: behind two spaces
abbrev pub item_line : List ℕ → List ℕ
item_line text = 32 ∷ (32 ∷ (text ++ 10 ∷ []))

abbrev pub item_line_of : {A : Type 0} → (A → List ℕ) → Option A → List ℕ
item_line_of text None = []
item_line_of text (Some a) = item_line (text a)

-- the line of an item of these, or of a directive
abbrev pub line_text : {A : Type 0} → (A → List ℕ) → List A → LineBody → List ℕ
line_text text items (body.Item number) = item_line_of text (slice_get items number)
line_text text items (body.If cond) = directive_line (body.If cond)
line_text text items (body.Elif cond) = directive_line (body.Elif cond)
line_text text items body.Else = directive_line body.Else
line_text text items body.Endif = directive_line body.Endif
line_text text items (body.Error error) = directive_line (body.Error error)

-- the lines of a list
abbrev pub listed : {A : Type 0} → (A → List ℕ) → List A → List Line → List ℕ
listed text items lines = flat_map (λ line. line_text text items line.body) lines

-- ---- descriptions

unfoldable pub kind_line : Bool → List ℕ
kind_line true = codes "library\n"
kind_line false = codes "group\n"

unfoldable pub is_line : List ℕ
is_line = codes "is\n"

-- the text of a description
unfoldable pub printed : Description → List ℕ
printed d =
    kind_line d.library ++ (listed entry_text d.entries d.export_lines
    ++ (is_line ++ listed member_text d.members d.member_lines))
