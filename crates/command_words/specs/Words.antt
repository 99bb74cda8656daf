-- What the words of a command line mean. The first word is the command. Behind it stand, from left to right and in any
-- order, its operands and, where it takes them, definitions: `-D` and the next word NAME=INT, whatever that begins
-- with. No other word that begins with `-` means anything. The commands:
--
--     word     definitions   operands
--     build    yes           ROOT
--     link     yes           ROOT OUT
--
-- A call of the program is a command by itself; or a generated project: the word `gen` and one operand, N, which is
-- digits with a value from 1 to 2,000; or a session: the word `session` and one operand, FILE.
use Rattle.std.specs.Prelude.{ℕ, ◌≤◌, ◌==◌, ◌&&◌, ◌||◌, Bool, true, false, not, nat_eq, nat_lt, List, [], ◌∷◌, Option, Some, None, codes, length, map, take, drop, if◌then◌else◌, ℤ, pos, neg_ℤ}
use Rattle.std.specs.List.{list_all, list_any, prefix_len}
use Rattle.std.specs.Option.{option_map, option_and_then}
use lib.Pointwise.{pointwise}
use Rattle.cm_base.specs.ByteClasses.{is_letter, is_digit, is_identifier_byte}
use Rattle.cm_base.specs.declared.record.Def.{Def}
use Rattle.cm_conditions.specs.Arithmetic.{in_range}
use Rattle.cm_conditions.specs.Grammar.{is_name}
use Rattle.cm_conditions.specs.Lexemes.{number_from}
use Rattle.command_words.specs.declared.arguments.Arguments.{Arguments}
use Rattle.command_words.specs.declared.call.Call.{Call}
use Rattle.command_words.specs.declared.call.Call.TheVariants.{Gen, Session, Single}
use Rattle.command_words.specs.declared.command.Command.{Command}
use Rattle.command_words.specs.declared.command.Command.TheVariants.{Build, Link}
use Rattle.command_words.specs.declared.command.Verb.{Verb}
use Rattle.command_words.specs.declared.command.Verb.TheVariants as verb

-- ---- definitions

-- a name that a definition may have is one that conditions can ask for: a letter and then letters, digits and `_`, and
-- no word of the grammar of conditions
abbrev pub begins_with_letter : List ℕ → Bool
begins_with_letter [] = false
begins_with_letter (byte ∷ bytes) = is_letter byte

abbrev pub is_defined_name : List ℕ → Bool
is_defined_name name = begins_with_letter name && (list_all is_identifier_byte name && is_name name)

-- a number behind its sign, within 64 bits
abbrev pub signed : Bool → ℕ → Option ℤ
signed true number = in_range (neg_ℤ (pos number))
signed false number = in_range (pos number)

-- digits, of which there is one at least
unfoldable pub are_digits : List ℕ → Bool
are_digits digits = nat_lt 0 (length digits) && list_all is_digit digits

abbrev pub digits_value : Bool → List ℕ → Option ℤ
digits_value negative digits = if are_digits digits then signed negative (number_from 0 digits) else None

-- INT: digits, of a negative number with `-` or `~` before them
abbrev pub is_sign : ℕ → Bool
is_sign byte = (byte == 45) || (byte == 126)

abbrev pub int_value : List ℕ → Option ℤ
int_value [] = None
int_value (byte ∷ bytes) = if is_sign byte then digits_value true bytes else digits_value false (byte ∷ bytes)

-- a definition of these two, where they are a name and a number
abbrev pub defined : List ℕ → List ℕ → Option Def
defined name value =
    if is_defined_name name then option_map (λ z. record { name = name; value = z }) (int_value value) else None

-- NAME=INT: the name stands before the first `=`, and the number behind it
abbrev pub name_len : List ℕ → ℕ
name_len word = prefix_len (λ byte. not (byte == 61)) word

abbrev pub definition_at : List ℕ → List ℕ → Option Def
definition_at name [] = None
definition_at name (equals ∷ value) = defined name value

abbrev pub definition_of : List ℕ → Option Def
definition_of word = definition_at (take (name_len word) word) (drop (name_len word) word)

-- no two names are one
abbrev pub differ : List (List ℕ) → Bool
differ [] = true
differ (name ∷ names) = not (list_any (pointwise nat_eq name) names) && differ names

-- no name is defined twice
abbrev pub defined_once : List Def → Bool
defined_once defs = differ (map (λ (def : Def). def.name) defs)

-- ---- the words behind a command

-- arguments with one more in front
abbrev pub with_def : Def → Arguments → Arguments
with_def def found = record { defs = def ∷ found.defs; operands = found.operands }

abbrev pub with_operand : List ℕ → Arguments → Arguments
with_operand word found = record { defs = found.defs; operands = word ∷ found.operands }

-- the word before a definition
unfoldable pub is_definition_mark : List ℕ → Bool
is_definition_mark word = pointwise nat_eq word (codes "-D")

abbrev pub begins_with_dash : List ℕ → Bool
begins_with_dash [] = false
begins_with_dash (byte ∷ bytes) = byte == 45

-- The arguments that words are, where the command takes definitions or not, and a definition is due or not. None where
-- one of them means nothing, or where the last is a `-D`.
abbrev pub arguments_from : Bool → Bool → List (List ℕ) → Option Arguments
arguments_from takes true [] = None
arguments_from takes false [] = Some (record { defs = []; operands = [] })
arguments_from takes true (word ∷ more) =
    option_and_then (λ def. option_map (with_def def) (arguments_from takes false more)) (definition_of word)
arguments_from takes false (word ∷ more) =
    if takes && is_definition_mark word then arguments_from takes true more
    else (if begins_with_dash word then None
    else option_map (with_operand word) (arguments_from takes false more))

abbrev pub arguments : Bool → List (List ℕ) → Option Arguments
arguments takes words = arguments_from takes false words

-- ---- the table of commands

-- the command that a word names
unfoldable pub verb_of : List ℕ → Option Verb
verb_of word =
    if pointwise nat_eq word (codes "build") then Some verb.Build
    else (if pointwise nat_eq word (codes "link") then Some verb.Link else None)

-- whether it takes definitions
abbrev pub takes_definitions : Verb → Bool
takes_definitions verb.Build = true
takes_definitions verb.Link = true

-- the command of these operands, where it has exactly so many
abbrev pub with_operands : Verb → List Def → List (List ℕ) → Option Command
with_operands verb.Build defs (root ∷ []) = Some (Build defs root)
with_operands verb.Build defs [] = None
with_operands verb.Build defs (root ∷ other ∷ more) = None
with_operands verb.Link defs (root ∷ out ∷ []) = Some (Link defs root out)
with_operands verb.Link defs [] = None
with_operands verb.Link defs (root ∷ []) = None
with_operands verb.Link defs (root ∷ out ∷ other ∷ more) = None

-- .. of these arguments
abbrev pub with_arguments : Verb → Arguments → Option Command
with_arguments verb found = if defined_once found.defs then with_operands verb found.defs found.operands else None

abbrev pub of_verb : List (List ℕ) → Verb → Option Command
of_verb words verb = option_and_then (with_arguments verb) (arguments (takes_definitions verb) words)

-- the command that the words mean, or none
abbrev pub command_of : List (List ℕ) → Option Command
command_of [] = None
command_of (word ∷ words) = option_and_then (of_verb words) (verb_of word)

-- ---- calls

-- N: digits with a value from 1 to 2,000
abbrev pub is_unit_count : ℕ → Bool
is_unit_count n = nat_lt 0 n && nat_lt n 2001

abbrev pub unit_count : List ℕ → Option ℕ
unit_count word =
    if are_digits word && is_unit_count (number_from 0 word) then Some (number_from 0 word) else None

-- the word that names a generated project
unfoldable pub is_gen : List ℕ → Bool
is_gen word = pointwise nat_eq word (codes "gen")

-- the project of these operands, where there is exactly one, the number of its units
abbrev pub gen_with : List (List ℕ) → Option Call
gen_with (word ∷ []) = option_map (λ n. Gen n) (unit_count word)
gen_with [] = None
gen_with (word ∷ other ∷ more) = None

-- .. of the words behind its word, none of which begins with `-`
abbrev pub gen_of : List (List ℕ) → Option Call
gen_of words = option_and_then (λ found. gen_with found.operands) (arguments false words)

-- the word that names a session
unfoldable pub is_session : List ℕ → Bool
is_session word = pointwise nat_eq word (codes "session")

-- the session of these operands, where there is exactly one, the file of its script
abbrev pub session_with : List (List ℕ) → Option Call
session_with (file ∷ []) = Some (Session file)
session_with [] = None
session_with (file ∷ other ∷ more) = None

-- .. of the words behind its word, none of which begins with `-`
abbrev pub session_of : List (List ℕ) → Option Call
session_of words = option_and_then (λ found. session_with found.operands) (arguments false words)

-- what the words of a call mean: a session, a generated project, or a command by itself, or nothing
abbrev pub call_of : List (List ℕ) → Option Call
call_of [] = None
call_of (word ∷ words) =
    if is_session word then session_of words
    else (if is_gen word then gen_of words
    else option_map (λ command. Single command) (command_of (word ∷ words)))

-- the units of a generated project are as many as its word may say
abbrev pub HasUnitCount : Option Call → Type 0
HasUnitCount None = Unit {0}
HasUnitCount (Some (Single command)) = Unit {0}
HasUnitCount (Some (Gen n)) = (1 ≤ n) × (n ≤ 2000)
HasUnitCount (Some (Session file)) = Unit {0}
