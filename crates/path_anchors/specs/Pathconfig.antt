-- A pathconfig: a line for each anchor, with its directory (CM manual, path configuration files).
use Rattle.std.specs.Prelude.{ℕ, ◌≡◌, ◌+◌, ◌-◌, ◌==◌, ◌&&◌, ◌||◌, Bool, false, not, List, [], ◌∷◌, ◌++◌, Option, Some, None, Result, Ok, Err, if◌then◌else◌, length, take, drop, is_some}
use Rattle.std.specs.List.{list_any, list_all, slice_split, position_or_len}
use Rattle.std.specs.Option.{option_and_then, option_map, option_map_or}
use Rattle.cm_base.specs.declared.diag.Diag.{Diag}
use Rattle.cm_base.specs.declared.fault.Fault.{Fault}
use Rattle.cm_base.specs.declared.fault.Fault.TheVariants as fault
use Rattle.path_anchors.specs.declared.line.BoundLine.{BoundLine}
use Rattle.path_anchors.specs.Names.{Bindings, parts_of, path_of, is_up, walked, begins_with, passes_limit, bound_to, is_store}

-- a space or a tab
abbrev pub is_blank : ℕ → Bool
is_blank byte = (byte == 32) || (byte == 9)

abbrev pub is_word_byte : ℕ → Bool
is_word_byte byte = not (is_blank byte)

-- a line that begins with `#`, or has nothing but blanks
abbrev pub is_comment : List ℕ → Bool
is_comment [] = false
is_comment (byte ∷ bytes) = byte == 35

abbrev pub is_all_blank : List ℕ → Bool
is_all_blank line = list_all is_blank line

abbrev pub is_skipped : List ℕ → Bool
is_skipped line = is_comment line || is_all_blank line

-- a line is a word, blanks, and a word: what stands before its first blank ..
abbrev pub first_word : List ℕ → List ℕ
first_word line = take (position_or_len is_blank line) line

-- .. and what stands after the blanks there
abbrev pub after_word : List ℕ → List ℕ
after_word line = drop (position_or_len is_blank line) line

abbrev pub after_blanks : List ℕ → List ℕ
after_blanks rest = drop (position_or_len is_word_byte rest) rest

abbrev pub second_word : List ℕ → List ℕ
second_word line = after_blanks (after_word line)

abbrev pub has_blank : List ℕ → Bool
has_blank word = list_any is_blank word

abbrev pub has_slash : List ℕ → Bool
has_slash word = list_any (λ byte. byte == 47) word

-- the form of a line: an anchor without a slash, blanks, and a directory
abbrev pub is_word : List ℕ → Bool
is_word word = not (length word == 0) && not (has_blank word)

abbrev pub has_form : List ℕ → Bool
has_form line = (is_word (first_word line) && not (has_slash (first_word line))) && is_word (second_word line)

-- the components of a directory as it is written, empty ones and `.` left out; none where it has `..`, where
-- nothing is left, or where it passes the limit of a path
abbrev pub if_any : List (List ℕ) → Option (List (List ℕ))
if_any [] = None
if_any (part ∷ parts) = Some (part ∷ parts)

abbrev pub has_up : List (List ℕ) → Bool
has_up parts = list_any is_up parts

abbrev pub directory_parts : List ℕ → Option (List (List ℕ))
directory_parts written =
    if passes_limit written || has_up (parts_of written) then None
    else option_and_then if_any (walked [] (parts_of written))

-- what a line binds, if it has the form; the column is that of the directory
abbrev pub with_directory : List ℕ → List (List ℕ) → BoundLine
with_directory line parts = record {
  anchor = first_word line;
  written = second_word line;
  col = (length line - length (second_word line)) + 1;
  directory = parts;
}

abbrev pub bound_line : List ℕ → Option BoundLine
bound_line line =
    if has_form line then option_map (with_directory line) (directory_parts (second_word line)) else None

-- one directory is another, or lies inside it, either way round
abbrev pub touches : List (List ℕ) → List (List ℕ) → Bool
touches a b = begins_with a b || begins_with b a

abbrev pub is_nested : Bindings → List ℕ → Bool
is_nested anchors directory = list_any (λ bound. touches (parts_of directory) (parts_of bound.1)) anchors

abbrev pub is_in_store : List (List ℕ) → Bool
is_in_store [] = false
is_in_store (first ∷ parts) = is_store first

-- `pathconfig`, the file of the diagnostics
unfoldable pub config_file : List ℕ
config_file = 112 ∷ 97 ∷ 116 ∷ 104 ∷ 99 ∷ 111 ∷ 110 ∷ 102 ∷ 105 ∷ 103 ∷ []

abbrev pub refusal : ℕ → ℕ → ℕ → List (List ℕ) → Diag
refusal number line col names =
    record { number = number; at = record { file = config_file; line = line; col = col }; names = names }

-- a line's binding is added to those before it, or the line is refused: an anchor twice, nested directories, or a
-- directory in the store
abbrev pub bound_more : Bindings → ℕ → BoundLine → Result Bindings Diag
bound_more anchors line bound =
    if is_some (bound_to anchors bound.anchor) then Err (refusal 16 line 1 (bound.anchor ∷ []))
    else (if is_nested anchors (path_of bound.directory) then Err (refusal 17 line bound.col (bound.anchor ∷ []))
    else (if is_in_store bound.directory then Err (refusal 18 line bound.col (bound.written ∷ []))
    else Ok (anchors ++ (bound.anchor, path_of bound.directory) ∷ [])))

abbrev pub after_line : Bindings → ℕ → List ℕ → Result Bindings Diag
after_line anchors line text =
    if is_skipped text then Ok anchors
    else option_map_or (bound_more anchors line) (bound_line text) (Err (refusal 2 line 1 []))

-- what adding a line answers and leaves: the bindings with its own, or the diagnostic
abbrev pub Binds : Result (Unit {0}) Fault → Result Bindings Diag → Bindings → Type 0
Binds (Ok done) defined now = defined ≡ Ok now
Binds (Err (fault.Diag diag)) defined now = defined ≡ Err diag
Binds (Err fault.NoMemory) defined now = Unit {0}

-- the lines from one on, with the bindings before it; the first bad line is the answer
abbrev pub and_then : Result Bindings Diag → (Bindings → Result Bindings Diag) → Result Bindings Diag
and_then (Ok anchors) next = next anchors
and_then (Err diag) next = Err diag

abbrev pub after_lines : Bindings → ℕ → List (List ℕ) → Result Bindings Diag
after_lines anchors line [] = Ok anchors
after_lines anchors line (text ∷ texts) =
    and_then (after_line anchors line text) (λ more. after_lines more (line + 1) texts)

-- the lines of a text, between its line feeds
abbrev pub lines_of : List ℕ → List (List ℕ)
lines_of text = slice_split (λ byte. byte == 10) text

-- the anchors that a pathconfig binds, in the order of its lines, or its first refusal
abbrev pub bindings_of : List ℕ → Result Bindings Diag
bindings_of text = after_lines [] 1 (lines_of text)

-- bindings that some pathconfig gives
pub record AreBindings (anchors : Bindings) : Type 0 where
  pub text : List ℕ
  pub gives : bindings_of text ≡ Ok anchors
