-- Scripts of sessions: edits of files and commands, a line for each, as they are to be done one after the other. The
-- form is this program's own:
--
--     file PATH        the file at PATH is written; its content are the lines with a bar directly behind this line
--     |TEXT            a line of content: TEXT and a line feed
--     remove PATH      the file at PATH is removed
--     cm WORD ..       a command, of words with one space before each
--     # ..             a comment; it and a blank line say nothing
use Rattle.std.specs.Prelude.{ℕ, ◌+◌, ◌==◌, ◌&&◌, Bool, false, not, nat_eq, nat_lt, List, [], ◌∷◌, ◌++◌, Option, Some, None, Result, Ok, Err, codes, length, take, drop, if◌then◌else◌}
use Rattle.std.specs.List.{list_all, slice_split}
use Rattle.std.specs.Option.{option_map_or}
use lib.Pointwise.{pointwise}
use Rattle.cm_base.specs.ByteClasses.{between}
use Rattle.cm_base.specs.Diags.{whole_file, ◌>>=◌}
use Rattle.cm_base.specs.declared.diag.Diag.{Diag}
use Rattle.path_anchors.specs.Names.{resolved}
use Rattle.path_anchors.specs.Pathconfig.{is_skipped, lines_of}
use Rattle.session_scripts.specs.declared.line.Line.{Line}
use Rattle.session_scripts.specs.declared.line.Line.TheVariants as line
use Rattle.session_scripts.specs.declared.step.Step.{Step}
use Rattle.session_scripts.specs.declared.step.Step.TheVariants as step

-- ---- refusals

-- a line is refused at its first column
abbrev pub refused : List ℕ → ℕ → ℕ → List (List ℕ) → Diag
refused file line number names =
    record { number = number; at = record { file = file; line = line; col = 1 }; names = names }

-- .. where it is outside the grammar
abbrev pub bad_line : List ℕ → ℕ → Diag
bad_line file line = refused file line 2 []

-- .. where its path has no name: without the path where that passes a limit, and else with it as it is written
abbrev pub path_refusal : List ℕ → ℕ → List ℕ → ℕ → Diag
path_refusal file line written number =
    if number == 12 then refused file line 12 [] else refused file line number (written ∷ [])

abbrev pub or_refused : List ℕ → ℕ → List ℕ → Result (List ℕ) ℕ → Result (List ℕ) Diag
or_refused file line written (Ok path) = Ok path
or_refused file line written (Err number) = Err (path_refusal file line written number)

-- ---- a line by itself

-- what stands behind a front of a line, where the line begins with it
abbrev pub behind : List ℕ → List ℕ → Option (List ℕ)
behind front text =
    if pointwise nat_eq (take (length front) text) front then Some (drop (length front) text) else None

-- the path of an edit: there is one, and it is taken at the top with no anchor bound
abbrev pub edited_path : List ℕ → ℕ → List ℕ → Result (List ℕ) Diag
edited_path file line [] = Err (bad_line file line)
edited_path file line (byte ∷ bytes) = or_refused file line (byte ∷ bytes) (resolved [] [] (byte ∷ bytes))

-- the words between the spaces of a command, each of bytes that can be seen
abbrev pub words_of : List ℕ → List (List ℕ)
words_of text = slice_split (λ byte. byte == 32) text

abbrev pub is_word : List ℕ → Bool
is_word word = nat_lt 0 (length word) && list_all (between 33 126) word

-- a session within a session
unfoldable pub is_session_word : List ℕ → Bool
is_session_word word = pointwise nat_eq word (codes "session")

abbrev pub begins_session : List (List ℕ) → Bool
begins_session [] = false
begins_session (word ∷ words) = is_session_word word

abbrev pub are_command : List (List ℕ) → Bool
are_command words = list_all is_word words && not (begins_session words)

-- what each kind of line says, by what stands behind its front
abbrev pub file_line : List ℕ → ℕ → List ℕ → Result Line Diag
file_line file number written = edited_path file number written >>= λ path. Ok (line.File path)

abbrev pub remove_line : List ℕ → ℕ → List ℕ → Result Line Diag
remove_line file number written = edited_path file number written >>= λ path. Ok (line.Remove path)

abbrev pub command_line : List ℕ → ℕ → List ℕ → Result Line Diag
command_line file number text =
    if are_command (words_of text) then Ok (line.Command (words_of text)) else Err (bad_line file number)

-- the three fronts
unfoldable pub file_front : List ℕ
file_front = codes "file "

unfoldable pub remove_front : List ℕ
remove_front = codes "remove "

unfoldable pub command_front : List ℕ
command_front = codes "cm "

-- what a line says that has no bar, or its refusal; this is the line of this number in the script
abbrev pub said : List ℕ → ℕ → List ℕ → Result Line Diag
said file number text =
    option_map_or (file_line file number) (behind file_front text)
    (option_map_or (remove_line file number) (behind remove_front text)
    (option_map_or (command_line file number) (behind command_front text) (Err (bad_line file number))))

abbrev pub line_of : List ℕ → ℕ → List ℕ → Result Line Diag
line_of file number text = if is_skipped text then Ok line.Nothing else said file number text

-- ---- content

abbrev pub has_bar : List ℕ → Bool
has_bar [] = false
has_bar (byte ∷ bytes) = byte == 124

-- whether content comes first
abbrev pub begin_with_bar : List (List ℕ) → Bool
begin_with_bar [] = false
begin_with_bar (text ∷ texts) = has_bar text

-- the content at the front of some lines: as long as they have a bar, what follows it and a line feed
abbrev pub content_of : List (List ℕ) → List ℕ
content_of [] = []
content_of (text ∷ texts) = if has_bar text then drop 1 text ++ (10 ∷ content_of texts) else []

-- ---- all lines

-- no content stands at the front of the lines from this number on
abbrev pub unless_bar : {A : Type 0} → List ℕ → ℕ → List (List ℕ) → A → Result A Diag
unless_bar file number texts value = if begin_with_bar texts then Err (bad_line file number) else Ok value

-- the step of a line, over the lines behind it: a file takes the content there, and behind any other line there is none
abbrev pub step_of : List ℕ → ℕ → Line → List (List ℕ) → Result (Option Step) Diag
step_of file number (line.File path) later = Ok (Some (step.Write path (content_of later)))
step_of file number (line.Remove path) later = unless_bar file (number + 1) later (Some (step.Remove path))
step_of file number (line.Command words) later = unless_bar file (number + 1) later (Some (step.Command words))
step_of file number line.Nothing later = unless_bar file (number + 1) later None

abbrev pub with_step : Option Step → List Step → List Step
with_step None steps = steps
with_step (Some step) steps = step ∷ steps

-- the steps of lines, from the line of this number on; a line with a bar belongs to a line before it
abbrev pub steps_of : List ℕ → ℕ → List (List ℕ) → Result (List Step) Diag
steps_of file number [] = Ok []
steps_of file number (text ∷ texts) =
    if has_bar text then steps_of file (number + 1) texts
    else (line_of file number text >>= λ line. step_of file number line texts
    >>= λ step. steps_of file (number + 1) texts >>= λ steps. Ok (with_step step steps))

-- .. before which no line takes content
abbrev pub steps_from : List ℕ → ℕ → List (List ℕ) → Result (List Step) Diag
steps_from file number texts =
    if begin_with_bar texts then Err (bad_line file number) else steps_of file number texts

-- the steps of a script, or the refusal of its size, or else of its first bad line
abbrev pub script_of : List ℕ → List ℕ → Result (List Step) Diag
script_of file text = if nat_lt 1048576 (length text) then Err (whole_file 12 file) else steps_from file 1 (lines_of text)
