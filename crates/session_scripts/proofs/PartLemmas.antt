-- The lines of a script, taken from the front of its text.
use Rattle.std.proofs.Common.{◌≡◌, ◌∙◌, ap, sym, refl, arith, rules, tests, append_assoc, length-drop, ℕ, ◌+◌, ◌-◌, ◌<◌, ◌==◌, Bool, true, false, List, [], ◌∷◌, ◌++◌, length, drop}
use Rattle.std.specs.Prelude.{IfErr, Option, Some, None, Result, Ok, Err}
use Rattle.std.specs.List.{position_or_len}
use Rattle.cm_base.specs.Calls.{Gives}
use Rattle.cm_base.specs.Diags.{◌>>=◌}
use Rattle.cm_base.specs.declared.diag.Diag.{Diag}
use Rattle.cm_base.specs.declared.fault.Fault.{Fault}
use Rattle.cm_base.specs.declared.fault.Fault.TheVariants as cause
use Rattle.path_anchors.specs.Pathconfig.{lines_of}
use Rattle.path_anchors.proofs.Runs.{pieces_after, slice_split-first}
use Rattle.session_scripts.specs.Parts.{IsContent, IsPart, IsPartOf, IsRefusal, front_line, later_text, steps_behind}
use Rattle.session_scripts.specs.Scripts.{begin_with_bar, content_of, has_bar, line_of, bad_line, steps_from, steps_of, with_step, unless_bar, file_front, remove_front, command_front}
use Rattle.session_scripts.specs.declared.line.Line.{Line}
use Rattle.session_scripts.specs.declared.line.Line.TheVariants as said
use Rattle.session_scripts.specs.declared.step.Step.{Step}
use Rattle.session_scripts.specs.declared.step.Step.TheVariants as done

abbrev is_feed : ℕ → Bool
is_feed byte = byte == 10

-- the lines behind the first one
abbrev pub later_lines : List ℕ → List (List ℕ)
later_lines text = pieces_after is_feed (drop (position_or_len is_feed text) text)

-- a text is its first line, and the others
pub first_line : (text : List ℕ) → lines_of text ≡ front_line text ∷ later_lines text
first_line text = slice_split-first is_feed text

-- ---- what follows a line feed: an empty text there is one more line, which says nothing

steps_after : (file : List ℕ) (number : ℕ) (rest : List ℕ)
    → steps_of file number (pieces_after is_feed rest) ≡ steps_of file number (lines_of (drop 1 rest))
steps_after file number [] = refl
steps_after file number (feed ∷ rest) = refl

content_behind : (rest : List ℕ) → content_of (pieces_after is_feed rest) ≡ content_of (lines_of (drop 1 rest))
content_behind [] = refl
content_behind (feed ∷ rest) = refl

bar_behind : (rest : List ℕ) → begin_with_bar (pieces_after is_feed rest) ≡ begin_with_bar (lines_of (drop 1 rest))
bar_behind [] = refl
bar_behind (feed ∷ rest) = refl

pub steps_later : (file : List ℕ) (number : ℕ) (text : List ℕ)
    → steps_of file number (later_lines text) ≡ steps_of file number (lines_of (later_text text))
steps_later file number text = steps_after file number (drop (position_or_len is_feed text) text)

pub content_later : (text : List ℕ) → content_of (later_lines text) ≡ content_of (lines_of (later_text text))
content_later text = content_behind (drop (position_or_len is_feed text) text)

pub bar_later : (text : List ℕ) → begin_with_bar (later_lines text) ≡ begin_with_bar (lines_of (later_text text))
bar_later text = bar_behind (drop (position_or_len is_feed text) text)

-- ---- a text that begins with a bar, and one that doesn't

-- the lines of a text behind a bar
barred : (text : List ℕ) → lines_of (124 ∷ text) ≡ (124 ∷ front_line text) ∷ later_lines text
barred text = rw (first_line text) refl

pub content_barred : (text : List ℕ)
    → content_of (lines_of (124 ∷ text)) ≡ front_line text ++ (10 ∷ content_of (lines_of (later_text text)))
content_barred text = ap content_of (barred text) ∙ ap (λ more. front_line text ++ (10 ∷ more)) (content_later text)

pub steps_barred : (file : List ℕ) (number : ℕ) (text : List ℕ)
    → steps_of file number (lines_of (124 ∷ text)) ≡ steps_of file (number + 1) (lines_of (later_text text))
steps_barred file number text = ap (steps_of file number) (barred text) ∙ steps_later file (number + 1) text

-- whether content comes first shows at the first byte
pub bar_first : (text : List ℕ) → begin_with_bar (lines_of text) ≡ has_bar text
bar_first [] = refl
bar_first (byte ∷ text) = by_test (is_feed byte) refl
  where
    by_test : (b : Bool) → is_feed byte ≡ b → begin_with_bar (lines_of (byte ∷ text)) ≡ has_bar (byte ∷ text)
    by_test true is = let feed : byte ≡ 10 = search (rules, tests) in rw feed refl
    by_test false is = rw (is, first_line text) refl

pub content_clear : (text : List ℕ) → has_bar text ≡ false → content_of (lines_of text) ≡ []
content_clear text clear = by_lines (lines_of text) (bar_first text ∙ clear)
  where
    by_lines : (texts : List (List ℕ)) → begin_with_bar texts ≡ false → content_of texts ≡ []
    by_lines [] is = refl
    by_lines (first ∷ texts) is = rw is refl

pub steps_clear : (file : List ℕ) (number : ℕ) (text : List ℕ) → has_bar text ≡ false
    → steps_of file number (lines_of text) ≡ steps_from file number (lines_of text)
steps_clear file number text clear = rw (bar_first text ∙ clear) refl

-- ---- a line of content is read

pub content_more : (bytes now rest after later whole : List ℕ) → rest ≡ 124 ∷ after
    → now ≡ (bytes ++ front_line after) ++ 10 ∷ [] → later ≡ later_text after
    → bytes ++ content_of (lines_of rest) ≡ whole → now ++ content_of (lines_of later) ≡ whole
content_more bytes now rest after later whole is pushed left so =
    let barred = rw is at so in
    rw (pushed, left) (simp append_assoc (ap (λ more. bytes ++ more) (sym (content_barred after)) ∙ barred))

pub steps_more : (file : List ℕ) (number lines : ℕ) (rest after later : List ℕ) (whole : Result (List Step) Diag)
    → rest ≡ 124 ∷ after → later ≡ later_text after → steps_of file (number + lines) (lines_of rest) ≡ whole
    → steps_of file (number + (lines + 1)) (lines_of later) ≡ whole
steps_more file number lines rest after later whole is left so =
    let one : number + (lines + 1) ≡ (number + lines) + 1 = omega arith in
    let barred = rw is at so in
    rw (one, left) (sym (steps_barred file (number + lines) after) ∙ barred)

-- ---- a part is read

-- a line with a bar is none of the others
bar_refused : (file : List ℕ) (number : ℕ) (text : List ℕ) → has_bar text ≡ true
    → line_of file number text ≡ Err (bad_line file number)
unfolding file_front remove_front command_front
bar_refused file number [] is = cc
bar_refused file number (byte ∷ text) is = let bar : byte ≡ 124 = search (rules, tests) in rw bar refl

same_refusal : {A : Type 0} (r : Result A Diag) (a b : Diag) → r ≡ Err a → r ≡ Err b → a ≡ b
same_refusal r a b first second = cc

pub part_refused : (file : List ℕ) (number : ℕ) (text : List ℕ) (diag : Diag)
    → line_of file number (front_line text) ≡ Err diag → steps_from file number (lines_of text) ≡ Err diag
part_refused file number text diag refused = rw (first_line text) (by_test (has_bar (front_line text)) refl)
  where
    by_test : (b : Bool) → has_bar (front_line text) ≡ b
        → steps_from file number (front_line text ∷ later_lines text) ≡ Err diag
    by_test true is =
        let same : bad_line file number ≡ diag = same_refusal _ _ _ (bar_refused file number (front_line text) is) refused in
        rw is (ap Err same)
    by_test false is = rw (is, refused) refl

part_steps : (file : List ℕ) (number : ℕ) (text : List ℕ) (line : Line)
    → line_of file number (front_line text) ≡ Ok line
    → steps_from file number (lines_of text) ≡ steps_behind file number line (later_lines text)
part_steps file number text line read = rw (first_line text) (by_test (has_bar (front_line text)) refl)
  where
    by_test : (b : Bool) → has_bar (front_line text) ≡ b
        → steps_from file number (front_line text ∷ later_lines text) ≡ steps_behind file number line (later_lines text)
    by_test true is = let refused = bar_refused file number (front_line text) is in cc
    by_test false is = rw (is, read) refl

-- lines behind which no content is read
pub clear_steps : (file : List ℕ) (number : ℕ) (step : Option Step) (texts : List (List ℕ))
    → (unless_bar file (number + 1) texts step
    >>= λ step. steps_of file (number + 1) texts >>= λ more. Ok (with_step step more))
    ≡ (steps_from file (number + 1) texts >>= λ more. Ok (with_step step more))
clear_steps file number step texts = by_test (begin_with_bar texts) refl
  where
    by_test : (b : Bool) → begin_with_bar texts ≡ b
        → (unless_bar file (number + 1) texts step
        >>= λ step. steps_of file (number + 1) texts >>= λ more. Ok (with_step step more))
        ≡ (steps_from file (number + 1) texts >>= λ more. Ok (with_step step more))
    by_test true is = rw is refl
    by_test false is = rw is refl

-- a file, and the content behind its line
pub file_steps : (path bytes text rest : List ℕ) (lines : ℕ) → IsContent text bytes lines rest
    → (file : List ℕ) (number : ℕ) → steps_behind file number (said.File path) (lines_of text)
    ≡ (steps_from file (number + (lines + 1)) (lines_of rest) >>= λ more. Ok (with_step (Some (done.Write path bytes)) more))
file_steps path bytes text rest lines is file number =
    let at : (number + 1) + lines ≡ number + (lines + 1) = omega arith in
    rw is.content (ap (λ s. s >>= λ more. Ok (done.Write path (content_of (lines_of text)) ∷ more))
    (is.later file (number + 1) ∙ ap (λ n. steps_from file n (lines_of rest)) at))

behind_after : (file : List ℕ) (number : ℕ) (line : Line) (rest : List ℕ)
    → steps_behind file number line (pieces_after is_feed rest) ≡ steps_behind file number line (lines_of (drop 1 rest))
behind_after file number line (feed ∷ rest) = refl
behind_after file number (said.File path) [] = refl
behind_after file number (said.Remove path) [] = refl
behind_after file number (said.Command words) [] = refl
behind_after file number said.Nothing [] = refl

-- a line, and the part that it makes with what stands behind it
pub part_is : (file : List ℕ) (number : ℕ) (text later rest : List ℕ) (line : Line) (step : Option Step) (lines : ℕ)
    → 0 < length text → later ≡ later_text text → line_of file number (front_line text) ≡ Ok line
    → IsPartOf line later step lines rest → IsPart file number text step lines rest
part_is file number text later rest line step lines some left read is = record {
  steps = part_steps file number text line read ∙ behind_after file number line (drop (position_or_len is_feed text) text)
      ∙ ap (λ t. steps_behind file number line (lines_of t)) (sym left) ∙ is.steps file number;
  shorter = omega (arith, is.some, is.room, size, some);
  room = omega (arith, is.room, size, some);
}
  where
    size : length later ≡ (length text - position_or_len is_feed text) - 1
    size = ap length left ∙ simp length-drop

pub later_shorter : (text : List ℕ) → 0 < length text → length (later_text text) < length text
later_shorter text some = simp length-drop (omega arith)

-- a line that is refused ends the reading
pub line_stops : {A : Type 0} (r : Result A Fault) (fault : Fault) (file : List ℕ) (number : ℕ) (front text : List ℕ)
    → r ≡ Err fault → front ≡ front_line text → Gives {A = Line} (Err fault) (line_of file number front)
    → IfErr r (λ e. IsRefusal e (steps_from file number (lines_of text)))
line_stops r (cause.Diag diag) file number front text is line refused =
    let read = rw line at refused in rw is (part_refused file number text diag read)
line_stops r cause.NoMemory file number front text is line refused = rw is tt

-- ---- all parts

with_step_first : (step : Option Step) (more : List Step) → with_step step [] ++ more ≡ with_step step more
with_step_first None more = refl
with_step_first (Some step) more = refl

-- a part's step is added
pub part_added : (before now : List Step) (step : Option Step) (all rest whole : Result (List Step) Diag)
    → all ≡ (rest >>= λ more. Ok (with_step step more)) → now ≡ before ++ with_step step []
    → (all >>= λ more. Ok (before ++ more)) ≡ whole → (rest >>= λ more. Ok (now ++ more)) ≡ whole
part_added before now step all (Ok more) whole is added so =
    let first = with_step_first step more in
    let steps = rw is at so in
    rw added (rw append_assoc (rw first steps))
part_added before now step all (Err diag) whole is added so = let steps = rw is at so in steps
