-- A pathconfig's lines, taken one by one.
use Rattle.std.proofs.Common.{◌≡◌, ◌∙◌, ap, sym, refl, ℕ, ◌+◌, ◌==◌, Bool, List, [], ◌∷◌, take, drop}
use Rattle.std.specs.Prelude.{Result, Ok, Err}
use Rattle.std.specs.List.{position_or_len}
use Rattle.cm_base.specs.Calls.{Gives}
use Rattle.cm_base.specs.declared.diag.Diag.{Diag}
use Rattle.cm_base.specs.declared.fault.Fault.{Fault}
use Rattle.cm_base.specs.declared.fault.Fault.TheVariants as fault
use Rattle.path_anchors.specs.Names.{Bindings}
use Rattle.path_anchors.specs.Pathconfig.{after_line, after_lines, and_then, lines_of, Binds}
use Rattle.path_anchors.proofs.Runs.{pieces_after, slice_split-first}

abbrev is_feed : ℕ → Bool
is_feed byte = byte == 10

-- the line at the front of a text, and what follows it
abbrev pub front_line : List ℕ → List ℕ
front_line text = take (position_or_len is_feed text) text

abbrev pub later_text : List ℕ → List ℕ
later_text text = drop 1 (drop (position_or_len is_feed text) text)

-- an empty text after the last line feed is a line that binds nothing
later_lines : (anchors : Bindings) (line : ℕ) (rest : List ℕ)
    → after_lines anchors line (pieces_after is_feed rest) ≡ after_lines anchors line (lines_of (drop 1 rest))
later_lines anchors line [] = refl
later_lines anchors line (feed ∷ rest) = refl

-- the first line, and the others after its bindings
first_line : (anchors : Bindings) (line : ℕ) (text : List ℕ)
    → after_lines anchors line (lines_of text)
    ≡ and_then (after_line anchors line (front_line text)) (λ more. after_lines more (line + 1)
    (pieces_after is_feed (drop (position_or_len is_feed text) text)))
first_line anchors line text = ap (after_lines anchors line) (slice_split-first is_feed text)

pub line_bound : (anchors now : Bindings) (line : ℕ) (text : List ℕ) (all : Result Bindings Diag)
    → after_line anchors line (front_line text) ≡ Ok now
    → after_lines anchors line (lines_of text) ≡ all
    → after_lines now (line + 1) (lines_of (later_text text)) ≡ all
line_bound anchors now line text all bound so =
    let rest = drop (position_or_len is_feed text) text in
    sym (later_lines now (line + 1) rest)
    ∙ sym (ap (λ r. and_then r (λ more. after_lines more (line + 1) (pieces_after is_feed rest))) bound)
    ∙ sym (first_line anchors line text) ∙ so

pub line_refused : (r : Result Bindings Fault) (e : Fault) (anchors now : Bindings) (line : ℕ) (text : List ℕ)
    (all : Result Bindings Diag) → r ≡ Err e → Binds (Err e) (after_line anchors line (front_line text)) now
    → after_lines anchors line (lines_of text) ≡ all → Gives r all
line_refused r (fault.Diag diag) anchors now line text all is bound so =
    rw is (sym so ∙ first_line anchors line text
    ∙ ap (λ r. and_then r (λ more. after_lines more (line + 1)
    (pieces_after is_feed (drop (position_or_len is_feed text) text)))) bound)
line_refused r fault.NoMemory anchors now line text all is bound so = rw is tt
