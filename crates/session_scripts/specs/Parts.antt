-- What is read at the front of a script's text: the line there, the content there, and a part, which is a line with the
-- content behind it.
use Rattle.std.specs.Prelude.{ℕ, ◌≡◌, ◌+◌, ◌<◌, ◌≤◌, ◌==◌, List, Option, Result, Ok, Err, length, take, drop}
use Rattle.std.specs.List.{position_or_len}
use Rattle.cm_base.specs.Diags.{◌>>=◌}
use Rattle.cm_base.specs.declared.diag.Diag.{Diag}
use Rattle.cm_base.specs.declared.fault.Fault.{Fault}
use Rattle.cm_base.specs.declared.fault.Fault.TheVariants as fault
use Rattle.path_anchors.specs.Pathconfig.{lines_of}
use Rattle.session_scripts.specs.declared.line.Line.{Line}
use Rattle.session_scripts.specs.declared.step.Step.{Step}
use Rattle.session_scripts.specs.Scripts.{content_of, step_of, steps_from, steps_of, with_step}

-- the line at the front of a text, and what follows its line feed
abbrev pub front_line : List ℕ → List ℕ
front_line text = take (position_or_len (λ byte. byte == 10) text) text

abbrev pub later_text : List ℕ → List ℕ
later_text text = drop 1 (drop (position_or_len (λ byte. byte == 10) text) text)

-- the step of a line and those of the lines behind it
abbrev pub steps_behind : List ℕ → ℕ → Line → List (List ℕ) → Result (List Step) Diag
steps_behind file number line texts =
    step_of file number line texts >>= λ step. steps_of file (number + 1) texts >>= λ more. Ok (with_step step more)

-- the content at the front of a text, so many lines, behind which no content follows
pub record IsContent (text bytes : List ℕ) (lines : ℕ) (rest : List ℕ) : Type 0 where
  pub content : bytes ≡ content_of (lines_of text)
  pub later : (file : List ℕ) (number : ℕ) → steps_of file number (lines_of text) ≡ steps_from file (number + lines) (lines_of rest)
  pub room : lines + length rest ≤ length text

-- a part of so many lines: its step, if there is one, comes before those of what follows, and together they are the
-- steps of the whole text; each line is counted for a byte
pub record IsPart (file : List ℕ) (number : ℕ) (text : List ℕ) (step : Option Step) (lines : ℕ) (rest : List ℕ) : Type 0 where
  pub steps : steps_from file number (lines_of text)
      ≡ (steps_from file (number + lines) (lines_of rest) >>= λ more. Ok (with_step step more))
  pub shorter : length rest < length text
  pub room : lines + length rest ≤ length text

-- .. of a line that was read, over the text behind it
pub record IsPartOf (line : Line) (text : List ℕ) (step : Option Step) (lines : ℕ) (rest : List ℕ) : Type 0 where
  pub steps : (file : List ℕ) (number : ℕ)
      → steps_behind file number line (lines_of text)
      ≡ (steps_from file (number + lines) (lines_of rest) >>= λ more. Ok (with_step step more))
  pub some : 1 ≤ lines
  pub room : lines + length rest ≤ length text + 1

-- a fault is the refusal of some steps, or want of memory
abbrev pub IsRefusal : Fault → Result (List Step) Diag → Type 0
IsRefusal (fault.Diag diag) steps = steps ≡ Err diag
IsRefusal fault.NoMemory steps = Unit {0}
