-- What a text is read as, as a function: the one answer of `ReadsDescription`, found by the reader of the grammar.
use Rattle.std.specs.Prelude.{ℕ, ◌-◌, nat_lt, if◌then◌else◌, List, [], ◌∷◌, take, length, Result, Ok, Err}
use Rattle.cm_base.specs.Calls.{Gives}
use Rattle.cm_base.specs.Diags.{whole_file}
use Rattle.cm_base.specs.declared.diag.Diag.{Diag}
use Rattle.cm_base.specs.declared.diag.Place.{Place}
use Rattle.cm_base.specs.declared.fault.Fault.{Fault}
use Rattle.grammars.specs.Grammar.{End}
use Rattle.grammars.specs.Reading.{Out, read}
use Rattle.cm_lexer.specs.Spelling.{slice_of}
use Rattle.cm_lexer.specs.Tokens.{scan_of}
use Rattle.cm_lexer.specs.declared.token.Token.{Token}
use Rattle.cm_conditions.specs.Grammar.{condition}
use Rattle.cm_conditions.specs.Lexemes.{lexemes_of}
use Rattle.cm_conditions.specs.Values.{bad_condition}
use Rattle.cm_conditions.specs.declared.cond.Cond.{Cond}
use Rattle.cm_conditions.specs.declared.lexeme.Lexeme.{Lexeme}
use Rattle.cm_description.specs.Words.{place}
use Rattle.cm_description.specs.Grammar.{description}
use Rattle.cm_description.specs.Answers.{ReadsDescription, no_place, refusal_at, stop_place, is_end, checked}
use Rattle.cm_description.specs.declared.description.Description.{Description}

-- The refusal of a directive's condition that may not stand there: 12 on its file where it opens a parenthesis too
-- many, and else 3, for a text that is no condition and for one that asks for a module in the member list.
abbrev pub condition_refusal : Place → Out Lexeme Cond → Diag
condition_refusal at (Out.out End.deep rest) = whole_file 12 at.file
condition_refusal at (Out.out End.refused rest) = bad_condition at
condition_refusal at (Out.out (End.whole cond) rest) = bad_condition at

-- .. of the directive and its rest with which these tokens end
abbrev pub last_refusal : List ℕ → List ℕ → List Token → Diag
last_refusal file text [] = bad_condition (no_place file)
last_refusal file text (x ∷ []) = bad_condition (place file x)
last_refusal file text (x ∷ rest ∷ []) =
    condition_refusal (place file x) (read (condition 128) (lexemes_of (slice_of text rest)))
last_refusal file text (x ∷ y ∷ z ∷ more) = last_refusal file text (y ∷ z ∷ more)

-- the answer for a text within its size, by how the reading of its tokens ends
abbrev pub by_reading : List ℕ → List ℕ → Out Token Description → Result Description Diag
by_reading file text (Out.out (End.whole d) rest) =
    if is_end rest (scan_of text).wrong then checked file (scan_of text).tokens d
    else Err (refusal_at 2 (stop_place file (scan_of text) rest))
by_reading file text (Out.out End.refused rest) = Err (refusal_at 2 (stop_place file (scan_of text) rest))
by_reading file text (Out.out End.deep rest) =
    Err (last_refusal file text (take (length (scan_of text).tokens - length rest) (scan_of text).tokens))

-- the description that a file's text is, or its first refusal
unfoldable pub description_of : List ℕ → List ℕ → Result Description Diag
description_of file text =
    if nat_lt 65536 (length text) then Err (whole_file 12 file)
    else by_reading file text (read (description file text) (scan_of text).tokens)

-- whoever reads a description answers this
abbrev pub IsDescribed : Type 0
IsDescribed = (file text : List ℕ) (r : Result Description Fault) → ReadsDescription file text r
    → Gives r (description_of file text)
