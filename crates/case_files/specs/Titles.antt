-- The cases of a text: each line that begins with an equals sign and a blank is the title of one.
use Rattle.std.specs.Prelude.{ℕ, ◌+◌, ◌==◌, Bool, List, [], ◌∷◌, count_by, if◌then◌else◌, is_some, nat_eq, vec_len}
use Rattle.std.specs.List.{slice_split, starts_with}
use Rattle.case_files.specs.declared.reading.Reader.{Reader}

-- whether a line begins a case
abbrev pub begins_case : List ℕ → Bool
begins_case line = starts_with nat_eq line (61 ∷ 32 ∷ [])

-- the lines of a text, without their line feeds
abbrev pub lines_of : List ℕ → List (List ℕ)
lines_of text = slice_split (λ byte. byte == 10) text

-- how many lines of a text begin a case
abbrev pub titles_in : List ℕ → ℕ
titles_in text = count_by begins_case (lines_of text)

-- how many cases were begun: those that are whole, and the one that is being read
abbrev pub begun : Reader → ℕ
begun reader = vec_len reader.cases + (if is_some reader.heading then 1 else 0)
