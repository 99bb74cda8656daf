-- What the compiler of seamed sources answers. A source is `LETTERS:SHOWN;HIDDEN`, each mark the first of its kind.
use Rattle.std.specs.Prelude.{ℕ, ◌==◌, if◌then◌else◌, Bool, true, false, List, [], ◌∷◌, Result, Ok, Err}
use Rattle.std.specs.List.{before_first, after_first, list_any}
use Rattle.cm_base.specs.Diags.{whole_file}
use Rattle.cm_base.specs.declared.diag.Diag.{Diag}
use Rattle.cm_base.specs.declared.record.CompileInput.{CompileInput}
use Rattle.cm_base.specs.declared.record.Compiled.{Compiled}
use Rattle.cm_base.specs.declared.record.Given.{Given}
use Rattle.cm_base.specs.declared.record.Skeleton.{Skeleton}
use Rattle.test_compilers.specs.LetterSkeletons.{letter_skeleton}

-- the letters before the colon: the structure that is defined and those that are used
abbrev pub letters_of : List ℕ → List ℕ
letters_of source = before_first (λ byte. byte == 58) source

-- what stands between the colon and the semicolon: the interface
abbrev pub shown_part : List ℕ → List ℕ
shown_part source = before_first (λ byte. byte == 59) (after_first (λ byte. byte == 58) source)

-- what stands behind the semicolon: it is in the code alone
abbrev pub hidden_part : List ℕ → List ℕ
hidden_part source = after_first (λ byte. byte == 59) (after_first (λ byte. byte == 58) source)

-- some interface that is given has this byte
abbrev pub is_given : List Given → ℕ → Bool
is_given givens letter = list_any (λ given. list_any (λ byte. byte == letter) given.interface) givens

-- the byte behind a `?` says which letter no interface may have; a `?` at the end says nothing
abbrev pub bans : List ℕ → List Given → Bool
bans [] givens = false
bans (letter ∷ rest) givens = is_given givens letter

-- a hidden part that begins with `!` refuses its source, and one that begins with `?` and a letter where an interface
-- that is given has this letter
abbrev pub refuses : List ℕ → List Given → Bool
refuses [] givens = false
refuses (mark ∷ rest) givens = if mark == 33 then true else (if mark == 63 then bans rest givens else false)

abbrev pub seamed_skeleton : List ℕ → List ℕ → Result Skeleton Diag
seamed_skeleton unit source = letter_skeleton unit (letters_of source)

-- the code is the source
abbrev pub seamed : CompileInput → Result Compiled Diag
seamed input = if refuses (hidden_part input.source) input.imports then Err (whole_file 31 input.unit)
    else Ok (record { interface = shown_part input.source; code = input.source })
