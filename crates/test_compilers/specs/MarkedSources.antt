-- What the compiler for tests answers.
use Rattle.std.specs.Prelude.{ℕ, ◌&&◌, ◌||◌, Bool, false, nat_eq, List, [], ◌∷◌, Result, Ok, Err, take, if◌then◌else◌}
use Rattle.std.specs.List.{starts_with}
use Rattle.cm_base.specs.Diags.{whole_file}
use Rattle.cm_base.specs.declared.diag.Diag.{Diag}
use Rattle.cm_base.specs.declared.record.CompileInput.{CompileInput}
use Rattle.cm_base.specs.declared.record.Compiled.{Compiled}
use Rattle.cm_base.specs.declared.record.Given.{Given}

-- the first interface that is given begins with `s`
abbrev pub is_given_text : List Given → Bool
is_given_text [] = false
is_given_text (given ∷ more) = starts_with nat_eq given.interface (115 ∷ [])

-- a source that begins with `!` is refused, and one that begins with `+` where the first interface that it is given
-- begins with `s`: a sum of a text
abbrev pub is_refused : CompileInput → Bool
is_refused input =
    starts_with nat_eq input.source (33 ∷ [])
    || (starts_with nat_eq input.source (43 ∷ []) && is_given_text input.imports)

-- the interface is the first four bytes of the source, or all of it under `nobasis`
abbrev pub marked_interface : CompileInput → List ℕ
marked_interface input = if input.options.nobasis then input.source else take 4 input.source

-- .. and the code is the source
abbrev pub marked_compiled : CompileInput → Result Compiled Diag
marked_compiled input = if is_refused input then Err (whole_file 31 input.unit)
    else Ok (record { interface = marked_interface input; code = input.source })
