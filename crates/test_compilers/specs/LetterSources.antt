-- What the compiler of letters answers.
use Rattle.std.specs.Prelude.{ℕ, if◌then◌else◌, nat_eq, List, [], ◌∷◌, ◌++◌, Result, Ok, Err}
use Rattle.std.specs.List.{flat_map, starts_with}
use Rattle.cm_base.specs.declared.diag.Diag.{Diag}
use Rattle.cm_base.specs.declared.record.CompileInput.{CompileInput}
use Rattle.cm_base.specs.declared.record.Compiled.{Compiled}
use Rattle.cm_base.specs.declared.record.Given.{Given}

-- a diagnostic at the first byte of a unit, with its source as a name
abbrev pub refusal_of : List ℕ → List ℕ → Diag
refusal_of unit source = record { number = 31; at = record { file = unit; line = 1; col = 1 }; names = source ∷ [] }

-- a source with the interfaces that its unit was given behind it
abbrev pub lettered_interface : List ℕ → List Given → List ℕ
lettered_interface source givens = source ++ flat_map (λ given. given.interface) givens

-- a source that begins with `?` is refused; the code of any other is the source
abbrev pub lettered : CompileInput → Result Compiled Diag
lettered input = if starts_with nat_eq input.source (63 ∷ []) then Err (refusal_of input.unit input.source)
    else Ok (record { interface = lettered_interface input.source input.imports; code = input.source })
