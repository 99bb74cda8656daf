use Rattle.std.proofs.Common.{◌≡◌, take, false}
use Rattle.std.specs.List.{list_any}
use Rattle.std.specs.Option.{is_some}
use Rattle.name_trails.specs.Trails.{last_entry}
use Rattle.sml_modules.specs.declared.parts.NamedEnv.{NamedEnv}
use Rattle.datatype_specs.proofs.entries.any_structure.Given as goal

-- no name so far is bound
abbrev pub invariant-loop-entry : goal.invariant-loop-entry
invariant-loop-entry l =
    list_any (λ (e : NamedEnv). is_some (last_entry l.rows e.name)) (take l.entry-index l.part) ≡ false
