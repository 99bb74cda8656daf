use Rattle.std.proofs.Common.{◌≡◌, ◌||◌, drop}
use Rattle.cm_base.specs.declared.record.ModName.{ModName}
use Rattle.cm_conditions.specs.Tables.{has_name}
use Rattle.cm_conditions.specs.Values.{has_module}
use Rattle.cm_conditions.proofs.names.modules_of.Given as goal

-- the set and the modules that are left have what all have
abbrev pub invariant-loop-name : goal.invariant-loop-name
invariant-loop-name l =
    (wanted : ModName) → (has_name l.set wanted || has_module (drop l.name-index l.modules) wanted)
    ≡ has_module l.modules wanted
