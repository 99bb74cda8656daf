use Rattle.std.proofs.Common.{◌≡◌, ◌-◌, drop}
use Rattle.cm_base.specs.declared.record.ModName.{ModName}
use Rattle.skeletons.specs.Counting.{bindings, count_in}
use Rattle.skeletons.proofs.names.uncount_all.Given as goal

-- less the bindings that are left, what is counted is what was counted less all of them
abbrev pub invariant-loop-name : goal.invariant-loop-name
invariant-loop-name l =
    (name : ModName) → count_in l.counts name - bindings (drop l.name-index l.names) name
    ≡ count_in l.fn.counts name - bindings l.fn.names name
