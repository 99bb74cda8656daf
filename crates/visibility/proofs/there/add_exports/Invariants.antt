use Rattle.std.proofs.Common.{◌≡◌, ◌++◌, drop, map}
use Rattle.cm_description.specs.declared.loaded.Export.{Export}
use Rattle.visibility.proofs.there.add_exports.Given as goal

-- the names so far and those that are left
abbrev pub invariant-loop-export : goal.invariant-loop-export
invariant-loop-export l =
    l.names ++ map (λ (e : Export). e.name) (drop l.export-index l.exports)
    ≡ l.fn.names ++ map (λ (e : Export). e.name) l.exports
