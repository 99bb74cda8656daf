use Rattle.std.proofs.Common.{◌≡◌, ◌++◌, drop, map, nat_eq}
use Rattle.indexmap.specs.IndexMap.{get}
use Rattle.cm_description.specs.declared.loaded.Export.{Export}
use Rattle.visibility.specs.Exports.{names_in}
use Rattle.visibility.specs.Tables.{shown_among}
use Rattle.visibility.proofs.there.names_there.Given as goal

-- the names so far and those of the members that are left
abbrev pub invariant-loop-member : goal.invariant-loop-member
invariant-loop-member l =
    l.names ++ map (λ (e : Export). e.name) (shown_among (get nat_eq l.places) l.below (drop l.member-index l.among))
    ≡ names_in l.skeletons l.units (shown_among (get nat_eq l.places) l.below l.among)
