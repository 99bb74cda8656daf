use Rattle.std.proofs.Common.{◌≡◌, ◌++◌, drop, map, nat_eq}
use lib.Pointwise.{pointwise}
use Rattle.indexmap.specs.IndexMap.{get}
use Rattle.linker.specs.Linked.{import_at}
use Rattle.linker.proofs.linking.link_imports.Given as goal

-- the imports linked so far and the rest are all of them
abbrev pub invariant-loop-import : goal.invariant-loop-import
invariant-loop-import l =
    let one = import_at (get (pointwise nat_eq) l.table) in
    l.linked.items ++ map one (drop l.import-index l.imports) ≡ map one l.imports
