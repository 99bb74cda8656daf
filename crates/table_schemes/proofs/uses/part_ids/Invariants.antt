use Rattle.std.proofs.Common.{◌≡◌, ◌++◌, List, length, map, drop}
use Rattle.semantic_objects.specs.declared.name.TyId.{TyId}
use Rattle.semantic_objects.specs.Trees.{Tree}
use Rattle.type_schemes.specs.Schemes.{HaveAll}
use Rattle.table_schemes.specs.Meaning.{part_tree}
use Rattle.table_schemes.specs.Using.{AreMade, AreAllRead}
use Rattle.table_schemes.proofs.uses.part_ids.Given as goal

abbrev pub invariant-loop-part : goal.invariant-loop-part
invariant-loop-part l = record {
  has : HaveAll l.table l.found;
  counted : length l.found ≡ l.part-index;
  read : (trees : List Tree) → AreMade l.table l.base trees l.ids → (rest : List TyId)
      → AreAllRead l.table l.base (map (part_tree l.table trees) (drop l.part-index l.fn.parts)) rest
      → AreAllRead l.table l.base (map (part_tree l.table trees) l.fn.parts) (l.found ++ rest);
}
