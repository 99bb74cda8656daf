use Rattle.std.proofs.Common.{◌≡◌, ◌++◌, drop}
use Rattle.std.specs.Prelude.{flat_map}
use Rattle.path_anchors.specs.Names.{path_of}
use Rattle.path_anchors.proofs.PartLemmas.{slashed}
use Rattle.path_anchors.proofs.parts.path_of.Given as goal

-- the path so far, and the components that are left
abbrev pub invariant-loop-part : goal.invariant-loop-part
invariant-loop-part l = l.path.items ++ flat_map slashed (drop l.part-index l.rest) ≡ path_of l.fn.parts
