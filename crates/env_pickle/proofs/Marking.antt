-- The mark stands before the spelling of the unit.
use Rattle.std.proofs.Common.{◌≡◌, ℕ, ◌+◌, ◌<◌, ◌≤◌, ap, subst, ◌∙◌, List, ◌++◌, length, arith}
use Rattle.std.proofs.lemmas.List.{length-append}
use Rattle.node_bytes.specs.Nodes.{Node}
use Rattle.node_bytes.specs.Spelling.{spelling}
use Rattle.node_bytes.specs.Interfaces.{interfaces}
use Rattle.semantic_objects.specs.Environments.{Top}
use Rattle.interface_format.specs.Trees.{top_node}
use Rattle.interface_format.specs.Interfaces.{mark, interface_bytes}

pub bytes_of : (home : List ℕ) (top : Top) (x : Node) (bytes text : List ℕ) → x ≡ top_node home top
    → bytes ≡ spelling interfaces x → text ≡ mark ++ bytes → text ≡ interface_bytes home top
bytes_of home top x bytes text e f g =
    g ∙ ap (λ z. mark ++ z) (f ∙ ap (spelling interfaces) e)

pub length_of : (bytes text : List ℕ) → text ≡ mark ++ bytes → length bytes ≤ 1048572 → length text ≤ 1048576
length_of bytes text e h =
    let l : length text ≡ 4 + length bytes = ap length e ∙ length-append mark bytes in omega (arith, l, h)

pub too_long : (home : List ℕ) (top : Top) (x : Node) → x ≡ top_node home top
    → 1048572 < length (spelling interfaces x) → 1048576 < length (interface_bytes home top)
too_long home top x e h =
    let k : 1048572 < length (spelling interfaces (top_node home top)) =
    subst (λ y. 1048572 < length (spelling interfaces y)) e h in
    let l : length (interface_bytes home top) ≡ 4 + length (spelling interfaces (top_node home top)) =
    length-append mark (spelling interfaces (top_node home top)) in
    omega (arith, k, l)
