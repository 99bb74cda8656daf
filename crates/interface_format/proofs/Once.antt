-- A top has one interface, and an interface is that of one top.
use Rattle.std.proofs.Common.{◌≡◌, ℕ, refl, sym, ap, ◌∙◌, List, [], ◌++◌}
use Rattle.std.proofs.lemmas.List.{append-nil}
use Rattle.node_bytes.specs.Spelling.{spelling}
use Rattle.node_bytes.specs.Laws.{IsNumbered}
use Rattle.node_bytes.specs.Interfaces.{interfaces}
use Rattle.node_bytes.proofs.Again.{alone_whole}
use Rattle.semantic_objects.specs.Environments.{Top}
use Rattle.interface_format.specs.Trees.{top_node}
use Rattle.interface_format.specs.Interfaces.{CanBeWritten, IsInterface, mark}
use Rattle.interface_format.specs.Laws.{InterfacesAreOne}
use Rattle.interface_format.proofs.Environments.{top_told}
use Rattle.interface_format.proofs.Shapes.{top_is}

numbered : (home : List ℕ) (top : Top) → CanBeWritten home top → IsNumbered interfaces (top_node home top)
numbered home top h = record { is = top_is home top h.tables; few = h.nodes }

behind_mark : (a b : List ℕ) → mark ++ a ≡ mark ++ b → a ≡ b
behind_mark a b e = cc

more_behind : (a more : List ℕ) → (mark ++ a) ++ more ≡ mark ++ (a ++ more)
more_behind a more = refl

front : (home a b more : List ℕ) (s t : Top) → IsInterface home a s → IsInterface home b t → a ++ more ≡ b
    → (s ≡ t) × (more ≡ [])
front home a b more s t h k e =
    let x = spelling interfaces (top_node home s) in
    let y = spelling interfaces (top_node home t) in
    let same = sym (ap (λ z. z ++ more) h.spelled) ∙ e ∙ k.spelled in
    let p = alone_whole interfaces (top_node home s) (top_node home t) more (numbered home s h.rules)
    (numbered home t k.rules) (behind_mark (x ++ more) y (sym (more_behind x more) ∙ same)) in
    (top_told home s t h.rules.tables k.rules.tables p.0, p.1)

pub are_one : InterfacesAreOne
are_one = record {
  spelled = λ home top h. record { rules = h; spelled = refl };
  one = λ home a b top h k. h.spelled ∙ sym k.spelled;
  top = λ home bytes s t h k. (front home bytes bytes [] s t h k (append-nil bytes)).0;
  front = front;
}
