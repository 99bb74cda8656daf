-- Bytes behind the mark, as nodes and as tops.
use Rattle.std.proofs.Common.{◌≡◌, ℕ, suc, ◌+◌, ◌≤◌, ◌^◌, sym, ap, subst, ◌∙◌, List, [], ◌++◌, length, Some, arith}
use Rattle.std.proofs.lemmas.List.{append-nil, length-append}
use Rattle.cm_bytes.specs.Fields.{IsBytes}
use Rattle.cm_bytes.proofs.Fields.{some_is}
use Rattle.node_bytes.specs.Nodes.{Node}
use Rattle.node_bytes.specs.Spelling.{spelling, nodes_of}
use Rattle.node_bytes.specs.Reading.{alone_at}
use Rattle.node_bytes.specs.Laws.{IsNumbered}
use Rattle.node_bytes.specs.Interfaces.{interfaces}
use Rattle.node_bytes.proofs.Again.{alone_again, nodes_few}
use Rattle.node_bytes.proofs.Exact.{alone_spelled}
use Rattle.semantic_objects.specs.Environments.{Top}
use Rattle.realisation.specs.Canonical.{canonical}
use Rattle.interface_format.specs.Trees.{top_node}
use Rattle.interface_format.specs.Rules.{HasTables, HasNames}
use Rattle.interface_format.specs.Interfaces.{mark, interface_bytes, CanBeWritten, IsInterface}
use Rattle.interface_format.proofs.Shapes.{top_is}
use Rattle.interface_format.proofs.Environments.{top_told}
use Rattle.interface_format.proofs.Once.{are_one}
use Rattle.interface_laws.proofs.Tops.{are_canonical}
use Rattle.restoring_laws.specs.Promises.{AreOf, InterfacesAreRead, InterfacesGoBack}

numbered : (home : List ℕ) (top : Top) → CanBeWritten home top → IsNumbered interfaces (top_node home top)
numbered home top h = record { is = top_is home top h.tables; few = h.nodes }

read : (home bytes : List ℕ) (top : Top) → IsInterface home bytes top → AreOf bytes (top_node home top)
read home bytes top h =
    let x = top_node home top in
    record {
      rest = spelling interfaces x;
      marked = h.spelled;
      read = ap (alone_at interfaces) (sym (append-nil (spelling interfaces x)))
          ∙ (alone_again interfaces x (numbered home top h.rules)).again [];
    }

behind_mark : (a b : List ℕ) → mark ++ a ≡ mark ++ b → a ≡ b
behind_mark a b e = cc

abbrev alone : Node → Node × List ℕ
alone x = (x, [])

same_alone : (x y : Node) → Some (alone x) ≡ Some (alone y) → x ≡ y
same_alone x y e = ap (λ (p : Node × List ℕ). p.0) (some_is (alone x) (alone y) e)

one : (bytes : List ℕ) (x y : Node) → AreOf bytes x → AreOf bytes y → x ≡ y
one bytes x y h k =
    let same : h.rest ≡ k.rest = behind_mark h.rest k.rest (sym h.marked ∙ k.marked) in
    same_alone x y (sym h.read ∙ ap (alone_at interfaces) same ∙ k.read)

bytes_behind : (rest : List ℕ) → IsBytes (mark ++ rest) → IsBytes rest
bytes_behind rest h = record { below = λ i. h.below (suc (suc (suc (suc i)))) }

spelled_rest : (rest : List ℕ) (x : Node) → IsBytes rest → alone_at interfaces rest ≡ Some (x, [])
    → rest ≡ spelling interfaces x
spelled_rest rest x h e =
    ((alone_spelled interfaces).takes rest x [] h e).parts ∙ append-nil (spelling interfaces x)

is : (home bytes : List ℕ) (top : Top) → IsBytes bytes → length bytes ≤ 2 ^ 32 → AreOf bytes (top_node home top)
    → HasTables top → HasNames home top → IsInterface home bytes top
is home bytes top b l h t n =
    let x = top_node home top in
    let rest : h.rest ≡ spelling interfaces x =
    spelled_rest h.rest x (bytes_behind h.rest (subst IsBytes h.marked b)) h.read in
    let spelled : bytes ≡ interface_bytes home top = h.marked ∙ ap (λ z. mark ++ z) rest in
    let all : length bytes ≡ 4 + length (spelling interfaces x) =
    ap length spelled ∙ length-append mark (spelling interfaces x) in
    let few : length (nodes_of interfaces x) ≤ length (spelling interfaces x) = nodes_few interfaces x in
    record { rules = record { tables = t; names = n; nodes = omega (arith, l, all, few) }; spelled = spelled }

only : (home bytes : List ℕ) (top other : Top) → AreOf bytes (top_node home top) → HasTables top
    → IsInterface home bytes other → other ≡ top
only home bytes top other h t k =
    top_told home other top k.rules.tables t
    (one bytes (top_node home other) (top_node home top) (read home bytes other k) h)

pub are_read : InterfacesAreRead
are_read = record { read = read; one = one; is = is; only = only }

pub go_back : InterfacesGoBack
go_back = record {
  again = λ home bytes top h. ap (interface_bytes home) (are_canonical home top h.rules) ∙ sym h.spelled;
  back = λ home bytes top other h k. are_one.top home bytes other (canonical home top) k h;
}
