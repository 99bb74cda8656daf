-- the two sides of function types
use Rattle.std.proofs.Common.{◌≡◌, ℕ, ◌<◌, ◌≤◌, List, [], ◌∷◌, length, sym, ap, ap₂, ◌∙◌, Some, None, arith, slice_get}
use Rattle.semantic_objects.specs.declared.name.TyId.{TyId}
use Rattle.semantic_objects.specs.declared.name.TyId.TheVariants as id
use Rattle.semantic_objects.specs.declared.symbol.Symbol.TheVariants as symbol
use Rattle.semantic_objects.specs.declared.name.TyName.{TyName}
use Rattle.semantic_objects.specs.Symbols.{part_count}
use Rattle.unification.specs.Types.{Ty}
use Rattle.type_nodes.specs.declared.node.Node.{Node}
use Rattle.type_nodes.specs.Tables.{Table, type_of, types_of}
use Rattle.type_nodes.specs.Keeping.{IsKept}
use Rattle.sml_types.specs.Sides.{AreSides, IsSides}
use Rattle.sml_types.proofs.Frames.{some_same, none_past, part_has}

two_items : {X : Type 0} (xs : List X) (a b : X) → length xs ≡ 2 → slice_get xs 0 ≡ Some a → slice_get xs 1 ≡ Some b
    → xs ≡ a ∷ b ∷ []
two_items [] a b n e f = absurd (omega (arith, n))
two_items (x ∷ []) a b n e f = absurd (omega (arith, n))
two_items (x ∷ y ∷ []) a b n e f = ap₂ (λ p q. p ∷ q ∷ []) (some_same x a e) (some_same y b f)
two_items (x ∷ y ∷ z ∷ xs) a b n e f = absurd (omega (arith, n))

is_made : (t : Table) (i : ℕ) (x : Node) → IsKept t → slice_get t.nodes i ≡ Some x
    → type_of t (id.Made i) ≡ Ty.Made x.symbol (types_of t x.parts)
is_made t i x k e = k.made.noted i x e

pub sides_some : (t : Table) (i : ℕ) (x : Node) (a b : TyId) → IsKept t → slice_get t.nodes i ≡ Some x
    → x.symbol ≡ symbol.Arrow → slice_get x.parts 0 ≡ Some a → slice_get x.parts 1 ≡ Some b → AreSides t (id.Made i) a b
sides_some t i x a b k e c f g =
    let n : length x.parts ≡ 2 = (k.made.each i x e).counted ∙ ap part_count c in
    record {
      is = is_made t i x k e ∙ ap₂ (λ s ps. Ty.Made s (types_of t ps)) c (two_items x.parts a b n f g);
      has_from = part_has t i 0 x a k.made e f;
      has_to = part_has t i 1 x b k.made e g;
    }

pub sides_missing : (t : Table) (i at : ℕ) (x : Node) → IsKept t → slice_get t.nodes i ≡ Some x → x.symbol ≡ symbol.Arrow
    → at < 2 → None ≡ slice_get x.parts at → IsSides t (id.Made i) None
sides_missing t i at x k e c w f u v g =
    let n : length x.parts ≡ 2 = (k.made.each i x e).counted ∙ ap part_count c in
    let m : length x.parts ≤ at = none_past x.parts at f in
    omega (arith, n, m, w)

pub sides_record : (t : Table) (i : ℕ) (x : Node) (labels : List (List ℕ)) → IsKept t → slice_get t.nodes i ≡ Some x
    → x.symbol ≡ symbol.Record labels → IsSides t (id.Made i) None
sides_record t i x labels k e c u v g =
    let m : Ty.Made (symbol.Record labels) (types_of t x.parts) ≡ type_of t (id.Made i) =
    ap (λ s. Ty.Made s (types_of t x.parts)) (sym c) ∙ sym (is_made t i x k e) in
    let both = m ∙ g in cc

pub sides_name : (t : Table) (i : ℕ) (x : Node) (name : TyName) → IsKept t → slice_get t.nodes i ≡ Some x
    → x.symbol ≡ symbol.Name name → IsSides t (id.Made i) None
sides_name t i x name k e c u v g =
    let m : Ty.Made (symbol.Name name) (types_of t x.parts) ≡ type_of t (id.Made i) =
    ap (λ s. Ty.Made s (types_of t x.parts)) (sym c) ∙ sym (is_made t i x k e) in
    let both = m ∙ g in cc
