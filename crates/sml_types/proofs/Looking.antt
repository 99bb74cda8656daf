-- what stands at ids, and fields
use Rattle.std.proofs.Common.{◌≡◌, ℕ, ◌+◌, List, [], ◌∷◌, ◌++◌, length, map, refl, sym, ap, ap₂, ◌∙◌, subst, Some, arith, slice_get, get_or}
use Rattle.std.proofs.lemmas.Option.{slice_get_within, slice_get-get_or, get_or_from_slice_get}
use Rattle.std.proofs.lemmas.Map.Views.{All-map-IsPermutation}
use Rattle.std.proofs.Math.Seq.{take-append_seam}
use Rattle.std.specs.List.{All}
use Rattle.semantic_objects.specs.declared.name.TyId.{TyId}
use Rattle.semantic_objects.specs.declared.name.TyId.TheVariants as id
use Rattle.semantic_objects.specs.declared.symbol.Symbol.TheVariants as symbol
use Rattle.semantic_objects.specs.Symbols.{AreRising, part_count, HasRisingLabels}
use Rattle.unification.specs.Types.{Ty}
use Rattle.type_nodes.specs.declared.node.Node.{Node}
use Rattle.type_nodes.specs.Nodes.{IsNode}
use Rattle.type_nodes.specs.Tables.{Table, store_of, Has, whole, whole_all, type_of, types_of, with_variable_of, with_node_of}
use Rattle.type_nodes.specs.declared.node.Birth.{Birth}
use Rattle.type_nodes.specs.Keeping.{IsKept}
use Rattle.type_nodes.proofs.Making.{type_added, type_front, id_more, length_snoc}
use Rattle.type_nodes.proofs.Binding.{node_whole}
use Rattle.semantic_objects.specs.declared.name.TyName.{TyName}
use Rattle.sml_types.specs.declared.look.Look.{Look}
use Rattle.sml_types.specs.declared.look.Look.TheVariants as look
use Rattle.sml_types.specs.declared.look.LookField.{LookField}
use Rattle.type_schemes.specs.Instances.{Extends}
use Rattle.type_schemes.specs.Schemes.{HaveAll}
use Rattle.sml_types.specs.Looking.{labels_of, ids_of, LooksRecord, AreSorted, IsRecordType, IsLook}
use Rattle.sml_types.proofs.Frames.{part_has}
use Rattle.sml_types.proofs.Solving.{take_whole}

-- what was there stays
pub extends_variable : (t : Table) (b : Birth) → Extends t (with_variable_of b t)
extends_variable t b = record {
  front = record {
    births = take-append_seam t.births (b ∷ []);
    nodes = take_whole t.nodes;
    trail = take_whole t.trail;
  };
  trail = refl;
  types = λ a h. refl;
  ids = λ a h. id_more _ _ _ _ a (let k : length (t.births ++ b ∷ []) ≡ length t.births + 1 = length_snoc t.births b in
      omega (arith, k)) (omega arith) h;
}

pub extends_node : (t : Table) (x : Node) → Extends t (with_node_of x t)
extends_node t x = record {
  front = record {
    births = take_whole t.births;
    nodes = take-append_seam t.nodes (x ∷ []);
    trail = take_whole t.trail;
  };
  trail = refl;
  types = λ a h. type_front t.nodes (x ∷ []) (length t.births) a h;
  ids = λ a h. id_more _ _ _ _ a (omega arith)
      (let k : length (t.nodes ++ x ∷ []) ≡ length t.nodes + 1 = length_snoc t.nodes x in omega (arith, k)) h;
}

pub extends_to : (a b c : Table) → Extends a b → c ≡ b → Extends a c
extends_to a b c h e = subst (Extends a) (sym e) h

-- the type of a new node
pub new_type : (t new : Table) (x : Node) (a : TyId) → new ≡ with_node_of x t → a ≡ id.Made (length t.nodes)
    → type_of new a ≡ Ty.Made x.symbol (types_of t x.parts)
new_type t new x a e f = ap₂ type_of e f ∙ type_added t.nodes x (length t.nodes) refl

pub new_has : (t new : Table) (x : Node) (a : TyId) → new ≡ with_node_of x t → a ≡ id.Made (length t.nodes) → Has new a
new_has t new x a e f = subst (λ z. Has z a) (sym e) (subst (Has (with_node_of x t)) (sym f)
    (let k : length (t.nodes ++ x ∷ []) ≡ length t.nodes + 1 = length_snoc t.nodes x in omega (arith, k)))

-- ids in another order
all_each : (P : TyId → Type 0) (ids : List TyId) → ((i : ℕ) (a : TyId) → slice_get ids i ≡ Some a → P a) → All P ids
all_each P ids h k d l = h k (get_or ids k d) (slice_get-get_or ids k d l)

each_all : (P : TyId → Type 0) (ids : List TyId) → All P ids → (i : ℕ) (a : TyId) → slice_get ids i ≡ Some a → P a
each_all P ids h i a e = subst P (get_or_from_slice_get ids i a a e) (h i a (slice_get_within ids i a e))

pub sorted_has : (t : Table) (fields : List LookField) (labels : List (List ℕ)) (ids : List TyId) → AreSorted fields labels ids
    → HaveAll t (ids_of fields) → HaveAll t ids
sorted_has t fields labels ids s h = subst (HaveAll t) (sym s.ids_are) (each_all (Has t) (ids_of s.sorted)
    (All-map-IsPermutation (λ (f : LookField). f.part) (Has t) fields s.sorted s.permutation (all_each (Has t) (ids_of fields) h)))

length_map : {A B : Type 0} (f : A → B) (xs : List A) → length (map f xs) ≡ length xs
length_map f [] = refl
length_map f (x ∷ xs) = (let k : length (map f xs) ≡ length xs = length_map f xs in omega (arith, k))

pub sorted_node : (t : Table) (fields : List LookField) (labels : List (List ℕ)) (ids : List TyId) → AreSorted fields labels ids
    → HaveAll t (ids_of fields) → IsNode (store_of t) (record { symbol = symbol.Record labels; parts = ids })
sorted_node t fields labels ids s h = record {
  parts = sorted_has t fields labels ids s h;
  counted = ap length s.ids_are ∙ length_map (λ (f : LookField). f.part) s.sorted
      ∙ sym (length_map (λ (f : LookField). f.label) s.sorted) ∙ sym (ap length s.labels_are);
  rising = s.rising;
}

pub record_is : (t : Table) (fields : List LookField) (given labels : List (List ℕ)) (parts ids : List TyId) (u : Ty)
    → labels_of fields ≡ given → ids_of fields ≡ parts → AreSorted fields labels ids
    → u ≡ Ty.Made (symbol.Record labels) (types_of t ids) → IsRecordType t given parts u
record_is t fields given labels parts ids u g p s e = record {
  fields = fields;
  given_labels = g;
  given_ids = p;
  sorted = s.sorted;
  permutation = s.permutation;
  rising = subst AreRising s.labels_are s.rising;
  is = e ∙ ap₂ (λ l i. Ty.Made (symbol.Record l) (types_of t i)) s.labels_are s.ids_are;
}

-- what a node looks like
pub node_has : (t : Table) (i : ℕ) (x : Node) → IsKept t → slice_get t.nodes i ≡ Some x → HaveAll t x.parts
node_has t i x k e j a f = part_has t i j x a k.made e f

pub looks_record : (t : Table) (i : ℕ) (x : Node) (labels : List (List ℕ)) (fields : List LookField) → IsKept t
    → slice_get t.nodes i ≡ Some x → x.symbol ≡ symbol.Record labels → labels_of fields ≡ labels → ids_of fields ≡ x.parts
    → LooksRecord t (id.Made i) fields
looks_record t i x labels fields k e s l p = record {
  is = node_whole t i x k.made e ∙ ap₂ (λ c is. Ty.Made c (whole_all t is)) (s ∙ ap symbol.Record (sym l)) (sym p);
  rising = subst AreRising (sym l) (subst HasRisingLabels s (k.made.each i x e).rising);
  has = subst (HaveAll t) (sym p) (node_has t i x k e);
}

two_parts : (ps : List TyId) (a b : TyId) → length ps ≡ 2 → slice_get ps 0 ≡ Some a → slice_get ps 1 ≡ Some b
    → ps ≡ a ∷ b ∷ []
two_parts [] a b l h k = absurd (omega (arith, l))
two_parts (x ∷ []) a b l h k = absurd (omega (arith, l))
two_parts (x ∷ y ∷ []) a b l h k = let e : x ≡ a = cc in let f : y ≡ b = cc in ap₂ (λ u v. u ∷ v ∷ []) e f
two_parts (x ∷ y ∷ z ∷ ps) a b l h k = absurd (omega (arith, l))

pub looks_arrow : (t : Table) (i : ℕ) (x : Node) (from to : TyId) → IsKept t → slice_get t.nodes i ≡ Some x
    → x.symbol ≡ symbol.Arrow → slice_get x.parts 0 ≡ Some from → slice_get x.parts 1 ≡ Some to
    → (whole t (id.Made i) ≡ Ty.Made symbol.Arrow (whole_all t (from ∷ to ∷ []))) × HaveAll t (from ∷ to ∷ [])
looks_arrow t i x from to k e s a b =
    let n : length x.parts ≡ 2 = (k.made.each i x e).counted ∙ ap part_count s in
    let p : x.parts ≡ from ∷ to ∷ [] = two_parts x.parts from to n a b in
    (node_whole t i x k.made e ∙ ap₂ (λ c is. Ty.Made c (whole_all t is)) s p, subst (HaveAll t) p (node_has t i x k e))

pub looks_name : (t : Table) (i : ℕ) (x : Node) (name copy : TyName) (args : List TyId) → IsKept t
    → slice_get t.nodes i ≡ Some x → x.symbol ≡ symbol.Name name → copy ≡ name → args ≡ x.parts
    → (whole t (id.Made i) ≡ Ty.Made (symbol.Name copy) (whole_all t args)) × HaveAll t args
looks_name t i x name copy args k e s c p = (
  node_whole t i x k.made e ∙ ap₂ (λ c is. Ty.Made c (whole_all t is)) (s ∙ ap symbol.Name (sym c)) (sym p),
  subst (HaveAll t) (sym p) (node_has t i x k e),
)

-- ids that stand for the same type look the same
pub look_as : (t : Table) (a b : TyId) (l : Look) → whole t a ≡ whole t b → IsLook t a l → IsLook t b l
look_as t a b (look.Variable eq rigid) e h = record { number = h.number; is = sym e ∙ h.is; marked = h.marked; alone = h.alone }
look_as t a b (look.Record fields) e h = record { is = sym e ∙ h.is; rising = h.rising; has = h.has }
look_as t a b (look.Arrow from to) e h = (sym e ∙ h.0, h.1)
look_as t a b (look.Named name args) e h = (sym e ∙ h.0, h.1)
