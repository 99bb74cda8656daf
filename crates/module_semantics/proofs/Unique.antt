-- No more than one realisation matches.
use Rattle.std.proofs.Common.{◌≡◌, ℕ, zero, suc, ◌+◌, ◌<◌, refl, sym, ap, ap₂, ◌∙◌, subst, arith, List, [], ◌∷◌, ◌++◌, map, Option, Some, Bool, true, false, inl, inr}
use Rattle.std.proofs.lemmas.Bool.{eqb-true}
use Rattle.std.specs.Prelude.{eqb}
use Rattle.semantic_objects.specs.declared.name.TyName.{TyName}
use Rattle.semantic_objects.specs.declared.entry.TypeFn.{TypeFn}
use Rattle.semantic_objects.specs.declared.entry.TypeStr.{TypeStr}
use Rattle.semantic_objects.specs.declared.entry.ValueEntry.{ValueEntry}
use Rattle.semantic_objects.specs.declared.symbol.Symbol.TheVariants as symbol
use Rattle.semantic_objects.specs.Tables.{Table}
use Rattle.semantic_objects.specs.Trees.{Tree, Trees, BindsBelow, binds}
use Rattle.semantic_objects.specs.Environments.{Env, Structures, Signature, types}
use Rattle.unification.specs.Types.{State}
use Rattle.unification.specs.Closing.{plug, plug_all}
use Rattle.unification.specs.Generality.{same_trees}
use Rattle.unification.proofs.Walking.{either_way, alike_tree, and_left, and_right}
use Rattle.unification.proofs.Filling.{tree_is}
use Rattle.realisation.specs.Names.{is_listed}
use Rattle.realisation.specs.Environments.{by_types, changed, changed_structures, changed_type, changed_value, each_row}
use Rattle.realisation.specs.Realised.{Realisation, argument, put_function, realised_tree, realised_trees, realised_function, realised}
use Rattle.static_semantics.specs.Inferring.{found_at}
use Rattle.static_semantics.specs.Holding.{AllItems}
use Rattle.module_semantics.specs.SignatureNames.{variables_from, if_all, applies_all, name_over, name_alone}
use Rattle.module_semantics.specs.Matching.{Item, type_items, value_items, items_under, structure_items, items}
use Rattle.module_semantics.specs.ElaboratesSignatures.{Respects, EnrichesItem, Matches}
use Rattle.module_semantics.specs.Promises.{IsOneOf, StandAlone}

-- ---- the items of an environment whose types are changed

abbrev pub item_by : (Tree → Tree) → Item → Item
item_by f (Item.StructureItem path) = Item.StructureItem path
item_by f (Item.TypeItem path str) = Item.TypeItem path (changed_type (by_types f) str)
item_by f (Item.ValueItem path value) = Item.ValueItem path (changed_value (by_types f) value)

joined : (f : Item → Item) (xs ys : List Item) → map f (xs ++ ys) ≡ map f xs ++ map f ys
joined f [] ys = refl
joined f (x ∷ xs) ys = ap (λ zs. f x ∷ zs) (joined f xs ys)

type_items_by : (f : Tree → Tree) (path : List (List ℕ)) (ts : Table TypeStr)
    → type_items path (each_row (changed_type (by_types f)) ts) ≡ map (item_by f) (type_items path ts)
type_items_by f path [] = refl
type_items_by f path (row ∷ rows) = ap
    (λ zs. Item.TypeItem (path ++ row.0 ∷ []) (changed_type (by_types f) row.1) ∷ zs) (type_items_by f path rows)

value_items_by : (f : Tree → Tree) (path : List (List ℕ)) (vs : Table ValueEntry)
    → value_items path (each_row (changed_value (by_types f)) vs) ≡ map (item_by f) (value_items path vs)
value_items_by f path [] = refl
value_items_by f path (row ∷ rows) = ap
    (λ zs. Item.ValueItem (path ++ row.0 ∷ []) (changed_value (by_types f) row.1) ∷ zs) (value_items_by f path rows)

mutual
  pub items_by : (f : Tree → Tree) (path : List (List ℕ)) (env : Env)
      → items_under path (changed (by_types f) env) ≡ map (item_by f) (items_under path env)
  items_by f path (Env.MakeEnv ss ts vs) =
      ap₂ (λ a b. a ++ b) (structure_items_by f path ss)
      (ap₂ (λ a b. a ++ b) (type_items_by f path ts) (value_items_by f path vs)
      ∙ sym (joined (item_by f) (type_items path ts) (value_items path vs)))
      ∙ sym (joined (item_by f) (structure_items path ss) (type_items path ts ++ value_items path vs))

  structure_items_by : (f : Tree → Tree) (path : List (List ℕ)) (ss : Structures)
      → structure_items path (changed_structures (by_types f) ss) ≡ map (item_by f) (structure_items path ss)
  structure_items_by f path Structures.Nil = refl
  structure_items_by f path (Structures.Cons name env rest) =
      ap (λ zs. Item.StructureItem (path ++ name ∷ []) ∷ zs)
      (ap₂ (λ a b. a ++ b) (items_by f (path ++ name ∷ []) env) (structure_items_by f path rest)
      ∙ sym (joined (item_by f) (items_under (path ++ name ∷ []) env) (structure_items path rest)))

-- ---- one of a list

of_all : (P : Item → Type 0) (x : Item) (ys : List Item) → AllItems P ys → IsOneOf x ys → P x
of_all P x [] h i = absurd i
of_all P x (y ∷ ys) h (inl e) = subst P (sym e) h.0
of_all P x (y ∷ ys) h (inr i) = of_all P x ys h.1 i

of_map : (f : Item → Item) (x : Item) (ys : List Item) → IsOneOf x ys → IsOneOf (f x) (map f ys)
of_map f x [] i = absurd i
of_map f x (y ∷ ys) (inl e) = inl (ap f e)
of_map f x (y ∷ ys) (inr i) = inr (of_map f x ys i)

-- what holds of each item of the realised environment holds of an item realised
of_realised : (P : Item → Type 0) (φ : Realisation) (env : Env) (x : Item) → AllItems P (items (realised φ env))
    → IsOneOf x (items env) → P (item_by (realised_tree φ) x)
of_realised P φ env x h i = of_all P (item_by (realised_tree φ) x) (map (item_by (realised_tree φ)) (items env))
    (subst (AllItems P) (items_by (realised_tree φ) [] env) h) (of_map (item_by (realised_tree φ)) x (items env) i)

-- ---- a name alone

trees_are : (ts us : Trees) → same_trees ts us ≡ true → ts ≡ us
trees_are ts us h =
    let k : Tree.Made symbol.Arrow ts ≡ Tree.Made symbol.Arrow us =
    tree_is (Tree.Made symbol.Arrow ts) (Tree.Made symbol.Arrow us) h in cc

if_all_is : (c : Bool) (n name : TyName) → if_all c n ≡ Some name → (c ≡ true) × (n ≡ name)
if_all_is true n name h = (refl, (let k : n ≡ name = cc in k))
if_all_is false n name h = absurd (cc)

record IsAlone (arity : ℕ) (body : Tree) (name : TyName) : Type 0 where
  over : body ≡ Tree.Made (symbol.Name name) (variables_from arity 0)
  counted : name.arity ≡ arity

alone_is : (arity : ℕ) (body : Tree) (name : TyName) → name_over arity body ≡ Some name → IsAlone arity body name
alone_is arity (Tree.Bound i) name h = absurd (cc)
alone_is arity (Tree.Free n) name h = absurd (cc)
alone_is arity (Tree.Made symbol.Arrow ts) name h = absurd (cc)
alone_is arity (Tree.Made (symbol.Record labels) ts) name h = absurd (cc)
alone_is arity (Tree.Made (symbol.Name n) ts) name h =
    let k : (applies_all arity n ts ≡ true) × (n ≡ name) = if_all_is (applies_all arity n ts) n name h in
    record {
      over = ap₂ (λ m us. Tree.Made (symbol.Name m) us) k.1 (trees_are ts (variables_from arity 0)
          (and_right (eqb n.arity arity) (same_trees ts (variables_from arity 0)) k.0));
      counted = sym (ap (λ (m : TyName). m.arity) k.1) ∙ eqb-true n.arity arity
          (and_left (eqb n.arity arity) (same_trees ts (variables_from arity 0)) k.0);
    }

variables_stay : (φ : Realisation) (n k : ℕ) → realised_trees φ (variables_from n k) ≡ variables_from n k
variables_stay φ zero k = refl
variables_stay φ (suc n) k = ap (Trees.Cons (Tree.Bound k)) (variables_stay φ n (suc k))

variable_at : (n k i : ℕ) → i < n → argument i (variables_from n k) ≡ Tree.Bound (k + i)
variable_at zero k i h = absurd (omega (arith, h))
variable_at (suc n) k zero h = ap Tree.Bound (let e : k ≡ k + 0 = omega arith in e)
variable_at (suc n) k (suc i) h = variable_at n (suc k) i (omega (arith, h))
    ∙ ap Tree.Bound (let e : suc k + i ≡ k + suc i = omega arith in e)

plug_on : (θ : ℕ → Tree) (x : Tree) → ((i : ℕ) → binds i x ≡ true → θ i ≡ Tree.Bound i) → plug θ x ≡ x
plug_on θ x h = alike_tree Tree.Made Trees.Nil Trees.Cons (plug θ) (λ y. y) (plug_all θ) (λ ys. ys)
    (record { at_made = λ c ts. refl; at_none = refl; at_more = λ y ys. refl })
    (record { at_made = λ c ts. refl; at_none = refl; at_more = λ y ys. refl }) x h (λ n _. refl)

abbrev function_of : ℕ → Tree → TypeFn
function_of arity body = record { arity = arity; body = body }

put_alone : (φ : Realisation) (arity : ℕ) (name : TyName) (by : TypeFn) → φ name ≡ Some by → by.arity ≡ arity
    → BindsBelow by.arity by.body
    → realised_tree φ (Tree.Made (symbol.Name name) (variables_from arity 0)) ≡ by.body
put_alone φ arity name by e a closed =
    ap (put_function name (realised_trees φ (variables_from arity 0))) e
    ∙ ap (λ us. plug (λ i. argument i us) by.body) (variables_stay φ arity 0)
    ∙ plug_on (λ i. argument i (variables_from arity 0)) by.body
    (λ i b. variable_at arity 0 i (subst (λ z. i < z) a (closed i b))
    ∙ ap Tree.Bound (let z : 0 + i ≡ i = omega arith in z))

pub realised_alone : (φ : Realisation) (f : TypeFn) (name : TyName) (by : TypeFn) (s : State)
    → name_alone f ≡ Some name → φ name ≡ Some by → Respects s name by → realised_function φ f ≡ by
realised_alone φ f name by s h e r =
    let k : IsAlone f.arity f.body name = alone_is f.arity f.body name h in
    ap₂ function_of (sym k.counted ∙ sym r.arity)
    (ap (realised_tree φ) k.over ∙ put_alone φ f.arity name by e (r.arity ∙ k.counted) r.closed)

-- ---- two realisations

some_is : (a b : TypeStr) (o : Option TypeStr) → o ≡ Some a → o ≡ Some b → a ≡ b
some_is a b o h k = let e : Some a ≡ Some b = sym h ∙ k in cc

bound_same : (s : State) (env : Env) (sig : Signature) (φ ψ : Realisation) → StandAlone sig → Matches s env sig φ
    → Matches s env sig ψ → (name : TyName) → is_listed name sig.bound ≡ true → φ name ≡ ψ name
bound_same s env sig φ ψ each m n name l =
    let by : (b : TypeFn) × (φ name ≡ Some b) × Respects s name b = m.realises.bound name l in
    let other : (b : TypeFn) × (ψ name ≡ Some b) × Respects s name b = n.realises.bound name l in
    let place : (path : List (List ℕ)) × (str : TypeStr) × IsOneOf (Item.TypeItem path str) (items sig.env)
    × (name_alone str.function ≡ Some name) = each name l in
    let path : List (List ℕ) = place.0 in
    let str : TypeStr = place.1 in
    let first : EnrichesItem s env (Item.TypeItem path (changed_type (by_types (realised_tree φ)) str)) =
    of_realised (EnrichesItem s env) φ sig.env (Item.TypeItem path str) m.enriches place.2 in
    let second : EnrichesItem s env (Item.TypeItem path (changed_type (by_types (realised_tree ψ)) str)) =
    of_realised (EnrichesItem s env) ψ sig.env (Item.TypeItem path str) n.enriches place.2 in
    let found : first.0 ≡ second.0 = some_is first.0 second.0 (found_at types path env) first.1 second.1 in
    let functions : by.0 ≡ other.0 =
    sym (realised_alone φ str.function name by.0 s place.3 by.1 by.2)
    ∙ sym first.2.function ∙ ap (λ (x : TypeStr). x.function) found ∙ second.2.function
    ∙ realised_alone ψ str.function name other.0 s place.3 other.1 other.2 in
    by.1 ∙ ap Some functions ∙ sym other.1

pub no_other : (s : State) (env : Env) (sig : Signature) (φ ψ : Realisation) → StandAlone sig → Matches s env sig φ
    → Matches s env sig ψ → (name : TyName) → φ name ≡ ψ name
no_other s env sig φ ψ each m n name = either_way (is_listed name sig.bound)
    (λ l. bound_same s env sig φ ψ each m n name l)
    (λ l. m.realises.others name l ∙ sym (n.realises.others name l))
