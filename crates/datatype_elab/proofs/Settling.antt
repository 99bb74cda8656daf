-- Types with the equality of new names that was chosen.
use Rattle.std.proofs.Common.{◌≡◌, ℕ, ◌-◌, List, [], ◌∷◌, length, map, get_or, refl, sym, ap, ap₂, ◌∙◌, subst, Option, Some, None, Bool, true, false, ◌||◌, cond, zero, suc, slice_get}
use Rattle.std.specs.Prelude.{Result, Ok, Err, IfOk}
use Rattle.semantic_objects.specs.declared.name.TyName.{TyName}
use Rattle.semantic_objects.specs.declared.node.TypeNode.{TypeNode}
use Rattle.semantic_objects.specs.declared.node.TypeNode.TheVariants as node
use Rattle.semantic_objects.specs.declared.symbol.Symbol.{Symbol}
use Rattle.semantic_objects.specs.declared.symbol.Symbol.TheVariants as symbol
use Rattle.semantic_objects.specs.Symbols.{part_count, HasRisingLabels}
use Rattle.semantic_objects.specs.Nodes.{root, AreTree}
use Rattle.semantic_objects.specs.Trees.{Tree, Trees, TypeScheme, binds, binds_any, BindsBelow}
use Rattle.unification.proofs.Walking.{or_either}
use Rattle.static_semantics.specs.DatatypeInference.{is_new, settled_name, settled_symbol}
use Rattle.listed_types.specs.declared.listed.ListedType.{ListedType}
use Rattle.listed_types.specs.Mapped.{mapped, mapped_all, mapped_node}
use Rattle.listed_types.proofs.Mapping.{MayMap, mapped_root, mapped_are}
use Rattle.datatype_elab.specs.declared.needs.NewNames.{NewNames}
use Rattle.datatype_elab.specs.Wants.{new_place}
use Rattle.datatype_elab.specs.Making.{con_tree, ArgBinds}

some_place : (b : Bool) (n p : ℕ) → Some p ≡ cond b (Some n) None → (b ≡ true) × (p ≡ n)
some_place true n p e = (refl, let k : p ≡ n = cc in k)
some_place false n p e = absurd (cc)

none_place : (b : Bool) (n : ℕ) → None ≡ cond b (Some n) None → b ≡ false
none_place true n e = absurd (cc)
none_place false n e = refl

abbrev with_eq : TyName → Bool → TyName
with_eq name eq = record { owner = name.owner; number = name.number; arity = name.arity; eq = eq }

pub name_chosen : (new : NewNames) (choice : List Bool) (name copy : TyName) (p : ℕ) (eq : Bool)
    → new.count ≡ length choice → Some p ≡ new_place new name → copy ≡ name → eq ≡ get_or choice p false
    → with_eq copy eq ≡ settled_name new.home new.first choice name
name_chosen new choice name copy p eq count e f h =
    let k = some_place (is_new new.home new.first new.count name) (name.number - new.first) p e in
    ap₂ with_eq f (h ∙ ap (λ n. get_or choice n false) k.1)
    ∙ ap (λ b. cond b (with_eq name (get_or choice (name.number - new.first) false)) name)
    (sym k.0 ∙ ap (λ n. is_new new.home new.first n name) count)

pub name_same : (new : NewNames) (choice : List Bool) (name : TyName) → new.count ≡ length choice
    → None ≡ new_place new name → name ≡ settled_name new.home new.first choice name
name_same new choice name count e =
    ap (λ b. cond b (with_eq name (get_or choice (name.number - new.first) false)) name)
    (sym (none_place (is_new new.home new.first new.count name) (name.number - new.first) e)
    ∙ ap (λ n. is_new new.home new.first n name) count)

-- ---- trees

count_by : (b : Bool) (name : TyName) (eq : Bool) → (cond b (with_eq name eq) name).arity ≡ name.arity
count_by true name eq = refl
count_by false name eq = refl

settled_counted : (home : List ℕ) (first : ℕ) (choice : List Bool) (c : Symbol)
    → part_count (settled_symbol home first choice c) ≡ part_count c
settled_counted home first choice symbol.Arrow = refl
settled_counted home first choice (symbol.Record labels) = refl
settled_counted home first choice (symbol.Name name) =
    count_by (is_new home first (length choice) name) name (get_or choice (name.number - first) false)

settled_rising : (home : List ℕ) (first : ℕ) (choice : List Bool) (c : Symbol) → HasRisingLabels c
    → HasRisingLabels (settled_symbol home first choice c)
settled_rising home first choice symbol.Arrow h = tt
settled_rising home first choice (symbol.Record labels) h = h
settled_rising home first choice (symbol.Name name) h = tt

settled_may : (home : List ℕ) (first : ℕ) (choice : List Bool)
    → MayMap node.Free (settled_symbol home first choice) Tree.Free
settled_may home first choice = record {
  leaves = λ made n. refl;
  nodes = λ p n. tt;
  counted = settled_counted home first choice;
  rising = settled_rising home first choice;
}

pub tree_settled : (home : List ℕ) (first : ℕ) (choice : List Bool) (xs new : List TypeNode) (x : Tree)
    → new ≡ map (mapped_node node.Free (settled_symbol home first choice)) xs → root xs ≡ x
    → root new ≡ mapped Tree.Free (settled_symbol home first choice) x
tree_settled home first choice xs new x e f =
    mapped_root node.Free (settled_symbol home first choice) Tree.Free (settled_may home first choice) xs new e
    ∙ ap (mapped Tree.Free (settled_symbol home first choice)) f

pub nodes_settled : (home : List ℕ) (first : ℕ) (choice : List Bool) (xs new : List TypeNode)
    → new ≡ map (mapped_node node.Free (settled_symbol home first choice)) xs → AreTree xs → AreTree new
nodes_settled home first choice xs new e h =
    mapped_are node.Free (settled_symbol home first choice) Tree.Free (settled_may home first choice) xs new e h

mutual
  mapped_binds : (σ : Symbol → Symbol) (i : ℕ) (x : Tree) → binds i (mapped Tree.Free σ x) ≡ binds i x
  mapped_binds σ i (Tree.Bound j) = refl
  mapped_binds σ i (Tree.Free n) = refl
  mapped_binds σ i (Tree.Made c ts) = mapped_all_binds σ i ts

  mapped_all_binds : (σ : Symbol → Symbol) (i : ℕ) (xs : Trees) → binds_any i (mapped_all Tree.Free σ xs) ≡ binds_any i xs
  mapped_all_binds σ i Trees.Nil = refl
  mapped_all_binds σ i (Trees.Cons x xs) = ap₂ (λ a b. a || b) (mapped_binds σ i x) (mapped_all_binds σ i xs)

pub con_binds : (home : List ℕ) (first : ℕ) (choice : List Bool) (of : Tree) (arg : Option ListedType) (k : ℕ)
    → BindsBelow k of → ArgBinds k arg → BindsBelow k (con_tree home first choice of arg)
con_binds home first choice of None k h l = h
con_binds home first choice of (Some a) k h l = λ i e.
    or_either (binds i (mapped Tree.Free (settled_symbol home first choice) a.tree)) (binds i of || false) e
    (λ b. l i (sym (mapped_binds (settled_symbol home first choice) i a.tree) ∙ b))
    (λ b. or_either (binds i of) false b (h i) (λ f. absurd (cc)))

pub scheme_binds : (home : List ℕ) (first : ℕ) (choice : List Bool) (of body : Tree) (arg : Option ListedType)
    (marks copy : List Bool) → BindsBelow (length marks) of → ArgBinds (length marks) arg
    → body ≡ con_tree home first choice of arg → copy ≡ marks → BindsBelow (length copy) body
scheme_binds home first choice of body arg marks copy h l e f =
    subst (λ ms. BindsBelow (length ms) body) (sym f)
    (subst (BindsBelow (length marks)) (sym e) (con_binds home first choice of arg (length marks) h l))

pub scheme_is : {E : Type 0} (r : Result TypeScheme E) (marks copy : List Bool) (body want : Tree) → copy ≡ marks
    → body ≡ want → IfOk r (λ σ. σ.marks ≡ copy) → IfOk r (λ σ. σ.body ≡ body)
    → IfOk r (λ σ. σ ≡ (let scheme : TypeScheme = record { marks = marks; body = want } in scheme))
scheme_is (Ok σ) marks copy body want e f h k =
    ap₂ (λ ms b. (let scheme : TypeScheme = record { marks = ms; body = b } in scheme)) (h ∙ e) (k ∙ f)
scheme_is (Err x) marks copy body want e f h k = tt

pub none_get : (xs : List Bool) (p : ℕ) → None ≡ slice_get xs p → false ≡ get_or xs p false
none_get [] p e = refl
none_get (x ∷ xs) zero e = absurd (cc)
none_get (x ∷ xs) (suc p) e = none_get xs p e
