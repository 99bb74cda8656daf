-- The laws of realisation: names that don't occur change nothing, two realisations are one, and instances are kept.
use Rattle.std.proofs.Common.{◌≡◌, ℕ, zero, suc, refl, sym, ap, ap₂, ◌∙◌, Option, Some, None, Bool, true, false, cond, List, []}
use Rattle.semantic_objects.specs.declared.name.TyName.{TyName}
use Rattle.semantic_objects.specs.declared.entry.TypeFn.{TypeFn}
use Rattle.semantic_objects.specs.declared.symbol.Symbol.{Symbol}
use Rattle.semantic_objects.specs.declared.symbol.Symbol.TheVariants as symbol
use Rattle.semantic_objects.specs.Trees.{Tree, Trees, TypeScheme}
use Rattle.semantic_objects.specs.Environments.{Env}
use Rattle.env_parts.specs.Types.{types_in}
use Rattle.unification.specs.Types.{Ty, Types, Substitution, Marks, is_ref, equality_of, where_parts, admits, admits_all}
use Rattle.unification.specs.Instances.{fill, fill_all, IsInstance}
use Rattle.unification.specs.Closing.{plug, plug_all}
use Rattle.unification.proofs.Walking.{either_way, and_left, and_right, and_both}
use Rattle.unification.proofs.Filling.{fill_plug, fill_same_on, admits_filled}
use Rattle.unification.proofs.Requiring.{more_parts}
use Rattle.unification.specs.declared.equality.Equality.TheVariants as equality
use Rattle.realisation.specs.Names.{names_in, names_in_all, names_of_symbol, names_in_env, is_listed}
use Rattle.realisation.specs.Environments.{by_types}
use Rattle.realisation.specs.Realised.{Realisation, argument, put_function, over_realised, realised_tree, realised_trees, realised_scheme, realised, function_then, both, type_argument, fill_function, over_filled, realised_ty, realised_types, KeepsEquality}
use Rattle.realisation.proofs.Listing.{Named, named_left, named_right, named_first, each_by_names, each_always}
use Rattle.realisation.proofs.Changing.{AgreeWhere, changed_agree, stays, changed_stays, changed_followed}

-- ---- realisations that agree on the names that occur

abbrev Agrees : Realisation → Realisation → TyName → Type 0
Agrees φ ψ name = φ name ≡ ψ name

over_agrees : (φ ψ : Realisation) (c : Symbol) (ts us : Trees) → Named (Agrees φ ψ) (names_of_symbol c) → ts ≡ us
    → over_realised φ c ts ≡ over_realised ψ c us
over_agrees φ ψ symbol.Arrow ts us h e = ap (Tree.Made symbol.Arrow) e
over_agrees φ ψ (symbol.Record labels) ts us h e = ap (Tree.Made (symbol.Record labels)) e
over_agrees φ ψ (symbol.Name name) ts us h e =
    ap₂ (λ args by. put_function name args by) e (named_first (Agrees φ ψ) name [] h)

mutual
  tree_agrees : (φ ψ : Realisation) (t : Tree) → Named (Agrees φ ψ) (names_in t)
      → realised_tree φ t ≡ realised_tree ψ t
  tree_agrees φ ψ (Tree.Bound i) h = refl
  tree_agrees φ ψ (Tree.Free n) h = refl
  tree_agrees φ ψ (Tree.Made c ts) h = over_agrees φ ψ c (realised_trees φ ts) (realised_trees ψ ts)
      (named_left (Agrees φ ψ) (names_of_symbol c) (names_in_all ts) h)
      (trees_agree φ ψ ts (named_right (Agrees φ ψ) (names_of_symbol c) (names_in_all ts) h))

  trees_agree : (φ ψ : Realisation) (ts : Trees) → Named (Agrees φ ψ) (names_in_all ts)
      → realised_trees φ ts ≡ realised_trees ψ ts
  trees_agree φ ψ Trees.Nil h = refl
  trees_agree φ ψ (Trees.Cons t ts) h = ap₂ Trees.Cons
      (tree_agrees φ ψ t (named_left (Agrees φ ψ) (names_in t) (names_in_all ts) h))
      (trees_agree φ ψ ts (named_right (Agrees φ ψ) (names_in t) (names_in_all ts) h))

abbrev function_of : ℕ → Tree → TypeFn
function_of arity body = record { arity = arity; body = body }

abbrev scheme_of : List Bool → Tree → TypeScheme
scheme_of marks body = record { marks = marks; body = body }

-- two changes of types that agree on some types
pub by_types_agree : (f g : Tree → Tree) → AgreeWhere (λ t. f t ≡ g t) (by_types f) (by_types g)
by_types_agree f g = record {
  function = λ x e. ap (function_of x.arity) e;
  scheme = λ σ e. ap (scheme_of σ.marks) e;
}

pub realised_agrees : (φ ψ : Realisation) (env : Env)
    → ((name : TyName) → is_listed name (names_in_env env) ≡ true → φ name ≡ ψ name) → realised φ env ≡ realised ψ env
realised_agrees φ ψ env h = changed_agree (λ t. realised_tree φ t ≡ realised_tree ψ t) (by_types (realised_tree φ))
    (by_types (realised_tree ψ)) (by_types_agree (realised_tree φ) (realised_tree ψ)) env
    (each_by_names (Agrees φ ψ) (λ t. realised_tree φ t ≡ realised_tree ψ t) (tree_agrees φ ψ) (types_in env) h)

-- ---- no name is replaced

abbrev nothing : Realisation
nothing name = None

over_nothing : (c : Symbol) (ts : Trees) → over_realised nothing c ts ≡ Tree.Made c ts
over_nothing symbol.Arrow ts = refl
over_nothing (symbol.Record labels) ts = refl
over_nothing (symbol.Name name) ts = refl

mutual
  tree_untouched : (t : Tree) → realised_tree nothing t ≡ t
  tree_untouched (Tree.Bound i) = refl
  tree_untouched (Tree.Free n) = refl
  tree_untouched (Tree.Made c ts) = over_nothing c (realised_trees nothing ts) ∙ ap (Tree.Made c) (trees_untouched ts)

  trees_untouched : (ts : Trees) → realised_trees nothing ts ≡ ts
  trees_untouched Trees.Nil = refl
  trees_untouched (Trees.Cons t ts) = ap₂ Trees.Cons (tree_untouched t) (trees_untouched ts)

-- a change of types that leaves some types as they are
pub by_types_stays : (f : Tree → Tree) → AgreeWhere (λ t. f t ≡ t) (by_types f) stays
by_types_stays f = record {
  function = λ x e. ap (function_of x.arity) e;
  scheme = λ σ e. ap (scheme_of σ.marks) e;
}

pub realised_untouched : (φ : Realisation) (env : Env)
    → ((name : TyName) → is_listed name (names_in_env env) ≡ true → φ name ≡ None) → realised φ env ≡ env
realised_untouched φ env h = realised_agrees φ nothing env h
    ∙ changed_agree (λ t. realised_tree nothing t ≡ t) (by_types (realised_tree nothing)) stays
    (by_types_stays (realised_tree nothing)) env (each_always (λ t. realised_tree nothing t ≡ t) tree_untouched
    (types_in env))
    ∙ changed_stays env

-- ---- trees that are put in, one after another

mutual
  plug_same : (θ η : ℕ → Tree) → ((i : ℕ) → θ i ≡ η i) → (x : Tree) → plug θ x ≡ plug η x
  plug_same θ η h (Tree.Bound i) = h i
  plug_same θ η h (Tree.Free n) = refl
  plug_same θ η h (Tree.Made c ts) = ap (Tree.Made c) (plug_all_same θ η h ts)

  plug_all_same : (θ η : ℕ → Tree) → ((i : ℕ) → θ i ≡ η i) → (xs : Trees) → plug_all θ xs ≡ plug_all η xs
  plug_all_same θ η h Trees.Nil = refl
  plug_all_same θ η h (Trees.Cons x xs) = ap₂ Trees.Cons (plug_same θ η h x) (plug_all_same θ η h xs)

mutual
  pub plug_plug : (θ η : ℕ → Tree) (x : Tree) → plug θ (plug η x) ≡ plug (λ i. plug θ (η i)) x
  plug_plug θ η (Tree.Bound i) = refl
  plug_plug θ η (Tree.Free n) = refl
  plug_plug θ η (Tree.Made c ts) = ap (Tree.Made c) (plug_all_plug θ η ts)

  plug_all_plug : (θ η : ℕ → Tree) (xs : Trees) → plug_all θ (plug_all η xs) ≡ plug_all (λ i. plug θ (η i)) xs
  plug_all_plug θ η Trees.Nil = refl
  plug_all_plug θ η (Trees.Cons x xs) = ap₂ Trees.Cons (plug_plug θ η x) (plug_all_plug θ η xs)

argument_plugged : (θ : ℕ → Tree) (i : ℕ) (ts : Trees) → argument i (plug_all θ ts) ≡ plug θ (argument i ts)
argument_plugged θ i Trees.Nil = refl
argument_plugged θ zero (Trees.Cons t ts) = refl
argument_plugged θ (suc i) (Trees.Cons t ts) = argument_plugged θ i ts

put_plugged : (θ : ℕ → Tree) (name : TyName) (ts : Trees) (by : Option TypeFn)
    → put_function name (plug_all θ ts) by ≡ plug θ (put_function name ts by)
put_plugged θ name ts None = refl
put_plugged θ name ts (Some function) =
    plug_same (λ i. argument i (plug_all θ ts)) (λ i. plug θ (argument i ts)) (λ i. argument_plugged θ i ts)
    function.body
    ∙ sym (plug_plug θ (λ i. argument i ts) function.body)

over_plugged : (ψ : Realisation) (θ : ℕ → Tree) (c : Symbol) (ts : Trees)
    → over_realised ψ c (plug_all θ ts) ≡ plug θ (over_realised ψ c ts)
over_plugged ψ θ symbol.Arrow ts = refl
over_plugged ψ θ (symbol.Record labels) ts = refl
over_plugged ψ θ (symbol.Name name) ts = put_plugged θ name ts (ψ name)

-- a realisation of what is put in
mutual
  realised_plug : (ψ : Realisation) (θ : ℕ → Tree) (x : Tree)
      → realised_tree ψ (plug θ x) ≡ plug (λ i. realised_tree ψ (θ i)) (realised_tree ψ x)
  realised_plug ψ θ (Tree.Bound i) = refl
  realised_plug ψ θ (Tree.Free n) = refl
  realised_plug ψ θ (Tree.Made c ts) = ap (over_realised ψ c) (realised_plug_all ψ θ ts)
      ∙ over_plugged ψ (λ i. realised_tree ψ (θ i)) c (realised_trees ψ ts)

  realised_plug_all : (ψ : Realisation) (θ : ℕ → Tree) (xs : Trees)
      → realised_trees ψ (plug_all θ xs) ≡ plug_all (λ i. realised_tree ψ (θ i)) (realised_trees ψ xs)
  realised_plug_all ψ θ Trees.Nil = refl
  realised_plug_all ψ θ (Trees.Cons x xs) = ap₂ Trees.Cons (realised_plug ψ θ x) (realised_plug_all ψ θ xs)

-- ---- two realisations

argument_realised : (ψ : Realisation) (i : ℕ) (ts : Trees)
    → realised_tree ψ (argument i ts) ≡ argument i (realised_trees ψ ts)
argument_realised ψ i Trees.Nil = refl
argument_realised ψ zero (Trees.Cons t ts) = refl
argument_realised ψ (suc i) (Trees.Cons t ts) = argument_realised ψ i ts

put_realised : (ψ : Realisation) (name : TyName) (ts : Trees) (by : Option TypeFn)
    → realised_tree ψ (put_function name ts by) ≡ put_function name (realised_trees ψ ts) (function_then by ψ name)
put_realised ψ name ts None = refl
put_realised ψ name ts (Some function) = realised_plug ψ (λ i. argument i ts) function.body
    ∙ plug_same (λ i. realised_tree ψ (argument i ts)) (λ i. argument i (realised_trees ψ ts))
    (λ i. argument_realised ψ i ts) (realised_tree ψ function.body)

over_realised_twice : (φ ψ : Realisation) (c : Symbol) (ts : Trees)
    → realised_tree ψ (over_realised φ c ts) ≡ over_realised (both φ ψ) c (realised_trees ψ ts)
over_realised_twice φ ψ symbol.Arrow ts = refl
over_realised_twice φ ψ (symbol.Record labels) ts = refl
over_realised_twice φ ψ (symbol.Name name) ts = put_realised ψ name ts (φ name)

mutual
  tree_twice : (φ ψ : Realisation) (t : Tree) → realised_tree ψ (realised_tree φ t) ≡ realised_tree (both φ ψ) t
  tree_twice φ ψ (Tree.Bound i) = refl
  tree_twice φ ψ (Tree.Free n) = refl
  tree_twice φ ψ (Tree.Made c ts) = over_realised_twice φ ψ c (realised_trees φ ts)
      ∙ ap (over_realised (both φ ψ) c) (trees_twice φ ψ ts)

  trees_twice : (φ ψ : Realisation) (ts : Trees) → realised_trees ψ (realised_trees φ ts) ≡ realised_trees (both φ ψ) ts
  trees_twice φ ψ Trees.Nil = refl
  trees_twice φ ψ (Trees.Cons t ts) = ap₂ Trees.Cons (tree_twice φ ψ t) (trees_twice φ ψ ts)

pub realised_twice : (φ ψ : Realisation) (env : Env) → realised ψ (realised φ env) ≡ realised (both φ ψ) env
realised_twice φ ψ env = changed_followed (by_types (realised_tree φ)) (by_types (realised_tree ψ)) env
    ∙ changed_agree (λ t. realised_tree ψ (realised_tree φ t) ≡ realised_tree (both φ ψ) t)
    (by_types (λ t. realised_tree ψ (realised_tree φ t))) (by_types (realised_tree (both φ ψ)))
    (by_types_agree (λ t. realised_tree ψ (realised_tree φ t)) (realised_tree (both φ ψ))) env
    (each_always (λ t. realised_tree ψ (realised_tree φ t) ≡ realised_tree (both φ ψ) t) (tree_twice φ ψ)
    (types_in env))

-- ---- instances

argument_filled : (b f : Substitution) (i : ℕ) (ts : Trees)
    → type_argument i (fill_all b f ts) ≡ fill b f (argument i ts)
argument_filled b f i Trees.Nil = refl
argument_filled b f zero (Trees.Cons t ts) = refl
argument_filled b f (suc i) (Trees.Cons t ts) = argument_filled b f i ts

put_filled : (b : Substitution) (name : TyName) (ts : Trees) (by : Option TypeFn)
    → fill_function name (fill_all b Ty.Var ts) by ≡ fill b Ty.Var (put_function name ts by)
put_filled b name ts None = refl
put_filled b name ts (Some function) =
    fill_same_on (λ i. type_argument i (fill_all b Ty.Var ts)) (λ i. fill b Ty.Var (argument i ts)) Ty.Var function.body
    (λ i _. argument_filled b Ty.Var i ts)
    ∙ sym (fill_plug b Ty.Var (λ i. argument i ts) function.body)

over_filled_is : (φ : Realisation) (b : Substitution) (c : Symbol) (ts : Trees)
    → over_filled φ c (fill_all b Ty.Var ts) ≡ fill b Ty.Var (over_realised φ c ts)
over_filled_is φ b symbol.Arrow ts = refl
over_filled_is φ b (symbol.Record labels) ts = refl
over_filled_is φ b (symbol.Name name) ts = put_filled b name ts (φ name)

mutual
  realised_fill : (φ : Realisation) (b : Substitution) (x : Tree)
      → realised_ty φ (fill b Ty.Var x) ≡ fill (λ i. realised_ty φ (b i)) Ty.Var (realised_tree φ x)
  realised_fill φ b (Tree.Bound i) = refl
  realised_fill φ b (Tree.Free n) = refl
  realised_fill φ b (Tree.Made c ts) = ap (over_filled φ c) (realised_fill_all φ b ts)
      ∙ over_filled_is φ (λ i. realised_ty φ (b i)) c (realised_trees φ ts)

  realised_fill_all : (φ : Realisation) (b : Substitution) (xs : Trees)
      → realised_types φ (fill_all b Ty.Var xs) ≡ fill_all (λ i. realised_ty φ (b i)) Ty.Var (realised_trees φ xs)
  realised_fill_all φ b Trees.Nil = refl
  realised_fill_all φ b (Trees.Cons x xs) = ap₂ Types.Cons (realised_fill φ b x) (realised_fill_all φ b xs)

-- arguments of an equality type are equality types
argument_admits : (q : Marks) (i : ℕ) (ts : Types) → admits_all q ts ≡ true → admits q (type_argument i ts) ≡ true
argument_admits q i Types.Nil h = refl
argument_admits q zero (Types.Cons t ts) h = and_left (admits q t) (admits_all q ts) h
argument_admits q (suc i) (Types.Cons t ts) h = argument_admits q i ts (and_right (admits q t) (admits_all q ts) h)

-- an equality type over a type name that isn't `ref`: the name admits equality, and so do the arguments
named_admits : (r e p : Bool) → r ≡ false
    → where_parts (cond r equality.Always (cond e equality.ByParts equality.Never)) p ≡ true
    → (e ≡ true) × (p ≡ true)
named_admits true e p k h = absurd (cc)
named_admits false true p k h = (refl, h)
named_admits false false p k h = absurd (cc)

some_is_none : (by : TypeFn) (found : Option TypeFn) → found ≡ Some by → found ≡ None → ⊥
some_is_none by found h k = let e : Some by ≡ None = sym h ∙ k in cc

isn't_ref : (q : Marks) (φ : Realisation) → KeepsEquality q φ → (name : TyName) (by : TypeFn) → φ name ≡ Some by
    → is_ref name ≡ false
isn't_ref q φ keeps name by h = either_way (is_ref name)
    (λ e. absurd (some_is_none by (φ name) h (keeps.ref name e))) (λ e. e)

put_admits : (q : Marks) (φ : Realisation) → KeepsEquality q φ → (name : TyName) (ts us : Types) (found : Option TypeFn)
    → φ name ≡ found → (admits_all q ts ≡ true → admits_all q us ≡ true)
    → admits q (Ty.Made (symbol.Name name) ts) ≡ true → admits q (fill_function name us found) ≡ true
put_admits q φ keeps name ts us None e more h =
    more_parts (equality_of (symbol.Name name)) (admits_all q ts) (admits_all q us) more h
put_admits q φ keeps name ts us (Some by) e more h =
    let k : (name.eq ≡ true) × (admits_all q ts ≡ true) =
    named_admits (is_ref name) name.eq (admits_all q ts) (isn't_ref q φ keeps name by e) h in
    admits_filled (λ i. true) q q (λ i. type_argument i us) by.body (λ i _. argument_admits q i us (more k.1))
    (λ n l. l) (keeps.admits name by e k.0)

over_admits : (q : Marks) (φ : Realisation) → KeepsEquality q φ → (c : Symbol) (ts us : Types)
    → (admits_all q ts ≡ true → admits_all q us ≡ true)
    → admits q (Ty.Made c ts) ≡ true → admits q (over_filled φ c us) ≡ true
over_admits q φ keeps symbol.Arrow ts us more h = absurd (cc)
over_admits q φ keeps (symbol.Record labels) ts us more h = more h
over_admits q φ keeps (symbol.Name name) ts us more h = put_admits q φ keeps name ts us (φ name) refl more h

mutual
  realised_admits : (q : Marks) (φ : Realisation) → KeepsEquality q φ → (t : Ty) → admits q t ≡ true
      → admits q (realised_ty φ t) ≡ true
  realised_admits q φ keeps (Ty.Var n) h = h
  realised_admits q φ keeps (Ty.Made c ts) h =
      over_admits q φ keeps c ts (realised_types φ ts) (realised_all_admit q φ keeps ts) h

  realised_all_admit : (q : Marks) (φ : Realisation) → KeepsEquality q φ → (ts : Types) → admits_all q ts ≡ true
      → admits_all q (realised_types φ ts) ≡ true
  realised_all_admit q φ keeps Types.Nil h = refl
  realised_all_admit q φ keeps (Types.Cons t ts) h = and_both (admits q (realised_ty φ t))
      (admits_all q (realised_types φ ts))
      (realised_admits q φ keeps t (and_left (admits q t) (admits_all q ts) h))
      (realised_all_admit q φ keeps ts (and_right (admits q t) (admits_all q ts) h))

pub instances_kept : (q : Marks) (φ : Realisation) (σ : TypeScheme) (t : Ty) → KeepsEquality q φ → IsInstance q σ t
    → IsInstance q (realised_scheme φ σ) (realised_ty φ t)
instances_kept q φ σ t keeps i = record {
  by = λ n. realised_ty φ (i.by n);
  admitted = λ n m. realised_admits q φ keeps (i.by n) (i.admitted n m);
  is = sym (realised_fill φ i.by σ.body) ∙ ap (realised_ty φ) i.is;
}
