-- Where no name in an environment is the unit's own, each of its nodes may stand whatever number the unit is at.
use Rattle.std.proofs.Common.{◌≡◌, ℕ, List, [], ◌∷◌, ◌++◌, Bool, true, false, not, ◌||◌, ltb, refl, ap, ◌∙◌, All}
use Rattle.std.proofs.lemmas.List.Elements.{All-head, All-tail}
use Rattle.semantic_objects.specs.declared.name.Owner.{Owner}
use Rattle.semantic_objects.specs.declared.name.Owner.TheVariants as owner
use Rattle.semantic_objects.specs.declared.name.TyName.{TyName}
use Rattle.semantic_objects.specs.declared.symbol.Symbol.{Symbol}
use Rattle.semantic_objects.specs.declared.symbol.Symbol.TheVariants as symbol
use Rattle.semantic_objects.specs.declared.entry.ConEntry.{ConEntry}
use Rattle.semantic_objects.specs.declared.entry.TypeStr.{TypeStr}
use Rattle.semantic_objects.specs.declared.entry.ValueEntry.{ValueEntry}
use Rattle.semantic_objects.specs.Symbols.{same_owner}
use Rattle.semantic_objects.specs.Tables.{Table}
use Rattle.semantic_objects.specs.Trees.{Tree, Trees}
use Rattle.semantic_objects.specs.Environments.{Env, Structures}
use Rattle.env_parts.specs.Types.{types_in, types_in_structures, types_in_types, types_in_values, type_types, con_types}
use Rattle.realisation.specs.Names.{names_in, names_in_all, names_in_list, names_of_symbol}
use Rattle.realisation.specs.Canonical.{is_own}
use Rattle.static_semantics.specs.DatatypeInference.{same_as_home}
use Rattle.static_semantics.specs.Holding.{AllItems, AllRows, ConHas, TypeHas, ValueHas, StructuresHave}
use Rattle.inference_laws.specs.Nodes.{Nodes, TreeOf, TreesOf, SchemeOf, FunctionOf, EnvOf, below_number, count_trees}
use Rattle.unit_laws.specs.Parts.{allowing}
use Rattle.interface_format.specs.Rules.{IsClosed, IsTypeRow, IsValueRow, IsEnv, AreEnvs}
use Rattle.import_laws.proofs.Items.{front, back}
use Rattle.import_laws.proofs.Closed.{binds_below}

-- all names that aren't the unit's own may stand
pub record Lets (home : List ℕ) (q : Nodes) : Type 0 where
  pub arrow : (parts : ℕ) → q symbol.Arrow parts ≡ true
  pub record_ : (labels : List (List ℕ)) (parts : ℕ) → q (symbol.Record labels) parts ≡ true
  pub name : (name : TyName) (parts : ℕ) → is_own home name ≡ false → q (symbol.Name name) parts ≡ true

same_home : (home : List ℕ) (o : Owner) → same_as_home home o ≡ same_owner (owner.«Unit» home) o
same_home home owner.Basis = refl
same_home home (owner.«Unit» u) = refl
same_home home owner.Bound = refl

pub lets_below : (home : List ℕ) (k : ℕ) → Lets home (below_number home k)
lets_below home k = record {
  arrow = λ parts. refl;
  record_ = λ labels parts. refl;
  name = λ name parts h. ap (λ b. not b || ltb name.number k) (same_home home name.owner ∙ h);
}

or_second : (a b : Bool) → b ≡ true → (a || b) ≡ true
or_second true b h = refl
or_second false b h = h

pub lets_allowing : (home : List ℕ) (q : Nodes) (names : List TyName) → Lets home q → Lets home (allowing names q)
lets_allowing home q names h = record {
  arrow = h.arrow;
  record_ = h.record_;
  name = λ name parts k. or_second _ (q (symbol.Name name) parts) (h.name name parts k);
}

abbrev pub AreOthers : List ℕ → List TyName → Type 0
AreOthers home names = AllItems (λ name. is_own home name ≡ false) names

-- ---- types

symbol_may : (home : List ℕ) (q : Nodes) (c : Symbol) (parts : ℕ) → Lets home q → AreOthers home (names_of_symbol c)
    → q c parts ≡ true
symbol_may home q symbol.Arrow parts l h = l.arrow parts
symbol_may home q (symbol.Record labels) parts l h = l.record_ labels parts
symbol_may home q (symbol.Name name) parts l h = l.name name parts h.0

mutual
  tree_may : (home : List ℕ) (q : Nodes) (t : Tree) → Lets home q → AreOthers home (names_in t) → TreeOf q t
  tree_may home q (Tree.Bound i) l h = tt
  tree_may home q (Tree.Free n) l h = tt
  tree_may home q (Tree.Made c ts) l h = (
    symbol_may home q c (count_trees ts) l (front _ (names_of_symbol c) (names_in_all ts) h),
    trees_may home q ts l (back _ (names_of_symbol c) (names_in_all ts) h),
  )

  trees_may : (home : List ℕ) (q : Nodes) (ts : Trees) → Lets home q → AreOthers home (names_in_all ts) → TreesOf q ts
  trees_may home q Trees.Nil l h = tt
  trees_may home q (Trees.Cons t ts) l h = (
    tree_may home q t l (front _ (names_in t) (names_in_all ts) h),
    trees_may home q ts l (back _ (names_in t) (names_in_all ts) h),
  )

-- .. of each type of a list
pub list_may : (home : List ℕ) (q : Nodes) (ts : List Tree) → Lets home q → AreOthers home (names_in_list ts)
    → AllItems (TreeOf q) ts
list_may home q [] l h = tt
list_may home q (t ∷ ts) l h = (
  tree_may home q t l (front _ (names_in t) (names_in_list ts) h),
  list_may home q ts l (back _ (names_in t) (names_in_list ts) h),
)

-- ---- environments

cons_may : (q : Nodes) (cons : List ConEntry) → All (λ (con : ConEntry). IsClosed con.scheme) cons
    → AllItems (TreeOf q) (con_types cons) → AllItems (ConHas (SchemeOf q)) cons
cons_may q [] h k = tt
cons_may q (con ∷ cons) h k = (
  record { closed = binds_below _ con.scheme.body (All-head (λ (c : ConEntry). IsClosed c.scheme) con cons h).body; body = k.0 },
  cons_may q cons (All-tail (λ (c : ConEntry). IsClosed c.scheme) con cons h) k.1,
)

types_may : (q : Nodes) (rows : Table TypeStr) → All IsTypeRow rows → AllItems (TreeOf q) (types_in_types rows)
    → AllRows (TypeHas (SchemeOf q) (FunctionOf q)) rows
types_may q [] h k = tt
types_may q (row ∷ rows) h k =
    let str = All-head IsTypeRow row rows h in
    let own = front (TreeOf q) (type_types row.1) (types_in_types rows) k in (
      (
        record { closed = binds_below _ row.1.function.body str.function.body; body = own.0 },
        cons_may q row.1.cons str.cons own.1,
      ),
      types_may q rows (All-tail IsTypeRow row rows h) (back (TreeOf q) (type_types row.1) (types_in_types rows) k),
    )

values_may : (q : Nodes) (rows : Table ValueEntry) → All IsValueRow rows → AllItems (TreeOf q) (types_in_values rows)
    → AllRows (ValueHas (SchemeOf q)) rows
values_may q [] h k = tt
values_may q (row ∷ rows) h k = (
  record { closed = binds_below _ row.1.scheme.body (All-head IsValueRow row rows h).body; body = k.0 },
  values_may q rows (All-tail IsValueRow row rows h) k.1,
)

mutual
  env_of_types : (q : Nodes) (env : Env) → IsEnv env → AllItems (TreeOf q) (types_in env) → EnvOf q env
  env_of_types q (Env.MakeEnv ss ts vs) h k =
      let rest = back (TreeOf q) (types_in_structures ss) (types_in_types ts ++ types_in_values vs) k in (
        structures_of_types q ss h.1 (front (TreeOf q) (types_in_structures ss) (types_in_types ts ++ types_in_values vs) k),
        types_may q ts h.0.types (front (TreeOf q) (types_in_types ts) (types_in_values vs) rest),
        values_may q vs h.0.values (back (TreeOf q) (types_in_types ts) (types_in_values vs) rest),
      )

  structures_of_types : (q : Nodes) (ss : Structures) → AreEnvs ss → AllItems (TreeOf q) (types_in_structures ss)
      → StructuresHave (SchemeOf q) (FunctionOf q) ss
  structures_of_types q Structures.Nil h k = tt
  structures_of_types q (Structures.Cons name env rest) h k = (
    env_of_types q env h.0 (front (TreeOf q) (types_in env) (types_in_structures rest) k),
    structures_of_types q rest h.1 (back (TreeOf q) (types_in env) (types_in_structures rest) k),
  )

pub env_may : (home : List ℕ) (q : Nodes) (env : Env) → Lets home q → IsEnv env
    → AreOthers home (names_in_list (types_in env)) → EnvOf q env
env_may home q env l h k = env_of_types q env h (list_may home q (types_in env) l k)
