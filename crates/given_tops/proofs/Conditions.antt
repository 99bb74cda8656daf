-- What may be given is what the rules ask of it.
use Rattle.std.proofs.Common.{◌≡◌, ℕ, List, [], ◌∷◌, ◌++◌, length, map, drop, refl, sym, ap, ◌∙◌, subst, Bool, true, false, ◌≤◌}
use Rattle.std.specs.Prelude.{◌↔◌, Result, Ok, Err, IfOk}
use Rattle.unification.proofs.Walking.{not_both}
use Rattle.env_parts.proofs.Tabling.{drop_past}
use Rattle.semantic_objects.specs.declared.entry.ConEntry.{ConEntry}
use Rattle.semantic_objects.specs.declared.entry.TypeFn.{TypeFn}
use Rattle.semantic_objects.specs.declared.entry.TypeStr.{TypeStr}
use Rattle.semantic_objects.specs.declared.entry.ValueEntry.{ValueEntry}
use Rattle.semantic_objects.specs.declared.symbol.Symbol.{Symbol}
use Rattle.semantic_objects.specs.Trees.{TypeScheme}
use Rattle.semantic_objects.specs.Tables.{Table, IsTable}
use Rattle.semantic_objects.specs.Environments.{Env, Structures, Signature, Functor, Top}
use Rattle.env_parts.specs.declared.tables.TopTables.{TopTables}
use Rattle.sml_modules.specs.declared.node.SigNode.{SigNode}
use Rattle.sml_modules.specs.declared.node.FunNode.{FunNode}
use Rattle.sml_modules.specs.declared.node.Node.TheVariants as node
use Rattle.sml_modules.specs.Items.{Item, at, as_env, as_signature, as_functor, map_rows}
use Rattle.sml_modules.specs.Nodes.{top_of_tables}
use Rattle.sml_modules.specs.Adding.{StandsAt}
use Rattle.static_semantics.specs.Holding.{AllItems, AllRows, ConHas, TypeHas, ValueHas, StructuresHave, EnvHas}
use Rattle.static_semantics.proofs.Holding.{env_more, rows_more}
use Rattle.inference_laws.specs.Nodes.{Nodes, SchemeOf, FunctionOf, EnvOf, below_number}
use Rattle.inference_laws.proofs.Both.{env_both}
use Rattle.unit_semantics.specs.Promises.{IsClosedScheme, IsClosedFunction, IsClosedEnv, IsClosedSignature, IsClosedFunctor, IsClosedTop}
use Rattle.unit_laws.specs.Parts.{AreBoundFrom, allowing, SignatureOf, FunctorOf, TopOf}
use Rattle.table_laws.specs.Rising.{TableWith, RisingEnv, RisingSignature, RisingFunctor, RisingTop}
use Rattle.given_tops.specs.Fitting.{SchemeFits, FunctionFits, EnvFits, SignatureFits, FunctorFits, TopFits}
use Rattle.given_tops.proofs.Rows.{mapped_table}
use Rattle.given_tops.proofs.Bound.{allowed_more, one_less, two_less}

-- ---- environments

module _ (q : Nodes) where
  cons_fit : (cons : List ConEntry) → AllItems (ConHas (SchemeOf q)) cons → AllItems (ConHas IsClosedScheme) cons
      → AllItems (ConHas (SchemeFits q)) cons
  cons_fit [] h k = tt
  cons_fit (con ∷ cons) h k = (record { of = h.0; closed = k.0 }, cons_fit cons h.1 k.1)

  types_fit : (rows : Table TypeStr) → AllRows (TypeHas (SchemeOf q) (FunctionOf q)) rows
      → AllRows (TypeHas IsClosedScheme IsClosedFunction) rows
      → AllRows (TypeHas (SchemeFits q) (FunctionFits q)) rows
  types_fit [] h k = tt
  types_fit (row ∷ rows) h k = (
    (record { of = h.0.0; closed = k.0.0 }, cons_fit row.1.cons h.0.1 k.0.1),
    types_fit rows h.1 k.1,
  )

  values_fit : (rows : Table ValueEntry) → AllRows (ValueHas (SchemeOf q)) rows → AllRows (ValueHas IsClosedScheme) rows
      → AllRows (ValueHas (SchemeFits q)) rows
  values_fit [] h k = tt
  values_fit (row ∷ rows) h k = (record { of = h.0; closed = k.0 }, values_fit rows h.1 k.1)

  mutual
    env_fit : (env : Env) → EnvOf q env → IsClosedEnv env → EnvHas (SchemeFits q) (FunctionFits q) env
    env_fit (Env.MakeEnv ss ts vs) h k = (structures_fit ss h.0 k.0, types_fit ts h.1 k.1, values_fit vs h.2 k.2)

    structures_fit : (ss : Structures) → StructuresHave (SchemeOf q) (FunctionOf q) ss
        → StructuresHave IsClosedScheme IsClosedFunction ss → StructuresHave (SchemeFits q) (FunctionFits q) ss
    structures_fit Structures.Nil h k = tt
    structures_fit (Structures.Cons name env rest) h k = (env_fit env h.0 k.0, structures_fit rest h.1 k.1)

  env_of : (env : Env) → EnvFits q env → EnvOf q env
  env_of env h = env_more (SchemeFits q) (SchemeOf q) (FunctionFits q) (FunctionOf q)
      (λ (σ : TypeScheme) k. k.of) (λ (function : TypeFn) k. k.of) env h.has

  env_closed : (env : Env) → EnvFits q env → IsClosedEnv env
  env_closed env h = env_more (SchemeFits q) IsClosedScheme (FunctionFits q) IsClosedFunction
      (λ (σ : TypeScheme) k. k.closed) (λ (function : TypeFn) k. k.closed) env h.has

  fits_env : (env : Env) → EnvOf q env → IsClosedEnv env → RisingEnv env → EnvFits q env
  fits_env env h k r = record { has = env_fit env h k; rises = r }

-- environments of nodes that are so too
env_as : (q r : Nodes) → ((c : Symbol) (n : ℕ) → q c n ≡ true → r c n ≡ true) → (env : Env) → EnvOf q env → EnvOf r env
env_as q r f env h = env_both q q r (λ c n i j. f c n i) env h h

-- ---- signatures, functors and tops

rows_three : {A : Type 0} (R Q S T : A → Type 0) (rows : Table A) → ((x : A) → R x → Q x → S x → T x) → AllRows R rows
    → AllRows Q rows → AllRows S rows → AllRows T rows
rows_three R Q S T [] f h k l = tt
rows_three R Q S T (row ∷ rows) f h k l = (f row.1 h.0 k.0 l.0, rows_three R Q S T rows f h.1 k.1 l.1)

module _ (home : List ℕ) (k : ℕ) where
  signature_of : (sig : Signature) → SignatureFits (below_number home k) sig → SignatureOf (below_number home k) sig
  signature_of sig h = record {
    bound = h.bound;
    env = env_as (below_number home k) (allowing sig.bound (below_number home k))
        (allowed_more sig.bound (below_number home k)) sig.env (env_of (below_number home k) sig.env h.env);
  }

  signature_closed : (sig : Signature) → SignatureFits (below_number home k) sig → IsClosedSignature sig
  signature_closed sig h = env_closed (below_number home k) sig.env h.env

  signature_rises : (sig : Signature) → SignatureFits (below_number home k) sig → RisingSignature sig
  signature_rises sig h = h.env.rises

  fits_signature : (sig : Signature) → SignatureOf (below_number home k) sig → IsClosedSignature sig → RisingSignature sig
      → SignatureFits (below_number home k) sig
  fits_signature sig h c r = record {
    bound = h.bound;
    env = fits_env (below_number home k) sig.env
        (env_as (allowing sig.bound (below_number home k)) (below_number home k)
        (one_less sig.bound 0 home k h.bound) sig.env h.env) c r;
  }

  functor_of : (fun : Functor) → FunctorFits (below_number home k) fun → FunctorOf (below_number home k) fun
  functor_of fun h = record {
    bound = h.bound;
    param = env_as (below_number home k) (allowing fun.bound (below_number home k))
        (allowed_more fun.bound (below_number home k)) fun.param (env_of (below_number home k) fun.param h.param);
    further = h.further;
    result = env_as (below_number home k) (allowing (fun.bound ++ fun.further) (below_number home k))
        (allowed_more (fun.bound ++ fun.further) (below_number home k)) fun.result
        (env_of (below_number home k) fun.result h.result);
  }

  functor_closed : (fun : Functor) → FunctorFits (below_number home k) fun → IsClosedFunctor fun
  functor_closed fun h = record {
    param = env_closed (below_number home k) fun.param h.param;
    result = env_closed (below_number home k) fun.result h.result;
  }

  functor_rises : (fun : Functor) → FunctorFits (below_number home k) fun → RisingFunctor fun
  functor_rises fun h = (h.param.rises, h.result.rises)

  fits_functor : (fun : Functor) → FunctorOf (below_number home k) fun → IsClosedFunctor fun → RisingFunctor fun
      → FunctorFits (below_number home k) fun
  fits_functor fun h c r = record {
    bound = h.bound;
    further = h.further;
    param = fits_env (below_number home k) fun.param
        (env_as (allowing fun.bound (below_number home k)) (below_number home k)
        (one_less fun.bound 0 home k h.bound) fun.param h.param) c.param r.0;
    result = fits_env (below_number home k) fun.result
        (env_as (allowing (fun.bound ++ fun.further) (below_number home k)) (below_number home k)
        (two_less fun.bound fun.further 0 (length fun.bound) home k h.bound h.further) fun.result h.result) c.result r.1;
  }

  top_of : (top : Top) → TopFits (below_number home k) top → TopOf (below_number home k) top
  top_of top h = record {
    env = env_of (below_number home k) top.env h.env;
    signatures = rows_more (SignatureFits (below_number home k)) (SignatureOf (below_number home k)) top.signatures
        signature_of h.signatures.1;
    functors = rows_more (FunctorFits (below_number home k)) (FunctorOf (below_number home k)) top.functors functor_of
        h.functors.1;
    funsigs = rows_more (FunctorFits (below_number home k)) (FunctorOf (below_number home k)) top.funsigs functor_of
        h.funsigs.1;
  }

  top_closed : (top : Top) → TopFits (below_number home k) top → IsClosedTop top
  top_closed top h = record {
    env = env_closed (below_number home k) top.env h.env;
    signatures = rows_more (SignatureFits (below_number home k)) IsClosedSignature top.signatures signature_closed
        h.signatures.1;
    functors = rows_more (FunctorFits (below_number home k)) IsClosedFunctor top.functors functor_closed h.functors.1;
    funsigs = rows_more (FunctorFits (below_number home k)) IsClosedFunctor top.funsigs functor_closed h.funsigs.1;
  }

  top_rises : (top : Top) → TopFits (below_number home k) top → RisingTop top
  top_rises top h = record {
    env = h.env.rises;
    signatures = (
      h.signatures.0,
      rows_more (SignatureFits (below_number home k)) RisingSignature top.signatures
          signature_rises h.signatures.1,
    );
    functors = (
      h.functors.0,
      rows_more (FunctorFits (below_number home k)) RisingFunctor top.functors functor_rises
          h.functors.1,
    );
    funsigs = (
      h.funsigs.0,
      rows_more (FunctorFits (below_number home k)) RisingFunctor top.funsigs functor_rises
          h.funsigs.1,
    );
  }

  fits_top : (top : Top) → TopOf (below_number home k) top → RisingTop top → IsClosedTop top
      → TopFits (below_number home k) top
  fits_top top h r c = record {
    env = fits_env (below_number home k) top.env h.env c.env r.env;
    signatures = (
      r.signatures.0,
      rows_three (SignatureOf (below_number home k)) IsClosedSignature RisingSignature
          (SignatureFits (below_number home k)) top.signatures fits_signature h.signatures c.signatures r.signatures.1,
    );
    functors = (
      r.functors.0,
      rows_three (FunctorOf (below_number home k)) IsClosedFunctor RisingFunctor
          (FunctorFits (below_number home k)) top.functors fits_functor h.functors c.functors r.functors.1,
    );
    funsigs = (
      r.funsigs.0,
      rows_three (FunctorOf (below_number home k)) IsClosedFunctor RisingFunctor
          (FunctorFits (below_number home k)) top.funsigs fits_functor h.funsigs c.funsigs r.funsigs.1,
    );
  }

  top_is : (top : Top) (b : Bool) → (b ≡ true) ↔ TopFits (below_number home k) top
      → (b ≡ true) ↔ (TopOf (below_number home k) top × RisingTop top × IsClosedTop top)
  top_is top b h = (
    λ t. (let f : TopFits (below_number home k) top = h.0 t in (top_of top f, top_rises top f, top_closed top f)),
    λ p. h.1 (fits_top top p.0 p.1 p.2),
  )

  -- .. where home and number are those of a graph
  pub front_is : {E : Type 0} (h : List ℕ) (n : ℕ) (top : Top) (r : Result Bool E) → h ≡ home → n ≡ k
      → IfOk r (λ b. (b ≡ true) ↔ TopFits (below_number h n) top)
      → IfOk r (λ b. (b ≡ true) ↔ (TopOf (below_number home k) top × RisingTop top × IsClosedTop top))
  front_is h n top (Ok b) e f s =
      top_is top b (subst (λ z. (b ≡ true) ↔ TopFits (below_number z k) top) e
      (subst (λ m. (b ≡ true) ↔ TopFits (below_number h m) top) f s))
  front_is h n top (Err x) e f s = tt

-- ---- what stands at places

pub signature_is : (q : Nodes) (items : List Item) (place : ℕ) (sig : SigNode) (a b : Bool)
    → StandsAt items place (node.Signature sig) → (a ≡ true) ↔ AreBoundFrom 0 sig.bound → a ≡ true
    → (b ≡ true) ↔ EnvFits q (as_env (at items sig.env))
    → (b ≡ true) ↔ SignatureFits q (as_signature (at items place))
signature_is q items place sig a b s o t e =
    subst (λ x. (b ≡ true) ↔ SignatureFits q (as_signature x)) (sym s.is) (
      λ i. record { bound = o.0 t; env = e.0 i },
      λ h. e.1 h.env,
    )

pub signature_not : (q : Nodes) (items : List Item) (place : ℕ) (sig : SigNode) (a : Bool)
    → StandsAt items place (node.Signature sig) → (a ≡ true) ↔ AreBoundFrom 0 sig.bound → a ≡ false
    → (false ≡ true) ↔ SignatureFits q (as_signature (at items place))
signature_not q items place sig a s o f =
    subst (λ x. (false ≡ true) ↔ SignatureFits q (as_signature x)) (sym s.is) (
      λ t. absurd (cc),
      λ h. absurd (not_both a f (o.1 h.bound)),
    )

abbrev pub BindsInOrder : FunNode → Type 0
BindsInOrder fun = AreBoundFrom 0 fun.bound × AreBoundFrom (length fun.bound) fun.further

pub functor_is : (q : Nodes) (items : List Item) (place : ℕ) (fun : FunNode) (a p b : Bool)
    → StandsAt items place (node.Functor fun) → (a ≡ true) ↔ BindsInOrder fun → a ≡ true
    → (p ≡ true) ↔ EnvFits q (as_env (at items fun.param)) → p ≡ true
    → (b ≡ true) ↔ EnvFits q (as_env (at items fun.result))
    → (b ≡ true) ↔ FunctorFits q (as_functor (at items place))
functor_is q items place fun a p b s o t e u r =
    subst (λ x. (b ≡ true) ↔ FunctorFits q (as_functor x)) (sym s.is) (
      λ i. record { bound = (o.0 t).0; further = (o.0 t).1; param = e.0 u; result = r.0 i },
      λ h. r.1 h.result,
    )

pub functor_unbound : (q : Nodes) (items : List Item) (place : ℕ) (fun : FunNode) (a : Bool)
    → StandsAt items place (node.Functor fun) → (a ≡ true) ↔ BindsInOrder fun → a ≡ false
    → (false ≡ true) ↔ FunctorFits q (as_functor (at items place))
functor_unbound q items place fun a s o f =
    subst (λ x. (false ≡ true) ↔ FunctorFits q (as_functor x)) (sym s.is) (
      λ t. absurd (cc),
      λ h. absurd (not_both a f (o.1 (h.bound, h.further))),
    )

pub functor_not : (q : Nodes) (items : List Item) (place : ℕ) (fun : FunNode) (p : Bool)
    → StandsAt items place (node.Functor fun) → (p ≡ true) ↔ EnvFits q (as_env (at items fun.param)) → p ≡ false
    → (false ≡ true) ↔ FunctorFits q (as_functor (at items place))
functor_not q items place fun p s e f =
    subst (λ x. (false ≡ true) ↔ FunctorFits q (as_functor x)) (sym s.is) (
      λ t. absurd (cc),
      λ h. absurd (not_both p f (e.1 h.param)),
    )

-- ---- tables of places

module _ (P : ℕ → Type 0) where
  pub place_next : (rest more all : List ℕ) (place : ℕ) (b : Bool) → rest ≡ place ∷ more → (b ≡ true) ↔ P place
      → b ≡ true → AllItems P rest ↔ AllItems P all → AllItems P more ↔ AllItems P all
  place_next rest more all place b e s t h = (
    λ k. h.0 (subst (AllItems P) (sym e) (s.0 t, k)),
    λ k. (subst (AllItems P) e (h.1 k)).1,
  )

  pub place_fails : (rest more all : List ℕ) (place : ℕ) (b : Bool) → rest ≡ place ∷ more → (b ≡ true) ↔ P place
      → b ≡ false → AllItems P rest ↔ AllItems P all → AllItems P all → ⊥
  place_fails rest more all place b e s f h k =
      not_both b f (s.1 (subst (AllItems P) e (h.1 k)).0)

  pub places_end : (all items : List ℕ) (k : ℕ) → items ≡ all → length items ≤ k
      → AllItems P (drop k all) ↔ AllItems P all → AllItems P all
  places_end all items k e l h =
      h.0 (subst (AllItems P) (sym (drop_past k all (subst (λ (z : List ℕ). length z ≤ k) e l))) tt)

module _ {A : Type 0} (f : ℕ → A) (R : A → Type 0) where
  rows_at : (rows : Table ℕ) → AllItems (λ p. R (f p)) (map (λ row. row.1) rows) → AllRows R (map_rows f rows)
  rows_at [] h = tt
  rows_at (row ∷ rows) h = (h.0, rows_at rows h.1)

  at_rows : (rows : Table ℕ) → AllRows R (map_rows f rows) → AllItems (λ p. R (f p)) (map (λ row. row.1) rows)
  at_rows [] h = tt
  at_rows (row ∷ rows) h = (h.0, at_rows rows h.1)

  pub table_yes : (rows : Table ℕ) (places : List ℕ) → IsTable rows → places ≡ map (λ row. row.1) rows
      → AllItems (λ p. R (f p)) places → (true ≡ true) ↔ TableWith R (map_rows f rows)
  table_yes rows places i e h = (
    λ t. (mapped_table f rows i, rows_at rows (subst (AllItems (λ p. R (f p))) e h)),
    λ k. refl,
  )

  pub table_no : (rows : Table ℕ) (places : List ℕ) → places ≡ map (λ row. row.1) rows
      → (AllItems (λ p. R (f p)) places → ⊥) → (false ≡ true) ↔ TableWith R (map_rows f rows)
  table_no rows places e h = (
    λ t. absurd (cc),
    λ k. absurd (h (subst (AllItems (λ p. R (f p))) (sym e) (at_rows rows k.1))),
  )

-- ---- tops

module _ (q : Nodes) (items : List Item) (top : Top) (t : TopTables) (e : top ≡ top_of_tables items t) where
  pub top_says : (a s f b : Bool) → (a ≡ true) ↔ EnvFits q (as_env (at items t.env)) → a ≡ true
      → (s ≡ true) ↔ TableWith (SignatureFits q) (map_rows (λ p. as_signature (at items p)) t.signatures) → s ≡ true
      → (f ≡ true) ↔ TableWith (FunctorFits q) (map_rows (λ p. as_functor (at items p)) t.functors) → f ≡ true
      → (b ≡ true) ↔ TableWith (FunctorFits q) (map_rows (λ p. as_functor (at items p)) t.funsigs)
      → (b ≡ true) ↔ TopFits q top
  top_says a s f b env et sigs st funs ft funsigs =
      subst (λ x. (b ≡ true) ↔ TopFits q x) (sym e) (
        λ i. record { env = env.0 et; signatures = sigs.0 st; functors = funs.0 ft; funsigs = funsigs.0 i },
        λ h. funsigs.1 h.funsigs,
      )

  pub top_env_not : (a : Bool) → (a ≡ true) ↔ EnvFits q (as_env (at items t.env)) → a ≡ false
      → (false ≡ true) ↔ TopFits q top
  top_env_not a env f =
      subst (λ x. (false ≡ true) ↔ TopFits q x) (sym e) (λ i. absurd (cc), λ h. absurd (not_both a f (env.1 h.env)))

  pub top_signatures_not : (s : Bool)
      → (s ≡ true) ↔ TableWith (SignatureFits q) (map_rows (λ p. as_signature (at items p)) t.signatures) → s ≡ false
      → (false ≡ true) ↔ TopFits q top
  top_signatures_not s sigs f =
      subst (λ x. (false ≡ true) ↔ TopFits q x) (sym e) (
        λ i. absurd (cc),
        λ h. absurd (not_both s f (sigs.1 h.signatures)),
      )

  pub top_functors_not : (s : Bool)
      → (s ≡ true) ↔ TableWith (FunctorFits q) (map_rows (λ p. as_functor (at items p)) t.functors) → s ≡ false
      → (false ≡ true) ↔ TopFits q top
  top_functors_not s funs f =
      subst (λ x. (false ≡ true) ↔ TopFits q x) (sym e) (
        λ i. absurd (cc),
        λ h. absurd (not_both s f (funs.1 h.functors)),
      )

-- ---- names that are bound

pub in_order : (fun : FunNode) (a b : Bool) → (a ≡ true) ↔ AreBoundFrom 0 fun.bound → a ≡ true
    → (b ≡ true) ↔ AreBoundFrom (length fun.bound) fun.further → (b ≡ true) ↔ BindsInOrder fun
in_order fun a b h t k = (λ i. (h.0 t, k.0 i), λ i. k.1 i.1)

pub not_in_order : (fun : FunNode) (a : Bool) → (a ≡ true) ↔ AreBoundFrom 0 fun.bound → a ≡ false
    → (false ≡ true) ↔ BindsInOrder fun
not_in_order fun a h f = (λ i. absurd (cc), λ i. absurd (not_both a f (h.1 i.0)))
