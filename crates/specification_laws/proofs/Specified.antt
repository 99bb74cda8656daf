-- Specifications of datatypes have derivations.
use Rattle.std.proofs.Common.{◌≡◌, ℕ, ◌+◌, List, [], ◌∷◌, ◌++◌, map, refl, sym, ap, ◌∙◌, subst, arith, None, false}
use Rattle.sml_trees.specs.declared.name.At.{At}
use Rattle.semantic_objects.specs.declared.name.TyName.{TyName}
use Rattle.semantic_objects.specs.declared.entry.ConEntry.{ConEntry}
use Rattle.semantic_objects.specs.declared.entry.TypeStr.{TypeStr}
use Rattle.semantic_objects.specs.declared.entry.ValueEntry.{ValueEntry}
use Rattle.semantic_objects.specs.declared.symbol.Symbol.TheVariants as symbol
use Rattle.semantic_objects.specs.Tables.{Table, entry}
use Rattle.semantic_objects.specs.Trees.{Tree, Trees}
use Rattle.semantic_objects.specs.Environments.{Env, Structures, Signature, structures, types, values, empty_env}
use Rattle.unification.specs.Types.{Ty, Types, Substitution}
use Rattle.unification.specs.Closing.{put_tree, put_trees}
use Rattle.unification.specs.Fitting.{IsFit}
use Rattle.env_parts.specs.Types.{holds_free, any_holds_free}
use Rattle.bare_phrases.specs.Phrases.{DatPhrase}
use Rattle.static_semantics.specs.Inferring.{Progress, Scope, under, with_written_alone}
use Rattle.static_semantics.specs.TypeInference.{listed, as_written}
use Rattle.static_semantics.specs.DatatypeInference.{new_types, Dat, infer_cons, cons_of, infer_dats, made_types, datatypes_of}
use Rattle.static_semantics.specs.EnvironmentsPut.{put_con, put_type, put_value, each_entry, put_env, put_structures, put_scope}
use Rattle.static_semantics.specs.Holding.{Given, AllItems, AllRows, ConHas, TypeHas, ValueHas, StructuresHave}
use Rattle.static_semantics.proofs.Holding.{given_then}
use Rattle.inference_laws.specs.Alike.{FirmEnv}
use Rattle.inference_laws.proofs.Making.{given_both}
use Rattle.module_semantics.specs.SigPhrases.{SpecPhrase}
use Rattle.module_semantics.specs.SignatureNames.{also_bound}
use Rattle.module_semantics.specs.SignatureInference.{specified_types, names_of_types, infer_datatype_specs}
use Rattle.module_semantics.specs.ElaboratesSignatures.{names_by, ElaboratesSpec}
use Rattle.unit_semantics.specs.Promises.{IsClosedScheme, IsClosedFunction, IsClosedEnv}
use Rattle.unit_semantics.proofs.Closed.{neither}
use Rattle.datatype_laws.specs.Below.{TypesBelow}
use Rattle.datatype_laws.specs.Derived.{DatatypesDerived}
use Rattle.datatype_laws.proofs.Datatypes.{datatypes_have_derivations}
use Rattle.phrase_laws.proofs.TypeBindings.{ListedOf, listed_of}
use Rattle.table_laws.specs.Rising.{RisingEnv}
use Rattle.table_laws.proofs.Tables.{rising_types, rising_values}
use Rattle.table_laws.proofs.Declarations.{always, datatypes_rise}
use Rattle.signature_laws.proofs.Datatypes.{texts, Others, AllApart, names_differ, found, stays}
use Rattle.specification_laws.specs.Derived.{Follows, SpecDerived}
use Rattle.specification_laws.proofs.Joined.{made_is, back}
use Rattle.specification_laws.proofs.Parts.{sig_of, nothing_follows}
use Rattle.specification_laws.proofs.Datatypes.{AreOf, dats_are, same_texts, names_are, add_all, filled, env_of, all_texts, types_fill, values_absent, structures_none}

-- ---- what stays whatever is put in is closed

abbrev some_type : Substitution
some_type n = Ty.Made symbol.Arrow Types.Nil

mutual
  tree_closed : (t : Tree) → put_tree some_type t ≡ t → holds_free t ≡ false
  tree_closed (Tree.Bound i) e = refl
  tree_closed (Tree.Free n) e = let k : Tree.Made symbol.Arrow Trees.Nil ≡ Tree.Free n = e in absurd (cc)
  tree_closed (Tree.Made c ts) e =
      trees_closed ts (let k : Tree.Made c (put_trees some_type ts) ≡ Tree.Made c ts = e in cc)

  trees_closed : (ts : Trees) → put_trees some_type ts ≡ ts → any_holds_free ts ≡ false
  trees_closed Trees.Nil e = refl
  trees_closed (Trees.Cons t ts) e =
      let k : Trees.Cons (put_tree some_type t) (put_trees some_type ts) ≡ Trees.Cons t ts = e in
      let one : put_tree some_type t ≡ t = cc in
      let rest : put_trees some_type ts ≡ ts = cc in
      neither (holds_free t) (any_holds_free ts) (tree_closed t one) (trees_closed ts rest)

cons_closed : (cons : List ConEntry) → map (put_con some_type) cons ≡ cons → AllItems (ConHas IsClosedScheme) cons
cons_closed [] e = tt
cons_closed (con ∷ cons) e =
    let k : put_con some_type con ∷ map (put_con some_type) cons ≡ con ∷ cons = e in
    let one : put_con some_type con ≡ con = cc in
    let rest : map (put_con some_type) cons ≡ cons = cc in
    (tree_closed con.scheme.body (ap (λ (x : ConEntry). x.scheme.body) one), cons_closed cons rest)

rows_closed : {A : Type 0} (R : A → Type 0) (f : A → A) (rows : Table A) → ((x : A) → f x ≡ x → R x)
    → each_entry f rows ≡ rows → AllRows R rows
rows_closed R f [] g e = tt
rows_closed {A} R f (row ∷ rows) g e =
    let first : List ℕ × A = (row.0, f row.1) in
    let k : first ∷ each_entry f rows ≡ row ∷ rows = e in
    let one : first ≡ row = cc in
    let rest : each_entry f rows ≡ rows = cc in
    (g row.1 (ap (λ (r : List ℕ × A). r.1) one), rows_closed R f rows g rest)

mutual
  pub env_closed : (env : Env) → put_env some_type env ≡ env → IsClosedEnv env
  env_closed (Env.MakeEnv ss ts vs) e =
      let k : Env.MakeEnv (put_structures some_type ss) (each_entry (put_type some_type) ts)
      (each_entry (put_value some_type) vs) ≡ Env.MakeEnv ss ts vs = e in
      let a : put_structures some_type ss ≡ ss = cc in
      let b : each_entry (put_type some_type) ts ≡ ts = cc in
      let c : each_entry (put_value some_type) vs ≡ vs = cc in (
        structures_closed ss a,
        rows_closed (TypeHas IsClosedScheme IsClosedFunction) (put_type some_type) ts (λ str i. (
          tree_closed str.function.body (ap (λ (x : TypeStr). x.function.body) i),
          cons_closed str.cons (ap (λ (x : TypeStr). x.cons) i),
        )) b,
        rows_closed (ValueHas IsClosedScheme) (put_value some_type) vs
            (λ value i. tree_closed value.scheme.body (ap (λ (x : ValueEntry). x.scheme.body) i)) c,
      )

  structures_closed : (ss : Structures) → put_structures some_type ss ≡ ss
      → StructuresHave IsClosedScheme IsClosedFunction ss
  structures_closed Structures.Nil e = tt
  structures_closed (Structures.Cons name env rest) e =
      let k : Structures.Cons name (put_env some_type env) (put_structures some_type rest)
      ≡ Structures.Cons name env rest = e in
      let one : put_env some_type env ≡ env = cc in
      let others : put_structures some_type rest ≡ rest = cc in
      (env_closed env one, structures_closed rest others)

-- ---- states

dats_fit : (sc : Scope) (refused : List (List ℕ)) (binds : List DatPhrase) (made : List Dat) (st : Progress)
    → IsFit st.types → Given (λ r. IsFit r.1.types) (infer_dats sc refused binds made st)
dats_fit sc refused [] made st h = h
dats_fit sc refused (bind ∷ binds) made st h =
    given_then (ListedOf bind.tyvars [] st) (λ r. IsFit r.1.types) (listed sc bind.tyvars [] st) _
    (listed_of sc bind.tyvars [] st h) (λ r l.
    always (λ q. IsFit q.1.types) (infer_cons (with_written_alone (as_written r.0) sc) refused bind.cons (cons_of made) [])
    _ (λ cons. dats_fit sc refused binds
    (made ++ (let dat : Dat = record { name = bind.name.text; variables = r.0; cons = cons } in dat) ∷ []) r.1 l.fit))

datatypes_fit : (sc : Scope) (binds : List DatPhrase) (st : Progress) → IsFit st.types
    → Given (λ r. IsFit r.1.types) (datatypes_of sc [] binds st)
datatypes_fit sc binds st h =
    always (λ r. IsFit r.1.types) (new_types sc binds st.names empty_env) _ (λ new.
    given_then (λ r. IsFit r.1.types) (λ r. IsFit r.1.types) (infer_dats (under new sc) [] binds [] st) _
    (dats_fit (under new sc) [] binds [] st h) (λ r l. l))

-- the texts of the types differ
texts_apart : (sc : Scope) (binds : List DatPhrase) (st : Progress)
    → Given (λ r. AllApart (texts binds)) (datatypes_of sc [] binds st)
texts_apart sc binds st =
    given_then (λ new. AllItems (λ m. entry m [] ≡ None) (texts binds) × AllApart (texts binds))
    (λ r. AllApart (texts binds)) (new_types sc binds st.names empty_env) _ (names_differ sc binds st.names empty_env)
    (λ new k. always (λ r. AllApart (texts binds)) (infer_dats (under new sc) [] binds [] st) _ (λ r. k.1))

-- ---- what is specified is what was made

module _ (sc : Scope) (binds : List DatPhrase) (st : Progress) (r : Env × Progress)
    (d : DatatypesDerived sc [] binds st r) (rises : RisingEnv r.0) where
  abbrev Made : Env
  Made = made_types sc.home st.names d.choice st.names d.dats empty_env

  are_of : AreOf binds d.dats
  are_of = dats_are (d.derives Ty.Var)

  structures_are : structures r.0 ≡ []
  structures_are = ap structures d.made ∙ structures_none sc.home st.names d.choice st.names d.dats empty_env

  types_are : add_all (texts binds) (types r.0) [] ≡ types r.0
  types_are = filled (texts binds) (types r.0) (rising_types r.0 rises).0 (λ n o.
      ap (λ (e : Env). entry n (types e)) d.made
      ∙ stays sc.home st.names d.choice n st.names d.dats empty_env
      (subst (Others n) (sym (same_texts binds d.dats are_of)) o))

  values_are : add_all (all_texts binds) (values r.0) [] ≡ values r.0
  values_are = filled (all_texts binds) (values r.0) (rising_values r.0 rises) (λ n o.
      ap (λ (e : Env). entry n (values e)) d.made
      ∙ values_absent sc.home st.names d.choice st.names binds d.dats empty_env n are_of o)

  env_is : env_of (add_all (texts binds) (types r.0) []) (add_all (all_texts binds) (values r.0) []) ≡ r.0
  env_is = made_is [] (structures r.0) (add_all (texts binds) (types r.0) []) (types r.0)
      (add_all (all_texts binds) (values r.0) []) (values r.0) (sym structures_are) types_are values_are ∙ back r.0

  names_are_by : AllApart (texts binds)
      → names_of_types binds r.0 ≡ names_by sc.home d.choice binds st.names
  names_are_by apart = ap (names_of_types binds) d.made
      ∙ names_are sc.home st.names d.choice st.names binds d.dats Made [] d.choice refl
      (let k : st.names ≡ st.names + 0 = omega arith in k) d.counted are_of
      (found sc.home st.names d.choice st.names d.dats empty_env
      (subst AllApart (sym (same_texts binds d.dats are_of)) apart))

  derived : (sigs : Table Signature) (at : At) (made sig : Signature) → AllApart (texts binds) → IsFit r.1.types
      → Follows made (sig_of (names_of_types binds r.0)
      (env_of (add_all (texts binds) (types r.0) []) (add_all (all_texts binds) (values r.0) []))) sig
      → SpecDerived sigs sc (SpecPhrase.Datatypes binds at) made st (sig, r.1)
  derived sigs at made sig apart fit f = record {
    own = sig_of (names_by sc.home d.choice binds st.names) Made;
    follows = subst (λ z. Follows made (sig_of z Made) sig) (names_are_by apart)
        (subst (λ z. Follows made (sig_of (names_of_types binds r.0) z) sig) (env_is ∙ d.made) f);
    after = record { fit = fit; solved = d.solved; leaves = d.leaves };
    derives = λ s. subst (λ n. ElaboratesSpec sigs (put_scope s sc) st.names (SpecPhrase.Datatypes binds at)
        (sig_of (names_by sc.home d.choice binds st.names) Made) n) (sym d.names)
        (ElaboratesSpec.rule_71 sigs (put_scope s sc) st.names binds at d.choice d.dats d.distinct d.counted
        (d.derives s) d.maximal);
  }

pub datatypes_derive : (sigs : Table Signature) (sc : Scope) (binds : List DatPhrase) (at : At) (made : Signature)
    (st : Progress) → FirmEnv sc.env → TypesBelow sc.home st.names sc.env → IsFit st.types → RisingEnv made.env
    → Given (SpecDerived sigs sc (SpecPhrase.Datatypes binds at) made st) (infer_datatype_specs sc binds made st)
datatypes_derive sigs sc binds at made st firm below fit rises =
    let Q : Signature × Progress → Type 0 = SpecDerived sigs sc (SpecPhrase.Datatypes binds at) made st in
    let Ends : Env × Progress → Type 0 = λ r. IsFit r.1.types × AllApart (texts binds) in
    let Rest : Env × Progress → Type 0 = λ r. RisingEnv r.0 × Ends r in
    given_then (λ r. DatatypesDerived sc [] binds st r × Rest r) Q (datatypes_of sc [] binds st) _
    (given_both (DatatypesDerived sc [] binds st) Rest (datatypes_of sc [] binds st)
    (datatypes_have_derivations.all sc [] binds st firm below fit)
    (given_both (λ r. RisingEnv r.0) Ends (datatypes_of sc [] binds st) (datatypes_rise sc [] binds st)
    (given_both (λ r. IsFit r.1.types) (λ r. AllApart (texts binds)) (datatypes_of sc [] binds st)
    (datatypes_fit sc binds st fit) (texts_apart sc binds st)))) (λ r k.
    let names : List TyName = names_of_types binds r.0 in
    let f : Follows made (sig_of names (env_of [] [])) (also_bound names made) = record {
      bound = refl;
      env = (nothing_follows made).env;
      apart = (nothing_follows made).apart;
      rises = (nothing_follows made).rises;
      closed = (nothing_follows made).closed;
    } in
    given_then (λ sig. Follows made (sig_of names
    (env_of (add_all (texts binds) (types r.0) []) (add_all (all_texts binds) (values r.0) []))) sig) Q
    (specified_types sc binds r.0 (also_bound names made)) _
    (types_fill sc r.0 (env_closed r.0 (k.0.stays some_type)) k.1.0 made rises names binds [] [] (also_bound names made)
    f)
    (λ sig l. derived sc binds st r k.0 k.1.0 sigs at made sig k.1.1.1 k.1.1.0 l))
