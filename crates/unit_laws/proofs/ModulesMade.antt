-- What structures are made of.
use Rattle.std.proofs.Common.{◌≡◌, ℕ, List, [], ◌∷◌, ◌++◌, refl, arith, Option, Some, None, Bool, true, false, cond}
use Rattle.std.specs.Prelude.{Ok, Err}
use Rattle.std.specs.Option.{is_none}
use Rattle.sml_trees.specs.declared.name.At.{At}
use Rattle.semantic_objects.specs.declared.name.TyName.{TyName}
use Rattle.semantic_objects.specs.declared.entry.TypeFn.{TypeFn}
use Rattle.semantic_objects.specs.Symbols.{same_name}
use Rattle.semantic_objects.specs.Tables.{entry}
use Rattle.semantic_objects.specs.Environments.{Env, Signature, Functor, Top, structures, empty_env, with_structure}
use Rattle.unification.proofs.Walking.{or_either, or_right}
use Rattle.realisation.specs.Names.{is_listed}
use Rattle.realisation.specs.Realised.{of_rows}
use Rattle.static_semantics.specs.Inferring.{Progress, Scope, Answer, ◌>>=◌, gives, known, found_at, has_too_large, sized_dec}
use Rattle.static_semantics.specs.CoreInference.{infer_dec}
use Rattle.static_semantics.specs.Holding.{Given}
use Rattle.static_semantics.proofs.Holding.{given_then, given_where, given_known, rows_found, has_structures, has_modified, has_found}
use Rattle.static_semantics.proofs.TypesGrow.{given_more}
use Rattle.inference_laws.specs.Nodes.{Nodes, TreeOf, StateOf, SchemeOf, FunctionOf, EnvOf, Admits, IsOf, DecOf, Makes, IsReadyFor, below_number}
use Rattle.inference_laws.proofs.Making.{given_all, given_both, plain, after, before, ready_after, ready_same, all_step, all_first, less}
use Rattle.inference_laws.proofs.DatatypesMade.{items_after}
use Rattle.inference_laws.proofs.CoreMade.{DecMade, dec_made}
use Rattle.module_semantics.specs.SignatureNames.{rows_between, unit_names}
use Rattle.module_semantics.specs.SignatureInference.{single, signature_of}
use Rattle.module_semantics.specs.Matching.{Rows, matching, matched}
use Rattle.unit_semantics.specs.UnitPhrases.{ModulePhrase, ModuleDec, ModuleDecs, ModuleBinds}
use Rattle.unit_semantics.specs.StructureInference.{module_at, core_scope, top_under, known_env, transparent, opaque, param_of, result_by, functor_applied, infer_module, infer_module_dec, infer_module_decs, infer_module_binds}
use Rattle.static_semantics.specs.TypeInference.{new_label}
use Rattle.unit_laws.specs.Spelling.{ModuleSpelt, ModuleDecSpelt, ModuleDecsSpelt, ModuleBindsSpelt}
use Rattle.unit_laws.specs.Parts.{allowing, FunctorOf, IsOfTop}
use Rattle.unit_laws.proofs.Realised.{env_realised, env_known}
use Rattle.unit_laws.proofs.Naming.{RowsOf, HasRows, has_between, between_of, from_allowed, unit_numbered, unit_length}
use Rattle.unit_laws.proofs.SignaturesMade.{nothing_of, one_structure, empty_stands, FromSigs, ClosedOf, opened_made, signature_made}
use Rattle.unit_laws.proofs.Matched.{MatchesOf, matching_of, matched_of}

-- ---- what is in scope

pub core_of : (good : List ℕ → Bool) (home : List ℕ) (q : Nodes) (top : Top) (st : Progress) → IsOfTop good top st q
    → IsOf good (core_scope home top) st q
core_of good home q top st h = record {
  scope = record { admits = h.admits; env = h.scope.env; written = tt };
  state = h.state;
}

pub sigs_of : (good : List ℕ → Bool) (home : List ℕ) (q : Nodes) (top : Top) (st u : Progress) → IsOfTop good top st q
    → StateOf q u.types → FromSigs good top.signatures (core_scope home top) u q
sigs_of good home q top st u h k =
    (record { scope = record { admits = h.admits; env = h.scope.env; written = tt }; state = k }, h.scope.signatures)

pub under_top : (good : List ℕ → Bool) (q : Nodes) (top : Top) (st : Progress) (d : Env × Progress)
    → IsOfTop good top st q
    → DecOf d q → IsOfTop good (top_under d.0 top) d.1 q
under_top good q top st d h k = record {
  admits = h.admits;
  scope = record {
    env = has_modified (SchemeOf q) (FunctionOf q) top.env d.0 h.scope.env k.1;
    signatures = h.scope.signatures;
    functors = h.scope.functors;
    funsigs = h.scope.funsigs;
  };
  state = k.0;
}

pub later_top : (good : List ℕ → Bool) (q : Nodes) (top : Top) (st u : Progress) → IsOfTop good top st q
    → StateOf q u.types → IsOfTop good top u q
later_top good q top st u h k = record { admits = h.admits; scope = h.scope; state = k }

abbrev pub ModMade : (List ℕ → Bool) → List ℕ → Top → Progress → Env × Progress → Type 0
ModMade good home top st r = Makes home (IsOfTop good top st) st r.1 (DecOf r)

-- ---- an environment and a signature

-- a structure expression and then a signature
abbrev BothOf : Env × Progress → Signature × Progress → Nodes → Type 0
BothOf e r q = DecOf e q × ClosedOf r q

transparent_made : (good : List ℕ → Bool) (home : List ℕ) (top : Top) (st : Progress) (sc : Scope) (at : At)
    (e : Env × Progress) (r : Signature × Progress) → IsReadyFor home (IsOfTop good top st) st.names
    → Makes home (IsOfTop good top st) st r.1 (BothOf e r) → Given (ModMade good home top st) (transparent sc at e.0 r)
transparent_made good home top st sc at e r h k =
    given_more (λ v. Makes home (IsOfTop good top st) st v.1 (λ q. BothOf e r q × DecOf v q)) (ModMade good home top st)
    (transparent sc at e.0 r) (λ v l. less l (λ q i j. j.1))
    (all_step home (IsOfTop good top st) (BothOf e r) st r.1 (λ v. v.1) (λ v q. DecOf v q) (transparent sc at e.0 r) h k
    (λ q i j. given_then (EnvOf q) (λ v. (v.1.names ≡ r.1.names) × DecOf v q)
    (matched sc at r.1.types (known_env e.0 r.1) r.0) _
    (matched_of q sc at r.1.types (known_env e.0 r.1) r.0 (empty_stands good q i.admits)
    (env_known q r.1.types.stands e.0 j.1.0 j.0.1) j.1.1) (λ made l. (refl, (j.1.0, l)))))

anything : {A : Type 0} (m : Answer A) → Given (λ x. Unit {0}) m
anything None = tt
anything (Some (Err d)) = tt
anything (Some (Ok x)) = tt

opaque_made : (good : List ℕ → Bool) (home : List ℕ) (top : Top) (st : Progress) (at : At)
    (e : Env × Progress) (r : Signature × Progress)
    → Makes home (IsOfTop good top st) st r.1 (BothOf e r)
    → Given (ModMade good home top st) (opaque (core_scope home top) at e.0 r)
opaque_made good home top st at e r k =
    given_then (λ made. Unit {0}) (ModMade good home top st)
    (matched (core_scope home top) at r.1.types (known_env e.0 r.1) r.0) _
    (anything (matched (core_scope home top) at r.1.types (known_env e.0 r.1) r.0)) (λ made _.
    less (after k (opened_made good home r.0 r.1) (λ q i j. (i.admits, j.1.0, j.1.1))) (λ q i j. j.1))

-- ---- a functor with its argument

not_none_first : (o p : Option TypeFn) (c : Bool) (f : TypeFn) → (is_none o ≡ false → is_none p ≡ false)
    → is_none (cond c (Some f) o) ≡ false → is_none (cond c (Some f) p) ≡ false
not_none_first o p true f h k = k
not_none_first o p false f h k = h k

rows_front : (rows more : Rows) (name : TyName) → is_none (of_rows rows name) ≡ false
    → is_none (of_rows (rows ++ more) name) ≡ false
rows_front [] more name h = absurd (cc)
rows_front (row ∷ rows) more name h = not_none_first (of_rows rows name) (of_rows (rows ++ more) name)
    (same_name row.0 name) row.1 (rows_front rows more name) h

not_none_rest : (c : Bool) (f : TypeFn) (o : Option TypeFn) → is_none o ≡ false → is_none (cond c (Some f) o) ≡ false
not_none_rest true f o h = refl
not_none_rest false f o h = h

rows_back : (rows more : Rows) (name : TyName) → is_none (of_rows more name) ≡ false
    → is_none (of_rows (rows ++ more) name) ≡ false
rows_back [] more name h = h
rows_back (row ∷ rows) more name h =
    not_none_rest (same_name row.0 name) row.1 (of_rows (rows ++ more) name) (rows_back rows more name h)

pub listed_either : {P : Type 0} (name : TyName) (xs ys : List TyName) → is_listed name (xs ++ ys) ≡ true
    → (is_listed name xs ≡ true → P) → (is_listed name ys ≡ true → P) → P
listed_either name [] ys h f g = g h
listed_either name (x ∷ xs) ys h f g = or_either (same_name name x) (is_listed name (xs ++ ys)) h
    (λ e. f (Rattle.unification.proofs.Walking.or_left (same_name name x) (is_listed name xs) e))
    (λ e. listed_either name xs ys e (λ i. f (or_right (same_name name x) (is_listed name xs) i)) g)

abbrev AppliedOf : (List ℕ → Bool) → Functor → Rows → Progress → Nodes → Type 0
AppliedOf good fun rows st q = Admits good q × StateOf q st.types × FunctorOf q fun × RowsOf q rows

result_made : (good : List ℕ → Bool) (home : List ℕ) (fun : Functor) (rows : Rows) (st : Progress)
    → HasRows fun.bound rows
    → Makes home (AppliedOf good fun rows st) st (result_by home fun rows st).1 (DecOf (result_by home fun rows st))
result_made good home fun rows st has =
    let news : List TyName = unit_names home st.names fun.further in
    let more : Rows = rows_between fun.further news in
    record {
      names = news;
      numbered = unit_numbered home st.names fun.further;
      holds = λ q p n. (
        p.1,
        env_realised (allowing (fun.bound ++ fun.further) q) q (of_rows (rows ++ more))
            (from_allowed q (fun.bound ++ fun.further) (rows ++ more) (empty_stands good q p.0)
            (items_after (λ (row : TyName × TypeFn). TreeOf q row.1.body) rows more p.3 (between_of q fun.further news
            n))
            (λ name l. listed_either name fun.bound fun.further l
            (λ i. rows_front rows more name (has name i))
            (λ i. rows_back rows more name
            (has_between fun.further news (unit_length home st.names fun.further) name i))))
            fun.result p.2.result,
      );
    }

applied_made : (good : List ℕ → Bool) (home : List ℕ) (top : Top) (st : Progress) (at : At) (fun : Functor)
    (e : Env × Progress) → IsReadyFor home (IsOfTop good top st) st.names
    → ((q : Nodes) → IsOfTop good top st q → FunctorOf q fun) → ModMade good home top st e
    → Given (ModMade good home top st) (functor_applied (core_scope home top) at fun e)
applied_made good home top st at fun e h f k =
    let sc : Scope = core_scope home top in
    given_then (λ rows. Makes home (IsOfTop good top st) st e.1 (λ q. DecOf e q × MatchesOf q (param_of fun) rows))
    (ModMade good home top st) (matching sc at e.1.types (known_env e.0 e.1) (param_of fun)) _
    (all_step home (IsOfTop good top st) (DecOf e) st e.1 (λ rows. e.1) (λ rows q. MatchesOf q (param_of fun) rows)
    (matching sc at e.1.types (known_env e.0 e.1) (param_of fun)) h k (λ q i j.
    given_more (MatchesOf q (param_of fun)) (λ rows. (e.1.names ≡ e.1.names) × MatchesOf q (param_of fun) rows)
    (matching sc at e.1.types (known_env e.0 e.1) (param_of fun)) (λ rows l. (refl, l))
    (matching_of q sc at e.1.types (known_env e.0 e.1) (param_of fun)
    (env_known q e.1.types.stands e.0 j.0 j.1)))) (λ rows l.
    let q : Nodes = below_number home e.1.names in
    let has : HasRows fun.bound rows = (l.holds q (h e.1.names (Rattle.inference_laws.proofs.Making.names_rise l))
    (Rattle.inference_laws.proofs.Making.names_below home st.names l.names e.1.names e.1.names l.numbered
    (omega arith))).1.1 in
    less (after l (result_made good home fun rows e.1 has) (λ q i j. (i.admits, j.0.0, f q i, j.1.0))) (λ q i j. j.1))

-- ---- the phrases

sized_made : (good : List ℕ → Bool) (home : List ℕ) (top : Top) (st : Progress) (at : At) (r : Env × Progress)
    → ModMade good home top st r → Given (ModMade good home top st) (sized_dec (core_scope home top) at r)
sized_made good home top st at r h = given_where (ModMade good home top st) (has_too_large r.1.types.stands r.0) 38
    (core_scope home top) at (λ u. gives r) h

-- bindings after those before them
abbrev pub FromBinds : (List ℕ → Bool) → Top → Env → Progress → Nodes → Type 0
FromBinds good top made st q = IsOfTop good top st q × EnvOf q made

-- after one more of them
after_bind : (good : List ℕ → Bool) (q : Nodes) (top : Top) (made : Env) (name : List ℕ) (st : Progress)
    (r : Env × Progress) → FromBinds good top made st q → DecOf r q
    → FromBinds good top (with_structure name r.0 made) r.1 q
after_bind good q top made name st r i j = (later_top good q top st r.1 i.0 j.0, one_structure q name r.0 made j.1 i.1)

label_made : {A B : Type 0} (Q : B → Type 0) (sc : Scope) (name : Rattle.sml_trees.specs.declared.name.Name.Name)
    (rows : Rattle.semantic_objects.specs.Tables.Table A) (next : Unit {0} → Answer B) → Given Q (next tt)
    → Given Q (new_label sc name rows >>= next)
label_made Q sc name rows next h = given_where Q
    (Rattle.std.specs.Option.is_some (entry name.text rows)) 40 sc
    (Rattle.static_semantics.specs.Inferring.name_at name) next h

mutual
  pub module_made : (good : List ℕ → Bool) (depth : ℕ) (home : List ℕ) (top : Top) (str : ModulePhrase) (st : Progress)
      → ModuleSpelt good str → IsReadyFor home (IsOfTop good top st) st.names
      → Given (ModMade good home top st) (infer_module depth home top str st)
  module_made good depth home top (ModulePhrase.Struct dec at) st p h = dec_of good depth home top dec st p h
  module_made good depth home top (ModulePhrase.Named long at) st p h =
      given_then (λ env. Makes home (IsOfTop good top st) st st (DecOf (env, st))) (ModMade good home top st)
      (known (core_scope home top) long (found_at structures long.parts top.env)) _
      (all_first home (IsOfTop good top st) st (λ env. st) (λ env q. DecOf (env, st) q)
      (known (core_scope home top) long (found_at structures long.parts top.env)) h (λ q i.
      given_more (EnvOf q) (λ env. (st.names ≡ st.names) × DecOf (env, st) q)
      (known (core_scope home top) long (found_at structures long.parts top.env)) (λ env l. (refl, (i.state, l)))
      (given_known (EnvOf q) (core_scope home top) long (found_at structures long.parts top.env)
      (has_found (SchemeOf q) (FunctionOf q) (EnvOf q) structures (has_structures (SchemeOf q) (FunctionOf q))
      long.parts top.env i.scope.env)))) (λ env l. l)
  module_made good depth home top (ModulePhrase.Transparent str sig at) st p h =
      given_then (ModMade good home top st) (ModMade good home top st) (infer_module depth home top str st) _
      (module_made good depth home top str st p.0 h) (λ e k.
      given_then (λ r. Makes home (FromSigs good top.signatures (core_scope home top) e.1) e.1 r.1 (ClosedOf r))
      (ModMade good home top st) (signature_of top.signatures (core_scope home top) sig e.1) _
      (signature_made good top.signatures (core_scope home top) sig e.1 p.1
      (ready_after h k (λ q i j. sigs_of good home q top st e.1 i j.0))) (λ r l.
      transparent_made good home top st (core_scope home top) (module_at str) e r h
      (after k l (λ q i j. sigs_of good home q top st e.1 i j.0))))
  module_made good depth home top (ModulePhrase.Opaque str sig at) st p h =
      given_then (ModMade good home top st) (ModMade good home top st) (infer_module depth home top str st) _
      (module_made good depth home top str st p.0 h) (λ e k.
      given_then (λ r. Makes home (FromSigs good top.signatures (core_scope home top) e.1) e.1 r.1 (ClosedOf r))
      (ModMade good home top st) (signature_of top.signatures (core_scope home top) sig e.1) _
      (signature_made good top.signatures (core_scope home top) sig e.1 p.1
      (ready_after h k (λ q i j. sigs_of good home q top st e.1 i j.0))) (λ r l.
      opaque_made good home top st (module_at str) e r
      (after k l (λ q i j. sigs_of good home q top st e.1 i j.0))))
  module_made good depth home top (ModulePhrase.Functor name argument at) st p h =
      given_then (λ fun. (q : Nodes) → IsOfTop good top st q → FunctorOf q fun) (ModMade good home top st)
      (known (core_scope home top) (single name) (entry name.text top.functors)) _
      (given_all (IsOfTop good top st) FunctorOf (known (core_scope home top) (single name) (entry name.text
      top.functors))
      (λ q i. given_known (FunctorOf q) (core_scope home top) (single name) (entry name.text top.functors)
      (rows_found (FunctorOf q) name.text top.functors i.scope.functors))) (λ fun f.
      given_then (ModMade good home top st) (ModMade good home top st) (infer_module depth home top argument st) _
      (module_made good depth home top argument st p h) (λ e k.
      applied_made good home top st (module_at argument) fun e h f k))
  module_made good depth home top (ModulePhrase.Within dec body at) st p h =
      given_then (ModMade good home top st) (ModMade good home top st) (infer_module_dec depth home top dec st) _
      (dec_of good depth home top dec st p.0 h) (λ d k.
      given_more (ModMade good home (top_under d.0 top) d.1) (ModMade good home top st)
      (infer_module depth home (top_under d.0 top) body d.1)
      (λ r l. less (after k l (λ q i j. under_top good q top st d i j)) (λ q i j. j.1))
      (module_made good depth home (top_under d.0 top) body d.1 p.1
      (ready_after h k (λ q i j. under_top good q top st d i j))))

  pub dec_of : (good : List ℕ → Bool) (depth : ℕ) (home : List ℕ) (top : Top) (dec : ModuleDec) (st : Progress)
      → ModuleDecSpelt good dec → IsReadyFor home (IsOfTop good top st) st.names
      → Given (ModMade good home top st) (infer_module_dec depth home top dec st)
  dec_of good depth home top (ModuleDec.Core dec) st p h =
      given_more (DecMade good (core_scope home top) st) (ModMade good home top st)
      (infer_dec depth (core_scope home top) dec st) (λ r k. before refl k (λ q i. core_of good home q top st i))
      (dec_made good depth (core_scope home top) dec st p (λ m l. core_of good home (below_number home m) top st (h m
      l)))
  dec_of good depth home top (ModuleDec.Local hidden shown at) st p h =
      given_then (ModMade good home top st) (ModMade good home top st) (infer_module_dec depth home top hidden st) _
      (dec_of good depth home top hidden st p.0 h) (λ d k.
      given_then (ModMade good home (top_under d.0 top) d.1) (ModMade good home top st)
      (infer_module_dec depth home (top_under d.0 top) shown d.1) _
      (dec_of good depth home (top_under d.0 top) shown d.1 p.1
      (ready_after h k (λ q i j. under_top good q top st d i j))) (λ r l.
      sized_made good home top st at r (less (after k l (λ q i j. under_top good q top st d i j)) (λ q i j. j.1))))
  dec_of good depth home top (ModuleDec.Sequence decs at) st p h = decs_of good depth home top decs st p h
  dec_of good depth home top (ModuleDec.Structures binds at) st p h =
      given_then (λ r. Makes home (FromBinds good top empty_env st) st r.1 (DecOf r)) (ModMade good home top st)
      (infer_module_binds depth home top binds empty_env st) _
      (binds_of good depth home top binds empty_env st p (λ m l. (h m l, nothing_of (below_number home m)))) (λ r k.
      sized_made good home top st at r (before refl k (λ q i. (i, nothing_of q))))

  decs_of : (good : List ℕ → Bool) (depth : ℕ) (home : List ℕ) (top : Top) (decs : ModuleDecs) (st : Progress)
      → ModuleDecsSpelt good decs → IsReadyFor home (IsOfTop good top st) st.names
      → Given (ModMade good home top st) (infer_module_decs depth home top decs st)
  decs_of good depth home top ModuleDecs.EndOfDecs st p h = plain refl (λ q i. (i.state, nothing_of q))
  decs_of good depth home top (ModuleDecs.Dec dec rest) st p h =
      given_then (ModMade good home top st) (ModMade good home top st) (infer_module_dec depth home top dec st) _
      (dec_of good depth home top dec st p.0 h) (λ d k.
      given_then (ModMade good home (top_under d.0 top) d.1) (ModMade good home top st)
      (infer_module_decs depth home (top_under d.0 top) rest d.1) _
      (decs_of good depth home (top_under d.0 top) rest d.1 p.1
      (ready_after h k (λ q i j. under_top good q top st d i j))) (λ r l.
      less (after k l (λ q i j. under_top good q top st d i j))
      (λ q i j. (j.1.0, has_modified (SchemeOf q) (FunctionOf q) d.0 r.0 j.0.1 j.1.1))))

  binds_of : (good : List ℕ → Bool) (depth : ℕ) (home : List ℕ) (top : Top) (binds : ModuleBinds) (made : Env)
      (st : Progress) → ModuleBindsSpelt good binds → IsReadyFor home (FromBinds good top made st) st.names
      → Given (λ r. Makes home (FromBinds good top made st) st r.1 (DecOf r))
      (infer_module_binds depth home top binds made st)
  binds_of good depth home top ModuleBinds.EndOfBinds made st p h = plain refl (λ q i. (i.0.state, i.1))
  binds_of good depth home top (ModuleBinds.Bind name str rest) made st p h =
      let Whole : Env × Progress → Type 0 = λ r. Makes home (FromBinds good top made st) st r.1 (DecOf r) in
      label_made Whole (core_scope home top) name (structures made) _
      (given_then (ModMade good home top st) Whole (infer_module depth home top str st) _
      (module_made good depth home top str st p.0 (λ m l. (h m l).0)) (λ r k.
      let first : Makes home (FromBinds good top made st) st r.1 (DecOf r) = before refl k (λ q i. i.0) in
      given_more
      (λ v. Makes home (FromBinds good top (with_structure name.text r.0 made) r.1) r.1 v.1 (DecOf v)) Whole
      (infer_module_binds depth home top rest (with_structure name.text r.0 made) r.1)
      (λ v l. less (after first l (λ q i j. after_bind good q top made name.text st r i j)) (λ q i j. j.1))
      (binds_of good depth home top rest (with_structure name.text r.0 made) r.1 p.1
      (ready_after h first (λ q i j. after_bind good q top made name.text st r i j)))))
