-- States grow while structures are inferred.
use Rattle.std.proofs.Common.{ℕ, arith, List, ◌++◌, length, Bool}
use Rattle.semantic_objects.specs.Tables.{entry}
use Rattle.semantic_objects.specs.Environments.{Env, Signature, Functor, Top, structures, empty_env, with_structure}
use Rattle.sml_trees.specs.declared.name.At.{At}
use Rattle.realisation.specs.Realised.{of_rows}
use Rattle.static_semantics.specs.Inferring.{Progress, Scope, known, found_at, has_too_large, sized_dec}
use Rattle.static_semantics.specs.TypeInference.{new_label}
use Rattle.static_semantics.specs.CoreInference.{infer_dec}
use Rattle.static_semantics.specs.Holding.{Given}
use Rattle.static_semantics.specs.Growing.{SchemeIn, FunctionIn, EnvIn, Grows, IsReady}
use Rattle.static_semantics.proofs.Holding.{given_then, given_where, given_known, rows_found, has_structures, has_nothing, has_modified, has_found}
use Rattle.static_semantics.proofs.Growing.{grows_same, grows_then, env_later}
use Rattle.static_semantics.proofs.TypesGrow.{given_more, MadeIn}
use Rattle.inference_laws.specs.Nodes.{EnvOf, below_number}
use Rattle.inference_laws.specs.Alike.{FirmType, FirmValue, AnyName, FirmEnv}
use Rattle.inference_laws.specs.Promises.{Any}
use Rattle.inference_laws.proofs.EnvsWith.{env_structures, env_found}
use Rattle.inference_laws.proofs.Firm.{firm_nothing, firm_modified, dec_firm}
use Rattle.inference_laws.proofs.Making.{given_both, names_rise, names_below, ready_after}
use Rattle.module_semantics.specs.SignatureNames.{rows_between, unit_names}
use Rattle.module_semantics.specs.SignatureInference.{single, signature_of}
use Rattle.module_semantics.specs.SigPhrases.{SigPhrase}
use Rattle.module_semantics.specs.Matching.{matching, matched}
use Rattle.unit_semantics.specs.UnitPhrases.{ModulePhrase, ModuleDec, ModuleDecs, ModuleBinds}
use Rattle.unit_semantics.specs.StructureInference.{module_at, core_scope, top_under, known_env, param_of, infer_module, infer_module_dec, infer_module_decs, infer_module_binds}
use Rattle.unit_semantics.specs.Promises.{IsClosedEnv, IsClosedFunctor}
use Rattle.unit_semantics.proofs.Answers.{always}
use Rattle.unit_semantics.proofs.Closed.{realised_closed}
use Rattle.unit_semantics.proofs.SignaturesClosed.{opened_closed}
use Rattle.unit_laws.specs.Spelling.{SigSpelt, ModuleSpelt, ModuleDecSpelt, ModuleDecsSpelt, ModuleBindsSpelt}
use Rattle.unit_laws.proofs.ModulesMade.{ModMade, sigs_of, under_top, later_top, module_made}
use Rattle.table_laws.specs.Rising.{RisingEnv}
use Rattle.table_laws.proofs.Tables.{rising_modified}
use Rattle.table_laws.proofs.Units.{module_rises}
use Rattle.matching_choices.proofs.Closed.{closed_firm}
use Rattle.specification_laws.specs.Promises.{SignatureDerived, IsAround}
use Rattle.specification_laws.proofs.Promised.{signatures_have_derivations}
use Rattle.module_growth.specs.Grown.{IsInside, IsGrown}
use Rattle.module_growth.proofs.Signatures.{Then, grows_names, signature_grows}
use Rattle.module_growth.proofs.Closed.{RowsClosed, env_types_known, rows_put, names_closed, matching_closed, matched_closed, env_in, structure_in, structure_firm}

-- ---- what is around, later on

pub inside_later : (good : List ℕ → Bool) (home : List ℕ) (top : Top) (st : Progress) (r : Env × Progress)
    → IsInside good home top st → ModMade good home top st r → Grows Any st r.1 → IsInside good home top r.1
inside_later good home top st r h made g = record {
  ready = ready_after h.ready made (λ q i j. later_top good q top st r.1 i j.0);
  rises = h.rises;
  firm = h.firm;
  env = env_later Any st r.1 top.env g h.env;
  signatures = h.signatures;
  functors = h.functors;
  fit = g.fit;
}

-- .. and after a declaration
pub inside_under : (good : List ℕ → Bool) (home : List ℕ) (top : Top) (st : Progress) (d : Env × Progress)
    → IsInside good home top st → ModMade good home top st d → RisingEnv d.0 → IsGrown st d
    → IsInside good home (top_under d.0 top) d.1
inside_under good home top st d h made rises g = record {
  ready = ready_after h.ready made (λ q i j. under_top good q top st d i j);
  rises = record {
    env = rising_modified top.env d.0 h.rises.env rises;
    signatures = h.rises.signatures;
    functors = h.rises.functors;
    funsigs = h.rises.funsigs;
  };
  firm = firm_modified top.env d.0 h.firm g.firm;
  env = has_modified (SchemeIn Any d.1.types) (FunctionIn Any d.1.types) top.env d.0
      (env_later Any st d.1 top.env g.grows h.env) g.env;
  signatures = h.signatures;
  functors = h.functors;
  fit = g.grows.fit;
}

-- what a signature is inferred in
pub around_signature : (good : List ℕ → Bool) (home : List ℕ) (top : Top) (st : Progress) → IsInside good home top st
    → IsAround good top.signatures (core_scope home top) st
around_signature good home top st h = record {
  ready = λ m l. sigs_of good home (below_number home m) top st st (h.ready m l) (h.ready m l).state;
  firm = h.firm;
  rises = h.rises.env;
  sigs_rise = h.rises.signatures.1;
  sigs_closed = h.signatures;
  fit = h.fit;
}

-- .. and a declaration of the core
pub ready_core : (good : List ℕ → Bool) (home : List ℕ) (top : Top) (st : Progress) → IsInside good home top st
    → IsReady Any (core_scope home top) st
ready_core good home top st h = record {
  fit = h.fit;
  new = λ n l. tt;
  scope = record { env = h.env; written = tt };
}

-- ---- steps

pub grown_after : (st u : Progress) (r : Env × Progress) → Grows Any st u → IsGrown u r → IsGrown st r
grown_after st u r g k = record { grows = grows_then Any st u r.1 g k.grows; env = k.env; firm = k.firm }

-- what was made is of the unit's names that are there afterwards
pub made_of : (good : List ℕ → Bool) (home : List ℕ) (top : Top) (st : Progress) (r : Env × Progress)
    → IsInside good home top st → ModMade good home top st r → EnvOf (below_number home r.1.names) r.0
made_of good home top st r h made = (made.holds (below_number home r.1.names) (h.ready r.1.names (names_rise made))
    (names_below home st.names made.names r.1.names r.1.names made.numbered (omega arith))).1

-- a closed environment after a state that grew
abbrev ClosedThen : Progress → Env × Progress → Type 0
ClosedThen st r = Grows Any st r.1 × IsClosedEnv r.0

closed_grown : (good : List ℕ → Bool) (home : List ℕ) (top : Top) (st : Progress) (r : Env × Progress)
    → IsInside good home top st → ModMade good home top st r → ClosedThen st r → IsGrown st r
closed_grown good home top st r h made k = record {
  grows = k.0;
  env = env_in (below_number home r.1.names) r.1.types r.0 (made_of good home top st r h made) k.1;
  firm = closed_firm r.0 k.1;
}

sized_grown : (home : List ℕ) (top : Top) (st : Progress) (at : At) (r : Env × Progress) → IsGrown st r
    → Given (IsGrown st) (sized_dec (core_scope home top) at r)
sized_grown home top st at r h =
    given_where (IsGrown st) (has_too_large r.1.types.stands r.0) 38 (core_scope home top) at _ h

-- a signature after a structure expression
abbrev pub SigThen : Top → List ℕ → SigPhrase → Progress → Signature × Progress → Type 0
SigThen top home sig st r = Grows Any st r.1 × SignatureDerived top.signatures (core_scope home top) sig st r

pub signature_then : (good : List ℕ → Bool) (home : List ℕ) (top : Top) (sig : SigPhrase) (st : Progress)
    → SigSpelt good sig → IsInside good home top st
    → Given (SigThen top home sig st) (signature_of top.signatures (core_scope home top) sig st)
signature_then good home top sig st p h =
    given_both (Then st) (SignatureDerived top.signatures (core_scope home top) sig st)
    (signature_of top.signatures (core_scope home top) sig st)
    (signature_grows top.signatures (core_scope home top) sig st h.fit)
    (signatures_have_derivations.all good top.signatures (core_scope home top) sig st p
    (around_signature good home top st h))

-- what a structure expression makes, and that the state grew
abbrev MadeGrown : (List ℕ → Bool) → List ℕ → Top → Progress → Env × Progress → Type 0
MadeGrown good home top st r = ModMade good home top st r × IsGrown st r

abbrev DecGrown : (List ℕ → Bool) → List ℕ → Top → Progress → Env × Progress → Type 0
DecGrown good home top st r = ModMade good home top st r × (RisingEnv r.0 × IsGrown st r)

-- ---- structure expressions and declarations

module _ (good : List ℕ → Bool) (depth : ℕ) (home : List ℕ) where
  mutual
    pub module_grows : (top : Top) (str : ModulePhrase) (st : Progress) → ModuleSpelt good str
        → IsInside good home top st → Given (IsGrown st) (infer_module depth home top str st)
    module_grows top (ModulePhrase.Struct dec at) st p h = dec_grows top dec st p h
    module_grows top (ModulePhrase.Named long at) st p h =
        given_then (λ env. EnvIn Any st.types env × FirmEnv env) (IsGrown st)
        (known (core_scope home top) long (found_at structures long.parts top.env)) _
        (given_both (EnvIn Any st.types) FirmEnv
        (known (core_scope home top) long (found_at structures long.parts top.env))
        (given_known (EnvIn Any st.types) (core_scope home top) long (found_at structures long.parts top.env)
        (has_found (SchemeIn Any st.types) (FunctionIn Any st.types) (EnvIn Any st.types) structures
        (has_structures (SchemeIn Any st.types) (FunctionIn Any st.types)) long.parts top.env h.env))
        (given_known FirmEnv (core_scope home top) long (found_at structures long.parts top.env)
        (env_found AnyName FirmType FirmValue FirmEnv structures (env_structures AnyName FirmType FirmValue) long.parts
        top.env h.firm)))
        (λ env k. record { grows = grows_same Any st h.fit; env = k.0; firm = k.1 })
    module_grows top (ModulePhrase.Transparent str sig at) st p h =
        given_more (λ r. ModMade good home top st r × ClosedThen st r) (IsGrown st)
        (infer_module depth home top (ModulePhrase.Transparent str sig at) st)
        (λ r k. closed_grown good home top st r h k.0 k.1)
        (given_both (ModMade good home top st) (ClosedThen st)
        (infer_module depth home top (ModulePhrase.Transparent str sig at) st)
        (module_made good depth home top (ModulePhrase.Transparent str sig at) st p h.ready)
        (given_then (MadeGrown good home top st) (ClosedThen st) (infer_module depth home top str st) _
        (given_both (ModMade good home top st) (IsGrown st) (infer_module depth home top str st)
        (module_made good depth home top str st p.0 h.ready) (module_grows top str st p.0 h)) (λ e k.
        given_then (SigThen top home sig e.1) (ClosedThen st)
        (signature_of top.signatures (core_scope home top) sig e.1) _
        (signature_then good home top sig e.1 p.1 (inside_later good home top st e h k.0 k.1.grows)) (λ r l.
        given_then IsClosedEnv (ClosedThen st)
        (matched (core_scope home top) (module_at str) r.1.types (known_env e.0 r.1) r.0) _
        (matched_closed (core_scope home top) (module_at str) r.1.types (known_env e.0 r.1) r.0
        (env_types_known r.1.types.stands e.0 k.1.firm) l.1.closed)
        (λ made m. (grows_then Any st e.1 r.1 k.1.grows l.0, m))))))
    module_grows top (ModulePhrase.Opaque str sig at) st p h =
        given_more (λ r. ModMade good home top st r × ClosedThen st r) (IsGrown st)
        (infer_module depth home top (ModulePhrase.Opaque str sig at) st)
        (λ r k. closed_grown good home top st r h k.0 k.1)
        (given_both (ModMade good home top st) (ClosedThen st)
        (infer_module depth home top (ModulePhrase.Opaque str sig at) st)
        (module_made good depth home top (ModulePhrase.Opaque str sig at) st p h.ready)
        (given_then (MadeGrown good home top st) (ClosedThen st) (infer_module depth home top str st) _
        (given_both (ModMade good home top st) (IsGrown st) (infer_module depth home top str st)
        (module_made good depth home top str st p.0 h.ready) (module_grows top str st p.0 h)) (λ e k.
        given_then (SigThen top home sig e.1) (ClosedThen st)
        (signature_of top.signatures (core_scope home top) sig e.1) _
        (signature_then good home top sig e.1 p.1 (inside_later good home top st e h k.0 k.1.grows)) (λ r l.
        always (ClosedThen st)
        (matched (core_scope home top) (module_at str) r.1.types (known_env e.0 r.1) r.0) _ (λ made. (
          grows_names (length r.0.bound) st r.1 (grows_then Any st e.1 r.1 k.1.grows l.0),
          opened_closed home r.0 r.1 l.1.closed,
        ))))))
    module_grows top (ModulePhrase.Functor name argument at) st p h =
        given_more (λ r. ModMade good home top st r × ClosedThen st r) (IsGrown st)
        (infer_module depth home top (ModulePhrase.Functor name argument at) st)
        (λ r k. closed_grown good home top st r h k.0 k.1)
        (given_both (ModMade good home top st) (ClosedThen st)
        (infer_module depth home top (ModulePhrase.Functor name argument at) st)
        (module_made good depth home top (ModulePhrase.Functor name argument at) st p h.ready)
        (given_then IsClosedFunctor (ClosedThen st)
        (known (core_scope home top) (single name) (entry name.text top.functors)) _
        (given_known IsClosedFunctor (core_scope home top) (single name) (entry name.text top.functors)
        (rows_found IsClosedFunctor name.text top.functors h.functors)) (λ fun f.
        given_then (IsGrown st) (ClosedThen st) (infer_module depth home top argument st) _
        (module_grows top argument st p h) (λ e k.
        given_then RowsClosed (ClosedThen st)
        (matching (core_scope home top) (module_at argument) e.1.types (known_env e.0 e.1) (param_of fun)) _
        (matching_closed (core_scope home top) (module_at argument) e.1.types (known_env e.0 e.1) (param_of fun)
        (env_types_known e.1.types.stands e.0 k.firm)) (λ rows l.
        let more = rows_between fun.further (unit_names home e.1.names fun.further) in (
          grows_names (length fun.further) st e.1 k.grows,
          realised_closed (of_rows (rows ++ more)) (rows_put (rows ++ more)
              (Rattle.inference_laws.proofs.EnvsWith.items_after
              (λ row. Rattle.unit_semantics.specs.Promises.IsClosedFunction row.1) rows more l
              (names_closed fun.further (unit_names home e.1.names fun.further)))) fun.result f.result,
        ))))))
    module_grows top (ModulePhrase.Within dec body at) st p h =
        given_then (DecGrown good home top st) (IsGrown st) (infer_module_dec depth home top dec st) _
        (given_both (ModMade good home top st) (λ d. RisingEnv d.0 × IsGrown st d)
        (infer_module_dec depth home top dec st)
        (Rattle.unit_laws.proofs.ModulesMade.dec_of good depth home top dec st p.0 h.ready)
        (given_both (λ d. RisingEnv d.0) (IsGrown st) (infer_module_dec depth home top dec st)
        (Rattle.table_laws.proofs.Units.dec_of depth home top dec st h.rises) (dec_grows top dec st p.0 h))) (λ d k.
        given_more (IsGrown d.1) (IsGrown st) (infer_module depth home (top_under d.0 top) body d.1)
        (λ r l. grown_after st d.1 r k.1.1.grows l)
        (module_grows (top_under d.0 top) body d.1 p.1 (inside_under good home top st d h k.0 k.1.0 k.1.1)))

    pub dec_grows : (top : Top) (dec : ModuleDec) (st : Progress) → ModuleDecSpelt good dec
        → IsInside good home top st → Given (IsGrown st) (infer_module_dec depth home top dec st)
    dec_grows top (ModuleDec.Core dec) st p h =
        given_more (λ r. MadeIn Any st r × FirmEnv r.0) (IsGrown st) (infer_dec depth (core_scope home top) dec st)
        (λ r k. record { grows = k.0.0; env = k.0.1; firm = k.1 })
        (given_both (MadeIn Any st) (λ r. FirmEnv r.0) (infer_dec depth (core_scope home top) dec st)
        (Rattle.static_semantics.proofs.CoreGrow.dec_grows Any depth (core_scope home top) dec st
        (ready_core good home top st h))
        (dec_firm depth (core_scope home top) dec st h.firm))
    dec_grows top (ModuleDec.Local hidden shown at) st p h =
        given_then (DecGrown good home top st) (IsGrown st) (infer_module_dec depth home top hidden st) _
        (given_both (ModMade good home top st) (λ d. RisingEnv d.0 × IsGrown st d)
        (infer_module_dec depth home top hidden st)
        (Rattle.unit_laws.proofs.ModulesMade.dec_of good depth home top hidden st p.0 h.ready)
        (given_both (λ d. RisingEnv d.0) (IsGrown st) (infer_module_dec depth home top hidden st)
        (Rattle.table_laws.proofs.Units.dec_of depth home top hidden st h.rises) (dec_grows top hidden st p.0 h)))
        (λ d k.
        given_then (IsGrown d.1) (IsGrown st) (infer_module_dec depth home (top_under d.0 top) shown d.1) _
        (dec_grows (top_under d.0 top) shown d.1 p.1 (inside_under good home top st d h k.0 k.1.0 k.1.1)) (λ r l.
        sized_grown home top st at r (grown_after st d.1 r k.1.1.grows l)))
    dec_grows top (ModuleDec.Sequence decs at) st p h = decs_grow top decs st p h
    dec_grows top (ModuleDec.Structures binds at) st p h =
        given_then (IsGrown st) (IsGrown st) (infer_module_binds depth home top binds empty_env st) _
        (binds_grow top binds empty_env st p h (has_nothing (SchemeIn Any st.types) (FunctionIn Any st.types))
        firm_nothing) (λ r l. sized_grown home top st at r l)

    pub decs_grow : (top : Top) (decs : ModuleDecs) (st : Progress) → ModuleDecsSpelt good decs
        → IsInside good home top st → Given (IsGrown st) (infer_module_decs depth home top decs st)
    decs_grow top ModuleDecs.EndOfDecs st p h = record {
      grows = grows_same Any st h.fit;
      env = has_nothing (SchemeIn Any st.types) (FunctionIn Any st.types);
      firm = firm_nothing;
    }
    decs_grow top (ModuleDecs.Dec dec rest) st p h =
        given_then (DecGrown good home top st) (IsGrown st) (infer_module_dec depth home top dec st) _
        (given_both (ModMade good home top st) (λ d. RisingEnv d.0 × IsGrown st d)
        (infer_module_dec depth home top dec st)
        (Rattle.unit_laws.proofs.ModulesMade.dec_of good depth home top dec st p.0 h.ready)
        (given_both (λ d. RisingEnv d.0) (IsGrown st) (infer_module_dec depth home top dec st)
        (Rattle.table_laws.proofs.Units.dec_of depth home top dec st h.rises) (dec_grows top dec st p.0 h))) (λ d k.
        given_then (IsGrown d.1) (IsGrown st) (infer_module_decs depth home (top_under d.0 top) rest d.1) _
        (decs_grow (top_under d.0 top) rest d.1 p.1 (inside_under good home top st d h k.0 k.1.0 k.1.1)) (λ r l.
        record {
          grows = grows_then Any st d.1 r.1 k.1.1.grows l.grows;
          env = has_modified (SchemeIn Any r.1.types) (FunctionIn Any r.1.types) d.0 r.0
              (env_later Any d.1 r.1 d.0 l.grows k.1.1.env) l.env;
          firm = firm_modified d.0 r.0 k.1.1.firm l.firm;
        }))

    pub binds_grow : (top : Top) (binds : ModuleBinds) (made : Env) (st : Progress) → ModuleBindsSpelt good binds
        → IsInside good home top st → EnvIn Any st.types made → FirmEnv made
        → Given (IsGrown st) (infer_module_binds depth home top binds made st)
    binds_grow top ModuleBinds.EndOfBinds made st p h i f =
        record { grows = grows_same Any st h.fit; env = i; firm = f }
    binds_grow top (ModuleBinds.Bind name str rest) made st p h i f =
        always (IsGrown st) (new_label (core_scope home top) name (structures made)) _ (λ u.
        given_then (MadeGrown good home top st) (IsGrown st) (infer_module depth home top str st) _
        (given_both (ModMade good home top st) (IsGrown st) (infer_module depth home top str st)
        (module_made good depth home top str st p.0 h.ready) (module_grows top str st p.0 h)) (λ r k.
        given_more (IsGrown r.1) (IsGrown st)
        (infer_module_binds depth home top rest (with_structure name.text r.0 made) r.1)
        (λ v l. grown_after st r.1 v k.1.grows l)
        (binds_grow top rest (with_structure name.text r.0 made) r.1 p.1
        (inside_later good home top st r h k.0 k.1.grows)
        (structure_in r.1.types name.text r.0 made k.1.env (env_later Any st r.1 made k.1.grows i))
        (structure_firm name.text r.0 made k.1.firm f))))
