-- Structure expressions and the declarations in them have derivations.
use Rattle.std.proofs.Common.{◌≡◌, ℕ, List, ◌++◌, refl, sym, ap, ◌∙◌, subst, Bool, false}
use Rattle.std.specs.Option.{is_some}
use Rattle.sml_trees.specs.declared.name.At.{At}
use Rattle.sml_trees.specs.declared.name.Name.{Name}
use Rattle.sml_trees.specs.declared.name.LongName.{LongName}
use Rattle.semantic_objects.specs.Tables.{entry}
use Rattle.semantic_objects.specs.Environments.{Env, Signature, Functor, Top, structures, empty_env, modified_by, with_structure}
use Rattle.unification.specs.Types.{State}
use Rattle.unification.specs.Unification.{Solves}
use Rattle.unification.specs.Generality.{MarksOwn}
use Rattle.realisation.specs.Realised.{of_rows, realised}
use Rattle.bare_phrases.specs.Phrases.{DecPhrase}
use Rattle.static_semantics.specs.Inferring.{Progress, known, found_at, name_at, has_too_large, sized_dec}
use Rattle.static_semantics.specs.CoreInference.{infer_dec}
use Rattle.static_semantics.specs.EnvironmentsPut.{put_env}
use Rattle.static_semantics.specs.Holding.{Given}
use Rattle.static_semantics.proofs.Holding.{given_then, given_where, given_known, rows_found, env_more}
use Rattle.static_semantics.proofs.Growing.{env_later}
use Rattle.static_semantics.proofs.TypesGrow.{given_more}
use Rattle.inference_laws.specs.Nodes.{Nodes, SchemeOf, FunctionOf, below_number}
use Rattle.inference_laws.specs.Promises.{Any}
use Rattle.inference_laws.proofs.Making.{given_both}
use Rattle.module_semantics.specs.SigPhrases.{SigPhrase}
use Rattle.module_semantics.specs.SignatureNames.{rows_between, unit_names, sealed}
use Rattle.module_semantics.specs.SignatureInference.{single, signature_of}
use Rattle.module_semantics.specs.Matching.{Rows, matching, matched}
use Rattle.unit_semantics.specs.UnitPhrases.{ModulePhrase, ModuleDec, ModuleDecs, ModuleBinds}
use Rattle.unit_semantics.specs.StructureInference.{module_at, core_scope, top_under, known_env, param_of, result_by, infer_module, infer_module_dec, infer_module_decs, infer_module_binds}
use Rattle.unit_semantics.specs.ElaboratesUnits.{ElaboratesModule, ElaboratesModuleDec, ElaboratesModuleDecs, ElaboratesModuleBinds}
use Rattle.unit_semantics.specs.Promises.{IsClosedEnv, IsClosedFunctor}
use Rattle.unit_semantics.proofs.Answers.{where_not}
use Rattle.unit_semantics.proofs.Closed.{realised_closed}
use Rattle.unit_semantics.proofs.SignaturesClosed.{opened_closed}
use Rattle.unit_laws.specs.Spelling.{ModuleSpelt, ModuleDecSpelt, ModuleDecsSpelt, ModuleBindsSpelt}
use Rattle.unit_laws.proofs.ModulesMade.{ModMade, module_made}
use Rattle.table_laws.specs.Rising.{RisingEnv}
use Rattle.datatype_laws.specs.Below.{AnyScheme, FunctionBelow, TypesBelow}
use Rattle.phrase_laws.specs.Derived.{DecDerived}
use Rattle.phrase_laws.proofs.Finding.{found_put, structures_put, modified_put}
use Rattle.matching_choices.proofs.Closed.{env_stays}
use Rattle.elaboration_laws.specs.Declaring.{BindsValues}
use Rattle.module_growth.specs.Grown.{IsInside, IsGrown}
use Rattle.module_growth.proofs.Closed.{env_types_known, rows_put, names_closed}
use Rattle.module_growth.proofs.Modules.{inside_later, inside_under, ready_core, made_of, SigThen, signature_then, module_grows}
use Rattle.module_laws.specs.Declaring.{ModuleHas, ModuleDecHas, ModuleDecsHave, ModuleBindsHave}
use Rattle.module_laws.specs.Derived.{top_under_choice, ModuleDerived, ModuleDecDerived, ModuleDecsDerived, ModuleBindsDerived}
use Rattle.module_laws.proofs.States.{of_state}
use Rattle.module_laws.proofs.Matched.{MatchesBy, matching_by, MatchedBy, matched_by, matches_under, result_is}
use Rattle.module_laws.proofs.Parts.{with_structure_put, no_structure, under_choice, StructureFound, structure_found, FunctorFound, functor_found}

-- what a structure expression, a declaration gives: what it is made of, that the state grew, and the derivation
abbrev pub AllOf : (List ℕ → Bool) → List ℕ → Top → ModulePhrase → Progress → Env × Progress → Type 0
AllOf good home top str st r = ModMade good home top st r × (IsGrown st r × ModuleDerived home top str st r)

abbrev AllOfDec : (List ℕ → Bool) → List ℕ → Top → ModuleDec → Progress → Env × Progress → Type 0
AllOfDec good home top dec st r =
    ModMade good home top st r × (RisingEnv r.0 × (IsGrown st r × ModuleDecDerived home top dec st r))

-- ---- structure expressions

named_derived : (home : List ℕ) (top : Top) (long : LongName) (at : At) (st : Progress) (env : Env)
    → StructureFound top.env long.parts env → ModuleDerived home top (ModulePhrase.Named long at) st (env, st)
named_derived home top long at st env f = record {
  solved = λ p q. q;
  leaves = λ p q. q;
  derives = λ p q owns. ElaboratesModule.rule_51 p home (top_under_choice p.stands top) st.names long at
      (put_env p.stands env)
      (found_put structures p.stands (put_env p.stands) (structures_put p.stands) long.parts top.env
      ∙ ap (Rattle.std.specs.Option.option_map (put_env p.stands)) f.is);
}

module _ (good : List ℕ → Bool) (home : List ℕ) (top : Top) (str : ModulePhrase) (sig : SigPhrase) (at : At)
    (st : Progress) (e : Env × Progress) (r : Signature × Progress) (h : IsInside good home top st)
    (k : AllOf good home top str st e) (l : SigThen top home sig e.1 r) where
  solved_all : (p : State) → Solves p r.1.types → Solves p st.types
  solved_all p q = k.1.1.solved p (l.1.after.solved p q)

  -- what is matched is of the state
  is_of : Rattle.module_semantics.specs.Promises.IsOfState r.1.types (known_env e.0 r.1)
  is_of = of_state (below_number home e.1.names) r.1.types e.0 l.0.fit (env_later Any e.1 r.1 e.0 l.0 k.1.0.env)
      (made_of good home top st e h k.0) k.1.0.firm

  matched_under : (made : Env) (m : MatchedBy r.1.types (known_env e.0 r.1) r.0 made) (p : State)
      → Solves p r.1.types → MarksOwn p
      → Rattle.module_semantics.specs.ElaboratesSignatures.Matches p (put_env p.stands e.0) r.0 (of_rows m.rows)
  matched_under made m p q owns =
      matches_under p r.1 e.0 r.0 m.rows q owns is_of k.1.0.firm l.1.closed m.by

  transparent_derived : (made : Env) → MatchedBy r.1.types (known_env e.0 r.1) r.0 made
      → ModuleDerived home top (ModulePhrase.Transparent str sig at) st (made, r.1)
  transparent_derived made m = record {
    solved = solved_all;
    leaves = λ p q. k.1.1.leaves p (l.1.after.leaves p q);
    derives = λ p q owns. subst (λ z. ElaboratesModule p home (top_under_choice p.stands top) st.names
        (ModulePhrase.Transparent str sig at) z r.1.names)
        (sym (ap (put_env p.stands) m.is
        ∙ env_stays p.stands (realised (of_rows m.rows) r.0.env)
        (realised_closed (of_rows m.rows) (rows_put m.rows m.by.closed) r.0.env l.1.closed)))
        (ElaboratesModule.rule_52 p home (top_under_choice p.stands top) st.names e.1.names r.1.names str sig at
        (put_env p.stands e.0) r.0 (of_rows m.rows) (k.1.1.derives p (l.1.after.solved p q) owns)
        (l.1.derives p.stands) (matched_under made m p q owns));
  }

  opaque_derived : (made : Env) → MatchedBy r.1.types (known_env e.0 r.1) r.0 made
      → ModuleDerived home top (ModulePhrase.Opaque str sig at) st (sealed home r.0 r.1)
  opaque_derived made m = record {
    solved = solved_all;
    leaves = λ p q. k.1.1.leaves p (l.1.after.leaves p q);
    derives = λ p q owns. subst (λ z. ElaboratesModule p home (top_under_choice p.stands top) st.names
        (ModulePhrase.Opaque str sig at) z (sealed home r.0 r.1).1.names)
        (sym (env_stays p.stands (sealed home r.0 r.1).0 (opened_closed home r.0 r.1 l.1.closed)))
        (ElaboratesModule.rule_53 p home (top_under_choice p.stands top) st.names e.1.names r.1.names str sig at
        (put_env p.stands e.0) r.0 (of_rows m.rows) (k.1.1.derives p (l.1.after.solved p q) owns)
        (l.1.derives p.stands) (matched_under made m p q owns));
  }

applied_derived : (good : List ℕ → Bool) (home : List ℕ) (top : Top) (name : Name) (argument : ModulePhrase) (at : At)
    (st : Progress) (fun : Functor) (e : Env × Progress) (rows : Rows) → FunctorFound top.functors name.text fun
    → AllOf good home top argument st e → MatchesBy e.1.types (known_env e.0 e.1) (param_of fun) rows
    → Rattle.module_semantics.specs.Promises.IsOfState e.1.types (known_env e.0 e.1)
    → ModuleDerived home top (ModulePhrase.Functor name argument at) st (result_by home fun rows e.1)
applied_derived good home top name argument at st fun e rows f k m of =
    let more : Rows = rows_between fun.further (unit_names home e.1.names fun.further) in
    let closed : IsClosedEnv (realised (of_rows (rows ++ more)) fun.result) =
    realised_closed (of_rows (rows ++ more)) (rows_put (rows ++ more)
    (Rattle.inference_laws.proofs.EnvsWith.items_after
    (λ row. Rattle.unit_semantics.specs.Promises.IsClosedFunction row.1) rows more m.closed
    (names_closed fun.further (unit_names home e.1.names fun.further)))) fun.result f.closed.result in
    record {
      solved = k.1.1.solved;
      leaves = k.1.1.leaves;
      derives = λ p q owns. subst (λ z. ElaboratesModule p home (top_under_choice p.stands top) st.names
          (ModulePhrase.Functor name argument at) z (result_by home fun rows e.1).1.names)
          (sym (env_stays p.stands (realised (of_rows (rows ++ more)) fun.result) closed
          ∙ result_is home e.1.names fun rows))
          (ElaboratesModule.rule_54 p home (top_under_choice p.stands top) st.names e.1.names name argument at fun
          (put_env p.stands e.0) (of_rows rows) f.is (k.1.1.derives p q owns)
          (matches_under p e.1 e.0 (param_of fun) rows q owns of k.1.0.firm f.closed.param m));
    }

within_derived : (good : List ℕ → Bool) (home : List ℕ) (top : Top) (dec : ModuleDec) (body : ModulePhrase) (at : At)
    (st : Progress) (d r : Env × Progress) → AllOfDec good home top dec st d
    → ModuleDerived home (top_under d.0 top) body d.1 r
    → ModuleDerived home top (ModulePhrase.Within dec body at) st r
within_derived good home top dec body at st d r k l = record {
  solved = λ p q. k.1.1.1.solved p (l.solved p q);
  leaves = λ p q. k.1.1.1.leaves p (l.leaves p q);
  derives = λ p q owns. ElaboratesModule.rule_55 p home (top_under_choice p.stands top) st.names d.1.names r.1.names
      dec body at (put_env p.stands d.0) (put_env p.stands r.0) (k.1.1.1.derives p (l.solved p q) owns)
      (subst (λ z. ElaboratesModule p home z d.1.names body (put_env p.stands r.0) r.1.names)
      (under_choice p.stands d.0 top) (l.derives p q owns));
}

-- ---- declarations

types_below : (good : List ℕ → Bool) (home : List ℕ) (top : Top) (st : Progress) → IsInside good home top st
    → TypesBelow home st.names top.env
types_below good home top st h =
    let q : Nodes = below_number home st.names in
    env_more (SchemeOf q) AnyScheme (FunctionOf q) (FunctionBelow home st.names) (λ σ i. tt) (λ f i. i.body) top.env
    (Rattle.inference_laws.proofs.Making.ready_now home (Rattle.unit_laws.specs.Parts.IsOfTop good top st) st.names
    h.ready).scope.env

core_derived : (home : List ℕ) (top : Top) (dec : DecPhrase) (st : Progress) (r : Env × Progress)
    → DecDerived (core_scope home top) dec st r → ModuleDecDerived home top (ModuleDec.Core dec) st r
core_derived home top dec st r k = record {
  solved = k.solved;
  leaves = k.leaves;
  derives = λ p q owns. ElaboratesModuleDec.rule_56 p home (top_under_choice p.stands top) st.names r.1.names dec
      (put_env p.stands r.0) (k.derives p q);
}

local_derived : (good : List ℕ → Bool) (home : List ℕ) (top : Top) (hidden shown : ModuleDec) (at : At)
    (st : Progress) (d r : Env × Progress) → AllOfDec good home top hidden st d
    → ModuleDecDerived home (top_under d.0 top) shown d.1 r
    → ModuleDecDerived home top (ModuleDec.Local hidden shown at) st r
local_derived good home top hidden shown at st d r k l = record {
  solved = λ p q. k.1.1.1.solved p (l.solved p q);
  leaves = λ p q. k.1.1.1.leaves p (l.leaves p q);
  derives = λ p q owns. ElaboratesModuleDec.rule_58 p home (top_under_choice p.stands top) st.names d.1.names r.1.names
      hidden shown at (put_env p.stands d.0) (put_env p.stands r.0) (k.1.1.1.derives p (l.solved p q) owns)
      (subst (λ z. ElaboratesModuleDec p home z d.1.names shown (put_env p.stands r.0) r.1.names)
      (under_choice p.stands d.0 top) (l.derives p q owns));
}

sequence_derived : (home : List ℕ) (top : Top) (decs : ModuleDecs) (at : At) (st : Progress) (r : Env × Progress)
    → ModuleDecsDerived home top decs st r → ModuleDecDerived home top (ModuleDec.Sequence decs at) st r
sequence_derived home top decs at st r k = record {
  solved = k.solved;
  leaves = k.leaves;
  derives = λ p q owns. ElaboratesModuleDec.rules_59_60 p home (top_under_choice p.stands top) st.names r.1.names decs
      at (put_env p.stands r.0) (k.derives p q owns);
}

structures_derived : (home : List ℕ) (top : Top) (binds : ModuleBinds) (at : At) (st : Progress) (r : Env × Progress)
    → ModuleBindsDerived home top binds empty_env st r
    → ModuleDecDerived home top (ModuleDec.Structures binds at) st r
structures_derived home top binds at st r k = record {
  solved = k.solved;
  leaves = k.leaves;
  derives = λ p q owns. ElaboratesModuleDec.rule_57 p home (top_under_choice p.stands top) st.names r.1.names binds at
      (put_env p.stands r.0) (k.derives p q owns);
}

decs_derived : (good : List ℕ → Bool) (home : List ℕ) (top : Top) (dec : ModuleDec) (rest : ModuleDecs) (st : Progress)
    (d r : Env × Progress) → AllOfDec good home top dec st d → ModuleDecsDerived home (top_under d.0 top) rest d.1 r
    → ModuleDecsDerived home top (ModuleDecs.Dec dec rest) st (modified_by d.0 r.0, r.1)
decs_derived good home top dec rest st d r k l = record {
  solved = λ p q. k.1.1.1.solved p (l.solved p q);
  leaves = λ p q. k.1.1.1.leaves p (l.leaves p q);
  derives = λ p q owns. subst (λ z. ElaboratesModuleDecs p home (top_under_choice p.stands top) st.names
      (ModuleDecs.Dec dec rest) z r.1.names) (modified_put p.stands d.0 r.0)
      (ElaboratesModuleDecs.rule_60 p home (top_under_choice p.stands top) st.names d.1.names r.1.names dec rest
      (put_env p.stands d.0) (put_env p.stands r.0) (k.1.1.1.derives p (l.solved p q) owns)
      (subst (λ z. ElaboratesModuleDecs p home z d.1.names rest (put_env p.stands r.0) r.1.names)
      (under_choice p.stands d.0 top) (l.derives p q owns)));
}

bind_derived : (good : List ℕ → Bool) (home : List ℕ) (top : Top) (name : Name) (str : ModulePhrase)
    (rest : ModuleBinds) (made : Env) (st : Progress) (r v : Env × Progress)
    → is_some (entry name.text (structures made)) ≡ false → AllOf good home top str st r
    → ModuleBindsDerived home top rest (with_structure name.text r.0 made) r.1 v
    → ModuleBindsDerived home top (ModuleBinds.Bind name str rest) made st v
bind_derived good home top name str rest made st r v n k l = record {
  solved = λ p q. k.1.1.solved p (l.solved p q);
  leaves = λ p q. k.1.1.leaves p (l.leaves p q);
  derives = λ p q owns. ElaboratesModuleBinds.rule_61 p home (top_under_choice p.stands top) st.names r.1.names
      v.1.names name str rest (put_env p.stands made) (put_env p.stands v.0) (put_env p.stands r.0)
      (no_structure p.stands name.text made n) (k.1.1.derives p (l.solved p q) owns)
      (subst (λ z. ElaboratesModuleBinds p home (top_under_choice p.stands top) r.1.names rest z (put_env p.stands v.0)
      v.1.names) (sym (with_structure_put p.stands name.text r.0 made)) (l.derives p q owns));
}

sized_derived : (home : List ℕ) (top : Top) (dec : ModuleDec) (st : Progress) (at : At) (r : Env × Progress)
    → ModuleDecDerived home top dec st r
    → Given (ModuleDecDerived home top dec st) (sized_dec (core_scope home top) at r)
sized_derived home top dec st at r h =
    given_where (ModuleDecDerived home top dec st) (has_too_large r.1.types.stands r.0) 38 (core_scope home top) at _ h

-- ---- all of them

module _ (good : List ℕ → Bool) (depth : ℕ) (home : List ℕ) where
  pub module_all : (top : Top) (str : ModulePhrase) (st : Progress) → ModuleSpelt good str → IsInside good home top st
      → Given (ModuleDerived home top str st) (infer_module depth home top str st)
      → Given (AllOf good home top str st) (infer_module depth home top str st)
  module_all top str st p h k =
      given_both (ModMade good home top st) (λ r. IsGrown st r × ModuleDerived home top str st r)
      (infer_module depth home top str st) (module_made good depth home top str st p h.ready)
      (given_both (IsGrown st) (ModuleDerived home top str st) (infer_module depth home top str st)
      (module_grows good depth home top str st p h) k)

  dec_all : (top : Top) (dec : ModuleDec) (st : Progress) → ModuleDecSpelt good dec → IsInside good home top st
      → Given (ModuleDecDerived home top dec st) (infer_module_dec depth home top dec st)
      → Given (AllOfDec good home top dec st) (infer_module_dec depth home top dec st)
  dec_all top dec st p h k =
      given_both (ModMade good home top st)
      (λ r. RisingEnv r.0 × (IsGrown st r × ModuleDecDerived home top dec st r))
      (infer_module_dec depth home top dec st)
      (Rattle.unit_laws.proofs.ModulesMade.dec_of good depth home top dec st p h.ready)
      (given_both (λ r. RisingEnv r.0) (λ r. IsGrown st r × ModuleDecDerived home top dec st r)
      (infer_module_dec depth home top dec st)
      (Rattle.table_laws.proofs.Units.dec_of depth home top dec st h.rises)
      (given_both (IsGrown st) (ModuleDecDerived home top dec st) (infer_module_dec depth home top dec st)
      (Rattle.module_growth.proofs.Modules.dec_grows good depth home top dec st p h) k))

  mutual
    pub module_derives : (top : Top) (str : ModulePhrase) (st : Progress) → ModuleSpelt good str
        → ModuleHas BindsValues str → IsInside good home top st
        → Given (ModuleDerived home top str st) (infer_module depth home top str st)
    module_derives top (ModulePhrase.Struct dec at) st p b h =
        given_more (ModuleDecDerived home top dec st) (ModuleDerived home top (ModulePhrase.Struct dec at) st)
        (infer_module_dec depth home top dec st) (λ r k. record {
          solved = k.solved;
          leaves = k.leaves;
          derives = λ c q owns. ElaboratesModule.rule_50 c home (top_under_choice c.stands top) st.names r.1.names dec at
              (put_env c.stands r.0) (k.derives c q owns);
        }) (dec_derives top dec st p b h)
    module_derives top (ModulePhrase.Named long at) st p b h =
        given_then (StructureFound top.env long.parts) (ModuleDerived home top (ModulePhrase.Named long at) st)
        (known (core_scope home top) long (found_at structures long.parts top.env)) _
        (given_known (StructureFound top.env long.parts) (core_scope home top) long
        (found_at structures long.parts top.env)
        (structure_found top.env long.parts (found_at structures long.parts top.env) refl))
        (λ env k. named_derived home top long at st env k)
    module_derives top (ModulePhrase.Transparent str sig at) st p b h =
        let Q : Env × Progress → Type 0 = ModuleDerived home top (ModulePhrase.Transparent str sig at) st in
        given_then (AllOf good home top str st) Q (infer_module depth home top str st) _
        (module_all top str st p.0 h (module_derives top str st p.0 b h)) (λ e k.
        given_then (SigThen top home sig e.1) Q (signature_of top.signatures (core_scope home top) sig e.1) _
        (signature_then good home top sig e.1 p.1 (inside_later good home top st e h k.0 k.1.0.grows)) (λ r l.
        given_then (MatchedBy r.1.types (known_env e.0 r.1) r.0) Q
        (matched (core_scope home top) (module_at str) r.1.types (known_env e.0 r.1) r.0) _
        (matched_by (core_scope home top) (module_at str) r.1.types (known_env e.0 r.1) r.0
        (env_types_known r.1.types.stands e.0 k.1.0.firm) (is_of good home top str sig at st e r h k l) l.1.closed)
        (λ made m. transparent_derived good home top str sig at st e r h k l made m)))
    module_derives top (ModulePhrase.Opaque str sig at) st p b h =
        let Q : Env × Progress → Type 0 = ModuleDerived home top (ModulePhrase.Opaque str sig at) st in
        given_then (AllOf good home top str st) Q (infer_module depth home top str st) _
        (module_all top str st p.0 h (module_derives top str st p.0 b h)) (λ e k.
        given_then (SigThen top home sig e.1) Q (signature_of top.signatures (core_scope home top) sig e.1) _
        (signature_then good home top sig e.1 p.1 (inside_later good home top st e h k.0 k.1.0.grows)) (λ r l.
        given_then (MatchedBy r.1.types (known_env e.0 r.1) r.0) Q
        (matched (core_scope home top) (module_at str) r.1.types (known_env e.0 r.1) r.0) _
        (matched_by (core_scope home top) (module_at str) r.1.types (known_env e.0 r.1) r.0
        (env_types_known r.1.types.stands e.0 k.1.0.firm) (is_of good home top str sig at st e r h k l) l.1.closed)
        (λ made m. opaque_derived good home top str sig at st e r h k l made m)))
    module_derives top (ModulePhrase.Functor name argument at) st p b h =
        let Q : Env × Progress → Type 0 = ModuleDerived home top (ModulePhrase.Functor name argument at) st in
        given_then (FunctorFound top.functors name.text) Q
        (known (core_scope home top) (single name) (entry name.text top.functors)) _
        (given_known (FunctorFound top.functors name.text) (core_scope home top) (single name)
        (entry name.text top.functors)
        (functor_found top.functors name.text (entry name.text top.functors) refl
        (rows_found IsClosedFunctor name.text top.functors h.functors))) (λ fun f.
        given_then (AllOf good home top argument st) Q (infer_module depth home top argument st) _
        (module_all top argument st p h (module_derives top argument st p b h)) (λ e k.
        let of : Rattle.module_semantics.specs.Promises.IsOfState e.1.types (known_env e.0 e.1) =
        of_state (below_number home e.1.names) e.1.types e.0 k.1.0.grows.fit k.1.0.env
        (made_of good home top st e h k.0) k.1.0.firm in
        given_then (MatchesBy e.1.types (known_env e.0 e.1) (param_of fun)) Q
        (matching (core_scope home top) (module_at argument) e.1.types (known_env e.0 e.1) (param_of fun)) _
        (matching_by (core_scope home top) (module_at argument) e.1.types (known_env e.0 e.1) (param_of fun)
        (env_types_known e.1.types.stands e.0 k.1.0.firm) of f.closed.param)
        (λ rows m. applied_derived good home top name argument at st fun e rows f k m of)))
    module_derives top (ModulePhrase.Within dec body at) st p b h =
        let Q : Env × Progress → Type 0 = ModuleDerived home top (ModulePhrase.Within dec body at) st in
        given_then (AllOfDec good home top dec st) Q (infer_module_dec depth home top dec st) _
        (dec_all top dec st p.0 h (dec_derives top dec st p.0 b.0 h)) (λ d k.
        given_more (ModuleDerived home (top_under d.0 top) body d.1) Q
        (infer_module depth home (top_under d.0 top) body d.1)
        (λ r l. within_derived good home top dec body at st d r k l)
        (module_derives (top_under d.0 top) body d.1 p.1 b.1
        (inside_under good home top st d h k.0 k.1.0 k.1.1.0)))

    pub dec_derives : (top : Top) (dec : ModuleDec) (st : Progress) → ModuleDecSpelt good dec
        → ModuleDecHas BindsValues dec → IsInside good home top st
        → Given (ModuleDecDerived home top dec st) (infer_module_dec depth home top dec st)
    dec_derives top (ModuleDec.Core dec) st p b h =
        given_more (DecDerived (core_scope home top) dec st) (ModuleDecDerived home top (ModuleDec.Core dec) st)
        (infer_dec depth (core_scope home top) dec st) (λ r k. core_derived home top dec st r k)
        (Rattle.elaboration_laws.proofs.Core.dec_derives depth (core_scope home top) dec st b h.firm
        (types_below good home top st h) (ready_core good home top st h))
    dec_derives top (ModuleDec.Local hidden shown at) st p b h =
        let Q : Env × Progress → Type 0 = ModuleDecDerived home top (ModuleDec.Local hidden shown at) st in
        given_then (AllOfDec good home top hidden st) Q (infer_module_dec depth home top hidden st) _
        (dec_all top hidden st p.0 h (dec_derives top hidden st p.0 b.0 h)) (λ d k.
        given_then (ModuleDecDerived home (top_under d.0 top) shown d.1) Q
        (infer_module_dec depth home (top_under d.0 top) shown d.1) _
        (dec_derives (top_under d.0 top) shown d.1 p.1 b.1 (inside_under good home top st d h k.0 k.1.0 k.1.1.0))
        (λ r l. sized_derived home top (ModuleDec.Local hidden shown at) st at r
        (local_derived good home top hidden shown at st d r k l)))
    dec_derives top (ModuleDec.Sequence decs at) st p b h =
        given_more (ModuleDecsDerived home top decs st) (ModuleDecDerived home top (ModuleDec.Sequence decs at) st)
        (infer_module_decs depth home top decs st) (λ r k. sequence_derived home top decs at st r k)
        (decs_derive top decs st p b h)
    dec_derives top (ModuleDec.Structures binds at) st p b h =
        given_then (ModuleBindsDerived home top binds empty_env st)
        (ModuleDecDerived home top (ModuleDec.Structures binds at) st)
        (infer_module_binds depth home top binds empty_env st) _ (binds_derive top binds empty_env st p b h)
        (λ r k. sized_derived home top (ModuleDec.Structures binds at) st at r
        (structures_derived home top binds at st r k))

    pub decs_derive : (top : Top) (decs : ModuleDecs) (st : Progress) → ModuleDecsSpelt good decs
        → ModuleDecsHave BindsValues decs → IsInside good home top st
        → Given (ModuleDecsDerived home top decs st) (infer_module_decs depth home top decs st)
    decs_derive top ModuleDecs.EndOfDecs st p b h = record {
      solved = λ c q. q;
      leaves = λ c q. q;
      derives = λ c q owns. ElaboratesModuleDecs.rule_59 c home (top_under_choice c.stands top) st.names;
    }
    decs_derive top (ModuleDecs.Dec dec rest) st p b h =
        let Q : Env × Progress → Type 0 = ModuleDecsDerived home top (ModuleDecs.Dec dec rest) st in
        given_then (AllOfDec good home top dec st) Q (infer_module_dec depth home top dec st) _
        (dec_all top dec st p.0 h (dec_derives top dec st p.0 b.0 h)) (λ d k.
        given_then (ModuleDecsDerived home (top_under d.0 top) rest d.1) Q
        (infer_module_decs depth home (top_under d.0 top) rest d.1) _
        (decs_derive (top_under d.0 top) rest d.1 p.1 b.1 (inside_under good home top st d h k.0 k.1.0 k.1.1.0))
        (λ r l. decs_derived good home top dec rest st d r k l))

    pub binds_derive : (top : Top) (binds : ModuleBinds) (made : Env) (st : Progress) → ModuleBindsSpelt good binds
        → ModuleBindsHave BindsValues binds → IsInside good home top st
        → Given (ModuleBindsDerived home top binds made st) (infer_module_binds depth home top binds made st)
    binds_derive top ModuleBinds.EndOfBinds made st p b h = record {
      solved = λ c q. q;
      leaves = λ c q. q;
      derives = λ c q owns. ElaboratesModuleBinds.no_module_binds c home (top_under_choice c.stands top) st.names
          (put_env c.stands made);
    }
    binds_derive top (ModuleBinds.Bind name str rest) made st p b h =
        let Q : Env × Progress → Type 0 = ModuleBindsDerived home top (ModuleBinds.Bind name str rest) made st in
        where_not Q (is_some (entry name.text (structures made))) 40 (core_scope home top) (name_at name) _ (λ n.
        given_then (AllOf good home top str st) Q (infer_module depth home top str st) _
        (module_all top str st p.0 h (module_derives top str st p.0 b.0 h)) (λ r k.
        given_more (ModuleBindsDerived home top rest (with_structure name.text r.0 made) r.1) Q
        (infer_module_binds depth home top rest (with_structure name.text r.0 made) r.1)
        (λ v l. bind_derived good home top name str rest made st r v n k l)
        (binds_derive top rest (with_structure name.text r.0 made) r.1 p.1 b.1
        (inside_later good home top st r h k.0 k.1.0.grows))))
