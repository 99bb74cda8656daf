-- Bindings of structures, signatures, functors and signatures of functors have derivations.
use Rattle.std.proofs.Common.{◌≡◌, ℕ, List, [], ◌∷◌, ◌++◌, length, refl, sym, subst, Bool}
use Rattle.std.specs.Option.{is_some}
use Rattle.semantic_objects.specs.declared.name.TyName.{TyName}
use Rattle.semantic_objects.specs.Tables.{Table, entry, with_entry}
use Rattle.semantic_objects.specs.Environments.{Env, Signature, Functor, Top, structures, with_structure}
use Rattle.realisation.specs.Realised.{of_rows}
use Rattle.static_semantics.specs.Inferring.{Progress, name_at}
use Rattle.static_semantics.specs.Holding.{Given, AllItems, AllRows}
use Rattle.static_semantics.proofs.Holding.{given_then, rows_with}
use Rattle.static_semantics.proofs.TypesGrow.{given_more}
use Rattle.inference_laws.specs.Nodes.{Makes}
use Rattle.inference_laws.proofs.Making.{given_both, ready_after}
use Rattle.module_semantics.specs.SigPhrases.{SigBinds}
use Rattle.module_semantics.specs.SignatureNames.{rows_between, bound_names, opened}
use Rattle.module_semantics.specs.SignatureInference.{signature_of}
use Rattle.module_semantics.specs.ElaboratesSignatures.{ElaboratesSignature}
use Rattle.unit_semantics.specs.UnitPhrases.{ModuleBinds, FunPhrase, FunsigPhrase}
use Rattle.unit_semantics.specs.StructureInference.{core_scope, known_env, infer_module}
use Rattle.unit_semantics.specs.UnitInference.{has_variable, names_since, functor_of, top_with_param, infer_body, infer_result, infer_structures, infer_signatures, infer_functors, infer_funsigs}
use Rattle.unit_semantics.specs.ElaboratesUnits.{ElaboratesModule, ElaboratesModuleBinds, ElaboratesSigBinds, ElaboratesFunBinds, ElaboratesFunsigBinds}
use Rattle.unit_semantics.specs.Promises.{IsClosedEnv, IsClosedSignature, IsClosedFunctor}
use Rattle.unit_semantics.proofs.Answers.{where_not}
use Rattle.unit_semantics.proofs.Closed.{env_closed, realised_closed, puts_names}
use Rattle.unit_laws.specs.Spelling.{ModuleBindsSpelt, SigBindsSpelt, FunSpelt, FunsigSpelt}
use Rattle.unit_laws.specs.Parts.{FunctorOf, IsOfTop}
use Rattle.unit_laws.proofs.Naming.{unit_length}
use Rattle.unit_laws.proofs.ModulesMade.{later_top}
use Rattle.unit_laws.proofs.UnitsMade.{OneOf, body_made, result_sig_made, param_made}
use Rattle.elaboration_laws.specs.Declaring.{BindsValues}
use Rattle.specification_laws.specs.Derived.{IsAfter}
use Rattle.specification_laws.proofs.Own.{after_none, after_both}
use Rattle.module_laws.specs.Declaring.{ModuleBindsHave}
use Rattle.module_laws.proofs.Parts.{not_there}
use Rattle.module_laws.proofs.Modules.{AllOf, module_all, module_derives}
use Rattle.unit_derivations.specs.Declaring.{FunHas}
use Rattle.unit_derivations.specs.Derived.{IsAtTop, UnderChoices, StructuresDerived, SignaturesDerived, FunctorsDerived, FunsigsDerived}
use Rattle.unit_derivations.proofs.Scopes.{where_then, inside_top, at_later, after_module, known_derives, SigAt, sig_at, sig_derives, after_sig, with_param_at, after_opened}

-- ---- structures

pub structures_derive : (good : List ℕ → Bool) (depth : ℕ) (home : List ℕ) (top : Top) (binds : ModuleBinds)
    (made : Env) (st : Progress) → ModuleBindsSpelt good binds → ModuleBindsHave BindsValues binds
    → IsAtTop good home top st
    → Given (StructuresDerived home top binds made st) (infer_structures depth home top binds made st)
structures_derive good depth home top ModuleBinds.EndOfBinds made st p b h = record {
  after = after_none st h.fit;
  derives = λ c q owns. ElaboratesModuleBinds.no_module_binds c home top st.names made;
}
structures_derive good depth home top (ModuleBinds.Bind name str rest) made st p b h =
    let Q : Env × Progress → Type 0 = StructuresDerived home top (ModuleBinds.Bind name str rest) made st in
    where_not Q (is_some (entry name.text (structures made))) 40 (core_scope home top) (name_at name) _ (λ n.
    given_then (AllOf good home top str st) Q (infer_module depth home top str st) _
    (module_all good depth home top str st p.0 (inside_top good home top st h)
    (module_derives good depth home top str st p.0 b.0 (inside_top good home top st h))) (λ r k.
    let e : Env = known_env r.0 r.1 in
    where_then Q (has_variable e) 42 (core_scope home top) (name_at name) (e, r.1) _ (λ c.
    given_more (StructuresDerived home top rest (with_structure name.text e made) r.1) Q
    (infer_structures depth home top rest (with_structure name.text e made) r.1) (λ v l. record {
      after = after_both st r.1 v.1 (after_module good home top str st r k) l.after;
      derives = λ s q owns. ElaboratesModuleBinds.rule_61 s home top st.names r.1.names v.1.names name str rest made
          v.0 e (not_there (entry name.text (structures made)) n)
          (known_derives good home top str st r k h.closed.env (env_closed e c) s (l.after.solved s q) owns)
          (l.derives s q owns);
    })
    (structures_derive good depth home top rest (with_structure name.text e made) r.1 p.1 b.1
    (at_later good home top st r.1 h (ready_after h.ready k.0 (λ q i j. later_top good q top st r.1 i j.0))
    k.1.0.grows.fit)))))

-- ---- signatures

pub signatures_derive : (good : List ℕ → Bool) (home : List ℕ) (top : Top) (binds : SigBinds)
    (made : Table Signature) (st : Progress) → SigBindsSpelt good binds → IsAtTop good home top st
    → AllRows IsClosedSignature made
    → Given (SignaturesDerived home top binds made st) (infer_signatures home top binds made st)
signatures_derive good home top SigBinds.EndOfBinds made st p h i = record {
  after = after_none st h.fit;
  closed = i;
  derives = ElaboratesSigBinds.no_sig_binds home top st.names made;
}
signatures_derive good home top (SigBinds.Bind name sig rest) made st p h i =
    let Q : Table Signature × Progress → Type 0 = SignaturesDerived home top (SigBinds.Bind name sig rest) made st in
    where_not Q (is_some (entry name.text made)) 40 (core_scope home top) (name_at name) _ (λ n.
    given_then (SigAt good home top sig st) Q (signature_of top.signatures (core_scope home top) sig st) _
    (sig_at good home top sig st p.0 h) (λ s k.
    given_more (SignaturesDerived home top rest (with_entry name.text s.0 made) s.1) Q
    (infer_signatures home top rest (with_entry name.text s.0 made) s.1) (λ v l. record {
      after = after_both st s.1 v.1 k.1.1.after l.after;
      closed = l.closed;
      derives = ElaboratesSigBinds.rule_67 home top st.names s.1.names v.1.names name sig rest made v.0 s.0
          (not_there (entry name.text made) n) (sig_derives good home top sig st s h k) l.derives;
    })
    (signatures_derive good home top rest (with_entry name.text s.0 made) s.1 p.1
    (after_sig good home top sig st s h k) (rows_with IsClosedSignature name.text s.0 made k.1.1.closed i))))

-- ---- functors

record BodyDerived (home : List ℕ) (top : Top) (bind : FunPhrase) (param : Signature) (inside : Signature × Progress)
    (r : Functor × Progress) : Type 0 where
  result : Env
  is : r.0 ≡ functor_of param inside.0 (names_since home inside.1.names result) result
  closed : IsClosedEnv result
  after : IsAfter inside.1 r.1
  derives : UnderChoices r.1 (λ s. ElaboratesModule s home (top_with_param bind.param inside.0.env top) inside.1.names
      bind.body result r.1.names)

body_derives : (good : List ℕ → Bool) (depth : ℕ) (home : List ℕ) (top : Top) (bind : FunPhrase) (param : Signature)
    (inside : Signature × Progress) → FunSpelt good bind → FunHas BindsValues bind
    → IsAtTop good home (top_with_param bind.param inside.0.env top) inside.1
    → Given (BodyDerived home top bind param inside) (infer_body depth home top bind param inside)
body_derives good depth home top bind param inside p b h =
    let Q : Functor × Progress → Type 0 = BodyDerived home top bind param inside in
    let inner : Top = top_with_param bind.param inside.0.env top in
    given_then (AllOf good home inner bind.body inside.1) Q (infer_module depth home inner bind.body inside.1) _
    (module_all good depth home inner bind.body inside.1 p.1 (inside_top good home inner inside.1 h)
    (module_derives good depth home inner bind.body inside.1 p.1 b (inside_top good home inner inside.1 h))) (λ r k.
    let e : Env = known_env r.0 r.1 in
    where_then Q (has_variable e) 42 (core_scope home top) (name_at bind.name) (e, r.1) _ (λ c. record {
      result = e;
      is = refl;
      closed = env_closed e c;
      after = after_module good home inner bind.body inside.1 r k;
      derives = known_derives good home inner bind.body inside.1 r k h.closed.env (env_closed e c);
    }))

-- a functor with a closed parameter and a closed result
functor_closed : (param inside : Signature) (names : List TyName) (result : Env) → IsClosedEnv param.env
    → IsClosedEnv result → IsClosedFunctor (functor_of param inside names result)
functor_closed param inside names result h k =
    let olds : List TyName = inside.bound ++ names in
    let news : List TyName = param.bound ++ bound_names (length param.bound) names in
    record { param = h; result = realised_closed (of_rows (rows_between olds news)) (puts_names olds news) result k }

pub functors_derive : (good : List ℕ → Bool) (depth : ℕ) (home : List ℕ) (top : Top) (binds : List FunPhrase)
    (made : Table Functor) (st : Progress) → AllItems (FunSpelt good) binds → AllItems (FunHas BindsValues) binds
    → IsAtTop good home top st → AllRows IsClosedFunctor made
    → Given (FunctorsDerived home top binds made st) (infer_functors depth home top binds made st)
functors_derive good depth home top [] made st p b h i = record {
  after = after_none st h.fit;
  closed = i;
  derives = λ s q owns. ElaboratesFunBinds.no_fun_binds s home top st.names made;
}
functors_derive good depth home top (bind ∷ binds) made st p b h i =
    let Q : Table Functor × Progress → Type 0 = FunctorsDerived home top (bind ∷ binds) made st in
    where_not Q (is_some (entry bind.name.text made)) 40 (core_scope home top) (name_at bind.name) _ (λ n.
    given_then (SigAt good home top bind.param_sig st) Q
    (signature_of top.signatures (core_scope home top) bind.param_sig st) _
    (sig_at good home top bind.param_sig st p.0.0 h) (λ s k.
    let inside : Signature × Progress = opened home s.0 s.1 in
    given_then (λ r. Makes home (IsOfTop good top st) st r.1 (OneOf FunctorOf r)
    × BodyDerived home top bind s.0 inside r) Q (infer_body depth home top bind s.0 inside) _
    (given_both (λ r. Makes home (IsOfTop good top st) st r.1 (OneOf FunctorOf r))
    (BodyDerived home top bind s.0 inside) (infer_body depth home top bind s.0 inside)
    (body_made good depth home top bind s.0 inside st p.0 h.ready (param_made good home top st s k.0))
    (body_derives good depth home top bind s.0 inside p.0 b.0
    (with_param_at good home top bind.param bind.param_sig st s h k))) (λ r l.
    let names : List TyName = names_since home inside.1.names l.1.result in
    given_more (FunctorsDerived home top binds (with_entry bind.name.text r.0 made) r.1) Q
    (infer_functors depth home top binds (with_entry bind.name.text r.0 made) r.1) (λ v m. record {
      after = after_both st r.1 v.1
          (after_both st inside.1 r.1 (after_opened good home top bind.param_sig st s k) l.1.after) m.after;
      closed = m.closed;
      derives = λ c q owns. ElaboratesFunBinds.rule_86 c home top st.names s.1.names r.1.names v.1.names bind binds made
          v.0 s.0 inside.0 l.1.result (not_there (entry bind.name.text made) n)
          (sig_derives good home top bind.param_sig st s h k) refl (l.1.derives c (m.after.solved c q) owns)
          (subst (λ z. ElaboratesFunBinds c home top r.1.names binds (with_entry bind.name.text z made) v.0 v.1.names)
          l.1.is (m.derives c q owns));
    })
    (functors_derive good depth home top binds (with_entry bind.name.text r.0 made) r.1 p.1 b.1
    (at_later good home top st r.1 h (ready_after h.ready l.0 (λ q i j. later_top good q top st r.1 i j.0))
    l.1.after.fit)
    (rows_with IsClosedFunctor bind.name.text r.0 made
    (subst IsClosedFunctor (sym l.1.is) (functor_closed s.0 inside.0 names l.1.result k.1.1.closed l.1.closed)) i)))))

-- ---- signatures of functors

record ResultDerived (home : List ℕ) (top : Top) (bind : FunsigPhrase) (param : Signature)
    (inside : Signature × Progress) (r : Functor × Progress) : Type 0 where
  result : Signature
  is : r.0 ≡ functor_of param inside.0 result.bound result.env
  closed : IsClosedEnv result.env
  after : IsAfter inside.1 r.1
  derives : ElaboratesSignature top.signatures (core_scope home (top_with_param bind.param inside.0.env top))
      inside.1.names bind.result_sig result r.1.names

result_derives : (good : List ℕ → Bool) (home : List ℕ) (top : Top) (bind : FunsigPhrase) (param : Signature)
    (inside : Signature × Progress) → FunsigSpelt good bind
    → IsAtTop good home (top_with_param bind.param inside.0.env top) inside.1
    → Given (ResultDerived home top bind param inside) (infer_result home top bind param inside)
result_derives good home top bind param inside p h =
    let inner : Top = top_with_param bind.param inside.0.env top in
    given_then (SigAt good home inner bind.result_sig inside.1) (ResultDerived home top bind param inside)
    (signature_of top.signatures (core_scope home inner) bind.result_sig inside.1) _
    (sig_at good home inner bind.result_sig inside.1 p.1 h) (λ s k. record {
      result = s.0;
      is = refl;
      closed = k.1.1.closed;
      after = k.1.1.after;
      derives = sig_derives good home inner bind.result_sig inside.1 s h k;
    })

pub funsigs_derive : (good : List ℕ → Bool) (home : List ℕ) (top : Top) (binds : List FunsigPhrase)
    (made : Table Functor) (st : Progress) → AllItems (FunsigSpelt good) binds → IsAtTop good home top st
    → AllRows IsClosedFunctor made
    → Given (FunsigsDerived home top binds made st) (infer_funsigs home top binds made st)
funsigs_derive good home top [] made st p h i = record {
  after = after_none st h.fit;
  closed = i;
  derives = ElaboratesFunsigBinds.no_funsig_binds home top st.names made;
}
funsigs_derive good home top (bind ∷ binds) made st p h i =
    let Q : Table Functor × Progress → Type 0 = FunsigsDerived home top (bind ∷ binds) made st in
    where_not Q (is_some (entry bind.name.text made)) 40 (core_scope home top) (name_at bind.name) _ (λ n.
    given_then (SigAt good home top bind.param_sig st) Q
    (signature_of top.signatures (core_scope home top) bind.param_sig st) _
    (sig_at good home top bind.param_sig st p.0.0 h) (λ s k.
    let inside : Signature × Progress = opened home s.0 s.1 in
    given_then (λ r. Makes home (IsOfTop good top st) st r.1 (OneOf FunctorOf r)
    × ResultDerived home top bind s.0 inside r) Q (infer_result home top bind s.0 inside) _
    (given_both (λ r. Makes home (IsOfTop good top st) st r.1 (OneOf FunctorOf r))
    (ResultDerived home top bind s.0 inside) (infer_result home top bind s.0 inside)
    (result_sig_made good home top bind s.0 inside st p.0 (unit_length home s.1.names s.0.bound) h.ready
    (param_made good home top st s k.0))
    (result_derives good home top bind s.0 inside p.0
    (with_param_at good home top bind.param bind.param_sig st s h k))) (λ r l.
    given_more (FunsigsDerived home top binds (with_entry bind.name.text r.0 made) r.1) Q
    (infer_funsigs home top binds (with_entry bind.name.text r.0 made) r.1) (λ v m. record {
      after = after_both st r.1 v.1
          (after_both st inside.1 r.1 (after_opened good home top bind.param_sig st s k) l.1.after) m.after;
      closed = m.closed;
      derives = ElaboratesFunsigBinds.rule_funsig home top st.names s.1.names r.1.names v.1.names bind binds made
          v.0 s.0 inside.0 l.1.result (not_there (entry bind.name.text made) n)
          (sig_derives good home top bind.param_sig st s h k) refl l.1.derives
          (subst (λ z. ElaboratesFunsigBinds home top r.1.names binds (with_entry bind.name.text z made) v.0 v.1.names)
          l.1.is m.derives);
    })
    (funsigs_derive good home top binds (with_entry bind.name.text r.0 made) r.1 p.1
    (at_later good home top st r.1 h (ready_after h.ready l.0 (λ q i j. later_top good q top st r.1 i j.0))
    l.1.after.fit)
    (rows_with IsClosedFunctor bind.name.text r.0 made
    (subst IsClosedFunctor (sym l.1.is)
    (functor_closed s.0 inside.0 (l.1.result).bound (l.1.result).env k.1.1.closed l.1.closed)) i)))))
