-- What is in scope at the top stays what its declarations ask for, from binding to binding.
use Rattle.std.proofs.Common.{◌≡◌, ℕ, List, [], ◌∷◌, length}
use Rattle.sml_trees.specs.declared.name.At.{At}
use Rattle.sml_trees.specs.declared.name.Name.{Name}
use Rattle.semantic_objects.specs.Environments.{Env, Signature, Functor, Top}
use Rattle.unification.specs.Unification.{depth}
use Rattle.unification.specs.Fitting.{IsFit}
use Rattle.static_semantics.specs.Inferring.{Progress, Answer, ◌>>=◌, gives, name_at}
use Rattle.static_semantics.specs.Holding.{Given}
use Rattle.static_semantics.proofs.Holding.{given_then}
use Rattle.static_semantics.proofs.TypesGrow.{given_more}
use Rattle.inference_laws.specs.Nodes.{Makes}
use Rattle.inference_laws.proofs.Making.{given_both, ready_after}
use Rattle.module_semantics.specs.SigPhrases.{SigPhrase, SigBinds}
use Rattle.module_semantics.specs.SignatureNames.{opened}
use Rattle.module_semantics.specs.SignatureInference.{signature_of}
use Rattle.unit_semantics.specs.UnitPhrases.{ModulePhrase, FunPhrase, FunsigPhrase, TopPhrase}
use Rattle.unit_semantics.specs.StructureInference.{core_scope, known_env, infer_module}
use Rattle.unit_semantics.specs.UnitInference.{has_variable, top_with_param, without_variables, names_since, functor_of, infer_body, infer_result}
use Rattle.unit_semantics.proofs.Answers.{always}
use Rattle.unit_laws.specs.Spelling.{SigSpelt, ModuleSpelt, FunSpelt, FunsigSpelt}
use Rattle.unit_laws.specs.Parts.{FunctorOf, IsOfTop}
use Rattle.unit_laws.proofs.Naming.{unit_length}
use Rattle.unit_laws.proofs.ModulesMade.{ModMade, later_top, module_made}
use Rattle.unit_laws.proofs.UnitsMade.{OneOf, body_made, result_sig_made, param_made}
use Rattle.module_growth.specs.Grown.{IsInside, IsGrown}
use Rattle.module_growth.proofs.Modules.{module_grows}
use Rattle.unit_derivations.specs.Derived.{IsAtTop}
use Rattle.unit_derivations.specs.Promises.{every}
use Rattle.unit_derivations.proofs.Spelt.{top_spelt}
use Rattle.unit_derivations.proofs.Scopes.{inside_top, at_later, SigAt, sig_at, after_sig, with_param_at}
use Rattle.structure_elab.proofs.Readying.{module_spelt}

nowhere : At
nowhere = record { line = 0; col = 0 }

nameless : Name
nameless = record { text = []; line = 0; col = 0 }

pub sig_spelt : (sig : SigPhrase) → SigSpelt every sig
sig_spelt sig = (top_spelt (TopPhrase.Signatures (SigBinds.Bind nameless sig SigBinds.EndOfBinds) nowhere)).0

fun_spelt : (bind : FunPhrase) → FunSpelt every bind
fun_spelt bind = (sig_spelt bind.param_sig, module_spelt bind.body)

funsig_spelt : (bind : FunsigPhrase) → FunsigSpelt every bind
funsig_spelt bind = (sig_spelt bind.param_sig, sig_spelt bind.result_sig)

abbrev FitAfter : {A : Type 0} → A × Progress → Type 0
FitAfter r = IsFit r.1.types

-- ---- structures

pub module_at_top : (home : List ℕ) (top : Top) (str : ModulePhrase) (st : Progress) → IsAtTop every home top st
    → Given (λ r. IsAtTop every home top r.1) (infer_module depth home top str st)
module_at_top home top str st h =
    given_more (λ r. ModMade every home top st r × IsGrown st r) (λ r. IsAtTop every home top r.1)
    (infer_module depth home top str st)
    (λ r k. at_later every home top st r.1 h
    (ready_after h.ready k.0 (λ q i j. later_top every q top st r.1 i j.0)) k.1.grows.fit)
    (given_both (ModMade every home top st) (IsGrown st) (infer_module depth home top str st)
    (module_made every depth home top str st (module_spelt str) h.ready)
    (module_grows every depth home top str st (module_spelt str) (inside_top every home top st h)))

pub structure_at_top : (home : List ℕ) (top : Top) (name : Name) (str : ModulePhrase) (st : Progress)
    → IsAtTop every home top st → Given (λ r. IsAtTop every home top r.1)
    (infer_module depth home top str st >>= λ r. without_variables (core_scope home top) name r)
structure_at_top home top name str st h =
    given_then (λ r. IsAtTop every home top r.1) (λ r. IsAtTop every home top r.1)
    (infer_module depth home top str st) _ (module_at_top home top str st h) (λ r k.
    Rattle.static_semantics.proofs.Holding.given_where (λ (z : Env × Progress). IsAtTop every home top z.1)
    (has_variable (known_env r.0 r.1)) 42 (core_scope home top) (name_at name) (λ u. gives (known_env r.0 r.1, r.1)) k)

-- ---- signatures

pub signature_at_top : (home : List ℕ) (top : Top) (sig : SigPhrase) (st : Progress) → IsAtTop every home top st
    → Given (λ r. IsAtTop every home top r.1) (signature_of top.signatures (core_scope home top) sig st)
signature_at_top home top sig st h =
    given_more (SigAt every home top sig st) (λ r. IsAtTop every home top r.1)
    (signature_of top.signatures (core_scope home top) sig st) (λ s k. after_sig every home top sig st s h k)
    (sig_at every home top sig st (sig_spelt sig) h)

-- what is in scope in a functor, behind its parameter's signature
pub param_inside : (home : List ℕ) (top : Top) (param : Name) (sig : SigPhrase) (st : Progress)
    → IsAtTop every home top st
    → Given (λ s. IsAtTop every home (top_with_param param (opened home s.0 s.1).0.env top) (opened home s.0 s.1).1)
    (signature_of top.signatures (core_scope home top) sig st)
param_inside home top param sig st h =
    given_more (SigAt every home top sig st) _ (signature_of top.signatures (core_scope home top) sig st)
    (λ s k. with_param_at every home top param sig st s h k) (sig_at every home top sig st (sig_spelt sig) h)

-- ---- functors

body_fit : (home : List ℕ) (top : Top) (bind : FunPhrase) (param : Signature) (inside : Signature × Progress)
    → IsAtTop every home (top_with_param bind.param inside.0.env top) inside.1
    → Given (λ r. IsFit r.1.types) (infer_body depth home top bind param inside)
body_fit home top bind param inside h =
    let inner : Top = top_with_param bind.param inside.0.env top in
    given_then (λ r. IsFit r.1.types) (λ r. IsFit r.1.types) (infer_module depth home inner bind.body inside.1) _
    (given_more (IsGrown inside.1) (λ r. IsFit r.1.types) (infer_module depth home inner bind.body inside.1)
    (λ r k. k.grows.fit)
    (module_grows every depth home inner bind.body inside.1 (module_spelt bind.body)
    (inside_top every home inner inside.1 h))) (λ r k.
    given_then (λ e. IsFit e.1.types) (λ e. IsFit e.1.types) (without_variables (core_scope home top) bind.name r) _
    (Rattle.static_semantics.proofs.Holding.given_where (λ (z : Env × Progress). IsFit z.1.types)
    (has_variable (known_env r.0 r.1)) 42 (core_scope home top) (name_at bind.name)
    (λ u. gives (known_env r.0 r.1, r.1)) k)
    (λ e l. l))

pub functor_at_top : (home : List ℕ) (top : Top) (bind : FunPhrase) (st : Progress) → IsAtTop every home top st
    → Given (λ r. IsAtTop every home top r.1)
    (signature_of top.signatures (core_scope home top) bind.param_sig st
    >>= λ p. infer_body depth home top bind p.0 (opened home p.0 p.1))
functor_at_top home top bind st h =
    given_then (SigAt every home top bind.param_sig st) (λ r. IsAtTop every home top r.1)
    (signature_of top.signatures (core_scope home top) bind.param_sig st) _
    (sig_at every home top bind.param_sig st (sig_spelt bind.param_sig) h) (λ s k.
    let inside : Signature × Progress = opened home s.0 s.1 in
    given_more (λ r. Makes home (IsOfTop every top st) st r.1 (OneOf FunctorOf r) × IsFit r.1.types)
    (λ r. IsAtTop every home top r.1) (infer_body depth home top bind s.0 inside)
    (λ r l. at_later every home top st r.1 h
    (ready_after h.ready l.0 (λ q i j. later_top every q top st r.1 i j.0)) l.1)
    (given_both (λ r. Makes home (IsOfTop every top st) st r.1 (OneOf FunctorOf r)) (λ r. IsFit r.1.types)
    (infer_body depth home top bind s.0 inside)
    (body_made every depth home top bind s.0 inside st (fun_spelt bind) h.ready
    (param_made every home top st s k.0))
    (body_fit home top bind s.0 inside (with_param_at every home top bind.param bind.param_sig st s h k))))

-- ---- signatures of functors

result_fit : (home : List ℕ) (top : Top) (bind : FunsigPhrase) (param : Signature) (inside : Signature × Progress)
    → IsAtTop every home (top_with_param bind.param inside.0.env top) inside.1
    → Given (λ r. IsFit r.1.types) (infer_result home top bind param inside)
result_fit home top bind param inside h =
    let inner : Top = top_with_param bind.param inside.0.env top in
    given_then (λ r. IsAtTop every home inner r.1) (λ r. IsFit r.1.types)
    (signature_of top.signatures (core_scope home inner) bind.result_sig inside.1) _
    (signature_at_top home inner bind.result_sig inside.1 h) (λ r k. k.fit)

pub funsig_at_top : (home : List ℕ) (top : Top) (bind : FunsigPhrase) (st : Progress) → IsAtTop every home top st
    → Given (λ r. IsAtTop every home top r.1)
    (signature_of top.signatures (core_scope home top) bind.param_sig st
    >>= λ p. infer_result home top bind p.0 (opened home p.0 p.1))
funsig_at_top home top bind st h =
    given_then (SigAt every home top bind.param_sig st) (λ r. IsAtTop every home top r.1)
    (signature_of top.signatures (core_scope home top) bind.param_sig st) _
    (sig_at every home top bind.param_sig st (sig_spelt bind.param_sig) h) (λ s k.
    let inside : Signature × Progress = opened home s.0 s.1 in
    given_more (λ r. Makes home (IsOfTop every top st) st r.1 (OneOf FunctorOf r) × IsFit r.1.types)
    (λ r. IsAtTop every home top r.1) (infer_result home top bind s.0 inside)
    (λ r l. at_later every home top st r.1 h
    (ready_after h.ready l.0 (λ q i j. later_top every q top st r.1 i j.0)) l.1)
    (given_both (λ r. Makes home (IsOfTop every top st) st r.1 (OneOf FunctorOf r)) (λ r. IsFit r.1.types)
    (infer_result home top bind s.0 inside)
    (result_sig_made every home top bind s.0 inside st (funsig_spelt bind) (unit_length home s.1.names s.0.bound) h.ready
    (param_made every home top st s k.0))
    (result_fit home top bind s.0 inside (with_param_at every home top bind.param bind.param_sig st s h k))))
