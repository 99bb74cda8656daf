-- What declarations of the top level bind: functors, signatures of functors and signatures.
use Rattle.std.proofs.Common.{◌≡◌, ℕ, List, [], ◌∷◌, refl, ap, ◌∙◌}
use Rattle.std.specs.Prelude.{Ok, Err, Some, None}
use Rattle.sml_trees.specs.declared.name.Name.{Name}
use Rattle.semantic_objects.specs.Tables.{Table as Named, with_entry}
use Rattle.semantic_objects.specs.Environments.{Env, Signature, Functor, Top, env_of, with_structure}
use Rattle.module_scopes.proofs.Rows.{tables_back}
use Rattle.unification.specs.Unification.{depth}
use Rattle.sml_modules.specs.declared.id.SigId.{SigId}
use Rattle.sml_modules.specs.declared.id.FunId.{FunId}
use Rattle.sml_modules.specs.Graphs.{env_at, signature_at, functor_at, HasEnv, HasSignature, HasFunctor}
use Rattle.static_semantics.specs.Inferring.{Progress, Answer, ◌>>=◌, gives}
use Rattle.static_semantics.specs.TypeInference.{new_label}
use Rattle.module_semantics.specs.SigPhrases.{SigPhrase, sig_binds}
use Rattle.module_semantics.specs.SignatureNames.{opened}
use Rattle.module_semantics.specs.SignatureInference.{signature_of}
use Rattle.unit_semantics.specs.UnitPhrases.{ModulePhrase, ModuleBinds, FunPhrase, FunsigPhrase}
use Rattle.unit_semantics.specs.StructureInference.{core_scope, infer_module}
use Rattle.unit_semantics.specs.UnitInference.{without_variables, infer_body, infer_result, infer_structures, infer_signatures, infer_functors, infer_funsigs}
use Rattle.top_bindings.specs.Bindings.{infer_bound, infer_functor, infer_funsig, fun_name, funsig_name, sig_name, infer_sig_bind, structure_name, infer_structure}
use Rattle.top_bindings.proofs.Rows.{Binding}
use Rattle.top_bindings.proofs.Readying.{structure_at_top, signature_at_top, functor_at_top, funsig_at_top}

pub functors_kind : Binding fun_name infer_functor functor_at HasFunctor
functors_kind = record {
  kept = λ g h k id i. k.functor id i;
  there = λ g h k id i. k.has_functor id i;
  stays = λ bind home top st h. functor_at_top home top bind st h;
}

pub funsigs_kind : Binding funsig_name infer_funsig functor_at HasFunctor
funsigs_kind = record {
  kept = λ g h k id i. k.functor id i;
  there = λ g h k id i. k.has_functor id i;
  stays = λ bind home top st h. funsig_at_top home top bind st h;
}

pub signatures_kind : Binding sig_name infer_sig_bind signature_at HasSignature
signatures_kind = record {
  kept = λ g h k id i. k.signature id i;
  there = λ g h k id i. k.has_signature id i;
  stays = λ bind home top st h. signature_at_top home top bind.1 st h;
}

pub structures_kind : Binding structure_name infer_structure env_at HasEnv
structures_kind = record {
  kept = λ g h k id i. k.env id i;
  there = λ g h k id i. k.has_env id i;
  stays = λ bind home top st h. structure_at_top home top bind.0 bind.1 st h;
}

-- ---- as inference has them

same_then : {A B : Type 0} (m : Answer A) (k l : A → Answer B) → ((x : A) → k x ≡ l x) → (m >>= k) ≡ (m >>= l)
same_then None k l h = refl
same_then (Some (Err d)) k l h = refl
same_then (Some (Ok x)) k l h = h x

parts_then : {A B C : Type 0} (m : Answer A) (f : A → Answer B) (k l : B → Answer C) → ((x : B) → k x ≡ l x)
    → (m >>= λ a. f a >>= k) ≡ ((m >>= f) >>= l)
parts_then None f k l h = refl
parts_then (Some (Err d)) f k l h = refl
parts_then (Some (Ok a)) f k l h = same_then (f a) k l h

pub functors_bound : (home : List ℕ) (top : Top) (binds : List FunPhrase) (made : Named Functor) (st : Progress)
    → infer_functors depth home top binds made st ≡ infer_bound fun_name infer_functor binds made home top st
functors_bound home top [] made st = refl
functors_bound home top (bind ∷ binds) made st =
    same_then (new_label (core_scope home top) bind.name made) _ _ (λ u.
    parts_then (signature_of top.signatures (core_scope home top) bind.param_sig st)
    (λ p. infer_body depth home top bind p.0 (opened home p.0 p.1)) _ _ (λ r.
    functors_bound home top binds (with_entry bind.name.text r.0 made) r.1))

pub funsigs_bound : (home : List ℕ) (top : Top) (binds : List FunsigPhrase) (made : Named Functor) (st : Progress)
    → infer_funsigs home top binds made st ≡ infer_bound funsig_name infer_funsig binds made home top st
funsigs_bound home top [] made st = refl
funsigs_bound home top (bind ∷ binds) made st =
    same_then (new_label (core_scope home top) bind.name made) _ _ (λ u.
    parts_then (signature_of top.signatures (core_scope home top) bind.param_sig st)
    (λ p. infer_result home top bind p.0 (opened home p.0 p.1)) _ _ (λ r.
    funsigs_bound home top binds (with_entry bind.name.text r.0 made) r.1))

pub signatures_bound : (home : List ℕ) (top : Top) (binds : List (Name × SigPhrase)) (made : Named Signature)
    (st : Progress)
    → infer_signatures home top (sig_binds binds) made st ≡ infer_bound sig_name infer_sig_bind binds made home top st
signatures_bound home top [] made st = refl
signatures_bound home top (bind ∷ binds) made st =
    same_then (new_label (core_scope home top) bind.0 made) _ _ (λ u.
    same_then (signature_of top.signatures (core_scope home top) bind.1 st) _ _ (λ r.
    signatures_bound home top binds (with_entry bind.0.text r.0 made) r.1))

-- structures as an environment of structures alone
abbrev pub binds_of : List (Name × ModulePhrase) → ModuleBinds
binds_of [] = ModuleBinds.EndOfBinds
binds_of (bind ∷ binds) = ModuleBinds.Bind bind.0 bind.1 (binds_of binds)

abbrev pub alone : Named Env → Env
alone rows = env_of rows [] []

abbrev alone_then : Named Env × Progress → Answer (Env × Progress)
alone_then q = gives (alone q.0, q.1)

with_structures : (name : List ℕ) (env : Env) (made : Named Env)
    → with_structure name env (alone made) ≡ alone (with_entry name env made)
with_structures name env made = ap (λ (rows : Named Env). env_of (with_entry name env rows) [] []) (tables_back made)

out_then : {A B C : Type 0} (m : Answer A) (k : A → Answer B) (l : A → Answer C) (f : C → Answer B)
    → ((x : A) → k x ≡ (l x >>= f)) → (m >>= k) ≡ ((m >>= l) >>= f)
out_then None k l f h = refl
out_then (Some (Err d)) k l f h = refl
out_then (Some (Ok x)) k l f h = h x

-- a step and a step, and then what is left
regroup : {A B C : Type 0} (m : Answer A) (n : A → Answer B) (k : B → Answer C)
    → (m >>= λ r. n r >>= k) ≡ ((m >>= n) >>= k)
regroup None n k = refl
regroup (Some (Err d)) n k = refl
regroup (Some (Ok r)) n k = refl

pub structures_bound : (home : List ℕ) (top : Top) (binds : List (Name × ModulePhrase)) (made : Named Env)
    (st : Progress) → infer_structures depth home top (binds_of binds) (alone made) st
    ≡ (infer_bound structure_name infer_structure binds made home top st >>= alone_then)
structures_bound home top [] made st = refl
structures_bound home top (bind ∷ binds) made st =
    ap (λ (rows : Named Env). new_label (core_scope home top) bind.0 rows >>= λ u.
    infer_module depth home top bind.1 st >>= λ r. without_variables (core_scope home top) bind.0 r >>= λ e.
    infer_structures depth home top (binds_of binds) (with_structure bind.0.text e.0 (alone made)) e.1)
    (tables_back made)
    ∙ out_then (new_label (core_scope home top) bind.0 made) _ _ alone_then (λ u.
    regroup (infer_module depth home top bind.1 st) (λ r. without_variables (core_scope home top) bind.0 r)
    (λ e. infer_structures depth home top (binds_of binds) (with_structure bind.0.text e.0 (alone made)) e.1)
    ∙ out_then (infer_structure bind home top st) _ _ alone_then (λ e.
    ap (λ (env : Env). infer_structures depth home top (binds_of binds) env e.1)
    (with_structures bind.0.text e.0 made)
    ∙ structures_bound home top binds (with_entry bind.0.text e.0 made) e.1))
