-- What is in scope at the top, and structures and signatures in it.
use Rattle.std.proofs.Common.{◌≡◌, ℕ, List, refl, sym, ap, ◌∙◌, subst, Bool, true, false}
use Rattle.sml_trees.specs.declared.name.At.{At}
use Rattle.sml_trees.specs.declared.name.Name.{Name}
use Rattle.semantic_objects.specs.Environments.{Env, Signature, Top, empty_env, with_structure}
use Rattle.unification.specs.Types.{Ty, Substitution, State}
use Rattle.unification.specs.Fitting.{IsFit}
use Rattle.unification.specs.Unification.{Solves}
use Rattle.unification.specs.Generality.{MarksOwn}
use Rattle.static_semantics.specs.Inferring.{Progress, Scope, outermost, Answer, ◌>>=◌, gives, refuses_where}
use Rattle.static_semantics.specs.EnvironmentsPut.{put_scope}
use Rattle.static_semantics.specs.Holding.{Given}
use Rattle.static_semantics.proofs.Holding.{has_nothing, has_modified}
use Rattle.inference_laws.specs.Nodes.{Makes, IsReadyFor, below_number}
use Rattle.inference_laws.proofs.Making.{given_both, before, ready_after, ready_now}
use Rattle.module_semantics.specs.SigPhrases.{SigPhrase}
use Rattle.module_semantics.specs.SignatureNames.{opened}
use Rattle.module_semantics.specs.SignatureInference.{signature_of}
use Rattle.module_semantics.specs.ElaboratesSignatures.{ElaboratesSignature}
use Rattle.unit_semantics.specs.UnitPhrases.{ModulePhrase}
use Rattle.unit_semantics.specs.StructureInference.{core_scope, known_env}
use Rattle.unit_semantics.specs.UnitInference.{top_with_param}
use Rattle.unit_semantics.specs.ElaboratesUnits.{ElaboratesModule}
use Rattle.unit_semantics.specs.Promises.{IsClosedScheme, IsClosedFunction, IsClosedEnv}
use Rattle.unit_semantics.proofs.SignaturesClosed.{one_structure, opened_closed}
use Rattle.unit_laws.specs.Spelling.{SigSpelt}
use Rattle.unit_laws.specs.Parts.{IsOfTop}
use Rattle.unit_laws.proofs.SignaturesMade.{FromSigs, ClosedOf, signature_made}
use Rattle.unit_laws.proofs.ModulesMade.{sigs_of, later_top}
use Rattle.unit_laws.proofs.UnitsMade.{with_param, param_made}
use Rattle.table_laws.specs.Rising.{RisingEnv}
use Rattle.table_laws.proofs.Units.{signature_rises, opened_rises, param_rises}
use Rattle.matching_choices.proofs.Closed.{env_stays, closed_firm}
use Rattle.matching_choices.proofs.Environments.{matching_stays}
use Rattle.specification_laws.specs.Derived.{IsAfter}
use Rattle.specification_laws.specs.Promises.{SignatureDerived}
use Rattle.specification_laws.proofs.Promised.{signatures_have_derivations}
use Rattle.module_growth.specs.Grown.{IsInside}
use Rattle.module_growth.proofs.Closed.{env_in}
use Rattle.module_growth.proofs.Modules.{around_signature}
use Rattle.module_laws.specs.Derived.{top_under_choice}
use Rattle.module_laws.proofs.Modules.{AllOf}
use Rattle.unit_derivations.specs.Derived.{IsAtTop}

-- ---- steps

-- a check, after which something is given
pub where_then : {A B : Type 0} (Q : B → Type 0) (c : Bool) (number : ℕ) (sc : Scope) (at : At) (x : A)
    (next : A → Answer B) → (c ≡ false → Given Q (next x))
    → Given Q ((refuses_where c number sc at >>= λ u. gives x) >>= next)
where_then Q true number sc at x next h = tt
where_then Q false number sc at x next h = h refl

-- ---- what is in scope

pub inside_top : (good : List ℕ → Bool) (home : List ℕ) (top : Top) (st : Progress) → IsAtTop good home top st
    → IsInside good home top st
inside_top good home top st h = record {
  ready = h.ready;
  rises = h.rises;
  firm = closed_firm top.env h.closed.env;
  env = env_in (below_number home st.names) st.types top.env
      (ready_now home (IsOfTop good top st) st.names h.ready).scope.env h.closed.env;
  signatures = h.closed.signatures;
  functors = h.closed.functors;
  fit = h.fit;
}

pub at_later : (good : List ℕ → Bool) (home : List ℕ) (top : Top) (st u : Progress) → IsAtTop good home top st
    → IsReadyFor home (IsOfTop good top u) u.names → IsFit u.types → IsAtTop good home top u
at_later good home top st u h ready fit = record { ready = ready; rises = h.rises; closed = h.closed; fit = fit }

-- it is the same whatever is put in
pub top_same : (s : Substitution) (top : Top) → IsClosedEnv top.env → top_under_choice s top ≡ top
top_same s top h = ap (λ (env : Env). (let x : Top = record {
  env = env;
  signatures = top.signatures;
  functors = top.functors;
  funsigs = top.funsigs;
} in x)) (env_stays s top.env h)

pub scope_same : (s : Substitution) (home : List ℕ) (top : Top) → IsClosedEnv top.env
    → put_scope s (core_scope home top) ≡ core_scope home top
scope_same s home top h = ap (λ env. outermost home env) (env_stays s top.env h)

-- ---- structures with everything put in

pub after_module : (good : List ℕ → Bool) (home : List ℕ) (top : Top) (str : ModulePhrase) (st : Progress)
    (r : Env × Progress) → AllOf good home top str st r → IsAfter st r.1
after_module good home top str st r k =
    record { fit = k.1.0.grows.fit; solved = k.1.1.solved; leaves = k.1.1.leaves }

pub known_derives : (good : List ℕ → Bool) (home : List ℕ) (top : Top) (str : ModulePhrase) (st : Progress)
    (r : Env × Progress) → AllOf good home top str st r → IsClosedEnv top.env → IsClosedEnv (known_env r.0 r.1)
    → (p : State) → Solves p r.1.types → MarksOwn p
    → ElaboratesModule p home top st.names str (known_env r.0 r.1) r.1.names
known_derives good home top str st r k h c p q owns =
    subst (λ t. ElaboratesModule p home t st.names str (known_env r.0 r.1) r.1.names) (top_same p.stands top h)
    (subst (λ e. ElaboratesModule p home (top_under_choice p.stands top) st.names str e r.1.names)
    (sym (matching_stays.known r.1.types p r.0 q) ∙ env_stays p.stands (known_env r.0 r.1) c)
    (k.1.1.derives p q owns))

-- ---- signatures

abbrev pub SigAt : (List ℕ → Bool) → List ℕ → Top → SigPhrase → Progress → Signature × Progress → Type 0
SigAt good home top sig st s =
    Makes home (FromSigs good top.signatures (core_scope home top) st) st s.1 (ClosedOf s)
    × (RisingEnv s.0.env × SignatureDerived top.signatures (core_scope home top) sig st s)

pub sig_at : (good : List ℕ → Bool) (home : List ℕ) (top : Top) (sig : SigPhrase) (st : Progress) → SigSpelt good sig
    → IsAtTop good home top st
    → Given (SigAt good home top sig st) (signature_of top.signatures (core_scope home top) sig st)
sig_at good home top sig st p h =
    let sc : Scope = core_scope home top in
    given_both (λ s. Makes home (FromSigs good top.signatures sc st) st s.1 (ClosedOf s))
    (λ s. RisingEnv s.0.env × SignatureDerived top.signatures sc sig st s) (signature_of top.signatures sc sig st)
    (signature_made good top.signatures sc sig st p
    (λ m l. sigs_of good home (below_number home m) top st st (h.ready m l) (h.ready m l).state))
    (given_both (λ s. RisingEnv s.0.env) (SignatureDerived top.signatures sc sig st)
    (signature_of top.signatures sc sig st)
    (signature_rises top.signatures sc sig st h.rises.signatures.1 h.rises.env)
    (signatures_have_derivations.all good top.signatures sc sig st p
    (around_signature good home top st (inside_top good home top st h))))

pub sig_derives : (good : List ℕ → Bool) (home : List ℕ) (top : Top) (sig : SigPhrase) (st : Progress)
    (s : Signature × Progress) → IsAtTop good home top st → SigAt good home top sig st s
    → ElaboratesSignature top.signatures (core_scope home top) st.names sig s.0 s.1.names
sig_derives good home top sig st s h k =
    subst (λ sc. ElaboratesSignature top.signatures sc st.names sig s.0 s.1.names)
    (scope_same Ty.Var home top h.closed.env) (k.1.1.derives Ty.Var)

-- the scope after a signature
pub after_sig : (good : List ℕ → Bool) (home : List ℕ) (top : Top) (sig : SigPhrase) (st : Progress)
    (s : Signature × Progress) → IsAtTop good home top st → SigAt good home top sig st s
    → IsAtTop good home top s.1
after_sig good home top sig st s h k =
    let first : Makes home (IsOfTop good top st) st s.1 (ClosedOf s) =
    before refl k.0 (λ q i. sigs_of good home q top st st i i.state) in
    at_later good home top st s.1 h (ready_after h.ready first (λ q i j. later_top good q top st s.1 i j.0))
    k.1.1.after.fit

-- what is in scope in a functor
pub with_param_at : (good : List ℕ → Bool) (home : List ℕ) (top : Top) (name : Name) (sig : SigPhrase) (st : Progress)
    (s : Signature × Progress) → IsAtTop good home top st → SigAt good home top sig st s
    → IsAtTop good home (top_with_param name (opened home s.0 s.1).0.env top) (opened home s.0 s.1).1
with_param_at good home top name sig st s h k =
    let inside : Signature × Progress = opened home s.0 s.1 in
    record {
      ready = ready_after h.ready (param_made good home top st s k.0)
          (λ q i j. with_param good q top name s.0 inside st i j);
      rises = param_rises top name inside.0.env h.rises (opened_rises home s.0 s.1 k.1.0);
      closed = record {
        env = has_modified IsClosedScheme IsClosedFunction top.env (with_structure name.text inside.0.env empty_env)
            h.closed.env (one_structure name.text inside.0.env empty_env (opened_closed home s.0 s.1 k.1.1.closed)
            (has_nothing IsClosedScheme IsClosedFunction));
        signatures = h.closed.signatures;
        functors = h.closed.functors;
        funsigs = h.closed.funsigs;
      };
      fit = k.1.1.after.fit;
    }

pub after_opened : (good : List ℕ → Bool) (home : List ℕ) (top : Top) (sig : SigPhrase) (st : Progress)
    (s : Signature × Progress) → SigAt good home top sig st s → IsAfter st (opened home s.0 s.1).1
after_opened good home top sig st s k =
    record { fit = k.1.1.after.fit; solved = k.1.1.after.solved; leaves = k.1.1.after.leaves }
