-- From whichever fit state a unit is inferred, over a basis and what is given without variables it defines the same.
use Rattle.std.proofs.Common.{◌≡◌, ℕ, List, refl, sym, ap, ap₂, ◌∙◌, subst, Some, None, Bool, false}
use Rattle.std.specs.Prelude.{Ok, Err}
use Rattle.semantic_objects.specs.Trees.{Tree, Trees, frees, frees_any}
use Rattle.semantic_objects.specs.Environments.{Env, Signature, Functor, Top}
use Rattle.unification.specs.Fitting.{IsFit}
use Rattle.unification.proofs.Walking.{or_false_left, or_false_right}
use Rattle.env_parts.specs.Types.{holds_free, any_holds_free}
use Rattle.static_semantics.specs.Inferring.{Progress, Answer}
use Rattle.static_semantics.specs.EnvironmentsPut.{put_env}
use Rattle.static_semantics.specs.Holding.{Given}
use Rattle.static_semantics.proofs.Holding.{env_more}
use Rattle.module_semantics.specs.ElaboratesSignatures.{sig_of}
use Rattle.unit_semantics.specs.UnitPhrases.{TopPhrase}
use Rattle.unit_semantics.specs.UnitInference.{infer_unit}
use Rattle.unit_semantics.specs.Promises.{IsClosedScheme, IsClosedFunction, IsClosedEnv, IsClosedSignature, IsClosedFunctor, IsClosedTop}
use Rattle.unit_semantics.proofs.Closed.{neither}
use Rattle.unit_semantics.proofs.Promised.{are_closed}
use Rattle.renaming_laws.specs.Moved.{moved, AreMoved, Both}
use Rattle.renaming_laws.specs.Firm.{IsFirm, FirmScheme, FirmFunction, FirmEnv}
use Rattle.renaming_laws.proofs.Beginning.{rows_stay, both_of_one, first_of, begins_anywhere}
use Rattle.unit_renaming_laws.specs.Moved.{put_signature, put_functor, put_top}
use Rattle.unit_renaming_laws.specs.Promises.{DefinesSame}
use Rattle.unit_renaming_laws.proofs.TopsMoved.{fun_of}
use Rattle.unit_renaming_laws.proofs.UnitsMoved.{TopsMove, parts_same, unit_moved}

-- ---- what holds no variable stays

mutual
  closed_firm : (x : Tree) → holds_free x ≡ false → IsFirm x
  closed_firm (Tree.Bound i) h = λ n. refl
  closed_firm (Tree.Free m) h = absurd (cc)
  closed_firm (Tree.Made c xs) h = all_closed_firm xs h

  all_closed_firm : (xs : Trees) → any_holds_free xs ≡ false → (n : ℕ) → frees_any n xs ≡ false
  all_closed_firm Trees.Nil h = λ n. refl
  all_closed_firm (Trees.Cons x xs) h = λ n. neither (frees n x) (frees_any n xs)
      (closed_firm x (or_false_left (holds_free x) (any_holds_free xs) h) n)
      (all_closed_firm xs (or_false_right (holds_free x) (any_holds_free xs) h) n)

env_firm : (env : Env) → IsClosedEnv env → FirmEnv env
env_firm env h = env_more IsClosedScheme FirmScheme IsClosedFunction FirmFunction (λ σ i. closed_firm σ.body i)
    (λ function i. closed_firm function.body i) env h

env_stays : (k : ℕ) (env : Env) → IsClosedEnv env → put_env (moved k) env ≡ env
env_stays k env h = begins_anywhere.stays k env (env_firm env h)

signature_stays : (k : ℕ) (sig : Signature) → IsClosedSignature sig → put_signature (moved k) sig ≡ sig
signature_stays k sig h = ap (sig_of sig.bound) (env_stays k sig.env h)

functor_stays : (k : ℕ) (fun : Functor) → IsClosedFunctor fun → put_functor (moved k) fun ≡ fun
functor_stays k fun h = ap₂ (λ p r. fun_of fun.bound p fun.further r) (env_stays k fun.param h.param)
    (env_stays k fun.result h.result)

top_stays : (k : ℕ) (top : Top) → IsClosedTop top → put_top (moved k) top ≡ top
top_stays k top h = parts_same _ _ _ _ _ _ _ _ (env_stays k top.env h.env)
    (rows_stay IsClosedSignature (put_signature (moved k)) top.signatures (signature_stays k) h.signatures)
    (rows_stay IsClosedFunctor (put_functor (moved k)) top.functors (functor_stays k) h.functors)
    (rows_stay IsClosedFunctor (put_functor (moved k)) top.funsigs (functor_stays k) h.funsigs)

-- ---- two runs that are moved from one

both_given : {A : Type 0} (P : A → Type 0) (R : A → A → Type 0) (m n : Answer A) → Given P m → Both R m n
    → Both (λ x y. P x × R x y) m n
both_given P R None None g h = tt
both_given P R None (Some y) g h = absurd h
both_given P R (Some (Err d)) None g h = absurd h
both_given P R (Some (Ok x)) None g h = absurd h
both_given P R (Some (Err d)) (Some (Err e)) g h = h
both_given P R (Some (Err d)) (Some (Ok y)) g h = absurd h
both_given P R (Some (Ok x)) (Some (Err e)) g h = absurd h
both_given P R (Some (Ok x)) (Some (Ok y)) g h = (g, h)

abbrev ClosedMove : ℕ → Top × Progress → Top × Progress → Type 0
ClosedMove k x r = IsClosedTop x.0 × TopsMove k x r

from_first : (depth : ℕ) (home : List ℕ) (basis : Env) (given : Top) (sealing : Bool) (tops : List TopPhrase)
    (st u : Progress) → IsClosedEnv basis → IsClosedTop given → IsFit u.types → u.names ≡ st.names
    → Both (ClosedMove u.types.next) (infer_unit depth home basis given sealing tops (first_of st))
    (infer_unit depth home basis given sealing tops u)
from_first depth home basis given sealing tops st u closed all fit e =
    let k : ℕ = u.types.next in
    let i : AreMoved k (first_of st) u = record { types = begins_anywhere.begins u.types fit; names = e } in
    both_given (λ r. IsClosedTop r.0) (TopsMove k) (infer_unit depth home basis given sealing tops (first_of st))
    (infer_unit depth home basis given sealing tops u)
    (are_closed.all depth home basis given sealing tops (first_of st) closed all)
    (subst (λ z. Both (TopsMove k) (infer_unit depth home basis given sealing tops (first_of st))
    (infer_unit depth home z given sealing tops u)) (env_stays k basis closed)
    (subst (λ z. Both (TopsMove k) (infer_unit depth home basis given sealing tops (first_of st))
    (infer_unit depth home (put_env (moved k) basis) z sealing tops u)) (top_stays k given all)
    (unit_moved k depth home basis given sealing tops (first_of st) u i)))

same_unit : (j k : ℕ) (x r v : Top × Progress) → ClosedMove j x r → ClosedMove k x v → DefinesSame r v
same_unit j k x r v h l = record {
  top = (l.1.0 ∙ top_stays k x.0 l.0) ∙ sym (h.1.0 ∙ top_stays j x.0 h.0);
  names = l.1.1.names ∙ sym h.1.1.names;
}

pub unit_begins : (depth : ℕ) (home : List ℕ) (basis : Env) (given : Top) (sealing : Bool) (tops : List TopPhrase)
    (st u : Progress) → IsClosedEnv basis → IsClosedTop given → IsFit st.types → IsFit u.types → u.names ≡ st.names
    → Both DefinesSame (infer_unit depth home basis given sealing tops st)
    (infer_unit depth home basis given sealing tops u)
unit_begins depth home basis given sealing tops st u closed all fit other e =
    both_of_one (ClosedMove st.types.next) (ClosedMove u.types.next) DefinesSame
    (infer_unit depth home basis given sealing tops (first_of st)) (infer_unit depth home basis given sealing tops st)
    (infer_unit depth home basis given sealing tops u)
    (from_first depth home basis given sealing tops st st closed all fit refl)
    (from_first depth home basis given sealing tops st u closed all other e)
    (same_unit st.types.next u.types.next)
