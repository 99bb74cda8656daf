-- Inference binds variables alone that are new or free around, and leaves every other one.
use Rattle.std.proofs.Common.{ℕ, List, ap, ◌∙◌}
use Rattle.semantic_objects.specs.declared.entry.TypeFn.{TypeFn}
use Rattle.semantic_objects.specs.Trees.{Tree, TypeScheme, IsScheme}
use Rattle.semantic_objects.specs.Environments.{Env}
use Rattle.unification.specs.Types.{Ty, State, put}
use Rattle.unification.specs.Fitting.{Below, IsFit}
use Rattle.unification.proofs.Walking.{not_both}
use Rattle.static_semantics.specs.Inferring.{Progress, Scope, outermost, seen}
use Rattle.static_semantics.specs.BasicTypes.{unit_ty}
use Rattle.static_semantics.specs.CoreInference.{infer_exp, infer_match, infer_dec}
use Rattle.static_semantics.specs.Growing.{TyIn, SchemeIn, FunctionIn, Grows, IsReady}
use Rattle.static_semantics.proofs.Holding.{env_more}
use Rattle.static_semantics.proofs.TypesGrow.{given_more, MadeIn, ty_grows}
use Rattle.static_semantics.proofs.CoreGrow.{ExpIn, exp_grows, match_grows, dec_grows}
use Rattle.static_semantics.proofs.Ages.{ready_open}
use Rattle.inference_laws.specs.Alike.{IsFirm}
use Rattle.inference_laws.specs.Promises.{Any, is_open, IsOpen, OthersStay, BindsNewOrFree, ClosedEnv, BeginsReady}
use Rattle.inference_laws.proofs.Firm.{within_firm, unit_within}

others_stay : (sc : Scope) (st u : Progress) → Grows (IsOpen sc st.types) st u → OthersStay sc st u
others_stay sc st u g = record {
  stands = λ v h e. g.touches.stands v ∙ ap (put g.touches.change) e
      ∙ g.touches.outside v (not_both (is_open sc st.types v) h);
  marks = λ v h e. g.touches.marks v (not_both (is_open sc st.types v) h) e;
}

pub binds_new_or_free : BindsNewOrFree
binds_new_or_free = record {
  ty = λ sc ty st h. ty_grows (IsOpen sc st.types) st.types sc ty (ready_open sc st h).scope;
  exp = λ depth sc exp st h. given_more (ExpIn (IsOpen sc st.types) st) _ (infer_exp depth sc exp st)
      (λ r k. (k.0, k.1, others_stay sc st r.1 k.0))
      (exp_grows (IsOpen sc st.types) depth sc exp st (ready_open sc st h));
  rules = λ depth sc rules st h. given_more (ExpIn (IsOpen sc st.types) st) _ (infer_match depth sc rules st)
      (λ r k. (k.0, k.1, others_stay sc st r.1 k.0))
      (match_grows (IsOpen sc st.types) depth sc rules st (ready_open sc st h));
  dec = λ depth sc dec st h. given_more (MadeIn (IsOpen sc st.types) st) _ (infer_dec depth sc dec st)
      (λ r k. (k.0, k.1, others_stay sc st r.1 k.0))
      (dec_grows (IsOpen sc st.types) depth sc dec st (ready_open sc st h));
}

-- ---- the beginning

tree_in : (s : State) (x : Tree) → IsFirm x → TyIn Any s (seen Ty.Var x)
tree_in s x h = record {
  below = within_firm (Below s.next) (λ i. unit_ty) Ty.Var x h (λ i. unit_within (Below s.next));
  within = λ n e. tt;
}

ready_at : (home : List ℕ) (env : Env) (st : Progress) → ClosedEnv env → IsFit st.types
    → IsReady Any (outermost home env) st
ready_at home env st h k = record {
  fit = k;
  new = λ n l. tt;
  scope = record {
    env = env_more (λ (σ : TypeScheme). IsScheme σ × IsFirm σ.body) (SchemeIn Any st.types)
        (λ (function : TypeFn). IsFirm function.body) (FunctionIn Any st.types)
        (λ σ i. record { closed = i.0; body = tree_in st.types σ.body i.1 })
        (λ function i. tree_in st.types function.body i) env h;
    written = tt;
  };
}

pub begins_ready : BeginsReady
begins_ready = record { ready = ready_at }
