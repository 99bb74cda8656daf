-- Graphs that grow by nodes, and functors that are made.
use Rattle.std.proofs.Common.{◌≡◌, refl, sym, ap, ◌∙◌, subst, List, ◌++◌, length}
use Rattle.std.specs.Prelude.{Result, Ok, Err, IfOk, OnErr}
use Rattle.cm_base.specs.declared.fault.NoMemory.{NoMemory}
use Rattle.semantic_objects.specs.declared.name.TyName.{TyName}
use Rattle.semantic_objects.specs.Environments.{Env, Functor}
use Rattle.realisation.specs.Realised.{of_rows, realised}
use Rattle.module_semantics.specs.SignatureNames.{rows_between, bound_names}
use Rattle.type_walks.specs.declared.replacing.Replace.{Replace}
use Rattle.type_walks.specs.Replaced.{rows_of}
use Rattle.sml_modules.specs.declared.id.EnvId.{EnvId}
use Rattle.sml_modules.specs.declared.id.FunId.{FunId}
use Rattle.sml_modules.specs.declared.parts.FunParts.{FunParts}
use Rattle.sml_modules.specs.declared.parts.SigParts.{SigParts}
use Rattle.sml_modules.specs.Graphs.{Graph, env_at, signature_of, functor_of as functor_of_parts, HasEnv, Keeps, GivesEnv, GivesFunctor}
use Rattle.unit_semantics.specs.UnitInference.{functor_of}
use Rattle.functor_closing.specs.Closed.{functor_by}

pub keeps_same : (g : Graph) → Keeps g g
keeps_same g = record {
  has_env = λ id h. h;
  env = λ id h. refl;
  has_signature = λ id h. h;
  signature = λ id h. refl;
  has_functor = λ id h. h;
  functor = λ id h. refl;
  has_top = λ id h. h;
  top = λ id h. refl;
}

keeps_both : (g h k : Graph) → Keeps g h → Keeps h k → Keeps g k
keeps_both g h k a b = record {
  has_env = λ id t. b.has_env id (a.has_env id t);
  env = λ id t. b.env id (a.has_env id t) ∙ a.env id t;
  has_signature = λ id t. b.has_signature id (a.has_signature id t);
  signature = λ id t. b.signature id (a.has_signature id t) ∙ a.signature id t;
  has_functor = λ id t. b.has_functor id (a.has_functor id t);
  functor = λ id t. b.functor id (a.has_functor id t) ∙ a.functor id t;
  has_top = λ id t. b.has_top id (a.has_top id t);
  top = λ id t. b.top id (a.has_top id t) ∙ a.top id t;
}

pub keeps_equal : (g h : Graph) → h ≡ g → Keeps g h
keeps_equal g h e = subst (Keeps g) (sym e) (keeps_same g)

pub keeps_env : (g h k : Graph) (env : Env) (id : EnvId) → GivesEnv g h env id → k ≡ h → Keeps g k
keeps_env g h k env id a e = subst (Keeps g) (sym e) a.keeps

functor_same : (a b : List TyName) (p q : Env) (s t : List TyName) (d e : Env) → a ≡ b → p ≡ q → s ≡ t → d ≡ e
    → (let f : Functor = record { bound = a; param = p; further = s; result = d } in f)
    ≡ (let h : Functor = record { bound = b; param = q; further = t; result = e } in h)
functor_same a b p q s t d e h k l m = cc

-- a functor over an environment that was given
pub functor_given : (g h k : Graph) (bound further : List TyName) (param body made : EnvId) (by : List Replace)
    (env : Env) (fun : FunId) → HasEnv g param → GivesEnv g h env made
    → GivesFunctor h k (functor_of_parts h (let parts : FunParts = record {
      bound = bound;
      param = param;
      further = further;
      result = made;
    } in parts)) fun
    → (let f : Functor = record { bound = bound; param = env_at g param; further = further; result = env } in f)
    ≡ functor_by bound (env_at g param) further by (env_at g body)
    → GivesFunctor g k (functor_by bound (env_at g param) further by (env_at g body)) fun
functor_given g h k bound further param body made by env fun there a f e = record {
  there = f.there;
  stands = f.stands
      ∙ functor_same bound bound (env_at h param) (env_at g param) further further (env_at h made) env refl
      (a.keeps.env param there) refl a.stands
      ∙ e;
  keeps = keeps_both g h k a.keeps f.keeps;
  home = f.home ∙ a.home;
  made = f.made ∙ a.made;
}

-- the functor of the definition
pub functor_is : (g : Graph) (param inside : SigParts) (names bound further : List TyName) (by : List Replace)
    (body : Env) → bound ≡ param.bound → further ≡ bound_names (length param.bound) names
    → rows_of by ≡ rows_between (inside.bound ++ names) (param.bound ++ bound_names (length param.bound) names)
    → functor_by bound (env_at g param.env) further by body
    ≡ functor_of (signature_of g param) (signature_of g inside) names body
functor_is g param inside names bound further by body b f r =
    functor_same bound param.bound (env_at g param.env) (env_at g param.env) further
    (bound_names (length param.bound) names) (realised (of_rows (rows_of by)) body)
    (realised (of_rows (rows_between (inside.bound ++ names)
    (param.bound ++ bound_names (length param.bound) names))) body)
    b refl f (ap (λ rows. realised (of_rows rows) body) r)

-- ---- results

pub if_ok : {A E : Type 0} (r : Result A E) (P Q : A → Type 0) → ((x : A) → P x → Q x) → IfOk r P → IfOk r Q
if_ok (Ok x) P Q f h = f x h
if_ok (Err e) P Q f h = tt

pub on_err : {A E P Q : Type 0} (r : Result A E) → (P → Q) → OnErr r P → OnErr r Q
on_err (Ok x) f h = tt
on_err (Err e) f h = f h

-- the unit stays
pub home_stays : (f : Functor) (g h : Graph) (r : Result FunId NoMemory) → IfOk r (GivesFunctor g h f)
    → OnErr r (h ≡ g) → h.home ≡ g.home
home_stays f g h (Ok id) k e = k.home
home_stays f g h (Err n) k e = ap (λ (z : Graph). z.home) e
