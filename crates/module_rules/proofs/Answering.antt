-- What rules answer after matching.
use Rattle.std.proofs.Common.{◌≡◌, ℕ, sym, ap, ap₂, ◌∙◌, subst, length}
use Rattle.std.specs.Prelude.{Result, Ok, Err}
use Rattle.cm_base.specs.declared.fault.Fault.{Fault}
use Rattle.cm_base.specs.declared.fault.Fault.TheVariants as fault
use Rattle.sml_trees.specs.declared.name.At.{At}
use Rattle.semantic_objects.specs.Environments.{Env, Signature}
use Rattle.unification.specs.Types.{State}
use Rattle.type_nodes.specs.Tables.{Table, state}
use Rattle.sml_modules.specs.Graphs.{Graph}
use Rattle.static_semantics.specs.Inferring.{Progress, Scope, Answer, ◌>>=◌, gives}
use Rattle.static_semantics.specs.EnvironmentsPut.{put_env}
use Rattle.module_semantics.specs.Matching.{matching, matched}
use Rattle.type_phrases.specs.Inferred.{Answers, progress}
use Rattle.type_phrases.proofs.Steps.{failed}

pub progress_same : (t u : Table) (g h : Graph) → u ≡ t → h.made ≡ g.made → progress t g ≡ progress u h
progress_same t u g h e m = ap₂ (λ (x : Table) n. let p : Progress = record { types = state x; names = n } in p)
    (sym e) (ap length (sym m))

pub answers_then : {A B R : Type 0} (m : Answer A) (f : A → Answer B) (read : R → A) (other : R → B) (r : Result R Fault)
    → ((x : R) → f (read x) ≡ gives (other x)) → Answers m read r → Answers (m >>= f) other r
answers_then m f read other (Ok x) h k = ap (λ z. z >>= f) k ∙ h x
answers_then m f read other (Err e) h k = failed m f read other e k

pub matching_same : (inner : Scope) (a b : At) (s : State) (d e : Env) (sig other : Signature) → a ≡ b → d ≡ e
    → sig ≡ other → matching inner a s (put_env s.stands d) sig ≡ matching inner b s (put_env s.stands e) other
matching_same inner a b s d e sig other h k l =
    ap (λ (x : At). matching inner x s (put_env s.stands d) sig) h
    ∙ ap (λ (x : Env). matching inner b s (put_env s.stands x) sig) k
    ∙ ap (λ (x : Signature). matching inner b s (put_env s.stands e) x) l

pub matched_at : {R : Type 0} (inner : Scope) (a b : At) (s : State) (env : Env) (sig : Signature) (read : R → Env)
    (r : Result R Fault) → a ≡ b → Answers (matched inner a s env sig) read r → Answers (matched inner b s env sig) read r
matched_at inner a b s env sig read r e h = subst (λ (x : At). Answers (matched inner x s env sig) read r) e h

-- what a pair of an environment and the names that were made is
pub pair_same : (t u : Table) (d e : Env) (m n : ℕ) → u ≡ t → d ≡ e → m ≡ n
    → ◌≡◌ {A = Env × Progress} (d, (let p : Progress = record { types = state t; names = m } in p))
    (e, (let q : Progress = record { types = state u; names = n } in q))
pair_same t u d e m n h k l =
    ap (λ (x : Table). (d, (let p : Progress = record { types = state x; names = m } in p))) (sym h)
    ∙ ap₂ (λ (x : Env) c. (x, (let p : Progress = record { types = state u; names = c } in p))) k l

-- a refusal of one meaning is one of the same meaning, whatever an answer would be read as
pub refused_same : {A R S : Type 0} (m n : Answer A) (r : R → A) (s : S → A) (e : Fault) → m ≡ n → Answers m r (Err e)
    → Answers n s (Err e)
refused_same m n r s (fault.Diag d) same h = sym same ∙ h
refused_same m n r s fault.NoMemory same h = tt
