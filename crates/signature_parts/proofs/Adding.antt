-- Structures and whole signatures that are specified after others.
use Rattle.std.proofs.Common.{◌≡◌, ℕ, refl, sym, ap, ap₂, ◌∙◌, subst, List, [], ◌∷◌, ◌++◌, Option, Some, None, Bool, ◌||◌}
use Rattle.std.specs.Prelude.{Result, Ok, Err, IsErrAnd}
use Rattle.std.specs.Option.{is_some}
use Rattle.cm_base.specs.declared.fault.Fault.{Fault}
use Rattle.sml_trees.specs.declared.name.At.{At}
use Rattle.sml_trees.specs.declared.name.Name.{Name}
use Rattle.sml_trees.specs.declared.name.LongName.{LongName}
use Rattle.semantic_objects.specs.declared.name.TyName.{TyName}
use Rattle.semantic_objects.specs.declared.entry.TypeStr.{TypeStr}
use Rattle.semantic_objects.specs.declared.entry.ValueEntry.{ValueEntry}
use Rattle.semantic_objects.specs.Tables.{Table as Named, entry, with_entry, with_all}
use Rattle.semantic_objects.specs.Environments.{Env, Signature, env_of, structures, types, values, empty_env, modified_by, with_structure}
use Rattle.semantic_objects.proofs.Promised.{sets_entries, keeps_structures}
use Rattle.sml_modules.specs.declared.id.EnvId.{EnvId}
use Rattle.sml_modules.specs.declared.parts.SigParts.{SigParts}
use Rattle.sml_modules.specs.Graphs.{Graph, env_at, signature_of}
use Rattle.name_trails.specs.Trails.{Rows, last_entry}
use Rattle.static_semantics.specs.Inferring.{Scope, Answer, ◌>>=◌, gives, refuses_where, name_at, known, found_at}
use Rattle.static_semantics.specs.CoreInference.{infer_open}
use Rattle.module_semantics.specs.SignatureNames.{also_bound}
use Rattle.module_semantics.specs.SignatureInference.{shares, have_common, specified}
use Rattle.core_scopes.specs.declared.made.Made.{Made}
use Rattle.core_scopes.specs.Scopes.{AreEnvs}
use Rattle.core_scopes.specs.Listed.{env_rows}
use Rattle.core_scopes.proofs.Tables.{all_at_once}
use Rattle.core_scopes.proofs.Scoping.{envs_append}
use Rattle.sml_modules.specs.declared.parts.NamedEnv.{NamedEnv}
use Rattle.sml_modules.specs.Graphs.{HasEnv, HasEnvs}
use Rattle.type_phrases.specs.Inferred.{Answers}
use Rattle.type_phrases.proofs.Steps.{failed}
use Rattle.type_phrases.proofs.PartsRead.{passed_on}
use Rattle.signature_specs.specs.declared.specified.Specified.{Specified}
use Rattle.signature_specs.specs.Specs.{env_so_far, signature_so_far, IsFrontOf}
use Rattle.signature_specs.proofs.Specifying.{tables_back, structure_is, structure_set, is_specified, not_specified}
use Rattle.signature_specs.proofs.Fronts.{take_more, front_itself}
use Rattle.datatype_specs.proofs.Parting.{any_rows}
use Rattle.signature_parts.specs.Ending.{structure_specified, included}

-- ---- structures

module _ (g : Graph) (old new : Specified) (inner : Scope) (name : Name) (sig : SigParts) where
  pub structure_refused : {S : Type 0} (s : S → Signature) (e : Fault) (r : Result S Fault) → IsErrAnd r (λ f. f ≡ e)
      → Answers {R = Unit {0}} (refuses_where (is_some (last_entry old.structures name.text)) 40 inner (name_at name))
      (λ u. tt) (Err e)
      → Answers (structure_specified inner name (signature_of g sig) (signature_so_far g old)) s r
  structure_refused s e r is h =
      not_specified inner (name_at name) (with_structure name.text (env_at g sig.env) empty_env)
      (also_bound sig.bound (signature_so_far g old)) (is_some (last_entry old.structures name.text)) s e r is
      (structure_is g old name.text (env_at g sig.env)) h

  pub structure_added : (text : List ℕ) (rows : Rows EnvId) → text ≡ name.text
      → rows ≡ old.structures ++ (text, sig.env) ∷ []
      → new ≡ record old { structures = rows; bound = old.bound ++ sig.bound }
      → refuses_where (is_some (last_entry old.structures name.text)) 40 inner (name_at name) ≡ gives tt
      → structure_specified inner name (signature_of g sig) (signature_so_far g old) ≡ gives (signature_so_far g new)
  structure_added text rows t e n h =
      is_specified inner (name_at name) (with_structure name.text (env_at g sig.env) empty_env)
      (also_bound sig.bound (signature_so_far g old)) (is_some (last_entry old.structures name.text))
      (env_so_far g (record old { structures = rows }))
      (structure_is g old name.text (env_at g sig.env)) h
      (structure_set g old name.text sig.env text rows t e)
      ∙ ap (λ (made : Specified). gives (signature_so_far g made)) (sym n)

module _ (g : Graph) (old new : Specified) (sig : SigParts) where
  pub structure_front : (text : List ℕ) (rows : Rows EnvId) → rows ≡ old.structures ++ (text, sig.env) ∷ []
      → new ≡ record old { structures = rows; bound = old.bound ++ sig.bound } → IsFrontOf old new
  structure_front text rows e n = subst (IsFrontOf old) (sym n) (record {
    structures = take_more old.structures ((text, sig.env) ∷ []) rows e;
    types = (front_itself old).types;
    values = (front_itself old).values;
  })

  pub structure_envs : (text : List ℕ) (rows : Rows EnvId) → rows ≡ old.structures ++ (text, sig.env) ∷ []
      → new ≡ record old { structures = rows; bound = old.bound ++ sig.bound } → HasEnv g sig.env
      → AreEnvs g old.structures → AreEnvs g new.structures
  structure_envs text rows e n there envs =
      subst (λ (made : Specified). AreEnvs g made.structures) (sym n)
      (subst (AreEnvs g) (sym e) (envs_append g old.structures ((text, sig.env) ∷ []) envs (there, tt)))

-- ---- all entries of an environment

-- the structure that is bound last
pub bound_found : (name : List ℕ) (env around found : Env) → found ≡ with_structure name env around
    → found_at structures (name ∷ []) found ≡ Some env
bound_found name env around found e =
    ap (λ (z : Env). entry name (structures z)) e
    ∙ ap (entry name) (keeps_structures.table (with_entry name env (structures around)))
    ∙ (sets_entries Env).here name env (structures around)

pub opened_one : (sc : Scope) (longs : List LongName) (long : LongName) (name : List ℕ) (env made : Env)
    → longs ≡ long ∷ [] → long.parts ≡ name ∷ [] → found_at structures (name ∷ []) sc.env ≡ Some env
    → infer_open sc longs empty_env ≡ gives made → made ≡ modified_by empty_env env
opened_one sc longs long name env made one parts found h =
    let e : gives made ≡ gives (modified_by empty_env env) =
    sym h ∙ ap (λ ls. infer_open sc ls empty_env) one
    ∙ ap (λ (o : Option Env). known sc long o >>= λ z. gives (modified_by empty_env z))
    (ap (λ ps. found_at structures ps sc.env) parts ∙ found) in
    cc

-- ---- all of a signature

at_once : {A : Type 0} (rows t : Named A) → with_all (with_all rows []) t ≡ with_all rows t
at_once rows t = all_at_once rows [] t refl

all_rows : (env : Env) → structures (modified_by empty_env env) ≡ with_all (structures env) []
all_rows env = tables_back (with_all (structures env) [])

common_is : (part env of : Env) → part ≡ modified_by empty_env env → have_common part of ≡ have_common env of
common_is part env of e =
    ap (λ (z : Env). have_common z of) e
    ∙ ap₂ (λ (p q : Bool). p || q)
    (ap (λ (rows : Named Env). shares rows (structures of)) (all_rows env)
    ∙ any_rows (λ name. is_some (entry name (structures of))) (structures env))
    (ap₂ (λ (p q : Bool). p || q)
    (any_rows (λ name. is_some (entry name (types of))) (types env))
    (any_rows (λ name. is_some (entry name (values of))) (values env)))

env_is : (ss us : Named Env) (ts xs : Named TypeStr) (vs ys : Named ValueEntry) → ss ≡ us → ts ≡ xs → vs ≡ ys
    → env_of ss ts vs ≡ env_of us xs ys
env_is ss us ts xs vs ys h k l = cc

modified_is : (part env of : Env) → part ≡ modified_by empty_env env → modified_by of part ≡ modified_by of env
modified_is part env of e =
    ap (modified_by of) e
    ∙ env_is _ _ _ _ _ _
    (ap (λ (rows : Named Env). with_all rows (structures of)) (all_rows env) ∙ at_once (structures env) (structures of))
    (at_once (types env) (types of)) (at_once (values env) (values of))

abbrev sig_of : List TyName → Env → Signature
sig_of bound env = record { bound = bound; env = env }

by_check : (m : Answer (Unit {0})) (bound more : List TyName) (a b : Env) → a ≡ b
    → (m >>= λ u. gives (sig_of (bound ++ more) b))
    ≡ ((m >>= λ u. gives (sig_of bound a)) >>= λ sig. gives (also_bound more sig))
by_check None bound more a b e = refl
by_check (Some (Err d)) bound more a b e = refl
by_check (Some (Ok u)) bound more a b e = ap (λ (z : Env). gives (sig_of (bound ++ more) z)) (sym e)

-- .. by all its entries, with its names behind
pub included_by : (inner : Scope) (at : At) (part : Env) (sig made : Signature)
    → part ≡ modified_by empty_env sig.env
    → included inner at sig made ≡ (specified inner at part made >>= λ with. gives (also_bound sig.bound with))
included_by inner at part sig made e =
    ap (λ b. refuses_where b 40 inner at >>= λ u. gives (sig_of (made.bound ++ sig.bound) (modified_by made.env sig.env)))
    (sym (common_is part sig.env made.env e))
    ∙ by_check (refuses_where (have_common part made.env) 40 inner at) made.bound sig.bound (modified_by made.env part)
    (modified_by made.env sig.env) (modified_is part sig.env made.env e)

module _ (inner : Scope) (at : At) (part : Env) (sig made : Signature) (all : part ≡ modified_by empty_env sig.env) where
  pub included_refused : {R S : Type 0} (r : R → Signature) (s : S → Signature) (e : Fault) (q : Result S Fault)
      → IsErrAnd q (λ f. f ≡ e) → Answers (specified inner at part made) r (Err e)
      → Answers (included inner at sig made) s q
  included_refused {R} {S} r s e q is h =
      passed_on (λ z. Answers (included inner at sig made) s z) q e is
      (subst (λ (w : Answer Signature). Answers w s (Err e)) (sym (included_by inner at part sig made all))
      (failed (specified inner at part made) (λ with. gives (also_bound sig.bound with)) r s e h))

  pub included_done : (with new : Signature) → specified inner at part made ≡ gives with
      → new ≡ also_bound sig.bound with → included inner at sig made ≡ gives new
  included_done with new h e =
      included_by inner at part sig made all
      ∙ ap (λ (m : Answer Signature). m >>= λ z. gives (also_bound sig.bound z)) h
      ∙ ap (λ (z : Signature). gives z) (sym e)

-- what stands in the signature then
pub names_added : (g : Graph) (mid new : Specified) (bound : List TyName)
    → new ≡ record mid { bound = mid.bound ++ bound }
    → signature_so_far g new ≡ also_bound bound (signature_so_far g mid)
names_added g mid new bound e = ap (signature_so_far g) e

pub names_front : (old mid new : Specified) (bound : List TyName) → new ≡ record mid { bound = mid.bound ++ bound }
    → IsFrontOf old mid → IsFrontOf old new
names_front old mid new bound e h =
    subst (IsFrontOf old) (sym e) (record { structures = h.structures; types = h.types; values = h.values })

envs_of_list : (g : Graph) (part : List NamedEnv) → HasEnvs g part → AreEnvs g (env_rows part)
envs_of_list g [] h = tt
envs_of_list g (e ∷ es) h = (h.0, envs_of_list g es h.1)

pub names_envs : {V : Type 0} (g : Graph) (old mid new : Specified) (part : Made V) (bound : List TyName)
    → new ≡ record mid { bound = mid.bound ++ bound } → mid.structures ≡ old.structures ++ env_rows part.structures
    → HasEnvs g part.structures → AreEnvs g old.structures → AreEnvs g new.structures
names_envs g old mid new part bound e s there envs =
    subst (λ (made : Specified). AreEnvs g made.structures) (sym e)
    (subst (AreEnvs g) (sym s) (envs_append g old.structures (env_rows part.structures) envs
    (envs_of_list g part.structures there)))
