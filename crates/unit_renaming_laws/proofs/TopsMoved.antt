-- What stands at the top moves with the variables: what is left of them in an environment, functors, and the bindings of
-- a declaration.
use Rattle.std.proofs.Common.{◌≡◌, ℕ, List, [], ◌∷◌, ◌++◌, map, length, refl, sym, ap, ap₂, ◌∙◌, subst, ◌||◌}
use Rattle.std.proofs.lemmas.List.{map-append}
use Rattle.std.specs.Prelude.{filter}
use Rattle.std.specs.Option.{is_some}
use Rattle.std.specs.List.{list_any}
use Rattle.sml_trees.specs.declared.name.Name.{Name}
use Rattle.semantic_objects.specs.declared.name.TyName.{TyName}
use Rattle.semantic_objects.specs.declared.entry.TypeStr.{TypeStr}
use Rattle.semantic_objects.specs.declared.entry.ValueEntry.{ValueEntry}
use Rattle.semantic_objects.specs.Tables.{Table, entry, with_entry}
use Rattle.semantic_objects.specs.Trees.{Tree, Trees}
use Rattle.semantic_objects.specs.Environments.{Env, Structures, Signature, Functor, Top, structures, empty_env, with_structure}
use Rattle.unification.specs.Closing.{put_tree, put_trees}
use Rattle.env_parts.specs.Types.{holds_free, any_holds_free, con_types, types_in, types_in_types, types_in_values, types_in_structures}
use Rattle.realisation.specs.Names.{names_of_symbol, names_in, names_in_all, names_in_list, once}
use Rattle.static_semantics.specs.Inferring.{Progress, Scope, name_at}
use Rattle.static_semantics.specs.EnvironmentsPut.{put_type, put_value, each_entry, put_env, put_structures, put_scope}
use Rattle.module_semantics.specs.SigPhrases.{SigBinds}
use Rattle.module_semantics.specs.SignatureNames.{bound_names, opened}
use Rattle.module_semantics.specs.SignatureInference.{signature_of}
use Rattle.unit_semantics.specs.UnitPhrases.{ModuleBinds, FunPhrase, FunsigPhrase}
use Rattle.unit_semantics.specs.StructureInference.{core_scope, known_env, infer_module}
use Rattle.unit_semantics.specs.UnitInference.{has_variable, without_variables, is_since, names_since, functor_of, top_with_param, infer_body, infer_result, infer_structures, infer_signatures, infer_functors, infer_funsigs}
use Rattle.renaming_laws.specs.Moved.{moved, AreMoved, Both, MovesIn}
use Rattle.renaming_laws.proofs.Answers.{moves_then, both_where}
use Rattle.renaming_laws.proofs.Environments.{each_with, each_has, put_con_bodies}
use Rattle.renaming_laws.proofs.StepsMoved.{DecsMove}
use Rattle.unit_renaming_laws.specs.Moved.{put_signature, put_functor, put_top}
use Rattle.unit_renaming_laws.proofs.Realising.{realised_between_moved}
use Rattle.unit_renaming_laws.proofs.Specifying.{SigsMove}
use Rattle.unit_renaming_laws.proofs.Signing.{moved_signatures, opened_moved, signature_moved}
use Rattle.unit_renaming_laws.proofs.ModulesMoved.{top_under_moved, with_structure_moved, has_structure_moved, known_env_moved, module_moved}

-- ---- all types of an environment

types_there : (k : ℕ) (rows : Table TypeStr)
    → types_in_types (each_entry (put_type (moved k)) rows) ≡ map (put_tree (moved k)) (types_in_types rows)
types_there k [] = refl
types_there k (row ∷ rows) = ap (λ z. put_tree (moved k) row.1.function.body ∷ z)
    (ap₂ (λ a b. a ++ b) (put_con_bodies (moved k) row.1.cons) (types_there k rows)
    ∙ sym (map-append (put_tree (moved k)) (con_types row.1.cons) (types_in_types rows)))

values_there : (k : ℕ) (rows : Table ValueEntry)
    → types_in_values (each_entry (put_value (moved k)) rows) ≡ map (put_tree (moved k)) (types_in_values rows)
values_there k [] = refl
values_there k (row ∷ rows) = ap (λ z. put_tree (moved k) row.1.scheme.body ∷ z) (values_there k rows)

mutual
  types_in_moved : (k : ℕ) (env : Env) → types_in (put_env (moved k) env) ≡ map (put_tree (moved k)) (types_in env)
  types_in_moved k (Env.MakeEnv ss ts vs) =
      ap₂ (λ a b. a ++ b) (structures_there k ss)
      (ap₂ (λ a b. a ++ b) (types_there k ts) (values_there k vs)
      ∙ sym (map-append (put_tree (moved k)) (types_in_types ts) (types_in_values vs)))
      ∙ sym (map-append (put_tree (moved k)) (types_in_structures ss) (types_in_types ts ++ types_in_values vs))

  structures_there : (k : ℕ) (ss : Structures)
      → types_in_structures (put_structures (moved k) ss) ≡ map (put_tree (moved k)) (types_in_structures ss)
  structures_there k Structures.Nil = refl
  structures_there k (Structures.Cons name env rest) =
      ap₂ (λ a b. a ++ b) (types_in_moved k env) (structures_there k rest)
      ∙ sym (map-append (put_tree (moved k)) (types_in env) (types_in_structures rest))

-- ---- variables that are left

mutual
  holds_moved : (k : ℕ) (t : Tree) → holds_free (put_tree (moved k) t) ≡ holds_free t
  holds_moved k (Tree.Bound i) = refl
  holds_moved k (Tree.Free n) = refl
  holds_moved k (Tree.Made c ts) = any_holds_moved k ts

  any_holds_moved : (k : ℕ) (ts : Trees) → any_holds_free (put_trees (moved k) ts) ≡ any_holds_free ts
  any_holds_moved k Trees.Nil = refl
  any_holds_moved k (Trees.Cons t ts) = ap₂ (λ a b. a || b) (holds_moved k t) (any_holds_moved k ts)

list_holds_moved : (k : ℕ) (ts : List Tree) → list_any holds_free (map (put_tree (moved k)) ts) ≡ list_any holds_free ts
list_holds_moved k [] = refl
list_holds_moved k (t ∷ ts) = ap₂ (λ a b. a || b) (holds_moved k t) (list_holds_moved k ts)

has_variable_moved : (k : ℕ) (env : Env) → has_variable (put_env (moved k) env) ≡ has_variable env
has_variable_moved k env = ap (list_any holds_free) (types_in_moved k env) ∙ list_holds_moved k (types_in env)

without_moved : (k : ℕ) (sc : Scope) (name : Name) (env : Env) (st u : Progress) → AreMoved k st u
    → Both (DecsMove k) (without_variables sc name (env, st))
    (without_variables (put_scope (moved k) sc) name (put_env (moved k) env, u))
without_moved k sc name env st u h =
    both_where k (DecsMove k) (has_variable (known_env env st)) (has_variable (known_env (put_env (moved k) env) u)) 42
    sc (name_at name) _ _
    (ap has_variable (known_env_moved k env st u h) ∙ has_variable_moved k (known_env env st))
    (known_env_moved k env st u h, h)

-- ---- type names

mutual
  names_moved : (k : ℕ) (t : Tree) → names_in (put_tree (moved k) t) ≡ names_in t
  names_moved k (Tree.Bound i) = refl
  names_moved k (Tree.Free n) = refl
  names_moved k (Tree.Made c ts) = ap (λ z. names_of_symbol c ++ z) (names_all_moved k ts)

  names_all_moved : (k : ℕ) (ts : Trees) → names_in_all (put_trees (moved k) ts) ≡ names_in_all ts
  names_all_moved k Trees.Nil = refl
  names_all_moved k (Trees.Cons t ts) = ap₂ (λ a b. a ++ b) (names_moved k t) (names_all_moved k ts)

names_list_moved : (k : ℕ) (ts : List Tree) → names_in_list (map (put_tree (moved k)) ts) ≡ names_in_list ts
names_list_moved k [] = refl
names_list_moved k (t ∷ ts) = ap₂ (λ a b. a ++ b) (names_moved k t) (names_list_moved k ts)

since_moved : (k : ℕ) (home : List ℕ) (number : ℕ) (env : Env)
    → names_since home number (put_env (moved k) env) ≡ names_since home number env
since_moved k home number env = ap (λ z. filter (is_since home number) (once z))
    (ap names_in_list (types_in_moved k env) ∙ names_list_moved k (types_in env))

-- ---- functors

abbrev pub FunsMove : ℕ → Functor × Progress → Functor × Progress → Type 0
FunsMove k = MovesIn k (put_functor (moved k))

abbrev pub fun_of : List TyName → Env → List TyName → Env → Functor
fun_of bound param further result =
    record { bound = bound; param = param; further = further; result = result }

functor_moved : (k : ℕ) (param inside : Signature) (names : List TyName) (result : Env)
    → functor_of (put_signature (moved k) param) (put_signature (moved k) inside) names (put_env (moved k) result)
    ≡ put_functor (moved k) (functor_of param inside names result)
functor_moved k param inside names result =
    let further : List TyName = bound_names (length param.bound) names in
    ap (fun_of param.bound (put_env (moved k) param.env) further)
    (realised_between_moved k (inside.bound ++ names) (param.bound ++ further) result)

body_moved : (k depth : ℕ) (home : List ℕ) (top : Top) (bind : FunPhrase) (param inside : Signature)
    (st u : Progress) → AreMoved k st u
    → Both (FunsMove k) (infer_body depth home top bind param (inside, st))
    (infer_body depth home (put_top (moved k) top) bind (put_signature (moved k) param)
    (put_signature (moved k) inside, u))
body_moved k depth home top bind param inside st u h =
    let sc : Scope = core_scope home top in
    moves_then k (put_env (moved k)) (FunsMove k)
    (infer_module depth home (top_with_param bind.param inside.env top) bind.body st)
    (infer_module depth home (top_with_param bind.param (put_env (moved k) inside.env) (put_top (moved k) top))
    bind.body u) _ _
    (subst (λ z. Both (DecsMove k)
    (infer_module depth home (top_with_param bind.param inside.env top) bind.body st)
    (infer_module depth home z bind.body u))
    (sym (top_under_moved k (with_structure bind.param.text inside.env empty_env) top))
    (module_moved k depth home (top_with_param bind.param inside.env top) bind.body st u h)) (λ r v w i.
    moves_then k (put_env (moved k)) (FunsMove k) (without_variables sc bind.name (r, v))
    (without_variables (put_scope (moved k) sc) bind.name (put_env (moved k) r, w)) _ _
    (without_moved k sc bind.name r v w i) (λ e x y j. (
      ap (λ ns. functor_of (put_signature (moved k) param) (put_signature (moved k) inside) ns (put_env (moved k) e))
          (ap (λ n. names_since home n (put_env (moved k) e)) h.names ∙ since_moved k home st.names e)
          ∙ functor_moved k param inside (names_since home st.names e) e,
      j,
    )))

funsig_moved : (k : ℕ) (home : List ℕ) (top : Top) (bind : FunsigPhrase) (param inside : Signature)
    (st u : Progress) → AreMoved k st u
    → Both (FunsMove k) (infer_result home top bind param (inside, st))
    (infer_result home (put_top (moved k) top) bind (put_signature (moved k) param)
    (put_signature (moved k) inside, u))
funsig_moved k home top bind param inside st u h =
    moves_then k (put_signature (moved k)) (FunsMove k)
    (signature_of top.signatures (core_scope home (top_with_param bind.param inside.env top)) bind.result_sig st)
    (signature_of (moved_signatures k top.signatures)
    (core_scope home (top_with_param bind.param (put_env (moved k) inside.env) (put_top (moved k) top)))
    bind.result_sig u) _ _
    (subst (λ z. Both (SigsMove k)
    (signature_of top.signatures (core_scope home (top_with_param bind.param inside.env top)) bind.result_sig st)
    (signature_of (moved_signatures k top.signatures) (core_scope home z) bind.result_sig u))
    (sym (top_under_moved k (with_structure bind.param.text inside.env empty_env) top))
    (signature_moved k top.signatures (core_scope home (top_with_param bind.param inside.env top)) bind.result_sig st u
    h)) (λ r v w i. (functor_moved k param inside r.bound r.env, i))

-- ---- the bindings of a declaration

pub structures_moved : (k depth : ℕ) (home : List ℕ) (top : Top) (binds : ModuleBinds) (made : Env) (st u : Progress)
    → AreMoved k st u
    → Both (DecsMove k) (infer_structures depth home top binds made st)
    (infer_structures depth home (put_top (moved k) top) binds (put_env (moved k) made) u)
structures_moved k depth home top ModuleBinds.EndOfBinds made st u h = (refl, h)
structures_moved k depth home top (ModuleBinds.Bind name str rest) made st u h =
    let sc : Scope = core_scope home top in
    both_where k (DecsMove k) (is_some (entry name.text (structures made)))
    (is_some (entry name.text (structures (put_env (moved k) made)))) 40 sc (name_at name) _ _
    (has_structure_moved k name.text made)
    (moves_then k (put_env (moved k)) (DecsMove k) (infer_module depth home top str st)
    (infer_module depth home (put_top (moved k) top) str u) _ _ (module_moved k depth home top str st u h)
    (λ r v w i.
    moves_then k (put_env (moved k)) (DecsMove k) (without_variables sc name (r, v))
    (without_variables (put_scope (moved k) sc) name (put_env (moved k) r, w)) _ _
    (without_moved k sc name r v w i) (λ e x y j.
    subst (λ z. Both (DecsMove k) (infer_structures depth home top rest (with_structure name.text e made) x)
    (infer_structures depth home (put_top (moved k) top) rest z y))
    (sym (with_structure_moved k name.text e made))
    (structures_moved k depth home top rest (with_structure name.text e made) x y j))))

pub signatures_moved : (k : ℕ) (home : List ℕ) (top : Top) (binds : SigBinds) (made : Table Signature)
    (st u : Progress) → AreMoved k st u
    → Both (MovesIn k (each_entry (put_signature (moved k)))) (infer_signatures home top binds made st)
    (infer_signatures home (put_top (moved k) top) binds (moved_signatures k made) u)
signatures_moved k home top SigBinds.EndOfBinds made st u h = (refl, h)
signatures_moved k home top (SigBinds.Bind name sig rest) made st u h =
    let sc : Scope = core_scope home top in
    both_where k (MovesIn k (each_entry (put_signature (moved k)))) (is_some (entry name.text made))
    (is_some (entry name.text (moved_signatures k made))) 40 sc (name_at name) _ _
    (each_has (put_signature (moved k)) name.text made)
    (moves_then k (put_signature (moved k)) (MovesIn k (each_entry (put_signature (moved k))))
    (signature_of top.signatures sc sig st)
    (signature_of (moved_signatures k top.signatures) (put_scope (moved k) sc) sig u) _ _
    (signature_moved k top.signatures sc sig st u h) (λ r v w i.
    subst (λ z. Both (MovesIn k (each_entry (put_signature (moved k))))
    (infer_signatures home top rest (with_entry name.text r made) v)
    (infer_signatures home (put_top (moved k) top) rest z w))
    (sym (each_with (put_signature (moved k)) name.text r made))
    (signatures_moved k home top rest (with_entry name.text r made) v w i)))

abbrev moved_functors : ℕ → Table Functor → Table Functor
moved_functors k rows = each_entry (put_functor (moved k)) rows

pub functors_moved : (k depth : ℕ) (home : List ℕ) (top : Top) (binds : List FunPhrase) (made : Table Functor)
    (st u : Progress) → AreMoved k st u
    → Both (MovesIn k (moved_functors k)) (infer_functors depth home top binds made st)
    (infer_functors depth home (put_top (moved k) top) binds (moved_functors k made) u)
functors_moved k depth home top [] made st u h = (refl, h)
functors_moved k depth home top (bind ∷ binds) made st u h =
    let sc : Scope = core_scope home top in
    both_where k (MovesIn k (moved_functors k)) (is_some (entry bind.name.text made))
    (is_some (entry bind.name.text (moved_functors k made))) 40 sc (name_at bind.name) _ _
    (each_has (put_functor (moved k)) bind.name.text made)
    (moves_then k (put_signature (moved k)) (MovesIn k (moved_functors k))
    (signature_of top.signatures sc bind.param_sig st)
    (signature_of (moved_signatures k top.signatures) (put_scope (moved k) sc) bind.param_sig u) _ _
    (signature_moved k top.signatures sc bind.param_sig st u h) (λ p v w i.
    let o : SigsMove k (opened home p v) (opened home (put_signature (moved k) p) w) = opened_moved k home p v w i in
    moves_then k (put_functor (moved k)) (MovesIn k (moved_functors k))
    (infer_body depth home top bind p (opened home p v))
    (infer_body depth home (put_top (moved k) top) bind (put_signature (moved k) p)
    (opened home (put_signature (moved k) p) w)) _ _
    (subst (λ z. Both (FunsMove k) (infer_body depth home top bind p (opened home p v))
    (infer_body depth home (put_top (moved k) top) bind (put_signature (moved k) p)
    (z, (opened home (put_signature (moved k) p) w).1))) (sym o.0)
    (body_moved k depth home top bind p (opened home p v).0 (opened home p v).1
    (opened home (put_signature (moved k) p) w).1 o.1)) (λ r x y j.
    subst (λ z. Both (MovesIn k (moved_functors k))
    (infer_functors depth home top binds (with_entry bind.name.text r made) x)
    (infer_functors depth home (put_top (moved k) top) binds z y))
    (sym (each_with (put_functor (moved k)) bind.name.text r made))
    (functors_moved k depth home top binds (with_entry bind.name.text r made) x y j))))

pub funsigs_moved : (k : ℕ) (home : List ℕ) (top : Top) (binds : List FunsigPhrase) (made : Table Functor)
    (st u : Progress) → AreMoved k st u
    → Both (MovesIn k (moved_functors k)) (infer_funsigs home top binds made st)
    (infer_funsigs home (put_top (moved k) top) binds (moved_functors k made) u)
funsigs_moved k home top [] made st u h = (refl, h)
funsigs_moved k home top (bind ∷ binds) made st u h =
    let sc : Scope = core_scope home top in
    both_where k (MovesIn k (moved_functors k)) (is_some (entry bind.name.text made))
    (is_some (entry bind.name.text (moved_functors k made))) 40 sc (name_at bind.name) _ _
    (each_has (put_functor (moved k)) bind.name.text made)
    (moves_then k (put_signature (moved k)) (MovesIn k (moved_functors k))
    (signature_of top.signatures sc bind.param_sig st)
    (signature_of (moved_signatures k top.signatures) (put_scope (moved k) sc) bind.param_sig u) _ _
    (signature_moved k top.signatures sc bind.param_sig st u h) (λ p v w i.
    let o : SigsMove k (opened home p v) (opened home (put_signature (moved k) p) w) = opened_moved k home p v w i in
    moves_then k (put_functor (moved k)) (MovesIn k (moved_functors k))
    (infer_result home top bind p (opened home p v))
    (infer_result home (put_top (moved k) top) bind (put_signature (moved k) p)
    (opened home (put_signature (moved k) p) w)) _ _
    (subst (λ z. Both (FunsMove k) (infer_result home top bind p (opened home p v))
    (infer_result home (put_top (moved k) top) bind (put_signature (moved k) p)
    (z, (opened home (put_signature (moved k) p) w).1))) (sym o.0)
    (funsig_moved k home top bind p (opened home p v).0 (opened home p v).1
    (opened home (put_signature (moved k) p) w).1 o.1)) (λ r x y j.
    subst (λ z. Both (MovesIn k (moved_functors k))
    (infer_funsigs home top binds (with_entry bind.name.text r made) x)
    (infer_funsigs home (put_top (moved k) top) binds z y))
    (sym (each_with (put_functor (moved k)) bind.name.text r made))
    (funsigs_moved k home top binds (with_entry bind.name.text r made) x y j))))
