-- Signatures that end, and that are finished.
use Rattle.std.proofs.Common.{◌≡◌, ℕ, ◌+◌, refl, sym, ap, ap₂, ◌∙◌, subst, List, [], ◌∷◌, ◌++◌, length, suc, arith, append_assoc, length-append}
use Rattle.semantic_objects.specs.declared.name.Owner.TheVariants as owner
use Rattle.semantic_objects.specs.declared.name.TyName.{TyName}
use Rattle.semantic_objects.specs.declared.entry.TypeFn.{TypeFn}
use Rattle.semantic_objects.specs.declared.entry.TypeStr.{TypeStr}
use Rattle.semantic_objects.specs.declared.entry.ValueEntry.{ValueEntry}
use Rattle.semantic_objects.specs.Tables.{Table as Named, with_all}
use Rattle.semantic_objects.specs.Environments.{Env, Signature, env_of}
use Rattle.realisation.specs.Realised.{of_rows, realised}
use Rattle.type_walks.specs.declared.replacing.Replace.{Replace}
use Rattle.type_walks.specs.Replaced.{put_by, rows_of}
use Rattle.sml_modules.specs.declared.id.SigId.{SigId}
use Rattle.sml_modules.specs.declared.parts.NamedEnv.{NamedEnv}
use Rattle.sml_modules.specs.declared.parts.NamedType.{NamedType}
use Rattle.sml_modules.specs.declared.parts.NamedValue.{NamedValue}
use Rattle.sml_modules.specs.declared.parts.SigParts.{SigParts}
use Rattle.sml_modules.specs.Items.{map_rows}
use Rattle.sml_modules.specs.Graphs.{Graph, env_at, signature_at, signature_of, HasEnvs, Keeps, GivesEnv, GivesSignature, env_of_entries, structure_rows, type_rows, value_rows}
use Rattle.sml_modules.proofs.Keeping.{keeps, extends_self}
use Rattle.core_scopes.specs.Scopes.{AreEnvs}
use Rattle.core_scopes.specs.Listed.{env_rows}
use Rattle.static_semantics.specs.DatatypeInference.{own_type}
use Rattle.module_semantics.specs.SignatureNames.{bound_names, closed, rows_between}
use Rattle.signature_specs.specs.declared.specified.Specified.{Specified}
use Rattle.signature_specs.specs.Specs.{signature_so_far}
use Rattle.where_types.specs.Where.{GrowsByNodes, GivesParts}
use Rattle.signature_parts.proofs.Binding.{rows_of_structures, envs_listed}

-- ---- graphs with more nodes

pub nodes_self : (g : Graph) → GrowsByNodes g g
nodes_self g = record { keeps = keeps g g (extends_self g); home = refl; made = refl }

pub nodes_same : (g h : Graph) → h ≡ g → GrowsByNodes g h
nodes_same g h e = subst (GrowsByNodes g) (sym e) (nodes_self g)

pub keeps_then : (a b c : Graph) → Keeps a b → Keeps b c → Keeps a c
keeps_then a b c h k = record {
  has_env = λ id i. k.has_env id (h.has_env id i);
  env = λ id i. k.env id (h.has_env id i) ∙ h.env id i;
  has_signature = λ id i. k.has_signature id (h.has_signature id i);
  signature = λ id i. k.signature id (h.has_signature id i) ∙ h.signature id i;
  has_functor = λ id i. k.has_functor id (h.has_functor id i);
  functor = λ id i. k.functor id (h.has_functor id i) ∙ h.functor id i;
  has_top = λ id i. k.has_top id (h.has_top id i);
  top = λ id i. k.top id (h.has_top id i) ∙ h.top id i;
}

pub nodes_then : (a b c : Graph) → GrowsByNodes a b → GrowsByNodes b c → GrowsByNodes a c
nodes_then a b c h k = record {
  keeps = keeps_then a b c h.keeps k.keeps;
  home = k.home ∙ h.home;
  made = k.made ∙ h.made;
}

-- ---- the end of `sig .. end`

pub envs_made : (g : Graph) (list : List NamedEnv) (made : Specified) → env_rows list ≡ made.structures
    → AreEnvs g made.structures → HasEnvs g list
envs_made g list made e h = envs_listed g list (subst (AreEnvs g) (sym e) h)

abbrev sig_of : List TyName → Env → Signature
sig_of bound env = record { bound = bound; env = env }

env_is : (ss us : Named Env) (ts xs : Named TypeStr) (vs ys : Named ValueEntry) → ss ≡ us → ts ≡ xs → vs ≡ ys
    → env_of (with_all ss []) (with_all ts []) (with_all vs [])
    ≡ env_of (with_all us []) (with_all xs []) (with_all ys [])
env_is ss us ts xs vs ys h k l = cc

pub parts_ended : (g h : Graph) (made : Specified) (parts : SigParts) (ss : List NamedEnv) (ts : List NamedType)
    (vs : List NamedValue) → env_rows ss ≡ made.structures → type_rows ts ≡ made.types → value_rows vs ≡ made.values
    → GivesEnv g h (env_of_entries g ss ts vs) parts.env → parts.bound ≡ made.bound
    → GivesParts g h (signature_so_far g made) parts
parts_ended g h made parts ss ts vs e f d gives same = record {
  there = gives.there;
  is = ap₂ (λ (bound : List TyName) (env : Env). sig_of bound env) same
      (gives.stands
      ∙ env_is (structure_rows g ss) (map_rows (env_at g) made.structures) (type_rows ts) made.types (value_rows vs)
      made.values (sym (rows_of_structures g ss) ∙ ap (map_rows (env_at g)) e) f d);
  grows = record { keeps = gives.keeps; home = gives.home; made = gives.made };
}

-- ---- bound names

-- names were made for all but the rest of some names
pub record Renumbered (olds rest names : List TyName) (list : List Replace) : Type 0 where
  pub are : names ++ bound_names (length names) rest ≡ bound_names 0 olds
  pub rows : rows_of list ++ rows_between rest (bound_names (length names) rest) ≡ rows_between olds (bound_names 0 olds)

next_name : (n m : ℕ) (name : TyName) (more : List TyName) → m ≡ n + 1
    → bound_names n (name ∷ more)
    ≡ (let new : TyName = record { owner = owner.Bound; number = n; arity = name.arity; eq = name.eq } in new)
    ∷ bound_names m more
next_name n m name more e =
    ap (λ (k : ℕ). (let new : TyName = record { owner = owner.Bound; number = n; arity = name.arity; eq = name.eq } in new)
    ∷ bound_names k more) (let k : suc n ≡ m = omega (arith, e) in k)

count_more : {A : Type 0} (xs : List A) (x : A) (ys : List A) → ys ≡ xs ++ x ∷ [] → length ys ≡ length xs + 1
count_more xs x ys e = ap length e ∙ length-append xs (x ∷ [])

pub renumbered_next : (olds rest more names after : List TyName) (list longer : List Replace) (old new : TyName)
    → rest ≡ old ∷ more → Renumbered olds rest names list
    → new ≡ (let n : TyName = record { owner = owner.Bound; number = length names; arity = old.arity; eq = old.eq } in n)
    → after ≡ names ++ new ∷ [] → rows_of longer ≡ rows_of list ++ (old, (own_type new).function) ∷ []
    → Renumbered olds more after longer
renumbered_next olds rest more names after list longer old new is h made e f =
    let front : bound_names (length names) rest ≡ new ∷ bound_names (length after) more =
    ap (bound_names (length names)) is ∙ next_name (length names) (length after) old more (count_more names new after e)
    ∙ ap (λ (n : TyName). n ∷ bound_names (length after) more) (sym made) in
    record {
      are = ap (λ (xs : List TyName). xs ++ bound_names (length after) more) e
          ∙ append_assoc names (new ∷ []) (bound_names (length after) more)
          ∙ ap (λ (xs : List TyName). names ++ xs) (sym front) ∙ h.are;
      rows = ap (λ (rows : List (TyName × TypeFn)). rows ++ rows_between more (bound_names (length after) more)) f
          ∙ append_assoc (rows_of list) ((old, (own_type new).function) ∷ [])
          (rows_between more (bound_names (length after) more))
          ∙ ap (λ (rows : List (TyName × TypeFn)). rows_of list ++ rows)
          (sym (ap₂ (λ (a b : List TyName). rows_between a b) is front))
          ∙ h.rows;
    }

pub sig_finished : (g h k : Graph) (sig : SigParts) (news olds : List TyName) (list : List Replace) (parts : SigParts)
    (id : SigId) → olds ≡ sig.bound → news ≡ bound_names 0 olds → rows_of list ≡ rows_between olds (bound_names 0 olds)
    → GivesEnv g h (realised (put_by list) (env_at g sig.env)) parts.env → parts.bound ≡ news
    → GivesSignature h k (signature_of h parts) id → signature_at k id ≡ closed (signature_of g sig)
sig_finished g h k sig news olds list parts id all names rows gives same made =
    made.stands
    ∙ ap₂ (λ (bound : List TyName) (env : Env). sig_of bound env)
    (same ∙ names ∙ ap (bound_names 0) all)
    (gives.stands ∙ ap (λ (rs : List (TyName × TypeFn)). realised (of_rows rs) (env_at g sig.env))
    (rows ∙ ap (λ (os : List TyName). rows_between os (bound_names 0 os)) all))

pub nodes_env : (g h : Graph) (env : Env) (parts : SigParts) → GivesEnv g h env parts.env → GrowsByNodes g h
nodes_env g h env parts gives = record { keeps = gives.keeps; home = gives.home; made = gives.made }

pub nodes_signature : (g h : Graph) (sig : Signature) (id : SigId) → GivesSignature g h sig id → GrowsByNodes g h
nodes_signature g h sig id gives = record { keeps = gives.keeps; home = gives.home; made = gives.made }
