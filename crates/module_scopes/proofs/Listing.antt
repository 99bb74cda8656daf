-- Structures, signatures and functors by name as entries and as places of a graph.
use Rattle.std.proofs.Common.{◌≡◌, ℕ, refl, sym, ap, ◌∙◌, subst, List, [], ◌∷◌}
use Rattle.std.specs.Prelude.{Result, Ok, Err, OnErr}
use Rattle.semantic_objects.specs.Tables.{Table as Named, with_all}
use Rattle.semantic_objects.specs.Environments.{Env, Signature, Functor, Top, env_of}
use Rattle.env_parts.specs.declared.tables.TopTables.{TopTables}
use Rattle.sml_modules.specs.declared.id.EnvId.{EnvId}
use Rattle.sml_modules.specs.declared.id.SigId.{SigId}
use Rattle.sml_modules.specs.declared.id.FunId.{FunId}
use Rattle.sml_modules.specs.declared.id.TopId.{TopId}
use Rattle.sml_modules.specs.declared.parts.NamedEnv.{NamedEnv}
use Rattle.sml_modules.specs.declared.parts.NamedType.{NamedType}
use Rattle.sml_modules.specs.declared.parts.NamedValue.{NamedValue}
use Rattle.sml_modules.specs.Items.{Item, at, as_signature, as_functor, IsSignature, IsFunctor, map_rows}
use Rattle.sml_modules.specs.Nodes.{AreAll, AreTopTables, top_of_tables}
use Rattle.sml_modules.specs.Adding.{Adds}
use Rattle.sml_modules.specs.Graphs.{Graph, env_at, HasEnv, HasEnvs, Keeps, GivesEnv, GivesTop, structure_rows, type_rows, value_rows, env_of_entries}
use Rattle.sml_modules.proofs.Keeping.{keeps, extends_self, gives_top}
use Rattle.sml_modules.proofs.Setting.{all_map, all_with_all}
use Rattle.name_trails.specs.Trails.{Rows}
use Rattle.core_scopes.specs.declared.made.NamedInScope.{NamedInScope}
use Rattle.core_scopes.specs.Scopes.{AreEnvs}
use Rattle.core_scopes.specs.Listed.{env_rows}
use Rattle.core_scopes.specs.Marks.{value_rows as rows_read}
use Rattle.pattern_elab.specs.declared.own.OwnVariable.{OwnVariable}
use Rattle.pattern_elab.specs.Scopes.{own_entry}
use Rattle.module_scopes.specs.declared.defined.Defined.{Defined}
use Rattle.module_scopes.specs.Tops.{AllRows, structures_env, defined_top, IsDefinedIn}
use Rattle.module_scopes.specs.Places.{sig_places, fun_places}
use Rattle.module_scopes.proofs.Tops.{tops_stay}

-- ---- structures as entries

rows_of_entries : (g : Graph) (list : List NamedEnv) → structure_rows g list ≡ map_rows (env_at g) (env_rows list)
rows_of_entries g [] = refl
rows_of_entries g (e ∷ list) = ap (λ (z : Named Env). (e.name, env_at g e.env) ∷ z) (rows_of_entries g list)

envs_of_entries : (g : Graph) (list : List NamedEnv) → AreEnvs g (env_rows list) → HasEnvs g list
envs_of_entries g [] h = tt
envs_of_entries g (e ∷ list) h = (h.0, envs_of_entries g list h.1)

pub envs_listed : (g : Graph) (list : List NamedEnv) (rows : Rows EnvId) → env_rows list ≡ rows → AreEnvs g rows
    → HasEnvs g list
envs_listed g list rows e h = envs_of_entries g list (subst (AreEnvs g) (sym e) h)

rows_listed : (g : Graph) (list : List NamedEnv) (rows : Rows EnvId) → env_rows list ≡ rows
    → with_all (structure_rows g list) [] ≡ with_all (map_rows (env_at g) rows) []
rows_listed g list rows e =
    ap (λ (z : Named Env). with_all z []) (rows_of_entries g list ∙ ap (map_rows (env_at g)) e)

pub made_listed : (g : Graph) (list : List NamedEnv) (ts : List NamedType) (vs : List (NamedInScope OwnVariable))
    (rows : Rows EnvId) → env_rows list ≡ rows → ts ≡ [] → vs ≡ []
    → env_of (with_all (structure_rows g list) []) (with_all (type_rows ts) []) (with_all (rows_read own_entry vs) [])
    ≡ structures_env g rows
made_listed g list ts vs rows e t v =
    ap (λ (z : Named Env). env_of z (with_all (type_rows ts) []) (with_all (rows_read own_entry vs) []))
    (rows_listed g list rows e)
    ∙ ap (λ (z : List NamedType). env_of (with_all (map_rows (env_at g) rows) []) (with_all (type_rows z) [])
    (with_all (rows_read own_entry vs) [])) t
    ∙ ap (λ (z : List (NamedInScope OwnVariable)). env_of (with_all (map_rows (env_at g) rows) []) []
    (with_all (rows_read own_entry z) [])) v

pub entries_listed : (g : Graph) (list : List NamedEnv) (ts : List NamedType) (vs : List NamedValue) (rows : Rows EnvId)
    → env_rows list ≡ rows → ts ≡ [] → vs ≡ [] → env_of_entries g list ts vs ≡ structures_env g rows
entries_listed g list ts vs rows e t v =
    ap (λ (z : Named Env). env_of z (with_all (type_rows ts) []) (with_all (value_rows vs) []))
    (rows_listed g list rows e)
    ∙ ap (λ (z : List NamedType). env_of (with_all (map_rows (env_at g) rows) []) (with_all (type_rows z) [])
    (with_all (value_rows vs) [])) t
    ∙ ap (λ (z : List NamedValue). env_of (with_all (map_rows (env_at g) rows) []) [] (with_all (value_rows z) [])) v

-- ---- rows of places

rows_twice : {A B : Type 0} (place : A → ℕ) (read : ℕ → B) (rows : Rows A)
    → map_rows read (map_rows place rows) ≡ map_rows (λ x. read (place x)) rows
rows_twice place read [] = refl
rows_twice {A} {B} place read (row ∷ rows) =
    ap (λ (z : Rows B). (row.0, read (place row.1)) ∷ z) (rows_twice place read rows)

pub placed : {A B : Type 0} (place : A → ℕ) (read : ℕ → B) (rows : Rows A) (set : Rows ℕ)
    → set ≡ with_all (map_rows place rows) []
    → map_rows read set ≡ with_all (map_rows (λ x. read (place x)) rows) []
placed {A} {B} place read rows set e =
    ap (map_rows read) e ∙ sym (all_map read (map_rows place rows) [])
    ∙ ap (λ (z : Rows B). with_all z []) (rows_twice place read rows)

places_are : {A : Type 0} (place : A → ℕ) (Is : Item → Type 0) (items : List Item) (rows : Rows A)
    → AllRows (λ x. Is (at items (place x))) rows → AreAll Is items (map_rows place rows)
places_are place Is items [] h = tt
places_are place Is items (row ∷ rows) h = (h.0, places_are place Is items rows h.1)

pub all_placed : {A : Type 0} (place : A → ℕ) (Is : Item → Type 0) (items : List Item) (rows : Rows A) (set : Rows ℕ)
    → set ≡ with_all (map_rows place rows) [] → AllRows (λ x. Is (at items (place x))) rows → AreAll Is items set
all_placed place Is items rows set e h =
    subst (AreAll Is items) (sym e) (all_with_all Is items (map_rows place rows) [] (places_are place Is items rows h) tt)

-- ---- the top of what was defined

keeps_both : (g h k : Graph) → Keeps g h → Keeps h k → Keeps g k
keeps_both g h k a b = record {
  has_env = λ id t. b.has_env id (a.has_env id t);
  env = λ id t. b.env id (a.has_env id t) ∙ a.env id t;
  has_signature = λ id t. b.has_signature id (a.has_signature id t);
  signature = λ id t. b.signature id (a.has_signature id t) ∙ a.signature id t;
  has_functor = λ id t. b.has_functor id (a.has_functor id t);
  functor = λ id t. b.functor id (a.has_functor id t) ∙ a.functor id t;
  has_top = λ id t. b.has_top id (a.has_top id t);
  top = λ id t. b.top id (a.has_top id t) ∙ a.top id t;
}

top_same : (d e : Env) (s t : Named Signature) (f h : Named Functor) (k l : Named Functor) → d ≡ e → s ≡ t → f ≡ h
    → k ≡ l
    → (let a : Top = record { env = d; signatures = s; functors = f; funsigs = k } in a)
    ≡ (let b : Top = record { env = e; signatures = t; functors = h; funsigs = l } in b)
top_same d e s t f h k l p q r z = cc

module _ (old mid : Graph) (defined : Defined) (tables : TopTables) (id : EnvId)
    (h : GivesEnv old mid (structures_env old defined.structures) id) (there : IsDefinedIn old defined)
    (e : tables.env ≡ id.place) (s : tables.signatures ≡ with_all (sig_places defined.signatures) [])
    (f : tables.functors ≡ with_all (fun_places defined.functors) [])
    (k : tables.funsigs ≡ with_all (fun_places defined.funsigs) []) where
  pub defined_tables : AreTopTables mid.items tables
  defined_tables =
      let d : IsDefinedIn mid defined = tops_stay.of old mid defined h.keeps there in
      record {
        env = subst (λ p. HasEnv mid (let i : EnvId = record { place = p } in i)) (sym e) h.there;
        signatures = all_placed (λ (i : SigId). i.place) IsSignature mid.items defined.signatures tables.signatures s
            d.signatures;
        functors = all_placed (λ (i : FunId). i.place) IsFunctor mid.items defined.functors tables.functors f d.functors;
        funsigs = all_placed (λ (i : FunId). i.place) IsFunctor mid.items defined.funsigs tables.funsigs k d.funsigs;
      }

  tables_top : top_of_tables mid.items tables ≡ defined_top old defined
  tables_top =
      top_same _ _ _ _ _ _ _ _
      (ap (λ p. env_at mid (let i : EnvId = record { place = p } in i)) e ∙ h.stands)
      (placed (λ (i : SigId). i.place) (λ p. as_signature (at mid.items p)) defined.signatures tables.signatures s)
      (placed (λ (i : FunId). i.place) (λ p. as_functor (at mid.items p)) defined.functors tables.functors f)
      (placed (λ (i : FunId). i.place) (λ p. as_functor (at mid.items p)) defined.funsigs tables.funsigs k)
      ∙ top_same (structures_env old defined.structures) (structures_env old defined.structures) _ _ _ _ _ _ refl
      (ap (λ (t : Top). t.signatures) stays) (ap (λ (t : Top). t.functors) stays) (ap (λ (t : Top). t.funsigs) stays)
    where
      stays : defined_top mid defined ≡ defined_top old defined
      stays = tops_stay.defined old mid defined h.keeps there

  pub defined_given : (new : Graph) (top : TopId) → Adds mid new (Item.TopItem (top_of_tables mid.items tables)) top.place
      → GivesTop old new (defined_top old defined) top
  defined_given new top a =
      let made : GivesTop mid new (top_of_tables mid.items tables) top =
      gives_top mid mid new (top_of_tables mid.items tables) top (extends_self mid) a in
      record {
        there = made.there;
        stands = made.stands ∙ tables_top;
        keeps = keeps_both old mid new h.keeps made.keeps;
        home = made.home ∙ h.home;
        made = made.made ∙ h.made;
      }

-- ---- after want of memory

pub itself_kept : (g : Graph) → Keeps g g
itself_kept g = keeps g g (extends_self g)

pub still_kept : (old mid new : Graph) → Keeps old mid → new ≡ mid → Keeps old new
still_kept old mid new h e = subst (Keeps old) (sym e) h

pub on_err : {A E : Type 0} (P : Type 0) (r : Result A E) → P → OnErr r P
on_err P (Ok x) h = tt
on_err P (Err e) h = h
