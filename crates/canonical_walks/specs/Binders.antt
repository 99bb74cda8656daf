-- Signatures and functors of a graph in their canonical form, one after the other.
use Rattle.std.specs.Prelude.{◌≡◌, ℕ, List, [], ◌++◌, true, false, Some}
use Rattle.semantic_objects.specs.declared.name.TyName.{TyName}
use Rattle.semantic_objects.specs.Tables.{Table}
use Rattle.semantic_objects.specs.Environments.{Env, Signature, Functor, Top}
use Rattle.sml_modules.specs.Items.{Item, at, as_signature, as_functor, IsSignature, IsFunctor, map_rows}
use Rattle.sml_modules.specs.Graphs.{Graph}
use Rattle.env_parts.specs.declared.tables.TopTables.{TopTables}
use Rattle.sml_modules.specs.declared.id.EnvId.{EnvId}
use Rattle.sml_modules.specs.Nodes.{AreAll, AreTopTables, top_of_tables}
use Rattle.name_walks.specs.Places.{HasAll, names_in_all}
use Rattle.realisation.specs.Names.{is_listed, names_in_functor, names_in_env}
use Rattle.realisation.specs.Environments.{each_row}
use Rattle.realisation.specs.Canonical.{met, is_bound_name, is_of_param, is_further, to_canonical, canonical_env, canonical_signature, canonical_functor}
use Rattle.environment_walks.specs.declared.places.Images.{Images}
use Rattle.environment_walks.specs.Changing.{image_in, AreChanged}
use Rattle.canonical_types.specs.declared.numbering.FunctorNames.{FunctorNames}
use Rattle.canonical_types.specs.Orders.{by_order}

-- where the unit's own names have their numbers, no name becomes another one
abbrev pub unchanged : TyName → TyName
unchanged name = name

-- binders of which the rest doesn't count
abbrev pub signature_with : Env → Signature
signature_with env = record { bound = []; env = env }

abbrev pub functor_with : List TyName → Env → Env → Functor
functor_with bound param result = record { bound = bound; param = param; further = []; result = result }

-- no name of a list is one of a binder
abbrev pub NoneBound : List TyName → Type 0
NoneBound order = (name : TyName) → is_bound_name name ≡ true → is_listed name order ≡ false

-- the names of a functor, in the order of the walk
pub record NamesFunctor (fun : Functor) (names : FunctorNames) : Type 0 where
  pub of_param : names.of_param ≡ met (is_of_param fun) (names_in_functor fun)
  pub further : names.further ≡ met (is_further fun) (names_in_functor fun)

-- an item is the canonical form of another one
abbrev pub IsCanon : List TyName → Item → Item → Type 0
IsCanon own Item.Nowhere y = ⊥
IsCanon own (Item.TypeItem x) y = ⊥
IsCanon own (Item.ValueItem x) y = ⊥
IsCanon own (Item.EnvItem x) y = ⊥
IsCanon own (Item.SignatureItem sig) y = y ≡ Item.SignatureItem (canonical_signature (by_order own) sig)
IsCanon own (Item.FunctorItem fun) y = y ≡ Item.FunctorItem (canonical_functor (by_order own) fun)
IsCanon own (Item.TopItem x) y = ⊥

-- the canonical form of what stands at a place stands at another one
pub record CanonAt (own : List TyName) (old new : Graph) (images : Images) (place image : ℕ) : Type 0 where
  pub changed : AreChanged (to_canonical (by_order own)) new.items images
  pub is : IsCanon own (at old.items place) (at new.items image)

-- at each image stands the canonical form of what stands at its place
pub record AreCanon (own : List TyName) (items : List Item) (made : Images) : Type 0 where
  pub each : (p q : ℕ) → image_in made p ≡ Some q → IsCanon own (at items p) (at items q)

-- rows of signatures, and rows of functors, in their canonical form
pub record CanonRows (own : List TyName) (old : List Item) (rows : Table ℕ) (new : List Item) (made : Table ℕ)
    : Type 0 where
  pub signatures : AreAll IsSignature old rows → AreAll IsSignature new made
      × (map_rows (λ p. as_signature (at new p)) made
      ≡ each_row (canonical_signature (by_order own)) (map_rows (λ p. as_signature (at old p)) rows))
  pub functors : AreAll IsFunctor old rows → AreAll IsFunctor new made
      × (map_rows (λ p. as_functor (at new p)) made
      ≡ each_row (canonical_functor (by_order own)) (map_rows (λ p. as_functor (at old p)) rows))

-- a top in which the unit's own names become others, and binders have their names numbered
abbrev pub canonical_by : (TyName → TyName) → Top → Top
canonical_by own top = record {
  env = canonical_env own top.env;
  signatures = each_row (canonical_signature own) top.signatures;
  functors = each_row (canonical_functor own) top.functors;
  funsigs = each_row (canonical_functor own) top.funsigs;
}

-- the names that stand in a signature or a functor
abbrev pub binder_names : Item → List TyName
binder_names (Item.SignatureItem sig) = names_in_env sig.env
binder_names (Item.FunctorItem fun) = names_in_functor fun
binder_names _ = []

-- environments of a graph were added, in which these names stand
pub record AddsEnvs (g : Graph) (names : List TyName) (old new : List EnvId) : Type 0 where
  pub there : HasAll g old → HasAll g new
  pub are : names_in_all g new ≡ names_in_all g old ++ names

-- tables of a top
pub record MakesTop (items : List Item) (top : Top) (tables : TopTables) : Type 0 where
  pub are : AreTopTables items tables
  pub is : top_of_tables items tables ≡ top
