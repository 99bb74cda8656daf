-- What stands under the names of imports, as places of a graph.
use Rattle.std.specs.Prelude.{◌≡◌, ℕ, List, Option, Some, None}
use Rattle.cm_base.specs.declared.record.Namespace.{Namespace}
use Rattle.cm_base.specs.declared.record.Namespace.TheVariants as space
use Rattle.cm_base.specs.declared.record.ModName.{ModName}
use Rattle.semantic_objects.specs.Tables.{entry, with_entry}
use Rattle.semantic_objects.specs.Environments.{Top, structures}
use Rattle.sml_modules.specs.Items.{Item, at, as_env, as_signature, as_functor, IsEnv, IsSignature, IsFunctor}
use Rattle.interface_restoring.specs.declared.tops.UnitTables.{UnitTables}

-- a table has this under a name: nothing, or what stands at a place
abbrev pub FindsAt : {A : Type 0} → (Item → Type 0) → (Item → A) → List Item → Option A → Option ℕ → Type 0
FindsAt Is read items want None = want ≡ None
FindsAt Is read items want (Some p) = Is (at items p) × (want ≡ Some (read (at items p)))

-- so of a top and a name of a name space
abbrev pub FindsUnder : List Item → Namespace → List ℕ → Top → Option ℕ → Type 0
FindsUnder items space.Structure name top found = FindsAt IsEnv as_env items (entry name (structures top.env)) found
FindsUnder items space.Signature name top found =
    FindsAt IsSignature as_signature items (entry name top.signatures) found
FindsUnder items space.Functor name top found = FindsAt IsFunctor as_functor items (entry name top.functors) found
FindsUnder items space.Funsig name top found = FindsAt IsFunctor as_functor items (entry name top.funsigs) found

abbrev pub FindsWanted : List Item → ModName → Top → Option ℕ → Type 0
FindsWanted items wanted top found = FindsUnder items wanted.space wanted.name top found

-- tables with a place under a name of a name space
abbrev pub with_place_under : Namespace → List ℕ → ℕ → UnitTables → UnitTables
with_place_under space.Structure name p tables = record tables { structures = with_entry name p tables.structures }
with_place_under space.Signature name p tables = record tables { signatures = with_entry name p tables.signatures }
with_place_under space.Functor name p tables = record tables { functors = with_entry name p tables.functors }
with_place_under space.Funsig name p tables = record tables { funsigs = with_entry name p tables.funsigs }

abbrev pub with_place : ModName → ℕ → UnitTables → UnitTables
with_place wanted p tables = with_place_under wanted.space wanted.name p tables
