-- Interfaces that stand in a graph, each found by its provider.
use Rattle.std.specs.Prelude.{◌≡◌, ℕ, ◌<◌, List, Bool, true, false, Option, Some, None, nat_eq}
use Rattle.indexmap.specs.IndexMap.{IndexMap, get}
use Rattle.sml_modules.specs.Items.{Item, at, as_top, IsTop}
use Rattle.realisation.specs.Names.{names_in_top, once}
use Rattle.interface_tops.specs.Tops.{interface_top}
use Rattle.import_reading.specs.declared.restored.RestoredInterface.{RestoredInterface}
use Rattle.import_reading.specs.declared.restored.RestoredInterfaces.{RestoredInterfaces}
use lib.Pointwise.{pointwise}

-- what a table has of a provider
abbrev pub restored_of : {S : Type 0} → IndexMap (List ℕ) RestoredInterface S → List ℕ → Option RestoredInterface
restored_of table provider = get (pointwise nat_eq) table provider

-- the bytes are an interface of the provider, whose top stands among the items with these type names in it
pub record IsRestored (items : List Item) (provider : List ℕ) (is : RestoredInterface) : Type 0 where
  pub there : IsTop (at items is.top.place)
  pub top : interface_top provider is.interface ≡ Some (as_top (at items is.top.place))
  pub names : is.names ≡ once (names_in_top (as_top (at items is.top.place)))

-- so it is with each one, and each stands among the nodes that are told
pub record AreRestored (items : List Item) (restored : RestoredInterfaces) : Type 0 where
  pub each : (provider : List ℕ) (is : RestoredInterface) → restored_of restored.by_provider provider ≡ Some is
      → IsRestored items provider is
  pub low : (provider : List ℕ) (is : RestoredInterface) → restored_of restored.by_provider provider ≡ Some is
      → is.top.place < restored.nodes

-- ---- what the calls answer

-- the table has just these bytes of the provider; nothing is said where it doesn't
pub record HasBytes {S : Type 0} (table : IndexMap (List ℕ) RestoredInterface S) (provider bytes : List ℕ) : Type 0 where
  pub found : RestoredInterface
  pub is : restored_of table provider ≡ Some found
  pub same : found.interface ≡ bytes

abbrev pub HasRestored : {S : Type 0} → IndexMap (List ℕ) RestoredInterface S → List ℕ → List ℕ → Bool → Type 0
HasRestored table provider bytes true = HasBytes table provider bytes
HasRestored table provider bytes false = Unit {0}

-- .. and where it doesn't, the bytes are no interface of the provider
abbrev pub HasIfOne : {S : Type 0} → IndexMap (List ℕ) RestoredInterface S → List ℕ → List ℕ → Bool → Type 0
HasIfOne table provider bytes true = HasBytes table provider bytes
HasIfOne table provider bytes false = interface_top provider bytes ≡ None

-- an interface that was read, of these bytes; or they are none
abbrev pub ReadsInterface : List Item → List ℕ → List ℕ → Option RestoredInterface → Type 0
ReadsInterface items provider bytes None = interface_top provider bytes ≡ None
ReadsInterface items provider bytes (Some is) = (is.interface ≡ bytes) × IsRestored items provider is
