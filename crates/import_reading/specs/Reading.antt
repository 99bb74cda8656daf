-- What is answered where the imports of a unit are read.
use Rattle.std.specs.Prelude.{◌≡◌, ℕ, List, ◌++◌, Bool, true, false, Option, Some, None, Result, Ok, Err}
use Rattle.std.specs.List.{list_all}
use Rattle.cm_base.specs.declared.record.ModName.{ModName}
use Rattle.cm_base.specs.declared.record.Given.{Given}
use Rattle.cm_base.specs.declared.fault.Fault.{Fault}
use Rattle.cm_base.specs.declared.fault.Fault.TheVariants as fault
use Rattle.semantic_objects.specs.declared.name.TyName.{TyName}
use Rattle.semantic_objects.specs.Environments.{Top}
use Rattle.sml_modules.specs.declared.id.TopId.{TopId}
use Rattle.sml_modules.specs.Items.{Item}
use Rattle.sml_modules.specs.Graphs.{Graph, top_at, HasTop}
use Rattle.realisation.specs.Names.{names_in_top, once}
use Rattle.interface_format.specs.Rules.{Agree}
use Rattle.interface_tops.specs.Tops.{interface_top}
use Rattle.imported_interfaces.specs.Usable.{written, is_usable}
use Rattle.imported_interfaces.specs.Imported.{Imports, imported_one, damaged, imported}
use Rattle.imported_interfaces.specs.Known.{AreKept, fits, noted_all, Knows}
use Rattle.interface_restoring.specs.Tops.{AreUnitTables, unit_of}
use Rattle.import_reading.specs.declared.read.ReadImports.{ReadImports}
use Rattle.import_reading.specs.Placed.{FindsWanted}

-- ---- the steps

-- the bytes are the interface of a top of the graph, or of none
abbrev pub RestoresTop : List ℕ → List ℕ → Graph → Option TopId → Type 0
RestoresTop home bytes new None = interface_top home bytes ≡ None
RestoresTop home bytes new (Some id) = HasTop new id × (interface_top home bytes ≡ Some (top_at new id))

-- names fit to those that are known, and are known then; or they don't fit
abbrev pub NotesNames : List ℕ → List TyName → List TyName → List TyName → Bool → Type 0
NotesNames unit names old new true = (list_all (fits old unit) names ≡ true) × (new ≡ noted_all old names)
NotesNames unit names old new false = list_all (fits old unit) names ≡ false

-- so it is with the names of a top
abbrev pub Notes : List ℕ → Top → List TyName → List TyName → Bool → Type 0
Notes unit top old new fit = NotesNames unit (once (names_in_top top)) old new fit

-- an interface can be used after those whose names are known, and has the wanted name at a place
pub record IsUsable (items : List Item) (unit : List ℕ) (wanted : ModName) (top : Top) (old new : List TyName) (p : ℕ)
    : Type 0 where
  pub found : FindsWanted items wanted top (Some p)
  pub usable : (earlier : List TyName) → Knows old earlier → is_usable unit earlier wanted top ≡ true
  pub known : (earlier : List TyName) → Knows old earlier → Agree (written top) → Knows new (earlier ++ written top)

abbrev pub FindsUsable : List Item → List ℕ → ModName → Top → List TyName → List TyName → Option ℕ → Type 0
FindsUsable items unit wanted top old new (Some p) = IsUsable items unit wanted top old new p
FindsUsable items unit wanted top old new None =
    (earlier : List TyName) → Knows old earlier → is_usable unit earlier wanted top ≡ false

-- what was read so far is this
pub record AreRead (items : List Item) (made : Imports) (read : ReadImports) : Type 0 where
  pub there : AreUnitTables items read.tables
  pub top : made.top ≡ unit_of items read.tables
  pub kept : AreKept read.known
  pub known : Knows read.known.names made.names

-- .. and with one import more
pub record IsReadToo (unit : List ℕ) (given : Given) (made : Imports) (items : List Item) (read : ReadImports) : Type 0
  where
    pub next : Imports
    pub is : imported_one unit given made ≡ Ok next
    pub are : AreRead items next read

abbrev pub ReadsOne : List ℕ → Given → Imports → List Item → ReadImports → Bool → Type 0
ReadsOne unit given made items read true = IsReadToo unit given made items read
ReadsOne unit given made items read false = imported_one unit given made ≡ Err (damaged unit given)

-- all imports of a list
pub record AreAllRead (unit : List ℕ) (imports : List Given) (items : List Item) (read : ReadImports) : Type 0 where
  pub made : Imports
  pub is : imported unit imports ≡ Ok made
  pub are : AreRead items made read

abbrev pub ReadsAll : List ℕ → List Given → List Item → Result ReadImports Fault → Type 0
ReadsAll unit imports items (Ok read) = AreAllRead unit imports items read
ReadsAll unit imports items (Err (fault.Diag diag)) = imported unit imports ≡ Err diag
ReadsAll unit imports items (Err fault.NoMemory) = Unit {0}

-- ---- the call: what the unit sees of its imports stands in the graph as a top; or it is 50 for the first import that
-- can't be used. Nothing is said for want of memory
pub record IsTopRead (unit : List ℕ) (imports : List Given) (new : Graph) (id : TopId) : Type 0 where
  pub made : Imports
  pub is : imported unit imports ≡ Ok made
  pub there : HasTop new id
  pub top : top_at new id ≡ made.top

abbrev pub ReadsTop : List ℕ → List Given → Graph → Result TopId Fault → Type 0
ReadsTop unit imports new (Ok id) = IsTopRead unit imports new id
ReadsTop unit imports new (Err (fault.Diag diag)) = imported unit imports ≡ Err diag
ReadsTop unit imports new (Err fault.NoMemory) = Unit {0}
