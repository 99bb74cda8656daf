-- What a call answers that takes a field and memory, and the names of other units.
use Rattle.std.specs.Prelude.{◌≡◌, ℕ, List, false, Option, Some, None, Result, Ok, Err}
use Rattle.cm_base.specs.declared.fault.NoMemory.{NoMemory}
use Rattle.node_bytes.specs.Nodes.{Node, Content}
use Rattle.node_bytes.specs.declared.table.Item.{Item}
use Rattle.semantic_objects.specs.declared.name.Owner.{Owner}
use Rattle.semantic_objects.specs.declared.name.Owner.TheVariants as the_owner
use Rattle.semantic_objects.specs.Symbols.{same_text}
use Rattle.row_fields.specs.Taking.{Takes, IsText}

-- the field at the front or none; want of memory is free
abbrev pub TakesOwned : {X A : Type 0} → (List Node → X → A) → (A → Type 0) → (A → Content → Content)
    → Result (Option X) NoMemory → List Item → List Item → Type 0
TakesOwned value Fits with_item (Ok found) items rest = Takes value Fits with_item found items rest
TakesOwned value Fits with_item (Err e) items rest = Unit {0}

-- the name of another unit
pub record IsForeign (home unit : List ℕ) : Type 0 where
  pub text : IsText unit
  pub other : same_text home unit ≡ false

-- the unit as an owner, or its name is too long
abbrev pub IsOwn : List ℕ → Option Owner → Type 0
IsOwn home (Some owner) = (owner ≡ the_owner.«Unit» home) × IsText home
IsOwn home None = ¬ IsText home
