-- The laws of interfaces.
use Rattle.std.specs.Prelude.{◌≡◌, ℕ, List, [], ◌++◌}
use Rattle.semantic_objects.specs.Environments.{Top}
use Rattle.interface_format.specs.Interfaces.{CanBeWritten, IsInterface, interface_bytes}

-- a top that can be written has one spelling; the bytes say which top it is; and no interface is a proper front of
-- another one
pub record InterfacesAreOne : Type 0 where
  pub spelled : (home : List ℕ) (top : Top) → CanBeWritten home top → IsInterface home (interface_bytes home top) top
  pub one : (home a b : List ℕ) (top : Top) → IsInterface home a top → IsInterface home b top → a ≡ b
  pub top : (home bytes : List ℕ) (s t : Top) → IsInterface home bytes s → IsInterface home bytes t → s ≡ t
  pub front : (home a b more : List ℕ) (s t : Top) → IsInterface home a s → IsInterface home b t → a ++ more ≡ b
      → (s ≡ t) × (more ≡ [])
