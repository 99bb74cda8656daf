-- The law of tops and interfaces, as the public function states it.
use Rattle.std.specs.Prelude.{◌≡◌, ℕ, List, Some}
use Rattle.semantic_objects.specs.Environments.{Top}
use Rattle.interface_format.specs.Interfaces.{IsInterface}
use Rattle.interface_tops.specs.Tops.{interface_top}

-- the function gives a top exactly where the bytes are an interface of it
pub record InterfacesHaveTops : Type 0 where
  pub is : (home bytes : List ℕ) (top : Top) → interface_top home bytes ≡ Some top → IsInterface home bytes top
  pub found : (home bytes : List ℕ) (top : Top) → IsInterface home bytes top → interface_top home bytes ≡ Some top
