-- The law of reading back, as the public function states it. What `pickle` writes of a top is `interface_bytes` of its
-- canonical form.
use Rattle.std.specs.Prelude.{◌≡◌, ℕ, List, Ok, Err}
use Rattle.semantic_objects.specs.Environments.{Top}
use Rattle.realisation.specs.Canonical.{canonical}
use Rattle.interface_format.specs.Interfaces.{interface_bytes, IsInterface}
use Rattle.interface_reading.specs.declared.fault.RestoreFault.TheVariants as fault
use Rattle.sml_modules.specs.declared.id.TopId.{TopId}
use Rattle.sml_modules.specs.Graphs.{Graph, top_at}
use Rattle.interface_restoring.specs.Restored.{Restores}

pub record RestoringGoesBack : Type 0 where
  -- the top that was read is written as the same bytes again
  pub again : (home bytes : List ℕ) (old new : Graph) (id : TopId) → Restores home bytes old new (Ok id)
      → interface_bytes home (canonical home (top_at new id)) ≡ bytes
  -- what was written in canonical form is read as that form
  pub back : (home bytes : List ℕ) (top : Top) (old new : Graph) (id : TopId) → IsInterface home bytes (canonical home top)
      → Restores home bytes old new (Ok id) → top_at new id ≡ canonical home top
  -- and isn't refused
  pub taken : (home bytes : List ℕ) (top : Top) (old new : Graph) → IsInterface home bytes (canonical home top)
      → Restores home bytes old new (Err fault.BadInterface) → ⊥
