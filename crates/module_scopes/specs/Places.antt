-- Signatures and functors by name as places of a graph. Only private functions cite this file.
use Rattle.std.specs.Prelude.{ℕ}
use Rattle.sml_modules.specs.declared.id.SigId.{SigId}
use Rattle.sml_modules.specs.declared.id.FunId.{FunId}
use Rattle.sml_modules.specs.Items.{map_rows}
use Rattle.name_trails.specs.Trails.{Rows}

abbrev pub sig_places : Rows SigId → Rows ℕ
sig_places rows = map_rows (λ (id : SigId). id.place) rows

abbrev pub fun_places : Rows FunId → Rows ℕ
fun_places rows = map_rows (λ (id : FunId). id.place) rows
