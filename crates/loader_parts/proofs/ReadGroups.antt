-- A description that was read is one whose group can be loaded.
use Rattle.std.proofs.Common.{ℕ, List, length, Result, Ok, Err, refl}
use Rattle.std.specs.Prelude.{All, IfOk}
use Rattle.cm_base.specs.declared.fault.Fault.{Fault}
use Rattle.cm_conditions.specs.declared.line.Line.{Line}
use Rattle.cm_description.specs.WellFormed.{IsItemBelow}
use Rattle.cm_description.specs.declared.description.Description.{Description}
use Rattle.project_loading.specs.Projects.{begun}
use Rattle.project_checks.specs.Whole.{IsRead}

pub read_begun : (name : List ℕ) (r : Result Description Fault)
    → IfOk r (λ (d : Description). All (λ (line : Line). IsItemBelow (length d.entries) line.body) d.export_lines)
    → IfOk r (λ (d : Description). IsRead (begun name d))
read_begun name (Ok d) items = record { plain = refl; items = items }
read_begun name (Err fault) items = tt
