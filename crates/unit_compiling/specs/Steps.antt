-- What the steps of compiling answer.
use Rattle.std.specs.Prelude.{◌≡◌, Result, Ok, Err}
use Rattle.cm_base.specs.declared.diag.Diag.{Diag}
use Rattle.cm_base.specs.declared.fault.Fault.{Fault}
use Rattle.cm_base.specs.declared.fault.Fault.TheVariants as fault
use Rattle.sml_modules.specs.declared.id.TopId.{TopId}
use Rattle.sml_modules.specs.Graphs.{Graph, top_at, HasTop}
use Rattle.semantic_objects.specs.Environments.{Top}

-- what is defined stands in the graph; or this is the diagnostic, and nothing is said for want of memory
abbrev pub Defines : Graph → Result Top Diag → Result TopId Fault → Type 0
Defines g defined (Ok id) = HasTop g id × (defined ≡ Ok (top_at g id))
Defines g defined (Err (fault.Diag diag)) = defined ≡ Err diag
Defines g defined (Err fault.NoMemory) = Unit {0}
