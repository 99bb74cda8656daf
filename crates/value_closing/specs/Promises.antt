-- The law of tables and scopes, as the public function of this crate states it.
use Rattle.type_nodes.specs.Tables.{Table}
use Rattle.type_nodes.specs.Keeping.{IsKept}
use Rattle.sml_modules.specs.Graphs.{Graph}
use Rattle.static_semantics.specs.Inferring.{Scope}
use Rattle.type_phrases.specs.Inferred.{KeepsTypes, progress}
use Rattle.closing_laws.specs.Promises.{IsOfState}

-- what is in scope stays of what a table knows while the table grows, whatever a graph makes
abbrev pub StaysOfTable : Type 0
StaysOfTable = (g h : Graph) (old new : Table) (sc : Scope) → IsKept old → IsKept new → KeepsTypes old new
    → IsOfState sc (progress old g) → IsOfState sc (progress new h)
