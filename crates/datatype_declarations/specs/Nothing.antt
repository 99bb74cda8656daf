-- Values of the unit where there are none. Only private functions cite this file.
use Rattle.semantic_objects.specs.declared.entry.ValueEntry.{ValueEntry}
use Rattle.static_semantics.specs.BasicTypes.{unit_ty}
use Rattle.static_semantics.specs.Inferring.{variable_entry}
use Rattle.datatype_declarations.specs.declared.declared.Nobody.{Nobody}

-- no value is one, so this is of no account
abbrev pub nobody_entry : Nobody → ValueEntry
nobody_entry own = variable_entry unit_ty
