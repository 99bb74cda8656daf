-- The patterns of `rec` bindings. Only private functions cite this file.
use Rattle.std.specs.Prelude.{List, Result, Ok, Err}
use Rattle.cm_base.specs.declared.fault.Fault.{Fault}
use Rattle.semantic_objects.specs.declared.name.TyId.{TyId}
use Rattle.core_elab.specs.declared.patterns.RecPatterns.{RecPatterns}

-- the types of the patterns
abbrev pub types_of : Result RecPatterns Fault → Result (List TyId) Fault
types_of (Ok pats) = Ok pats.types
types_of (Err e) = Err e
