-- Trees with types in place of their own variables. The Definition of Standard ML (Revised), section 4.4.
use Rattle.std.specs.Prelude.{List, get_or}
use Rattle.semantic_objects.specs.Trees.{Tree}
use Rattle.unification.specs.Types.{Ty}
use Rattle.unification.specs.Instances.{fill}

-- a tree with types for its own variables by their places, and one for those past the last of them
abbrev pub with_types : Ty → List Ty → Tree → Ty
with_types other types x = fill (λ i. get_or types i other) Ty.Var x
