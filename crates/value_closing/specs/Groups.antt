-- The bindings of a `val` as the definition of inference has them.
use Rattle.std.specs.Prelude.{List, map}
use Rattle.name_trails.specs.Trails.{Rows}
use Rattle.static_semantics.specs.CoreInference.{Group}
use Rattle.pattern_elab.specs.declared.own.OwnVariable.{OwnVariable}
use Rattle.pattern_elab.specs.Scopes.{bound_of}
use Rattle.value_closing.specs.declared.group.BoundVariable.{BoundVariable}
use Rattle.value_closing.specs.declared.group.BoundGroup.{BoundGroup}

abbrev pub own_rows : List BoundVariable → Rows OwnVariable
own_rows variables = map (λ (x : BoundVariable). (x.name, x.own)) variables

abbrev pub group_of : BoundGroup → Group
group_of group = (group.closes, bound_of (own_rows group.variables))

abbrev pub groups_of : List BoundGroup → List Group
groups_of groups = map group_of groups
