use Rattle.std.proofs.Common.{map, drop}
use Rattle.sml_modules.specs.Graphs.{env_at, HasEnv}
use Rattle.structure_elab.specs.Moments.{moment}
use Rattle.top_bindings.specs.Bindings.{read_bind, structure_name, infer_structure}
use Rattle.top_bindings.proofs.Rows.{RowsSoFar}
use Rattle.top_bindings.proofs.Sorts.{structures_kind}
use Rattle.top_bindings.proofs.structures.elab_structures.Given as goal

-- what was bound so far, and the bindings that are left
abbrev pub invariant-loop-bind : goal.invariant-loop-bind
invariant-loop-bind l =
    RowsSoFar structure_name infer_structure env_at HasEnv structures_kind (moment l.fn.g l.fn.t l.fn.top)
    (moment l.g l.t l.top) (map (read_bind l.sealing) l.binds) (map (read_bind l.sealing) (drop l.bind-index l.binds)) l.fn.made l.made
