use Rattle.std.proofs.Common.{ap, map, List}
use Rattle.sml_trees.specs.declared.exp.StrBind.{StrBind}
use Rattle.sml_modules.specs.Graphs.{env_at, HasEnv}
use Rattle.sml_types.proofs.Frames.{drop_past}
use Rattle.type_phrases.proofs.PartsRead.{passed_on, drop_item}
use Rattle.structure_elab.specs.Moments.{moment}
use Rattle.top_bindings.specs.Bindings.{read_bind, structure_name, infer_structure, AreStructureRows}
use Rattle.top_bindings.proofs.Rows.{rows_begin, rows_ready, rows_next, rows_fail, rows_end}
use Rattle.top_bindings.proofs.Sorts.{structures_kind}
use Rattle.top_bindings.proofs.structures.elab_structures.Goals as goal

pub loop-bind-init : goal.loop-bind-init
loop-bind-init c =
    rows_begin structure_name infer_structure env_at HasEnv structures_kind
    (moment c.args.g.now c.args.t.now c.args.top.now) (map (read_bind c.args.sealing) c.args.binds.now) c.args.made.now c.requires.ready
    c.requires.made

pub is_ready_top-requires : goal.is_ready_top-requires
is_ready_top-requires c =
    λ k. rows_ready structure_name infer_structure env_at HasEnv structures_kind c.loop-bind.invariant k

pub bind_structure-requires-clause-made : goal.bind_structure-requires-clause-made
bind_structure-requires-clause-made c = c.loop-bind.invariant.rows_there

pub loop-bind-preserved : goal.loop-bind-preserved
loop-bind-preserved c =
    rows_next structure_name infer_structure env_at HasEnv structures_kind c.loop-bind.invariant
    (ap (λ (binds : List StrBind). map (read_bind c.args.sealing) binds)
    (drop_item c.args.binds.now c.loop-bind.bind-index c.bind-item.result c.loop-bind-test.true c.bind-item.is))
    c.in_ok-bind_structure.ensures

pub returns-in_err-bind_structure : goal.returns-in_err-bind_structure
returns-in_err-bind_structure c =
    passed_on (AreStructureRows (moment c.args.g.now c.args.t.now c.args.top.now) (map (read_bind c.args.sealing) c.args.binds.now)
    c.args.made.now c.bind_structure.new.made
    (moment c.bind_structure.new.g c.bind_structure.new.t c.bind_structure.new.top)) c.from_residual.result
    c.in_err-bind_structure.field-0.0 c.from_residual.ensures.1
    (rows_fail structure_name infer_structure env_at HasEnv structures_kind c.loop-bind.invariant
    (ap (λ (binds : List StrBind). map (read_bind c.args.sealing) binds)
    (drop_item c.args.binds.now c.loop-bind.bind-index c.bind-item.result c.loop-bind-test.true c.bind-item.is))
    c.in_err-bind_structure.ensures)

pub returns : goal.returns
returns c =
    rows_end structure_name infer_structure env_at HasEnv structures_kind c.loop-bind.invariant
    (ap (λ (binds : List StrBind). map (read_bind c.args.sealing) binds)
    (drop_past c.args.binds.now c.loop-bind.bind-index c.loop-bind-test.false))
