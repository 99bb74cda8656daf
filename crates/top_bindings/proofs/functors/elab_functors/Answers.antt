use Rattle.std.proofs.Common.{ap, map, List}
use Rattle.sml_trees.specs.declared.unit.FunBind.{FunBind}
use Rattle.unit_semantics.specs.UnitPhrases.{fun_phrase}
use Rattle.sml_modules.specs.Graphs.{functor_at, HasFunctor}
use Rattle.sml_types.proofs.Frames.{drop_past}
use Rattle.type_phrases.proofs.PartsRead.{passed_on, drop_item}
use Rattle.structure_elab.specs.Moments.{moment}
use Rattle.top_bindings.specs.Bindings.{fun_name, infer_functor, AreFunctorRows}
use Rattle.top_bindings.proofs.Rows.{rows_begin, rows_ready, rows_next, rows_fail, rows_end}
use Rattle.top_bindings.proofs.Sorts.{functors_kind}
use Rattle.top_bindings.proofs.functors.elab_functors.Goals as goal

pub loop-bind-init : goal.loop-bind-init
loop-bind-init c =
    rows_begin fun_name infer_functor functor_at HasFunctor functors_kind
    (moment c.args.g.now c.args.t.now c.args.top.now) (map fun_phrase c.args.binds.now) c.args.made.now c.requires.ready
    c.requires.made

pub is_ready_top-requires : goal.is_ready_top-requires
is_ready_top-requires c =
    λ k. rows_ready fun_name infer_functor functor_at HasFunctor functors_kind c.loop-bind.invariant k

pub bind_functor-requires-clause-made : goal.bind_functor-requires-clause-made
bind_functor-requires-clause-made c = c.loop-bind.invariant.rows_there

pub loop-bind-preserved : goal.loop-bind-preserved
loop-bind-preserved c =
    rows_next fun_name infer_functor functor_at HasFunctor functors_kind c.loop-bind.invariant
    (ap (λ (binds : List FunBind). map fun_phrase binds)
    (drop_item c.args.binds.now c.loop-bind.bind-index c.bind-item.result c.loop-bind-test.true c.bind-item.is))
    c.in_ok-bind_functor.ensures

pub returns-in_err-bind_functor : goal.returns-in_err-bind_functor
returns-in_err-bind_functor c =
    passed_on (AreFunctorRows (moment c.args.g.now c.args.t.now c.args.top.now) (map fun_phrase c.args.binds.now)
    c.args.made.now c.bind_functor.new.made
    (moment c.bind_functor.new.g c.bind_functor.new.t c.bind_functor.new.top)) c.from_residual.result
    c.in_err-bind_functor.field-0.0 c.from_residual.ensures.1
    (rows_fail fun_name infer_functor functor_at HasFunctor functors_kind c.loop-bind.invariant
    (ap (λ (binds : List FunBind). map fun_phrase binds)
    (drop_item c.args.binds.now c.loop-bind.bind-index c.bind-item.result c.loop-bind-test.true c.bind-item.is))
    c.in_err-bind_functor.ensures)

pub returns : goal.returns
returns c =
    rows_end fun_name infer_functor functor_at HasFunctor functors_kind c.loop-bind.invariant
    (ap (λ (binds : List FunBind). map fun_phrase binds)
    (drop_past c.args.binds.now c.loop-bind.bind-index c.loop-bind-test.false))
