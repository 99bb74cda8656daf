use Rattle.std.proofs.Common.{ap, map, List}
use Rattle.sml_trees.specs.declared.unit.FunsigBind.{FunsigBind}
use Rattle.unit_semantics.specs.UnitPhrases.{funsig_phrase}
use Rattle.sml_modules.specs.Graphs.{functor_at, HasFunctor}
use Rattle.sml_types.proofs.Frames.{drop_past}
use Rattle.type_phrases.proofs.PartsRead.{passed_on, drop_item}
use Rattle.structure_elab.specs.Moments.{moment}
use Rattle.top_bindings.specs.Bindings.{funsig_name, infer_funsig, AreFunsigRows}
use Rattle.top_bindings.proofs.Rows.{rows_begin, rows_ready, rows_next, rows_fail, rows_end}
use Rattle.top_bindings.proofs.Sorts.{funsigs_kind}
use Rattle.top_bindings.proofs.funsigs.elab_funsigs.Goals as goal

pub loop-bind-init : goal.loop-bind-init
loop-bind-init c =
    rows_begin funsig_name infer_funsig functor_at HasFunctor funsigs_kind
    (moment c.args.g.now c.args.t.now c.args.top.now) (map funsig_phrase c.args.binds.now) c.args.made.now c.requires.ready
    c.requires.made

pub is_ready_top-requires : goal.is_ready_top-requires
is_ready_top-requires c =
    λ k. rows_ready funsig_name infer_funsig functor_at HasFunctor funsigs_kind c.loop-bind.invariant k

pub bind_funsig-requires-clause-made : goal.bind_funsig-requires-clause-made
bind_funsig-requires-clause-made c = c.loop-bind.invariant.rows_there

pub loop-bind-preserved : goal.loop-bind-preserved
loop-bind-preserved c =
    rows_next funsig_name infer_funsig functor_at HasFunctor funsigs_kind c.loop-bind.invariant
    (ap (λ (binds : List FunsigBind). map funsig_phrase binds)
    (drop_item c.args.binds.now c.loop-bind.bind-index c.bind-item.result c.loop-bind-test.true c.bind-item.is))
    c.in_ok-bind_funsig.ensures

pub returns-in_err-bind_funsig : goal.returns-in_err-bind_funsig
returns-in_err-bind_funsig c =
    passed_on (AreFunsigRows (moment c.args.g.now c.args.t.now c.args.top.now) (map funsig_phrase c.args.binds.now)
    c.args.made.now c.bind_funsig.new.made
    (moment c.bind_funsig.new.g c.bind_funsig.new.t c.bind_funsig.new.top)) c.from_residual.result
    c.in_err-bind_funsig.field-0.0 c.from_residual.ensures.1
    (rows_fail funsig_name infer_funsig functor_at HasFunctor funsigs_kind c.loop-bind.invariant
    (ap (λ (binds : List FunsigBind). map funsig_phrase binds)
    (drop_item c.args.binds.now c.loop-bind.bind-index c.bind-item.result c.loop-bind-test.true c.bind-item.is))
    c.in_err-bind_funsig.ensures)

pub returns : goal.returns
returns c =
    rows_end funsig_name infer_funsig functor_at HasFunctor funsigs_kind c.loop-bind.invariant
    (ap (λ (binds : List FunsigBind). map funsig_phrase binds)
    (drop_past c.args.binds.now c.loop-bind.bind-index c.loop-bind-test.false))
