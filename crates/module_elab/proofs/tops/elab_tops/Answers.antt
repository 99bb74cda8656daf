use Rattle.std.proofs.Common.{ap, map, List}
use Rattle.sml_trees.specs.declared.unit.TopDec.{TopDec}
use Rattle.sml_types.proofs.Frames.{drop_past}
use Rattle.type_phrases.proofs.PartsRead.{passed_on, drop_item}
use Rattle.unit_semantics.specs.UnitPhrases.{top_phrase, read_top}
use Rattle.structure_elab.specs.Moments.{moment}
use Rattle.module_elab.specs.Tops.{AreDefined}
use Rattle.module_elab.proofs.Defining.{tops_begin, tops_ready, tops_next, tops_fail, tops_end}
use Rattle.module_elab.proofs.tops.elab_tops.Goals as goal

pub loop-dec-init : goal.loop-dec-init
loop-dec-init c =
    tops_begin (moment c.args.g.now c.args.t.now c.args.top.now)
    (map (read_top c.args.sealing) (map top_phrase c.args.decs.now)) c.requires.ready c.requires.nothing

pub is_ready_top-requires : goal.is_ready_top-requires
is_ready_top-requires c = λ k. tops_ready c.loop-dec.invariant k

pub loop-dec-preserved : goal.loop-dec-preserved
loop-dec-preserved c =
    tops_next c.loop-dec.invariant
    (ap (λ (decs : List TopDec). map (read_top c.args.sealing) (map top_phrase decs))
    (drop_item c.args.decs.now c.loop-dec.dec-index c.dec-item.result c.loop-dec-test.true c.dec-item.is))
    c.in_ok-elab_top.ensures

pub returns-in_err-elab_top : goal.returns-in_err-elab_top
returns-in_err-elab_top c =
    passed_on (AreDefined (moment c.args.g.now c.args.t.now c.args.top.now)
    (map (read_top c.args.sealing) (map top_phrase c.args.decs.now))
    (moment c.elab_top.new.g c.elab_top.new.t c.elab_top.new.top)) c.from_residual.result
    c.in_err-elab_top.field-0.0 c.from_residual.ensures.1
    (tops_fail c.loop-dec.invariant
    (ap (λ (decs : List TopDec). map (read_top c.args.sealing) (map top_phrase decs))
    (drop_item c.args.decs.now c.loop-dec.dec-index c.dec-item.result c.loop-dec-test.true c.dec-item.is))
    c.in_err-elab_top.ensures)

pub returns : goal.returns
returns c =
    tops_end c.loop-dec.invariant (ap (λ (decs : List TopDec). map (read_top c.args.sealing) (map top_phrase decs))
    (drop_past c.args.decs.now c.loop-dec.dec-index c.loop-dec-test.false))
