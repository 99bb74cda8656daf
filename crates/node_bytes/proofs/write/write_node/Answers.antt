use Rattle.std.proofs.Common.{refl}
use Rattle.node_bytes.proofs.Moves.{top_has, room_kept, goes_kept, weights_less, step_fails, begin_fails, room_begun, goes_begun, all_written}
use Rattle.node_bytes.proofs.write.write_node.Goals as goal

pub loop-top-init : goal.loop-top-init
loop-top-init c = record {
  room = room_begun c.args.rows.now c.args.root c.args.limit c.in_ok-state.state c.in_ok-state.ensures;
  goes = goes_begun c.args.rows.now c.args.root c.args.back c.args.limit c.in_ok-state.state c.requires.rows
      c.requires.has c.in_ok-state.ensures;
}

pub step-requires-clause-has : goal.step-requires-clause-has
step-requires-clause-has c =
    top_has c.args.rows.now c.args.root c.args.back c.loop-top.state c.pop.new.self c.in-Some.top
    c.loop-top.invariant.goes c.in-Some.ensures

pub step-requires-clause-room : goal.step-requires-clause-room
step-requires-clause-room c = record {
  fits = c.loop-top.invariant.room.fits;
  few = c.loop-top.invariant.room.few;
  numbers = c.loop-top.invariant.room.numbers;
}

pub loop-top-preserved : goal.loop-top-preserved
loop-top-preserved c =
    let rows = c.args.rows.now in
    let has = top_has rows c.args.root c.args.back c.loop-top.state c.pop.new.self c.in-Some.top
    c.loop-top.invariant.goes c.in-Some.ensures in
    record {
      room = room_kept rows c.args.root c.args.back c.args.limit c.in-Some.top
          (record c.loop-top.state { opens = c.pop.new.self }) c.step.new.state c.requires.rows c.requires.apart
          (record {
            fits = c.loop-top.invariant.room.fits;
            few = c.loop-top.invariant.room.few;
            numbers = c.loop-top.invariant.room.numbers;
          }) has c.in_ok-step.ensures;
      goes = goes_kept rows c.args.root c.args.back c.args.limit c.in-Some.top c.loop-top.state
          (record c.loop-top.state { opens = c.pop.new.self }) c.step.new.state c.requires.rows c.requires.apart
          (record {
            fits = c.loop-top.invariant.room.fits;
            few = c.loop-top.invariant.room.few;
            numbers = c.loop-top.invariant.room.numbers;
          }) has c.loop-top.invariant.goes refl refl refl c.in-Some.ensures c.in_ok-step.ensures;
    }

pub loop-top-smaller : goal.loop-top-smaller
loop-top-smaller c =
    weights_less c.args.rows.now c.args.root c.args.back c.args.limit c.in-Some.top
    (record c.loop-top.state { opens = c.pop.new.self }) c.step.new.state c.loop-top.state.opens c.requires.rows
    c.requires.apart
    (record {
      fits = c.loop-top.invariant.room.fits;
      few = c.loop-top.invariant.room.few;
      numbers = c.loop-top.invariant.room.numbers;
    })
    (top_has c.args.rows.now c.args.root c.args.back c.loop-top.state c.pop.new.self c.in-Some.top
    c.loop-top.invariant.goes c.in-Some.ensures) c.in-Some.ensures c.in_ok-step.ensures

pub returns-in_err-state : goal.returns-in_err-state
returns-in_err-state c = λ f is.
    begin_fails f c.args.rows.now c.args.root c.args.limit c.from_residual.result c.in_err-state.field-0.0
    c.in_err-state.ensures c.from_residual.ensures.1

pub returns-in_err-step : goal.returns-in_err-step
returns-in_err-step c = λ f is.
    step_fails f c.args.rows.now c.args.root c.args.back c.args.limit c.in-Some.top c.loop-top.state
    (record c.loop-top.state { opens = c.pop.new.self }) c.step.new.state c.from_residual-in_err-step.result
    c.in_err-step.field-0.0 c.requires.rows c.requires.apart
    (record {
      fits = c.loop-top.invariant.room.fits;
      few = c.loop-top.invariant.room.few;
      numbers = c.loop-top.invariant.room.numbers;
    })
    (top_has c.args.rows.now c.args.root c.args.back c.loop-top.state c.pop.new.self c.in-Some.top
    c.loop-top.invariant.goes c.in-Some.ensures) c.loop-top.invariant.goes refl refl refl c.in-Some.ensures is
    c.in_err-step.ensures c.from_residual-in_err-step.ensures.1

pub returns : goal.returns
returns c = λ f is.
    all_written f c.args.rows.now c.args.root c.args.back c.args.limit c.loop-top.state c.from_vec.result is
    c.loop-top.invariant.goes c.loop-top.invariant.room c.in_default.ensures.0 c.from_vec.ensures
