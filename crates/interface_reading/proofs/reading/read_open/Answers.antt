use Rattle.std.proofs.Common.{refl, ◌∙◌}
use Rattle.interface_reading.proofs.Advancing.{taken_holds, taken_left, taken_less, all_read, reads_not}
use Rattle.interface_reading.proofs.reading.read_open.Goals as goal

pub loop-top-init : goal.loop-top-init
loop-top-init c = record { holds = c.requires; goes = refl }

pub advance-requires : goal.advance-requires
advance-requires c =
    taken_holds c.loop-top.state c.pop.new.self c.in-Some.top c.in-Some.ensures c.loop-top.invariant.holds

pub loop-top-preserved : goal.loop-top-preserved
loop-top-preserved c = record {
  holds = c.in_ok-advance.ensures.holds;
  goes = c.loop-top.invariant.goes
      ∙ taken_left c.loop-top.state c.pop.new.self c.in-Some.top c.loop-top.reader c.in-Some.ensures
      ∙ c.in_ok-advance.ensures.goes;
}

pub loop-top-smaller : goal.loop-top-smaller
loop-top-smaller c =
    taken_less c.loop-top.state c.advance.new.state c.pop.new.self c.in-Some.top c.loop-top.reader
    c.advance.new.reader c.in-Some.ensures c.in_ok-advance.ensures.less

pub returns-in_err-advance : goal.returns-in_err-advance
returns-in_err-advance c =
    reads_not c.from_residual.result c.in_err-advance.field-0.0 c.args.state.now c.loop-top.state c.advance.new.state
    c.advance.new.state c.pop.new.self c.in-Some.top c.args.reader.now c.loop-top.reader c.advance.new.reader
    c.advance.new.reader c.from_residual.ensures.1 c.in-Some.ensures c.in_err-advance.ensures
    c.loop-top.invariant.goes

pub returns : goal.returns
returns c =
    all_read c.args.state.now c.loop-top.state c.pop.new.self c.args.reader.now c.loop-top.reader
    c.in_default.ensures.0 c.in_default.ensures.1 c.loop-top.invariant.holds c.loop-top.invariant.goes
