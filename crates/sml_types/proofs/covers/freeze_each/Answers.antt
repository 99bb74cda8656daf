use Rattle.std.proofs.Common.{◌≡◌, ◌≤◌, length, refl, arith}
use Rattle.type_nodes.specs.Tables.{state}
use Rattle.sml_types.proofs.Freezing.{frozen_first, frozen_step, frozen_long, follows_same, follows_then, wider}
use Rattle.sml_types.proofs.covers.freeze_each.Goals as goal

pub loop-variable-init : goal.loop-variable-init
loop-variable-init c = record {
  frozen = frozen_first c.args.own c.args.table.now c.args.variables.now c.is_kept.ensures.kept c.requires.own;
  follows = follows_same c.args.table.now c.args.table.now refl;
}

pub freeze_below-requires : goal.freeze_below-requires
freeze_below-requires c = wider c.args.table.now c.loop-variable.table c.args.own c.loop-variable.invariant.follows c.requires.within

pub loop-variable-preserved : goal.loop-variable-preserved
loop-variable-preserved c = record {
  frozen = frozen_step c.args.own (state c.args.table.now) (state c.loop-variable.table) (state c.freeze_below.new.table)
      c.args.variables.now c.loop-variable.variable-index _ 0 c.is_kept-in-loop-variable.ensures.kept.fit
      (let k : (state c.args.table.now).next ≡ length c.args.table.now.births = c.is_kept.ensures.kept.next in
      let l : c.args.own ≤ length c.args.table.now.births = c.requires.within in omega (arith, k, l))
      c.requires.own.rigid c.loop-variable.invariant.frozen c.loop-variable-test.true refl c.in_ok-freeze_below.ensures.frozen;
  follows = follows_then c.args.table.now c.loop-variable.table c.freeze_below.new.table c.loop-variable.invariant.follows
      c.freeze_below.ensures.follows;
}

pub returns-in_err-freeze_below-clause-follows : goal.returns-in_err-freeze_below-clause-follows
returns-in_err-freeze_below-clause-follows c = follows_then c.args.table.now c.loop-variable.table c.freeze_below.new.table
    c.loop-variable.invariant.follows c.freeze_below.ensures.follows

pub returns-clause-frozen : goal.returns-clause-frozen
returns-clause-frozen c = frozen_long c.args.own (state c.args.table.now) (state c.loop-variable.table) c.args.variables.now
    c.loop-variable.variable-index c.loop-variable.invariant.frozen (let k = c.loop-variable-test.false in omega (arith, k))
