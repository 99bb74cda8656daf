use Rattle.std.proofs.Common.{◌≤◌, length, arith}
use Rattle.datatype_elab.proofs.Binding.{bound_dat, types_more, types_done}
use Rattle.datatype_elab.proofs.environment.make_all.Goals as goal

pub make_type-requires-clause-bound : goal.make_type-requires-clause-bound
make_type-requires-clause-bound g c =
    bound_dat c.args.dats.now c.loop-at.at c.index-dats-at.result c.requires.bound c.loop-at-test.true c.index-dats-at.is

pub loop-at-preserved : goal.loop-at-preserved
loop-at-preserved g c =
    types_more c.args.new.now.home c.args.new.now.first c.args.choice.now c.args.dats.now c.loop-at.at
    c.index-dats-at.result c.loop-at.made c.in_ok-made.made c.in_ok-name.name c.in_ok-entry.entry c.loop-at.invariant
    c.loop-at-test.true c.index-dats-at.is c.in_ok-name.ensures c.in_ok-entry.ensures c.in_ok-made.ensures

pub returns-clause-made : goal.returns-clause-made
returns-clause-made g c = λ h read t are.
    let end : length c.args.dats.now ≤ c.loop-at.at = omega (arith, c.loop-at-test.false) in
    types_done c.args.new.now.home c.args.new.now.first c.args.choice.now c.args.dats.now c.loop-at.at c.loop-at.made
    c.loop-at.invariant end h read t are
