use Rattle.std.proofs.Common.{sym, arith, ◌∙◌}
use Rattle.type_nodes.specs.Tables.{state}
use Rattle.sml_types.specs.Pairs.{OneAt}
use Rattle.sml_types.proofs.pair.root.Goals as goal

pub loop-further-smaller : goal.loop-further-smaller
loop-further-smaller c =
    (c.requires.one c.loop-further.at c.in-Some.further (sym c.of.ensures ∙ c.in-Some.is)).falls

pub loop-further-preserved : goal.loop-further-preserved
loop-further-preserved c =
    let o : OneAt c.args.table.now (state c.args.table.now) c.loop-further.at c.in-Some.further =
    c.requires.one c.loop-further.at c.in-Some.further (sym c.of.ensures ∙ c.in-Some.is) in
    record {
      within = omega (arith, o.falls, o.within);
      one = o.one ∙ c.loop-further.invariant.one;
    }
