use Rattle.std.proofs.Common.{◌≡◌, ◌+◌, ◌≤◌, length, arith}
use Rattle.datatype_elab.proofs.Finishing.{names_none, names_more, names_longer}
use Rattle.datatype_elab.proofs.whole.make_names.Goals as goal

pub loop-at-init : goal.loop-at-init
loop-at-init c = record { names = names_none c.args.g.now; count = omega arith }

pub loop-at-preserved : goal.loop-at-preserved
loop-at-preserved c =
    let l : length c.args.g.now.made ≤ length c.loop-at.g.made = omega (arith, c.loop-at.invariant.count) in
    let k : length c.new_name.new.self.made ≡ length c.loop-at.g.made + 1 =
    names_longer c.loop-at.g c.new_name.new.self c.in_ok-new_name.field-0 c.in_ok-new_name.ensures.made in
    record {
      names = names_more c.args.g.now c.loop-at.g c.new_name.new.self c.in_ok-new_name.field-0 c.loop-at.invariant.names
          c.in_ok-new_name.ensures.made l;
      count = omega (arith, k, c.loop-at.invariant.count);
    }
