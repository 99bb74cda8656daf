use Rattle.std.proofs.Common.{refl, ◌∙◌, arith}
use Rattle.sml_types.proofs.Freezing.{frozen_all, follows_same}
use Rattle.sml_types.proofs.covers.freeze_all.Goals as goal

pub returns-in_err-variables-clause-follows : goal.returns-in_err-variables-clause-follows
returns-in_err-variables-clause-follows c = follows_same c.args.table.now c.args.table.now refl

pub returns-clause-frozen : goal.returns-clause-frozen
returns-clause-frozen c = frozen_all c.args.own c.args.table.now c.freeze_each.new.table c.args.ids.now
    c.as_slice.result.now _ (c.as_slice.ensures ∙ c.in_ok-variables.ensures) (omega arith) c.in_ok-freeze_each.ensures.frozen
