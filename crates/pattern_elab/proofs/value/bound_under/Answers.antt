use Rattle.std.proofs.Common.{sym, ◌∙◌}
use Rattle.name_trails.specs.Trails.{last_entry}
use Rattle.pattern_elab.proofs.Scoping.{copied_is, last_under}
use Rattle.pattern_elab.proofs.value.bound_under.Goals as goal

pub returns-in-Some : goal.returns-in-Some
returns-in-Some c =
    copied_is c.bound_value.result (last_entry c.args.scope.now.values c.in-Some.name.now) c.bound_value.ensures
    (λ x h. last_under c.args.scope.now c.args.long.now c.in-Some.name.now x
    (sym c.len.ensures ∙ c.if-len-ne1.false) c.in-Some.ensures.item h)
