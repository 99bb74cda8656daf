use Rattle.std.proofs.Common.{sym, subst, ◌∙◌}
use Rattle.type_walks.specs.Replaced.{replacing}
use Rattle.environment_walks.specs.Changing.{KeepsAllWith}
use Rattle.environment_walks.proofs.Owning.{outside_kept}
use Rattle.environment_walks.proofs.realising.ReplacingTypeChanges.keeps_all_with.Goals as goal

pub returns : goal.returns
returns c h = subst (λ list. KeepsAllWith (replacing list) c.args.facts) c.self.view_is
    (outside_kept c.self.inside.by c.self.inside.owners c.args.facts c.self.invariant (sym c.stand_outside.ensures ∙ h))
