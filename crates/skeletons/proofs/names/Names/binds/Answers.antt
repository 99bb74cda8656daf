use Rattle.std.proofs.Common.{ap, ◌∙◌, not}
use Rattle.std.specs.Prelude.{nat_eq}
use Rattle.skeletons.specs.Scopes.{is_bound}
use Rattle.skeletons.proofs.Counts.{bound-by_count}
use Rattle.skeletons.proofs.names.Names.binds.Goals as goal

pub returns : goal.returns
returns c =
    ap (λ n. not (nat_eq n 0)) (c.count_of.ensures ∙ c.self.invariant c.args.name.now)
    ∙ bound-by_count c.self.inside.trail.items c.args.name.now
    ∙ ap (λ names. is_bound names c.args.name.now) c.self.view_is
