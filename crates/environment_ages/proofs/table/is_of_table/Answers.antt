use Rattle.std.proofs.Common.{sym, ap, ◌∙◌, subst, length}
use Rattle.type_nodes.specs.Tables.{Table}
use Rattle.sml_modules.specs.Graphs.{env_at}
use Rattle.type_phrases.specs.Inferred.{progress}
use Rattle.type_walks.proofs.Imaging.{if_ok}
use Rattle.environment_ages.specs.Below.{StandsBelow}
use Rattle.environment_ages.proofs.OfState.{ready}
use Rattle.environment_ages.proofs.table.is_of_table.Goals as goal

pub returns-clause-ready : goal.returns-clause-ready
returns-clause-ready c = if_ok c.is_below.result c.is_below.ensures
    (λ b h of. ready c.args.g.now.home (env_at c.args.g.now c.args.env) (progress c.args.t.now c.args.g.now)
    c.is_kept.ensures.fit
    (subst (λ n. StandsBelow n (env_at c.args.g.now c.args.env))
    (c.variables.ensures ∙ ap (λ (z : Table). length z.births) c.mark-now.ensures ∙ sym c.is_kept.ensures.next)
    (h.0 of)))
