use Rattle.std.proofs.Common.{sym, subst, ◌∙◌}
use Rattle.static_semantics.specs.PatternInference.{name_by}
use Rattle.type_phrases.specs.Inferred.{progress}
use Rattle.pattern_elab.specs.Scopes.{scope_of, bound_of}
use Rattle.pattern_elab.specs.Steps.{InferredPat}
use Rattle.pattern_elab.proofs.name.elab_lone.Goals as goal

pub returns-then-branch-clause-infers : goal.returns-then-branch-clause-infers
returns-then-branch-clause-infers c =
    subst (λ b. InferredPat (name_by (scope_of c.args.g.now c.args.scope.now) c.args.at b c.args.name.now
    c.args.long.now
    (bound_of c.args.bound.now) (progress c.args.t.now c.args.g.now)) c.elab_con.result c.elab_con.new.t
    c.args.bound.now c.args.g.now)
    (sym c.if-branch.true ∙ c.in_ok-stands_for_con.ensures) (c.elab_con.ensures.infers (bound_of c.args.bound.now))
