use Rattle.std.proofs.Common.{subst, ◌∙◌}
use Rattle.type_phrases.specs.Inferred.{progress}
use Rattle.pattern_elab.specs.Scopes.{scope_of, bound_of}
use Rattle.pattern_elab.specs.Steps.{InferredPat}
use Rattle.pattern_elab.proofs.Forms.{name_long}
use Rattle.pattern_elab.proofs.name.elab_name.Goals as goal

pub returns-then-len-ne1-clause-infers : goal.returns-then-len-ne1-clause-infers
returns-then-len-ne1-clause-infers c =
    subst (λ m. InferredPat m c.elab_con.result c.elab_con.new.t c.args.bound.now c.args.g.now)
    (name_long (scope_of c.args.g.now c.args.scope.now) c.args.long.now c.args.at c.args.long.now.parts
    (bound_of c.args.bound.now) (progress c.args.t.now c.args.g.now) (λ e. c.if-len-ne1.true (c.len.ensures ∙ e)))
    (c.elab_con.ensures.infers (bound_of c.args.bound.now))
