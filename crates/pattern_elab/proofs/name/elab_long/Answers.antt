use Rattle.type_phrases.specs.Inferred.{progress}
use Rattle.pattern_elab.specs.Scopes.{bound_of}
use Rattle.pattern_elab.proofs.Forms.{long_sized}
use Rattle.pattern_elab.proofs.name.elab_long.Goals as goal

pub returns-clause-infers : goal.returns-clause-infers
returns-clause-infers c =
    rw c.sized.ensures.table
    (long_sized c.args.g.now c.args.scope.now c.args.long.now c.args.at (bound_of c.args.bound.now)
    (progress c.args.t.now c.args.g.now) c.elab_name.new.t c.elab_name.new.bound c.in_ok-id.id c.sized.result
    c.in_ok-id.ensures.infers c.sized.ensures.answer c.sized.ensures.same)
