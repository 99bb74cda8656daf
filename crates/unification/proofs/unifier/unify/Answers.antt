use Rattle.std.proofs.Common.{rules}
use Rattle.std.specs.Prelude.{Ok}
use Rattle.unification.specs.Plain.{type_of}
use Rattle.unification.proofs.Steps.{is_general}
use Rattle.unification.proofs.unifier.unify.Goals as goal

pub returns-clause-general : goal.returns-clause-general
returns-clause-general c =
    is_general c.args.kinds (type_of c.args.a.now) (type_of c.args.b.now) (Ok c.unify_below.new.self) (search rules)
