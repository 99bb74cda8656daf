use Rattle.core_scopes.specs.Scopes.{entry_of}
use Rattle.pattern_elab.specs.Scopes.{own_entry}
use Rattle.core_rules.proofs.Leaves.{named_sized}
use Rattle.core_rules.proofs.plain.elab_long.Goals as goal

pub returns-clause-infers : goal.returns-clause-infers
returns-clause-infers c =
    rw c.sized.ensures.table
    (named_sized c.args.g.now c.args.scope.now c.args.long.now c.args.at c.args.t.now
    c.instance.new.t (entry_of own_entry c.in_ok-value.value) c.in_ok-named.named c.sized.result c.in_ok-value.ensures.answer
    c.in_ok-named.ensures.made c.in_ok-named.ensures.state c.sized.ensures.answer c.sized.ensures.same)
