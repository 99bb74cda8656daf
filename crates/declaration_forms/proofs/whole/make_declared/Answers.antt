use Rattle.declaration_forms.proofs.Declared.{given_made}
use Rattle.declaration_forms.proofs.whole.make_declared.Goals as goal

pub returns-clause-ok : goal.returns-clause-ok
returns-clause-ok c =
    given_made c.args.g.now c.make_env.new.self c.args.made c.in_ok-entries.entries c.make_env.result
    c.in_ok-entries.ensures c.make_env.ensures.ok
