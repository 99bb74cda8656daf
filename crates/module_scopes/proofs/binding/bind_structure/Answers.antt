use Rattle.module_scopes.proofs.Tops.{structure_more, envs_one_more}
use Rattle.module_scopes.proofs.binding.bind_structure.Goals as goal

pub returns-clause-ok : goal.returns-clause-ok
returns-clause-ok c g = structure_more g c.args.made.now c.bind.new.self c.args.name.now c.in_ok-name.name c.args.env
    c.in_ok-name.ensures c.in_ok-bind.ensures.ok

pub returns-clause-there : goal.returns-clause-there
returns-clause-there c g h k = envs_one_more g c.args.made.now c.bind.new.self c.in_ok-name.name c.args.env
    c.in_ok-bind.ensures.ok h k
