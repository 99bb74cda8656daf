use Rattle.signature_parts.proofs.Adding.{structure_refused, structure_added, structure_front, structure_envs}
use Rattle.signature_parts.proofs.including.specify_structure.Goals as goal

pub returns-in_err-check_new-clause-infers : goal.returns-in_err-check_new-clause-infers
returns-in_err-check_new-clause-infers c = λ inner home.
    structure_refused c.args.g.now c.args.made.now c.args.made.now inner c.args.name.now c.args.sig _
    c.in_err-check_new.field-0.0 c.from_residual.result c.from_residual.ensures.1 (c.in_err-check_new.ensures inner home)

pub returns-clause-infers : goal.returns-clause-infers
returns-clause-infers c = λ inner home.
    structure_added c.args.g.now c.args.made.now c.add_names.new.made inner c.args.name.now c.args.sig c.in_ok-text.text
    c.bind.new.self c.in_ok-text.ensures c.in_ok-bind.ensures.ok c.in_ok-add_names.ensures
    (c.in_ok-check_new.ensures inner home)

pub returns-clause-front : goal.returns-clause-front
returns-clause-front c =
    structure_front c.args.g.now c.args.made.now c.add_names.new.made c.args.sig c.in_ok-text.text c.bind.new.self
    c.in_ok-bind.ensures.ok c.in_ok-add_names.ensures

pub returns-clause-envs : goal.returns-clause-envs
returns-clause-envs c = λ envs.
    structure_envs c.args.g.now c.args.made.now c.add_names.new.made c.args.sig c.in_ok-text.text
    c.bind.new.self c.in_ok-bind.ensures.ok c.in_ok-add_names.ensures c.requires envs
