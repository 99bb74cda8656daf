use Rattle.std.proofs.Common.{[], ◌∷◌}
use Rattle.std.specs.Option.{is_some}
use Rattle.semantic_objects.specs.Environments.{empty_env, with_type}
use Rattle.name_trails.specs.Trails.{last_entry}
use Rattle.static_semantics.specs.Inferring.{name_at}
use Rattle.signature_specs.specs.Specs.{signature_so_far, env_so_far}
use Rattle.signature_specs.proofs.Fronts.{front_type}
use Rattle.signature_specs.proofs.Specifying.{not_specified, is_specified, type_is, type_set}
use Rattle.signature_specs.proofs.specified.specify_type.Goals as goal

pub returns-in_err-check_new-clause-infers : goal.returns-in_err-check_new-clause-infers
returns-in_err-check_new-clause-infers c = λ inner home.
    let name = c.args.name.now.text in
    not_specified inner (name_at c.args.name.now) (with_type name c.args.entry empty_env)
    (signature_so_far c.args.g.now c.args.made.now) (is_some (last_entry c.args.made.now.types name)) _
    c.in_err-check_new.field-0.0 c.from_residual.result c.from_residual.ensures.1
    (type_is c.args.g.now c.args.made.now name c.args.entry) (c.in_err-check_new.ensures inner home)

pub returns-clause-infers : goal.returns-clause-infers
returns-clause-infers c = λ inner home.
    let name = c.args.name.now.text in
    is_specified inner (name_at c.args.name.now) (with_type name c.args.entry empty_env)
    (signature_so_far c.args.g.now c.args.made.now) (is_some (last_entry c.args.made.now.types name))
    (env_so_far c.args.g.now (record c.args.made.now { types = c.bind.new.self }))
    (type_is c.args.g.now c.args.made.now name c.args.entry) (c.in_ok-check_new.ensures inner home)
    (type_set c.args.g.now c.args.made.now name c.args.entry c.in_ok-text.text c.bind.new.self c.in_ok-text.ensures
    c.in_ok-bind.ensures.ok)

pub returns-clause-front : goal.returns-clause-front
returns-clause-front c =
    front_type c.args.made.now c.bind.new.self ((c.in_ok-text.text, c.args.entry) ∷ []) c.in_ok-bind.ensures.ok
