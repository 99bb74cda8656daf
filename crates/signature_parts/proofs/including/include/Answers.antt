use Rattle.semantic_objects.specs.declared.entry.ValueEntry.{ValueEntry}
use Rattle.sml_modules.specs.Items.{Item, as_value}
use Rattle.sml_modules.specs.Graphs.{signature_of}
use Rattle.core_scopes.specs.Marks.{env_of_made}
use Rattle.signature_specs.specs.Specs.{signature_so_far}
use Rattle.signature_parts.proofs.Adding.{included_refused, included_done, names_added, names_front, names_envs}
use Rattle.signature_parts.proofs.including.include.Goals as goal

nothing : Unit {0} → ValueEntry
nothing u = as_value Item.Nowhere

pub returns-in_err-specify_made-clause-infers : goal.returns-in_err-specify_made-clause-infers
returns-in_err-specify_made-clause-infers c = λ inner home.
    included_refused inner c.args.at (env_of_made c.args.g.now nothing c.in_ok-part.part)
    (signature_of c.args.g.now c.args.sig) (signature_so_far c.args.g.now c.args.made.now)
    (c.in_ok-part.ensures.is nothing)
    (λ (u : Unit {0}). signature_so_far c.args.g.now c.specify_made.new.made) _ c.in_err-specify_made.field-0.0
    c.from_residual-in_err-specify_made.result c.from_residual-in_err-specify_made.ensures.1
    (c.in_err-specify_made.ensures.infers inner nothing home)

pub returns-clause-infers : goal.returns-clause-infers
returns-clause-infers c = λ inner home.
    included_done inner c.args.at (env_of_made c.args.g.now nothing c.in_ok-part.part)
    (signature_of c.args.g.now c.args.sig) (signature_so_far c.args.g.now c.args.made.now)
    (c.in_ok-part.ensures.is nothing)
    (signature_so_far c.args.g.now c.specify_made.new.made) (signature_so_far c.args.g.now c.add_names.new.made)
    (c.in_ok-specify_made.ensures.infers inner nothing home)
    (names_added c.args.g.now c.specify_made.new.made c.add_names.new.made c.args.sig.bound c.in_ok-add_names.ensures)

pub returns-clause-front : goal.returns-clause-front
returns-clause-front c =
    names_front c.args.made.now c.specify_made.new.made c.add_names.new.made c.args.sig.bound c.in_ok-add_names.ensures
    c.in_ok-specify_made.ensures.front

pub returns-clause-envs : goal.returns-clause-envs
returns-clause-envs c = λ envs.
    names_envs c.args.g.now c.args.made.now c.specify_made.new.made c.add_names.new.made c.in_ok-part.part
    c.args.sig.bound c.in_ok-add_names.ensures c.in_ok-specify_made.ensures.structures c.in_ok-part.ensures.there envs
