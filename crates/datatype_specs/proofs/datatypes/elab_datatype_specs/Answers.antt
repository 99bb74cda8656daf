use Rattle.std.proofs.Common.{map, sym, subst}
use Rattle.bare_phrases.specs.PhraseOf.{dat_phrase}
use Rattle.semantic_objects.specs.Environments.{Signature}
use Rattle.core_scopes.specs.declared.made.Made.{Made}
use Rattle.core_scopes.specs.Marks.{env_of_made}
use Rattle.module_semantics.specs.SignatureInference.{specified_types}
use Rattle.type_phrases.specs.Inferred.{Answers, progress, scope_in}
use Rattle.signature_specs.specs.Specs.{signature_so_far}
use Rattle.datatype_specs.specs.Steps.{env_of_new}
use Rattle.datatype_specs.proofs.Specifying.{new_is, bound_same, datatypes_refused, datatypes_specified}
use Rattle.datatype_specs.proofs.datatypes.elab_datatype_specs.Goals as goal

pub returns-in_err-part-clause-infers : goal.returns-in_err-part-clause-infers
returns-in_err-part-clause-infers g c = λ u read.
    let graph = c.args.g.now in
    datatypes_refused (scope_in graph u read c.args.scope.now) (map dat_phrase c.args.binds.now)
    (signature_so_far graph c.args.made.now) (progress c.args.t.now graph)
    (λ (made : Made g.row.V.Denot).
    (env_of_made c.datatypes_in.new.g read made, progress c.datatypes_in.new.t c.datatypes_in.new.g)) _
    c.in_err-part.field-0.0 c.from_residual.result c.from_residual.ensures.1 (c.in_err-part.ensures.infers u read)

pub returns-clause-infers : goal.returns-clause-infers
returns-clause-infers g c = λ u read.
    let graph = c.args.g.now in
    let after = c.datatypes_in.new.g in
    let inner = scope_in graph u read c.args.scope.now in
    let binds = map dat_phrase c.args.binds.now in
    datatypes_specified inner binds (signature_so_far graph c.args.made.now) (progress c.args.t.now graph)
    (env_of_made after read c.in_ok-part.part) (env_of_new c.in_ok-new.new) (progress c.datatypes_in.new.t after)
    c.add_names.new.bound (λ (x : Unit {0}). signature_so_far after c.specify_datatypes.new.made)
    c.specify_datatypes.result (c.in_ok-part.ensures.infers u read)
    (new_is after read c.in_ok-part.part c.in_ok-new.new c.in_ok-part.ensures.structures c.in_ok-new.ensures.types
    (c.in_ok-new.ensures.values read))
    c.in_ok-add_names.ensures
    (subst (λ (sig : Signature). Answers (specified_types inner binds (env_of_new c.in_ok-new.new) sig)
    (λ (x : Unit {0}). signature_so_far after c.specify_datatypes.new.made) c.specify_datatypes.result)
    (bound_same graph after c.args.made.now c.add_names.new.bound c.in_ok-part.ensures.names.items)
    (c.specify_datatypes.ensures.infers inner (sym c.in_ok-part.ensures.names.home)))
