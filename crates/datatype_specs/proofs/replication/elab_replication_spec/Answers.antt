use Rattle.core_scopes.specs.declared.made.Made.{Made}
use Rattle.core_scopes.specs.Marks.{env_of_made}
use Rattle.type_phrases.specs.Inferred.{scope_in}
use Rattle.signature_specs.specs.Specs.{signature_so_far}
use Rattle.datatype_specs.proofs.Specifying.{not_replicated, replicated}
use Rattle.std.proofs.Common.{refl}
use Rattle.datatype_specs.proofs.replication.elab_replication_spec.Goals as goal

pub returns-in_err-part-clause-infers : goal.returns-in_err-part-clause-infers
returns-in_err-part-clause-infers g c = λ u read.
    let graph = c.args.g.now in
    not_replicated (scope_in graph u read c.args.scope.now) c.args.name.now c.args.long.now
    (signature_so_far graph c.args.made.now) (λ (made : Made g.row.V.Denot). env_of_made graph read made) _
    c.in_err-part.field-0.0 c.from_residual.result c.from_residual.ensures.1 (c.in_err-part.ensures.infers u read)

pub returns-clause-infers : goal.returns-clause-infers
returns-clause-infers g c = λ u read.
    let graph = c.args.g.now in
    let inner = scope_in graph u read c.args.scope.now in
    replicated inner c.args.name.now c.args.long.now (signature_so_far graph c.args.made.now)
    (env_of_made graph read c.in_ok-part.part) c.place_of.result
    (λ (x : Unit {0}). signature_so_far graph c.specify_made.new.made) c.specify_made.result
    (c.in_ok-part.ensures.infers u read) c.place_of.ensures (c.specify_made.ensures.infers inner read refl)
