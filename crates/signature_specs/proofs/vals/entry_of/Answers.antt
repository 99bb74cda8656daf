use Rattle.bare_phrases.specs.PhraseOf.{ty_phrase}
use Rattle.type_nodes.specs.Tables.{type_of}
use Rattle.type_phrases.specs.Inferred.{progress, scope_in}
use Rattle.signature_specs.proofs.Valuing.{own_bind, val_refused, val_made}
use Rattle.signature_specs.proofs.vals.entry_of.Goals as goal

pub returns-in_err-made-clause-infers : goal.returns-in_err-made-clause-infers
returns-in_err-made-clause-infers g c = λ u read.
    val_refused c.args.g.now (scope_in c.args.g.now u read c.args.scope.now) (ty_phrase c.args.ty.now)
    (progress c.args.t.now c.args.g.now) c.own_variables.new.t c.type_under.new.t c.in_ok-own.own
    c.in_ok-own.ensures.own _ c.in_err-made.field-0.0 c.from_residual-in_err-made.result
    c.from_residual-in_err-made.ensures.1 (c.in_err-made.ensures.infers u read)

pub closed_value-requires : goal.closed_value-requires
closed_value-requires g c =
    own_bind c.in_ok-own.own (type_of c.type_under.new.t c.in_ok-made.made.id) c.in_ok-made.made.tree
    c.in_ok-made.ensures.tree

pub returns-clause-infers : goal.returns-clause-infers
returns-clause-infers g c = λ u read.
    val_made c.args.g.now (scope_in c.args.g.now u read c.args.scope.now) (ty_phrase c.args.ty.now)
    (progress c.args.t.now c.args.g.now) c.own_variables.new.t c.type_under.new.t c.in_ok-own.own
    c.in_ok-own.ensures.own c.in_ok-made.made c.in_ok-closed_value.field-0 c.in_ok-made.ensures.makes.state
    (c.in_ok-made.ensures.infers u read) c.in_ok-made.ensures.tree c.in_ok-closed_value.ensures
