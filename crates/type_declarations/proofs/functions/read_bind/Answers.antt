use Rattle.std.specs.Prelude.{Ok, Err}
use Rattle.bare_phrases.specs.PhraseOf.{typ_phrase}
use Rattle.type_declarations.proofs.Listing.{list_is_in}
use Rattle.type_declarations.proofs.Binding.{listed_by, bind_unlisted, bind_taken, bind_read}
use Rattle.type_declarations.proofs.functions.read_bind.Goals as goal

pub returns-in_err-list-clause-bind : goal.returns-in_err-list-clause-bind
returns-in_err-list-clause-bind g c =
    bind_unlisted c.args.g.now c.args.t.now c.list_variables.new.t c.args.scope.now c.args.names.now
    (typ_phrase c.args.bind.now) c.in_err-list.field-0.0 c.from_residual.result c.from_residual.ensures.1
    (listed_by c.args.g.now c.args.t.now c.list_variables.new.t c.as_slice.result.now c.args.bind.now.tyvars
    (Err c.in_err-list.field-0.0) c.as_slice.ensures (λ inner home. c.in_err-list.ensures.listed inner home))
    c.in_err-list.ensures.ids

pub returns-in_err-check_name-clause-bind : goal.returns-in_err-check_name-clause-bind
returns-in_err-check_name-clause-bind g c =
    bind_taken c.args.g.now c.args.t.now c.list_variables.new.t c.args.scope.now c.args.names.now
    (typ_phrase c.args.bind.now) c.in_ok-list.list c.in_err-check_name.field-0.0
    c.from_residual-in_err-check_name.result c.from_residual-in_err-check_name.ensures.1
    (listed_by c.args.g.now c.args.t.now c.list_variables.new.t c.as_slice.result.now c.args.bind.now.tyvars
    (Ok c.in_ok-list.list) c.as_slice.ensures (λ inner home. c.in_ok-list.ensures.listed inner home))
    (λ inner made home named. c.in_err-check_name.ensures inner made home named) c.in_ok-list.ensures.ids

pub function_under-requires-clause-list : goal.function_under-requires-clause-list
function_under-requires-clause-list g c =
    list_is_in c.args.g.now c.args.t.now c.list_variables.new.t c.as_slice.result.now c.in_ok-list.list
    c.is_kept.ensures c.in_ok-list.ensures.made (λ inner home. c.in_ok-list.ensures.listed inner home)

pub returns-clause-bind : goal.returns-clause-bind
returns-clause-bind g c =
    bind_read c.args.g.now c.args.t.now c.list_variables.new.t c.function_under.new.t c.args.scope.now
    c.args.names.now (typ_phrase c.args.bind.now) c.in_ok-list.list c.function_under.result
    (listed_by c.args.g.now c.args.t.now c.list_variables.new.t c.as_slice.result.now c.args.bind.now.tyvars
    (Ok c.in_ok-list.list) c.as_slice.ensures (λ inner home. c.in_ok-list.ensures.listed inner home))
    (λ inner made home named. c.in_ok-check_name.ensures inner made home named) c.in_ok-list.ensures.ids
    (λ u read. c.function_under.ensures.infers u read) c.function_under.ensures.same
