use Rattle.std.proofs.Common.{length}
use Rattle.std.specs.Prelude.{Ok, Err}
use Rattle.bare_phrases.specs.PhraseOf.{dat_phrase}
use Rattle.type_nodes.specs.Tables.{state}
use Rattle.datatype_elab.proofs.Dating.{ListMade, list_made, listed_by, cons_by, dat_unlisted, dat_unread, dat_read}
use Rattle.datatype_elab.proofs.dats.read_dat.Goals as goal

pub returns-in_err-list-clause-dat : goal.returns-in_err-list-clause-dat
returns-in_err-list-clause-dat g c =
    dat_unlisted c.args.g.now c.args.t.now c.list_variables.new.t c.args.scope.now c.args.refused.now c.args.names.now
    (dat_phrase c.args.bind.now) c.in_err-list.field-0.0 c.from_residual-in_err-list.result
    c.from_residual-in_err-list.ensures.1
    (listed_by c.args.g.now c.args.t.now c.list_variables.new.t c.as_slice.result.now c.args.bind.now.tyvars
    (Err c.in_err-list.field-0.0) c.as_slice.ensures (λ inner home. c.in_err-list.ensures.listed inner home))
    c.in_err-list.ensures.ids

pub cons_under-requires-clause-list : goal.cons_under-requires-clause-list
cons_under-requires-clause-list g c =
    (list_made c.args.g.now c.args.t.now c.list_variables.new.t c.as_slice.result.now c.in_ok-list.list
    c.is_kept.ensures c.in_ok-list.ensures.made (λ inner home. c.in_ok-list.ensures.listed inner home)).is_in

pub returns-in_err-cons-clause-dat : goal.returns-in_err-cons-clause-dat
returns-in_err-cons-clause-dat g c =
    dat_unread c.args.g.now c.args.t.now c.list_variables.new.t c.cons_under.new.t c.args.scope.now c.args.refused.now
    c.args.names.now c.cons_under.new.names c.variables_of-variables.result (dat_phrase c.args.bind.now)
    c.in_ok-list.list c.in_err-cons.field-0.0 c.from_residual-in_err-cons.result c.from_residual-in_err-cons.ensures.1
    (listed_by c.args.g.now c.args.t.now c.list_variables.new.t c.as_slice.result.now c.args.bind.now.tyvars
    (Ok c.in_ok-list.list) c.as_slice.ensures (λ inner home. c.in_ok-list.ensures.listed inner home))
    c.in_ok-list.ensures.ids
    (cons_by c.args.g.now c.list_variables.new.t c.cons_under.new.t c.args.scope.now c.in_ok-list.list
    c.args.refused.now c.args.names.now c.cons_under.new.names c.variables_of-variables.result
    c.as_slice-cons.result.now c.args.bind.now.cons (Err c.in_err-cons.field-0.0) c.as_slice-cons.ensures
    c.in_err-cons.ensures.cons)

pub returns-clause-dat : goal.returns-clause-dat
returns-clause-dat g c =
    let made : ListMade c.args.t.now c.list_variables.new.t c.as_slice.result.now c.in_ok-list.list =
    list_made c.args.g.now c.args.t.now c.list_variables.new.t c.as_slice.result.now c.in_ok-list.list
    c.is_kept.ensures c.in_ok-list.ensures.made (λ inner home. c.in_ok-list.ensures.listed inner home) in
    dat_read c.args.g.now c.args.t.now c.list_variables.new.t c.cons_under.new.t c.args.scope.now c.args.refused.now
    c.args.names.now c.cons_under.new.names c.variables_of-variables.result (dat_phrase c.args.bind.now)
    c.in_ok-name.name c.in_ok-list.list c.in_ok-cons.cons
    (listed_by c.args.g.now c.args.t.now c.list_variables.new.t c.as_slice.result.now c.args.bind.now.tyvars
    (Ok c.in_ok-list.list) c.as_slice.ensures (λ inner home. c.in_ok-list.ensures.listed inner home))
    c.in_ok-list.ensures.ids
    (cons_by c.args.g.now c.list_variables.new.t c.cons_under.new.t c.args.scope.now c.in_ok-list.list
    c.args.refused.now c.args.names.now c.cons_under.new.names c.variables_of-variables.result
    c.as_slice-cons.result.now c.args.bind.now.cons (Ok c.in_ok-cons.cons) c.as_slice-cons.ensures
    c.in_ok-cons.ensures.cons)
    c.in_ok-name.ensures
    (c.variables_of-variables.ensures.numbers (state c.args.t.now).next (length c.as_slice.result.now) made.numbered)
    c.variables_of-variables.ensures.count
