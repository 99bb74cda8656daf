use Rattle.std.proofs.Common.{map}
use Rattle.bare_phrases.specs.PhraseOf.{dat_phrase}
use Rattle.sml_modules.specs.Graphs.{type_rows}
use Rattle.type_phrases.proofs.Keeping.{keeps_all}
use Rattle.datatype_elab.proofs.Declaring.{read_unnamed, read_no_memory, read_undone, read_done}
use Rattle.datatype_elab.proofs.reading.read_datatypes.Goals as goal

pub returns-in_err-rows-clause-read : goal.returns-in_err-rows-clause-read
returns-in_err-rows-clause-read g c =
    read_unnamed c.args.g.now c.args.t.now c.args.scope.now c.args.refused.now (map dat_phrase c.args.binds.now)
    c.in_err-rows.field-0.0 c.from_residual.result c.from_residual.ensures.1
    (λ inner home. c.in_err-rows.ensures inner home)

pub returns-in_err-types-clause-read : goal.returns-in_err-types-clause-read
returns-in_err-types-clause-read g c =
    read_no_memory c.args.g.now c.args.t.now c.args.t.now c.args.scope.now c.args.refused.now
    (map dat_phrase c.args.binds.now) c.from_residual-in_err-types.result c.from_residual-in_err-types.ensures.1
    (keeps_all c.args.t.now)

pub returns-in_err-dats-clause-read : goal.returns-in_err-dats-clause-read
returns-in_err-dats-clause-read g c =
    read_undone c.args.g.now c.args.t.now c.read_under.new.t c.args.scope.now c.args.refused.now
    (map dat_phrase c.args.binds.now) c.in_ok-rows.rows (type_rows c.in_ok-types.types) c.in_err-dats.field-0.0
    c.from_residual-in_err-dats.result c.from_residual-in_err-dats.ensures.1
    (λ inner home. c.in_ok-rows.ensures inner home) c.in_ok-types.ensures c.in_err-dats.ensures.dats

pub returns-in_err-choice-clause-read : goal.returns-in_err-choice-clause-read
returns-in_err-choice-clause-read g c =
    read_no_memory c.args.g.now c.args.t.now c.read_under.new.t c.args.scope.now c.args.refused.now
    (map dat_phrase c.args.binds.now) c.from_residual-in_err-choice.result c.from_residual-in_err-choice.ensures.1
    c.in_ok-dats.ensures.dats.keeps

pub returns-clause-read : goal.returns-clause-read
returns-clause-read g c =
    read_done c.args.g.now c.args.t.now c.read_under.new.t c.args.scope.now c.args.refused.now
    (map dat_phrase c.args.binds.now) c.in_ok-rows.rows (type_rows c.in_ok-types.types)
    (record { dats = c.in_ok-dats.dats; choice = c.in_ok-choice.choice })
    (λ inner home. c.in_ok-rows.ensures inner home) c.in_ok-types.ensures c.in_ok-dats.ensures.dats
    c.in_ok-choice.ensures
