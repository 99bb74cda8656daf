use Rattle.std.proofs.Common.{◌+◌, drop, length, map}
use Rattle.std.specs.Prelude.{Result, Ok, Err}
use Rattle.cm_base.specs.declared.fault.Fault.{Fault}
use Rattle.semantic_objects.specs.declared.entry.TypeStr.{TypeStr}
use Rattle.semantic_objects.specs.Environments.{empty_env}
use Rattle.bare_phrases.specs.PhraseOf.{dat_phrase}
use Rattle.name_trails.specs.Trails.{Rows}
use Rattle.static_semantics.specs.DatatypeInference.{new_types}
use Rattle.type_phrases.specs.Inferred.{Answers}
use Rattle.type_phrases.proofs.PartsRead.{drop_item, drop_end}
use Rattle.datatype_elab.proofs.Naming.{types_env, types_none, types_more, types_refused, types_all, checked_by, passed_on}
use Rattle.datatype_elab.proofs.names.new_types.Goals as goal

pub loop-bind-init : goal.loop-bind-init
loop-bind-init c =
    types_none c.args.g.now c.args.binds.now c.made-number.result c.new-rows.result c.made-number.ensures
    c.new-rows.ensures

pub loop-bind-preserved : goal.loop-bind-preserved
loop-bind-preserved c =
    let binds = c.args.binds.now in
    let i = c.loop-bind.bind-index in
    types_more c.args.g.now binds (drop i binds) (drop (i + 1) binds) c.bind-item.result c.loop-bind.number
    c.in_ok-number.number c.len.result c.loop-bind.rows c.bind.new.self c.in_ok-name.name c.in_ok-entry.entry
    c.in_ok-text.text c.loop-bind.invariant
    (drop_item binds i c.bind-item.result c.loop-bind-test.true c.bind-item.is)
    (checked_by c.args.g.now c.loop-bind.rows c.bind-item.result c.is_bound.result (Ok tt) c.is_bound.ensures
    c.in_ok-refuse_where.ensures) c.len.ensures c.in_ok-name.ensures c.in_ok-entry.ensures c.in_ok-text.ensures
    c.in_ok-bind.ensures.ok c.in_ok-number.ensures

pub returns-in_err-refuse_where : goal.returns-in_err-refuse_where
returns-in_err-refuse_where c = λ inner home.
    let binds = c.args.binds.now in
    let i = c.loop-bind.bind-index in
    passed_on (λ (r : Result (Rows TypeStr) Fault).
    Answers (new_types inner (map dat_phrase binds) (length c.args.g.now.made) empty_env) types_env r)
    c.from_residual.result c.in_err-refuse_where.field-0.0 c.from_residual.ensures.1
    (types_refused c.args.g.now binds (drop i binds) (drop (i + 1) binds) c.bind-item.result c.loop-bind.number
    c.loop-bind.rows c.in_err-refuse_where.field-0.0 c.loop-bind.invariant
    (drop_item binds i c.bind-item.result c.loop-bind-test.true c.bind-item.is)
    (checked_by c.args.g.now c.loop-bind.rows c.bind-item.result c.is_bound.result (Err c.in_err-refuse_where.field-0.0)
    c.is_bound.ensures
    c.in_err-refuse_where.ensures) inner home)

pub returns : goal.returns
returns c = λ inner home.
    types_all c.args.g.now c.args.binds.now (drop c.loop-bind.bind-index c.args.binds.now) c.loop-bind.number
    c.loop-bind.rows c.loop-bind.invariant
    (drop_end c.args.binds.now c.loop-bind.bind-index c.loop-bind-test.false) inner home
