use Rattle.std.proofs.Common.{◌+◌, ◌++◌, ap, drop, map}
use Rattle.bare_phrases.specs.PhraseOf.{dat_phrase}
use Rattle.module_semantics.specs.SignatureInference.{names_of_types}
use Rattle.type_phrases.proofs.PartsRead.{drop_item, drop_end}
use Rattle.datatype_specs.specs.Steps.{env_of_new}
use Rattle.datatype_specs.proofs.Specifying.{names_next, names_end}
use Rattle.datatype_specs.proofs.datatypes.add_names.Goals as goal

pub loop-bind-preserved : goal.loop-bind-preserved
loop-bind-preserved c =
    let binds = c.args.binds.now in
    let i = c.loop-bind.bind-index in
    let env = env_of_new c.args.new.now in
    names_next env (dat_phrase c.bind-item.result) (map dat_phrase (drop i binds)) (map dat_phrase (drop (i + 1) binds))
    c.loop-bind.bound c.add_name.new.bound (c.args.bound.now ++ names_of_types (map dat_phrase binds) env)
    (ap (map dat_phrase) (drop_item binds i c.bind-item.result c.loop-bind-test.true c.bind-item.is))
    c.loop-bind.invariant c.in_ok-add_name.ensures

pub returns : goal.returns
returns c =
    let binds = c.args.binds.now in
    let i = c.loop-bind.bind-index in
    let env = env_of_new c.args.new.now in
    names_end env (map dat_phrase (drop i binds)) c.loop-bind.bound
    (c.args.bound.now ++ names_of_types (map dat_phrase binds) env)
    (ap (map dat_phrase) (drop_end binds i c.loop-bind-test.false)) c.loop-bind.invariant
