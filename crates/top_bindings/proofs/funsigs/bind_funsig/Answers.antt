use Rattle.std.proofs.Common.{refl}
use Rattle.cm_base.specs.declared.fault.Fault.TheVariants as fault
use Rattle.unit_semantics.specs.UnitPhrases.{funsig_phrase}
use Rattle.sml_modules.specs.Graphs.{functor_at, HasFunctor}
use Rattle.type_phrases.proofs.PartsRead.{passed_on}
use Rattle.structure_elab.specs.Moments.{moment}
use Rattle.top_bindings.specs.Bindings.{funsig_name, infer_funsig, IsFunsigRow}
use Rattle.top_bindings.proofs.Rows.{bind_first, bind_second, bind_memory, bind_done}
use Rattle.top_bindings.proofs.Sorts.{funsigs_kind}
use Rattle.top_bindings.proofs.funsigs.bind_funsig.Goals as goal

pub returns-in_err-check_functor : goal.returns-in_err-check_functor
returns-in_err-check_functor c =
    passed_on (IsFunsigRow (moment c.args.g.now c.args.t.now c.args.top.now) (funsig_phrase c.args.bind.now) c.args.made.now
    c.args.made.now (moment c.args.g.now c.args.t.now c.args.top.now)) c.from_residual.result
    c.in_err-check_functor.field-0.0 c.from_residual.ensures.1
    (bind_first funsig_name infer_funsig functor_at HasFunctor funsigs_kind
    {m0 = moment c.args.g.now c.args.t.now c.args.top.now} (funsig_phrase c.args.bind.now) c.args.made.now c.args.made.now
    c.in_err-check_functor.ensures)

pub returns-in_err-fun : goal.returns-in_err-fun
returns-in_err-fun c =
    passed_on (IsFunsigRow (moment c.args.g.now c.args.t.now c.args.top.now) (funsig_phrase c.args.bind.now) c.args.made.now
    c.args.made.now (moment c.elab_funsig.new.g c.elab_funsig.new.t c.elab_funsig.new.top))
    c.from_residual-in_err-fun.result c.in_err-fun.field-0.0 c.from_residual-in_err-fun.ensures.1
    (bind_second funsig_name infer_funsig functor_at HasFunctor funsigs_kind (funsig_phrase c.args.bind.now) c.args.made.now
    c.args.made.now c.requires.ready.there c.in_ok-check_functor.ensures c.in_err-fun.ensures)

pub returns-in_err-copy : goal.returns-in_err-copy
returns-in_err-copy c =
    passed_on (IsFunsigRow (moment c.args.g.now c.args.t.now c.args.top.now) (funsig_phrase c.args.bind.now) c.args.made.now
    c.args.made.now (moment c.elab_funsig.new.g c.elab_funsig.new.t c.elab_funsig.new.top))
    c.from_residual-in_err-copy.result fault.NoMemory c.from_residual-in_err-copy.ensures.1
    (bind_memory funsig_name infer_funsig functor_at HasFunctor funsigs_kind (funsig_phrase c.args.bind.now) c.args.made.now
    c.args.made.now c.in_ok-fun.ensures)

pub returns-in_err-bind : goal.returns-in_err-bind
returns-in_err-bind c =
    passed_on (IsFunsigRow (moment c.args.g.now c.args.t.now c.args.top.now) (funsig_phrase c.args.bind.now) c.args.made.now
    c.bind.new.self (moment c.elab_funsig.new.g c.elab_funsig.new.t c.elab_funsig.new.top))
    c.from_residual-in_err-bind.result fault.NoMemory c.from_residual-in_err-bind.ensures.1
    (bind_memory funsig_name infer_funsig functor_at HasFunctor funsigs_kind (funsig_phrase c.args.bind.now) c.args.made.now
    c.bind.new.self c.in_ok-fun.ensures)

pub returns : goal.returns
returns c =
    bind_done funsig_name infer_funsig functor_at HasFunctor funsigs_kind (funsig_phrase c.args.bind.now) c.args.made.now
    c.bind.new.self _ c.requires.ready.there c.in_ok-check_functor.ensures c.in_ok-fun.ensures
    c.requires.made c.in_ok-copy.ensures c.in_ok-bind.ensures.ok
