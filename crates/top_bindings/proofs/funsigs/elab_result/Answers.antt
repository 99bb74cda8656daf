use Rattle.std.proofs.Common.{refl}
use Rattle.cm_base.specs.declared.fault.Fault.TheVariants as fault
use Rattle.sml_modules.proofs.Keeping.{keeps, extends_self}
use Rattle.unit_semantics.specs.UnitPhrases.{funsig_phrase}
use Rattle.structure_elab.specs.Moments.{moment}
use Rattle.structure_elab.proofs.Chains.{passed}
use Rattle.top_bindings.proofs.Bodies.{parts_there, result_first, result_memory, result_done}
use Rattle.top_bindings.proofs.funsigs.elab_result.Goals as goal

pub read_sig-requires : goal.read_sig-requires
read_sig-requires c = c.in_ok-sig.ensures.has

pub make_functor-requires-clause-param : goal.make_functor-requires-clause-param
make_functor-requires-clause-param c = c.in_ok-sig.ensures.goes.graph.has_env c.args.param.now.env c.requires.param

pub make_functor-requires-clause-body : goal.make_functor-requires-clause-body
make_functor-requires-clause-body c = c.in_ok-result.ensures.there

pub returns-in_err-sig : goal.returns-in_err-sig
returns-in_err-sig c =
    passed c.from_residual.result c.in_err-sig.field-0.0 c.from_residual.ensures.1
    (result_first (funsig_phrase c.args.bind.now) c.args.param.now c.args.inside.now c.in_err-sig.ensures)

pub returns-in_err-result : goal.returns-in_err-result
returns-in_err-result c =
    passed c.from_residual-in_err-result.result fault.NoMemory c.from_residual-in_err-result.ensures.1
    (result_memory (funsig_phrase c.args.bind.now) c.args.param.now c.args.inside.now c.signature_with_param.new.g
    (keeps c.signature_with_param.new.g c.signature_with_param.new.g (extends_self c.signature_with_param.new.g)) refl
    c.requires.there c.in_ok-sig.ensures)

pub returns-in_err-fun : goal.returns-in_err-fun
returns-in_err-fun c =
    passed c.from_residual-in_err-fun.result fault.NoMemory c.from_residual-in_err-fun.ensures.1
    (result_memory (funsig_phrase c.args.bind.now) c.args.param.now c.args.inside.now c.make_functor.new.g
    c.in_err-fun.ensures.err c.in_err-fun.ensures.home c.requires.there c.in_ok-sig.ensures)

pub returns : goal.returns
returns c =
    result_done (funsig_phrase c.args.bind.now) c.args.param.now c.args.inside.now c.in_ok-result.result
    c.make_functor.new.g c.requires.there c.requires.param c.requires.inside c.in_ok-sig.ensures
    c.in_ok-result.ensures.parts c.in_ok-fun.ensures.ok
