use Rattle.std.proofs.Common.{sym, subst}
use Rattle.cm_base.specs.declared.fault.Fault.TheVariants as fault
use Rattle.unit_semantics.specs.UnitPhrases.{fun_phrase}
use Rattle.structure_elab.specs.Moments.{moment}
use Rattle.structure_elab.proofs.Chains.{passed, there_kept}
use Rattle.top_bindings.proofs.Bodies.{parts_there, body_first, body_second, body_memory, body_done}
use Rattle.top_bindings.proofs.functors.elab_body.Goals as goal

pub without_variables-requires : goal.without_variables-requires
without_variables-requires c = c.in_ok-made.ensures.has

pub close_functor-requires-clause-param : goal.close_functor-requires-clause-param
close_functor-requires-clause-param c =
    c.in_ok-known.ensures.graph.keeps.has_env c.args.param.now.env
    (c.in_ok-made.ensures.goes.graph.has_env c.args.param.now.env c.requires.param)

pub close_functor-requires-clause-body : goal.close_functor-requires-clause-body
close_functor-requires-clause-body c = c.in_ok-known.ensures.there

pub returns-in_err-made : goal.returns-in_err-made
returns-in_err-made c =
    passed c.from_residual.result c.in_err-made.field-0.0 c.from_residual.ensures.1
    (body_first (fun_phrase c.args.bind.now) c.args.param.now c.args.inside.now c.in_err-made.ensures)

pub returns-in_err-known : goal.returns-in_err-known
returns-in_err-known c =
    passed c.from_residual-in_err-known.result c.in_err-known.field-0.0 c.from_residual-in_err-known.ensures.1
    (body_second (fun_phrase c.args.bind.now) c.args.param.now c.args.inside.now c.requires.ready.there
    (there_kept {new = moment c.elab_with_param.new.g c.elab_with_param.new.t c.elab_with_param.new.top}
    c.requires.ready.there c.in_ok-made.ensures.goes c.in_ok-made.ensures.left)
    c.in_ok-made.ensures c.without_variables.new.g c.without_variables.new.t c.in_err-known.ensures.graph
    c.in_err-known.ensures.table c.in_err-known.ensures.answers)

pub returns-in_err-fun : goal.returns-in_err-fun
returns-in_err-fun c =
    passed c.from_residual-in_err-fun.result fault.NoMemory c.from_residual-in_err-fun.ensures.1
    (body_memory (fun_phrase c.args.bind.now) c.args.param.now c.args.inside.now c.requires.ready.there
    (there_kept {new = moment c.elab_with_param.new.g c.elab_with_param.new.t c.elab_with_param.new.top}
    c.requires.ready.there c.in_ok-made.ensures.goes c.in_ok-made.ensures.left)
    c.in_ok-made.ensures c.without_variables.new.g c.without_variables.new.t c.in_ok-known.ensures.graph
    c.in_ok-known.ensures.table c.in_ok-known.known c.close_functor.new.g c.in_err-fun.ensures.err c.in_err-fun.ensures.home
    c.in_ok-known.ensures.answers c.in_ok-known.ensures.there)

pub returns : goal.returns
returns c =
    body_done (fun_phrase c.args.bind.now) c.args.param.now c.args.inside.now c.requires.ready.there
    (there_kept {new = moment c.elab_with_param.new.g c.elab_with_param.new.t c.elab_with_param.new.top}
    c.requires.ready.there c.in_ok-made.ensures.goes c.in_ok-made.ensures.left)
    c.in_ok-made.ensures c.without_variables.new.g c.without_variables.new.t c.in_ok-known.ensures.graph
    c.in_ok-known.ensures.table c.in_ok-known.known c.close_functor.new.g c.made-number.result c.made-number.ensures c.requires.param
    c.requires.inside c.in_ok-known.ensures.answers c.in_ok-known.ensures.there c.in_ok-fun.ensures.ok
