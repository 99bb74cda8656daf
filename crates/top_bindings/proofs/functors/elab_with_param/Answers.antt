use Rattle.std.proofs.Common.{refl, sym, subst}
use Rattle.cm_base.specs.declared.fault.Fault.TheVariants as fault
use Rattle.semantic_objects.specs.Environments.{empty_env, with_structure}
use Rattle.unification.specs.Unification.{depth}
use Rattle.sml_modules.specs.Graphs.{env_at}
use Rattle.bare_phrases.specs.PhraseOf.{str_phrase}
use Rattle.core_scopes.proofs.Scoping.{all_bare}
use Rattle.unit_semantics.specs.UnitPhrases.{module_phrase}
use Rattle.unit_semantics.specs.StructureInference.{infer_module}
use Rattle.module_growth.specs.Grown.{IsInside}
use Rattle.unit_derivations.specs.Promises.{every}
use Rattle.structure_elab.specs.Moments.{moment, progress_at}
use Rattle.structure_elab.proofs.Chains.{passed, memory, passes_top}
use Rattle.structure_elab.proofs.Entering.{over_same}
use Rattle.structure_elab.proofs.Steps.{under_stops, under_done}
use Rattle.top_bindings.proofs.functors.elab_with_param.Goals as goal

pub is_ready-requires : goal.is_ready-requires
is_ready-requires c = λ k. record {
  there = (c.in_ok-enter.ensures c.args.g.now c.requires.env).there c.requires.ready.there;
  kept = k;
  inside = subst (λ top. IsInside every c.args.g.now.home top
      (progress_at (moment c.args.g.now c.args.t.now c.args.top.now)))
      (sym (c.in_ok-enter.ensures c.args.g.now c.requires.env).seen) c.requires.ready.inside;
  bare = all_bare c.args.top.now.core c.enter.new.top.core (c.in_ok-enter.ensures c.args.g.now c.requires.env).bare
      c.requires.ready.bare;
}

pub returns-in_err-enter : goal.returns-in_err-enter
returns-in_err-enter c =
    passed c.from_residual.result fault.NoMemory c.from_residual.ensures.1
    (memory (passes_top (moment c.args.g.now c.args.t.now c.args.top.now) c.enter.new.top))

pub returns-in_err-made : goal.returns-in_err-made
returns-in_err-made c =
    passed c.from_residual-in_err-made.result c.in_err-made.field-0.0 c.from_residual-in_err-made.ensures.1
    (under_stops (with_structure c.args.param.now.text (env_at c.args.g.now c.args.env) empty_env)
    (λ home top st. infer_module depth home top (module_phrase (str_phrase c.args.body.now)) st)
    (c.in_ok-enter.ensures c.args.g.now c.requires.env) c.in_err-made.ensures)

pub returns : goal.returns
returns c =
    under_done (with_structure c.args.param.now.text (env_at c.args.g.now c.args.env) empty_env)
    (λ home top st. infer_module depth home top (module_phrase (str_phrase c.args.body.now)) st)
    (c.in_ok-enter.ensures c.args.g.now c.requires.env) (λ m top. refl) c.in_ok-made.ensures
    (c.leave.ensures c.args.top.now c.mark-before.ensures.is
    (over_same (c.in_ok-enter.ensures c.args.g.now c.requires.env).over c.in_ok-made.ensures.left))
