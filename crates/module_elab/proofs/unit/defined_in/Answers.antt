use Rattle.std.proofs.Common.{◌∙◌}
use Rattle.std.specs.Prelude.{Ok, Err}
use Rattle.cm_base.specs.declared.fault.Fault.TheVariants as fault
use Rattle.unification.specs.Unification.{depth}
use Rattle.sml_modules.specs.Graphs.{top_at}
use Rattle.sml_modules.specs.declared.id.TopId.{TopId}
use Rattle.initial_basis.specs.Basis.{basis_env, basis_top}
use Rattle.unit_semantics.specs.UnitPhrases.{unit_phrases}
use Rattle.unit_semantics.specs.UnitInference.{infer_unit}
use Rattle.module_scopes.specs.Tops.{defined_top, top_seen}
use Rattle.type_phrases.specs.Inferred.{Answers, progress}
use Rattle.type_phrases.proofs.PartsRead.{passed_on}
use Rattle.type_phrases.proofs.Keeping.{keeps_all}
use Rattle.type_phrases.proofs.Steps.{still_refused}
use Rattle.core_rules.proofs.Chains.{graph_then}
use Rattle.module_elab.proofs.Starting.{ready_first, unit_as, unit_made, of_decs}
use Rattle.module_elab.proofs.unit.defined_in.Goals as goal

pub returns-in_err-top-clause-infers : goal.returns-in_err-top-clause-infers
returns-in_err-top-clause-infers c =
    passed_on (λ r. Answers (infer_unit depth c.args.g.now.home (basis_env c.args.options.nobasis) (top_at c.args.g.now c.args.given)
    c.args.options.opaque (unit_phrases c.args.unit.now) (progress c.args.t.now c.args.g.now))
    (λ (id : TopId). (top_at c.basis.new.g id, progress c.args.t.now c.basis.new.g)) r)
    c.from_residual.result fault.NoMemory c.from_residual.ensures.1 tt

pub returns-in_err-top-clause-ids : goal.returns-in_err-top-clause-ids
returns-in_err-top-clause-ids c = keeps_all c.args.t.now

pub returns-in_err-top-clause-graph : goal.returns-in_err-top-clause-graph
returns-in_err-top-clause-graph c = c.in_err-top.ensures.err.keeps

pub returns-in_err-top-clause-home : goal.returns-in_err-top-clause-home
returns-in_err-top-clause-home c = c.in_err-top.ensures.err.home

pub returns-in_err-env-clause-infers : goal.returns-in_err-env-clause-infers
returns-in_err-env-clause-infers c =
    passed_on (λ r. Answers (infer_unit depth c.args.g.now.home (basis_env c.args.options.nobasis) (top_at c.args.g.now c.args.given)
    c.args.options.opaque (unit_phrases c.args.unit.now) (progress c.args.t.now c.args.g.now))
    (λ (id : TopId). (top_at c.basis.new.g id, progress c.args.t.now c.basis.new.g)) r)
    c.from_residual-in_err-env.result fault.NoMemory c.from_residual-in_err-env.ensures.1 tt

pub returns-in_err-env-clause-ids : goal.returns-in_err-env-clause-ids
returns-in_err-env-clause-ids c = keeps_all c.args.t.now

pub returns-in_err-env-clause-graph : goal.returns-in_err-env-clause-graph
returns-in_err-env-clause-graph c = c.in_ok-top.ensures.ok.keeps

pub returns-in_err-env-clause-home : goal.returns-in_err-env-clause-home
returns-in_err-env-clause-home c = c.in_ok-top.ensures.ok.home

pub returns-in_err-scope-clause-infers : goal.returns-in_err-scope-clause-infers
returns-in_err-scope-clause-infers c =
    passed_on (λ r. Answers (infer_unit depth c.args.g.now.home (basis_env c.args.options.nobasis) (top_at c.args.g.now c.args.given)
    c.args.options.opaque (unit_phrases c.args.unit.now) (progress c.args.t.now c.args.g.now))
    (λ (id : TopId). (top_at c.basis.new.g id, progress c.args.t.now c.basis.new.g)) r)
    c.from_residual-in_err-scope.result fault.NoMemory c.from_residual-in_err-scope.ensures.1 tt

pub returns-in_err-scope-clause-ids : goal.returns-in_err-scope-clause-ids
returns-in_err-scope-clause-ids c = keeps_all c.args.t.now

pub returns-in_err-scope-clause-graph : goal.returns-in_err-scope-clause-graph
returns-in_err-scope-clause-graph c = c.in_ok-top.ensures.ok.keeps

pub returns-in_err-scope-clause-home : goal.returns-in_err-scope-clause-home
returns-in_err-scope-clause-home c = c.in_ok-top.ensures.ok.home

pub is_ready_top-requires : goal.is_ready_top-requires
is_ready_top-requires c = λ k.
    ready_first c.args.g.now c.basis.new.g c.args.t.now c.args.options.nobasis c.in_ok-top.top c.args.given c.in_ok-env.env
    c.in_ok-scope.scope c.requires.fit c.requires.given c.in_ok-top.ensures.ok c.in_ok-env.ensures
    c.in_ok-scope.ensures.seen c.in_ok-scope.ensures.bare c.in_ok-scope.ensures.there k

pub elab_tops-requires-clause-ready : goal.elab_tops-requires-clause-ready
elab_tops-requires-clause-ready c = c.is_ready_top.ensures

pub elab_tops-requires-clause-nothing : goal.elab_tops-requires-clause-nothing
elab_tops-requires-clause-nothing c = c.in_ok-scope.ensures.defined

pub returns-in_err-elab_tops-clause-infers : goal.returns-in_err-elab_tops-clause-infers
returns-in_err-elab_tops-clause-infers c =
    passed_on (λ r. Answers (infer_unit depth c.args.g.now.home (basis_env c.args.options.nobasis) (top_at c.args.g.now c.args.given)
    c.args.options.opaque (unit_phrases c.args.unit.now) (progress c.args.t.now c.args.g.now))
    (λ (id : TopId). (top_at c.elab_tops.new.g id, progress c.elab_tops.new.t c.elab_tops.new.g)) r)
    c.from_residual-in_err-elab_tops.result c.in_err-elab_tops.field-0.0 c.from_residual-in_err-elab_tops.ensures.1
    (still_refused (infer_unit depth c.args.g.now.home (basis_env c.args.options.nobasis) (top_at c.args.g.now c.args.given)
    c.args.options.opaque (unit_phrases c.args.unit.now) (progress c.args.t.now c.args.g.now))
    (λ (u : Unit {0}). (defined_top c.elab_tops.new.g c.elab_tops.new.top.defined, progress c.elab_tops.new.t c.elab_tops.new.g))
    (λ (id : TopId). (top_at c.elab_tops.new.g id, progress c.elab_tops.new.t c.elab_tops.new.g))
    c.in_err-elab_tops.field-0.0
    (unit_as c.args.g.now c.basis.new.g c.args.t.now (basis_top c.args.options.nobasis) c.in_ok-top.top c.args.given
    c.in_ok-env.env c.in_ok-scope.scope c.args.options.opaque (unit_phrases c.args.unit.now)
    (λ (u : Unit {0}). (defined_top c.elab_tops.new.g c.elab_tops.new.top.defined, progress c.elab_tops.new.t c.elab_tops.new.g))
    (Err c.in_err-elab_tops.field-0.0) c.requires.given
    c.in_ok-top.ensures.ok c.in_ok-env.ensures c.in_ok-scope.ensures.seen
    (of_decs c.basis.new.g.home (top_seen c.basis.new.g c.in_ok-scope.scope) (progress c.args.t.now c.basis.new.g)
    (λ (u : Unit {0}). (defined_top c.elab_tops.new.g c.elab_tops.new.top.defined, progress c.elab_tops.new.t c.elab_tops.new.g)) (Err c.in_err-elab_tops.field-0.0) _ _
    c.args.options.opaque c.as_slice.ensures c.in_err-elab_tops.ensures.infers)))

pub returns-in_err-elab_tops-clause-ids : goal.returns-in_err-elab_tops-clause-ids
returns-in_err-elab_tops-clause-ids c = c.in_err-elab_tops.ensures.goes.ids

pub returns-in_err-elab_tops-clause-graph : goal.returns-in_err-elab_tops-clause-graph
returns-in_err-elab_tops-clause-graph c =
    graph_then c.args.g.now c.basis.new.g c.elab_tops.new.g c.in_ok-top.ensures.ok.keeps c.in_err-elab_tops.ensures.goes.graph

pub returns-in_err-elab_tops-clause-home : goal.returns-in_err-elab_tops-clause-home
returns-in_err-elab_tops-clause-home c = c.in_err-elab_tops.ensures.goes.home ∙ c.in_ok-top.ensures.ok.home

pub make_defined-requires : goal.make_defined-requires
make_defined-requires c = c.in_ok-elab_tops.ensures.there.defined

pub returns-in_err-made-clause-infers : goal.returns-in_err-made-clause-infers
returns-in_err-made-clause-infers c =
    passed_on (λ r. Answers (infer_unit depth c.args.g.now.home (basis_env c.args.options.nobasis) (top_at c.args.g.now c.args.given)
    c.args.options.opaque (unit_phrases c.args.unit.now) (progress c.args.t.now c.args.g.now))
    (λ (id : TopId). (top_at c.make_defined.new.g id, progress c.elab_tops.new.t c.make_defined.new.g)) r)
    c.from_residual-in_err-made.result fault.NoMemory c.from_residual-in_err-made.ensures.1 tt

pub returns-in_err-made-clause-ids : goal.returns-in_err-made-clause-ids
returns-in_err-made-clause-ids c = c.in_ok-elab_tops.ensures.goes.ids

pub returns-in_err-made-clause-graph : goal.returns-in_err-made-clause-graph
returns-in_err-made-clause-graph c =
    graph_then c.args.g.now c.elab_tops.new.g c.make_defined.new.g
    (graph_then c.args.g.now c.basis.new.g c.elab_tops.new.g c.in_ok-top.ensures.ok.keeps c.in_ok-elab_tops.ensures.goes.graph)
    c.in_err-made.ensures.kept

pub returns-in_err-made-clause-home : goal.returns-in_err-made-clause-home
returns-in_err-made-clause-home c =
    c.in_err-made.ensures.home ∙ (c.in_ok-elab_tops.ensures.goes.home ∙ c.in_ok-top.ensures.ok.home)

pub returns-clause-infers : goal.returns-clause-infers
returns-clause-infers c =
    unit_made c.elab_tops.new.g c.make_defined.new.g c.elab_tops.new.t
    (infer_unit depth c.args.g.now.home (basis_env c.args.options.nobasis) (top_at c.args.g.now c.args.given)
    c.args.options.opaque (unit_phrases c.args.unit.now) (progress c.args.t.now c.args.g.now))
    (defined_top c.elab_tops.new.g c.elab_tops.new.top.defined) c.in_ok-made.made
    (unit_as c.args.g.now c.basis.new.g c.args.t.now (basis_top c.args.options.nobasis) c.in_ok-top.top c.args.given
    c.in_ok-env.env c.in_ok-scope.scope c.args.options.opaque (unit_phrases c.args.unit.now)
    (λ (u : Unit {0}). (defined_top c.elab_tops.new.g c.elab_tops.new.top.defined, progress c.elab_tops.new.t c.elab_tops.new.g))
    (Ok tt) c.requires.given c.in_ok-top.ensures.ok c.in_ok-env.ensures c.in_ok-scope.ensures.seen
    (of_decs c.basis.new.g.home (top_seen c.basis.new.g c.in_ok-scope.scope) (progress c.args.t.now c.basis.new.g)
    (λ (u : Unit {0}). (defined_top c.elab_tops.new.g c.elab_tops.new.top.defined, progress c.elab_tops.new.t c.elab_tops.new.g)) (Ok tt) _ _
    c.args.options.opaque c.as_slice.ensures c.in_ok-elab_tops.ensures.infers))
    c.in_ok-made.ensures.ok

pub returns-clause-there : goal.returns-clause-there
returns-clause-there c = c.in_ok-made.ensures.ok.there

pub returns-clause-ids : goal.returns-clause-ids
returns-clause-ids c = c.in_ok-elab_tops.ensures.goes.ids

pub returns-clause-graph : goal.returns-clause-graph
returns-clause-graph c =
    graph_then c.args.g.now c.elab_tops.new.g c.make_defined.new.g
    (graph_then c.args.g.now c.basis.new.g c.elab_tops.new.g c.in_ok-top.ensures.ok.keeps c.in_ok-elab_tops.ensures.goes.graph)
    c.in_ok-made.ensures.ok.keeps

pub returns-clause-home : goal.returns-clause-home
returns-clause-home c =
    c.in_ok-made.ensures.ok.home ∙ (c.in_ok-elab_tops.ensures.goes.home ∙ c.in_ok-top.ensures.ok.home)
