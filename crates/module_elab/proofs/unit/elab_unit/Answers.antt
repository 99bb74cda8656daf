use Rattle.std.proofs.Common.{◌∙◌, subst, sym, ap, length}
use Rattle.std.specs.Prelude.{Ok, Err}
use Rattle.unification.specs.Unification.{depth}
use Rattle.type_nodes.specs.Tables.{IsFrontOf}
use Rattle.sml_modules.specs.Graphs.{top_at}
use Rattle.sml_modules.specs.declared.id.TopId.{TopId}
use Rattle.initial_basis.specs.Basis.{basis_env}
use Rattle.initial_basis.proofs.Adding.{keeps_self}
use Rattle.unit_semantics.specs.UnitPhrases.{unit_phrases}
use Rattle.unit_semantics.specs.UnitInference.{infer_unit}
use Rattle.type_phrases.specs.Inferred.{progress}
use Rattle.type_phrases.proofs.Keeping.{keeps_all}
use Rattle.type_phrases.proofs.Steps.{still_refused}
use Rattle.core_rules.proofs.Ruling.{keeps_same}
use Rattle.module_elab.proofs.Starting.{alone_from, sound_from}
use Rattle.module_elab.proofs.unit.elab_unit.Goals as goal

pub undo-requires : goal.undo-requires
undo-requires c =
    subst (λ t. IsFrontOf t c.defined_in.new.t) (sym c.mark-begun.ensures) c.in-Err.ensures.ids.front

pub returns-clause-infers : goal.returns-clause-infers
returns-clause-infers c =
    still_refused (infer_unit depth c.args.g.now.home (basis_env c.args.options.nobasis) (top_at c.args.g.now c.args.given)
    c.args.options.opaque (unit_phrases c.args.unit.now) (progress c.args.t.now c.args.g.now))
    (λ (id : TopId). (top_at c.defined_in.new.g id, progress c.defined_in.new.t c.defined_in.new.g))
    (λ (id : TopId). (top_at c.defined_in.new.g id, progress c.undo.new.self c.defined_in.new.g))
    c.in-Err.fault c.in-Err.ensures.infers

pub returns-clause-ids : goal.returns-clause-ids
returns-clause-ids c = keeps_same c.args.t.now c.undo.new.self (c.undo.ensures ∙ c.mark-begun.ensures)

pub returns-in-Ok-clause-alone : goal.returns-in-Ok-clause-alone
returns-in-Ok-clause-alone c = λ none.
    alone_from c.args.g.now c.args.t.now c.args.options.nobasis c.args.given c.args.options.opaque
    (unit_phrases c.args.unit.now)
    (λ (id : TopId). (top_at c.defined_in.new.g id, progress c.defined_in.new.t c.defined_in.new.g))
    (Ok c.in-Ok.id) (c.is_given.ensures c.if-not-is_given.false) c.is_kept.ensures none c.in-Ok.ensures.infers

pub returns-clause-alone : goal.returns-clause-alone
returns-clause-alone c = λ none.
    alone_from c.args.g.now c.args.t.now c.args.options.nobasis c.args.given c.args.options.opaque
    (unit_phrases c.args.unit.now)
    (λ (id : TopId). (top_at c.defined_in.new.g id, progress c.defined_in.new.t c.defined_in.new.g))
    (Err c.in-Err.fault) (c.is_given.ensures c.if-not-is_given.false) c.is_kept.ensures none c.in-Err.ensures.infers

pub returns-in-Ok-clause-sound : goal.returns-in-Ok-clause-sound
returns-in-Ok-clause-sound c = λ has.
    sound_from c.args.g.now c.args.t.now c.args.options.nobasis c.args.given c.args.options.opaque
    (unit_phrases c.args.unit.now)
    (top_at c.defined_in.new.g c.in-Ok.id, progress c.defined_in.new.t c.defined_in.new.g)
    (c.is_given.ensures c.if-not-is_given.false) c.is_kept.ensures has c.in-Ok.ensures.infers

pub defined_in-requires-clause-fit : goal.defined_in-requires-clause-fit
defined_in-requires-clause-fit c = c.is_given.ensures c.if-not-is_given.false

pub returns-in-Ok-clause-foreign : goal.returns-in-Ok-clause-foreign
returns-in-Ok-clause-foreign c = λ no. absurd (no (c.is_given.ensures c.if-not-is_given.false))

pub returns-clause-foreign : goal.returns-clause-foreign
returns-clause-foreign c = λ no. absurd (no (c.is_given.ensures c.if-not-is_given.false))

pub returns-then-not-is_given-clause-ids : goal.returns-then-not-is_given-clause-ids
returns-then-not-is_given-clause-ids c = keeps_all c.args.t.now

pub returns-then-not-is_given-clause-graph : goal.returns-then-not-is_given-clause-graph
returns-then-not-is_given-clause-graph c = keeps_self c.args.g.now
