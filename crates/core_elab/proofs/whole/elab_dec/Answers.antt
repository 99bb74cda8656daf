use Rattle.std.proofs.Common.{◌∙◌, subst, sym}
use Rattle.unification.specs.Unification.{depth}
use Rattle.type_nodes.specs.Tables.{IsFrontOf}
use Rattle.sml_modules.specs.Graphs.{env_at}
use Rattle.sml_modules.specs.declared.id.EnvId.{EnvId}
use Rattle.bare_phrases.specs.PhraseOf.{dec_phrase}
use Rattle.static_semantics.specs.Inferring.{outermost}
use Rattle.static_semantics.specs.CoreInference.{infer_dec}
use Rattle.type_phrases.specs.Inferred.{progress}
use Rattle.type_phrases.proofs.Keeping.{keeps_all}
use Rattle.type_phrases.proofs.Steps.{still_refused}
use Rattle.core_soundness.proofs.Promised.{dec_follows}
use Rattle.core_rules.proofs.Ruling.{keeps_same}
use Rattle.core_elab.proofs.Beginning.{graph_itself}
use Rattle.core_elab.proofs.whole.elab_dec.Goals as goal

pub undo-requires : goal.undo-requires
undo-requires c =
    subst (λ t. IsFrontOf t c.declare_in.new.t) (sym c.mark-begun.ensures) c.in-Err.ensures.ids.front

pub returns-clause-infers : goal.returns-clause-infers
returns-clause-infers c =
    still_refused (infer_dec depth (outermost c.args.g.now.home (env_at c.args.g.now c.args.env))
    (dec_phrase c.args.dec.now) (progress c.args.t.now c.args.g.now))
    (λ (id : EnvId). (env_at c.declare_in.new.g id, progress c.declare_in.new.t c.declare_in.new.g))
    (λ (id : EnvId). (env_at c.declare_in.new.g id, progress c.undo.new.self c.declare_in.new.g))
    c.in-Err.fault c.in-Err.ensures.infers

pub returns-clause-ids : goal.returns-clause-ids
returns-clause-ids c = keeps_same c.args.t.now c.undo.new.self (c.undo.ensures ∙ c.mark-begun.ensures)

pub returns-in-Ok-clause-sound : goal.returns-in-Ok-clause-sound
returns-in-Ok-clause-sound c = λ has types.
    dec_follows depth (outermost c.args.g.now.home (env_at c.args.g.now c.args.env)) (dec_phrase c.args.dec.now)
    (progress c.args.t.now c.args.g.now)
    (env_at c.declare_in.new.g c.in-Ok.id, progress c.declare_in.new.t c.declare_in.new.g) (c.is_known.ensures.ready c.if-not-is_known.false)
    c.in-Ok.ensures.infers has types

pub declare_in-requires-clause-ready : goal.declare_in-requires-clause-ready
declare_in-requires-clause-ready c = c.is_known.ensures.ready c.if-not-is_known.false

pub returns-in-Ok-clause-foreign : goal.returns-in-Ok-clause-foreign
returns-in-Ok-clause-foreign c = λ no. absurd (no (c.is_known.ensures.of c.if-not-is_known.false))

pub returns-clause-foreign : goal.returns-clause-foreign
returns-clause-foreign c = λ no. absurd (no (c.is_known.ensures.of c.if-not-is_known.false))

pub returns-then-not-is_known-clause-ids : goal.returns-then-not-is_known-clause-ids
returns-then-not-is_known-clause-ids c = keeps_all c.args.t.now

pub returns-then-not-is_known-clause-graph : goal.returns-then-not-is_known-clause-graph
returns-then-not-is_known-clause-graph c = graph_itself c.args.g.now
