use Rattle.type_nodes.specs.Tables.{type_of}
use Rattle.unification.specs.Unification.{depth}
use Rattle.static_semantics.specs.CoreInference.{joined}
use Rattle.type_phrases.specs.Inferred.{progress}
use Rattle.pattern_elab.proofs.Stepping.{passed_on}
use Rattle.core_rules.specs.Rules.{IsRule}
use Rattle.core_rules.proofs.Ruling.{joined_done, joined_fails}
use Rattle.core_rules.proofs.rules.joined.Goals as goal

pub returns-in_err-unify_at : goal.returns-in_err-unify_at
returns-in_err-unify_at c =
    passed_on (λ r. IsRule c.args.g.now c.args.t.now c.unify_at.new.t (λ sc. joined depth sc c.args.at (type_of
    c.args.t.now c.args.ty) (type_of c.args.t.now c.args.other) (progress c.args.t.now c.args.g.now)) r)
    c.from_residual.result c.in_err-unify_at.field-0.0 c.from_residual.ensures.1
    (joined_fails c.args.g.now c.args.at c.args.t.now c.unify_at.new.t c.args.ty c.args.other
    c.in_err-unify_at.field-0.0 c.in_err-unify_at.ensures.answer c.in_err-unify_at.ensures.ids)

pub returns : goal.returns
returns c =
    joined_done c.args.g.now c.args.at c.args.t.now c.unify_at.new.t c.args.ty c.args.other
    c.in_ok-unify_at.ensures.answer c.in_ok-unify_at.ensures.ids c.requires.ty
