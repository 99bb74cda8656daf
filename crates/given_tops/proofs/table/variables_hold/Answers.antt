use Rattle.std.proofs.Common.{subst, arith}
use Rattle.semantic_objects.specs.declared.name.TyId.TheVariants as id
use Rattle.type_nodes.specs.Tables.{state}
use Rattle.inference_laws.specs.Nodes.{StateOf}
use Rattle.given_tops.specs.Names.{nodes_of}
use Rattle.given_tops.specs.Knowing.{Says}
use Rattle.given_tops.proofs.Walking.{refuted, shown}
use Rattle.given_tops.proofs.Knowing.{sure_next, all_sure, state_not}
use Rattle.given_tops.proofs.table.variables_hold.Goals as goal

pub loop-at-init : goal.loop-at-init
loop-at-init c = λ v lt. absurd (omega (arith, lt))

pub loop-at-preserved : goal.loop-at-preserved
loop-at-preserved c =
    sure_next c.args.t.now (nodes_of c.args.limits.now) c.loop-at.at _ c.loop-at.invariant c.in_ok-id_holds.ensures
    c.if-not-branch.false

pub returns-then-not-branch : goal.returns-then-not-branch
returns-then-not-branch c =
    refuted (StateOf (nodes_of c.args.limits.now) (state c.args.t.now))
    (state_not c.args.t.now (nodes_of c.args.limits.now) c.loop-at.at
    (subst (Says c.args.t.now (nodes_of c.args.limits.now) (id.Variable c.loop-at.at)) c.if-not-branch.true
    c.in_ok-id_holds.ensures))

pub returns : goal.returns
returns c =
    shown (StateOf (nodes_of c.args.limits.now) (state c.args.t.now))
    (all_sure c.args.t.now (nodes_of c.args.limits.now) c.loop-at.at _ c.is_kept.ensures c.variable_count-count.ensures
    c.loop-at-test.false c.loop-at.invariant)
