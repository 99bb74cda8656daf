use Rattle.std.proofs.Common.{◌≡◌, ◌+◌, [], ◌∷◌, ◌++◌, length, refl, ap, ◌∙◌, arith}
use Rattle.type_nodes.proofs.Making.{length_snoc}
use Rattle.type_schemes.proofs.Adding.{adds_nothing, adds_then}
use Rattle.table_schemes.proofs.Entering.{entered_nothing, entered_next, entered_root}
use Rattle.table_schemes.proofs.enters.enter_nodes.Goals as goal

pub loop-at-init : goal.loop-at-init
loop-at-init c = record {
  counted = ap length c.new-parts.ensures;
  entered = entered_nothing c.args.table.now c.args.xs.now c.new-nodes.result c.new-parts.result c.new-nodes.ensures c.new-parts.ensures;
  births = refl;
  state = refl;
  added = adds_nothing c.args.table.now;
}

pub loop-at-preserved : goal.loop-at-preserved
loop-at-preserved c =
    let old = c.loop-at.table in
    let new = c.enter_node.new.table in
    let inv = c.loop-at.invariant in
    record {
      counted = ap length c.in_ok-add.ensures.ok ∙ length_snoc c.loop-at.parts c.in_ok-part.part ∙ ap (λ n. n + 1) inv.counted;
      entered = entered_next old new c.args.xs.now c.loop-at.nodes c.enter_node.new.nodes c.loop-at.parts c.add.new.self
          c.in_ok-part.part c.loop-at.at c.enter_node.ensures.added c.in_ok-part.ensures.more c.in_ok-part.ensures.nodes inv.entered
          c.in_ok-part.ensures.tree inv.counted c.in_ok-add.ensures.ok;
      births = c.enter_node.ensures.births ∙ inv.births;
      state = c.in_ok-part.ensures.state ∙ inv.state;
      added = adds_then c.args.table.now old new inv.added c.enter_node.ensures.added;
    }

pub returns-in-Some-Some-clause-nodes : goal.returns-in-Some-Some-clause-nodes
returns-in-Some-Some-clause-nodes c = c.loop-at.invariant.entered.nodes

pub returns-in-Some-Some-clause-root : goal.returns-in-Some-Some-clause-root
returns-in-Some-Some-clause-root c =
    let k : c.loop-at.at ≡ length c.args.xs.now =
    let k = c.loop-at-test.false in let l = c.loop-at.auto.at-end in omega (arith, k, l) in
    entered_root c.loop-at.table c.args.xs.now c.loop-at.nodes c.loop-at.parts c.pop.new.self c.in-Some-Some.root
    c.loop-at.invariant.entered (c.loop-at.invariant.counted ∙ k)
    (c.in-Some-Some.ensures ∙ ap (λ o. c.pop.new.self ++ o ∷ []) c.in-Some-Some.field-0-is)
