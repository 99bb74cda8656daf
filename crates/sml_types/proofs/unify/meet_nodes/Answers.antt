use Rattle.std.proofs.Common.{refl, sym, arith, ◌∙◌, ◌≡◌, ◌-◌}
use Rattle.std.proofs.Common.{rules, true, false}
use Rattle.sml_types.specs.Frames.{seen}
use Rattle.sml_types.proofs.Frames.{symbol_is_at}
use Rattle.sml_types.proofs.Pairing.{nodes_one, nodes_push, nodes_clash}
use Rattle.sml_types.proofs.unify.meet_nodes.Goals as goal

pub returns-then-nodes-depth-clause-answer : goal.returns-then-nodes-depth-clause-answer
returns-then-nodes-depth-clause-answer c = nodes_one c.args.table.now c.args.depth c.args.left c.args.right c.root-this.result
    c.root-that.result c.args.pairs.now c.is_kept.ensures.kept (omega arith) c.requires.left c.root-this.ensures.one
    c.root-that.ensures.one c.if-this-that.true (omega (arith, c.nodes.ensures, c.if-nodes-depth.true))

pub returns-in_ok-add-clause-answer : goal.returns-in_ok-add-clause-answer
returns-in_ok-add-clause-answer c =
    let e : c.node.result.now.symbol ≡ c.node-2.result.now.symbol = search rules in
    rw c.in_ok-add.ensures.ok (nodes_push c.args.table.now c.args.depth c.args.left c.args.right
    (record { left = c.root-this.result; right = c.root-that.result; next = 0; depth = c.args.depth - 1 }) c.args.pairs.now
    c.is_kept.ensures.kept (omega arith) c.root-this.ensures.within c.root-that.ensures.within c.root-this.ensures.one
    c.root-that.ensures.one
    (symbol_is_at (seen c.args.table.now) c.root-this.result c.node.result.now c.node.ensures ∙ e
    ∙ sym (symbol_is_at (seen c.args.table.now) c.root-that.result c.node-2.result.now c.node-2.ensures)) refl refl)

pub returns-else-is_same-clause-answer : goal.returns-else-is_same-clause-answer
returns-else-is_same-clause-answer c = nodes_clash c.args.table.now c.args.depth c.args.left c.args.right c.root-this.result c.root-that.result
    c.args.pairs.now c.is_kept.ensures.kept (omega arith) c.root-this.ensures.within c.root-that.ensures.within
    c.root-this.ensures.one c.root-that.ensures.one
    (λ q. let e : c.node.result.now.symbol ≡ c.node-2.result.now.symbol =
    sym (symbol_is_at (seen c.args.table.now) c.root-this.result c.node.result.now c.node.ensures) ∙ q
    ∙ symbol_is_at (seen c.args.table.now) c.root-that.result c.node-2.result.now c.node-2.ensures in
    let k : c.is_same.result ≡ true = c.is_same.ensures.1 e in
    let l : c.is_same.result ≡ false = c.if-is_same.false in cc)
