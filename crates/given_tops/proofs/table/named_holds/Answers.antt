use Rattle.std.proofs.Common.{sym, ◌∙◌}
use Rattle.semantic_objects.specs.declared.symbol.Symbol.TheVariants as symbol
use Rattle.type_walks.proofs.Imaging.{if_ok}
use Rattle.given_tops.specs.Names.{nodes_of}
use Rattle.given_tops.proofs.Knowing.{made_says, made_not}
use Rattle.given_tops.proofs.table.named_holds.Goals as goal

pub returns-then-name_may_stand : goal.returns-then-name_may_stand
returns-then-name_may_stand c = if_ok c.args_hold.result c.args_hold.ensures
    (λ b h. λ a e. made_says c.args.t.now (nodes_of c.args.limits.now) a (symbol.Name c.args.name.now) c.args.args.now b e
    (sym c.name_may_stand.ensures ∙ c.if-name_may_stand.true) h)

pub returns-else-name_may_stand : goal.returns-else-name_may_stand
returns-else-name_may_stand c = λ a e.
    made_not c.args.t.now (nodes_of c.args.limits.now) a (symbol.Name c.args.name.now) c.args.args.now e
    (sym c.name_may_stand.ensures ∙ c.if-name_may_stand.false)
