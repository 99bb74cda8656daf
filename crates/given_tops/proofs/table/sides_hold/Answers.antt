use Rattle.type_walks.proofs.Imaging.{if_ok}
use Rattle.given_tops.specs.Names.{nodes_of}
use Rattle.given_tops.proofs.Knowing.{two_say, one_says_not}
use Rattle.given_tops.proofs.table.sides_hold.Goals as goal

pub returns-then-branch : goal.returns-then-branch
returns-then-branch c = if_ok c.part_holds-then-branch.result c.part_holds-then-branch.ensures
    (λ b h. two_say c.args.t.now (nodes_of c.args.limits.now) c.args.from c.args.to _ b c.in_ok-part_holds.ensures
    c.if-branch.true h)

pub returns-else-branch : goal.returns-else-branch
returns-else-branch c =
    one_says_not c.args.t.now (nodes_of c.args.limits.now) c.args.from c.args.to _ c.in_ok-part_holds.ensures
    c.if-branch.false
