use Rattle.std.proofs.Common.{drop}
use Rattle.std.proofs.Math.ListN.{drop_of_length-le}
use Rattle.function_forms.proofs.Marking.{reads_all}
use Rattle.function_forms.proofs.admitting.root_admits.Goals as goal

pub returns-in-Some : goal.returns-in-Some
returns-in-Some c q = reads_all c.args.nodes.now (drop c.loop-node.node-index c.args.nodes.now) c.loop-node.marked
    c.pop.new.self c.in-Some.admits c.loop-node.invariant
    (drop_of_length-le c.args.nodes.now c.loop-node-test.false) c.in-Some.ensures c.requires q
