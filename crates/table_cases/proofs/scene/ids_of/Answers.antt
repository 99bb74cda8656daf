use Rattle.table_cases.proofs.Having.{have_nothing, have_snoc}
use Rattle.table_cases.proofs.scene.ids_of.Goals as goal

pub loop-word-init : goal.loop-word-init
loop-word-init c = have_nothing c.args.table.now c.new-found.result c.new-found.ensures

pub loop-word-preserved : goal.loop-word-preserved
loop-word-preserved c = have_snoc c.args.table.now c.loop-word.found c.add.new.self c.in-Some.id c.in_ok-add-in-Some.ensures.ok
    c.loop-word.invariant c.in-Some.ensures
