use Rattle.cutoff_builder.specs.Planning.{planned_of}
use Rattle.cutoff_builder.proofs.Building.{builds_plain, keeps_project}
use Rattle.cutoff_builder.proofs.Smallness.{all_small}
use Rattle.cutoff_builder.proofs.builder.build.Goals as goal

pub build_each-requires-clause-small : goal.build_each-requires-clause-small
build_each-requires-clause-small g c =
    all_small c.args.project.now c.args.skeletons.now c.args.wanted.now c.args.order.now c.requires.units
    c.requires.short c.requires.names

pub returns-clause-builds : goal.returns-clause-builds
returns-clause-builds g c = λ files told. builds_plain g.C.Compiler.defines files
    (planned_of c.args.project.now c.args.skeletons.now c.args.wanted.now c.args.order.now) c.build_each.result
    (g.F.Folder.holds c.build_each.new.folder) (g.C.Compiler.asked c.args.compiler.now)
    (g.C.Compiler.asked c.build_each.new.compiler)
    (all_small c.args.project.now c.args.skeletons.now c.args.wanted.now c.args.order.now c.requires.units
    c.requires.short c.requires.names)
    (c.build_each.ensures.cuts files told)

pub returns-clause-project : goal.returns-clause-project
returns-clause-project g c = λ files told. keeps_project g.C.Compiler.defines.compiled files
    (planned_of c.args.project.now c.args.skeletons.now c.args.wanted.now c.args.order.now) c.build_each.result
    (g.F.Folder.holds c.build_each.new.folder) (g.C.Compiler.asked c.args.compiler.now)
    (g.C.Compiler.asked c.build_each.new.compiler) (c.build_each.ensures.cuts files told)
