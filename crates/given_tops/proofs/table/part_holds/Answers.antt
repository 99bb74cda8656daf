use Rattle.std.proofs.Common.{sym, subst, true}
use Rattle.semantic_objects.specs.declared.name.TyId.{TyId}
use Rattle.given_tops.specs.Names.{nodes_of}
use Rattle.given_tops.specs.Knowing.{SaysPart}
use Rattle.semantic_objects.specs.declared.name.TyId.TheVariants as id
use Rattle.given_tops.proofs.Knowing.{near_variable, says_part}
use Rattle.given_tops.proofs.table.part_holds.Goals as goal

pub returns-in-Variable : goal.returns-in-Variable
returns-in-Variable c =
    subst (λ (a : TyId). SaysPart c.args.t.now (nodes_of c.args.limits.now) a true) (sym c.in-Variable.is)
    (near_variable c.args.t.now (nodes_of c.args.limits.now) c.in-Variable.field-0)

pub returns-in-Some : goal.returns-in-Some
returns-in-Some c =
    subst (λ (a : TyId). SaysPart c.args.t.now (nodes_of c.args.limits.now) a c.in-Some.holds.now) (sym c.in-Made.is)
    (says_part c.args.t.now (nodes_of c.args.limits.now) (id.Made c.in-Made.at) c.in-Some.holds.now
    (c.requires.each c.in-Made.at c.in-Some.holds.now (sym c.in-Some.ensures.item)))
