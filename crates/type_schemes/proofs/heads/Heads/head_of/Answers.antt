use Rattle.std.proofs.Common.{sym, ap, ◌∙◌}
use Rattle.semantic_objects.specs.declared.name.TyId.TheVariants as id
use Rattle.type_nodes.specs.Tables.{whole}
use Rattle.type_schemes.proofs.Heading.{head_through}
use Rattle.type_schemes.proofs.heads.Heads.head_of.Goals as goal

pub returns-in-Some : goal.returns-in-Some
returns-in-Some c =
    let t = c.args.table.now in
    let v = c.in-Variable.variable in
    head_through t (id.Variable v) c.args.id c.in-Some.head
    (c.requires.heads.each v c.in-Some.head (sym c.known.ensures ∙ c.in-Some.is))
    (sym (ap (whole t) c.in-Variable.is) ∙ c.loop-at.invariant.whole)
