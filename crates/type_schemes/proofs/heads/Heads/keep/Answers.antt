use Rattle.std.proofs.Common.{sym, ap, ◌∙◌}
use Rattle.semantic_objects.specs.declared.name.TyId.TheVariants as id
use Rattle.type_nodes.specs.Tables.{whole}
use Rattle.type_schemes.proofs.Heading.{head_through, heads_more}
use Rattle.type_schemes.proofs.heads.Heads.keep.Goals as goal

pub loop-at-preserved : goal.loop-at-preserved
loop-at-preserved c =
    let t = c.args.table.now in
    let v = c.in-Variable.variable in
    let link = c.in-Some-link.ensures in
    record {
      has = link.has;
      whole = sym link.whole ∙ sym (ap (whole t) c.in-Variable.is) ∙ c.loop-at.invariant.whole;
      heads = heads_more t v c.args.head c.loop-at.self c.set.new.self c.loop-at.invariant.heads
          (head_through t c.args.id (id.Variable v) c.args.head c.requires.head
          (sym c.loop-at.invariant.whole ∙ ap (whole t) c.in-Variable.is))
          c.in_ok-set-in-Some-link.ensures;
    }
