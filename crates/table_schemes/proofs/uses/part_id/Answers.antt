use Rattle.std.proofs.Common.{sym, subst}
use Rattle.type_schemes.specs.Instances.{ReadAs}
use Rattle.table_schemes.specs.Meaning.{part_tree}
use Rattle.table_schemes.specs.Using.{HasPart}
use Rattle.table_schemes.proofs.Instances.{closed_read}
use Rattle.table_schemes.proofs.uses.part_id.Goals as goal

pub returns-in-Closed-clause-read : goal.returns-in-Closed-clause-read
returns-in-Closed-clause-read c trees made a e =
    subst (λ p. ReadAs c.args.table.now c.args.base (part_tree c.args.table.now trees p) a) (sym c.in-Closed.is)
    (closed_read c.args.table.now c.args.base c.in-Closed.id a (subst (HasPart c.args.table.now) c.in-Closed.is c.requires.part) e)

pub returns-in-Open-clause-read : goal.returns-in-Open-clause-read
returns-in-Open-clause-read c trees made a e =
    subst (λ p. ReadAs c.args.table.now c.args.base (part_tree c.args.table.now trees p) a) (sym c.in-Open.is)
    (made c.in-Open.place a (rw e at c.id_at.ensures))
