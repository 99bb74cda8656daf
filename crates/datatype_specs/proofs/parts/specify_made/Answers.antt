use Rattle.std.proofs.Common.{sym, ◌∙◌}
use Rattle.datatype_specs.proofs.Parting.{part_specified, part_front}
use Rattle.datatype_specs.proofs.parts.specify_made.Goals as goal

pub returns-clause-infers : goal.returns-clause-infers
returns-clause-infers g c = λ inner read home.
    part_specified c.args.g.now read c.args.part c.args.made.now c.add_made.new.made inner c.args.at
    c.in_ok-add_made.ensures (sym (c.has_common.ensures c.args.g.now read) ∙ c.if-has_common.false)

pub returns-clause-front : goal.returns-clause-front
returns-clause-front g c = part_front c.args.made.now c.add_made.new.made c.args.part c.in_ok-add_made.ensures
