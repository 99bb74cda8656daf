use Rattle.std.proofs.Common.{length, ap, ◌∙◌}
use Rattle.datatype_elab.specs.Making.{scheme_of}
use Rattle.datatype_elab.proofs.Entering.{bound_at, got_some}
use Rattle.datatype_elab.proofs.entries.con_entry.Goals as goal

pub con_scheme-requires-clause-arg : goal.con_scheme-requires-clause-arg
con_scheme-requires-clause-arg c =
    bound_at (length c.args.marks.now) c.args.cons.now c.args.place c.in-Some.con.now c.requires.bound
    (got_some c.args.cons.now c.args.place c.in-Some.con.now c.in-Some.ensures.lookup.3.0 c.in-Some.ensures.lookup.1)

pub returns-in_ok-copy-in-Some-clause-scheme : goal.returns-in_ok-copy-in-Some-clause-scheme
returns-in_ok-copy-in-Some-clause-scheme c =
    c.in_ok-scheme-in-Some.ensures
    ∙ ap (scheme_of c.args.new.now.home c.args.new.now.first c.args.choice.now c.args.marks.now c.args.of.now)
    (got_some c.args.cons.now c.args.place c.in-Some.con.now c.in-Some.ensures.lookup.3.0 c.in-Some.ensures.lookup.1)
