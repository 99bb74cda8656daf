use Rattle.datatype_elab.specs.Making.{con_tree}
use Rattle.datatype_elab.proofs.Settling.{scheme_binds, scheme_is}
use Rattle.datatype_elab.proofs.settle.con_scheme.Goals as goal

pub make-requires : goal.make-requires
make-requires c =
    scheme_binds c.args.new.now.home c.args.new.now.first c.args.choice.now c.args.of.now c.in_ok-body.body
    c.args.con.now.arg c.args.marks.now c.in_ok-copy.copy c.requires.of c.requires.arg c.in_ok-body.ensures
    c.in_ok-copy.ensures

pub returns : goal.returns
returns c =
    scheme_is c.make.result c.args.marks.now c.in_ok-copy.copy c.in_ok-body.body
    (con_tree c.args.new.now.home c.args.new.now.first c.args.choice.now c.args.of.now c.args.con.now.arg)
    c.in_ok-copy.ensures c.in_ok-body.ensures c.make.ensures.marks c.make.ensures.body
