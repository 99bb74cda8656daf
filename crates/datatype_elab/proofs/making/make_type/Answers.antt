use Rattle.std.proofs.Common.{ap, ◌∙◌}
use Rattle.semantic_objects.specs.declared.name.TyName.{TyName}
use Rattle.static_semantics.specs.DatatypeInference.{own_name}
use Rattle.datatype_elab.specs.Making.{entries_of}
use Rattle.datatype_elab.proofs.Made.{own_binds, made_is}
use Rattle.datatype_elab.proofs.making.make_type.Goals as goal

pub con_entries-requires-clause-of : goal.con_entries-requires-clause-of
con_entries-requires-clause-of c =
    own_binds c.in_ok-name.name c.in_ok-body.body c.args.dat.now.list c.in_ok-marks.marks c.in_ok-body.ensures
    (ap (λ (n : TyName). n.arity) c.in_ok-name.ensures ∙ c.len.ensures) c.in_ok-marks.ensures

pub returns : goal.returns
returns c =
    made_is c.args.new.now.home c.args.new.now.first c.in_ok-number.number c.args.place c.args.choice.now
    c.in_ok-marks.marks c.args.dat.now c.in_ok-name.name c.in_ok-body.body c.in_ok-cons.cons c.admits.result
    c.args.g.now.home c.requires.home c.in_ok-number.ensures c.admits.ensures
    (c.in_ok-name.ensures
    ∙ ap (λ n. own_name c.args.g.now.home c.in_ok-number.number n c.admits.result) c.len.ensures)
    c.in_ok-body.ensures c.in_ok-marks.ensures
    (c.in_ok-cons.ensures
    ∙ ap (entries_of c.args.new.now.home c.args.new.now.first c.args.choice.now c.in_ok-marks.marks c.in_ok-body.body)
    c.as_slice.ensures)
