use Rattle.row_forms.proofs.Formed.{marks_taken, marks_never}
use Rattle.row_forms.proofs.entries.take_marks.Goals as goal

pub returns-in-Some : goal.returns-in-Some
returns-in-Some c =
    marks_taken c.in-Some.text.now c.marks_in.result c.args.fields.now c.text.new.self c.in-Some.ensures
    c.marks_in.ensures

pub returns-in-None : goal.returns-in-None
returns-in-None c = marks_never c.args.fields.now c.in-None.ensures
