use Rattle.std.proofs.Common.{sym}
use Rattle.type_walks.proofs.Imaging.{on_ok}
use Rattle.type_walks.proofs.Keys.{notes_new}
use Rattle.type_walks.proofs.names.note.Goals as goal

pub returns-in-None : goal.returns-in-None
returns-in-None c = on_ok c.put.result c.put.ensures
    (λ h. notes_new c.args.places.now c.put.new.places c.args.name.now c.in_ok-key.key c.args.place c.in_ok-key.ensures
    (sym c.in-None.ensures.value) h)
