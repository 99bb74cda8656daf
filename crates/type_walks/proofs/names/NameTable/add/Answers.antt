use Rattle.type_walks.proofs.Imaging.{on_ok}
use Rattle.type_walks.proofs.Keys.{told_more}
use Rattle.type_walks.proofs.names.NameTable.add.Goals as goal

pub returns-clause-told : goal.returns-clause-told
returns-clause-told c = on_ok c.add.result c.add.ensures.ok
    (λ h m. told_more c.args.self.now.places c.note.new.places c.args.self.now.names c.add.new.self c.args.name
    c.len.result c.requires c.in_ok-note.ensures c.len.ensures h m)
