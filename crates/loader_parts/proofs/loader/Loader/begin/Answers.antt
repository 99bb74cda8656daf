use Rattle.std.proofs.Common.{◌∙◌, ◌∷◌, [], length, length-append, ap, sym, arith}
use Rattle.loader_parts.proofs.Tables.{named_more, names_of}
use Rattle.loader_parts.proofs.loader.Loader.begin.Goals as goal

pub returns-clause-tables : goal.returns-clause-tables
returns-clause-tables c =
    let old = c.args.self.now.progress.groups in
    let room = c.requires.room in
    let long = ap length c.in_ok-add.ensures.ok ∙ length-append old (c.args.group ∷ []) in
    record {
      named = named_more c.args.self.now.names.keys c.insert.new.self.keys _ old c.args.group c.requires.tables.named
          c.requires.new c.in_ok-copy.ensures c.in_ok-insert.ensures.keys
          ∙ ap names_of (sym c.in_ok-add.ensures.ok);
      numbered = c.requires.tables.numbered;
      few = omega (arith, room, long);
      units = c.requires.tables.units;
      sum = c.requires.tables.sum;
      sources = c.requires.tables.sources;
    }
