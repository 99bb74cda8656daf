use Rattle.std.proofs.Common.{refl}
use Rattle.import_reading.proofs.Following.{nothing_read}
use Rattle.import_reading.proofs.read.ReadImports.new.Goals as goal

pub returns : goal.returns
returns c =
    nothing_read c.in_ok-known.known
    (record {
      tables = record {
        structures = c.new.result;
        signatures = c.new-2.result;
        functors = c.new-3.result;
        funsigs = c.new-4.result;
      };
      known = c.in_ok-known.known;
    })
    c.in_ok-known.ensures.names c.in_ok-known.ensures.kept c.new.ensures c.new-2.ensures c.new-3.ensures c.new-4.ensures
    refl
