use Rattle.import_reading.proofs.Standing.{are_kept}
use Rattle.unit_compiling.proofs.compiling.compile_in.Goals as goal

pub returns-clause-restored : goal.returns-clause-restored
returns-clause-restored c =
    are_kept c.read_imports.new.graph c.define.new.graph c.read_imports.new.restored c.define.ensures.keeps
    c.read_imports.ensures.restored

pub returns-in_err-top-clause-restored : goal.returns-in_err-top-clause-restored
returns-in_err-top-clause-restored c =
    are_kept c.read_imports.new.graph c.define.new.graph c.read_imports.new.restored c.define.ensures.keeps
    c.read_imports.ensures.restored
