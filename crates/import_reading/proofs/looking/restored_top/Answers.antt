use Rattle.import_reading.proofs.Using.{top_restored, none_restored}
use Rattle.import_reading.proofs.looking.restored_top.Goals as goal

pub returns-in-Ok-clause-is : goal.returns-in-Ok-clause-is
returns-in-Ok-clause-is c =
    top_restored c.args.given.now.import.provider c.as_bytes.result.now c.args.given.now.interface c.args.graph.now
    c.restore.new.graph c.in-Ok.top c.as_bytes.ensures c.in-Ok.ensures.restores

pub returns-in-Err-BadInterface-clause-is : goal.returns-in-Err-BadInterface-clause-is
returns-in-Err-BadInterface-clause-is c =
    none_restored c.args.given.now.import.provider c.as_bytes.result.now c.args.given.now.interface c.args.graph.now
    c.restore.new.graph c.in-Err-BadInterface.field-0 c.as_bytes.ensures c.in-Err-BadInterface.field-0-is
    c.in-Err-BadInterface.ensures.restores
