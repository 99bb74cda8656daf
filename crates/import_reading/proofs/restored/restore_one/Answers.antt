use Rattle.std.proofs.Common.{refl}
use Rattle.sml_modules.specs.Nodes.{top_of_tables}
use Rattle.import_reading.proofs.Using.{top_there, no_top_there}
use Rattle.import_reading.proofs.Standing.{was_read}
use Rattle.import_reading.proofs.restored.restore_one.Goals as goal

pub top_tables-requires : goal.top_tables-requires
top_tables-requires c =
    top_there c.args.given.now.import.provider c.args.given.now.interface c.restored_top.new.graph
    c.in_ok-top.field-0 c.in-Some.top c.in_ok-top.ensures.is c.in-Some.is

pub names_in-requires : goal.names_in-requires
names_in-requires c = c.in_ok-tables.ensures.are

pub returns-in_default-clause-is : goal.returns-in_default-clause-is
returns-in_default-clause-is c =
    no_top_there c.args.given.now.import.provider c.args.given.now.interface c.restored_top.new.graph
    c.in_ok-top.field-0 c.in_ok-top.ensures.is (λ id e. c.in_default.not-Some id e)

pub returns-clause-is : goal.returns-clause-is
returns-clause-is c =
    was_read c.restored_top.new.graph c.args.given.now.import.provider c.args.given.now.interface c.in_ok-top.field-0
    c.in-Some.top (top_of_tables c.restored_top.new.graph.items c.in_ok-tables.tables.now)
    (record { interface = c.in_ok-interface.interface; top = c.in-Some.top; names = c.in_ok-names.names })
    c.in_ok-top.ensures.is c.in-Some.is c.in_ok-tables.ensures.is c.in_ok-interface.ensures refl c.in_ok-names.ensures
