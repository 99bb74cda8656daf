use Rattle.std.proofs.Common.{◌≡◌, sym, Some, None}
use Rattle.module_parser.proofs.UnitLaws.{stopped, behind, whole}
use Rattle.module_parser.proofs.unit.unit_of.Goals as goal

pub returns-in-Err : goal.returns-in-Err
returns-in-Err c =
    stopped c.args.file.now c.args.all.now c.topdecs.new.lexemes.rest.now c.in-Err.stop c.fault_of.result
    c.in-Err.ensures c.fault_of.ensures

pub returns-in_ok-top_refusal-in-Some : goal.returns-in_ok-top_refusal-in-Some
returns-in_ok-top_refusal-in-Some c =
    behind c.args.file.now c.args.all.now c.topdecs.new.lexemes.rest.now c.in-Ok.made c.in-Some.next.now
    c.in_ok-top_refusal-in-Some.field-0 c.in-Ok.ensures (sym c.in-Some.ensures) c.in_ok-top_refusal-in-Some.ensures

pub returns-in_ok-copy-in-None : goal.returns-in_ok-copy-in-None
returns-in_ok-copy-in-None c =
    whole c.args.file.now c.in_ok-copy-in-None.field-0 c.args.all.now c.topdecs.new.lexemes.rest.now c.in-Ok.made
    c.in-Ok.ensures (sym c.in-None.ensures) c.in_ok-copy-in-None.ensures
