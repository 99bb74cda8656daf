use Rattle.std.proofs.Common.{rules}
use Rattle.type_walks.proofs.Imaging.{if_ok}
use Rattle.row_entries.proofs.Found.{function_formed, function_never, function_tagged}
use Rattle.row_entries.proofs.functions.function_row.Goals as goal

pub returns-in-Some : goal.returns-in-Some
returns-in-Some c =
    if_ok c.function_over.result c.function_over.ensures
    (λ found h. function_formed c.args.types.now c.args.row.now c.as_slice.result.now c.in-Some.form found c.in-5.is
    c.as_slice.ensures c.in-Some.ensures h)

pub returns-in-None : goal.returns-in-None
returns-in-None c =
    function_never c.args.types.now c.args.row.now c.as_slice.result.now c.as_slice.ensures c.in-None.ensures

pub returns-in_default : goal.returns-in_default
returns-in_default c = function_tagged c.args.types.now c.args.row.now (search rules)
