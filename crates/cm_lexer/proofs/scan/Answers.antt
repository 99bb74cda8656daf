use Rattle.cm_lexer.proofs.Slices.{scan_slices}
use Rattle.cm_lexer.proofs.scan.Goals as goal

pub returns-clause-slices : goal.returns-clause-slices
returns-clause-slices c =
    let is = rw c.as_bytes.ensures at c.scan.ensures in scan_slices c.args.text.now c.scan.result is
