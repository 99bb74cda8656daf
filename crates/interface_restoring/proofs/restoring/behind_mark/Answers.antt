use Rattle.interface_restoring.proofs.Reading.{stripped}
use Rattle.interface_restoring.proofs.restoring.behind_mark.Goals as goal

pub returns : goal.returns
returns c =
    stripped c.args.bytes.now c.as_slice.result.now c.strip_prefix.result c.as_slice.ensures
    c.strip_prefix.ensures.cases
