use Rattle.sml_syntax.specs.ReadingBinds.{ex_body_at, ex_body_table}
use Rattle.sml_syntax.proofs.ReadSteps.{took_tagged}
use Rattle.sml_syntax.proofs.read_binds.ExBodyReadable.read.Goals as goal

pub returns : goal.returns
unfolding ex_body_at
returns c =
    took_tagged (ex_body_table c.args.depth) c.in_ok-kind.kind c.args.reader.now c.read_byte.new.reader
    c.read_ex_body_parts.result c.read_ex_body_parts.new.reader c.in_ok-kind.ensures c.read_ex_body_parts.ensures
