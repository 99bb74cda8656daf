use Rattle.std.proofs.Common.{ℕ}
use Rattle.sml_syntax.specs.ReadingUnit.{topdec_at, topdec_table}
use Rattle.sml_syntax.proofs.ReadSteps.{took_level, topdec_level}
use Rattle.sml_syntax.proofs.read.TopDecReadable.read.Goals as goal

pub returns : goal.returns
returns c =
    took_level topdec_at topdec_table c.args.depth c.in_ok-below.below c.in_ok-tag.tag
    c.args.reader.now c.read_byte.new.reader c.read_topdec_parts.result c.read_topdec_parts.new.reader
    (topdec_level _ _ _ c.in_ok-below.ensures) c.in_ok-tag.ensures c.read_topdec_parts.ensures
