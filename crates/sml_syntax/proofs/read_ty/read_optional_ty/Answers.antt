use Rattle.sml_syntax.specs.Steps.{option_at, option_table}
use Rattle.sml_syntax.specs.Reading.{ty_at}
use Rattle.sml_syntax.proofs.ReadSteps.{took_tagged}
use Rattle.sml_syntax.proofs.read_ty.read_optional_ty.Goals as goal

pub returns : goal.returns
unfolding option_at
returns c =
    took_tagged (option_table (ty_at c.args.depth)) c.in_ok-present.present c.args.reader.now c.read_byte.new.reader
    c.read_optional_ty_parts.result c.read_optional_ty_parts.new.reader c.in_ok-present.ensures c.read_optional_ty_parts.ensures
