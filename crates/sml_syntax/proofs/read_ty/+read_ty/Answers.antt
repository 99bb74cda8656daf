use Rattle.std.proofs.Common.{ℕ}
use Rattle.sml_syntax.specs.Reading.{ty_at, ty_table}
use Rattle.sml_syntax.proofs.ReadSteps.{took_level, ty_level}
use Rattle.sml_syntax.proofs.read_ty.+read_ty.Goals as goal

pub read_ty-returns : goal.read_ty-returns
read_ty-returns t c =
    took_level (λ (n : ℕ). ty_at n) (λ (k : ℕ). ty_table (ty_at k)) c.args.depth c.in_ok-below.below c.in_ok-tag.tag
    c.args.reader.now c.read_byte.new.reader c.read_ty_parts.result c.read_ty_parts.new.reader
    (ty_level _ _ _ c.in_ok-below.ensures) c.in_ok-tag.ensures c.read_ty_parts.ensures
