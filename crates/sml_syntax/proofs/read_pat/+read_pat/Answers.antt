use Rattle.std.proofs.Common.{ℕ}
use Rattle.sml_syntax.specs.ReadingPat.{pat_steps, pat_table}
use Rattle.sml_syntax.proofs.ReadSteps.{took_level, pat_level}
use Rattle.sml_syntax.proofs.read_pat.+read_pat.Goals as goal

pub read_pat-returns : goal.read_pat-returns
read_pat-returns t c =
    took_level (λ (n : ℕ). (pat_steps n).pat) (λ (k : ℕ). pat_table k (pat_steps k)) c.args.depth c.in_ok-below.below c.in_ok-tag.tag
    c.args.reader.now c.read_byte.new.reader c.read_pat_parts.result c.read_pat_parts.new.reader
    (pat_level _ _ _ c.in_ok-below.ensures) c.in_ok-tag.ensures c.read_pat_parts.ensures
