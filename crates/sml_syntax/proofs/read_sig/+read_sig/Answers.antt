use Rattle.std.proofs.Common.{ℕ}
use Rattle.sml_syntax.specs.ReadingSig.{sig_steps, sig_table, spec_table, spec_body_table}
use Rattle.sml_syntax.proofs.ReadSteps.{took_level, sig_level, spec_level, spec_body_level}
use Rattle.sml_syntax.proofs.read_sig.+read_sig.Goals as goal

pub read_sig-returns : goal.read_sig-returns
read_sig-returns t c =
    took_level (λ (n : ℕ). (sig_steps n).sig) (λ (k : ℕ). sig_table k (sig_steps k)) c.args.depth c.in_ok-below.below c.in_ok-tag.tag
    c.args.reader.now c.read_byte.new.reader c.read_sig_parts.result c.read_sig_parts.new.reader
    (sig_level _ _ _ c.in_ok-below.ensures) c.in_ok-tag.ensures c.read_sig_parts.ensures

pub read_spec-returns : goal.read_spec-returns
read_spec-returns t c =
    took_level (λ (n : ℕ). (sig_steps n).spec) (λ (k : ℕ). spec_table k (sig_steps k)) c.args.depth c.in_ok-below.below c.in_ok-tag.tag
    c.args.reader.now c.read_byte.new.reader c.read_spec_parts.result c.read_spec_parts.new.reader
    (spec_level _ _ _ c.in_ok-below.ensures) c.in_ok-tag.ensures c.read_spec_parts.ensures

pub read_spec_body-returns : goal.read_spec_body-returns
read_spec_body-returns t c =
    took_level (λ (n : ℕ). (sig_steps n).spec_body) (λ (k : ℕ). spec_body_table (sig_steps k)) c.args.depth c.in_ok-below.below c.in_ok-tag.tag
    c.args.reader.now c.read_byte.new.reader c.read_spec_body_parts.result c.read_spec_body_parts.new.reader
    (spec_body_level _ _ _ c.in_ok-below.ensures) c.in_ok-tag.ensures c.read_spec_body_parts.ensures
