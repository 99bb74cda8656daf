use Rattle.std.proofs.Common.{ℕ}
use Rattle.sml_syntax.specs.ReadingExp.{exp_steps, exp_table, dec_table, str_table, dec_body_table}
use Rattle.sml_syntax.proofs.ReadSteps.{took_level, exp_level, dec_level, str_level, body_level}
use Rattle.sml_syntax.proofs.read_exp.+read_exp.Goals as goal

pub read_exp-returns : goal.read_exp-returns
read_exp-returns t c =
    took_level (λ (n : ℕ). (exp_steps n).exp) (λ (k : ℕ). exp_table k (exp_steps k)) c.args.depth c.in_ok-below.below c.in_ok-tag.tag
    c.args.reader.now c.read_byte.new.reader c.read_exp_parts.result c.read_exp_parts.new.reader
    (exp_level _ _ _ c.in_ok-below.ensures) c.in_ok-tag.ensures c.read_exp_parts.ensures

pub read_dec-returns : goal.read_dec-returns
read_dec-returns t c =
    took_level (λ (n : ℕ). (exp_steps n).dec) (λ (k : ℕ). dec_table k (exp_steps k)) c.args.depth c.in_ok-below.below c.in_ok-tag.tag
    c.args.reader.now c.read_byte.new.reader c.read_dec_parts.result c.read_dec_parts.new.reader
    (dec_level _ _ _ c.in_ok-below.ensures) c.in_ok-tag.ensures c.read_dec_parts.ensures

pub read_str-returns : goal.read_str-returns
read_str-returns t c =
    took_level (λ (n : ℕ). (exp_steps n).str) (λ (k : ℕ). str_table k (exp_steps k)) c.args.depth c.in_ok-below.below c.in_ok-tag.tag
    c.args.reader.now c.read_byte.new.reader c.read_str_parts.result c.read_str_parts.new.reader
    (str_level _ _ _ c.in_ok-below.ensures) c.in_ok-tag.ensures c.read_str_parts.ensures

pub read_body-returns : goal.read_body-returns
read_body-returns t c =
    took_level (λ (n : ℕ). (exp_steps n).dec_body) (λ (k : ℕ). dec_body_table (exp_steps k)) c.args.depth c.in_ok-below.below c.in_ok-tag.tag
    c.args.reader.now c.read_byte.new.reader c.read_body_parts.result c.read_body_parts.new.reader
    (body_level _ _ _ c.in_ok-below.ensures) c.in_ok-tag.ensures c.read_body_parts.ensures
