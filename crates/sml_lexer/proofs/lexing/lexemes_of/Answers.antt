use Rattle.std.proofs.Common.{◌≡◌, ◌≤◌, drop, length, take, arith, ◌∙◌}
use Rattle.std.proofs.lemmas.Bool.Decides.{nat_tests}
use Rattle.std.proofs.lemmas.Grind.{common_steps}
use Rattle.std.specs.List.{fold}
use Rattle.sml_lexer.specs.Lexing.{after_byte, lexemes_after}
use Rattle.sml_lexer.proofs.LexingLemmas.{taken, gives_refusal}
use Rattle.sml_lexer.proofs.lexing.lexemes_of.Goals as goal

pub returns-in_err-len : goal.returns-in_err-len
returns-in_err-len c =
    let l = c.loop-rest in
    let text = l.rest.now in
    let whole = lexemes_after c.args.file.now 0 (record { line = 1; col = 1 }) c.args.text.now in
    let some : 1 ≤ length text = grind (arith, nat_tests, common_steps) in
    gives_refusal c.in_err-len.field-0.0 l.lexemes c.take_front.new.lexemes c.args.file.now l.at text whole
    c.in_err-len.ensures.front some l.invariant.all c.from_residual.result _ c.from_residual.ensures.1 (λ y k. k)

pub loop-rest-preserved : goal.loop-rest-preserved
loop-rest-preserved c =
    let l = c.loop-rest in
    let text = l.rest.now in
    let len = c.in_ok-len.len in
    let some : 1 ≤ len = c.in_ok-len.ensures.within.0 in
    let within : len ≤ length text = c.in_ok-len.ensures.within.1 in
    let step = taken l.lexemes c.take_front.new.lexemes c.args.file.now l.at text len c.in_ok-len.ensures.front some within in
    let after : c.split_at.result.1.now ≡ drop len text = c.split_at.ensures.back in
    let front : c.split_at.result.0.now ≡ take len text = c.split_at.ensures.front in
    let place : c.after_bytes-at.result ≡ fold after_byte l.at (take len text) = rw front at c.after_bytes-at.ensures.value in
    record {
      all = rw (after, place) (step ∙ l.invariant.all);
      lines = omega (arith, c.split_at.ensures.back_len, c.split_at.ensures.front_len, c.after_bytes-at.ensures.line, l.invariant.lines);
      cols = omega (arith, c.split_at.ensures.back_len, c.split_at.ensures.front_len, c.after_bytes-at.ensures.col, l.invariant.cols);
    }
