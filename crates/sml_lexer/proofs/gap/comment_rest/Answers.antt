use Rattle.std.proofs.Common.{◌≡◌, ◌+◌, false, true, get_or, sym, ◌∙◌, arith}
use Rattle.sml_lexer.specs.Gaps.{opens, closes}
use Rattle.sml_lexer.proofs.GapsLemmas.{rest_opens, rest_closes, rest_goes_on, rest_open}
use Rattle.sml_lexer.proofs.gap.comment_rest.Goals as goal

pub loop-at-preserved-then-opens : goal.loop-at-preserved-then-opens
loop-at-preserved-then-opens c =
    let l = c.loop-at in
    let text = c.args.text.now in
    let opened : opens (get_or text l.at 0) (get_or text (l.at + 1) 0) ≡ true = sym c.opens.ensures ∙ c.if-opens.true in
    record {
      rest = sym (rest_opens l.depth l.at text c.loop-at-test.true opened) ∙ l.invariant.rest;
      within = omega arith;
      depth = omega arith;
    }

pub loop-at-preserved-then-closes : goal.loop-at-preserved-then-closes
loop-at-preserved-then-closes c =
    let l = c.loop-at in
    let text = c.args.text.now in
    let opened : opens (get_or text l.at 0) (get_or text (l.at + 1) 0) ≡ false = sym c.opens.ensures ∙ c.if-opens.false in
    let closed : closes (get_or text l.at 0) (get_or text (l.at + 1) 0) ≡ true = sym c.closes.ensures ∙ c.if-closes.true in
    record {
      rest = sym (rest_closes l.depth l.at text c.loop-at-test.true opened closed (omega arith)) ∙ l.invariant.rest;
      within = omega arith;
      depth = omega arith;
    }

pub loop-at-preserved : goal.loop-at-preserved
loop-at-preserved c =
    let l = c.loop-at in
    let text = c.args.text.now in
    let opened : opens (get_or text l.at 0) (get_or text (l.at + 1) 0) ≡ false = sym c.opens.ensures ∙ c.if-opens.false in
    let closed : closes (get_or text l.at 0) (get_or text (l.at + 1) 0) ≡ false = sym c.closes.ensures ∙ c.if-closes.false in
    record {
      rest = sym (rest_goes_on l.depth l.at text c.loop-at-test.true opened closed) ∙ l.invariant.rest;
      within = omega arith;
      depth = omega arith;
    }

pub returns-clause-rest : goal.returns-clause-rest
returns-clause-rest c =
    sym (rest_open c.loop-at.depth c.loop-at.at c.args.text.now c.loop-at-test.false) ∙ c.loop-at.invariant.rest
