use Rattle.std.proofs.Common.{◌≡◌, true, false, sym, ◌∙◌}
use Rattle.cm_lexer.proofs.Comments.{begins, len_open, len_close, len_other}
use Rattle.cm_lexer.proofs.piece.pass_mark.Goals as goal

pub returns-then-starts_with-clause-len : goal.returns-then-starts_with-clause-len
returns-then-starts_with-clause-len c =
    let h : begins 40 42 c.args.bytes.now ≡ true = sym c.starts_with.ensures.value ∙ c.if-starts_with.true in
    len_open c.args.depth c.args.bytes.now c.requires.inside h

pub returns-then-starts_with-2-clause-len : goal.returns-then-starts_with-2-clause-len
returns-then-starts_with-2-clause-len c =
    let g : begins 40 42 c.args.bytes.now ≡ false = sym c.starts_with.ensures.value ∙ c.if-starts_with.false in
    let h : begins 42 41 c.args.bytes.now ≡ true =
    sym c.starts_with-else-starts_with.ensures.value ∙ c.if-starts_with-2.true in
    len_close c.args.depth c.args.bytes.now c.requires.inside g h

pub returns-else-starts_with-2-clause-len : goal.returns-else-starts_with-2-clause-len
returns-else-starts_with-2-clause-len c =
    let g : begins 40 42 c.args.bytes.now ≡ false = sym c.starts_with.ensures.value ∙ c.if-starts_with.false in
    let h : begins 42 41 c.args.bytes.now ≡ false =
    sym c.starts_with-else-starts_with.ensures.value ∙ c.if-starts_with-2.false in
    len_other c.args.depth c.args.bytes.now c.requires.inside c.requires.some g h
