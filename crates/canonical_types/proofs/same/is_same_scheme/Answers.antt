use Rattle.std.proofs.Common.{sym, ◌∙◌}
use Rattle.canonical_types.proofs.OneScheme.{scheme_is}
use Rattle.canonical_types.proofs.same.is_same_scheme.Goals as goal

pub returns : goal.returns
returns c h = scheme_is c.args.this.now c.args.that.now
    (sym c.marks.ensures ∙ c.are_same_marks.ensures c.if-not-are_same_marks.false ∙ c.marks-2.ensures)
    (sym c.body.ensures ∙ c.is_same_tree.ensures h ∙ c.body-2.ensures)
