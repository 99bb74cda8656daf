use Rattle.std.proofs.Common.{◌≡◌, ◌∙◌, ◌∷◌, None, ap, sym, length}
use Rattle.cm_conditions.specs.Splitting.{split_of, closers_before}
use Rattle.cm_conditions.proofs.SelectAnswers.{few_left, cut_here, cut_len}
use Rattle.cm_conditions.proofs.TableSteps.{one_back}
use Rattle.cm_conditions.proofs.choice.whole_len.Goals as goal

pub closers_before-requires : goal.closers_before-requires
closers_before-requires c =
    let i = c.loop-line.invariant in
    few_left c.args.lines.now c.loop-line.rest.now i.0 c.loop-line.closers (length c.in-Some.before.now) i.1 i.2 i.4
    c.in-Some.ensures.cases.1

pub loop-line-preserved : goal.loop-line-preserved
loop-line-preserved c =
    let i = c.loop-line.invariant in
    let line = c.in-Some.line.now in
    let last = c.in-Some.ensures.cases in
    let none : closers_before line.body c.loop-line.closers ≡ None = cc in
    let cut = cut_here line i.0 (ap (closers_before line.body) (sym i.2) ∙ none) in (
      line ∷ i.0,
      one_back c.args.lines.now c.loop-line.rest.now c.in-Some.before.now i.0 line i.1 last.0,
      i.2 ∙ sym cut.closers,
      cut_len c.args.lines.now c.loop-line.rest.now i.0 (length c.in-Some.before.now)
          (length (split_of (line ∷ i.0)).rest) i.1 last.1 cut.rest,
      i.4,
    )
