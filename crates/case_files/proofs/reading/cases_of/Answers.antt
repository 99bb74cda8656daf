use Rattle.std.proofs.Common.{◌∙◌, ◌≡◌, ap, map, rules, sym, tests}
use Rattle.std.specs.Prelude.{◌==◌, count_by, length}
use Rattle.std.proofs.lemmas.Iterator.Consumers.{YieldsList-end}
use Rattle.std.proofs.lemmas.Iterator.Splits.{YieldsList-from_slice_split}
use Rattle.case_files.specs.Titles.{begins_case, lines_of}
use Rattle.case_files.proofs.reading.cases_of.Goals as goal

pub returns : goal.returns
returns c =
    let all : map (λ line. line.now) c.loop-line.yielded ≡ lines_of c.args.text.now =
    (YieldsList-end (YieldsList-from_slice_split _ (λ byte. byte == 10) c.args.text.now
    (cc (c.into_iter-line-iterator.ensures.into_iter_gives, c.split-line-items.ensures.rest))
    (cc (c.into_iter-line-iterator.ensures.into_iter_gives, c.split-line-items.ensures.done))
    (cc (c.into_iter-line-iterator.ensures.into_iter_gives, c.split-line-items.ensures.closure))
    (λ x b q k. search (rules, tests)))
    c.loop-line.yielded _ c.loop-line.yielded_by _ _ c.in-None.is c.next.ensures.steps).0 in
    ap length c.from_vec.ensures ∙ sym c.end_case.new.self.cases.ok.0 ∙ c.in_ok-end_case.ensures.whole
    ∙ c.loop-line.invariant ∙ ap (count_by begins_case) all
