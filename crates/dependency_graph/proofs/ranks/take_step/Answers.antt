use Rattle.std.proofs.Common.{arith}
use Rattle.dependency_graph.proofs.Visits.{finished, entered, closes, count_done, top_part, provider_known}
use Rattle.dependency_graph.proofs.ranks.take_step.Goals as goal

-- the top unit has its rank
pub returns-in-Finish-clause-step : goal.returns-in-Finish-clause-step
returns-in-Finish-clause-step c =
    let is = rw c.in-Finish.is at c.in_ok-rank.ensures in
    rw (c.finish.ensures.marks, c.finish.ensures.ranks)
    (finished _ _ _ _ c.args.frame c.in-Finish.rank c.requires.visiting is)

-- a unit that is done isn't new
pub returns-in-Finish-clause-less : goal.returns-in-Finish-clause-less
returns-in-Finish-clause-less c =
    let known = (top_part _ _ _ c.requires.visiting.parts).known in
    let less = count_done c.args.marks.now c.args.frame.unit (omega (arith, known, c.requires.visiting.noted.marked)) in
    rw c.finish.ensures.marks (omega (arith, less))

-- the provider is on top
pub returns-in_ok-enter-in-Enter-clause-step : goal.returns-in_ok-enter-in-Enter-clause-step
returns-in_ok-enter-in-Enter-clause-step c =
    let is = rw c.in-Enter.is at c.in_ok-rank.ensures in
    let known = (top_part _ _ _ c.requires.visiting.parts).known in
    rw (c.enter.ensures.marks, c.in_ok-enter-in-Enter.ensures.stack)
    (entered _ _ _ _ c.args.frame c.in-Enter.frame c.in-Enter.provider c.requires.visiting is.0 is.1 is.2 is.3
    (provider_known _ _ _ c.requires.units known is.2))

-- the provider is on the way
pub returns-in-Close-clause-step : goal.returns-in-Close-clause-step
returns-in-Close-clause-step c =
    let is = rw c.in-Close.is at c.in_ok-rank.ensures in
    closes _ _ _ _ c.args.frame _ c.requires.visiting is.0 is.1
