use Rattle.std.proofs.Common.{◌≡◌, ◌++◌, drop}
use Rattle.type_walks.specs.Replaced.{rows_of}
use Rattle.module_semantics.specs.SignatureNames.{rows_between}
use Rattle.functor_closing.proofs.rows.rows_between.Given as goal

abbrev pub invariant-loop-at : goal.invariant-loop-at
invariant-loop-at l =
    rows_of l.list ++ rows_between (drop l.at l.fn.olds) (drop l.at l.fn.news) ≡ rows_between l.fn.olds l.fn.news
