use Rattle.std.proofs.Common.{rules, tests, length}
use Rattle.std.specs.Prelude.{nat_lt, ◌==◌}
use Rattle.std.proofs.lemmas.Iterator.Search.{any_from_yields_List}
use Rattle.std.proofs.lemmas.Iterator.Splits.{YieldsList-from_slice_split}
use Rattle.path_anchors.proofs.parts.has_long_part.Goals as goal

pub returns : goal.returns
returns c =
    any_from_yields_List (λ part. nat_lt 200 (length part)) _ _ _ c.any.ensures.ran
    (YieldsList-from_slice_split _ (λ byte. byte == 47) c.args.path.now c.split.ensures.rest c.split.ensures.done
    c.split.ensures.closure (λ x b q k. search (rules, tests)))
    (λ x b q k. search (rules, tests))
