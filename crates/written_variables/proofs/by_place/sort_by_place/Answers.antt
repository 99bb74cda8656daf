use Rattle.std.proofs.Common.{rules}
use Rattle.written_variables.proofs.Places.{sorted_by_place}
use Rattle.written_variables.proofs.by_place.sort_by_place.Goals as goal

pub returns : goal.returns
returns c =
    sorted_by_place c.args.names.now.items c.sort_by.new.self.items c.in_ok-sort_by.ensures.sorted
    c.in_ok-sort_by.ensures.stable (λ a r f' k. search rules)
