use Rattle.std.proofs.Common.{rules}
use Rattle.sml_types.proofs.Sorting.{sorted_by_label, sorted_rises}
use Rattle.sml_types.proofs.record.by_label.Goals as goal

pub returns-clause-rising : goal.returns-clause-rising
returns-clause-rising c = sorted_rises c.args.fields c.sort_unstable_by.new.self.items c.requires (search rules)
    (sorted_by_label c.sort_unstable_by.new.self.items c.sort_unstable_by.ensures.sorted (λ a r f' k. search rules))
