use Rattle.std.proofs.Common.{subst, sym, ap₂, ◌∙◌, map}
use Rattle.repeated_names.specs.Repeats.{IsEarliest, earliest_with, all_repeats}
use Rattle.repeated_names.specs.RepeatedUnits.{topdec_repeats, unit_repeats}
use Rattle.repeated_names.proofs.Earliest.{earliest_is}
use Rattle.repeated_names.proofs.find_unit.first_repeat.Goals as goal

pub returns-clause-earliest : goal.returns-clause-earliest
returns-clause-earliest c =
    subst (IsEarliest (unit_repeats c.args.unit.now))
    (sym (c.first.ensures ∙ c.in_ok-find_all.ensures
    ∙ ap₂ (λ first topdecs. earliest_with first (all_repeats (map topdec_repeats topdecs))) c.new-finder.ensures c.as_slice.ensures))
    (earliest_is (unit_repeats c.args.unit.now))
