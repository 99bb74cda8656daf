use Rattle.std.proofs.Common.{◌≡◌, ◌++◌, drop}
use Rattle.std.specs.List.{flat_map}
use Rattle.cm_description.specs.Printing.{option_text}
use Rattle.cm_description.proofs.print.add_more_options.Given as goal

-- what is printed, and the options that are left
abbrev pub invariant-loop-option : goal.invariant-loop-option
invariant-loop-option l =
    l.out.items ++ flat_map option_text (drop l.option-index l.options)
    ≡ l.fn.out.items ++ flat_map option_text l.options
