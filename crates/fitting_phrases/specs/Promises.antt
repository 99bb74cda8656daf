-- What the law says.
use Rattle.std.specs.Prelude.{◌≡◌, Bool, true, List}
use Rattle.std.specs.List.{list_all}
use Rattle.sml_trees.specs.declared.name.At.{At}
use Rattle.bare_forms.specs.declared.placed.PlacedExp.{PlacedExp}
use Rattle.bare_forms.specs.Runs.{Part, run_of}
use Rattle.bare_forms.specs.Nodes.{joined_exp, applied_exp, missing_exp}
use Rattle.fitting_names.specs.Names.{name_fits, names_exp}

-- whether the names of an operand fit, or that of an operator
abbrev pub part_fits : Part PlacedExp → Bool
part_fits (Part.Atom e) = names_exp e.exp
part_fits (Part.Operator op) = name_fits op.name

-- what a run of expressions makes has names that fit, if its operands and operators have
abbrev pub RunNamesFit : Type 0
RunNamesFit =
    (at : At) (parts : List (Part PlacedExp)) → list_all part_fits parts ≡ true
    → names_exp (run_of joined_exp applied_exp (missing_exp at) parts).exp ≡ true
