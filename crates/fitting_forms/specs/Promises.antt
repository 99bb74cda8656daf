-- What the law says.
use Rattle.std.specs.Prelude.{◌≡◌, Bool, true, List}
use Rattle.std.specs.List.{list_all}
use Rattle.sml_trees.specs.declared.name.At.{At}
use Rattle.bare_forms.specs.declared.placed.PlacedPat.{PlacedPat}
use Rattle.bare_forms.specs.declared.placed.PlacedExp.{PlacedExp}
use Rattle.bare_forms.specs.Runs.{Part, run_of}
use Rattle.bare_forms.specs.Patterns.{joined_pat, applied_pat, missing_pat}
use Rattle.bare_forms.specs.Nodes.{joined_exp, applied_exp, missing_exp}
use Rattle.code_laws.specs.Constants.{fit_pat, fit_exp}

-- whether the constants of an operand fit; an operator has none
abbrev pub pat_part_fits : Part PlacedPat → Bool
pat_part_fits (Part.Atom p) = fit_pat p.pat
pat_part_fits (Part.Operator op) = true

abbrev pub exp_part_fits : Part PlacedExp → Bool
exp_part_fits (Part.Atom e) = fit_exp e.exp
exp_part_fits (Part.Operator op) = true

-- what a run of patterns makes has constants that fit, if its operands have; and so has what one of expressions makes
pub record RunsFit : Type 0 where
  pub patterns : (at : At) (parts : List (Part PlacedPat)) → list_all pat_part_fits parts ≡ true
      → fit_pat (run_of joined_pat applied_pat (missing_pat at) parts).pat ≡ true
  pub expressions : (at : At) (parts : List (Part PlacedExp)) → list_all exp_part_fits parts ≡ true
      → fit_exp (run_of joined_exp applied_exp (missing_exp at) parts).exp ≡ true
