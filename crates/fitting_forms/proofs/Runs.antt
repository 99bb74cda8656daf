-- What a run makes of operands whose constants fit has constants that fit.
use Rattle.std.proofs.Common.{◌≡◌, Bool, true, List, [], ◌∷◌}
use Rattle.std.specs.List.{list_all}
use Rattle.std.proofs.lemmas.Bool.{and_parts}
use Rattle.bare_forms.specs.declared.placed.PlacedPat.{PlacedPat}
use Rattle.bare_forms.specs.declared.placed.PlacedExp.{PlacedExp}
use Rattle.bare_forms.specs.Runs.{Part}
use Rattle.body_laws.proofs.Signatures.{Each}
use Rattle.fitting_forms.specs.Promises.{pat_part_fits, exp_part_fits, RunsFit}
use Rattle.fitting_forms.proofs.PatForms as pats
use Rattle.fitting_forms.proofs.ExpNodes as exps

pat_part : (part : Part PlacedPat) → pat_part_fits part ≡ true → pats.FitPart part
pat_part (Part.Atom p) is = is
pat_part (Part.Operator op) is = tt

exp_part : (part : Part PlacedExp) → exp_part_fits part ≡ true → exps.FitPart part
exp_part (Part.Atom e) is = is
exp_part (Part.Operator op) is = tt

each_of : {A : Type 0} (test : A → Bool) (P : A → Type 0) → ((x : A) → test x ≡ true → P x) → (xs : List A)
    → list_all test xs ≡ true → Each P xs
each_of test P each [] all = tt
each_of test P each (x ∷ xs) all =
    let both = and_parts (test x) (list_all test xs) all in (each x both.0, each_of test P each xs both.1)

pub runs : RunsFit
runs = record {
  patterns = λ at parts all. pats.good-run at parts (each_of pat_part_fits pats.FitPart pat_part parts all);
  expressions = λ at parts all. exps.good-run at parts (each_of exp_part_fits exps.FitPart exp_part parts all);
}
