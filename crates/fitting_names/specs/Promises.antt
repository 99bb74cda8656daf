-- What the law says.
use Rattle.std.specs.Prelude.{◌≡◌, ◌<◌, ◌^◌, ℕ, true}
use Rattle.std.specs.Fmt.{decimal}
use Rattle.bare_forms.specs.Nodes.{arg_text}
use Rattle.fitting_names.specs.Names.{text_fits}

-- the label of a tuple's part and the name of an argument, which derived forms make up, fit
pub record NewNamesFit : Type 0 where
  pub labels : (n : ℕ) → n < 2 ^ 64 → text_fits (decimal n) ≡ true
  pub arguments : (n : ℕ) → n < 2 ^ 64 → text_fits (arg_text n) ≡ true
