use Rattle.bare_codes.proofs.Given.{given_units}
use Rattle.bare_codes.proofs.laws.bare_units_have_codes.Goals as goal

pub returns : goal.returns
returns c = given_units
