use Rattle.body_laws.proofs.Units.{sequences_of_bare}
use Rattle.body_laws.proofs.laws.bodies_are_sequences.Goals as goal

pub returns : goal.returns
returns c = sequences_of_bare
