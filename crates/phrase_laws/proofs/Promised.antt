-- The laws, as the public functions of this crate state them.
use Rattle.phrase_laws.specs.Promises.{TypesHaveDerivations, PatternsHaveDerivations}
use Rattle.phrase_laws.proofs.Types.{ty_derives}
use Rattle.phrase_laws.proofs.Patterns.{pat_derives}

pub types_have_derivations : TypesHaveDerivations
types_have_derivations = record { ty = ty_derives }

pub patterns_have_derivations : PatternsHaveDerivations
patterns_have_derivations = record { pat = pat_derives }
