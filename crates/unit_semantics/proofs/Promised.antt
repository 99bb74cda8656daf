-- The laws, as the public functions of this crate state them.
use Rattle.unit_semantics.specs.Promises.{MeansTheSame, UnitsDefineStructures, UnitsAreClosed}
use Rattle.unit_semantics.proofs.SameCore.{dec_same}
use Rattle.unit_semantics.proofs.Defined.{units_define}
use Rattle.unit_semantics.proofs.UnitsClosed.{units_closed}

pub means_the_same : MeansTheSame
means_the_same = dec_same

pub define_structures : UnitsDefineStructures
define_structures = record { all = units_define }

pub are_closed : UnitsAreClosed
are_closed = record { all = units_closed }
