-- The laws, as the public functions of this crate state them.
use Rattle.renaming_laws.specs.Promises.{InferenceMoves}
use Rattle.renaming_laws.proofs.Unifying.{unify_at_moved}
use Rattle.renaming_laws.proofs.TypesMoved.{ty_moved, datatypes_moved, exceptions_moved}
use Rattle.renaming_laws.proofs.PatternsMoved.{pat_moved}
use Rattle.renaming_laws.proofs.CoreMoved.{exp_moved, match_moved, dec_moved}

pub inference_moves : InferenceMoves
inference_moves = record {
  unified = unify_at_moved;
  ty = ty_moved;
  pat = pat_moved;
  exp = exp_moved;
  rules = match_moved;
  dec = dec_moved;
  datatypes = datatypes_moved;
  exceptions = exceptions_moved;
}
