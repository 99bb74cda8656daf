-- The laws, as the public functions of this crate state them.
use Rattle.unit_renaming_laws.specs.Promises.{SignaturesMove, MatchingMoves, UnitsMove, UnitsBeginAnywhere}
use Rattle.unit_renaming_laws.proofs.Realising.{realised_by_moved}
use Rattle.unit_renaming_laws.proofs.Signing.{opened_moved, signature_moved}
use Rattle.unit_renaming_laws.proofs.MatchingMoved.{matching_moved, matched_moved}
use Rattle.unit_renaming_laws.proofs.ModulesMoved.{applied_moved, module_moved, module_dec_moved}
use Rattle.unit_renaming_laws.proofs.UnitsMoved.{unit_moved}
use Rattle.unit_renaming_laws.proofs.UnitsBegin.{unit_begins}

pub signatures_move : SignaturesMove
signatures_move = record { sig = signature_moved; opened = opened_moved; realised = realised_by_moved }

pub matching_moves : MatchingMoves
matching_moves = record { rows = matching_moved; env = matched_moved }

pub units_move : UnitsMove
units_move = record { applied = applied_moved; dec = module_dec_moved; str = module_moved; unit = unit_moved }

pub units_begin_anywhere : UnitsBeginAnywhere
units_begin_anywhere = record { unit = unit_begins }
