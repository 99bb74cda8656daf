use Rattle.std.proofs.Common.{◌≡◌, drop}
use Rattle.cm_conditions.specs.Lexemes.{number_from}
use Rattle.command_words.proofs.definitions.number_of.Given as goal

-- the digits that are left make the number that all make
abbrev pub invariant-loop-digit : goal.invariant-loop-digit
invariant-loop-digit l = number_from l.number (drop l.digit-index l.digits) ≡ number_from 0 l.fn.digits
