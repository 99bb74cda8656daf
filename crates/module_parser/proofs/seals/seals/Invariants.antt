use Rattle.std.proofs.Common.{◌≡◌, ◌-◌, length}
use Rattle.grammars.specs.Reading.{read}
use Rattle.signature_parser.specs.SigLevels.{sig_level}
use Rattle.module_parser.specs.Structures.{seals}
use Rattle.module_parser.proofs.seals.seals.Given as goal

-- what is left to read goes on from what was found so far
abbrev pub invariant-loop-mark : goal.invariant-loop-mark
invariant-loop-mark l =
    read (seals l.levels (sig_level (l.levels - 1)).sig l.place l.left) l.lexemes.rest.now
    ≡ read (seals l.levels (sig_level (l.levels - 1)).sig l.place l.fn.left) l.fn.lexemes.rest.now

abbrev pub decreases-loop-mark : goal.decreases-loop-mark
decreases-loop-mark l = length l.lexemes.rest.now
