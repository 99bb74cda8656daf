use Rattle.std.proofs.Common.{◌≡◌, ◌-◌, length}
use Rattle.grammars.specs.Reading.{read}
use Rattle.core_types.specs.Types.{ty}
use Rattle.signature_parser.specs.Signatures.{wheres}
use Rattle.signature_parser.proofs.wheres.wheres.Given as goal

-- what is left to read goes on from what was found so far
abbrev pub invariant-loop-left : goal.invariant-loop-left
invariant-loop-left l =
    read (wheres l.levels (ty (l.levels - 1)) l.place l.left) l.lexemes.rest.now
    ≡ read (wheres l.levels (ty (l.levels - 1)) l.place l.fn.left) l.fn.lexemes.rest.now

abbrev pub decreases-loop-left : goal.decreases-loop-left
decreases-loop-left l = length l.lexemes.rest.now
