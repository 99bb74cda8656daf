use Rattle.std.proofs.Common.{◌≡◌, take}
use Rattle.std.specs.Prelude.{flat_map}
use Rattle.case_files.proofs.case.Section.bytes.Given as goal

-- the bytes of the lines so far
abbrev pub invariant-loop-piece : goal.invariant-loop-piece
invariant-loop-piece l = l.all.items ≡ flat_map (λ piece. piece.bytes) (take l.piece-index l.self.pieces)
