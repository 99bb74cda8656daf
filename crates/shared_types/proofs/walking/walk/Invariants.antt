use Rattle.shared_types.specs.Copied.{AreCopied}
use Rattle.shared_types.proofs.walking.walk.Given as goal

abbrev pub invariant-loop : goal.invariant-loop
invariant-loop l = AreCopied l.fn.nodes l.copies l.images
