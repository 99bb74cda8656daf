use Rattle.sml_modules.specs.Adding.{Extends}
use Rattle.graph_copies.specs.Copied.{AreCopied}
use Rattle.graph_copies.proofs.walking.walk.Given as goal

abbrev pub invariant-loop : goal.invariant-loop
invariant-loop l = record {
  extends : Extends l.fn.into l.into;
  copied : AreCopied l.fn.graph.items l.into.items l.images;
}
