use Rattle.std.proofs.Common.{subst}
use Rattle.semantic_objects.specs.Symbols.{AreRising}
use Rattle.given_tops.proofs.Constructors.{is_table}
use Rattle.given_tops.proofs.walk.rise.Goals as goal

pub returns : goal.returns
returns c = is_table c.args.rows.now (subst AreRising c.in_ok-names.ensures.names c.in_ok-names.ensures.rising)
