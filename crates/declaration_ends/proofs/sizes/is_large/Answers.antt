use Rattle.unification.specs.Types.{size}
use Rattle.type_nodes.specs.Tables.{state}
use Rattle.static_semantics.specs.Inferring.{seen}
use Rattle.declaration_ends.proofs.Sizing.{over_limit}
use Rattle.declaration_ends.proofs.sizes.is_large.Goals as goal

pub returns-clause-large : goal.returns-clause-large
returns-clause-large c =
    over_limit c.in_ok-counted.counted (size (seen (state c.args.t.now).stands c.args.tree.now))
    c.in_ok-counted.ensures.counted
