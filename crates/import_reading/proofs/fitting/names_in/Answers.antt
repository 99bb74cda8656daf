use Rattle.std.proofs.Common.{ap, ◌∙◌}
use Rattle.type_walks.proofs.Imaging.{if_ok}
use Rattle.realisation.specs.Names.{once}
use Rattle.import_reading.proofs.fitting.names_in.Goals as goal

pub returns : goal.returns
returns c =
    if_ok c.names_of_all.result c.names_of_all.ensures (λ names h. h ∙ ap once c.in_ok-envs.ensures.names)
