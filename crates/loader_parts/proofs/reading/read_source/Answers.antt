use Rattle.std.proofs.Common.{◌∙◌, ap, sym}
use Rattle.std.specs.FinMap.{get}
use Rattle.path_anchors.specs.Names.{folder_path_of}
use Rattle.loader_parts.specs.StepsInARow.{source_there}
use Rattle.loader_parts.proofs.Steps.{failed, read_is, unread}
use Rattle.loader_parts.proofs.Fronts.{found_front}
use Rattle.loader_parts.proofs.reading.read_source.Goals as goal

pub returns-in_err-found-clause-gives : goal.returns-in_err-found-clause-gives
returns-in_err-found-clause-gives g c = λ files is.
    unread c.from_residual.result c.in_err-found.field-0.0 _ _ c.from_residual.ensures.1
    (c.in_err-found.ensures.gives files is)

pub returns-in_err-source_found-clause-gives : goal.returns-in_err-source_found-clause-gives
returns-in_err-source_found-clause-gives g c = λ files is.
    failed c.from_residual-in_err-source_found.result c.in_err-source_found.field-0.0 _ _
    c.from_residual-in_err-source_found.ensures.1
    (ap (source_there c.args.at.now c.args.name.now)
    (read_is _ c.in_ok-found.found (c.in_ok-found.ensures.gives files is))
    ∙ found_front c.args.at.now c.args.name.now
    (get files (folder_path_of c.args.context.now.anchors.now c.args.name.now)))
    c.in_err-source_found.ensures

pub returns-clause-gives : goal.returns-clause-gives
returns-clause-gives g c = λ files is.
    sym (ap (source_there c.args.at.now c.args.name.now)
    (read_is _ c.in_ok-found.found (c.in_ok-found.ensures.gives files is))
    ∙ found_front c.args.at.now c.args.name.now
    (get files (folder_path_of c.args.context.now.anchors.now c.args.name.now)))
    ∙ c.in_ok-source_found.ensures
