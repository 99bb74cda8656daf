use Rattle.std.proofs.Common.{◌∙◌, ap, sym}
use Rattle.std.specs.FinMap.{get}
use Rattle.cm_base.specs.Files.{front_read}
use Rattle.path_anchors.specs.Pathconfig.{config_file}
use Rattle.project_loading.specs.Projects.{bound_by}
use Rattle.project_checks.specs.declared.limits.TheConstants.{PATHCONFIG}
use Rattle.loader_parts.proofs.Steps.{failed}
use Rattle.loader_parts.proofs.Fronts.{bound_front}
use Rattle.loader_parts.proofs.reading.read_anchors.Goals as goal

pub returns-in_err-bound_by-clause-gives : goal.returns-in_err-bound_by-clause-gives
returns-in_err-bound_by-clause-gives g c = λ files is.
    failed c.from_residual-in_err-bound_by.result c.in_err-bound_by.field-0.0 _ _
    c.from_residual-in_err-bound_by.ensures.1
    (ap bound_by (c.in_ok-found.ensures.read files is
    ∙ ap (λ path. front_read PATHCONFIG (get files path)) c.in_ok-path.ensures)
    ∙ bound_front (get files config_file))
    c.in_err-bound_by.ensures

pub returns-clause-gives : goal.returns-clause-gives
returns-clause-gives g c = λ files is.
    sym (ap bound_by (c.in_ok-found.ensures.read files is
    ∙ ap (λ path. front_read PATHCONFIG (get files path)) c.in_ok-path.ensures)
    ∙ bound_front (get files config_file))
    ∙ c.in_ok-bound_by.ensures
