use Rattle.std.proofs.Common.{◌∙◌, ap, sym}
use Rattle.std.specs.FinMap.{get}
use Rattle.cm_base.specs.Files.{front_read}
use Rattle.path_anchors.specs.Names.{folder_path_of}
use Rattle.command_parts.specs.Sessions.{script_at}
use Rattle.loader_parts.proofs.Steps.{failed}
use Rattle.command_parts.proofs.ScriptLaws.{script_front}
use Rattle.command_parts.proofs.script.read_at.Goals as goal

pub returns-in_err-script_at-clause-gives : goal.returns-in_err-script_at-clause-gives
returns-in_err-script_at-clause-gives g c = λ files is.
    failed c.from_residual-in_err-script_at.result c.in_err-script_at.field-0.0 _ _
    c.from_residual-in_err-script_at.ensures.1
    (ap (script_at c.args.name.now) (c.in_ok-found.ensures.read files is
    ∙ ap (λ path. front_read 1048576 (get files path)) c.in_ok-path.ensures)
    ∙ script_front c.args.name.now (get files (folder_path_of c.args.anchors.now c.args.name.now)))
    c.in_err-script_at.ensures.gives

pub returns-clause-gives : goal.returns-clause-gives
returns-clause-gives g c = λ files is.
    sym (ap (script_at c.args.name.now) (c.in_ok-found.ensures.read files is
    ∙ ap (λ path. front_read 1048576 (get files path)) c.in_ok-path.ensures)
    ∙ script_front c.args.name.now (get files (folder_path_of c.args.anchors.now c.args.name.now)))
    ∙ c.in_ok-script_at.ensures.gives
