use Rattle.std.proofs.Common.{ap, ◌∙◌}
use Rattle.std.specs.FinMap.{remove}
use Rattle.cm_base.proofs.Held.{remove_path}
use Rattle.cm_base.proofs.sure_folder.SureFolder.take.Goals as goal

pub returns : goal.returns
returns c =
    remove_path c.self.inside.files.entries c.remove.new.self.entries c.args.path.now c.remove.ensures.updates.0
    ∙ ap (λ m. remove m c.args.path.now) c.self.view_is
