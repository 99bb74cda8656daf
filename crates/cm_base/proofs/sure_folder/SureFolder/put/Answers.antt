use Rattle.std.proofs.Common.{ap, ap₂, ◌∙◌}
use Rattle.std.specs.FinMap.{insert}
use Rattle.cm_base.proofs.Held.{put_path}
use Rattle.cm_base.proofs.sure_folder.SureFolder.put.Goals as goal

pub returns-clause-ok : goal.returns-clause-ok
returns-clause-ok c =
    put_path c.self.inside.files.entries c.insert.new.self.entries c.in_ok-name.name c.in_ok-text.text c.in_ok-insert.ensures.updates.0
    ∙ ap (λ m. insert m c.in_ok-name.name c.in_ok-text.text) c.self.view_is
    ∙ ap₂ (insert c.args.self.now) c.in_ok-name.ensures c.in_ok-text.ensures
