use Rattle.std.proofs.Common.{ap, sym, ◌∙◌, Some}
use Rattle.std.specs.FinMap.{get}
use Rattle.cm_base.proofs.Held.{get_path}
use Rattle.cm_base.proofs.sure_folder.SureFolder.get.Goals as goal

pub returns-in-Some : goal.returns-in-Some
returns-in-Some c =
    ap Some c.as_bytes.ensures ∙ c.in-Some.ensures.value ∙ sym (get_path c.self.inside.files.entries c.args.path.now)
    ∙ ap (λ m. get m c.args.path.now) c.self.view_is

pub returns-in-None : goal.returns-in-None
returns-in-None c =
    c.in-None.ensures.value ∙ sym (get_path c.self.inside.files.entries c.args.path.now) ∙ ap (λ m. get m c.args.path.now) c.self.view_is
