use Rattle.std.proofs.Common.{◌≡◌, ap, sym, ◌∙◌, filter, nat_eq}
use Rattle.std.specs.List.{starts_with}
use Rattle.std.specs.FinMap.{keys}
use Rattle.cm_base.proofs.Held.{keys_path}
use Rattle.cm_base.proofs.sure_folder.SureFolderFolder.list.Goals as goal

pub returns-clause-found : goal.returns-clause-found
returns-clause-found c = λ files is.
    let same : c.args.self.now ≡ files = cc in
    c.in_ok-into.ensures.below ∙ ap (filter (λ path. starts_with nat_eq path c.args.prefix.now))
    (sym (keys_path c.self.inside.files.entries c.in_ok-into.ensures.ordered) ∙ ap keys (c.self.view_is ∙ same))
