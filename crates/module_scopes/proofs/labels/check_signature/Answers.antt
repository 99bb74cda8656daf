use Rattle.std.proofs.Common.{[]}
use Rattle.std.specs.Option.{is_some}
use Rattle.sml_modules.specs.Graphs.{signature_at}
use Rattle.name_trails.specs.Trails.{last_entry}
use Rattle.module_scopes.specs.Tops.{signatures_over}
use Rattle.module_scopes.proofs.Rows.{is_label, label_checked}
use Rattle.module_scopes.proofs.labels.check_signature.Goals as goal

pub returns : goal.returns
returns c inner h = label_checked (signatures_over c.args.g.now c.args.made.now [])
    (is_some (last_entry c.args.made.now c.args.name.now.text)) c.args.name.now inner c.check_new.result
    (is_label (signature_at c.args.g.now) c.args.made.now c.args.name.now.text) (c.check_new.ensures inner h)
