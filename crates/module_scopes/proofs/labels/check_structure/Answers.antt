use Rattle.std.proofs.Common.{sym, ap, ◌∙◌, []}
use Rattle.std.specs.Option.{is_some}
use Rattle.semantic_objects.specs.Tables.{Table, entry, with_all}
use Rattle.semantic_objects.specs.Environments.{Env, structures}
use Rattle.sml_modules.specs.Items.{map_rows}
use Rattle.sml_modules.specs.Graphs.{env_at}
use Rattle.name_trails.specs.Trails.{last_entry}
use Rattle.module_scopes.specs.Tops.{structures_env}
use Rattle.module_scopes.proofs.Rows.{is_label, label_checked, tables_back}
use Rattle.module_scopes.proofs.labels.check_structure.Goals as goal

pub returns : goal.returns
returns c inner h = label_checked (structures (structures_env c.args.g.now c.args.made.now))
    (is_some (last_entry c.args.made.now c.args.name.now.text)) c.args.name.now inner c.check_new.result
    (is_label (env_at c.args.g.now) c.args.made.now c.args.name.now.text
    ∙ ap (λ (t : Table Env). is_some (entry c.args.name.now.text t))
    (sym (tables_back (with_all (map_rows (env_at c.args.g.now) c.args.made.now) []))))
    (c.check_new.ensures inner h)
