use Rattle.std.proofs.Common.{ap₂, ◌∙◌}
use Rattle.semantic_objects.specs.Environments.{Env, modified_by}
use Rattle.sml_modules.specs.Graphs.{env_at, top_at}
use Rattle.pattern_elab.specs.Scopes.{own_entry}
use Rattle.module_scopes.proofs.Tops.{top_begins, core_begins, begins_bare}
use Rattle.module_scopes.proofs.top.TopScope.new.Goals as goal

pub returns-clause-seen : goal.returns-clause-seen
returns-clause-seen c =
    let g = c.args.g.now in
    top_begins c.args.g.now c.open_env.new.self c.args.given c.new.result (env_at c.args.g.now c.args.basis)
    (c.in_ok-open_env.ensures.ok.seen own_entry
    ∙ ap₂ (λ (a b : Env). modified_by a b) (c.new-core.ensures.seen g own_entry) c.in_ok-env.ensures.stands)
    c.new.ensures.signatures c.new.ensures.functors c.new.ensures.funsigs

pub returns-clause-core : goal.returns-clause-core
returns-clause-core c =
    let g = c.args.g.now in
    core_begins c.args.g.now c.open_env.new.self
    (modified_by (env_at c.args.g.now c.args.basis) (top_at c.args.g.now c.args.given).env)
    (c.in_ok-open_env.ensures.ok.seen own_entry
    ∙ ap₂ (λ (a b : Env). modified_by a b) (c.new-core.ensures.seen g own_entry) c.in_ok-env.ensures.stands)
    (c.in_ok-open_env.ensures.ok.written ∙ c.new-core.ensures.written)

pub returns-clause-bare : goal.returns-clause-bare
returns-clause-bare c = begins_bare c.args.basis c.new-core.result c.open_env.new.self c.new-core.ensures.empty
    c.in_ok-open_env.ensures.bare

pub returns-clause-there : goal.returns-clause-there
returns-clause-there c = record {
  core = c.in_ok-open_env.ensures.ok.there (c.new-core.ensures.there c.args.g.now c.requires.basis);
  written = c.in_ok-open_env.ensures.ok.written ∙ c.new-core.ensures.written;
  given = c.requires.given;
  defined = c.new.ensures.there c.args.g.now;
}
