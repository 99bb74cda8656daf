use Rattle.std.proofs.Common.{sym, ap, ◌∙◌}
use Rattle.semantic_objects.specs.Environments.{Env}
use Rattle.core_scopes.specs.declared.made.Made.{Made}
use Rattle.static_semantics.specs.Inferring.{Progress, gives}
use Rattle.type_phrases.specs.Inferred.{progress}
use Rattle.type_declarations.proofs.Binding.{made_is}
use Rattle.type_declarations.proofs.bindings.elab_types.Goals as goal

pub returns-in-Ok-clause-infers : goal.returns-in-Ok-clause-infers
returns-in-Ok-clause-infers g c = λ u read.
    let made : Made g.row.V.Denot =
    record { structures = c.new.result; types = c.in-Ok.types; values = c.new-in-Ok.result } in
    c.in-Ok.ensures.binds.infers u read
    ∙ ap (λ (env : Env). gives {A = Env × Progress} (env, progress c.read_binds.new.t c.args.g.now))
    (sym (made_is c.args.g.now read made c.new.ensures c.new-in-Ok.ensures))
