use Rattle.std.proofs.Common.{ap, subst}
use Rattle.semantic_objects.specs.declared.entry.TypeFn.{TypeFn}
use Rattle.semantic_objects.specs.declared.entry.ValueEntry.{ValueEntry}
use Rattle.semantic_objects.specs.Environments.{Env, types}
use Rattle.sml_modules.specs.Items.{Item, as_value}
use Rattle.static_semantics.specs.Inferring.{found_at}
use Rattle.type_phrases.specs.Inferred.{Answers}
use Rattle.where_types.specs.Where.{known_function}
use Rattle.where_types.proofs.whole.function_in.Goals as goal

nothing : Unit {0} → ValueEntry
nothing u = as_value Item.Nowhere

pub returns : goal.returns
returns c = λ inner home.
    subst (λ (env : Env). Answers (known_function inner c.args.long.now (found_at types c.args.long.now.parts env))
    (λ (function : TypeFn). function) c.function_seen.result)
    (c.new-inside.ensures.seen c.args.g.now nothing) (c.function_seen.ensures inner nothing home)
