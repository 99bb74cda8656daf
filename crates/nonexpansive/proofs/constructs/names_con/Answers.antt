use Rattle.std.proofs.Common.{◌∙◌, sym, ap, List, ℕ}
use Rattle.std.specs.Option.{option_map}
use Rattle.semantic_objects.specs.Environments.{values}
use Rattle.static_semantics.specs.Inferring.{found_at, stands_for_con}
use Rattle.core_scopes.specs.Scopes.{entry_of, seen}
use Rattle.nonexpansive.proofs.constructs.names_con.Goals as goal

pub returns-in-Some : goal.returns-in-Some
returns-in-Some g c = λ read own.
    c.is_con.ensures read own
    ∙ ap (λ found. stands_for_con (option_map (entry_of read) found)) (sym c.in-Some.is)
    ∙ ap stands_for_con (c.in_ok-value.ensures read)
    ∙ ap (λ (parts : List (List ℕ)). stands_for_con (found_at values parts (seen c.args.g.now read c.args.scope.now)))
    c.as_slice.ensures

pub returns-in-None : goal.returns-in-None
returns-in-None g c = λ read own.
    ap (λ found. stands_for_con (option_map (entry_of read) found)) (sym c.in-None.is)
    ∙ ap stands_for_con (c.in_ok-value.ensures read)
    ∙ ap (λ (parts : List (List ℕ)). stands_for_con (found_at values parts (seen c.args.g.now read c.args.scope.now)))
    c.as_slice.ensures
