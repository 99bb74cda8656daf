use Rattle.std.proofs.Common.{sym, ap, ◌∙◌}
use Rattle.std.specs.Option.{option_map}
use Rattle.static_semantics.specs.Inferring.{stands_for_con}
use Rattle.core_scopes.specs.Scopes.{entry_of}
use Rattle.pattern_elab.specs.Scopes.{own_entry}
use Rattle.pattern_elab.proofs.value.stands_for_con.Goals as goal

pub returns-in-Some : goal.returns-in-Some
returns-in-Some c =
    c.has_con_status.ensures
    ∙ ap (λ o. stands_for_con (option_map (entry_of own_entry) o)) (sym c.in-Some.is)
    ∙ ap stands_for_con (c.in_ok-value.ensures own_entry)

pub returns-in-None : goal.returns-in-None
returns-in-None c =
    ap (λ o. stands_for_con (option_map (entry_of own_entry) o)) (sym c.in-None.is)
    ∙ ap stands_for_con (c.in_ok-value.ensures own_entry)
