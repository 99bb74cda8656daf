use Rattle.std.proofs.Common.{◌≡◌, ◌∙◌, sym, ap, [], unwrap_or}
use Rattle.std.proofs.lemmas.Option.{unwrap_or-slice_get}
use Rattle.dependency_graph.specs.Order.{name_of}
use Rattle.dependency_graph.proofs.refusal.name_at.Goals as goal

-- past the last unit there is no name
pub returns-in-None : goal.returns-in-None
returns-in-None c =
    let past : name_of c.args.names.now c.args.unit ≡ [] =
    sym (unwrap_or-slice_get c.args.names.now c.args.unit [])
    ∙ ap (λ o. unwrap_or o []) (sym c.in-None.ensures.item) in
    rw past c.from_bytes.ensures
