use Rattle.std.proofs.Common.{ℕ, List, sym, ◌∙◌, ap, ap₂, nat_eq}
use lib.Pointwise.{pointwise}
use Rattle.static_semantics.specs.DatatypeInference.{same_as_home}
use Rattle.given_tops.proofs.Bound.{texts_alike}
use Rattle.given_tops.proofs.names.is_own.Goals as goal

pub returns-in-Unit : goal.returns-in-Unit
returns-in-Unit c =
    c.eq.ensures
    ∙ ap₂ (λ (a b : List ℕ). pointwise nat_eq a b) c.as_bytes.ensures c.as_bytes-in-Unit.ensures
    ∙ sym (texts_alike c.args.home.now c.in-Unit.unit)
    ∙ ap (same_as_home c.args.home.now) (sym c.in-Unit.is)
