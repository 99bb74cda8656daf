use Rattle.std.proofs.Common.{ℕ, List, sym, ◌∙◌, ap, ap₂}
use Rattle.name_trails.specs.Trails.{same}
use Rattle.static_semantics.specs.DatatypeInference.{same_as_home}
use Rattle.functor_closing.proofs.Naming.{texts_alike}
use Rattle.functor_closing.proofs.since.is_own.Goals as goal

pub returns-in-Unit : goal.returns-in-Unit
returns-in-Unit c =
    c.eq.ensures
    ∙ ap₂ (λ (a b : List ℕ). same a b) c.as_bytes.ensures c.as_bytes-in-Unit.ensures
    ∙ sym (texts_alike c.args.home.now c.in-Unit.unit)
    ∙ ap (same_as_home c.args.home.now) (sym c.in-Unit.is)
