use Rattle.std.proofs.Common.{IsTrue, ◌↔◌, ◌∙◌, subst}
use Rattle.interface_format.specs.Rules.{AreNumbered}
use Rattle.interface_restoring.proofs.names.own_numbered.Goals as goal

pub returns : goal.returns
returns c =
    subst (λ names. IsTrue c.are_numbered.result ↔ AreNumbered 0 names) (c.as_slice.ensures ∙ c.in_ok-own.ensures)
    c.are_numbered.ensures
