use Rattle.std.proofs.Common.{ap, ◌∙◌, drop}
use Rattle.core_scopes.specs.Scopes.{Bindings, written_of, first_entry}
use Rattle.core_scopes.proofs.Scoping.{first_is}
use Rattle.core_scopes.proofs.scope.Scope.find_written.Goals as goal

pub returns-in-Some : goal.returns-in-Some
returns-in-Some g c = c.in-Some.ensures ∙ first_is (drop c.self.inside.hidden c.self.inside.written) c.args.name.now
    ∙ ap (λ (sc : Bindings g.row.V.Denot). first_entry (written_of sc) c.args.name.now) c.self.view_is

pub returns-in-None : goal.returns-in-None
returns-in-None g c = c.in-None.ensures ∙ first_is (drop c.self.inside.hidden c.self.inside.written) c.args.name.now
    ∙ ap (λ (sc : Bindings g.row.V.Denot). first_entry (written_of sc) c.args.name.now) c.self.view_is
