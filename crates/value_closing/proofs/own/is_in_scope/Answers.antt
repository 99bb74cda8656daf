use Rattle.std.proofs.Common.{sym, ap, ◌∙◌}
use Rattle.std.specs.Option.{is_some}
use Rattle.core_scopes.specs.Scopes.{written_of}
use Rattle.value_closing.proofs.Entering.{named_first}
use Rattle.value_closing.proofs.own.is_in_scope.Goals as goal

pub returns-in-Some : goal.returns-in-Some
returns-in-Some c =
    sym (named_first (written_of c.args.scope.now) c.args.text.now ∙ ap is_some (sym c.in-Some.ensures))

pub returns-in-None : goal.returns-in-None
returns-in-None c =
    sym (named_first (written_of c.args.scope.now) c.args.text.now ∙ ap is_some (sym c.in-None.ensures))
