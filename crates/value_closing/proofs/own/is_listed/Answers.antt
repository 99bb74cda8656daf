use Rattle.std.proofs.Common.{sym, ap, ◌∙◌}
use Rattle.std.specs.Option.{is_some}
use Rattle.type_bindings.proofs.ListedSoFar.{named_before}
use Rattle.value_closing.proofs.own.is_listed.Goals as goal

pub returns-in-Some : goal.returns-in-Some
returns-in-Some c = sym (named_before c.args.rows.now c.args.text.now ∙ ap is_some (sym c.in-Some.ensures))

pub returns-in-None : goal.returns-in-None
returns-in-None c = sym (named_before c.args.rows.now c.args.text.now ∙ ap is_some (sym c.in-None.ensures))
