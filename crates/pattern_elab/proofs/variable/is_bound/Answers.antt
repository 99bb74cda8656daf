use Rattle.std.proofs.Common.{sym, ap, ◌∙◌}
use Rattle.std.specs.Option.{is_some}
use Rattle.pattern_elab.proofs.Binding.{bound_found}
use Rattle.pattern_elab.proofs.variable.is_bound.Goals as goal

pub returns-in-Some : goal.returns-in-Some
returns-in-Some c = sym (bound_found c.args.bound.now c.args.name.now ∙ ap is_some (sym c.in-Some.ensures))

pub returns-in-None : goal.returns-in-None
returns-in-None c = sym (bound_found c.args.bound.now c.args.name.now ∙ ap is_some (sym c.in-None.ensures))
