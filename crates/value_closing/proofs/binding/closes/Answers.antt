use Rattle.pattern_elab.specs.Scopes.{own_entry}
use Rattle.value_closing.proofs.RecPats.{own_variables_are}
use Rattle.value_closing.proofs.binding.closes.Goals as goal

pub returns : goal.returns
returns c = c.in_ok-is_nonexpansive.ensures own_entry own_variables_are
