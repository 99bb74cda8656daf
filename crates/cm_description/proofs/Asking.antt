-- A chain asks for a module where its first side does, or one of its operators.
use Rattle.std.proofs.Common.{◌≡◌, ◌||◌, Bool, List, ap, sym, ◌∙◌, map}
use Rattle.cm_conditions.specs.declared.cond.Cond.{Cond}
use Rattle.cm_conditions.specs.declared.cond.Cond.TheOpen.{Cond-F}
use Rattle.cm_conditions.specs.declared.cond.Cond.TheFolds.{fold-Cond, fold-roll-Cond}
use Rattle.cm_conditions.specs.declared.cond.Cond.TheVariants as c
use Rattle.cm_conditions.specs.declared.cond.Step.{Step}
use Rattle.cm_description.specs.Modules.{some, names_level, step_level, names_module, step_names_module}

pub chain_asks : (first : Cond) (steps : List Step)
    → names_module (c.Chain first steps) ≡ (names_module first || some (map step_names_module steps))
unfolding names_module step_names_module
chain_asks first steps =
    ap (fold-Cond Bool Bool names_level step_level) (sym (c.rolls-Chain first steps))
    ∙ fold-roll-Cond _ _ names_level step_level (Cond-F.Chain first steps)
