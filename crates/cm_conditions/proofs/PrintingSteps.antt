-- How a condition is printed, by its parts.
use Rattle.std.proofs.Common.{◌≡◌, ℕ, List, ◌++◌, ap, sym, ◌∙◌}
use Rattle.std.specs.List.{flat_map}
use Rattle.std.proofs.lemmas.List.Folds.{flat_map-map}
use Rattle.cm_conditions.specs.Printing.{printed, printed_step, text_level, step_level}
use Rattle.cm_conditions.specs.declared.cond.Cond.{Cond}
use Rattle.cm_conditions.specs.declared.cond.Cond.TheOpen.{Cond-F}
use Rattle.cm_conditions.specs.declared.cond.Cond.TheFolds.{fold-Cond, fold-roll-Cond}
use Rattle.cm_conditions.specs.declared.cond.Cond.TheVariants as c
use Rattle.cm_conditions.specs.declared.cond.Step.{Step}

-- a chain is its first side, and then its operators
pub printed-Chain : (first : Cond) (steps : List Step)
    → printed (c.Chain first steps) ≡ printed first ++ flat_map printed_step steps
unfolding printed printed_step
printed-Chain first steps =
    ap (fold-Cond (List ℕ) (List ℕ) text_level step_level) (sym (c.rolls-Chain first steps))
    ∙ fold-roll-Cond _ _ text_level step_level (Cond-F.Chain first steps)
    ∙ ap (λ (xs : List ℕ). printed first ++ xs) (flat_map-map (λ (xs : List ℕ). xs) printed_step steps)

pub ruleset levels = (printed-Chain)
