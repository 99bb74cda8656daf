-- How the operators of a chain are applied one after another, and that a table gives what its lists give.
use Rattle.std.proofs.Common.{◌≡◌, ℕ, ◌+◌, ◌<◌, List, [], ◌∷◌, Option, Some, None, Bool, refl, sym, ap, ap₂, ◌∙◌, length, drop, get_or, map, ℤ}
use Rattle.std.proofs.Math.Path.{fun_ext}
use Rattle.cm_base.specs.declared.record.Def.{Def}
use Rattle.cm_base.specs.declared.record.ModName.{ModName}
use Rattle.cm_conditions.specs.Values.{steps_value, value_by, step_by, cond_level, step_level, condition_value}
use Rattle.cm_conditions.specs.Tables.{table_def, table_module, AreOf}
use Rattle.cm_conditions.specs.declared.cond.Cond.{Cond}
use Rattle.cm_conditions.specs.declared.cond.Cond.TheOpen.{Cond-F}
use Rattle.cm_conditions.specs.declared.cond.Cond.TheFolds.{fold-Cond, fold-roll-Cond}
use Rattle.cm_conditions.specs.declared.cond.Cond.TheVariants as c
use Rattle.cm_conditions.specs.declared.cond.Step.{Step}
use Rattle.cm_conditions.specs.declared.names.Names.{Names}
use Rattle.cm_conditions.proofs.TableSteps.{left_at}

-- no operator gives a value where there is none before it
pub steps_none : (steps : List (ℤ → Option ℤ)) → steps_value steps None ≡ None
steps_none [] = refl
steps_none (step ∷ steps) = steps_none steps

-- an operator without a value
pub broken : (one : Step → ℤ → Option ℤ) (steps : List Step) (i : ℕ) (step : Step) (left : ℤ) (whole : Option ℤ)
    → i < length steps → step ≡ get_or steps i step → steps_value (map one (drop i steps)) (Some left) ≡ whole
    → one step left ≡ None → None ≡ whole
broken one steps i step left whole lt here is none =
    sym (steps_none (map one (drop (i + 1) steps)))
    ∙ ap (λ v. steps_value (map one (drop (i + 1) steps)) v) (sym none)
    ∙ ap (λ left_over. steps_value (map one left_over) (Some left)) (sym (left_at steps i step lt here))
    ∙ is

-- what is no value is none
pub not_some : (o : Option ℤ) → ((x : ℤ) → o ≡ Some x → ⊥) → o ≡ None
not_some None h = refl
not_some (Some x) h = absurd (h x refl)

pub none_steps : (steps : List (ℤ → Option ℤ)) (first : Option ℤ) → first ≡ None → None ≡ steps_value steps first
none_steps steps first h = sym (steps_none steps) ∙ ap (steps_value steps) (sym h)

-- a chain is its first side, and then its operators
chain_value : (defs : List ℕ → Option ℤ) (there : ModName → Bool) (first : Cond) (steps : List Step)
    → value_by defs there (c.Chain first steps) ≡ steps_value (map (step_by defs there) steps) (value_by defs there first)
unfolding value_by step_by
chain_value defs there first steps =
    ap (fold-Cond (Option ℤ) (ℤ → Option ℤ) (cond_level defs there) step_level) (sym (c.rolls-Chain first steps))
    ∙ fold-roll-Cond _ _ (cond_level defs there) step_level (Cond-F.Chain first steps)

pub chain_none : (defs : List ℕ → Option ℤ) (there : ModName → Bool) (first : Cond) (steps : List Step)
    → value_by defs there first ≡ None → None ≡ value_by defs there (c.Chain first steps)
chain_none defs there first steps h =
    none_steps (map (step_by defs there) steps) (value_by defs there first) h ∙ sym (chain_value defs there first steps)

pub ruleset chain_steps = (steps_none, none_steps)

-- what tables give is what their lists give
pub value_of_tables : (names : Names) (defs : List Def) (modules : List ModName) (cond : Cond) → AreOf names defs modules
    → value_by (table_def names) (table_module names) cond ≡ condition_value defs modules cond
value_of_tables names defs modules cond are =
    ap₂ (λ d m. value_by d m cond) (fun_ext are.values) (fun_ext are.there)
