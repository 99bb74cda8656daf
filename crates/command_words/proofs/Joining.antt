-- Arguments that were found, before those of the words behind them.
use Rattle.std.proofs.Common.{◌≡◌, ◌∙◌, ℕ, List, [], ◌∷◌, ◌++◌, Bool, true, false, Option, Some, None, refl, ap, sym, append_assoc, if◌then◌else◌}
use Rattle.std.specs.Prelude.{◌&&◌}
use Rattle.std.specs.Option.{option_map}
use Rattle.cm_base.specs.declared.record.Def.{Def}
use Rattle.command_words.specs.Reading.{going_on, joined}
use Rattle.command_words.specs.Words.{arguments_from, begins_with_dash, definition_of, is_definition_mark, with_def, with_operand}
use Rattle.command_words.specs.declared.arguments.Arguments.{Arguments}

-- the operand at the front of the words behind is the next one that is found
operand_first : (found : Arguments) (word : List ℕ) (more : Option Arguments)
    → joined found (option_map (with_operand word) more)
    ≡ joined (record { defs = found.defs; operands = found.operands ++ word ∷ [] }) more
operand_first found word None = refl
operand_first found word (Some more) =
    ap (λ (operands : List (List ℕ)). Some (record { defs = found.defs ++ more.defs; operands = operands }))
    (sym (append_assoc found.operands (word ∷ []) more.operands))

-- .. and so is the definition
definition_first : (found : Arguments) (def : Def) (more : Option Arguments)
    → joined found (option_map (with_def def) more)
    ≡ joined (record { defs = found.defs ++ def ∷ []; operands = found.operands }) more
definition_first found def None = refl
definition_first found def (Some more) =
    ap (λ (defs : List Def). Some (record { defs = defs; operands = found.operands ++ more.operands }))
    (sym (append_assoc found.defs (def ∷ []) more.defs))

pub operand_on : (takes : Bool) (found : Arguments) (word : List ℕ) (operands : List (List ℕ))
    → (takes && is_definition_mark word) ≡ false → begins_with_dash word ≡ false → operands ≡ found.operands ++ word ∷ []
    → (more : List (List ℕ)) → joined found (arguments_from takes false (word ∷ more))
    ≡ joined (record { defs = found.defs; operands = operands }) (arguments_from takes false more)
operand_on takes found word operands mark dash is more =
    ap (λ b. joined found (if b then arguments_from takes true more
    else (if begins_with_dash word then None else option_map (with_operand word) (arguments_from takes false more)))) mark
    ∙ ap (λ b. joined found (if b then None else option_map (with_operand word) (arguments_from takes false more))) dash
    ∙ operand_first found word (arguments_from takes false more)
    ∙ ap (λ (all : List (List ℕ)). joined (record { defs = found.defs; operands = all }) (arguments_from takes false more)) (sym is)

pub definition_on : (takes : Bool) (found : Arguments) (word : List ℕ) (def : Def) (defs : List Def)
    → definition_of word ≡ Some def → defs ≡ found.defs ++ def ∷ []
    → (more : List (List ℕ)) → joined found (arguments_from takes true (word ∷ more))
    ≡ joined (record { defs = defs; operands = found.operands }) (arguments_from takes false more)
definition_on takes found word def defs is all more =
    rw is (definition_first found def (arguments_from takes false more)
    ∙ ap (λ (d : List Def). joined (record { defs = d; operands = found.operands }) (arguments_from takes false more)) (sym all))

-- one word is read: what was found and what goes on behind it are all there is
pub one_more : (takes due : Bool) (found new : Arguments) (word : List ℕ) (words more : List (List ℕ)) (next : Option Bool)
    (all : Option Arguments) → words ≡ word ∷ more
    → joined found (arguments_from takes due (word ∷ more)) ≡ going_on takes new next more
    → joined found (arguments_from takes due words) ≡ all → going_on takes new next more ≡ all
one_more takes due found new word words more next all is read whole =
    sym read ∙ ap (λ ws. joined found (arguments_from takes due ws)) (sym is) ∙ whole
