-- What reading the words of a command answers, by cases on its results.
use Rattle.std.specs.Prelude.{ℕ, Bool, List, ◌++◌, Option, Some, None}
use Rattle.command_words.specs.Words.{arguments_from}
use Rattle.command_words.specs.declared.arguments.Arguments.{Arguments}

-- arguments that were found, before those that the words behind them are
abbrev pub joined : Arguments → Option Arguments → Option Arguments
joined found None = None
joined found (Some more) = Some (record { defs = found.defs ++ more.defs; operands = found.operands ++ more.operands })

-- what the words behind one give: nothing where that meant nothing, and else what goes on with a definition due or not
abbrev pub going_on : Bool → Arguments → Option Bool → List (List ℕ) → Option Arguments
going_on takes found None more = None
going_on takes found (Some due) more = joined found (arguments_from takes due more)
