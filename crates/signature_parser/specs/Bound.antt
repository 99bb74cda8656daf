-- Bindings joined by `and`, as code reads them: first whether one more goes on, and its name.
use Rattle.std.specs.Prelude.{Bool, true, false, Option, None, Some}
use Rattle.grammars.specs.Grammar.{Grammar, ◌>>=◌, ◌>>◌}
use Rattle.grammars.specs.Grammar.Grammar.{pure}
use Rattle.sml_trees.specs.declared.name.Name.{Name}
use Rattle.phrase_reading.specs.Names.{if_mark, if_taken}
use Rattle.phrase_reading.specs.Words.{g, named}
use Rattle.sml_lexer.specs.declared.words.Word.TheVariants as w
use Rattle.signature_parser.specs.Joined.{module_name_of, module_name}

-- the name of another binding, if one goes on, where the `and` before it was taken or not
abbrev pub next_name : Bool → g (Option Name)
next_name true = if_taken module_name_of named (λ called. pure (Some called)) (pure None)
next_name false = if_mark w.And (module_name >>= λ called. pure (Some called)) (pure None)
