use Rattle.std.proofs.Common.{◌≡◌, ◌++◌}
use Rattle.sml_modules.specs.Graphs.{value_rows}
use Rattle.core_scopes.specs.Marks.{value_rows as rows_read}
use Rattle.pattern_elab.specs.Scopes.{own_entry}
use Rattle.declaration_forms.proofs.whole.values_of.Given as goal

-- what was listed, and the entries that are left
abbrev pub invariant-loop-named : goal.invariant-loop-named
invariant-loop-named l =
    value_rows l.values ++ rows_read own_entry l.named-iterator.rest.items ≡ rows_read own_entry l.fn.entries
