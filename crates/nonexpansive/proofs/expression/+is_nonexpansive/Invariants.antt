use Rattle.std.proofs.Common.{◌≡◌, false, drop}
use Rattle.semantic_objects.specs.declared.entry.ValueEntry.{ValueEntry}
use Rattle.static_semantics.specs.Inferring.{is_con}
use Rattle.core_scopes.specs.Scopes.{seen}
use Rattle.nonexpansive.proofs.Fields.{are_all}
use Rattle.nonexpansive.proofs.expression.+is_nonexpansive.Given as goal

-- whether all are is whether those are that are left
abbrev pub invariant-are_nonexpansive-loop-field : goal.invariant-are_nonexpansive-loop-field
invariant-are_nonexpansive-loop-field g l =
    (read : g.row.V.Denot → ValueEntry) → ((own : g.row.V.Denot) → is_con (read own).status ≡ false)
    → are_all (seen l.fn.g read l.fn.scope) (drop l.field-index l.fn.fields) ≡ are_all (seen l.fn.g read l.fn.scope) l.fn.fields
