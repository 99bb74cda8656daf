use Rattle.std.proofs.Common.{length, subst, sym, ap, ◌∙◌}
use Rattle.type_nodes.specs.Tables.{Table}
use Rattle.type_nodes.specs.Keeping.{IsHistory}
use Rattle.type_nodes.proofs.bindings.TypeBindings.mark.Goals as goal

pub invariant_of-result : goal.invariant_of-result
invariant_of-result c = record {
  history = subst IsHistory (sym c.of.ensures) c.is_kept.ensures.history;
  variables = c.variables.ensures ∙ sym (ap (λ (t : Table). length t.births) c.of.ensures);
  nodes = c.nodes.ensures ∙ sym (ap (λ (t : Table). length t.nodes) c.of.ensures);
  entries = c.entries.ensures ∙ sym (ap (λ (t : Table). length t.trail) c.of.ensures);
}
