use Rattle.std.proofs.Common.{◌≡◌, ◌++◌, drop, map}
use Rattle.std.specs.List.{flat_map}
use Rattle.sml_modules.specs.Items.{at}
use Rattle.name_walks.specs.Places.{HasAll, names_in_all}
use Rattle.canonical_walks.specs.Binders.{binder_names}
use Rattle.canonical_walks.proofs.tops.add_rows.Given as goal

abbrev pub invariant-loop-place : goal.invariant-loop-place
invariant-loop-place l = record {
  there : HasAll l.fn.graph l.fn.envs → HasAll l.fn.graph l.envs;
  are : names_in_all l.fn.graph l.envs
      ++ flat_map (λ p. binder_names (at l.fn.graph.items p)) (drop l.place-index (map (λ row. row.1) l.fn.rows))
      ≡ names_in_all l.fn.graph l.fn.envs
      ++ flat_map (λ p. binder_names (at l.fn.graph.items p)) (map (λ row. row.1) l.fn.rows);
}
