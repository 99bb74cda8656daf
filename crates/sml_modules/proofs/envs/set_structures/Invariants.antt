use Rattle.std.proofs.Common.{◌≡◌, drop}
use Rattle.semantic_objects.specs.Tables.{with_all}
use Rattle.sml_modules.specs.Adding.{place_rows}
use Rattle.sml_modules.proofs.envs.set_structures.Given as goal

abbrev pub invariant-loop-named : goal.invariant-loop-named
invariant-loop-named l =
    with_all (place_rows (drop l.named-index l.fn.structures)) l.rows
    ≡ with_all (place_rows l.fn.structures) l.fn.rows
