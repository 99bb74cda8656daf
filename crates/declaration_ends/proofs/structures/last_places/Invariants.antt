use Rattle.std.proofs.Common.{◌≡◌, [], drop}
use Rattle.semantic_objects.specs.Tables.{with_all}
use Rattle.sml_modules.specs.Adding.{place_rows}
use Rattle.declaration_ends.proofs.structures.last_places.Given as goal

abbrev pub invariant-loop-named : goal.invariant-loop-named
invariant-loop-named l =
    with_all (place_rows (drop l.named-index l.fn.structures)) l.rows ≡ with_all (place_rows l.fn.structures) []
