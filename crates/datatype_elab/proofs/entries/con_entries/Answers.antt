use Rattle.std.proofs.Common.{ℕ, List, ap, map, ◌∙◌}
use Rattle.semantic_objects.specs.Tables.{names_of}
use Rattle.datatype_elab.specs.Making.{places_from, scheme_in}
use Rattle.datatype_elab.proofs.Entering.{entries_more}
use Rattle.datatype_elab.proofs.entries.con_entries.Goals as goal

pub loop-at-preserved : goal.loop-at-preserved
loop-at-preserved c =
    entries_more
    (scheme_in c.args.new.now.home c.args.new.now.first c.args.choice.now c.args.marks.now c.args.of.now c.args.cons.now)
    (places_from 0 c.args.cons.now) c.loop-at.at c.in-Some-Some.name.now c.in-Some-Some.place.now c.in_ok-names.names
    c.in_ok-places.places c.loop-at.entries c.add.new.self c.in_ok-entry-in-Some-Some.entry
    (c.in_ok-names.ensures.names ∙ ap (names_of {A = ℕ}) c.in_ok-rows.ensures)
    (c.in_ok-places.ensures ∙ ap (map (λ (row : List ℕ × ℕ). row.1)) c.in_ok-rows.ensures)
    c.in-Some-Some.ensures.item c.in-Some-Some.ensures'.item c.loop-at.invariant
    c.in_ok-entry-in-Some-Some.ensures.name c.in_ok-entry-in-Some-Some.ensures.scheme
    c.in_ok-add-in-Some-Some.ensures.ok
