use Rattle.std.proofs.Common.{refl, ◌∙◌, sym, ap, Some}
use Rattle.std.specs.Option.{option_copied}
use Rattle.import_reading.proofs.Standing.{found_restored, top_of_restored, not_one, never_missing, none_there}
use Rattle.import_reading.proofs.Following.{none_read, unusable_read, usable_read}
use Rattle.import_reading.proofs.reading.read_one.Goals as goal

pub usable_place-requires-clause-restored : goal.usable_place-requires-clause-restored
usable_place-requires-clause-restored c =
    (found_restored c.have_restored.new.graph.items c.have_restored.new.restored c.args.given.now.import.provider
    c.args.given.now.interface c.in_ok-have_restored.field-0 c.in-Some.found.now c.have_restored.ensures.restored
    c.in_ok-have_restored.ensures.has c.if-not-branch.false (sym c.find.ensures ∙ ap option_copied c.in-Some.is)).1

pub returns-then-not-branch-clause-reads : goal.returns-then-not-branch-clause-reads
returns-then-not-branch-clause-reads c made a =
    none_read c.args.unit.now c.args.given.now made c.have_restored.new.graph.items c.args.read.now
    (not_one c.have_restored.new.restored.by_provider c.args.given.now.import.provider c.args.given.now.interface
    c.in_ok-have_restored.field-0 c.in_ok-have_restored.ensures.has c.if-not-branch.true)

pub returns-in_default-clause-reads : goal.returns-in_default-clause-reads
returns-in_default-clause-reads c made a =
    absurd (never_missing c.have_restored.new.restored.by_provider c.args.given.now.import.provider
    c.args.given.now.interface c.in_ok-have_restored.field-0 c.in_ok-have_restored.ensures.has c.if-not-branch.false
    (λ is e. none_there c.find.result (λ found f. c.in_default.not-Some found f) is (c.find.ensures ∙ e)))

pub returns-in_default-2-clause-reads : goal.returns-in_default-2-clause-reads
returns-in_default-2-clause-reads c made a =
    unusable_read c.args.unit.now c.args.given.now made c.args.read.now c.usable_place.new.known.names
    c.args.graph.now.items c.args.read.now c.have_restored.new.graph.items c.have_restored.new.graph
    (Some c.in-Some.found.now.top) c.in-Some.found.now.top c.in_ok-place.field-0
    (top_of_restored c.have_restored.new.graph c.args.given.now.import.provider c.args.given.now.interface
    c.in-Some.found.now
    (found_restored c.have_restored.new.graph.items c.have_restored.new.restored c.args.given.now.import.provider
    c.args.given.now.interface c.in_ok-have_restored.field-0 c.in-Some.found.now c.have_restored.ensures.restored
    c.in_ok-have_restored.ensures.has c.if-not-branch.false (sym c.find.ensures ∙ ap option_copied c.in-Some.is)))
    refl a c.in_ok-place.ensures.finds (λ p e. c.in_default-2.not-Some p e)

pub returns-clause-reads : goal.returns-clause-reads
returns-clause-reads c made a =
    usable_read c.args.unit.now c.args.given.now made c.args.read.now
    (record { tables = c.set_place.new.tables; known = c.usable_place.new.known }) c.usable_place.new.known
    c.args.graph.now c.have_restored.new.graph (Some c.in-Some.found.now.top) c.in-Some.found.now.top
    c.in_ok-place.field-0 c.in-Some-2.place
    (top_of_restored c.have_restored.new.graph c.args.given.now.import.provider c.args.given.now.interface
    c.in-Some.found.now
    (found_restored c.have_restored.new.graph.items c.have_restored.new.restored c.args.given.now.import.provider
    c.args.given.now.interface c.in_ok-have_restored.field-0 c.in-Some.found.now c.have_restored.ensures.restored
    c.in_ok-have_restored.ensures.has c.if-not-branch.false (sym c.find.ensures ∙ ap option_copied c.in-Some.is)))
    refl c.have_restored.ensures.extends a c.in_ok-place.ensures.finds c.in-Some-2.is c.in_ok-place.ensures.kept refl
    c.in_ok-set_place.ensures
