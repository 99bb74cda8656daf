use Rattle.std.proofs.Common.{ℕ, List, refl, subst, sym}
use Rattle.sml_modules.proofs.Keeping.{extends_self}
use Rattle.import_reading.specs.Restored.{restored_of, IsRestored}
use Rattle.import_reading.proofs.Standing.{are_still, are_noted, are_unchanged, none_of, one_of, has_already, has_noted}
use Rattle.import_reading.proofs.restored.have_restored.Goals as goal

pub returns-then-has-clause-extends : goal.returns-then-has-clause-extends
returns-then-has-clause-extends c = extends_self c.args.graph.now

pub returns-then-has-clause-has : goal.returns-then-has-clause-has
returns-then-has-clause-has c =
    has_already c.args.restored.now.by_provider c.args.given.now.import.provider c.args.given.now.interface c.has.result
    c.has.ensures c.if-has.true

pub returns-in_default-clause-restored : goal.returns-in_default-clause-restored
returns-in_default-clause-restored c =
    are_still c.args.graph.now c.restore_one.new.graph c.args.restored.now c.restore_one.ensures.extends c.requires

pub returns-in_default-clause-has : goal.returns-in_default-clause-has
returns-in_default-clause-has c =
    none_of c.restore_one.new.graph.items c.args.given.now.import.provider c.args.given.now.interface
    c.in_ok-made.field-0 c.in_ok-made.ensures.is (λ is e. c.in_default.not-Some is e)

pub returns-clause-restored : goal.returns-clause-restored
returns-clause-restored c =
    are_noted c.restore_one.new.graph.items c.in_ok-provider.provider c.in-Some.made c.args.restored.now _
    (are_still c.args.graph.now c.restore_one.new.graph c.args.restored.now c.restore_one.ensures.extends c.requires)
    (subst (λ (z : List ℕ). IsRestored c.restore_one.new.graph.items z c.in-Some.made) (sym c.in_ok-provider.ensures)
    (one_of c.restore_one.new.graph.items c.args.given.now.import.provider c.args.given.now.interface
    c.in_ok-made.field-0 c.in-Some.made c.in_ok-made.ensures.is c.in-Some.is).1)
    c.in_ok-note.ensures.ok c.len-restored.ensures

pub returns-clause-has : goal.returns-clause-has
returns-clause-has c =
    has_noted c.note.new.by_provider
    (restored_of c.args.restored.now.by_provider c.args.given.now.import.provider) c.in_ok-provider.provider
    c.args.given.now.import.provider c.args.given.now.interface c.in-Some.made c.in_ok-provider.ensures
    (one_of c.restore_one.new.graph.items c.args.given.now.import.provider c.args.given.now.interface
    c.in_ok-made.field-0 c.in-Some.made c.in_ok-made.ensures.is c.in-Some.is).0
    (c.in_ok-note.ensures.ok c.args.given.now.import.provider)

pub returns-in_err-made-clause-restored : goal.returns-in_err-made-clause-restored
returns-in_err-made-clause-restored c =
    are_still c.args.graph.now c.restore_one.new.graph c.args.restored.now c.restore_one.ensures.extends c.requires

pub returns-in_err-provider-clause-restored : goal.returns-in_err-provider-clause-restored
returns-in_err-provider-clause-restored c =
    are_still c.args.graph.now c.restore_one.new.graph c.args.restored.now c.restore_one.ensures.extends c.requires

pub returns-in_err-note-clause-restored : goal.returns-in_err-note-clause-restored
returns-in_err-note-clause-restored c =
    are_unchanged c.restore_one.new.graph.items c.args.restored.now _
    (are_still c.args.graph.now c.restore_one.new.graph c.args.restored.now c.restore_one.ensures.extends c.requires)
    c.in_err-note.ensures.err refl
