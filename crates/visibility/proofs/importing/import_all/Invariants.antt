use Rattle.std.proofs.Common.{◌≡◌, drop}
use Rattle.cm_base.specs.declared.record.Need.{Need}
use Rattle.visibility.specs.Imports.{collected, import_by}
use Rattle.visibility.specs.Projects.{spot_place}
use Rattle.visibility.specs.Tables.{provider_by}
use Rattle.visibility.proofs.Collecting.{before}
use Rattle.visibility.proofs.importing.import_all.Given as goal

-- the imports for the names so far, and for those that are left
abbrev pub invariant-loop-need : goal.invariant-loop-need
invariant-loop-need l =
    let step = λ (need : Need).
    import_by l.basis (spot_place l.file need.spot) need (provider_by l.names l.unit need.spot.name) in
    before l.wanted (collected step (drop l.need-index l.needs)) ≡ collected step l.needs
