use Rattle.std.proofs.Common.{◌≡◌, ℕ, drop, List, slice_get}
use Rattle.cm_description.specs.declared.loaded.Export.{Export}
use Rattle.visibility.specs.Exports.{entry_export}
use Rattle.visibility.specs.Imports.{collected}
use Rattle.visibility.specs.Tables.{behind_by}
use Rattle.visibility.proofs.Collecting.{before}
use Rattle.visibility.proofs.OnceShown.{IsShown}
use Rattle.visibility.proofs.entries.entry_exports.Given as goal

-- the exports of the entries so far, and of those that are left
abbrev pub invariant-loop-number : goal.invariant-loop-number
invariant-loop-number l =
    let step = λ (n : ℕ). entry_export (behind_by l.names) (slice_get l.entries n) in
    (done : List Export)
    × (before done (collected step (drop l.number-index l.chosen)) ≡ collected step l.chosen)
    × IsShown l.shown l.exports done
