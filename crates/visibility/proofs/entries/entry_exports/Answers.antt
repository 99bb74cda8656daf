use Rattle.std.proofs.Common.{◌∙◌, ◌++◌, ℕ, get_or, slice_get}
use Rattle.std.specs.Prelude.{option_to_list}
use Rattle.visibility.specs.Exports.{entry_export}
use Rattle.visibility.specs.Tables.{behind_by}
use Rattle.visibility.proofs.Collecting.{one_more}
use Rattle.visibility.proofs.Defining.{own_item}
use Rattle.visibility.proofs.OnceShown.{shown_all}
use Rattle.visibility.proofs.entries.entry_exports.Goals as goal

pub loop-number-preserved : goal.loop-number-preserved
loop-number-preserved c =
    let step = λ (n : ℕ). entry_export (behind_by c.args.names.now) (slice_get c.args.entries.now n) in
    let at = c.loop-number.number-index in
    let done = c.loop-number.invariant.0 in
    let export = c.in_ok-export.export in (
      done ++ option_to_list export,
      one_more step c.args.chosen.now at (get_or c.args.chosen.now at 0) done (option_to_list export)
          c.loop-number-test.true (own_item c.args.chosen.now at c.loop-number-test.true) c.in_ok-export.ensures
          ∙ c.loop-number.invariant.1,
      shown_all c.loop-number.shown c.add_shown.new.shown c.loop-number.exports c.add_shown.new.exports done export
          c.in_ok-add_shown.ensures c.loop-number.invariant.2,
    )
