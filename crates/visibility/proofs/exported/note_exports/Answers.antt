use Rattle.std.proofs.Common.{◌≡◌, ◌∙◌, ap, ap₂, cond, Some}
use Rattle.indexmap.specs.IndexMap.{get}
use Rattle.cm_base.specs.declared.record.ModName.{ModName}
use Rattle.cm_conditions.specs.Tables.{same_name}
use Rattle.visibility.specs.Tables.{with_unit, at_name}
use Rattle.visibility.specs.declared.found.Found.{Found}
use Rattle.visibility.proofs.Founds.{note_more}
use Rattle.visibility.proofs.exported.note_exports.Goals as goal

pub loop-export-preserved : goal.loop-export-preserved
loop-export-preserved c = λ name.
    let old = get same_name c.loop-export.table in
    let export = c.export-item.result in
    let updated : get same_name c.insert.new.self name
    ≡ cond (same_name export.name name) (Some (with_unit (at_name old export.name) export.unit)) (old name) =
    c.in_ok-insert.ensures.updates.0 name
    ∙ ap₂ (λ (k : ModName) (f : Found). cond (same_name k name) (Some f) (old name)) c.in_ok-name.ensures
    (c.with_unit-found.ensures ∙ ap (λ f. with_unit f export.unit) c.found_at.ensures) in
    note_more old (get same_name c.insert.new.self) c.args.exports.now c.loop-export.export-index export name
    c.loop-export-test.true c.export-item.is updated
    ∙ c.loop-export.invariant name
