use Rattle.std.proofs.Common.{◌≤◌, List, refl, sym, ap, subst, ◌∙◌, length}
use Rattle.std.specs.Prelude.{slice_get}
use Rattle.std.proofs.lemmas.Option.{slice_get_read}
use Rattle.node_bytes.specs.declared.table.Item.{Item}
use Rattle.node_bytes.specs.declared.table.Row.{Row}
use Rattle.node_bytes.proofs.Steps.{step_none, step_some, part_has}
use Rattle.node_bytes.proofs.write.step.Goals as goal

pub returns-then-items-top : goal.returns-then-items-top
returns-then-items-top c =
    step_none c.args.rows.now c.args.back c.args.top c.args.limit c.args.state.now c.index-rows-top.result
    (slice_get_read c.args.rows.now (length c.args.rows.now) c.args.top.id _ refl c.requires.has c.index-rows-top.is)
    (subst (λ (z : List Item). length z ≤ c.args.top.at)
    (c.as_slice-items.ensures ∙ ap (λ (r : Row). r.items) (sym c.index-rows-top.is)) c.if-items-top.true)
    c.requires.room.fits

pub take-requires-clause-has : goal.take-requires-clause-has
take-requires-clause-has c =
    part_has c.args.rows.now c.requires.rows c.args.top.id c.index-rows-top.result c.args.top.at
    c.index-items-top.result
    (slice_get_read c.args.rows.now (length c.args.rows.now) c.args.top.id _ refl c.requires.has c.index-rows-top.is)
    (ap (λ (z : List Item). slice_get z c.args.top.at)
    (sym (c.as_slice-items.ensures ∙ ap (λ (r : Row). r.items) (sym c.index-rows-top.is)))
    ∙ slice_get_read c.as_slice-items.result.now (length c.as_slice-items.result.now) c.args.top.at _ refl
    c.if-items-top.false c.index-items-top.is) c.requires.has

pub returns : goal.returns
returns c =
    step_some c.args.rows.now c.args.back c.args.top c.args.limit c.args.state.now c.take.new.state
    c.index-rows-top.result c.index-items-top.result c.take.result
    (slice_get_read c.args.rows.now (length c.args.rows.now) c.args.top.id _ refl c.requires.has c.index-rows-top.is)
    (ap (λ (z : List Item). slice_get z c.args.top.at)
    (sym (c.as_slice-items.ensures ∙ ap (λ (r : Row). r.items) (sym c.index-rows-top.is)))
    ∙ slice_get_read c.as_slice-items.result.now (length c.as_slice-items.result.now) c.args.top.at _ refl
    c.if-items-top.false c.index-items-top.is) c.take.ensures
