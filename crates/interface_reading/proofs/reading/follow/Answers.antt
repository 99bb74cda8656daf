use Rattle.std.proofs.Common.{◌∷◌, [], ◌++◌, List, Option, ℕ, None, get_or, sym, ap, ◌∙◌}
use Rattle.node_bytes.specs.declared.table.Item.{Item}
use Rattle.interface_reading.specs.Remaining.{with_open, with_need}
use Rattle.interface_reading.specs.declared.fault.RestoreFault.TheVariants as fault
use Rattle.interface_reading.specs.declared.needs.Need.TheVariants as need
use Rattle.interface_reading.proofs.Moving.{with_part, back_short, back_nowhere}
use Rattle.interface_reading.proofs.Advancing.{advances_not, back_reference, moves_to}
use Rattle.interface_reading.proofs.reading.follow.Goals as goal

pub returns-in_err-number : goal.returns-in_err-number
returns-in_err-number c =
    advances_not c.from_residual.result fault.BadInterface (with_open c.args.state.now (with_need c.args.top need.Part))
    c.args.state.now (12 ∷ c.args.reader.now) c.u32.new.self c.from_residual.ensures.1
    (back_short c.args.state.now c.args.top c.args.reader.now c.in_err-number.ensures.0)

pub returns-in_default : goal.returns-in_default
returns-in_default c =
    back_nowhere c.args.state.now c.args.top c.args.reader.now c.u32.new.self c.in_ok-number.number
    c.in_ok-number.ensures
    (ap (λ (z : List (Option ℕ)). get_or z c.in_ok-number.number None) (sym c.as_slice.ensures.value)
    ∙ sym c.in_default.ensures)

pub returns : goal.returns
returns c =
    let s = c.args.state.now in
    let top = c.args.top in
    moves_to (with_open s (with_need top need.Part)) s (with_part top c.in-Some.place) c.add-2.new.self
    (12 ∷ c.args.reader.now) c.u32.new.self
    (c.in_ok-add-2.ensures.ok
    ∙ ap (λ (i : List Item). s.opens ++ record top { items = i } ∷ []) c.in_ok-add.ensures.ok)
    (back_reference s top c.args.reader.now c.u32.new.self c.in_ok-number.number c.in-Some.place c.requires
    c.in_ok-number.ensures
    (c.in-Some.ensures
    ∙ ap (λ (z : List (Option ℕ)). get_or z c.in_ok-number.number None) c.as_slice.ensures.value))
