-- One step of writing.
use Rattle.std.proofs.Common.{◌≡◌, ℕ, ◌<◌, ◌≤◌, refl, sym, ap, subst, ◌∙◌, List, length, Option, Some, None, arith}
use Rattle.std.specs.Prelude.{slice_get, Result}
use Rattle.std.proofs.lemmas.List.{append-nil}
use Rattle.std.proofs.lemmas.Option.{slice_get_past}
use Rattle.node_bytes.specs.Tables.{AreRows}
use Rattle.node_bytes.specs.Writing.{IsDone, Done, HasPart, stepped, stepped_by, items_at}
use Rattle.node_bytes.specs.declared.table.Item.{Item}
use Rattle.node_bytes.specs.declared.table.Item.TheVariants as item
use Rattle.node_bytes.specs.declared.table.Row.{Row}
use Rattle.node_bytes.specs.declared.write.Open.{Open}
use Rattle.node_bytes.specs.declared.write.Writing.{Writing}
use Rattle.node_bytes.specs.declared.fault.WriteFault.{WriteFault}

pub step_none : (rows : List Row) (back : ℕ) (top : Open) (limit : ℕ) (state : Writing) (row : Row)
    → slice_get rows top.id ≡ Some row → length row.items ≤ top.at → length state.out.items ≤ limit
    → IsDone limit (stepped rows back top state) state state
step_none rows back top limit state row e le fits =
    let none : slice_get (items_at (slice_get rows top.id)) top.at ≡ None =
    ap (λ (r : Option Row). slice_get (items_at r) top.at) e ∙ slice_get_past row.items top.at le in
    subst (λ (o : Option Item). IsDone limit (stepped_by o rows back top state) state state) (sym none) (record {
      out = sym (append-nil state.out.items);
      fits = fits;
      opens = sym (append-nil state.opens);
      numbers = refl;
      next = refl;
    })

pub step_some : (rows : List Row) (back : ℕ) (top : Open) (limit : ℕ) (old new : Writing) (row : Row) (it : Item)
    (result : Result (Unit {0}) WriteFault) → slice_get rows top.id ≡ Some row → slice_get row.items top.at ≡ Some it
    → Done limit (stepped_by (Some it) rows back top old) old new result
    → Done limit (stepped rows back top old) old new result
step_some rows back top limit old new row it result e i h =
    let some : slice_get (items_at (slice_get rows top.id)) top.at ≡ Some it =
    ap (λ (r : Option Row). slice_get (items_at r) top.at) e ∙ i in
    subst (λ (o : Option Item). Done limit (stepped_by o rows back top old) old new result) (sym some) h

pub part_has : (rows : List Row) → AreRows rows → (p : ℕ) (row : Row) (k : ℕ) (it : Item)
    → slice_get rows p ≡ Some row → slice_get row.items k ≡ Some it → p < length rows → HasPart (length rows) it
part_has rows h p row k (item.Piece text) e i lt = tt
part_has rows h p row k (item.Part q) e i lt = let before = h.before p row k q e i in omega (arith, before, lt)
