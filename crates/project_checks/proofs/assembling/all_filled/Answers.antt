use Rattle.std.proofs.Common.{◌≡◌, ◌∙◌, ◌<◌, ◌∷◌, [], ℕ, suc, List, length, length-append, append-nil, get_or, ap, sym, subst, rules, arith}
use Rattle.std.specs.Vec.Iter.{into_iter_items}
use Rattle.cm_description.specs.declared.loaded.Group.{Group}
use Rattle.project_checks.specs.Assembly.{filled_by}
use Rattle.project_checks.proofs.Dealing.{filled_more, nothing_left}
use Rattle.project_checks.proofs.assembling.all_filled.Goals as goal

pub bounds-units-number : goal.bounds-units-number
bounds-units-number c =
    let room = c.loop-group.invariant.units_room in
    let size = ap length c.in-Some.ensures.steps.0 in omega (arith, room, size)

pub offset_bounds-units-number : goal.offset_bounds-units-number
offset_bounds-units-number c =
    let room = c.loop-group.invariant.units_room in
    let size = ap length c.in-Some.ensures.steps.0 in
    let within : c.len-number.result < length c.args.units.now = omega (arith, room, size) in search rules

pub bounds-members-number : goal.bounds-members-number
bounds-members-number c =
    let room = c.loop-group.invariant.members_room in
    let size = ap length c.in-Some.ensures.steps.0 in omega (arith, room, size)

pub offset_bounds-members-number : goal.offset_bounds-members-number
offset_bounds-members-number c =
    let room = c.loop-group.invariant.members_room in
    let size = ap length c.in-Some.ensures.steps.0 in
    let within : c.len-number.result < length c.args.members.now = omega (arith, room, size) in search rules

pub loop-group-preserved : goal.loop-group-preserved
loop-group-preserved c =
    let at = c.loop-group in
    let rest = into_iter_items c.next.new.self in
    let steps : into_iter_items at.group-iterator ≡ c.in-Some.group ∷ rest = c.in-Some.ensures.steps.0 in
    let gone = c.in-Some.ensures.steps.1 in
    let size : length (into_iter_items at.group-iterator) ≡ suc (length rest) = ap length steps in
    let units_room = at.invariant.units_room in
    let members_room = at.invariant.members_room in
    let left = at.invariant.left in
    let more = ap length c.in_ok-add.ensures.ok in
    let long = length-append at.list (c.in_ok-filled.field-0 ∷ []) in
    record {
      left = omega arith;
      units_room = omega arith;
      members_room = omega arith;
      made = filled_more at.list c.add.new.self rest c.in-Some.group c.in_ok-filled.field-0 c.args.units.now
          c.args.members.now c.index-units-number.result c.index-members-number.result
          (filled_by (into_iter_items c.into_iter-group-iterator.result) c.args.units.now c.args.members.now)
          (omega arith) (omega arith)
          (subst (λ (n : ℕ). get_or c.args.units.now n c.index-units-number.result ≡ c.index-units-number.result)
          c.len-number.ensures (sym c.index-units-number.is))
          (subst (λ (n : ℕ). get_or c.args.members.now n c.index-members-number.result ≡ c.index-members-number.result)
          c.len-number.ensures (sym c.index-members-number.is))
          c.in_ok-filled.ensures c.in_ok-add.ensures.ok (rw steps at at.invariant.made);
    }

pub returns : goal.returns
returns c =
    let at = c.loop-group in
    let none = c.in-None.ensures.steps in
    let empty : into_iter_items at.group-iterator ≡ [] = nothing_left _ (sym at.invariant.left ∙ none.0) in
    sym (append-nil at.list) ∙ rw empty at at.invariant.made
    ∙ ap (λ (gs : List Group). filled_by gs c.args.units.now c.args.members.now)
    (c.into_iter-group-iterator.ensures.into_iter_gives.0 ∙ c.into_vec-group-items.ensures)
