use Rattle.std.proofs.Common.{◌≡◌, ◌∙◌, ◌<◌, ◌∷◌, [], ℕ, suc, List, length, length-append, append-nil, get_or, ap, sym, subst, rules, arith}
use Rattle.std.specs.Vec.Iter.{into_iter_items}
use Rattle.cm_description.specs.declared.loaded.Group.{Group}
use Rattle.project_checks.specs.Assembly.{owned_by, owner_number}
use Rattle.project_checks.specs.Owning.{owned_at}
use Rattle.project_checks.specs.declared.owners.Owned.TheVariants as owned
use Rattle.project_checks.proofs.Dealing.{nothing_left, owned_more}
use Rattle.project_checks.proofs.Turns.{whatever_else}
use Rattle.project_checks.proofs.assembling.with_owners.Goals as goal

pub owner_number-owner-requires : goal.owner_number-owner-requires
owner_number-owner-requires c =
    let room = c.loop-group.invariant.room in
    let size = ap length c.in-Some.ensures.steps.0 in omega (arith, room, size)

pub loop-group-preserved : goal.loop-group-preserved
loop-group-preserved c =
    let at = c.loop-group in
    let rest = into_iter_items c.next.new.self in
    let steps : into_iter_items at.group-iterator ≡ c.in-Some.group ∷ rest = c.in-Some.ensures.steps.0 in
    let gone = c.in-Some.ensures.steps.1 in
    let size : length (into_iter_items at.group-iterator) ≡ suc (length rest) = ap length steps in
    let room = at.invariant.room in
    let left = at.invariant.left in
    let more = ap length c.in_ok-add.ensures.ok in
    let long = length-append at.list (c.with_owner.result ∷ []) in
    record {
      left = omega arith;
      room = omega arith;
      made = owned_more at.list c.add.new.self rest c.in-Some.group c.with_owner.result c.args.owners.now
          (owned_at c.args.owners.now (length at.list))
          (owned_by (into_iter_items c.into_iter-group-iterator.result) c.args.owners.now)
          (omega arith)
          (whatever_else c.args.owners.now (length at.list) (owned_at c.args.owners.now (length at.list)) owned.Nobody
          (omega arith))
          (c.with_owner.ensures ∙ ap (λ (o : ℕ). record c.in-Some.group { owner = o })
          (c.owner_number-owner.ensures
          ∙ ap (λ (n : ℕ). owner_number (owned_at c.args.owners.now n)) c.len.ensures))
          c.in_ok-add.ensures.ok (rw steps at at.invariant.made);
    }

pub returns : goal.returns
returns c =
    let at = c.loop-group in
    let none = c.in-None.ensures.steps in
    let empty : into_iter_items at.group-iterator ≡ [] = nothing_left _ (sym at.invariant.left ∙ none.0) in
    sym (append-nil at.list) ∙ rw empty at at.invariant.made
    ∙ ap (λ (gs : List Group). owned_by gs c.args.owners.now)
    (c.into_iter-group-iterator.ensures.into_iter_gives.0 ∙ c.into_vec-group-items.ensures)
