use Rattle.std.proofs.Common.{◌∙◌, ap, refl, sym}
use Rattle.cm_description.specs.declared.loaded.Group.{Group}
use Rattle.project_checks.specs.Owning.{owned_at}
use Rattle.project_checks.proofs.Turns.{members_here, passes}
use Rattle.project_checks.proofs.owners.pass_down.Goals as goal

pub returns : goal.returns
returns c =
    passes c.args.groups.now c.args.number c.args.owners.now c.give.new.owners c.own_turn-owned.result
    (owned_at c.args.owners.now c.args.number) c.as_slice.result.now
    (members_here c.args.groups.now c.args.number c.index-groups-number.result c.as_slice.result.now
    c.requires.number c.index-groups-number.is
    (c.as_slice.ensures ∙ ap (λ (g : Group). g.members) (sym c.index-groups-number.is)))
    c.own_turn-owned.ensures refl c.give.ensures
