use Rattle.std.proofs.Common.{◌≡◌, ◌∙◌, ◌∷◌, List, map, nat_eq, ap, cond, true}
use Rattle.std.specs.List.{list_any}
use lib.Pointwise.{pointwise}
use Rattle.cm_description.specs.declared.loaded.Unit.{Unit as LoadedUnit}
use Rattle.project_checks.proofs.Repeating.{known_more, least_more}
use Rattle.project_checks.proofs.Turns.{one_back}
use Rattle.project_checks.proofs.names.least_repeated.Goals as goal

pub loop-unit-preserved : goal.loop-unit-preserved
loop-unit-preserved c =
    let i = c.loop-unit.invariant in
    let unit = c.in-Some.unit.now in
    let names = map (λ (unit : LoadedUnit). unit.name) i.0 in (
      unit ∷ i.0,
      one_back c.args.units.now c.loop-unit.rest.now c.in-Some.before.now i.0 unit i.1 c.in-Some.ensures.cases.0,
      least_more c.contains.result unit.name names c.loop-unit.least c.in_ok-least.least
          (c.contains.ensures ∙ i.3 unit.name) i.2 c.in_ok-least.ensures,
      λ name. known_more unit.name name names (list_any (pointwise nat_eq name) c.loop-unit.behind.keys)
          (list_any (pointwise nat_eq name) c.insert.new.self.keys)
          (c.in_ok-insert.ensures.updates.0 name
          ∙ ap (λ key. cond (pointwise nat_eq key name) true
          (list_any (pointwise nat_eq name) c.loop-unit.behind.keys)) c.in_ok-copy.ensures)
          (i.3 name),
    )
