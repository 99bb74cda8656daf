use Rattle.std.proofs.Common.{◌++◌, ap, ◌∙◌}
use Rattle.std.specs.List.{flat_map}
use Rattle.semantic_objects.specs.Symbols.{same_name}
use Rattle.realisation.specs.Names.{is_listed}
use Rattle.environment_walks.specs.Stepping.{entered}
use Rattle.name_walks.specs.Noting.{noted_all}
use Rattle.name_walks.specs.Places.{place_names}
use Rattle.name_walks.proofs.Notes.{begins, ends, goes_on}
use Rattle.name_walks.proofs.Once.{tells_names}
use Rattle.name_walks.proofs.names.note_all.Goals as goal

pub loop-init : goal.loop-init
loop-init c = record {
  told = c.requires;
  walk = begins same_name is_listed tells_names (place_names c.args.graph.now.items) c.args.table.now.names
      c.new-done.result c.enter_all.new.steps c.args.places.now (λ p. c.new-done.ensures p)
      (c.in_ok-enter_all.ensures ∙ ap (λ z. z ++ entered c.args.places.now) c.new-steps.ensures);
}

pub loop-preserved : goal.loop-preserved
loop-preserved c = record {
  told = c.in_ok-take-in-Some.ensures.told;
  walk = goes_on same_name is_listed tells_names (place_names c.args.graph.now.items)
      (noted_all is_listed c.args.table.now.names (flat_map (place_names c.args.graph.now.items) c.args.places.now))
      c.loop.table.names c.take.new.table.names c.loop.done c.take.new.done c.loop.steps c.pop.new.self
      c.take.new.steps c.in-Some.step c.in-Some.ensures c.in_ok-take-in-Some.ensures.goes c.loop.invariant.walk;
}

pub returns-in-None : goal.returns-in-None
returns-in-None c = ends same_name is_listed tells_names (place_names c.args.graph.now.items)
    (noted_all is_listed c.args.table.now.names (flat_map (place_names c.args.graph.now.items) c.args.places.now))
    c.loop.table.names c.loop.done c.loop.steps c.in-None.ensures.0 c.loop.invariant.walk
