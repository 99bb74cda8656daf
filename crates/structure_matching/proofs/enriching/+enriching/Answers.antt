use Rattle.std.proofs.Common.{drop, subst, sym, ap, ◌∙◌, ◌+◌, ◌++◌, ◌∷◌, [], Some, ◌≡◌}
use Rattle.std.specs.Prelude.{Ok, Err}
use Rattle.type_nodes.specs.Tables.{state}
use Rattle.sml_modules.specs.Graphs.{env_at}
use Rattle.static_semantics.specs.Holding.{AllItems}
use Rattle.static_semantics.specs.EnvironmentsPut.{put_env}
use Rattle.module_semantics.specs.Matching.{items_under}
use Rattle.core_scopes.specs.Paths.{led_on}
use Rattle.type_phrases.proofs.PartsRead.{passed_on}
use Rattle.structure_matching.specs.Found.{specified_rows, AreFound}
use Rattle.structure_matching.specs.Searching.{FindsStructure, FindsType, structure_of_component, type_of_component, of_components}
use Rattle.structure_matching.specs.Enriching.{FindsValue, value_of_component, Enriches, AllMeet}
use Rattle.structure_matching.proofs.Listing.{drop_item}
use Rattle.structure_matching.proofs.EnrichingSteps.{enriched_one, enriched_stop}
use Rattle.structure_matching.proofs.EnrichingEnvs.{structure_walked, structures_stop, types_stop, values_last}
use Rattle.structure_matching.proofs.EnrichedOnce.{structure_met, met_more}
use Rattle.structure_matching.proofs.enriching.+enriching.Goals as goal

-- ---- an environment

pub enrich_env-returns-in_err-enrich_structures-clause-enriches :
    goal.enrich_env-returns-in_err-enrich_structures-clause-enriches
enrich_env-returns-in_err-enrich_structures-clause-enriches t c =
    let g = c.args.g.now in
    let s = state c.args.t.now in
    let path = c.args.path.now in
    let fault = c.in_err-enrich_structures.field-0.0 in
    passed_on (λ r. Enriches c.args.at.now s r
    (λ root. led_on path root ≡ Some (put_env s.stands (env_at g c.args.pair.found)))
    (items_under path (env_at g c.args.pair.specified))) c.from_residual-in_err-enrich_structures.result fault
    c.from_residual-in_err-enrich_structures.ensures.1
    (structures_stop c.args.at.now s g.items path (env_at g c.args.pair.specified) (env_at g c.args.pair.found)
    c.in_ok-specified.specified.now c.in_ok-found.found.now c.as_slice.result.now fault c.in_ok-specified.ensures
    (ap specified_rows c.as_slice.ensures ∙ c.in_ok-structures.ensures.rows) c.in_ok-found.ensures
    (subst (AreFound c.in_ok-found.found.now.structures) (sym c.as_slice.ensures) c.in_ok-structures.ensures.found)
    c.in_err-enrich_structures.ensures.enriches)

pub enrich_env-returns-in_err-enrich_types-clause-enriches :
    goal.enrich_env-returns-in_err-enrich_types-clause-enriches
enrich_env-returns-in_err-enrich_types-clause-enriches t c =
    let g = c.args.g.now in
    let place = c.args.at.now in
    let s = state c.args.t.now in
    let path = c.args.path.now in
    let ts = c.as_slice-3.result.now in
    let slice = c.as_slice-2.result.now in
    let fault = c.in_err-enrich_types.field-0.0 in
    passed_on (λ r. Enriches place s r
    (λ root. led_on path root ≡ Some (put_env s.stands (env_at g c.args.pair.found)))
    (items_under path (env_at g c.args.pair.specified))) c.from_residual-in_err-enrich_types.result fault
    c.from_residual-in_err-enrich_types.ensures.1
    (types_stop place s g.items path (env_at g c.args.pair.specified) (env_at g c.args.pair.found)
    c.in_ok-specified.specified.now c.in_ok-found.found.now c.as_slice.result.now ts fault c.in_ok-specified.ensures
    (ap specified_rows c.as_slice.ensures ∙ c.in_ok-structures.ensures.rows)
    (ap specified_rows c.as_slice-3.ensures ∙ c.in_ok-types.ensures.rows) c.in_ok-found.ensures
    (subst (AreFound c.in_ok-found.found.now.structures) (sym c.as_slice.ensures) c.in_ok-structures.ensures.found)
    (subst (AreFound c.in_ok-found.found.now.types) (sym c.as_slice-3.ensures) c.in_ok-types.ensures.found)
    c.in_ok-enrich_structures.ensures.enriches
    (subst (λ p. Enriches place s (Err fault) (λ root. AllItems (FindsType g.items p s root) ts)
    (of_components (type_of_component g.items p) ts)) (c.as_slice-2.ensures ∙ c.in_ok-enrich_structures.ensures.path)
    (subst (λ u. Enriches place (state u) (Err fault) (λ root. AllItems (FindsType g.items slice (state u) root) ts)
    (of_components (type_of_component g.items slice) ts)) c.in_ok-enrich_structures.ensures.table
    c.in_err-enrich_types.ensures.enriches)))

pub enrich_env-returns-clause-enriches : goal.enrich_env-returns-clause-enriches
enrich_env-returns-clause-enriches t c =
    let g = c.args.g.now in
    let place = c.args.at.now in
    let s = state c.args.t.now in
    let path = c.args.path.now in
    let ts = c.as_slice-3.result.now in
    let vs = c.as_slice-5.result.now in
    let first = c.as_slice-2.result.now in
    let second = c.as_slice-4.result.now in
    values_last place s g.items path (env_at g c.args.pair.specified) (env_at g c.args.pair.found)
    c.in_ok-specified.specified.now c.in_ok-found.found.now c.as_slice.result.now ts vs c.enrich_values.result
    c.in_ok-specified.ensures
    (ap specified_rows c.as_slice.ensures ∙ c.in_ok-structures.ensures.rows)
    (ap specified_rows c.as_slice-3.ensures ∙ c.in_ok-types.ensures.rows)
    (ap specified_rows c.as_slice-5.ensures ∙ c.in_ok-values.ensures.rows) c.in_ok-found.ensures
    (subst (AreFound c.in_ok-found.found.now.structures) (sym c.as_slice.ensures) c.in_ok-structures.ensures.found)
    (subst (AreFound c.in_ok-found.found.now.types) (sym c.as_slice-3.ensures) c.in_ok-types.ensures.found)
    (subst (AreFound c.in_ok-found.found.now.values) (sym c.as_slice-5.ensures) c.in_ok-values.ensures.found)
    c.in_ok-enrich_structures.ensures.enriches
    (subst (λ p. Enriches place s (Ok tt) (λ root. AllItems (FindsType g.items p s root) ts)
    (of_components (type_of_component g.items p) ts)) (c.as_slice-2.ensures ∙ c.in_ok-enrich_structures.ensures.path)
    (subst (λ u. Enriches place (state u) (Ok tt) (λ root. AllItems (FindsType g.items first (state u) root) ts)
    (of_components (type_of_component g.items first) ts)) c.in_ok-enrich_structures.ensures.table
    c.in_ok-enrich_types.ensures.enriches))
    (subst (λ p. Enriches place s c.enrich_values.result (λ root. AllItems (FindsValue g.items p s root) vs)
    (of_components (value_of_component g.items p) vs)) (c.as_slice-4.ensures ∙ c.in_ok-enrich_structures.ensures.path)
    (subst (λ u. Enriches place (state u) c.enrich_values.result
    (λ root. AllItems (FindsValue g.items second (state u) root) vs)
    (of_components (value_of_component g.items second) vs))
    (c.in_ok-enrich_types.ensures.table ∙ c.in_ok-enrich_structures.ensures.table) c.enrich_values.ensures.enriches))

-- ---- a structure

pub enrich_structure-returns-in_err-enrich_env-clause-enriches :
    goal.enrich_structure-returns-in_err-enrich_env-clause-enriches
enrich_structure-returns-in_err-enrich_env-clause-enriches t c =
    let items = c.args.g.now.items in
    let s = state c.args.t.now in
    let path = c.args.path.now in
    let component = c.args.component.now in
    let fault = c.in_err-enrich_env.field-0.0 in
    passed_on (λ r. Enriches c.args.at.now s r (λ root. FindsStructure items path s root component)
    (structure_of_component items path component)) c.from_residual-in_err-enrich_env.result fault
    c.from_residual-in_err-enrich_env.ensures.1
    (structure_walked c.args.at.now s (Err fault) items path c.add.new.self component c.in-Some.found c.in_ok-pair.pair
    c.in-Some.is c.in_ok-pair.ensures.places
    (c.in_ok-add.ensures.ok ∙ ap (λ n. path ++ n ∷ []) c.in_ok-copy.ensures) c.in_err-enrich_env.ensures.enriches)

pub enrich_structure-returns-clause-enriches : goal.enrich_structure-returns-clause-enriches
enrich_structure-returns-clause-enriches t c =
    let items = c.args.g.now.items in
    let s = state c.args.t.now in
    let path = c.args.path.now in
    structure_walked c.args.at.now s (Ok tt) items path c.add.new.self c.args.component.now c.in-Some.found
    c.in_ok-pair.pair c.in-Some.is c.in_ok-pair.ensures.places
    (c.in_ok-add.ensures.ok ∙ ap (λ n. path ++ n ∷ []) c.in_ok-copy.ensures) c.in_ok-enrich_env.ensures.enriches

pub enrich_structure-returns-clause-done : goal.enrich_structure-returns-clause-done
enrich_structure-returns-clause-done t c =
    met_more c.args.at.now (state c.args.t.now) c.args.g.now.items c.add.new.self c.args.component.now c.in-Some.found
    c.in_ok-pair.pair c.enrich_env.new.done c.add-2.new.self c.in_ok-pair.ensures.places c.in_ok-enrich_env.ensures.done
    c.in_ok-add-2.ensures.ok c.in_ok-enrich_env.ensures.enriches

-- .. that was found before
pub enrich_structure-returns-then-has-clause-enriches : goal.enrich_structure-returns-then-has-clause-enriches
enrich_structure-returns-then-has-clause-enriches t c =
    structure_met c.args.at.now (state c.args.t.now) c.args.g.now.items c.args.path.now c.args.component.now
    c.in-Some.found c.args.done.now c.has.result c.in-Some.is c.requires.done c.has.ensures c.if-has.true

-- ---- structures

pub enrich_structures-returns-in_err-enrich_structure-clause-enriches :
    goal.enrich_structures-returns-in_err-enrich_structure-clause-enriches
enrich_structures-returns-in_err-enrich_structure-clause-enriches t c =
    let place = c.args.at.now in
    let s = state c.args.t.now in
    let items = c.args.g.now.items in
    let path = c.args.path.now in
    let now = c.loop-component.path in
    let all = c.args.components.now in
    let i = c.loop-component.component-index in
    let component = c.component-item.result in
    let fault = c.in_err-enrich_structure.field-0.0 in
    passed_on (λ r. Enriches place s r (λ root. AllItems (FindsStructure items path s root) all)
    (of_components (structure_of_component items path) all)) c.from_residual.result fault c.from_residual.ensures.1
    (enriched_stop place s (FindsStructure items path s) (structure_of_component items path) all (drop i all)
    (drop (i + 1) all) component fault c.loop-component.invariant.enriched
    (drop_item all i component c.loop-component-test.true c.component-item.is)
    (subst (λ p. Enriches place s (Err fault) (λ root. FindsStructure items p s root component)
    (structure_of_component items p component)) c.loop-component.invariant.path
    (subst (λ u. Enriches place (state u) (Err fault) (λ root. FindsStructure items now (state u) root component)
    (structure_of_component items now component)) c.loop-component.invariant.table
    c.in_err-enrich_structure.ensures.enriches)))

pub enrich_structures-loop-component-preserved : goal.enrich_structures-loop-component-preserved
enrich_structures-loop-component-preserved t c =
    let place = c.args.at.now in
    let s = state c.args.t.now in
    let items = c.args.g.now.items in
    let path = c.args.path.now in
    let now = c.loop-component.path in
    let all = c.args.components.now in
    let i = c.loop-component.component-index in
    let component = c.component-item.result in
    record {
      enriched = enriched_one place s (FindsStructure items path s) (structure_of_component items path) all
          (drop i all) (drop (i + 1) all) component c.loop-component.invariant.enriched
          (drop_item all i component c.loop-component-test.true c.component-item.is)
          (subst (λ p. Enriches place s (Ok tt) (λ root. FindsStructure items p s root component)
          (structure_of_component items p component)) c.loop-component.invariant.path
          (subst (λ u. Enriches place (state u) (Ok tt) (λ root. FindsStructure items now (state u) root component)
          (structure_of_component items now component)) c.loop-component.invariant.table
          c.in_ok-enrich_structure.ensures.enriches));
      table = c.in_ok-enrich_structure.ensures.table ∙ c.loop-component.invariant.table;
      path = c.in_ok-enrich_structure.ensures.path ∙ c.loop-component.invariant.path;
      done = subst (λ u. AllMeet place (state u) items c.enrich_structure.new.done) c.loop-component.invariant.table
          c.in_ok-enrich_structure.ensures.done;
    }
