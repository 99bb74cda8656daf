use Rattle.std.proofs.Common.{drop, subst, sym, ap, ◌∙◌, ◌+◌, Some, ◌≡◌}
use Rattle.std.specs.Prelude.{Ok, Err}
use Rattle.sml_modules.specs.Graphs.{env_at}
use Rattle.static_semantics.specs.Holding.{AllItems}
use Rattle.static_semantics.specs.EnvironmentsPut.{put_env}
use Rattle.module_semantics.specs.Matching.{items_under}
use Rattle.core_scopes.specs.Paths.{led_on}
use Rattle.type_phrases.proofs.PartsRead.{passed_on}
use Rattle.structure_matching.specs.Found.{specified_rows, AreFound}
use Rattle.structure_matching.specs.Searching.{FindsStructure, structure_of_component, of_components, Realises}
use Rattle.structure_matching.proofs.Listing.{drop_item}
use Rattle.structure_matching.proofs.RealisingSteps.{realised_one, realised_stop}
use Rattle.structure_matching.proofs.RealisingEnvs.{structure_done, structure_fails, structures_stop, types_last}
use Rattle.structure_matching.proofs.RealisedOnce.{settled_types, settled_more, structure_settled}
use Rattle.structure_matching.proofs.realising.+realising.Goals as goal

-- ---- an environment

pub realise_env-returns-in_err-realise_structures-clause-realises :
    goal.realise_env-returns-in_err-realise_structures-clause-realises
realise_env-returns-in_err-realise_structures-clause-realises t c =
    let g = c.args.g.now in
    let old = c.args.search.now in
    let new = c.realise_structures.new.search in
    let fault = c.in_err-realise_structures.field-0.0 in
    passed_on (λ r. Realises c.args.at.now old new r
    (λ s root. led_on old.path root ≡ Some (put_env s.stands (env_at g c.args.pair.found)))
    (items_under old.path (env_at g c.args.pair.specified))) c.from_residual-in_err-realise_structures.result fault
    c.from_residual-in_err-realise_structures.ensures.1
    (structures_stop c.args.at.now old new g.items (env_at g c.args.pair.specified) (env_at g c.args.pair.found)
    c.in_ok-specified.specified.now c.in_ok-found.found.now c.as_slice.result.now fault c.in_ok-specified.ensures
    (ap specified_rows c.as_slice.ensures ∙ c.in_ok-structures.ensures.rows) c.in_ok-found.ensures
    (subst (AreFound c.in_ok-found.found.now.structures) (sym c.as_slice.ensures) c.in_ok-structures.ensures.found)
    c.in_err-realise_structures.ensures.realises)

pub realise_env-returns-clause-realises : goal.realise_env-returns-clause-realises
realise_env-returns-clause-realises t c =
    let g = c.args.g.now in
    let old = c.args.search.now in
    types_last c.args.at.now old c.realise_structures.new.search c.realise_types.new.search g.items
    (env_at g c.args.pair.specified) (env_at g c.args.pair.found) c.in_ok-specified.specified.now
    c.in_ok-found.found.now c.as_slice.result.now c.as_slice-2.result.now c.realise_types.result
    c.in_ok-specified.ensures (ap specified_rows c.as_slice.ensures ∙ c.in_ok-structures.ensures.rows)
    (ap specified_rows c.as_slice-2.ensures ∙ c.in_ok-types.ensures.rows) c.in_ok-found.ensures
    (subst (AreFound c.in_ok-found.found.now.structures) (sym c.as_slice.ensures) c.in_ok-structures.ensures.found)
    (subst (AreFound c.in_ok-found.found.now.types) (sym c.as_slice-2.ensures) c.in_ok-types.ensures.found)
    c.in_ok-realise_structures.ensures.realises c.in_ok-realise_structures.ensures.continues
    c.realise_types.ensures.realises

pub realise_env-returns-clause-done : goal.realise_env-returns-clause-done
realise_env-returns-clause-done t c =
    let g = c.args.g.now in
    settled_types c.args.at.now g.items c.realise_structures.new.search c.realise_types.new.search
    (env_at g c.args.pair.found) c.in_ok-found.found.now c.as_slice-2.result.now c.realise_structures.new.done
    c.realise_types.result c.in_ok-found.ensures
    (subst (AreFound c.in_ok-found.found.now.types) (sym c.as_slice-2.ensures) c.in_ok-types.ensures.found)
    c.realise_types.ensures.realises c.realise_types.ensures.continues c.in_ok-realise_structures.ensures.done

-- ---- a structure

pub realise_structure-returns-in_err-realise_env-clause-realises :
    goal.realise_structure-returns-in_err-realise_env-clause-realises
realise_structure-returns-in_err-realise_env-clause-realises t c =
    let items = c.args.g.now.items in
    let old = c.args.search.now in
    let new = c.realise_env.new.search in
    let fault = c.in_err-realise_env.field-0.0 in
    passed_on (λ r. Realises c.args.at.now old new r (λ s root. FindsStructure items old.path s root c.args.component.now)
    (structure_of_component items old.path c.args.component.now)) c.from_residual-in_err-realise_env.result fault
    c.from_residual-in_err-realise_env.ensures.1
    (structure_fails c.args.at.now old c.enter.new.self new new items c.args.component.now c.in-Some.found
    c.in_ok-pair.pair fault c.in-Some.is c.in_ok-pair.ensures.places c.in_ok-enter.ensures
    c.in_err-realise_env.ensures.realises)

pub realise_structure-returns-clause-realises : goal.realise_structure-returns-clause-realises
realise_structure-returns-clause-realises t c =
    structure_done c.args.at.now c.args.search.now c.enter.new.self c.realise_env.new.search c.leave.new.self
    c.args.g.now.items c.args.component.now c.in-Some.found c.in_ok-pair.pair c.in-Some.is c.in_ok-pair.ensures.places
    c.in_ok-enter.ensures c.in_ok-realise_env.ensures.realises c.leave.ensures

pub realise_structure-returns-clause-done : goal.realise_structure-returns-clause-done
realise_structure-returns-clause-done t c =
    settled_more c.args.at.now c.args.g.now.items c.enter.new.self c.realise_env.new.search c.leave.new.self
    c.args.component.now c.in-Some.found c.in_ok-pair.pair c.realise_env.new.done c.add.new.self
    c.in_ok-pair.ensures.places c.in_ok-realise_env.ensures.done c.in_ok-add.ensures.ok
    c.in_ok-realise_env.ensures.realises c.in_ok-realise_env.ensures.continues c.leave.ensures

-- .. that was found before
pub realise_structure-returns-then-has-clause-realises : goal.realise_structure-returns-then-has-clause-realises
realise_structure-returns-then-has-clause-realises t c =
    structure_settled c.args.at.now c.args.g.now.items c.args.search.now c.args.component.now c.in-Some.found
    c.args.done.now c.has.result c.in-Some.is c.requires.done c.has.ensures c.if-has.true

-- ---- structures

pub realise_structures-returns-in_err-realise_structure-clause-realises :
    goal.realise_structures-returns-in_err-realise_structure-clause-realises
realise_structures-returns-in_err-realise_structure-clause-realises t c =
    let items = c.args.g.now.items in
    let path = c.args.search.now.path in
    let all = c.args.components.now in
    let i = c.loop-component.component-index in
    let component = c.component-item.result in
    let new = c.realise_structure.new.search in
    let fault = c.in_err-realise_structure.field-0.0 in
    passed_on (λ r. Realises c.args.at.now c.args.search.now new r
    (λ s root. AllItems (FindsStructure items path s root) all)
    (of_components (structure_of_component items path) all)) c.from_residual.result fault c.from_residual.ensures.1
    (realised_stop c.args.at.now c.args.search.now c.loop-component.search new new (FindsStructure items path)
    (structure_of_component items path) all (drop i all) (drop (i + 1) all) component fault c.loop-component.invariant.realised
    (drop_item all i component c.loop-component-test.true c.component-item.is)
    (subst (λ p. Realises c.args.at.now c.loop-component.search new (Err fault)
    (λ s root. FindsStructure items p s root component) (structure_of_component items p component))
    c.loop-component.invariant.realised.continues.path c.in_err-realise_structure.ensures.realises))

pub realise_structures-loop-component-preserved : goal.realise_structures-loop-component-preserved
realise_structures-loop-component-preserved t c =
    let items = c.args.g.now.items in
    let path = c.args.search.now.path in
    let all = c.args.components.now in
    let i = c.loop-component.component-index in
    let component = c.component-item.result in
    let new = c.realise_structure.new.search in
    record {
      realised = realised_one c.args.at.now c.args.search.now c.loop-component.search new (FindsStructure items path)
          (structure_of_component items path) all (drop i all) (drop (i + 1) all) component
          c.loop-component.invariant.realised
          (drop_item all i component c.loop-component-test.true c.component-item.is)
          (subst (λ p. Realises c.args.at.now c.loop-component.search new (Ok tt)
          (λ s root. FindsStructure items p s root component) (structure_of_component items p component))
          c.loop-component.invariant.realised.continues.path c.in_ok-realise_structure.ensures.realises)
          c.in_ok-realise_structure.ensures.continues;
      done = c.in_ok-realise_structure.ensures.done;
    }
