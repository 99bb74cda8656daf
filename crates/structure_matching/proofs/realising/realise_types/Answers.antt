use Rattle.std.proofs.Common.{drop, subst, ◌+◌}
use Rattle.std.specs.Prelude.{Ok, Err}
use Rattle.structure_matching.proofs.Listing.{drop_item}
use Rattle.structure_matching.specs.Searching.{FindsType, type_of_component, of_components, Realises}
use Rattle.static_semantics.specs.Holding.{AllItems}
use Rattle.type_phrases.proofs.PartsRead.{passed_on}
use Rattle.structure_matching.proofs.RealisingSteps.{realised_one, realised_stop}
use Rattle.structure_matching.proofs.realising.realise_types.Goals as goal

pub loop-component-preserved : goal.loop-component-preserved
loop-component-preserved c =
    let items = c.args.g.now.items in
    let all = c.args.components.now in
    let i = c.loop-component.component-index in
    let component = c.component-item.result in
    realised_one c.args.at.now c.args.search.now c.loop-component.search c.realise_type.new.search
    (FindsType items c.args.search.now.path) (type_of_component items c.args.search.now.path) all (drop i all)
    (drop (i + 1) all) component c.loop-component.invariant
    (drop_item all i component c.loop-component-test.true c.component-item.is)
    (subst (λ path. Realises c.args.at.now c.loop-component.search c.realise_type.new.search (Ok tt)
    (λ s root. FindsType items path s root component) (type_of_component items path component))
    c.loop-component.invariant.continues.path c.in_ok-realise_type.ensures.realises)
    c.in_ok-realise_type.ensures.continues

pub returns-in_err-realise_type-clause-realises : goal.returns-in_err-realise_type-clause-realises
returns-in_err-realise_type-clause-realises c =
    let items = c.args.g.now.items in
    let all = c.args.components.now in
    let i = c.loop-component.component-index in
    let component = c.component-item.result in
    let new = c.realise_type.new.search in
    let fault = c.in_err-realise_type.field-0.0 in
    passed_on (λ r. Realises c.args.at.now c.args.search.now new r
    (λ s root. AllItems (FindsType items c.args.search.now.path s root) all)
    (of_components (type_of_component items c.args.search.now.path) all)) c.from_residual.result fault
    c.from_residual.ensures.1
    (realised_stop c.args.at.now c.args.search.now c.loop-component.search new new
    (FindsType items c.args.search.now.path) (type_of_component items c.args.search.now.path) all (drop i all)
    (drop (i + 1) all) component fault c.loop-component.invariant
    (drop_item all i component c.loop-component-test.true c.component-item.is)
    (subst (λ path. Realises c.args.at.now c.loop-component.search new (Err fault)
    (λ s root. FindsType items path s root component) (type_of_component items path component))
    c.loop-component.invariant.continues.path c.in_err-realise_type.ensures.realises))
