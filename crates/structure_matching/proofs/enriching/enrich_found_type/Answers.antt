use Rattle.std.proofs.Common.{refl, sym, ap, ◌∙◌, ◌∷◌, [], true}
use Rattle.std.specs.List.{join_with_byte}
use Rattle.type_nodes.specs.Tables.{state}
use Rattle.sml_modules.specs.Items.{at}
use Rattle.module_semantics.specs.Matching.{enriching_all}
use Rattle.structure_matching.specs.Searching.{at_of, type_of_component}
use Rattle.structure_matching.proofs.RealisingSteps.{refused}
use Rattle.structure_matching.proofs.EnrichingSteps.{path_of, type_misfit, type_fits}
use Rattle.structure_matching.proofs.Itself.{fits_itself}
use Rattle.structure_matching.proofs.enriching.enrich_found_type.Goals as goal

pub returns-then-not-branch-clause-enriches : goal.returns-then-not-branch-clause-enriches
returns-then-not-branch-clause-enriches c inner root home finds =
    let place = c.args.at.now in
    let s = state c.args.t.now in
    let items = c.args.g.now.items in
    let path = c.args.path.now in
    let component = c.args.component.now in
    refused {R = Unit {0}} place 37 (join_with_byte 46 (path_of path component) ∷ []) c.long_refusal.result inner
    (enriching_all inner (at_of place) s root (type_of_component items path component)) (λ (u : Unit {0}). tt) home
    c.long_refusal.ensures
    (type_misfit inner place s root items path component c.args.place c.in_ok-specified.specified.now
    c.in_ok-found.found.now c.facts_at-2.result c.in_ok-fits_type.field-0 c.in_ok-specified.ensures c.requires
    c.in_ok-found.ensures c.facts_at-2.ensures c.if-facts_at-2.false c.if-found-specified.false
    c.in_ok-fits_type.ensures.fits c.if-not-branch.true finds)

-- the type that is specified
pub returns-then-component-place-clause-enriches : goal.returns-then-component-place-clause-enriches
returns-then-component-place-clause-enriches c inner root home finds =
    let items = c.args.g.now.items in
    let want = c.in_ok-specified.specified.now in
    type_fits inner c.args.at.now (state c.args.t.now) root items c.args.path.now c.args.component.now c.args.place want
    want c.facts_at-2.result true c.in_ok-specified.ensures c.requires
    (ap (at items) (sym c.if-component-place.true) ∙ c.in_ok-specified.ensures) c.facts_at-2.ensures
    c.if-facts_at-2.false refl (sym (fits_itself want)) refl finds

pub returns-clause-enriches : goal.returns-clause-enriches
returns-clause-enriches c inner root home finds =
    type_fits inner c.args.at.now (state c.args.t.now) root c.args.g.now.items c.args.path.now c.args.component.now
    c.args.place c.in_ok-specified.specified.now c.in_ok-found.found.now c.facts_at-2.result c.in_ok-fits_type.field-0
    c.in_ok-specified.ensures c.requires c.in_ok-found.ensures c.facts_at-2.ensures c.if-facts_at-2.false
    c.if-found-specified.false c.in_ok-fits_type.ensures.fits c.if-not-branch.false finds
