use Rattle.std.proofs.Common.{sym, ap, ◌∙◌, ◌++◌, ◌∷◌, [], ap₂, Some}
use Rattle.type_walks.specs.Replaced.{rows_of}
use Rattle.static_semantics.specs.Inferring.{gives}
use Rattle.module_semantics.specs.Matching.{realising}
use Rattle.structure_matching.specs.Searching.{at_of}
use Rattle.structure_matching.proofs.RealisingSteps.{refused, type_known, name_lacks, name_fits}
use Rattle.structure_matching.proofs.realising.realise_name.Goals as goal

pub returns-then-branch-clause-answers : goal.returns-then-branch-clause-answers
returns-then-branch-clause-answers c inner s root path home found =
    let str = c.in_ok-found.found.now in
    let place = c.args.at.now in
    let rows = rows_of c.args.search.now.rows in
    refused {R = Unit {0}} place 33 [] c.refusal-then-branch.result inner (realising inner (at_of place) s root path rows
    (Some c.args.name.now)) (λ u. rows) home c.refusal-then-branch.ensures
    (name_lacks inner place s root path rows c.args.name.now str c.in_ok-lacks_equality.field-0
    (found ∙ ap Some (type_known c.args.g.now.items s c.args.place str c.facts_at.result c.in_ok-found.ensures
    c.facts_at.ensures c.if-facts_at.false)) c.if-found-name.false (c.in_ok-lacks_equality.ensures s.marks)
    c.if-branch.true)

pub returns-clause-answers : goal.returns-clause-answers
returns-clause-answers c inner s root path home found =
    let str = c.in_ok-found.found.now in
    let place = c.args.at.now in
    let rows = rows_of c.args.search.now.rows in
    name_fits inner place s root path rows c.args.name.now str c.in_ok-lacks_equality.field-0
    (found ∙ ap Some (type_known c.args.g.now.items s c.args.place str c.facts_at.result c.in_ok-found.ensures
    c.facts_at.ensures c.if-facts_at.false)) c.if-found-name.false (c.in_ok-lacks_equality.ensures s.marks)
    c.if-branch.false
    ∙ sym (ap gives (c.in_ok-realise.ensures.rows
    ∙ ap₂ (λ name by. rows ++ (name, by) ∷ []) c.in_ok-copy.ensures c.in_ok-by.ensures))
