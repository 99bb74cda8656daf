use Rattle.std.proofs.Common.{◌||◌, ◌∙◌, ap, sym}
use Rattle.unification.proofs.Walking.{or_left, or_right}
use Rattle.type_nodes.specs.Tables.{state}
use Rattle.core_scopes.specs.Marks.{env_of_made}
use Rattle.type_phrases.specs.Inferred.{progress}
use Rattle.pattern_elab.specs.Scopes.{own_entry}
use Rattle.declaration_ends.specs.Sizes.{any_large}
use Rattle.declaration_ends.proofs.Sizing.{structures_of_made, types_of_made, values_of_made, made_sized, made_refused}
use Rattle.declaration_ends.proofs.made.sized_made.Goals as goal

pub returns-then-large-clause-answer : goal.returns-then-large-clause-answer
returns-then-large-clause-answer c =
    let s = (state c.args.t.now).stands in
    let made = c.args.made.now in
    let st = progress c.args.t.now c.args.g.now in
    made_refused c.args.g.now c.args.at made st (λ (done : Unit {0}). (env_of_made c.args.g.now own_entry made, st))
    c.refuse.result
    (or_left (any_large s (structures_of_made c.args.g.now made))
    (any_large s (types_of_made made) || any_large s (values_of_made made))
    (sym c.in_ok-large.ensures.large ∙ c.if-large.true)) c.refuse.ensures

pub returns-then-large-2-clause-answer : goal.returns-then-large-2-clause-answer
returns-then-large-2-clause-answer c =
    let s = (state c.args.t.now).stands in
    let made = c.args.made.now in
    let st = progress c.args.t.now c.args.g.now in
    made_refused c.args.g.now c.args.at made st (λ (done : Unit {0}). (env_of_made c.args.g.now own_entry made, st))
    c.refuse-then-large-2.result
    (or_right (any_large s (structures_of_made c.args.g.now made))
    (any_large s (types_of_made made) || any_large s (values_of_made made))
    (or_left (any_large s (types_of_made made)) (any_large s (values_of_made made))
    (sym (c.in_ok-large-2.ensures.large
    ∙ ap (λ u. any_large (state u).stands (types_of_made c.args.made.now)) c.in_ok-large.ensures.same)
    ∙ c.if-large-2.true))) c.refuse-then-large-2.ensures

pub returns-then-large-3-clause-answer : goal.returns-then-large-3-clause-answer
returns-then-large-3-clause-answer c =
    let s = (state c.args.t.now).stands in
    let made = c.args.made.now in
    let st = progress c.args.t.now c.args.g.now in
    made_refused c.args.g.now c.args.at made st (λ (done : Unit {0}). (env_of_made c.args.g.now own_entry made, st))
    c.refuse-then-large-3.result
    (or_right (any_large s (structures_of_made c.args.g.now made))
    (any_large s (types_of_made made) || any_large s (values_of_made made))
    (or_right (any_large s (types_of_made made)) (any_large s (values_of_made made))
    (sym (c.in_ok-large-3.ensures.large
    ∙ ap (λ u. any_large (state u).stands (values_of_made c.args.made.now))
    (c.in_ok-large-2.ensures.same ∙ c.in_ok-large.ensures.same))
    ∙ c.if-large-3.true))) c.refuse-then-large-3.ensures

pub returns-clause-answer : goal.returns-clause-answer
returns-clause-answer c =
    made_sized c.args.g.now c.args.at c.args.made.now (progress c.args.t.now c.args.g.now) c.in_ok-large.large
    c.in_ok-large-2.large c.in_ok-large-3.large c.in_ok-large.ensures.large c.if-large.false
    (c.in_ok-large-2.ensures.large
    ∙ ap (λ u. any_large (state u).stands (types_of_made c.args.made.now)) c.in_ok-large.ensures.same)
    c.if-large-2.false
    (c.in_ok-large-3.ensures.large
    ∙ ap (λ u. any_large (state u).stands (values_of_made c.args.made.now))
    (c.in_ok-large-2.ensures.same ∙ c.in_ok-large.ensures.same))
    c.if-large-3.false
