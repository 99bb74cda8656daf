use Rattle.std.proofs.lemmas.Option.{slice_get_read}
use Rattle.std.proofs.Common.{length, drop, get_or, ◌+◌, refl, suc, ap, ◌∙◌, add-one}
use Rattle.function_forms.proofs.Places.{drop_at}
use Rattle.function_forms.proofs.Marking.{goes_on, ends}
use Rattle.function_forms.proofs.Naming.{are_variables, variable_next}
use Rattle.function_forms.proofs.flexible.are_variables.Goals as goal

pub returns-then-not-is_variable : goal.returns-then-not-is_variable
returns-then-not-is_variable c =
    let nodes = c.args.nodes.now in
    let places = c.args.places.now in
    let i = c.loop-place.place-index in
    ends c.is_variable.result (are_variables nodes (drop (i + 1) places) (suc c.loop-place.number))
    (are_variables nodes places 0) c.if-not-is_variable.true
    (variable_next nodes (drop i places) (drop (i + 1) places) (get_or places i 0) c.loop-place.number
    c.in-Some.node.now c.is_variable.result (are_variables nodes places 0) c.requires
    (drop_at places i 0 c.loop-place-test.true) (slice_get_read nodes (length nodes) (get_or places i 0) c.in-Some.node.now refl
    c.in-Some.ensures.lookup.3.0 c.in-Some.ensures.lookup.1)
    (λ made. c.is_variable.ensures made) c.loop-place.invariant.rest)

pub loop-place-preserved : goal.loop-place-preserved
loop-place-preserved c =
    let nodes = c.args.nodes.now in
    let places = c.args.places.now in
    let i = c.loop-place.place-index in
    record {
      number = ap (λ n. n + 1) c.loop-place.invariant.number;
      rest = ap (λ n. are_variables nodes (drop (i + 1) places) n) (add-one c.loop-place.number)
          ∙ goes_on c.is_variable.result (are_variables nodes (drop (i + 1) places) (suc c.loop-place.number))
          (are_variables nodes places 0) c.if-not-is_variable.false
          (variable_next nodes (drop i places) (drop (i + 1) places) (get_or places i 0) c.loop-place.number
          c.in-Some.node.now c.is_variable.result (are_variables nodes places 0) c.requires
          (drop_at places i 0 c.loop-place-test.true) (slice_get_read nodes (length nodes) (get_or places i 0) c.in-Some.node.now refl
          c.in-Some.ensures.lookup.3.0 c.in-Some.ensures.lookup.1)
          (λ made. c.is_variable.ensures made) c.loop-place.invariant.rest);
    }
