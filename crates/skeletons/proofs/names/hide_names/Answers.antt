use Rattle.std.proofs.Common.{ap, sym, ◌∙◌, ◌≡◌, ◌-◌, ◌+◌, ◌≤◌, ◌<◌, arith, suc, None, get_or, set, length}
use Rattle.skeletons.specs.Counting.{count_in, bindings, hide_at}
use Rattle.skeletons.proofs.Counts.{counted_hidden, hide_more, hide_none, length-hide}
use Rattle.skeletons.proofs.names.hide_names.Goals as goal

pub loop-at-init : goal.loop-at-init
loop-at-init c = record {
  counted = c.requires.counted;
  hidden =
      let none : c.args.from - c.args.from ≡ 0 = omega arith in
      sym (ap (λ n. hide_at c.args.from n c.args.names.now.items) none ∙ hide_none c.args.from c.args.names.now.items);
  order = omega arith;
}

pub loop-at-preserved : goal.loop-at-preserved
loop-at-preserved c =
    let items = c.loop-at.names.items in
    let all = c.args.names.now.items in
    let at = c.loop-at.at in
    let from = c.args.from in
    let count = at - from in
    let order : from ≤ at = c.loop-at.invariant.order in
    let long : length items ≡ length all = ap length c.loop-at.invariant.hidden ∙ length-hide from count all in
    let below : at < length all = omega (arith, c.requires.within, c.loop-at-test.true) in
    let within : at < length items = omega arith in
    let place : at ≡ from + count = omega arith in
    let next : suc count ≡ at + 1 - from = omega arith in
    let old = ap (λ gone. get_or items at gone) c.take-name.ensures.value ∙ sym c.index_mut.ensures.value
    ∙ sym c.take-name.ensures.value in
    record {
      counted = λ name.
          counted_hidden (count_in c.loop-at.counts) (count_in c.uncount.new.counts) items at c.take-name.result
          within old c.loop-at.invariant.counted c.uncount.ensures name
          ∙ ap (λ gone. bindings (set items at gone) name) (sym c.take-name.ensures.after);
      hidden =
          ap (λ gone. set items at gone) c.take-name.ensures.after
          ∙ ap (λ names. set names at None) c.loop-at.invariant.hidden
          ∙ ap (λ i. set (hide_at from count all) i None) place
          ∙ hide_more from count all (omega arith)
          ∙ ap (λ n. hide_at from n all) next;
      order = omega arith;
    }
