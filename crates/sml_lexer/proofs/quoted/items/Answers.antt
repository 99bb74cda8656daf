use Rattle.std.proofs.Common.{◌≡◌, ◌≤◌, ◌++◌, Some, drop, length, arith}
use Rattle.sml_lexer.specs.Quoted.{item, item_bytes, items_after}
use Rattle.sml_lexer.proofs.QuotedLemmas.{items-step}
use Rattle.sml_lexer.proofs.quoted.items.Goals as goal

pub loop-next-preserved : goal.loop-next-preserved
loop-next-preserved c =
    let l = c.loop-next in
    let rest = l.rest.now in
    let next = c.in-Some.next in
    let here : item rest ≡ Some next = cc (c.in-Some.ensures.value) in
    let some : 1 ≤ next.len = c.in-Some.ensures.within.0 in
    let within : next.len ≤ length rest = c.in-Some.ensures.within.1 in
    let after : c.split_at.result.1.now ≡ drop next.len rest = c.split_at.ensures.back in
    let added : c.add_byte.new.out.items ≡ l.out.items ++ item_bytes next.byte = c.in_ok-add_byte.ensures in
    let step = items-step l.out.items rest l.len (items_after 0 c.args.text.now) next l.invariant.value here some within in
    record {
      value = rw (added, after) step;
      lengths = omega (arith, c.split_at.ensures.back_len, l.invariant.lengths);
    }
