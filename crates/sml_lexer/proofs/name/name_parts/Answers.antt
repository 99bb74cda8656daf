use Rattle.std.proofs.Common.{◌≡◌, ◌<◌, ◌-◌, ◌∷◌, ◌++◌, [], drop, take, arith}
use Rattle.sml_lexer.specs.Names.{parts_after}
use Rattle.sml_lexer.proofs.NamesLemmas.{parts-step, taken-step, identifier-step}
use Rattle.sml_lexer.proofs.name.name_parts.Goals as goal

pub loop-next-preserved : goal.loop-next-preserved
loop-next-preserved c =
    let l = c.loop-next in
    let rest = l.rest.now in
    let some : 0 < l.next = c.loop-next-test.true in
    let after : c.split_at.result.1.now ≡ drop l.next rest = c.split_at.ensures.back in
    let pushed : c.add_part.new.parts ≡ l.parts ++ take (l.next - 1) rest ∷ [] = c.in_ok-add_part.ensures in
    let step = parts-step l.parts (parts_after 0 c.args.text.now) rest l.next l.invariant.parts l.invariant.next some l.invariant.within in
    let taken = taken-step l.parts rest l.next some l.invariant.within in
    let here = identifier-step rest l.next l.invariant.next some in
    record {
      parts = rw (pushed, after) step;
      taken = rw (pushed, taken) (omega (arith, l.invariant.taken));
      lengths = omega (arith, c.split_at.ensures.back_len, l.invariant.lengths);
      next = c.qualifier_len-next-in-loop-next.ensures.value;
      within = c.qualifier_len-next-in-loop-next.ensures.within;
      here = rw after here;
    }
