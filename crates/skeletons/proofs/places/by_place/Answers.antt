use Rattle.std.proofs.Common.{ap, sym, ◌∙◌, ◌+◌, ◌≡◌, arith, length, length-append, [], ◌∷◌}
use Rattle.std.specs.FinMap.{empty, insert}
use Rattle.skeletons.specs.Skeletons.{placed}
use Rattle.skeletons.proofs.Placing.{position, put_position, placed_more}
use Rattle.skeletons.proofs.places.by_place.Goals as goal

pub loop-need-preserved : goal.loop-need-preserved
loop-need-preserved c =
    let need = c.in-Some.need in
    let before = c.loop-need.yielded in
    let number : c.loop-need.number ≡ 0 + length before = let n = c.loop-need.invariant.number in omega arith in
    record {
      table =
          put_position c.loop-need.table.entries c.insert.new.self.entries (position c.loop-need.number need) need
          c.in_ok-insert.ensures.updates.0
          ∙ ap (λ m. insert m (position c.loop-need.number need) need) c.loop-need.invariant.table
          ∙ ap (λ n. insert (placed empty 0 before) (position n need) need) number
          ∙ sym (placed_more empty 0 before need);
      number =
          c.in_ok-number.ensures ∙ ap (λ n. n + 1) c.loop-need.invariant.number
          ∙ sym (length-append before (need ∷ []));
    }
