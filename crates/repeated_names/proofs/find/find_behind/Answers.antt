use Rattle.std.proofs.Common.{refl, ap, ◌∙◌}
use Rattle.repeated_names.specs.Repeats.{earliest_with, place_again}
use Rattle.repeated_names.specs.Finding.{names_then}
use Rattle.repeated_names.proofs.Found.{member_step, names_step}
use Rattle.repeated_names.proofs.find.find_behind.Goals as goal

pub loop-item-preserved : goal.loop-item-preserved
loop-item-preserved g c =
    let names = c.in_ok-see.ensures.names ∙ ap (names_then c.loop-item.seen.keys) c.name.ensures in
    record {
      first =
          member_step g.T.Listed.listed c.args.items.now c.loop-item.item-index c.item-item.result
          (g.T.Listed.listed c.item-item.result) c.loop-item.finder c.see.new.self c.find_inside.new.finder _
          c.loop-item.seen.keys c.see.new.seen.keys c.loop-item-test.true c.item-item.is refl
          (c.in_ok-see.ensures.first
          ∙ ap (λ n. earliest_with c.loop-item.finder (place_again c.loop-item.seen.keys n)) c.name.ensures)
          names c.in_ok-find_inside.ensures c.loop-item.invariant.first;
      names =
          names_step g.T.Listed.listed c.args.items.now c.loop-item.item-index c.item-item.result
          (g.T.Listed.listed c.item-item.result) c.loop-item.seen.keys c.see.new.seen.keys _ c.loop-item-test.true
          c.item-item.is refl names c.loop-item.invariant.names;
    }
