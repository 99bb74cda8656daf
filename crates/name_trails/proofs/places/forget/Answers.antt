use Rattle.std.proofs.Common.{◌≡◌, length, take, ℕ, ◌-◌, ◌<◌, ap, arith, suc, get_or, subst, ◌∙◌, List, ◌∷◌, [], ◌++◌, Option, None}
use Rattle.std.proofs.Math.Seq.{take-suc}
use Rattle.name_trails.specs.Places.{IsPlaced}
use Rattle.name_trails.proofs.Placing.{length-links, link_at, forgotten}
use Rattle.name_trails.proofs.places.forget.Goals as goal

pub bounds-links-at : goal.bounds-links-at
bounds-links-at g c =
    let long : length c.args.links.now ≡ length c.args.rows.now =
    ap length c.requires.linked ∙ length-links c.args.rows.now in
    omega (arith, long, c.loop-at.invariant.within, c.loop-at-test.true)

pub loop-at-preserved : goal.loop-at-preserved
loop-at-preserved g c =
    let rows = c.args.rows.now in
    let i = c.loop-at.at - 1 in
    let row = get_or c.args.rows.now i c.index-rows-at.result in
    let place = get_or c.args.links.now i None in
    let within : i < length rows = omega (arith, c.loop-at.invariant.within, c.loop-at-test.true) in
    let next : c.loop-at.at ≡ suc i = omega (arith, c.loop-at-test.true) in
    let text : take c.loop-at.at rows ≡ take i rows ++ row ∷ [] =
    ap (λ n. take n rows) next ∙ take-suc rows i c.index-rows-at.result within in
    record {
      placed = forgotten c.loop-at.last c.note.new.last (take i rows) row place
          (subst (λ all. IsPlaced c.loop-at.last all) text c.loop-at.invariant.placed)
          (ap (λ (links : List (Option ℕ)). get_or links i None) c.requires.linked
          ∙ link_at rows i None c.index-rows-at.result within)
          c.note.ensures;
      order = omega (arith, c.loop-at.invariant.order, c.loop-at-test.true);
      within = omega (arith, within);
    }
