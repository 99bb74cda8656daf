use Rattle.std.proofs.Common.{◌≡◌, length, take, ℕ, ◌-◌, ◌<◌, ap, arith, suc, get_or, subst, ◌∙◌, List, ◌∷◌, [], ◌++◌, Option, None}
use Rattle.std.proofs.Math.Seq.{take-suc}
use Rattle.infix_names.specs.FixityTables.{IsPlaced}
use Rattle.infix_names.specs.Fixities.{Fixities}
use Rattle.infix_names.proofs.FixityTables.{length-links, link_at, forgotten, has_still}
use Rattle.infix_names.proofs.fixity_table.forget.Goals as goal

pub bounds-links-at : goal.bounds-links-at
bounds-links-at c =
    let long : length c.args.links.now ≡ length c.args.entries.now =
    ap length c.requires.linked ∙ length-links c.args.entries.now in
    omega (arith, long, c.loop-at.invariant.within, c.loop-at-test.true)

pub loop-at-preserved : goal.loop-at-preserved
loop-at-preserved c =
    let fs = c.args.entries.now in
    let i = c.loop-at.at - 1 in
    let s = get_or c.args.entries.now i c.index-entries-at.result in
    let place = get_or c.args.links.now i None in
    let within : i < length fs = omega (arith, c.loop-at.invariant.within, c.loop-at-test.true) in
    let next : c.loop-at.at ≡ suc i = omega (arith, c.loop-at-test.true) in
    let text : take c.loop-at.at fs ≡ take i fs ++ s ∷ [] =
    ap (λ n. take n fs) next ∙ take-suc fs i c.index-entries-at.result within in
    record {
      placed = forgotten c.loop-at.last c.note.new.last (take i fs) s place
          (subst (λ (all : Fixities). IsPlaced c.loop-at.last all) text c.loop-at.invariant.placed)
          (ap (λ (links : List (Option ℕ)). get_or links i None) c.requires.linked
          ∙ link_at fs i None c.index-entries-at.result within)
          c.note.ensures;
      alike = λ name.
          has_still c.loop-at.last c.note.new.last s.name place c.note.ensures name ∙ c.loop-at.invariant.alike name;
      order = omega (arith, c.loop-at.invariant.order, c.loop-at-test.true);
      within = omega (arith, within);
    }
