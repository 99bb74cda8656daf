use Rattle.std.proofs.Common.{◌≡◌, length, take, ℕ, ◌+◌, ◌<◌, ap, arith, suc, get_or, subst, sym, ◌∙◌, List, ◌∷◌, [], ◌++◌, Option, Some, true}
use Rattle.std.proofs.Math.Seq.{take-suc}
use Rattle.std.proofs.lemmas.List.{length-set, length-take-le, take_more_set}
use Rattle.infix_names.specs.FixityTables.{IsPlaced, has, links_of}
use Rattle.infix_names.specs.Fixities.{Fixities}
use Rattle.infix_names.proofs.FixityTables.{links_more, recalled, has_still, has_all_still}
use Rattle.infix_names.proofs.fixity_table.recall.Goals as goal

pub loop-at-preserved : goal.loop-at-preserved
loop-at-preserved c =
    let fs = c.args.entries.now in
    let i = c.loop-at.at in
    let s = get_or c.args.entries.now i c.index-entries-at.result in
    let place = c.place_of.result in
    let within : i < length fs = omega (arith, c.loop-at-test.true) in
    let within_links : i < length c.loop-at.links = omega (arith, within, c.loop-at.invariant.as_long) in
    let next : i + 1 ≡ suc i = omega arith in
    let text : take (i + 1) fs ≡ take i fs ++ s ∷ [] =
    ap (λ n. take n fs) next ∙ take-suc fs i c.index-entries-at.result within in
    let known : has c.loop-at.last s.name ≡ true = c.loop-at.invariant.known i c.index-entries-at.result within in
    let alike = has_still c.loop-at.last c.note.new.last s.name (Some i) c.note.ensures in
    record {
      placed = subst (λ (all : Fixities). IsPlaced c.note.new.last all) (sym text)
          (recalled c.loop-at.last c.note.new.last (take i fs) s i c.loop-at.invariant.placed known
          (sym (length-take-le i fs (omega (arith, within)))) c.note.ensures);
      linked = take_more_set c.loop-at.links i place within_links
          ∙ ap (λ (links : List (Option ℕ)). links ++ place ∷ []) c.loop-at.invariant.linked
          ∙ ap (λ (at : Option ℕ). links_of (take i fs) ++ at ∷ []) (c.place_of.ensures ∙ c.loop-at.invariant.placed s.name)
          ∙ sym (links_more (take i fs) s) ∙ ap links_of (sym text);
      as_long = length-set c.loop-at.links i place ∙ c.loop-at.invariant.as_long;
      known = has_all_still c.loop-at.last c.note.new.last fs alike c.loop-at.invariant.known;
      order = omega (arith, c.loop-at.invariant.order);
      within = omega (arith, within);
    }
