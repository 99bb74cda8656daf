use Rattle.std.proofs.Common.{◌≡◌, ◌+◌, ◌++◌, drop, refl, sym, ap, ◌∙◌, subst, length, map, arith}
use Rattle.type_nodes.proofs.Making.{length_snoc}
use Rattle.type_schemes.proofs.Items.{rest_at}
use Rattle.table_schemes.specs.Meaning.{part_tree}
use Rattle.table_schemes.specs.Using.{AreAllRead}
use Rattle.table_schemes.proofs.Instances.{all_next, all_done, have_next, have_nothing}
use Rattle.table_schemes.proofs.uses.part_ids.Goals as goal

pub loop-part-init : goal.loop-part-init
loop-part-init c =
    let t = c.args.table.now in
    let base = c.args.base in
    let parts = c.args.parts.now in
    record {
      has = have_nothing t c.new-found.result c.new-found.ensures;
      counted = ap length c.new-found.ensures;
      read = λ trees made rest all.
          subst (λ z. AreAllRead t base (map (part_tree t trees) parts) (z ++ rest)) (sym c.new-found.ensures) all;
    }

pub loop-part-preserved : goal.loop-part-preserved
loop-part-preserved c =
    let t = c.args.table.now in
    let base = c.args.base in
    let parts = c.args.parts.now in
    let items = c.as_slice-part-items.result.now in
    let i = c.loop-part.part-index in
    let inv = c.loop-part.invariant in
    let found = c.loop-part.found in
    let more = c.in_ok-add-in-Some.ensures.ok in
    record {
      has = have_next t found c.add.new.self c.in-Some.id inv.has c.in-Some.ensures.has more;
      counted = ap length more ∙ length_snoc found c.in-Some.id ∙ ap (λ n. n + 1) inv.counted;
      read = λ trees made.
          all_next t base (part_tree t trees) parts (drop i parts) (drop (i + 1) parts) _ found c.add.new.self c.in-Some.id
          (rest_at parts items i _ c.as_slice-part-items.ensures c.loop-part-test.true)
          (c.in-Some.ensures.read trees made c.in-Some.id refl) more (inv.read trees made);
    }

pub returns : goal.returns
returns c =
    let t = c.args.table.now in
    let parts = c.args.parts.now in
    let i = c.loop-part.part-index in
    let inv = c.loop-part.invariant in
    let same : length c.as_slice-part-items.result.now ≡ length parts = ap length c.as_slice-part-items.ensures in
    let out = c.loop-part-test.false in
    let end = c.loop-part.auto.part-index-end in
    let count = inv.counted in
    record {
      has = (inv.has, omega (arith, count, out, end, same));
      read = λ trees made.
          all_done t c.args.base i (part_tree t trees) parts c.loop-part.found (omega (arith, out, same)) (inv.read trees made);
    }
