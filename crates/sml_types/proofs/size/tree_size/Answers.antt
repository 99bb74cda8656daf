use Rattle.std.proofs.Common.{◌≡◌, ◌+◌, ◌<◌, ◌∷◌, [], subst, sym, arith}
use Rattle.unification.specs.Types.{size}
use Rattle.type_nodes.specs.Facts.{capped}
use Rattle.type_nodes.specs.Tables.{whole}
use Rattle.sml_types.specs.Sizing.{sizes, HaveAll}
use Rattle.sml_types.proofs.Sizing.{have_front, large_left, large_counted, count_on, count_less}
use Rattle.sml_types.proofs.size.tree_size.Goals as goal
use Rattle.sml_types.proofs.size.tree_size.Goals.{then-len-via-then-len, then-len-via-else-len+then-counted-ge-LARGE}

pub count-requires-clause-has : goal.count-requires-clause-has
count-requires-clause-has c = (have_front c.args.table.now c.pop.new.self (c.in-Some.id ∷ [])
    (subst (HaveAll c.args.table.now) c.in-Some.ensures c.loop-id.invariant.all)).1.0

pub count-requires-clause-all : goal.count-requires-clause-all
count-requires-clause-all c = (have_front c.args.table.now c.pop.new.self (c.in-Some.id ∷ [])
    (subst (HaveAll c.args.table.now) c.in-Some.ensures c.loop-id.invariant.all)).0

pub returns-then-len : goal.returns-then-len
returns-then-len c =
    let t = c.args.table.now in
    let all = size (whole t c.args.id) in
    let same : capped (c.in_ok-counted.counted + sizes t c.count.new.left) ≡ capped all =
    count_on t c.in-Some.id c.loop-id.counted c.in_ok-counted.counted all c.pop.new.self c.count.new.left c.in_ok-counted.ensures
    (subst (λ l. capped (c.loop-id.counted + sizes t l) ≡ capped all) c.in-Some.ensures c.loop-id.invariant.same) in
    elim c.then-len.branch [
      | then-len-via-then-len w ↦ large_left t c.in_ok-counted.counted all c.count.new.left same
          (omega (arith, w.if-len.true, c.len.ensures))
      | then-len-via-else-len+then-counted-ge-LARGE w ↦ large_counted t c.in_ok-counted.counted all c.count.new.left same
          (omega (arith, w.if-counted-ge-LARGE.true))
    ]

pub loop-id-smaller : goal.loop-id-smaller
loop-id-smaller c =
    let t = c.args.table.now in
    subst (λ l. sizes t c.count.new.left < sizes t l) (sym c.in-Some.ensures)
    (count_less t c.in-Some.id c.loop-id.counted c.in_ok-counted.counted c.pop.new.self c.count.new.left c.in_ok-counted.ensures)

pub loop-id-preserved : goal.loop-id-preserved
loop-id-preserved c =
    let t = c.args.table.now in
    let all = size (whole t c.args.id) in
    record {
      same = count_on t c.in-Some.id c.loop-id.counted c.in_ok-counted.counted all c.pop.new.self c.count.new.left
          c.in_ok-counted.ensures
          (subst (λ l. capped (c.loop-id.counted + sizes t l) ≡ capped all) c.in-Some.ensures c.loop-id.invariant.same);
      all = c.in_ok-counted.ensures.all;
      within = c.in_ok-counted.ensures.within;
    }
