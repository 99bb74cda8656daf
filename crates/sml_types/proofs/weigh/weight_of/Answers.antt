use Rattle.std.proofs.Common.{◌≡◌, ◌+◌, ◌<◌, ◌∷◌, [], ◌∙◌, subst, sym, arith, true}
use Rattle.unification.specs.Types.{size}
use Rattle.type_nodes.specs.Facts.{capped}
use Rattle.type_nodes.specs.Tables.{Has, whole}
use Rattle.sml_types.specs.Sizing.{sizes, HaveAll}
use Rattle.sml_types.specs.Weighing.{Weighed, is_met}
use Rattle.sml_types.proofs.Sizing.{have_front, large_left, large_counted}
use Rattle.sml_types.proofs.Weighing.{weigh_on, weigh_less, met_on}
use Rattle.sml_types.proofs.weigh.weight_of.Goals as goal
use Rattle.sml_types.proofs.weigh.weight_of.Goals.{then-len-via-then-len, then-len-via-else-len+then-counted-ge-LARGE}

pub weigh_one-requires-clause-has : goal.weigh_one-requires-clause-has
weigh_one-requires-clause-has c =
    let t = c.args.table.now in
    subst (λ u. Has u c.in-Some.id) (sym c.loop-id.invariant.table) (have_front t c.pop.new.self (c.in-Some.id ∷ [])
    (subst (HaveAll t) c.in-Some.ensures c.loop-id.invariant.all)).1.0

pub weigh_one-requires-clause-all : goal.weigh_one-requires-clause-all
weigh_one-requires-clause-all c =
    let t = c.args.table.now in
    subst (λ u. HaveAll u c.pop.new.self) (sym c.loop-id.invariant.table) (have_front t c.pop.new.self (c.in-Some.id ∷ [])
    (subst (HaveAll t) c.in-Some.ensures c.loop-id.invariant.all)).0

pub returns-then-len-clause-weight : goal.returns-then-len-clause-weight
returns-then-len-clause-weight c =
    let t = c.args.table.now in
    let all = size (whole t c.args.id) in
    let counted = c.in_ok-counted.counted in
    let new = c.weigh_one.new.left in
    let w : Weighed t c.in-Some.id c.loop-id.counted c.pop.new.self new counted =
    subst (λ u. Weighed u c.in-Some.id c.loop-id.counted c.pop.new.self new counted) c.loop-id.invariant.table
    c.in_ok-counted.ensures.weighed in
    let same : capped (counted.size + sizes t new) ≡ capped all =
    weigh_on t c.in-Some.id c.loop-id.counted counted all c.pop.new.self new w
    (subst (λ l. capped (c.loop-id.counted.size + sizes t l) ≡ capped all) c.in-Some.ensures c.loop-id.invariant.same) in
    record {
      size = elim c.then-len.branch [
        | then-len-via-then-len w ↦ large_left t counted.size all new same (omega (arith, w.if-len.true, c.len.ensures))
        | then-len-via-else-len+then-counted-ge-LARGE w ↦ large_counted t counted.size all new same
            (omega (arith, w.if-counted-ge-LARGE.true))
      ];
      under = λ l. absurd (omega (arith, l));
    }

pub loop-id-smaller : goal.loop-id-smaller
loop-id-smaller c =
    let t = c.args.table.now in
    let w : Weighed t c.in-Some.id c.loop-id.counted c.pop.new.self c.weigh_one.new.left c.in_ok-counted.counted =
    subst (λ u. Weighed u c.in-Some.id c.loop-id.counted c.pop.new.self c.weigh_one.new.left c.in_ok-counted.counted)
    c.loop-id.invariant.table c.in_ok-counted.ensures.weighed in
    subst (λ l. sizes t c.weigh_one.new.left < sizes t l) (sym c.in-Some.ensures)
    (weigh_less t c.in-Some.id c.loop-id.counted c.in_ok-counted.counted c.pop.new.self c.weigh_one.new.left w)

pub loop-id-preserved : goal.loop-id-preserved
loop-id-preserved c =
    let t = c.args.table.now in
    let all = size (whole t c.args.id) in
    let before = c.loop-id.counted in
    let counted = c.in_ok-counted.counted in
    let new = c.weigh_one.new.left in
    let w : Weighed t c.in-Some.id before c.pop.new.self new counted =
    subst (λ u. Weighed u c.in-Some.id before c.pop.new.self new counted) c.loop-id.invariant.table
    c.in_ok-counted.ensures.weighed in
    record {
      table = c.in_ok-counted.ensures.same ∙ c.loop-id.invariant.table;
      same = weigh_on t c.in-Some.id before counted all c.pop.new.self new w
          (subst (λ l. capped (before.size + sizes t l) ≡ capped all) c.in-Some.ensures c.loop-id.invariant.same);
      met = λ v r o. met_on t c.in-Some.id before counted c.pop.new.self new w v r
          (subst (λ l. is_met t before.above l v ≡ true) c.in-Some.ensures (c.loop-id.invariant.met v r o));
      all = w.all;
      within = w.within;
    }
