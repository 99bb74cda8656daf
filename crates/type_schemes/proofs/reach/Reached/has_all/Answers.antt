use Rattle.std.proofs.Common.{◌≡◌, ◌<◌, length, get_or, arith, ap}
use Rattle.std.proofs.lemmas.Option.{slice_get_within}
use Rattle.semantic_objects.specs.declared.name.TyId.TheVariants as id
use Rattle.type_schemes.proofs.Reaching.{passed_next, some_passed}
use Rattle.type_schemes.proofs.reach.Reached.has_all.Goals as goal

pub loop-id-preserved : goal.loop-id-preserved
loop-id-preserved c =
    let items = c.as_slice-id-items.result.now in
    let i = c.loop-id.id-index in
    let a = get_or items i (id.Variable 0) in
    passed_next c.args.table.now c.args.self.now c.args.ids.now items i (id.Variable 0) c.as_slice-id-items.ensures
    c.loop-id-test.true (some_passed c.args.table.now c.args.self.now a c.place_of.result c.place_of.ensures c.if-is_none.ensures)
    c.loop-id.invariant

pub returns : goal.returns
returns c = λ e i a g.
    let l : i < length c.args.ids.now = slice_get_within c.args.ids.now i a g in
    let k = c.loop-id-test.false in
    let n : length c.as_slice-id-items.result.now ≡ length c.args.ids.now = ap length c.as_slice-id-items.ensures in
    c.loop-id.invariant i a (omega (arith, l, k, n)) g
