use Rattle.std.proofs.Common.{◌+◌, drop, get_or}
use Rattle.semantic_objects.specs.declared.name.TyId.TheVariants as id
use Rattle.type_nodes.specs.Tables.{state}
use Rattle.type_schemes.proofs.Items.{rest_at}
use Rattle.type_schemes.proofs.Ages.{since_scheme, since_next}
use Rattle.type_schemes.proofs.close.generalise_since.Goals as goal

pub loop-ty-preserved : goal.loop-ty-preserved
loop-ty-preserved c =
    let t = c.args.table.now in
    let n = (state c.args.since.now).next in
    let tys = c.args.tys.now in
    let items = c.as_slice-ty-items.result.now in
    let i = c.loop-ty.ty-index in
    let a = get_or items i (id.Variable 0) in
    let σ = c.in_ok-close_but.field-0 in
    since_next t n a σ c.loop-ty.schemes c.add.new.self _ (drop i tys) (drop (i + 1) tys)
    (rest_at tys items i (id.Variable 0) c.as_slice-ty-items.ensures c.loop-ty-test.true) c.in_ok-add.ensures.ok
    (since_scheme t n c.in_ok-kept.kept a σ c.in_ok-kept.ensures c.in_ok-close_but.ensures) c.loop-ty.invariant
