use Rattle.std.proofs.Common.{◌+◌, drop, get_or}
use Rattle.sml_modules.specs.declared.id.EnvId.{EnvId}
use Rattle.open_declarations.proofs.Opening.{opened_next, opened_more, item_at}
use Rattle.open_declarations.proofs.names.entries_of.Goals as goal

pub add_env-requires : goal.add_env-requires
add_env-requires g c =
    let i = c.loop-env.env-index in
    let items = c.as_slice-env-items.result.now in
    let x : EnvId = get_or items i (record { place = 0 }) in
    opened_next c.args.g.now c.args.envs.now (drop i c.args.envs.now) (drop (i + 1) c.args.envs.now) x c.loop-env.made
    c.loop-env.invariant
    (item_at items c.args.envs.now i (record { place = 0 }) c.as_slice-env-items.ensures c.loop-env-test.true)

pub loop-env-preserved : goal.loop-env-preserved
loop-env-preserved g c =
    let i = c.loop-env.env-index in
    let items = c.as_slice-env-items.result.now in
    let x : EnvId = get_or items i (record { place = 0 }) in
    opened_more c.args.g.now c.args.envs.now (drop i c.args.envs.now) (drop (i + 1) c.args.envs.now) x c.loop-env.made
    c.add_env.new.made c.loop-env.invariant
    (item_at items c.args.envs.now i (record { place = 0 }) c.as_slice-env-items.ensures c.loop-env-test.true) c.in_ok-add_env.ensures
