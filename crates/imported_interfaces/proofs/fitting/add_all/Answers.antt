use Rattle.std.proofs.Common.{◌≡◌, ◌++◌, ◌+◌, refl, drop}
use Rattle.imported_interfaces.proofs.Looping.{left_at, none_left, added_next, added_all}
use Rattle.imported_interfaces.proofs.fitting.add_all.Goals as goal

pub loop-name-init : goal.loop-name-init
loop-name-init c = record { kept = c.requires; names = refl }

pub add-requires : goal.add-requires
add-requires c = c.loop-name.invariant.kept

pub loop-name-preserved : goal.loop-name-preserved
loop-name-preserved c =
    let names = c.args.names.now in
    let i = c.loop-name.name-index in
    record {
      kept = c.in_ok-add.ensures.kept;
      names = added_next c.loop-name.known.names c.add.new.self.names (drop i names) (drop (i + 1) names)
          (c.args.known.now.names ++ names) c.name-item.result c.in_ok-add.ensures.names
          (left_at names c.as_slice-name-items.result.now i c.name-item.result c.as_slice-name-items.ensures
          c.loop-name-test.true c.name-item.is) c.loop-name.invariant.names;
    }

pub returns-clause-names : goal.returns-clause-names
returns-clause-names c =
    let names = c.args.names.now in
    let i = c.loop-name.name-index in
    added_all c.loop-name.known.names (drop i names) (c.args.known.now.names ++ names)
    (none_left names c.as_slice-name-items.result.now i c.as_slice-name-items.ensures c.loop-name-test.false)
    c.loop-name.invariant.names

pub returns-clause-kept : goal.returns-clause-kept
returns-clause-kept c = c.loop-name.invariant.kept
