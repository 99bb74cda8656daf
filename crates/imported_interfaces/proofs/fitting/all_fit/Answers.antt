use Rattle.std.proofs.Common.{◌≡◌, ◌+◌, refl, sym, ◌∙◌, drop}
use Rattle.std.specs.List.{list_all}
use Rattle.imported_interfaces.specs.Known.{fits}
use Rattle.imported_interfaces.proofs.Looping.{left_at, none_left, all_next, not_all, all_so}
use Rattle.imported_interfaces.proofs.fitting.all_fit.Goals as goal

pub loop-name-init : goal.loop-name-init
loop-name-init c = refl

pub loop-name-preserved : goal.loop-name-preserved
loop-name-preserved c =
    let names = c.args.names.now in
    let i = c.loop-name.name-index in
    let f = fits c.args.known.now.names c.args.unit.now in
    all_next f (drop i names) (drop (i + 1) names) c.name-item.result (list_all f names)
    (left_at names c.as_slice-name-items.result.now i c.name-item.result c.as_slice-name-items.ensures
    c.loop-name-test.true c.name-item.is) (sym c.in_ok-fits.ensures ∙ c.if-not-branch.false) c.loop-name.invariant

pub returns : goal.returns
returns c =
    let names = c.args.names.now in
    let i = c.loop-name.name-index in
    let f = fits c.args.known.now.names c.args.unit.now in
    all_so f (drop i names) (list_all f names)
    (none_left names c.as_slice-name-items.result.now i c.as_slice-name-items.ensures c.loop-name-test.false)
    c.loop-name.invariant

pub returns-then-not-branch : goal.returns-then-not-branch
returns-then-not-branch c =
    let names = c.args.names.now in
    let i = c.loop-name.name-index in
    let f = fits c.args.known.now.names c.args.unit.now in
    not_all f (drop i names) (drop (i + 1) names) c.name-item.result (list_all f names)
    (left_at names c.as_slice-name-items.result.now i c.name-item.result c.as_slice-name-items.ensures
    c.loop-name-test.true c.name-item.is) (sym c.in_ok-fits.ensures ∙ c.if-not-branch.true) c.loop-name.invariant
