use Rattle.std.proofs.Common.{nat_eq}
use Rattle.indexmap.specs.IndexMap.{get}
use Rattle.visibility.proofs.ReadGroups.{exports_refused, units_added, units_refused}
use Rattle.visibility.proofs.naming.add_read.Goals as goal

pub returns-in_err-exports : goal.returns-in_err-exports
returns-in_err-exports c =
    exports_refused c.args.project.now c.args.skeletons.now c.args.defs.now (get nat_eq c.args.places.now)
    c.args.below.now c.in_ok-names.names c.args.group c.args.found.now c.args.wanted.now.items c.args.wanted.now.items
    c.in_err-exports.field-0.0 c.from_residual-in_err-exports.result c.in_ok-names.ensures
    c.from_residual-in_err-exports.ensures.1 c.in_err-exports.ensures

pub returns-in_err-import_units : goal.returns-in_err-import_units
returns-in_err-import_units c =
    units_refused c.args.project.now c.args.skeletons.now c.args.defs.now (get nat_eq c.args.places.now)
    c.args.below.now c.in_ok-names.names c.args.group c.args.found.now c.as_slice.result.now c.args.wanted.now.items
    c.import_units.new.wanted.items c.in_ok-exports.exports c.in_err-import_units.field-0.0
    c.from_residual-in_err-import_units.result c.in_ok-names.ensures c.as_slice.ensures c.in_ok-exports.ensures
    c.from_residual-in_err-import_units.ensures.1 c.in_err-import_units.ensures

pub returns : goal.returns
returns c =
    units_added c.args.project.now c.args.skeletons.now c.args.defs.now (get nat_eq c.args.places.now)
    c.args.below.now c.in_ok-names.names c.args.group c.args.found.now c.as_slice.result.now c.args.wanted.now.items
    c.import_units.new.wanted.items c.in_ok-exports.exports c.in_ok-names.ensures c.as_slice.ensures
    c.in_ok-exports.ensures c.in_ok-import_units.ensures
