use Rattle.std.proofs.Common.{sym, arith}
use Rattle.std.proofs.lemmas.List.{length-take-le, take_all}
use Rattle.capital_compilers.proofs.skeletons.front_of.Goals as goal

pub slice_bounds-result-end : goal.slice_bounds-result-end
slice_bounds-result-end c = sym (length-take-le 255 c.args.name.now (omega (arith, c.if-name-gt255.true)))

pub returns-else-name-gt255 : goal.returns-else-name-gt255
returns-else-name-gt255 c = sym (take_all 255 c.args.name.now (omega (arith, c.if-name-gt255.false)))
