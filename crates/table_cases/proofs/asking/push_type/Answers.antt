use Rattle.std.proofs.Common.{refl, []}
use Rattle.table_cases.proofs.Having.{have_one}
use Rattle.table_cases.proofs.asking.push_type.Goals as goal

pub generalise-requires-clause-kept : goal.generalise-requires-clause-kept
generalise-requires-clause-kept c = have_one c.args.table.now [] c.in_ok-kept.kept c.args.ty refl c.in_ok-kept.ensures c.requires
