use Rattle.std.proofs.Common.{refl}
use Rattle.type_schemes.proofs.Numbering.{keeps_some}
use Rattle.type_schemes.proofs.reach.Reached.into_kept.Goals as goal

pub returns : goal.returns
returns c = λ v. keeps_some (record { older = 0; variables = c.args.self.variables }) v refl
