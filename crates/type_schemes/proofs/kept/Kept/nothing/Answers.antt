use Rattle.std.proofs.Common.{refl}
use Rattle.type_schemes.proofs.Numbering.{keeps_none}
use Rattle.type_schemes.proofs.kept.Kept.nothing.Goals as goal

pub returns : goal.returns
returns c = λ v. keeps_none (record { older = 0; variables = c.new.result }) v refl (c.new.ensures v)
