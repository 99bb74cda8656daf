-- Reading and writing go back and forth.
use Rattle.std.proofs.Common.{ap, ◌∙◌}
use Rattle.realisation.specs.Canonical.{canonical}
use Rattle.interface_format.specs.Interfaces.{interface_bytes}
use Rattle.restoring_laws.proofs.Reading.{go_back}
use Rattle.interface_restoring.specs.Promises.{RestoringGoesBack}

pub goes_back : RestoringGoesBack
goes_back = record {
  again = λ home bytes old new id h.
      ap (λ z. interface_bytes home (canonical home z)) h.gives.stands ∙ go_back.again home bytes h.top h.is;
  back = λ home bytes top old new id h r. r.gives.stands ∙ go_back.back home bytes top r.top h r.is;
  taken = λ home bytes top old new h r. r.1 (canonical home top) h;
}
