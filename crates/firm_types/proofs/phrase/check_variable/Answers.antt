use Rattle.std.proofs.Common.{◌∙◌, sym}
use Rattle.core_scopes.specs.Scopes.{written_of}
use Rattle.type_phrases.proofs.Steps.{have_found}
use Rattle.firm_types.proofs.Firm.{on_ok, firm_one, firm_none}
use Rattle.firm_types.proofs.phrase.check_variable.Goals as goal

pub check_id-requires : goal.check_id-requires
check_id-requires g c =
    have_found c.args.t.now (written_of c.args.scope.now) c.args.name.now.text c.in-Some.id c.requires
    (sym c.find_written.ensures ∙ c.in-Some.is)

pub returns-in-Some-clause-firm : goal.returns-in-Some-clause-firm
returns-in-Some-clause-firm g c =
    on_ok c.check_id.result (λ h. firm_one c.args.t.now c.args.scope.now c.args.name.now.text c.in-Some.id
    c.find_written.result c.find_written.ensures c.in-Some.is h) c.check_id.ensures.firm

pub returns-in-None-clause-firm : goal.returns-in-None-clause-firm
returns-in-None-clause-firm g c =
    firm_none c.args.t.now c.args.scope.now c.args.name.now.text c.find_written.result c.find_written.ensures
    c.in-None.is
