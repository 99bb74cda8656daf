use Rattle.clause_laws.proofs.HeadForms.{heads_have_forms}
use Rattle.clause_laws.proofs.laws.heads_have_their_forms.Goals as goal

pub returns : goal.returns
returns c = heads_have_forms
