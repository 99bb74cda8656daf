use Rattle.sml_modules.specs.Items.{as_signature, as_functor, IsSignature, IsFunctor}
use Rattle.row_environments.proofs.Placing.{none_placed}
use Rattle.row_binders.specs.Binders.{IsSignatureOf, IsFunctorOf}
use Rattle.row_binders.proofs.rows.BinderRows.new.Goals as goal

pub returns-clause-bound : goal.returns-clause-bound
returns-clause-bound c = λ home items. record {
  told = c.new.ensures.placed home items;
  signatures = none_placed IsSignature as_signature (IsSignatureOf home) items c.new-2.result c.new-2.ensures;
  functors = none_placed IsFunctor as_functor (IsFunctorOf home) items c.new-3.result c.new-3.ensures;
}
