use Rattle.visibility.proofs.Providing.{definers_found, exports_found, found_provides, others_found, provider_found}
use Rattle.visibility.proofs.laws.providers_are_found.Goals as goal

pub returns-clause-definers : goal.returns-clause-definers
returns-clause-definers c = definers_found

pub returns-clause-others : goal.returns-clause-others
returns-clause-others c = others_found

pub returns-clause-exports : goal.returns-clause-exports
returns-clause-exports c = exports_found

pub returns-clause-found : goal.returns-clause-found
returns-clause-found c = found_provides

pub returns-clause-provider : goal.returns-clause-provider
returns-clause-provider c = provider_found
