-- The laws, as the public functions of this crate state them.
use Rattle.static_semantics.specs.Promises.{Among, TouchesScopeAlone}
use Rattle.static_semantics.proofs.PatternsGrow.{pat_grows}
use Rattle.static_semantics.proofs.DatatypesGrow.{datatypes_grow, exceptions_grow}
use Rattle.static_semantics.proofs.CoreGrow.{exp_grows, dec_grows}

pub touches_scope_alone : TouchesScopeAlone
touches_scope_alone = record {
  exp = λ p. exp_grows (Among p);
  dec = λ p. dec_grows (Among p);
  pat = λ p. pat_grows (Among p);
  datatypes = λ p. datatypes_grow (Among p);
  exceptions = λ p sc binds st h. exceptions_grow (Among p) st.types sc binds h.scope;
}
