-- The law, as the public function of this crate states it.
use Rattle.std.proofs.Common.{ℕ, List}
use Rattle.semantic_objects.specs.Environments.{Env, Top}
use Rattle.static_semantics.specs.Inferring.{Progress}
use Rattle.static_semantics.proofs.Holding.{has_modified}
use Rattle.static_semantics.proofs.TypesGrow.{given_more}
use Rattle.unit_semantics.specs.UnitPhrases.{read_unit}
use Rattle.unit_semantics.specs.UnitInference.{with_given, infer_unit}
use Rattle.unit_semantics.specs.ElaboratesUnits.{ElaboratesUnit}
use Rattle.unit_semantics.specs.Promises.{IsClosedScheme, IsClosedFunction}
use Rattle.unit_laws.specs.Spelling.{TopSpelt}
use Rattle.unit_laws.proofs.Promised.{ready_below}
use Rattle.table_laws.proofs.Tables.{rising_modified}
use Rattle.unit_derivations.specs.Derived.{IsAtTop, TopsDerived}
use Rattle.unit_derivations.specs.Promises.{every, IsGiven, UnitsHaveDerivations}
use Rattle.unit_derivations.proofs.Spelt.{every_item, top_spelt}
use Rattle.unit_derivations.proofs.Units.{tops_derive}

at_beginning : (home : List ℕ) (basis : Env) (given : Top) (st : Progress) → IsGiven home basis given st
    → IsAtTop every home (with_given basis given) st
at_beginning home basis given st h = record {
  ready = ready_below every home (with_given basis given) st h.below;
  rises = record {
    env = rising_modified basis given.env h.basis_rises h.given_rises.env;
    signatures = h.given_rises.signatures;
    functors = h.given_rises.functors;
    funsigs = h.given_rises.funsigs;
  };
  closed = record {
    env = has_modified IsClosedScheme IsClosedFunction basis given.env h.basis_closed h.given_closed.env;
    signatures = h.given_closed.signatures;
    functors = h.given_closed.functors;
    funsigs = h.given_closed.funsigs;
  };
  fit = h.fit;
}

pub units_have_derivations : UnitsHaveDerivations
units_have_derivations = record {
  all = λ depth home basis given sealing tops st b h.
      given_more (TopsDerived home (with_given basis given) (read_unit sealing tops) st)
      (λ r. ElaboratesUnit r.1.types home basis given st.names (read_unit sealing tops) r.0 r.1.names)
      (infer_unit depth home basis given sealing tops st)
      (λ r k. k.derives r.1.types k.after.fit.settled.solves k.after.fit.marks)
      (tops_derive every depth home (with_given basis given) (read_unit sealing tops) st
      (every_item (TopSpelt every) top_spelt (read_unit sealing tops)) b (at_beginning home basis given st h));
}
