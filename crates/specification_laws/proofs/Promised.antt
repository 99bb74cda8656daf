-- The law, as the public function of this crate states it.
use Rattle.static_semantics.specs.EnvironmentsPut.{put_scope}
use Rattle.static_semantics.proofs.Holding.{given_then, has_nothing}
use Rattle.inference_laws.specs.Nodes.{below_number}
use Rattle.realisation.specs.Realised.{of_rows}
use Rattle.module_semantics.specs.SignatureNames.{rows_between, bound_names}
use Rattle.module_semantics.specs.SignatureInference.{infer_sig}
use Rattle.module_semantics.specs.ElaboratesSignatures.{ElaboratesSignature}
use Rattle.unit_semantics.specs.Promises.{IsClosedScheme, IsClosedFunction}
use Rattle.unit_semantics.proofs.Closed.{realised_closed, puts_names}
use Rattle.unit_laws.proofs.SignaturesMade.{nothing_of}
use Rattle.table_laws.proofs.Tables.{rising_nothing}
use Rattle.specification_laws.specs.Derived.{SigDerived}
use Rattle.specification_laws.specs.Promises.{SignatureDerived, SignaturesHaveDerivations}
use Rattle.specification_laws.proofs.Signatures.{sig_derives}

pub signatures_have_derivations : SignaturesHaveDerivations
signatures_have_derivations = record {
  all = λ good sigs sc sig st p h.
      given_then (SigDerived sigs sc sig st) (SignatureDerived sigs sc sig st) (infer_sig sigs sc sig st) _
      (sig_derives good sigs sc sig st p (record {
        ready = λ m l. (h.ready m l, nothing_of (below_number sc.home m));
        sigs_named = record { rise = h.sigs_rise; closed = h.sigs_closed };
        firm = h.firm;
        rises = h.rises;
        made_rises = rising_nothing;
        made_closed = has_nothing IsClosedScheme IsClosedFunction;
        fit = h.fit;
      })) (λ r k. record {
        after = k.after;
        closed = realised_closed (of_rows (rows_between r.0.bound (bound_names 0 r.0.bound)))
            (puts_names r.0.bound (bound_names 0 r.0.bound)) r.0.env k.closed;
        derives = λ s. ElaboratesSignature.rule_65 sigs (put_scope s sc) st.names r.1.names sig r.0 (k.derives s);
      });
}
