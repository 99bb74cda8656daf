-- Declarations of the top level have derivations, each in the scope after those before it.
use Rattle.std.proofs.Common.{ℕ, List, [], ◌∷◌, Bool}
use Rattle.semantic_objects.specs.Environments.{Top, empty_env}
use Rattle.static_semantics.specs.Inferring.{Progress}
use Rattle.static_semantics.specs.Holding.{Given, AllItems}
use Rattle.static_semantics.proofs.Holding.{given_then, rows_with_all, has_nothing, has_modified}
use Rattle.inference_laws.proofs.Making.{given_both, ready_after}
use Rattle.unit_semantics.specs.UnitPhrases.{TopPhrase}
use Rattle.unit_semantics.specs.UnitInference.{top_with, infer_structures, infer_signatures, infer_functors, infer_funsigs, infer_top, infer_tops}
use Rattle.unit_semantics.specs.ElaboratesUnits.{ElaboratesTop, ElaboratesTops}
use Rattle.unit_semantics.specs.Promises.{IsClosedScheme, IsClosedFunction, IsClosedEnv, IsClosedSignature, IsClosedFunctor, IsClosedTop}
use Rattle.unit_semantics.proofs.Defined.{StructuresIn, of_nothing, structures_defined}
use Rattle.unit_laws.specs.Spelling.{TopSpelt}
use Rattle.unit_laws.proofs.UnitsMade.{TopMade, top_made, after_dec}
use Rattle.table_laws.specs.Rising.{RisingTop}
use Rattle.table_laws.proofs.Units.{top_rises, both_rise}
use Rattle.elaboration_laws.specs.Declaring.{BindsValues}
use Rattle.specification_laws.proofs.Own.{after_none, after_both}
use Rattle.unit_derivations.specs.Declaring.{TopHas}
use Rattle.unit_derivations.specs.Derived.{IsAtTop, StructuresDerived, SignaturesDerived, FunctorsDerived, FunsigsDerived, TopDerived, TopsDerived}
use Rattle.unit_derivations.proofs.Bindings.{structures_derive, signatures_derive, functors_derive, funsigs_derive}

nothing : IsClosedEnv empty_env
nothing = has_nothing IsClosedScheme IsClosedFunction

top_derives : (good : List ℕ → Bool) (depth : ℕ) (home : List ℕ) (top : Top) (dec : TopPhrase) (st : Progress)
    → TopSpelt good dec → TopHas BindsValues dec → IsAtTop good home top st
    → Given (TopDerived home top dec st) (infer_top depth home top dec st)
top_derives good depth home top (TopPhrase.Structures binds at) st p b h =
    given_then (λ r. StructuresIn r × StructuresDerived home top binds empty_env st r)
    (TopDerived home top (TopPhrase.Structures binds at) st) (infer_structures depth home top binds empty_env st) _
    (given_both StructuresIn (StructuresDerived home top binds empty_env st)
    (infer_structures depth home top binds empty_env st)
    (structures_defined depth home top binds empty_env st of_nothing)
    (structures_derive good depth home top binds empty_env st p b h)) (λ r k. record {
      after = k.1.after;
      closed = record { env = k.0.closed; signatures = tt; functors = tt; funsigs = tt };
      derives = λ s q owns. ElaboratesTop.rule_57_at_top s home top st.names r.1.names binds at r.0
          (k.1.derives s q owns);
    })
top_derives good depth home top (TopPhrase.Signatures binds at) st p b h =
    given_then (SignaturesDerived home top binds [] st) (TopDerived home top (TopPhrase.Signatures binds at) st)
    (infer_signatures home top binds [] st) _ (signatures_derive good home top binds [] st p h tt) (λ r k. record {
      after = k.after;
      closed = record { env = nothing; signatures = k.closed; functors = tt; funsigs = tt };
      derives = λ s q owns. ElaboratesTop.rule_66 s home top st.names r.1.names binds at r.0 k.derives;
    })
top_derives good depth home top (TopPhrase.Functors binds at) st p b h =
    given_then (FunctorsDerived home top binds [] st) (TopDerived home top (TopPhrase.Functors binds at) st)
    (infer_functors depth home top binds [] st) _ (functors_derive good depth home top binds [] st p b h tt) (λ r k.
    record {
      after = k.after;
      closed = record { env = nothing; signatures = tt; functors = k.closed; funsigs = tt };
      derives = λ s q owns. ElaboratesTop.rule_85 s home top st.names r.1.names binds at r.0 (k.derives s q owns);
    })
top_derives good depth home top (TopPhrase.Funsigs binds at) st p b h =
    given_then (FunsigsDerived home top binds [] st) (TopDerived home top (TopPhrase.Funsigs binds at) st)
    (infer_funsigs home top binds [] st) _ (funsigs_derive good home top binds [] st p h tt) (λ r k. record {
      after = k.after;
      closed = record { env = nothing; signatures = tt; functors = tt; funsigs = k.closed };
      derives = λ s q owns. ElaboratesTop.rule_funsigs s home top st.names r.1.names binds at r.0 k.derives;
    })

both_closed : (first second : Top) → IsClosedTop first → IsClosedTop second → IsClosedTop (top_with first second)
both_closed first second h k = record {
  env = has_modified IsClosedScheme IsClosedFunction first.env second.env h.env k.env;
  signatures = rows_with_all IsClosedSignature second.signatures first.signatures k.signatures h.signatures;
  functors = rows_with_all IsClosedFunctor second.functors first.functors k.functors h.functors;
  funsigs = rows_with_all IsClosedFunctor second.funsigs first.funsigs k.funsigs h.funsigs;
}

abbrev AllOfTop : (List ℕ → Bool) → List ℕ → Top → TopPhrase → Progress → Top × Progress → Type 0
AllOfTop good home top dec st r = TopMade good home top st r × (RisingTop r.0 × TopDerived home top dec st r)

top_all : (good : List ℕ → Bool) (depth : ℕ) (home : List ℕ) (top : Top) (dec : TopPhrase) (st : Progress)
    → TopSpelt good dec → TopHas BindsValues dec → IsAtTop good home top st
    → Given (AllOfTop good home top dec st) (infer_top depth home top dec st)
top_all good depth home top dec st p b h =
    given_both (TopMade good home top st) (λ r. RisingTop r.0 × TopDerived home top dec st r)
    (infer_top depth home top dec st) (top_made good depth home top dec st p h.ready)
    (given_both (λ r. RisingTop r.0) (TopDerived home top dec st) (infer_top depth home top dec st)
    (top_rises depth home top dec st h.rises) (top_derives good depth home top dec st p b h))

at_after : (good : List ℕ → Bool) (home : List ℕ) (top : Top) (dec : TopPhrase) (st : Progress) (r : Top × Progress)
    → IsAtTop good home top st → AllOfTop good home top dec st r → IsAtTop good home (top_with top r.0) r.1
at_after good home top dec st r h k = record {
  ready = ready_after h.ready k.0 (λ q i j. after_dec good q top st r i j);
  rises = both_rise top r.0 h.rises k.1.0;
  closed = both_closed top r.0 h.closed k.1.1.closed;
  fit = k.1.1.after.fit;
}

pub tops_derive : (good : List ℕ → Bool) (depth : ℕ) (home : List ℕ) (top : Top) (decs : List TopPhrase)
    (st : Progress) → AllItems (TopSpelt good) decs → AllItems (TopHas BindsValues) decs → IsAtTop good home top st
    → Given (TopsDerived home top decs st) (infer_tops depth home top decs st)
tops_derive good depth home top [] st p b h = record {
  after = after_none st h.fit;
  derives = λ s q owns. ElaboratesTops.no_tops s home top st.names;
}
tops_derive good depth home top (dec ∷ decs) st p b h =
    given_then (AllOfTop good home top dec st) (TopsDerived home top (dec ∷ decs) st)
    (infer_top depth home top dec st) _ (top_all good depth home top dec st p.0 b.0 h) (λ r k.
    given_then (TopsDerived home (top_with top r.0) decs r.1) (TopsDerived home top (dec ∷ decs) st)
    (infer_tops depth home (top_with top r.0) decs r.1) _
    (tops_derive good depth home (top_with top r.0) decs r.1 p.1 b.1 (at_after good home top dec st r h k)) (λ v l.
    record {
      after = after_both st r.1 v.1 k.1.1.after l.after;
      derives = λ s q owns. ElaboratesTops.rules_87_88_89 s home top st.names r.1.names v.1.names dec decs r.0 v.0
          (k.1.1.derives s (l.after.solved s q) owns) (l.derives s q owns);
    }))
