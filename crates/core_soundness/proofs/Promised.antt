-- What is accepted follows by the rules.
use Rattle.std.proofs.Common.{◌≡◌, ℕ, List, sym, ◌∙◌, subst}
use Rattle.sml_trees.specs.declared.name.At.{At}
use Rattle.semantic_objects.specs.Environments.{Env, empty_env}
use Rattle.unification.specs.Types.{Ty, State}
use Rattle.unification.specs.Fitting.{IsFit}
use Rattle.bare_phrases.specs.Phrases.{DatPhrase, ExPhrase, ExpPhrase, DecPhrase}
use Rattle.static_semantics.specs.BasicTypes.{reserved_constructors}
use Rattle.static_semantics.specs.Inferring.{Progress, Scope, Answer, gives}
use Rattle.static_semantics.specs.DatatypeInference.{datatypes_of, exceptions_of}
use Rattle.static_semantics.specs.CoreInference.{infer_exp, infer_dec}
use Rattle.static_semantics.specs.EnvironmentsPut.{put_env, put_scope}
use Rattle.static_semantics.specs.Elaborates.{ElaboratesDec}
use Rattle.static_semantics.specs.Holding.{Given}
use Rattle.static_semantics.proofs.TypesGrow.{MadeIn}
use Rattle.static_semantics.proofs.CoreGrow.{ExpIn, exp_grows, dec_grows}
use Rattle.inference_laws.specs.Alike.{FirmEnv}
use Rattle.inference_laws.specs.Promises.{Any}
use Rattle.closing_laws.specs.Promises.{IsOfState}
use Rattle.phrase_laws.specs.Derived.{ExpDerived, DecDerived}
use Rattle.phrase_laws.proofs.Declarations.{ExceptionsDerived, exceptions_derive}
use Rattle.datatype_laws.specs.Derived.{DatatypesDerived}
use Rattle.datatype_laws.proofs.Datatypes.{datatypes_have_derivations}
use Rattle.elaboration_laws.specs.Declaring.{BindsValues, ExpHas, DecHas}
use Rattle.elaboration_laws.proofs.Promised.{expressions_have_derivations}
use Rattle.core_soundness.specs.Following.{HasFirmTypes, HasTypeByRules, DeclaresByRules}
use Rattle.core_soundness.specs.Promises.{AcceptedFollows}

-- what holds of what is given holds of this
of_given : {A : Type 0} (R : A → Type 0) (m : Answer A) (x : A) → m ≡ gives x → Given R m → R x
of_given R m x e h = subst (Given R) e h

pub exp_follows : (depth : ℕ) (sc : Scope) (exp : ExpPhrase) (st : Progress) (r : Ty × Progress) → IsOfState sc st
    → infer_exp depth sc exp st ≡ gives r → ExpHas BindsValues exp → HasFirmTypes sc st → HasTypeByRules sc exp st r
exp_follows depth sc exp st r ready e has types =
    let d : ExpDerived sc exp st r = of_given (ExpDerived sc exp st) (infer_exp depth sc exp st) r e
    (expressions_have_derivations.exp depth sc exp st has types.firm types.below ready) in
    let later : ExpIn Any st r = of_given (ExpIn Any st) (infer_exp depth sc exp st) r e
    (exp_grows Any depth sc exp st ready) in
    record { shown = d.derives r.1.types later.0.fit.settled.solves; chosen = d.derives }

pub dec_follows : (depth : ℕ) (sc : Scope) (dec : DecPhrase) (st : Progress) (r : Env × Progress) → IsOfState sc st
    → infer_dec depth sc dec st ≡ gives r → DecHas BindsValues dec → HasFirmTypes sc st → DeclaresByRules sc dec st r
dec_follows depth sc dec st r ready e has types =
    let d : DecDerived sc dec st r = of_given (DecDerived sc dec st) (infer_dec depth sc dec st) r e
    (expressions_have_derivations.dec depth sc dec st has types.firm types.below ready) in
    let later : MadeIn Any st r = of_given (MadeIn Any st) (infer_dec depth sc dec st) r e
    (dec_grows Any depth sc dec st ready) in
    record { shown = d.derives r.1.types later.0.fit.settled.solves; chosen = d.derives }

-- rule 17, whatever is put in for variables of the table
by_rule_17 : (sc : Scope) (binds : List DatPhrase) (at : At) (st : Progress) (r : Env × Progress)
    → DatatypesDerived sc reserved_constructors binds st r → (p : State)
    → ElaboratesDec p.marks (put_scope p.stands sc) st.names (DecPhrase.Datatypes binds at) (put_env p.stands r.0)
    r.1.names
by_rule_17 sc binds at st r d p =
    subst (λ z. ElaboratesDec p.marks (put_scope p.stands sc) st.names (DecPhrase.Datatypes binds at) z r.1.names)
    (sym (d.stays p.stands ∙ d.made))
    (ElaboratesDec.rule_17 p.marks (put_scope p.stands sc) st.names r.1.names binds at d.choice d.dats d.distinct
    d.counted (d.derives p.stands) d.maximal d.names)

pub datatypes_follow : (sc : Scope) (binds : List DatPhrase) (at : At) (st : Progress) (r : Env × Progress)
    → IsFit st.types → datatypes_of sc reserved_constructors binds st ≡ gives r → HasFirmTypes sc st
    → DeclaresByRules sc (DecPhrase.Datatypes binds at) st r
datatypes_follow sc binds at st r fit e types =
    let d : DatatypesDerived sc reserved_constructors binds st r =
    of_given (DatatypesDerived sc reserved_constructors binds st) (datatypes_of sc reserved_constructors binds st) r e
    (datatypes_have_derivations.all sc reserved_constructors binds st types.firm types.below fit) in
    record { shown = by_rule_17 sc binds at st r d r.1.types; chosen = λ p q. by_rule_17 sc binds at st r d p }

pub exceptions_follow : (sc : Scope) (binds : List ExPhrase) (at : At) (st : Progress) (made : Env)
    → exceptions_of sc binds ≡ gives made → FirmEnv sc.env
    → DeclaresByRules sc (DecPhrase.Exceptions binds at) st (made, st)
exceptions_follow sc binds at st made e firm =
    let d : ExceptionsDerived sc binds empty_env made =
    of_given (ExceptionsDerived sc binds empty_env) (exceptions_of sc binds) made e
    (exceptions_derive sc binds empty_env firm) in
    let by : (p : State) → ElaboratesDec p.marks (put_scope p.stands sc) st.names (DecPhrase.Exceptions binds at)
    (put_env p.stands made) st.names =
    λ p. ElaboratesDec.rule_20 p.marks (put_scope p.stands sc) st.names binds at (put_env p.stands made) (d p.stands) in
    record { shown = by st.types; chosen = λ p q. by p }

pub accepted_follows : AcceptedFollows
accepted_follows = record {
  exp = exp_follows;
  dec = dec_follows;
  datatypes = datatypes_follow;
  exceptions = exceptions_follow;
}
