-- What it means that declarations of the top level have derivations. Everything is put in there, so what is in scope and
-- what is made are the same under each choice that solves the state afterwards.
use Rattle.std.specs.Prelude.{ℕ, List, Bool}
use Rattle.semantic_objects.specs.Tables.{Table}
use Rattle.semantic_objects.specs.Environments.{Env, Signature, Functor, Top}
use Rattle.unification.specs.Types.{State}
use Rattle.unification.specs.Fitting.{IsFit}
use Rattle.unification.specs.Unification.{Solves}
use Rattle.unification.specs.Generality.{MarksOwn}
use Rattle.static_semantics.specs.Inferring.{Progress}
use Rattle.static_semantics.specs.Holding.{AllRows}
use Rattle.inference_laws.specs.Nodes.{IsReadyFor}
use Rattle.module_semantics.specs.SigPhrases.{SigBinds}
use Rattle.unit_semantics.specs.UnitPhrases.{ModuleBinds, FunPhrase, FunsigPhrase, TopPhrase}
use Rattle.unit_semantics.specs.ElaboratesUnits.{ElaboratesModuleBinds, ElaboratesSigBinds, ElaboratesFunBinds, ElaboratesFunsigBinds, ElaboratesTop, ElaboratesTops}
use Rattle.unit_semantics.specs.Promises.{IsClosedSignature, IsClosedFunctor, IsClosedTop}
use Rattle.unit_laws.specs.Parts.{IsOfTop}
use Rattle.table_laws.specs.Rising.{RisingTop}
use Rattle.specification_laws.specs.Derived.{IsAfter}

-- what is in scope at the top: earlier names of the unit, tables that rise, and no variable in anything
pub record IsAtTop (good : List ℕ → Bool) (home : List ℕ) (top : Top) (st : Progress) : Type 0 where
  pub ready : IsReadyFor home (IsOfTop good top st) st.names
  pub rises : RisingTop top
  pub closed : IsClosedTop top
  pub fit : IsFit st.types

-- of each choice that solves a state and marks variables alone that it has
abbrev pub UnderChoices : Progress → (State → Type 0) → Type 0
UnderChoices u R = (p : State) → Solves p u.types → MarksOwn p → R p

-- bindings after those before them in the same declaration
pub record StructuresDerived (home : List ℕ) (top : Top) (binds : ModuleBinds) (made : Env) (st : Progress)
    (r : Env × Progress) : Type 0 where
  pub after : IsAfter st r.1
  pub derives : UnderChoices r.1 (λ p. ElaboratesModuleBinds p home top st.names binds made r.0 r.1.names)

pub record SignaturesDerived (home : List ℕ) (top : Top) (binds : SigBinds) (made : Table Signature) (st : Progress)
    (r : Table Signature × Progress) : Type 0 where
  pub after : IsAfter st r.1
  pub closed : AllRows IsClosedSignature r.0
  pub derives : ElaboratesSigBinds home top st.names binds made r.0 r.1.names

pub record FunctorsDerived (home : List ℕ) (top : Top) (binds : List FunPhrase) (made : Table Functor) (st : Progress)
    (r : Table Functor × Progress) : Type 0 where
  pub after : IsAfter st r.1
  pub closed : AllRows IsClosedFunctor r.0
  pub derives : UnderChoices r.1 (λ p. ElaboratesFunBinds p home top st.names binds made r.0 r.1.names)

pub record FunsigsDerived (home : List ℕ) (top : Top) (binds : List FunsigPhrase) (made : Table Functor)
    (st : Progress) (r : Table Functor × Progress) : Type 0 where
  pub after : IsAfter st r.1
  pub closed : AllRows IsClosedFunctor r.0
  pub derives : ElaboratesFunsigBinds home top st.names binds made r.0 r.1.names

pub record TopDerived (home : List ℕ) (top : Top) (dec : TopPhrase) (st : Progress) (r : Top × Progress) : Type 0 where
  pub after : IsAfter st r.1
  pub closed : IsClosedTop r.0
  pub derives : UnderChoices r.1 (λ p. ElaboratesTop p home top st.names dec r.0 r.1.names)

pub record TopsDerived (home : List ℕ) (top : Top) (decs : List TopPhrase) (st : Progress) (r : Top × Progress) :
    Type 0 where
  pub after : IsAfter st r.1
  pub derives : UnderChoices r.1 (λ p. ElaboratesTops p home top st.names decs r.0 r.1.names)
