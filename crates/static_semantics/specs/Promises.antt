-- The laws of inference, as the public functions of this crate state them.
use Rattle.std.specs.Prelude.{◌≡◌, ℕ, List, Bool, true}
use Rattle.sml_trees.specs.declared.name.At.{At}
use Rattle.sml_trees.specs.declared.name.Name.{Name}
use Rattle.bare_phrases.specs.Phrases.{PatPhrase, ExpPhrase, Rules, DecPhrase, DatPhrase, ExPhrase}
use Rattle.static_semantics.specs.Inferring.{Progress, Scope, Bound}
use Rattle.static_semantics.specs.PatternInference.{infer_pat}
use Rattle.static_semantics.specs.DatatypeInference.{Dat, equality_choice, datatypes_of, exceptions_of}
use Rattle.static_semantics.specs.RuleConditions.{MaximisesEquality}
use Rattle.static_semantics.specs.CoreInference.{infer_exp, infer_dec}
use Rattle.static_semantics.specs.ByAge.{val_by_age}
use Rattle.static_semantics.specs.Holding.{Given, AllRows}
use Rattle.static_semantics.specs.Growing.{TyIn, EnvIn, Grows, IsReady}

-- whatever variables one looks at, as long as all new ones and those of the scope, as it is known, are among them: from
-- the state before to the one after types were put in for such variables alone, and such alone stand in what is given.
-- Numbers of type names only rise
abbrev pub Among : (ℕ → Bool) → ℕ → Type 0
Among p n = p n ≡ true

pub record TouchesScopeAlone : Type 0 where
  pub exp : (p : ℕ → Bool) (depth : ℕ) (sc : Scope) (exp : ExpPhrase) (st : Progress) → IsReady (Among p) sc st
      → Given (λ r. Grows (Among p) st r.1 × TyIn (Among p) r.1.types r.0) (infer_exp depth sc exp st)
  pub dec : (p : ℕ → Bool) (depth : ℕ) (sc : Scope) (dec : DecPhrase) (st : Progress) → IsReady (Among p) sc st
      → Given (λ r. Grows (Among p) st r.1 × EnvIn (Among p) r.1.types r.0) (infer_dec depth sc dec st)
  pub pat : (p : ℕ → Bool) (depth : ℕ) (sc : Scope) (pat : PatPhrase) (bound : Bound) (st : Progress)
      → IsReady (Among p) sc st → AllRows (TyIn (Among p) st.types) bound
      → Given (λ r. Grows (Among p) st r.2 × TyIn (Among p) r.2.types r.0 × AllRows (TyIn (Among p) r.2.types) r.1)
      (infer_pat depth sc pat bound st)
  pub datatypes : (p : ℕ → Bool) (sc : Scope) (refused : List (List ℕ)) (binds : List DatPhrase) (st : Progress)
      → IsReady (Among p) sc st
      → Given (λ r. Grows (Among p) st r.1 × EnvIn (Among p) r.1.types r.0) (datatypes_of sc refused binds st)
  pub exceptions : (p : ℕ → Bool) (sc : Scope) (binds : List ExPhrase) (st : Progress) → IsReady (Among p) sc st
      → Given (EnvIn (Among p) st.types) (exceptions_of sc binds)

-- a `val` closed by age is one closed by what is free in the environment and in what is written around it
abbrev pub ClosesByAge : Type 0
ClosesByAge = (depth : ℕ) (sc : Scope) (tyvars : List Name) (rules recs : Rules) (at : At) (st : Progress)
    → IsReady (λ n. Unit {0}) sc st
    → infer_dec depth sc (DecPhrase.Val tyvars rules recs at) st ≡ val_by_age depth sc tyvars rules recs at st

-- the datatypes of a declaration admit equality as far as possible together
pub record DatatypesMaximiseEquality : Type 0 where
  pub all : (home : List ℕ) (first : ℕ) (dats : List Dat)
      → MaximisesEquality home first dats (equality_choice home first dats)
