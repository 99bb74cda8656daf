-- The laws, as the public functions of this crate state them.
use Rattle.std.specs.Prelude.{◌≡◌, ℕ, List, Bool, true, false, not, ltb, ◌||◌, ◌≤◌}
use Rattle.semantic_objects.specs.declared.name.TyName.{TyName}
use Rattle.semantic_objects.specs.Environments.{Env}
use Rattle.semantic_objects.specs.Trees.{IsScheme}
use Rattle.unification.specs.Types.{Ty, Substitution, State}
use Rattle.unification.specs.Unification.{IsSettled}
use Rattle.unification.specs.Fitting.{IsFit}
use Rattle.bare_phrases.specs.Phrases.{TyPhrase, PatPhrase, ExpPhrase, Rules, DecPhrase, DatPhrase, ExPhrase}
use Rattle.static_semantics.specs.Inferring.{Progress, Scope, outermost, Bound, is_kept}
use Rattle.static_semantics.specs.TypeInference.{infer_ty}
use Rattle.static_semantics.specs.PatternInference.{infer_pat}
use Rattle.static_semantics.specs.DatatypeInference.{datatypes_of, exceptions_of}
use Rattle.static_semantics.specs.CoreInference.{infer_exp, infer_match, infer_dec}
use Rattle.static_semantics.specs.EnvironmentsPut.{put_env}
use Rattle.static_semantics.specs.Holding.{Given, AllItems, AllRows, EnvHas}
use Rattle.static_semantics.specs.Growing.{TyIn, EnvIn, Grows, IsReady}
use Rattle.inference_laws.specs.Nodes.{Nodes, TyOf, EnvOf, ScopeOf, IsOf, ExpOf, DecOf, PatOf, Makes, below_number}
use Rattle.inference_laws.specs.Spelling.{TySpelt, PatSpelt, ExpSpelt, RulesSpelt, DecSpelt, DatSpelt, ExSpelt}
use Rattle.inference_laws.specs.Alike.{RowsAlike, Both, SeenAlike, IsFirm, FirmEnv, SameTy, in_env, ExpsAlike, PatsAlike, DecsAlike}
use Rattle.inference_laws.specs.Naming.{NamedEnv}
use Rattle.inference_laws.specs.WellFormed.{well_formed, AreKnown, KnowsMore}

-- the unit's names in the scope and the state have numbers below the next one
abbrev pub AreBelowNext : (List ℕ → Bool) → Scope → Progress → Type 0
AreBelowNext good sc st = IsOf good sc st (below_number sc.home st.names)

-- whatever nodes one looks at, as long as those of the language, of the scope and of the state are among them: with the
-- names that it makes, which are numbered one after another from the state's next number on, so are those of what
-- inference gives and of the state afterwards. Patterns, types and exceptions make no names
pub record MakesOfGiven : Type 0 where
  pub ty : (good : List ℕ → Bool) (q : Nodes) (sc : Scope) (ty : TyPhrase) → TySpelt good ty → ScopeOf good sc q
      → Given (TyOf q) (infer_ty sc ty)
  pub pat : (good : List ℕ → Bool) (q : Nodes) (depth : ℕ) (sc : Scope) (pat : PatPhrase) (bound : Bound)
      (st : Progress) → PatSpelt good pat → IsOf good sc st q → AllRows (TyOf q) bound
      → Given (PatOf q st) (infer_pat depth sc pat bound st)
  pub exp : (good : List ℕ → Bool) (depth : ℕ) (sc : Scope) (exp : ExpPhrase) (st : Progress) → ExpSpelt good exp
      → AreBelowNext good sc st
      → Given (λ r. Makes sc.home (IsOf good sc st) st r.1 (ExpOf r)) (infer_exp depth sc exp st)
  pub rules : (good : List ℕ → Bool) (depth : ℕ) (sc : Scope) (rules : Rules) (st : Progress) → RulesSpelt good rules
      → AreBelowNext good sc st
      → Given (λ r. Makes sc.home (IsOf good sc st) st r.1 (ExpOf r)) (infer_match depth sc rules st)
  pub dec : (good : List ℕ → Bool) (depth : ℕ) (sc : Scope) (dec : DecPhrase) (st : Progress) → DecSpelt good dec
      → AreBelowNext good sc st
      → Given (λ r. Makes sc.home (IsOf good sc st) st r.1 (DecOf r)) (infer_dec depth sc dec st)
  pub datatypes : (good : List ℕ → Bool) (sc : Scope) (refused : List (List ℕ)) (binds : List DatPhrase)
      (st : Progress) → AllItems (DatSpelt good) binds → AreBelowNext good sc st
      → Given (λ r. Makes sc.home (IsOf good sc st) st r.1 (DecOf r)) (datatypes_of sc refused binds st)
  pub exceptions : (good : List ℕ → Bool) (q : Nodes) (sc : Scope) (binds : List ExPhrase)
      → AllItems (ExSpelt good) binds → ScopeOf good sc q → Given (EnvOf q) (exceptions_of sc binds)

-- over known names, with one arity and equality for each number, where the scope and the state are well formed: numbers
-- of names only rise, what is given is well formed over these names and names with the numbers that were made, and
-- there is one arity and equality for each number still
abbrev pub IsWellFormed : (List ℕ → Bool) → (TyName → Bool) → Scope → Progress → Type 0
IsWellFormed good known sc st = AreKnown sc.home st.names known × IsOf good sc st (well_formed good known)

pub record GivesWellFormed (good : List ℕ → Bool) (home : List ℕ) (known : TyName → Bool) (st u : Progress)
    (Of : Nodes → Type 0) : Type 0 where
  pub rises : st.names ≤ u.names
  pub later : TyName → Bool
  pub more : KnowsMore home st.names u.names known later
  pub of : Of (well_formed good later)

pub record KeepsWellFormed : Type 0 where
  pub exp : (good : List ℕ → Bool) (known : TyName → Bool) (depth : ℕ) (sc : Scope) (exp : ExpPhrase) (st : Progress)
      → ExpSpelt good exp → IsWellFormed good known sc st
      → Given (λ r. GivesWellFormed good sc.home known st r.1 (ExpOf r)) (infer_exp depth sc exp st)
  pub rules : (good : List ℕ → Bool) (known : TyName → Bool) (depth : ℕ) (sc : Scope) (rules : Rules) (st : Progress)
      → RulesSpelt good rules → IsWellFormed good known sc st
      → Given (λ r. GivesWellFormed good sc.home known st r.1 (ExpOf r)) (infer_match depth sc rules st)
  pub dec : (good : List ℕ → Bool) (known : TyName → Bool) (depth : ℕ) (sc : Scope) (dec : DecPhrase) (st : Progress)
      → DecSpelt good dec → IsWellFormed good known sc st
      → Given (λ r. GivesWellFormed good sc.home known st r.1 (DecOf r)) (infer_dec depth sc dec st)
  pub datatypes : (good : List ℕ → Bool) (known : TyName → Bool) (sc : Scope) (refused : List (List ℕ))
      (binds : List DatPhrase) (st : Progress) → AllItems (DatSpelt good) binds → IsWellFormed good known sc st
      → Given (λ r. GivesWellFormed good sc.home known st r.1 (DecOf r)) (datatypes_of sc refused binds st)

-- inference hangs on the environment as it is seen through the state: in another one that is seen alike it gives
-- nothing, or the same diagnostic, or the same state with what is one through it. Types are even the same, and so is
-- what a `datatype` makes
abbrev pub Any : ℕ → Type 0
Any n = Unit {0}

pub record HangsOnWhatIsSeen : Type 0 where
  pub ty : (sc : Scope) (f : Env) (s : Substitution) (ty : TyPhrase) → SeenAlike s sc.env f
      → infer_ty sc ty ≡ infer_ty (in_env f sc) ty
  pub pat : (depth : ℕ) (sc : Scope) (f : Env) (pat : PatPhrase) (bound other : Bound) (st : Progress)
      → IsReady Any sc st → AllRows (TyIn Any st.types) bound → SeenAlike st.types.stands sc.env f
      → RowsAlike (SameTy st.types.stands) bound other
      → Both PatsAlike (infer_pat depth sc pat bound st) (infer_pat depth (in_env f sc) pat other st)
  pub exp : (depth : ℕ) (sc : Scope) (f : Env) (exp : ExpPhrase) (st : Progress) → IsReady Any sc st
      → SeenAlike st.types.stands sc.env f
      → Both ExpsAlike (infer_exp depth sc exp st) (infer_exp depth (in_env f sc) exp st)
  pub rules : (depth : ℕ) (sc : Scope) (f : Env) (rules : Rules) (st : Progress) → IsReady Any sc st
      → SeenAlike st.types.stands sc.env f
      → Both ExpsAlike (infer_match depth sc rules st) (infer_match depth (in_env f sc) rules st)
  pub dec : (depth : ℕ) (sc : Scope) (f : Env) (dec : DecPhrase) (st : Progress) → IsReady Any sc st
      → SeenAlike st.types.stands sc.env f
      → Both DecsAlike (infer_dec depth sc dec st) (infer_dec depth (in_env f sc) dec st)
  pub datatypes : (sc : Scope) (f : Env) (s : Substitution) (refused : List (List ℕ)) (binds : List DatPhrase)
      (st : Progress) → SeenAlike s sc.env f
      → datatypes_of sc refused binds st ≡ datatypes_of (in_env f sc) refused binds st
  pub exceptions : (s : Substitution) (sc : Scope) (f : Env) (binds : List ExPhrase) → SeenAlike s sc.env f
      → Both (SeenAlike s) (exceptions_of sc binds) (exceptions_of (in_env f sc) binds)

-- environments that are seen alike are one with everything put in; the other way round this holds of environments in
-- whose types no variable of the table stands, and what inference makes in such ones is such a one. So each such one is
-- seen as what it is with everything put in
pub record SeesWhatIsPut : Type 0 where
  pub one : (s : Substitution) (e f : Env) → SeenAlike s e f → put_env s e ≡ put_env s f
  pub alike : (s : Substitution) (e f : Env) → FirmEnv e → FirmEnv f → put_env s e ≡ put_env s f → SeenAlike s e f
  pub itself : (s : State) (env : Env) → IsSettled s → FirmEnv env → SeenAlike s.stands env (put_env s.stands env)
  pub dec : (depth : ℕ) (sc : Scope) (dec : DecPhrase) (st : Progress) → FirmEnv sc.env
      → Given (λ r. FirmEnv r.0) (infer_dec depth sc dec st)
  pub datatypes : (sc : Scope) (refused : List (List ℕ)) (binds : List DatPhrase) (st : Progress) → FirmEnv sc.env
      → Given (λ r. FirmEnv r.0) (datatypes_of sc refused binds st)
  pub exceptions : (sc : Scope) (binds : List ExPhrase) → FirmEnv sc.env → Given FirmEnv (exceptions_of sc binds)

-- where the names of the environment and those that a declaration has are such as one asks for, so are those of what it
-- makes: of values, types, constructors and structures
pub record KeepsNames : Type 0 where
  pub dec : (good : List ℕ → Bool) (depth : ℕ) (sc : Scope) (dec : DecPhrase) (st : Progress) → DecSpelt good dec
      → NamedEnv good sc.env → Given (λ r. NamedEnv good r.0) (infer_dec depth sc dec st)
  pub datatypes : (good : List ℕ → Bool) (sc : Scope) (refused : List (List ℕ)) (binds : List DatPhrase)
      (st : Progress) → AllItems (DatSpelt good) binds
      → Given (λ r. NamedEnv good r.0) (datatypes_of sc refused binds st)
  pub exceptions : (good : List ℕ → Bool) (sc : Scope) (binds : List ExPhrase) → AllItems (ExSpelt good) binds
      → Given (NamedEnv good) (exceptions_of sc binds)

-- a variable that is new since a state, or free in the environment or in what is written around, as known there
abbrev pub is_open : Scope → State → ℕ → Bool
is_open sc s v = not (ltb v s.next) || is_kept sc s.stands v

abbrev pub IsOpen : Scope → State → ℕ → Type 0
IsOpen sc s v = is_open sc s v ≡ true

-- .. and every other one that stood for itself does so still, and isn't marked since
pub record OthersStay (sc : Scope) (st u : Progress) : Type 0 where
  pub stands : (v : ℕ) → is_open sc st.types v ≡ false → st.types.stands v ≡ Ty.Var v → u.types.stands v ≡ Ty.Var v
  pub marks : (v : ℕ) → is_open sc st.types v ≡ false → u.types.marks v ≡ true → st.types.marks v ≡ true

-- inference puts in types for variables alone that are new or free around, these hold such alone, and so does what it
-- gives
pub record BindsNewOrFree : Type 0 where
  pub ty : (sc : Scope) (ty : TyPhrase) (st : Progress) → IsReady Any sc st
      → Given (TyIn (IsOpen sc st.types) st.types) (infer_ty sc ty)
  pub exp : (depth : ℕ) (sc : Scope) (exp : ExpPhrase) (st : Progress) → IsReady Any sc st
      → Given (λ r. Grows (IsOpen sc st.types) st r.1 × TyIn (IsOpen sc st.types) r.1.types r.0 × OthersStay sc st r.1)
      (infer_exp depth sc exp st)
  pub rules : (depth : ℕ) (sc : Scope) (rules : Rules) (st : Progress) → IsReady Any sc st
      → Given (λ r. Grows (IsOpen sc st.types) st r.1 × TyIn (IsOpen sc st.types) r.1.types r.0 × OthersStay sc st r.1)
      (infer_match depth sc rules st)
  pub dec : (depth : ℕ) (sc : Scope) (dec : DecPhrase) (st : Progress) → IsReady Any sc st
      → Given (λ r. Grows (IsOpen sc st.types) st r.1 × EnvIn (IsOpen sc st.types) r.1.types r.0 × OthersStay sc st r.1)
      (infer_dec depth sc dec st)

-- an environment without variables of the table is ready for inference in any state that is fit
abbrev pub ClosedEnv : Env → Type 0
ClosedEnv env = EnvHas (λ σ. IsScheme σ × IsFirm σ.body) (λ function. IsFirm function.body) env

pub record BeginsReady : Type 0 where
  pub ready : (home : List ℕ) (env : Env) (st : Progress) → ClosedEnv env → IsFit st.types
      → IsReady Any (outermost home env) st
