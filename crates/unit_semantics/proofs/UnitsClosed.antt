-- What a unit defines holds no type variable, where none stands in what is in scope at its beginning.
use Rattle.std.proofs.Common.{ℕ, List, [], ◌∷◌, ◌++◌, Bool}
use Rattle.std.specs.Prelude.{length}
use Rattle.sml_trees.specs.declared.name.Name.{Name}
use Rattle.semantic_objects.specs.declared.name.TyName.{TyName}
use Rattle.semantic_objects.specs.Tables.{Table, with_entry}
use Rattle.semantic_objects.specs.Environments.{Env, Signature, Functor, Top, empty_env, with_structure}
use Rattle.realisation.specs.Realised.{of_rows}
use Rattle.static_semantics.specs.Inferring.{Progress}
use Rattle.static_semantics.specs.TypeInference.{new_label}
use Rattle.static_semantics.specs.Holding.{Given, AllRows}
use Rattle.static_semantics.proofs.Holding.{given_then, rows_with, rows_with_all, has_nothing, has_modified}
use Rattle.module_semantics.specs.SigPhrases.{SigBinds}
use Rattle.module_semantics.specs.SignatureNames.{rows_between, bound_names, opened}
use Rattle.module_semantics.specs.SignatureInference.{signature_of}
use Rattle.unit_semantics.specs.UnitPhrases.{FunPhrase, FunsigPhrase, TopPhrase, read_unit}
use Rattle.unit_semantics.specs.StructureInference.{core_scope, infer_module}
use Rattle.unit_semantics.specs.UnitInference.{top_with, with_given, without_variables, names_since, top_with_param, infer_body, infer_result, infer_structures, infer_signatures, infer_functors, infer_funsigs, infer_top, infer_tops, infer_unit}
use Rattle.unit_semantics.specs.Promises.{IsClosedScheme, IsClosedFunction, IsClosedEnv, IsClosedSignature, IsClosedFunctor, IsClosedTop}
use Rattle.unit_semantics.proofs.Answers.{always}
use Rattle.unit_semantics.proofs.Closed.{realised_closed, puts_names}
use Rattle.unit_semantics.proofs.Defined.{ClosedIn, closed_after, of_nothing, StructuresIn, structures_defined}
use Rattle.unit_semantics.proofs.SignaturesClosed.{SigIn, OutIn, SigsIn, one_structure, signature_closed, opened_closed}

nothing : IsClosedEnv empty_env
nothing = has_nothing IsClosedScheme IsClosedFunction

-- what is in scope in a functor
param_scope : (param : Name) (env : Env) (top : Top) → IsClosedEnv env → IsClosedEnv top.env
    → IsClosedEnv (top_with_param param env top).env
param_scope param env top h k = has_modified IsClosedScheme IsClosedFunction top.env
    (with_structure param.text env empty_env) k (one_structure param.text env empty_env h nothing)

signatures_closed : (home : List ℕ) (top : Top) (binds : SigBinds) (made : Table Signature) (st : Progress)
    → IsClosedTop top → SigsIn made → Given (λ r. SigsIn r.0) (infer_signatures home top binds made st)
signatures_closed home top SigBinds.EndOfBinds made st h k = k
signatures_closed home top (SigBinds.Bind name sig rest) made st h k =
    always (λ r. SigsIn r.0) (new_label (core_scope home top) name made) _ (λ u.
    given_then OutIn (λ r. SigsIn r.0) (signature_of top.signatures (core_scope home top) sig st) _
    (signature_closed top.signatures (core_scope home top) sig st h.signatures h.env) (λ r l.
    signatures_closed home top rest (with_entry name.text r.0 made) r.1 h
    (rows_with SigIn name.text r.0 made l k)))

abbrev FunctorIn : Functor × Progress → Type 0
FunctorIn r = IsClosedFunctor r.0

abbrev FunctorsIn : Table Functor × Progress → Type 0
FunctorsIn r = AllRows IsClosedFunctor r.0

body_closed : (depth : ℕ) (home : List ℕ) (top : Top) (bind : FunPhrase) (param : Signature)
    (inside : Signature × Progress) → SigIn param → Given FunctorIn (infer_body depth home top bind param inside)
body_closed depth home top bind param inside h =
    always FunctorIn (infer_module depth home (top_with_param bind.param inside.0.env top) bind.body inside.1) _ (λ r.
    given_then ClosedIn FunctorIn (without_variables (core_scope home top) bind.name r) _
    (closed_after (core_scope home top) bind.name r) (λ e k.
    let names : List TyName = names_since home inside.1.names e.0 in
    let olds : List TyName = inside.0.bound ++ names in
    let news : List TyName = param.bound ++ bound_names (length param.bound) names in
    record { param = h; result = realised_closed (of_rows (rows_between olds news)) (puts_names olds news) e.0 k }))

result_closed : (home : List ℕ) (top : Top) (bind : FunsigPhrase) (param : Signature) (inside : Signature × Progress)
    → IsClosedTop top → SigIn param → OutIn inside → Given FunctorIn (infer_result home top bind param inside)
result_closed home top bind param inside h i j =
    let inner : Top = top_with_param bind.param inside.0.env top in
    given_then OutIn FunctorIn (signature_of top.signatures (core_scope home inner) bind.result_sig inside.1) _
    (signature_closed top.signatures (core_scope home inner) bind.result_sig inside.1 h.signatures
    (param_scope bind.param inside.0.env top j h.env)) (λ r k.
    let olds : List TyName = inside.0.bound ++ r.0.bound in
    let news : List TyName = param.bound ++ bound_names (length param.bound) r.0.bound in
    record { param = i; result = realised_closed (of_rows (rows_between olds news)) (puts_names olds news) r.0.env k })

functors_closed : (depth : ℕ) (home : List ℕ) (top : Top) (binds : List FunPhrase) (made : Table Functor)
    (st : Progress) → IsClosedTop top → AllRows IsClosedFunctor made
    → Given FunctorsIn (infer_functors depth home top binds made st)
functors_closed depth home top [] made st h k = k
functors_closed depth home top (bind ∷ binds) made st h k =
    always FunctorsIn (new_label (core_scope home top) bind.name made) _ (λ u.
    given_then OutIn FunctorsIn (signature_of top.signatures (core_scope home top) bind.param_sig st) _
    (signature_closed top.signatures (core_scope home top) bind.param_sig st h.signatures h.env) (λ p l.
    given_then FunctorIn FunctorsIn (infer_body depth home top bind p.0 (opened home p.0 p.1)) _
    (body_closed depth home top bind p.0 (opened home p.0 p.1) l) (λ r m.
    functors_closed depth home top binds (with_entry bind.name.text r.0 made) r.1 h
    (rows_with IsClosedFunctor bind.name.text r.0 made m k))))

funsigs_closed : (home : List ℕ) (top : Top) (binds : List FunsigPhrase) (made : Table Functor) (st : Progress)
    → IsClosedTop top → AllRows IsClosedFunctor made → Given FunctorsIn (infer_funsigs home top binds made st)
funsigs_closed home top [] made st h k = k
funsigs_closed home top (bind ∷ binds) made st h k =
    always FunctorsIn (new_label (core_scope home top) bind.name made) _ (λ u.
    given_then OutIn FunctorsIn (signature_of top.signatures (core_scope home top) bind.param_sig st) _
    (signature_closed top.signatures (core_scope home top) bind.param_sig st h.signatures h.env) (λ p l.
    given_then FunctorIn FunctorsIn (infer_result home top bind p.0 (opened home p.0 p.1)) _
    (result_closed home top bind p.0 (opened home p.0 p.1) h l (opened_closed home p.0 p.1 l)) (λ r m.
    funsigs_closed home top binds (with_entry bind.name.text r.0 made) r.1 h
    (rows_with IsClosedFunctor bind.name.text r.0 made m k))))

-- ---- the top level

abbrev TopIn : Top × Progress → Type 0
TopIn r = IsClosedTop r.0

top_closed : (depth : ℕ) (home : List ℕ) (top : Top) (dec : TopPhrase) (st : Progress) → IsClosedTop top
    → Given TopIn (infer_top depth home top dec st)
top_closed depth home top (TopPhrase.Structures binds at) st h =
    given_then StructuresIn TopIn (infer_structures depth home top binds empty_env st) _
    (structures_defined depth home top binds empty_env st of_nothing)
    (λ r k. record { env = k.closed; signatures = tt; functors = tt; funsigs = tt })
top_closed depth home top (TopPhrase.Signatures binds at) st h =
    given_then (λ r. SigsIn r.0) TopIn (infer_signatures home top binds [] st) _
    (signatures_closed home top binds [] st h tt)
    (λ r k. record { env = nothing; signatures = k; functors = tt; funsigs = tt })
top_closed depth home top (TopPhrase.Functors binds at) st h =
    given_then FunctorsIn TopIn (infer_functors depth home top binds [] st) _
    (functors_closed depth home top binds [] st h tt)
    (λ r k. record { env = nothing; signatures = tt; functors = k; funsigs = tt })
top_closed depth home top (TopPhrase.Funsigs binds at) st h =
    given_then FunctorsIn TopIn (infer_funsigs home top binds [] st) _ (funsigs_closed home top binds [] st h tt)
    (λ r k. record { env = nothing; signatures = tt; functors = tt; funsigs = k })

both_closed : (first second : Top) → IsClosedTop first → IsClosedTop second → IsClosedTop (top_with first second)
both_closed first second h k = record {
  env = has_modified IsClosedScheme IsClosedFunction first.env second.env h.env k.env;
  signatures = rows_with_all IsClosedSignature second.signatures first.signatures k.signatures h.signatures;
  functors = rows_with_all IsClosedFunctor second.functors first.functors k.functors h.functors;
  funsigs = rows_with_all IsClosedFunctor second.funsigs first.funsigs k.funsigs h.funsigs;
}

tops_closed : (depth : ℕ) (home : List ℕ) (top : Top) (decs : List TopPhrase) (st : Progress) → IsClosedTop top
    → Given TopIn (infer_tops depth home top decs st)
tops_closed depth home top [] st h = record { env = nothing; signatures = tt; functors = tt; funsigs = tt }
tops_closed depth home top (dec ∷ decs) st h =
    given_then TopIn TopIn (infer_top depth home top dec st) _ (top_closed depth home top dec st h) (λ r k.
    given_then TopIn TopIn (infer_tops depth home (top_with top r.0) decs r.1) _
    (tops_closed depth home (top_with top r.0) decs r.1 (both_closed top r.0 h k))
    (λ q l. both_closed r.0 q.0 k l))

pub units_closed : (depth : ℕ) (home : List ℕ) (basis : Env) (given : Top) (sealing : Bool) (tops : List TopPhrase)
    (st : Progress) → IsClosedEnv basis → IsClosedTop given
    → Given TopIn (infer_unit depth home basis given sealing tops st)
units_closed depth home basis given sealing tops st h k =
    tops_closed depth home (with_given basis given) (read_unit sealing tops) st (record {
      env = has_modified IsClosedScheme IsClosedFunction basis given.env h k.env;
      signatures = k.signatures;
      functors = k.functors;
      funsigs = k.funsigs;
    })
