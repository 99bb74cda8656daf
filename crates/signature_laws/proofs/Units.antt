-- Each name that the signatures of a unit bind stands in them, and so it is of the parameters of functors and funsigs.
use Rattle.std.proofs.Common.{ℕ, List, [], ◌∷◌}
use Rattle.semantic_objects.specs.declared.name.TyName.{TyName}
use Rattle.semantic_objects.specs.Tables.{Table, with_entry}
use Rattle.semantic_objects.specs.Environments.{Env, Signature, Functor, Top, empty_env}
use Rattle.static_semantics.specs.Inferring.{Progress}
use Rattle.static_semantics.specs.TypeInference.{new_label}
use Rattle.static_semantics.specs.Holding.{Given, AllRows}
use Rattle.static_semantics.proofs.Holding.{given_then, rows_with, rows_with_all}
use Rattle.inference_laws.proofs.Making.{given_both}
use Rattle.module_semantics.specs.SigPhrases.{SigPhrase, SigBinds}
use Rattle.module_semantics.specs.SignatureNames.{opened}
use Rattle.module_semantics.specs.SignatureInference.{signature_of}
use Rattle.unit_semantics.specs.UnitPhrases.{FunPhrase, FunsigPhrase, TopPhrase, read_unit}
use Rattle.unit_semantics.specs.StructureInference.{core_scope, infer_module}
use Rattle.unit_semantics.specs.UnitInference.{top_with, with_given, without_variables, names_since, functor_of, top_with_param, infer_body, infer_result, infer_structures, infer_signatures, infer_functors, infer_funsigs, infer_top, infer_tops}
use Rattle.table_laws.specs.Rising.{RisingTop}
use Rattle.table_laws.proofs.Tables.{rising_modified}
use Rattle.table_laws.proofs.Declarations.{always}
use Rattle.table_laws.proofs.Units.{top_rises, both_rise}
use Rattle.signature_laws.specs.Standing.{SignatureStands, ParameterStands, TopStands}
use Rattle.signature_laws.specs.Promises.{UnitsStand}
use Rattle.signature_laws.proofs.Signatures.{signature_stands}

abbrev Rows_ : {A : Type 0} → (A → Type 0) → Table A × Progress → Type 0
Rows_ R r = AllRows R r.0

signature_in : (home : List ℕ) (top : Top) (sig : SigPhrase) (st : Progress)
    → RisingTop top → TopStands top
    → Given (λ r. SignatureStands r.0) (signature_of top.signatures (core_scope home top) sig st)
signature_in home top sig st r h =
    signature_stands top.signatures (core_scope home top) sig st (h.signatures, r.signatures.1) r.env

signatures_of_unit : (home : List ℕ) (top : Top) (binds : SigBinds) (made : Table Signature) (st : Progress)
    → RisingTop top → TopStands top → AllRows SignatureStands made
    → Given (Rows_ SignatureStands) (infer_signatures home top binds made st)
signatures_of_unit home top SigBinds.EndOfBinds made st r h k = k
signatures_of_unit home top (SigBinds.Bind name sig rest) made st r h k =
    always (Rows_ SignatureStands) (new_label (core_scope home top) name made) _ (λ u.
    given_then (λ q. SignatureStands q.0) (Rows_ SignatureStands)
    (signature_of top.signatures (core_scope home top) sig st) _ (signature_in home top sig st r h) (λ q l.
    signatures_of_unit home top rest (with_entry name.text q.0 made) q.1 r h
    (rows_with SignatureStands name.text q.0 made l k)))

-- a functor has the parameter's signature, whatever its result is
parameter_of : (param inside : Signature) (names : List TyName) (result : Env) → SignatureStands param
    → ParameterStands (functor_of param inside names result)
parameter_of param inside names result h = record { bound = h.bound; stand = h.stand }

functors_of_unit : (depth : ℕ) (home : List ℕ) (top : Top) (binds : List FunPhrase) (made : Table Functor)
    (st : Progress) → RisingTop top → TopStands top → AllRows ParameterStands made
    → Given (Rows_ ParameterStands) (infer_functors depth home top binds made st)
functors_of_unit depth home top [] made st r h k = k
functors_of_unit depth home top (bind ∷ binds) made st r h k =
    let Q : Table Functor × Progress → Type 0 = Rows_ ParameterStands in
    always Q (new_label (core_scope home top) bind.name made) _ (λ u.
    given_then (λ q. SignatureStands q.0) Q (signature_of top.signatures (core_scope home top) bind.param_sig st) _
    (signature_in home top bind.param_sig st r h) (λ s l.
    let inside : Signature × Progress = opened home s.0 s.1 in
    given_then (λ q. ParameterStands q.0) Q (infer_body depth home top bind s.0 inside) _
    (always (λ q. ParameterStands q.0)
    (infer_module depth home (top_with_param bind.param inside.0.env top) bind.body inside.1) _ (λ m.
    always (λ q. ParameterStands q.0) (without_variables (core_scope home top) bind.name m) _ (λ e.
    parameter_of s.0 inside.0 (names_since home inside.1.names e.0) e.0 l))) (λ q m.
    functors_of_unit depth home top binds (with_entry bind.name.text q.0 made) q.1 r h
    (rows_with ParameterStands bind.name.text q.0 made m k))))

funsigs_of_unit : (home : List ℕ) (top : Top) (binds : List FunsigPhrase) (made : Table Functor) (st : Progress)
    → RisingTop top → TopStands top → AllRows ParameterStands made
    → Given (Rows_ ParameterStands) (infer_funsigs home top binds made st)
funsigs_of_unit home top [] made st r h k = k
funsigs_of_unit home top (bind ∷ binds) made st r h k =
    let Q : Table Functor × Progress → Type 0 = Rows_ ParameterStands in
    always Q (new_label (core_scope home top) bind.name made) _ (λ u.
    given_then (λ q. SignatureStands q.0) Q (signature_of top.signatures (core_scope home top) bind.param_sig st) _
    (signature_in home top bind.param_sig st r h) (λ s l.
    let inside : Signature × Progress = opened home s.0 s.1 in
    given_then (λ q. ParameterStands q.0) Q (infer_result home top bind s.0 inside) _
    (always (λ q. ParameterStands q.0)
    (signature_of top.signatures (core_scope home (top_with_param bind.param inside.0.env top)) bind.result_sig
    inside.1) _ (λ m. parameter_of s.0 inside.0 m.0.bound m.0.env l)) (λ q m.
    funsigs_of_unit home top binds (with_entry bind.name.text q.0 made) q.1 r h
    (rows_with ParameterStands bind.name.text q.0 made m k))))

abbrev TopIn : Top × Progress → Type 0
TopIn r = TopStands r.0

top_of_unit : (depth : ℕ) (home : List ℕ) (top : Top) (dec : TopPhrase) (st : Progress) → RisingTop top
    → TopStands top → Given TopIn (infer_top depth home top dec st)
top_of_unit depth home top (TopPhrase.Structures binds at) st r h =
    always TopIn (infer_structures depth home top binds empty_env st) _
    (λ q. record { signatures = tt; functors = tt; funsigs = tt })
top_of_unit depth home top (TopPhrase.Signatures binds at) st r h =
    given_then (Rows_ SignatureStands) TopIn (infer_signatures home top binds [] st) _
    (signatures_of_unit home top binds [] st r h tt)
    (λ q k. record { signatures = k; functors = tt; funsigs = tt })
top_of_unit depth home top (TopPhrase.Functors binds at) st r h =
    given_then (Rows_ ParameterStands) TopIn (infer_functors depth home top binds [] st) _
    (functors_of_unit depth home top binds [] st r h tt)
    (λ q k. record { signatures = tt; functors = k; funsigs = tt })
top_of_unit depth home top (TopPhrase.Funsigs binds at) st r h =
    given_then (Rows_ ParameterStands) TopIn (infer_funsigs home top binds [] st) _
    (funsigs_of_unit home top binds [] st r h tt)
    (λ q k. record { signatures = tt; functors = tt; funsigs = k })

both_stand : (first second : Top) → TopStands first → TopStands second → TopStands (top_with first second)
both_stand first second h k = record {
  signatures = rows_with_all SignatureStands second.signatures first.signatures k.signatures h.signatures;
  functors = rows_with_all ParameterStands second.functors first.functors k.functors h.functors;
  funsigs = rows_with_all ParameterStands second.funsigs first.funsigs k.funsigs h.funsigs;
}

tops_of_unit : (depth : ℕ) (home : List ℕ) (top : Top) (decs : List TopPhrase) (st : Progress) → RisingTop top
    → TopStands top → Given TopIn (infer_tops depth home top decs st)
tops_of_unit depth home top [] st r h = record { signatures = tt; functors = tt; funsigs = tt }
tops_of_unit depth home top (dec ∷ decs) st r h =
    given_then (λ q. TopStands q.0 × RisingTop q.0) TopIn (infer_top depth home top dec st) _
    (given_both TopIn (λ q. RisingTop q.0) (infer_top depth home top dec st)
    (top_of_unit depth home top dec st r h) (top_rises depth home top dec st r)) (λ q k.
    given_then TopIn TopIn (infer_tops depth home (top_with top q.0) decs q.1) _
    (tops_of_unit depth home (top_with top q.0) decs q.1 (both_rise top q.0 r k.1) (both_stand top q.0 h k.0))
    (λ p l. both_stand q.0 p.0 k.0 l))

pub units_stand : UnitsStand
units_stand = record {
  all = λ depth home basis given sealing tops st r k h.
      tops_of_unit depth home (with_given basis given) (read_unit sealing tops) st
      (record {
        env = rising_modified basis given.env r k.env;
        signatures = k.signatures;
        functors = k.functors;
        funsigs = k.funsigs;
      })
      (record { signatures = h.signatures; functors = h.functors; funsigs = h.funsigs });
}
