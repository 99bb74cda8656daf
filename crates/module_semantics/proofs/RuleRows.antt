-- Small signatures with a derivation by the rules, each with the text that it stands for.
use Rattle.std.proofs.Common.{◌≡◌, ℕ, List, [], ◌∷◌, refl, sym, ap, subst, Some, None, Bool, true, false, ◌||◌, cond}
use Rattle.std.specs.Prelude.{codes}
use Rattle.semantic_objects.specs.declared.name.Owner.TheVariants as owner
use Rattle.semantic_objects.specs.declared.name.TyName.{TyName}
use Rattle.semantic_objects.specs.declared.symbol.Symbol.TheVariants as symbol
use Rattle.semantic_objects.specs.declared.entry.TypeStr.{TypeStr}
use Rattle.semantic_objects.specs.declared.entry.VidStatus.TheVariants as status
use Rattle.semantic_objects.specs.Environments.{Env, Signature, empty_env, with_type, with_value, with_structure}
use Rattle.unification.specs.Types.{Ty, Types}
use Rattle.unification.specs.Fitting.{no_variable}
use Rattle.realisation.specs.Names.{is_listed}
use Rattle.realisation.specs.Realised.{Realisation}
use Rattle.realisation.proofs.Listing.{name_is}
use Rattle.static_semantics.proofs.Maximal.{datatypes_maximise}
use Rattle.bare_phrases.specs.Phrases.{TyPhrases, DatPhrase}
use Rattle.static_semantics.specs.Inferring.{Scope, under, with_written_alone}
use Rattle.static_semantics.specs.DatatypeInference.{Dat, own_type}
use Rattle.static_semantics.specs.Elaborates.{ElaboratesTy, ElaboratesTys, ElaboratesCons, ElaboratesDats}
use Rattle.module_semantics.specs.SigPhrases.{SigPhrase, SpecPhrase, SpecPhrases, SigBinds}
use Rattle.module_semantics.specs.SignatureNames.{empty_signature}
use Rattle.module_semantics.specs.ElaboratesSignatures.{ElaboratesVals, ElaboratesTypeDescs, ElaboratesExSpecs, ElaboratesSig, ElaboratesSpec, ElaboratesStrSpecs, ElaboratesSpecs, ElaboratesSignature, Respects, Matches}
use Rattle.module_semantics.proofs.Rows.{at, name, long, con_ty, val_spec, desc, type_spec, eqtype_spec, con_bind, datatype_spec, sig_end, where_type, name_of, named, int_tree, exn_tree, arrow_tree, type_of, con, value, top, sig_of, bound_name, t_and_v, sigs, with_v}

-- a type name of the unit without arguments, and its type
abbrev own : ℕ → TyName
own number = name_of (owner.«Unit» (codes "u")) number 0 false

abbrev t_alone : ℕ → Env
t_alone number = with_type (codes "t") (own_type (own number)) empty_env

abbrev over_own : ℕ → Env
over_own number = with_value (codes "v") (value status.Variable [] (named (own number))) empty_env

-- a name without arguments
named_ty : (sc : Scope) (text : List ℕ) (n : ℕ) (found : TypeStr)
    → Rattle.static_semantics.specs.Inferring.found_at Rattle.semantic_objects.specs.Environments.types (text ∷ [])
    sc.env
    ≡ Some found → 0 ≡ found.function.arity
    → ElaboratesTy sc (con_ty text n) (Rattle.static_semantics.specs.TypeInference.applied_to found.function [])
named_ty sc text n found e a = ElaboratesTy.rule_46 sc TyPhrases.EndOfArgs (long (text ∷ []) n) (at n) found []
    (ElaboratesTys.no_tys sc) e a

-- ---- val, type: sig type t val v : t end

abbrev under_t : Scope
under_t = under (t_alone 3) top

val_row : ElaboratesSpec sigs under_t 4 (val_spec (codes "v") 16 (con_ty (codes "t") 20)) (sig_of [] (over_own 3)) 4
val_row = ElaboratesSpec.rule_68 sigs under_t 4 _ (at 16) (over_own 3)
    (ElaboratesVals.rule_79 under_t _ [] empty_env (over_own 3) [] (Ty.Made (symbol.Name (own 3)) Types.Nil)
    (record { texts = refl; differ = refl }) refl
    (named_ty (with_written_alone [] under_t) (codes "t") 20 (own_type (own 3)) refl refl)
    (ElaboratesVals.no_vals under_t (over_own 3)))

type_row : ElaboratesSpec sigs top 3 (type_spec [] (codes "t") 10) (sig_of (own 3 ∷ []) (t_alone 3)) 4
type_row = ElaboratesSpec.rule_69 sigs top 3 4 _ (at 10) (sig_of (own 3 ∷ []) (t_alone 3))
    (ElaboratesTypeDescs.rule_80 top false 3 4 (desc [] (codes "t") 10) [] empty_signature
    (sig_of (own 3 ∷ []) (t_alone 3)) [] (own 3) (record { texts = refl; distinct = refl; differ = refl }) refl refl
    (ElaboratesTypeDescs.no_type_descs top false 4 (sig_of (own 3 ∷ []) (t_alone 3))))

abbrev open_t_and_v : Signature
open_t_and_v = sig_of (own 3 ∷ []) (with_type (codes "t") (own_type (own 3)) (over_own 3))

t_and_v_row : ElaboratesSignature sigs top 3
    (sig_end (type_spec [] (codes "t") 10 ∷ val_spec (codes "v") 16 (con_ty (codes "t") 20) ∷ [])) t_and_v 4
t_and_v_row = ElaboratesSignature.rule_65 sigs top 3 4 _ open_t_and_v
    (ElaboratesSig.rule_62 sigs top 3 4 _ (at 1) open_t_and_v
    (ElaboratesSpec.rules_76_77 sigs top 3 4 _ (at 5) open_t_and_v
    (ElaboratesSpecs.rule_77 sigs top 3 4 4 _ _ (sig_of (own 3 ∷ []) (t_alone 3)) (sig_of [] (over_own 3)) type_row
    (ElaboratesSpecs.rule_77 sigs under_t 4 4 4 _ SpecPhrases.EndOfSpecs (sig_of [] (over_own 3)) empty_signature
    val_row (ElaboratesSpecs.rule_76 sigs (under (over_own 3) under_t) 4) refl) refl)))

-- ---- a name, `where type`, `include` and `structure`

-- S, with a new name
named_row : ElaboratesSig sigs top 3 (SigPhrase.Named (name (codes "S") 1) (at 1)) open_t_and_v 4
named_row = ElaboratesSig.rule_63 sigs top 3 (name (codes "S") 1) (at 1) t_and_v refl

-- S where type t = int
where_row : ElaboratesSig sigs top 3
    (where_type (SigPhrase.Named (name (codes "S") 1) (at 1)) (codes "t" ∷ []) 14 (con_ty (codes "int") 18))
    (sig_of [] (with_v int_tree int_tree)) 4
where_row = ElaboratesSig.rule_64 sigs top 3 4 _ [] (long (codes "t" ∷ []) 14) _ (at 1) open_t_and_v []
    (own_type (own 3)) (own 3) (Ty.Made (symbol.Name (name_of owner.Basis 0 0 true)) Types.Nil) named_row
    (record { texts = refl; distinct = refl; differ = refl }) refl refl refl
    (named_ty (with_written_alone [] top) (codes "int") 18 (type_of 0 int_tree []) refl refl) refl (λ e. refl)

-- sig include S end
include_row : ElaboratesSpec sigs top 3 (SpecPhrase.Include (SigPhrase.Named (name (codes "S") 1) (at 1)) (at 5))
    open_t_and_v 4
include_row = ElaboratesSpec.rule_75 sigs top 3 4 _ (at 5) open_t_and_v named_row

-- structure X : S
structure_row : ElaboratesSpec sigs top 3 (SpecPhrase.Structures (SigBinds.Bind (name (codes "X") 15)
    (SigPhrase.Named (name (codes "S") 1) (at 1)) SigBinds.EndOfBinds) (at 5))
    (sig_of (own 3 ∷ []) (with_structure (codes "X") open_t_and_v.env empty_env)) 4
structure_row = ElaboratesSpec.rule_74 sigs top 3 4 _ (at 5) _
    (ElaboratesStrSpecs.rule_84 sigs top 3 4 4 (name (codes "X") 15) _ SigBinds.EndOfBinds empty_signature _
    open_t_and_v refl named_row (ElaboratesStrSpecs.no_str_specs sigs top 4 _))

-- ---- eqtype, copied datatypes, exceptions, datatypes

abbrev own_eq : TyName
own_eq = name_of (owner.«Unit» (codes "u")) 3 0 true

-- eqtype t
eqtype_row : ElaboratesSpec sigs top 3 (eqtype_spec (codes "t") 10)
    (sig_of (own_eq ∷ []) (with_type (codes "t") (own_type own_eq) empty_env)) 4
eqtype_row = ElaboratesSpec.rule_70 sigs top 3 4 _ (at 10) _
    (ElaboratesTypeDescs.rule_80 top true 3 4 (desc [] (codes "t") 10) [] empty_signature _ [] own_eq
    (record { texts = refl; distinct = refl; differ = refl }) refl refl
    (ElaboratesTypeDescs.no_type_descs top true 4 _))

-- datatype t = datatype int
copied_row : ElaboratesSpec sigs top 3 (SpecPhrase.Replication (name (codes "t") 14) (long (codes "int" ∷ []) 27) (at
    5))
    (sig_of [] (with_type (codes "t") (type_of 0 int_tree []) empty_env)) 3
copied_row = ElaboratesSpec.rule_72 sigs top 3 (name (codes "t") 14) (long (codes "int" ∷ []) 27) (at 5)
    (type_of 0 int_tree []) refl

-- exception E and F of int
exception_row : ElaboratesSpec sigs top 3 (SpecPhrase.Exceptions (con_bind (codes "E") 15 None
    ∷ con_bind (codes "F") 21 (Some (con_ty (codes "int") 26)) ∷ []) (at 5))
    (sig_of [] (with_value (codes "E") (value status.Exception [] exn_tree)
    (with_value (codes "F") (value status.Exception [] (arrow_tree int_tree exn_tree)) empty_env))) 3
exception_row = ElaboratesSpec.rule_73 sigs top 3 _ (at 5) _
    (ElaboratesExSpecs.rule_83_constant top (con_bind (codes "E") 15 None) _ empty_env _ refl refl
    (ElaboratesExSpecs.rule_83_of top _ [] _ _ (con_ty (codes "int") 26)
    (Ty.Made (symbol.Name (name_of owner.Basis 0 0 true)) Types.Nil) refl refl
    (named_ty (with_written_alone [] top) (codes "int") 26 (type_of 0 int_tree []) refl refl)
    (ElaboratesExSpecs.no_ex_specs top _)))

abbrev bind_t : DatPhrase
bind_t = record { tyvars = []; name = name (codes "t") 14; cons = con_bind (codes "A") 18 None ∷ [] }

abbrev dat_t : Dat
dat_t = record { name = codes "t"; variables = []; cons = (codes "A", None) ∷ [] }

-- datatype t = A, which admits equality
datatype_row : ElaboratesSpec sigs top 3 (datatype_spec (codes "t") 14 (con_bind (codes "A") 18 None ∷ []))
    (sig_of (own_eq ∷ []) (with_type (codes "t") (type_of 0 (named own_eq) (con (codes "A") (named own_eq) ∷ []))
    (with_value (codes "A") (value status.Constructor [] (named own_eq)) empty_env))) 4
datatype_row = ElaboratesSpec.rule_71 sigs top 3 (bind_t ∷ []) (at 14) (true ∷ []) (dat_t ∷ []) refl refl
    (ElaboratesDats.rule_28 _ [] bind_t [] [] dat_t [] refl
    (record { texts = refl; distinct = refl; differ = refl })
    (ElaboratesCons.rule_29_constant _ [] (con_bind (codes "A") 18 None) [] [] [] refl refl refl
    (ElaboratesCons.no_cons _ [] _)) (ElaboratesDats.no_dats _ [] _))
    (datatypes_maximise.all (codes "u") 3 (dat_t ∷ []))

-- ---- matching: struct type t = int val v = 1 end and S

abbrev pub int_for : Realisation
int_for name = cond (is_listed name t_and_v.bound) (Some (type_of 0 int_tree []).function) None

or_nothing : (b : Bool) → (b || false) ≡ true → b ≡ true
or_nothing true h = refl
or_nothing false h = h

respects_bound : (name : TyName) → is_listed name t_and_v.bound ≡ true
    → Respects no_variable name (type_of 0 int_tree []).function
respects_bound name l = subst (λ z. Respects no_variable z (type_of 0 int_tree []).function)
    (sym (name_is name (bound_name 0 false)
    (or_nothing (Rattle.semantic_objects.specs.Symbols.same_name name (bound_name 0 false)) l)))
    (record { arity = refl; closed = λ i h. absurd (cc); equality = λ e. absurd (cc) })

pub matches_row : Matches no_variable (with_v int_tree int_tree) t_and_v int_for
matches_row = record {
  realises = record {
    bound = λ name l. (
      (type_of 0 int_tree []).function,
      ap (λ c. cond c (Some (type_of 0 int_tree []).function) None) l,
      respects_bound name l,
    );
    others = λ name l. ap (λ c. cond c (Some (type_of 0 int_tree []).function) None) l;
  };
  enriches = (
    (type_of 0 int_tree [], refl, record { function = refl; cons = tt }),
    ((value status.Variable [] int_tree, refl, record { scheme = λ q e t i. i; status = tt }), tt),
  );
}
