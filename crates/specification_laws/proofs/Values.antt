-- Specifications of values and exceptions have derivations.
use Rattle.std.proofs.Common.{◌≡◌, ℕ, List, [], ◌∷◌, refl, ◌∙◌, Option, Some, None, false}
use Rattle.semantic_objects.specs.declared.entry.ValueEntry.{ValueEntry}
use Rattle.semantic_objects.specs.Environments.{Env, Signature, empty_env, modified_by, with_value}
use Rattle.unification.specs.Types.{Ty, Substitution}
use Rattle.unification.specs.Closing.{closed_over}
use Rattle.unification.specs.Fitting.{IsFit}
use Rattle.env_parts.specs.Types.{holds_free}
use Rattle.bare_phrases.specs.Phrases.{TyPhrase, ConPhrase}
use Rattle.static_semantics.specs.Inferring.{Progress, Scope, with_written_alone, name_at}
use Rattle.static_semantics.specs.TypeInference.{infer_ty, as_written}
use Rattle.static_semantics.specs.DatatypeInference.{infer_optional_ty, exception_entry}
use Rattle.static_semantics.specs.EnvironmentsPut.{put_scope}
use Rattle.static_semantics.specs.Holding.{Given}
use Rattle.static_semantics.proofs.Holding.{given_then, has_nothing, has_with_value}
use Rattle.static_semantics.proofs.TypesGrow.{given_more}
use Rattle.inference_laws.specs.Alike.{FirmEnv}
use Rattle.module_semantics.specs.SigPhrases.{ValPhrase}
use Rattle.module_semantics.specs.SignatureInference.{specified, variables_of, val_entry, infer_vals, exception_ty, infer_exception_specs}
use Rattle.module_semantics.specs.ElaboratesSignatures.{ElaboratesVals, ElaboratesExSpecs}
use Rattle.unit_semantics.specs.Promises.{IsClosedScheme, IsClosedFunction, IsClosedEnv}
use Rattle.unit_semantics.proofs.Closed.{neither}
use Rattle.table_laws.specs.Rising.{RisingEnv}
use Rattle.table_laws.proofs.Units.{one_value}
use Rattle.signature_laws.proofs.Signatures.{IsSpecified, specified_is}
use Rattle.specification_laws.specs.Derived.{IsAfter, Follows}
use Rattle.specification_laws.proofs.Own.{after_none, after_both, OwnTy, own_ty, VariablesOf, variables_are}
use Rattle.specification_laws.proofs.Parts.{sig_of, Behind, env_behind, no_value}

one_closed : (name : List ℕ) (value : ValueEntry) → holds_free value.scheme.body ≡ false
    → IsClosedEnv (with_value name value empty_env)
one_closed name value h = has_with_value IsClosedScheme IsClosedFunction name value empty_env h
    (has_nothing IsClosedScheme IsClosedFunction)

-- ---- values

-- values behind others of the same specification
pub record ValsDerived (sc : Scope) (descs : List ValPhrase) (first : Signature) (before : Env) (st : Progress)
    (r : Signature × Progress) : Type 0 where
  pub own : Env
  pub follows : Follows first (sig_of [] own) r.0
  pub after : IsAfter st r.1
  pub made : r.1.names ≡ st.names
  pub derives : (s : Substitution) → ElaboratesVals (put_scope s sc) descs before own

pub vals_derive : (sc : Scope) (descs : List ValPhrase) (first made : Signature) (before : Env) (st : Progress)
    → FirmEnv sc.env → RisingEnv first.env → IsFit st.types → Follows first (sig_of [] before) made
    → Given (ValsDerived sc descs first before st) (infer_vals sc descs made st)
vals_derive sc [] first made before st firm r fit h = record {
  own = before;
  follows = h;
  after = after_none st fit;
  made = refl;
  derives = λ s. ElaboratesVals.no_vals (put_scope s sc) before;
}
vals_derive sc (desc ∷ descs) first made before st firm r fit h =
    let Q : Signature × Progress → Type 0 = ValsDerived sc (desc ∷ descs) first before st in
    let own : List (List ℕ × ℕ) × Progress = variables_of desc.ty st in
    let v : VariablesOf desc.ty st own = variables_are desc.ty st fit in
    given_then (OwnTy sc own.0 desc.ty) Q (infer_ty (with_written_alone (as_written own.0) sc) desc.ty) _
    (own_ty sc own.0 desc.ty firm) (λ ty t.
    let value : ValueEntry = val_entry own.0 ty in
    let part : Env = with_value desc.name.text value empty_env in
    given_then (IsSpecified part made) Q (specified sc (name_at desc.name) part made) _
    (specified_is sc (name_at desc.name) part made) (λ sig s.
    let b : Behind first (sig_of [] before) sig [] part = env_behind first made sig before part r h s
    (one_value desc.name.text value) (one_closed desc.name.text value t.closed) in
    given_more (ValsDerived sc descs first (with_value desc.name.text value before) own.1) Q
    (infer_vals sc descs sig own.1) (λ q k. record {
      own = k.own;
      follows = k.follows;
      after = after_both st own.1 q.1 v.after k.after;
      made = k.made ∙ v.made;
      derives = λ z. ElaboratesVals.rule_79 (put_scope z sc) desc descs before k.own own.0 ty v.of
          (no_value desc.name.text part before value refl b.apart) (t.derives z) (k.derives z);
    }) (vals_derive sc descs first sig (with_value desc.name.text value before) own.1 firm r v.after.fit b.follows)))

-- ---- exceptions

pub record ExSpecsDerived (sc : Scope) (cons : List ConPhrase) (first : Signature) (before : Env) (r : Signature) :
    Type 0 where
  pub own : Env
  pub follows : Follows first (sig_of [] own) r
  pub derives : (s : Substitution) → ElaboratesExSpecs (put_scope s sc) cons before own

-- the type of an exception's argument, where it has one
abbrev pub ArgDerived : Scope → Option TyPhrase → Option Ty → Type 0
ArgDerived sc None None = Unit {0}
ArgDerived sc None (Some t) = ⊥
ArgDerived sc (Some ty) None = ⊥
ArgDerived sc (Some ty) (Some t) = OwnTy sc [] ty t

arg_derives : (sc : Scope) (arg : Option TyPhrase) → FirmEnv sc.env
    → Given (ArgDerived sc arg) (infer_optional_ty (with_written_alone [] sc) arg)
arg_derives sc None firm = tt
arg_derives sc (Some ty) firm = given_then (OwnTy sc [] ty) (ArgDerived sc (Some ty))
    (infer_ty (with_written_alone [] sc) ty) _ (own_ty sc [] ty firm) (λ t h. h)

arg_closed : (sc : Scope) (arg : Option TyPhrase) (t : Option Ty) → ArgDerived sc arg t
    → holds_free (exception_entry (exception_ty t)).scheme.body ≡ false
arg_closed sc None None h = refl
arg_closed sc None (Some t) h = absurd h
arg_closed sc (Some ty) None h = absurd h
arg_closed sc (Some ty) (Some t) h = neither (holds_free (closed_over [] t)) false h.closed refl

exception_derives : (sc : Scope) (con : ConPhrase) (cons : List ConPhrase) (before own : Env) (s : Substitution)
    (arg : Option TyPhrase) (t : Option Ty) → con.arg ≡ arg → ArgDerived sc arg t
    → Rattle.semantic_objects.specs.Tables.entry con.name.text (Rattle.semantic_objects.specs.Environments.values
    before) ≡ None
    → ElaboratesExSpecs (put_scope s sc) cons
    (with_value con.name.text (exception_entry (exception_ty t)) before) own
    → ElaboratesExSpecs (put_scope s sc) (con ∷ cons) before own
exception_derives sc con cons before own s None None e h n k =
    ElaboratesExSpecs.rule_83_constant (put_scope s sc) con cons before own e n k
exception_derives sc con cons before own s None (Some t) e h n k = absurd h
exception_derives sc con cons before own s (Some ty) None e h n k = absurd h
exception_derives sc con cons before own s (Some ty) (Some t) e h n k =
    ElaboratesExSpecs.rule_83_of (put_scope s sc) con cons before own ty t e n (h.derives s) k

pub exceptions_derive : (sc : Scope) (cons : List ConPhrase) (first made : Signature) (before : Env)
    → FirmEnv sc.env → RisingEnv first.env → Follows first (sig_of [] before) made
    → Given (ExSpecsDerived sc cons first before) (infer_exception_specs sc cons made)
exceptions_derive sc [] first made before firm r h =
    record { own = before; follows = h; derives = λ s. ElaboratesExSpecs.no_ex_specs (put_scope s sc) before }
exceptions_derive sc (con ∷ cons) first made before firm r h =
    let Q : Signature → Type 0 = ExSpecsDerived sc (con ∷ cons) first before in
    given_then (ArgDerived sc con.arg) Q (infer_optional_ty (with_written_alone [] sc) con.arg) _
    (arg_derives sc con.arg firm) (λ arg t.
    let value : ValueEntry = exception_entry (exception_ty arg) in
    let part : Env = with_value con.name.text value empty_env in
    given_then (IsSpecified part made) Q (specified sc (name_at con.name) part made) _
    (specified_is sc (name_at con.name) part made) (λ sig s.
    let b : Behind first (sig_of [] before) sig [] part = env_behind first made sig before part r h s
    (one_value con.name.text value) (one_closed con.name.text value (arg_closed sc con.arg arg t)) in
    given_more (ExSpecsDerived sc cons first (with_value con.name.text value before)) Q
    (infer_exception_specs sc cons sig) (λ q k. record {
      own = k.own;
      follows = k.follows;
      derives = λ z. exception_derives sc con cons before k.own z con.arg arg refl t
          (no_value con.name.text part before value refl b.apart) (k.derives z);
    }) (exceptions_derive sc cons first sig (with_value con.name.text value before) firm r b.follows)))
