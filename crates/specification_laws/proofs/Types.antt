-- Specifications of types have derivations.
use Rattle.std.proofs.Common.{◌≡◌, ℕ, suc, ◌+◌, List, [], ◌∷◌, ◌++◌, length, refl, ap, ◌∙◌, subst, arith, Option, Some, None, Bool}
use Rattle.std.specs.Option.{option_map}
use Rattle.sml_trees.specs.declared.name.Name.{Name}
use Rattle.sml_trees.specs.declared.name.LongName.{LongName}
use Rattle.semantic_objects.specs.declared.name.TyName.{TyName}
use Rattle.semantic_objects.specs.declared.entry.TypeStr.{TypeStr}
use Rattle.semantic_objects.specs.Environments.{Env, Signature, types, empty_env, with_type}
use Rattle.unification.specs.Types.{Substitution}
use Rattle.unification.specs.Fitting.{IsFit}
use Rattle.static_semantics.specs.Inferring.{Progress, Scope, name_at, known, found_at}
use Rattle.static_semantics.specs.TypeInference.{listed}
use Rattle.static_semantics.specs.DatatypeInference.{own_name, own_type, after_names, with_datatype, infer_replication}
use Rattle.static_semantics.specs.EnvironmentsPut.{put_type, put_env, put_scope}
use Rattle.static_semantics.specs.Holding.{Given, IfSome}
use Rattle.static_semantics.proofs.Holding.{given_then, given_known, has_nothing, has_with_type}
use Rattle.static_semantics.proofs.TypesGrow.{given_more}
use Rattle.inference_laws.specs.Alike.{FirmType, FirmValue, AnyName, FirmEnv}
use Rattle.inference_laws.proofs.EnvsWith.{env_types, env_found}
use Rattle.inference_laws.proofs.Making.{given_both}
use Rattle.inference_laws.proofs.PutAlike.{firm_type}
use Rattle.module_semantics.specs.SigPhrases.{TypeDescPhrase}
use Rattle.module_semantics.specs.SignatureNames.{also_bound}
use Rattle.module_semantics.specs.SignatureInference.{specified, infer_type_descs}
use Rattle.module_semantics.specs.ElaboratesSignatures.{ElaboratesTypeDescs}
use Rattle.unit_semantics.specs.Promises.{IsClosedScheme, IsClosedFunction, IsClosedEnv}
use Rattle.unit_semantics.proofs.TypesClosed.{own_type_closed, datatype_closed}
use Rattle.phrase_laws.proofs.Finding.{type_found_put}
use Rattle.phrase_laws.proofs.TypeBindings.{ListedOf, listed_of}
use Rattle.table_laws.specs.Rising.{RisingEnv}
use Rattle.table_laws.proofs.Declarations.{replication_rises}
use Rattle.table_laws.proofs.Units.{one_type}
use Rattle.signature_laws.proofs.Signatures.{IsSpecified, specified_is}
use Rattle.specification_laws.specs.Derived.{IsAfter, Follows}
use Rattle.matching_choices.proofs.Closed.{firm_closed}
use Rattle.specification_laws.proofs.Own.{after_none, after_both, after_listed, of_list}
use Rattle.specification_laws.proofs.Parts.{sig_of, Behind, part_behind, no_type}

-- ---- `type` and `eqtype`

-- types behind others of the same specification
pub record TypeDescsDerived (sc : Scope) (eq : Bool) (descs : List TypeDescPhrase) (first before : Signature)
    (st : Progress) (r : Signature × Progress) : Type 0 where
  pub own : Signature
  pub follows : Follows first own r.0
  pub after : IsAfter st r.1
  pub derives : (s : Substitution)
      → ElaboratesTypeDescs (put_scope s sc) eq st.names descs before own r.1.names

one_more : (n m : ℕ) → m ≡ n → m + 1 ≡ suc n
one_more n m e = let k : m + 1 ≡ suc n = omega (arith, e) in k

pub type_descs_derive : (sc : Scope) (eq : Bool) (descs : List TypeDescPhrase) (first before made : Signature)
    (st : Progress) → RisingEnv first.env → IsFit st.types → Follows first before made
    → Given (TypeDescsDerived sc eq descs first before st) (infer_type_descs sc eq descs made st)
type_descs_derive sc eq [] first before made st r fit h = record {
  own = before;
  follows = h;
  after = after_none st fit;
  derives = λ s. ElaboratesTypeDescs.no_type_descs (put_scope s sc) eq st.names before;
}
type_descs_derive sc eq (desc ∷ descs) first before made st r fit h =
    let Q : Signature × Progress → Type 0 = TypeDescsDerived sc eq (desc ∷ descs) first before st in
    let name : TyName = own_name sc.home st.names (length desc.tyvars) eq in
    let str : TypeStr = own_type name in
    let part : Env = with_type desc.name.text str empty_env in
    given_then (ListedOf desc.tyvars [] st) Q (listed sc desc.tyvars [] st) _ (listed_of sc desc.tyvars [] st fit)
    (λ own l.
    given_then (IsSpecified part (also_bound (name ∷ []) made)) Q
    (specified sc (name_at desc.name) part (also_bound (name ∷ []) made)) _
    (specified_is sc (name_at desc.name) part (also_bound (name ∷ []) made)) (λ sig s.
    let b : Behind first before sig (name ∷ []) part = part_behind first before made sig (name ∷ []) part r h s
    (one_type desc.name.text str refl)
    (has_with_type IsClosedScheme IsClosedFunction desc.name.text str empty_env (own_type_closed name)
    (has_nothing IsClosedScheme IsClosedFunction)) in
    let next : Signature = sig_of (before.bound ++ name ∷ []) (with_type desc.name.text str before.env) in
    given_more (TypeDescsDerived sc eq descs first next (after_names 1 own.1)) Q
    (infer_type_descs sc eq descs sig (after_names 1 own.1)) (λ q k. record {
      own = k.own;
      follows = k.follows;
      after = after_both st own.1 q.1 (after_listed desc.tyvars [] st own l)
          (record { fit = k.after.fit; solved = k.after.solved; leaves = k.after.leaves });
      derives = λ z. ElaboratesTypeDescs.rule_80 (put_scope z sc) eq st.names q.1.names desc descs before k.own own.0 name
          (of_list desc.tyvars st own l) (no_type desc.name.text part before.env str refl b.apart) refl
          (subst (λ n. ElaboratesTypeDescs (put_scope z sc) eq n descs next k.own q.1.names)
          (one_more st.names own.1.names l.made) (k.derives z));
    }) (type_descs_derive sc eq descs first next sig (after_names 1 own.1) r l.fit b.follows)))

-- ---- a datatype that is copied

-- a type that is found whatever is put in around
pub record Copied (sc : Scope) (name : Name) (long : LongName) (part : Env) : Type 0 where
  pub str : TypeStr
  pub is : part ≡ with_datatype name.text str empty_env
  pub found : (s : Substitution) → found_at types long.parts (put_env s sc.env) ≡ Some str
  pub closed : IsClosedEnv part

record FoundFirm (sc : Scope) (long : LongName) (str : TypeStr) : Type 0 where
  firm : FirmType str
  found : (s : Substitution) → found_at types long.parts (put_env s sc.env) ≡ Some str

is_found : (sc : Scope) (long : LongName) (o : Option TypeStr) → found_at types long.parts sc.env ≡ o
    → IfSome FirmType o → IfSome (FoundFirm sc long) o
is_found sc long None e h = tt
is_found sc long (Some str) e h = record {
  firm = h;
  found = λ s. type_found_put s long.parts sc.env ∙ ap (option_map (put_type s)) e ∙ ap Some (firm_type s str h);
}

copied : (sc : Scope) (name : Name) (long : LongName) → FirmEnv sc.env
    → Given (Copied sc name long) (infer_replication sc name long)
copied sc name long firm =
    given_then (FoundFirm sc long) (Copied sc name long) (known sc long (found_at types long.parts sc.env)) _
    (given_known (FoundFirm sc long) sc long (found_at types long.parts sc.env)
    (is_found sc long (found_at types long.parts sc.env) refl
    (env_found AnyName FirmType FirmValue FirmType types (env_types AnyName FirmType FirmValue) long.parts sc.env firm)))
    (λ str h. record {
      str = str;
      is = refl;
      found = h.found;
      closed = datatype_closed name.text str empty_env (firm_closed str h.firm)
          (has_nothing IsClosedScheme IsClosedFunction);
    })

pub replication_copies : (sc : Scope) (name : Name) (long : LongName) → FirmEnv sc.env → RisingEnv sc.env
    → Given (λ part. Copied sc name long part × RisingEnv part) (infer_replication sc name long)
replication_copies sc name long firm r = given_both (Copied sc name long) RisingEnv (infer_replication sc name long)
    (copied sc name long firm) (replication_rises sc name long r)
