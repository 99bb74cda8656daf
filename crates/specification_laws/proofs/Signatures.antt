-- Signature expressions and specifications have derivations.
use Rattle.std.proofs.Common.{◌≡◌, ℕ, ◌+◌, ◌≤◌, arith, List, [], ◌∷◌, ◌++◌, length, refl, sym, ap, ap₂, ◌∙◌, subst, Option, Some, None, Bool, true, false, ◌&&◌, not, cond, eqb}
use Rattle.std.proofs.lemmas.Bool.{eqb-true}
use Rattle.std.proofs.lemmas.List.{append-nil, length-map}
use Rattle.sml_trees.specs.declared.name.At.{At}
use Rattle.sml_trees.specs.declared.name.Name.{Name}
use Rattle.sml_trees.specs.declared.name.LongName.{LongName}
use Rattle.semantic_objects.specs.declared.name.TyName.{TyName}
use Rattle.semantic_objects.specs.declared.entry.TypeFn.{TypeFn}
use Rattle.semantic_objects.specs.declared.entry.TypeStr.{TypeStr}
use Rattle.semantic_objects.specs.Symbols.{same_name}
use Rattle.semantic_objects.specs.Tables.{Table, entry}
use Rattle.semantic_objects.specs.Environments.{Env, Signature, types, empty_env, modified_by, with_structure}
use Rattle.unification.specs.Types.{Ty, Substitution}
use Rattle.unification.specs.Fitting.{IsFit}
use Rattle.bare_phrases.specs.Phrases.{TyPhrase}
use Rattle.realisation.specs.Names.{is_listed}
use Rattle.realisation.specs.Realised.{of_rows, function_admits}
use Rattle.static_semantics.specs.Inferring.{Progress, Scope, under, with_written_alone, gives, name_at, known, found_at}
use Rattle.static_semantics.specs.TypeInference.{infer_ty, listed, numbers, as_written, type_function}
use Rattle.static_semantics.specs.DatatypeInference.{infer_replication}
use Rattle.static_semantics.specs.EnvironmentsPut.{put_scope}
use Rattle.static_semantics.specs.Holding.{Given, IfSome, AllRows}
use Rattle.static_semantics.proofs.Holding.{given_then, given_known, rows_found, env_more}
use Rattle.static_semantics.proofs.TypesGrow.{given_more}
use Rattle.inference_laws.specs.Nodes.{Nodes, SchemeOf, FunctionOf, EnvOf, Makes, IsReadyFor, below_number}
use Rattle.inference_laws.specs.Alike.{in_env, FirmEnv}
use Rattle.inference_laws.proofs.DatatypesMade.{under_of}
use Rattle.inference_laws.proofs.Firm.{firm_modified}
use Rattle.inference_laws.proofs.Making.{given_both, before, ready_after}
use Rattle.module_semantics.specs.SigPhrases.{SigPhrase, SpecPhrase, SigBinds, SpecPhrases}
use Rattle.module_semantics.specs.SignatureNames.{name_alone, empty_signature, also_bound}
use Rattle.module_semantics.specs.SignatureInference.{specified, infer_vals, infer_type_descs, infer_exception_specs, infer_datatype_specs, lacks_equality, with_function, refuses_long, replaced, where_type, single, infer_sig, infer_spec, infer_structure_specs, infer_specs}
use Rattle.module_semantics.specs.ElaboratesSignatures.{ElaboratesSig, ElaboratesSpec, ElaboratesStrSpecs, ElaboratesSpecs}
use Rattle.unit_semantics.specs.Promises.{IsClosedScheme, IsClosedFunction, IsClosedEnv, IsClosedSignature}
use Rattle.unit_semantics.proofs.Closed.{PutsClosed, first_closed, realised_closed}
use Rattle.unit_semantics.proofs.SignaturesClosed.{one_structure, opened_closed}
use Rattle.unit_laws.specs.Spelling.{SigSpelt, SpecSpelt, SigBindsSpelt, SpecsSpelt}
use Rattle.unit_laws.proofs.SignaturesMade.{nothing_of, FromSigs, OutOf, sig_made, spec_made}
use Rattle.datatype_laws.specs.Below.{AnyScheme, FunctionBelow, TypesBelow}
use Rattle.phrase_laws.proofs.Finding.{under_put}
use Rattle.phrase_laws.proofs.Types.{given_check, is_not}
use Rattle.phrase_laws.proofs.TypeBindings.{ListedOf, listed_of}
use Rattle.table_laws.specs.Rising.{RisingEnv, RisingSignature}
use Rattle.table_laws.proofs.Tables.{rising_nothing, rising_modified}
use Rattle.table_laws.proofs.Units.{sig_rises}
use Rattle.signature_laws.proofs.Alone.{alone_is}
use Rattle.signature_laws.proofs.Signatures.{IsSpecified, specified_is}
use Rattle.specification_laws.specs.Derived.{IsAfter, Follows, SigDerived, SpecDerived, SpecsDerived}
use Rattle.matching_choices.proofs.Closed.{env_stays, closed_firm}
use Rattle.specification_laws.proofs.Joined.{in_turn, from_nothing, with_nothing, twice, Apart, apart_is, none_common, apart_parts, parts_apart}
use Rattle.specification_laws.proofs.Own.{after_none, after_both, after_listed, of_list, OwnTy, own_ty}
use Rattle.specification_laws.proofs.Parts.{sig_of, nothing_follows, part_follows, Behind, part_behind, no_structure}
use Rattle.specification_laws.proofs.Values.{ValsDerived, vals_derive, ExSpecsDerived, exceptions_derive}
use Rattle.specification_laws.proofs.Specified.{datatypes_derive}
use Rattle.specification_laws.proofs.Types.{TypeDescsDerived, type_descs_derive, Copied, replication_copies}

-- ---- signatures that have names

pub record AreNamed (sigs : Table Signature) : Type 0 where
  pub rise : AllRows RisingSignature sigs
  pub closed : AllRows IsClosedSignature sigs

-- one that is found under a name
record IsNamed (sigs : Table Signature) (name : List ℕ) (sig : Signature) : Type 0 where
  is : entry name sigs ≡ Some sig
  closed : IsClosedEnv sig.env

if_named : (sigs : Table Signature) (name : List ℕ) (o : Option Signature) → entry name sigs ≡ o
    → IfSome IsClosedSignature o → IfSome (IsNamed sigs name) o
if_named sigs name None e h = tt
if_named sigs name (Some sig) e h = record { is = e; closed = h }

-- ---- `where type`

record Replaced (sig : Signature) (old by : TypeFn) (with : Signature) : Type 0 where
  name : TyName
  alone : name_alone old ≡ Some name
  among : is_listed name sig.bound ≡ true
  arity : by.arity ≡ old.arity
  equality : name.eq ≡ true → function_admits (λ v. false) by ≡ true
  is : with ≡ with_function name by sig

admits_so : (eq admits : Bool) → (eq && not admits) ≡ false → eq ≡ true → admits ≡ true
admits_so true admits h e = is_not admits h
admits_so false admits h e = absurd (cc)

listed_replaced : (sc : Scope) (at : At) (long : LongName) (sig : Signature) (old by : TypeFn) (name : TyName) (c : Bool)
    → name_alone old ≡ Some name → is_listed name sig.bound ≡ c → by.arity ≡ old.arity
    → (name.eq ≡ true → function_admits (λ v. false) by ≡ true)
    → Given (Replaced sig old by) (cond c (gives (with_function name by sig)) (refuses_long sc at long))
listed_replaced sc at long sig old by name true n e a q =
    record { name = name; alone = n; among = e; arity = a; equality = q; is = refl }
listed_replaced sc at long sig old by name false n e a q = tt

name_replaced : (sc : Scope) (at : At) (long : LongName) (sig : Signature) (old by : TypeFn) (o : Option TyName)
    → name_alone old ≡ o → by.arity ≡ old.arity → lacks_equality o by ≡ false
    → Given (Replaced sig old by) (replaced sc at long by sig o)
name_replaced sc at long sig old by None n a q = tt
name_replaced sc at long sig old by (Some name) n a q =
    listed_replaced sc at long sig old by name (is_listed name sig.bound) n refl a
    (admits_so name.eq (function_admits (λ v. false) by) q)

where_replaces : (sc : Scope) (at : At) (long : LongName) (old by : TypeFn) (sig : Signature)
    → Given (Replaced sig old by) (where_type sc at long old by sig)
where_replaces sc at long old by sig =
    given_check (Replaced sig old by) (not (eqb by.arity old.arity)) 35 sc at _ (λ a.
    given_check (Replaced sig old by) (lacks_equality (name_alone old) by) 33 sc at _ (λ q.
    name_replaced sc at long sig old by (name_alone old) refl
    (eqb-true by.arity old.arity (is_not (eqb by.arity old.arity) a)) q))

puts_one : (name : TyName) (by : TypeFn) → IsClosedFunction by → PutsClosed (of_rows ((name, by) ∷ []))
puts_one name by h = record {
  by = λ m f e. first_closed (same_name name m) by f None h (λ i. absurd (cc)) e;
}

-- what is found in an environment
abbrev FoundAt : Env → LongName → TypeStr → Type 0
FoundAt env long str = found_at types long.parts env ≡ Some str

if_found : (env : Env) (long : LongName) (o : Option TypeStr) → found_at types long.parts env ≡ o
    → IfSome (FoundAt env long) o
if_found env long None e = tt
if_found env long (Some str) e = e

where_derived : (sigs : Table Signature) (sc : Scope) (sig : SigPhrase) (tyvars : List Name) (long : LongName)
    (ty : TyPhrase) (at : At) (st : Progress) (r : Signature × Progress) (own : List (List ℕ × ℕ) × Progress)
    (str : TypeStr) (t : Ty) (with : Signature) → SigDerived sigs sc sig st r → ListedOf tyvars [] r.1 own
    → FoundAt r.0.env long str → OwnTy sc own.0 ty t
    → Replaced r.0 str.function (type_function (numbers own.0) t) with
    → SigDerived sigs sc (SigPhrase.Where sig tyvars long ty at) st (with, own.1)
where_derived sigs sc sig tyvars long ty at st r own str t with h l f o w =
    let by : TypeFn = type_function (numbers own.0) t in
    record {
      after = after_both st r.1 own.1 h.after (after_listed tyvars [] r.1 own l);
      closed = subst (λ z. IsClosedEnv z.env) (sym w.is)
          (realised_closed (of_rows ((w.name, by) ∷ [])) (puts_one w.name by o.closed) r.0.env h.closed);
      derives = λ s. subst (λ z. ElaboratesSig sigs (put_scope s sc) st.names (SigPhrase.Where sig tyvars long ty at) z
          own.1.names) (sym w.is)
          (subst (λ n. ElaboratesSig sigs (put_scope s sc) st.names (SigPhrase.Where sig tyvars long ty at)
          (with_function w.name by r.0) n) (sym l.made)
          (ElaboratesSig.rule_64 sigs (put_scope s sc) st.names r.1.names sig tyvars long ty at r.0 own.0 str w.name t
          (h.derives s) (of_list tyvars r.1 own l) f w.alone w.among (o.derives s)
          (sym (length-map own.0 (λ (row : List ℕ × ℕ). row.1)) ∙ w.arity
          ∙ sym (alone_is str.function.arity str.function.body w.name w.alone).counted)
          w.equality));
    }

-- ---- what is around a specification

-- what stands in the scope, in the state, and in the signatures that have names and what was specified
abbrev pub FromSpecs : (List ℕ → Bool) → Table Signature → Scope → Signature → Progress → Nodes → Type 0
FromSpecs good sigs sc made st q = FromSigs good sigs sc st q × EnvOf q made.env

pub record Around (good : List ℕ → Bool) (sigs : Table Signature) (sc : Scope) (made : Signature) (st : Progress) :
    Type 0 where
  pub ready : IsReadyFor sc.home (FromSpecs good sigs sc made st) st.names
  pub sigs_named : AreNamed sigs
  pub firm : FirmEnv sc.env
  pub rises : RisingEnv sc.env
  pub made_rises : RisingEnv made.env
  pub made_closed : IsClosedEnv made.env
  pub fit : IsFit st.types

-- what was specified is in scope
abbrev InScope : Scope → Signature → Type 0
InScope sc made = modified_by sc.env made.env ≡ sc.env

specs_under : (good : List ℕ → Bool) (q : Nodes) (sigs : Table Signature) (sc : Scope) (made : Signature) (st : Progress)
    → FromSpecs good sigs sc made st q → FromSpecs good sigs (under made.env sc) made st q
specs_under good q sigs sc made st i =
    ((record { scope = under_of good q made.env sc i.1 i.0.0.scope; state = i.0.0.state }, i.0.1), i.1)

specs_after : (good : List ℕ → Bool) (q : Nodes) (sigs : Table Signature) (sc : Scope) (made : Signature)
    (st : Progress) (r : Signature × Progress) → FromSpecs good sigs sc made st q → OutOf r q
    → FromSpecs good sigs sc r.0 r.1 q
specs_after good q sigs sc made st r i j = ((record { scope = i.0.0.scope; state = j.0 }, i.0.1), j.1)

-- after another signature
specs_later : (good : List ℕ → Bool) (q : Nodes) (sigs : Table Signature) (sc : Scope) (made : Signature)
    (st : Progress) (r : Signature × Progress) → FromSpecs good sigs sc made st q → OutOf r q
    → FromSpecs good sigs sc made r.1 q
specs_later good q sigs sc made st r i j = ((record { scope = i.0.0.scope; state = j.0 }, i.0.1), i.1)

types_below : (good : List ℕ → Bool) (sigs : Table Signature) (sc : Scope) (made : Signature) (st : Progress)
    → Around good sigs sc made st → TypesBelow sc.home st.names sc.env
types_below good sigs sc made st h =
    let q : Nodes = below_number sc.home st.names in
    env_more (SchemeOf q) AnyScheme (FunctionOf q) (FunctionBelow sc.home st.names) (λ σ i. tt) (λ f i. i.body) sc.env
    (h.ready st.names (let l : st.names ≤ st.names = omega arith in l)).0.0.scope.env

around_under : (good : List ℕ → Bool) (sigs : Table Signature) (sc : Scope) (made : Signature) (st : Progress)
    → Around good sigs sc made st → Around good sigs (under made.env sc) made st
around_under good sigs sc made st h = record {
  ready = λ m l. specs_under good (below_number sc.home m) sigs sc made st (h.ready m l);
  sigs_named = h.sigs_named;
  firm = firm_modified sc.env made.env h.firm (closed_firm made.env h.made_closed);
  rises = rising_modified sc.env made.env h.rises h.made_rises;
  made_rises = h.made_rises;
  made_closed = h.made_closed;
  fit = h.fit;
}

in_scope : (good : List ℕ → Bool) (sigs : Table Signature) (sc : Scope) (made : Signature) (st : Progress)
    → Around good sigs sc made st → InScope (under made.env sc) made
in_scope good sigs sc made st h = in_turn sc.env made.env made.env h.rises h.made_rises h.made_rises
    ∙ ap (modified_by sc.env) (twice made.env h.made_rises)

-- what a specification or a signature makes
abbrev SpecMade : (List ℕ → Bool) → Table Signature → Scope → Signature → Progress → Signature × Progress → Type 0
SpecMade good sigs sc made st r = Makes sc.home (FromSpecs good sigs sc made st) st r.1 (OutOf r)

abbrev SigMade : (List ℕ → Bool) → Table Signature → Scope → Progress → Signature × Progress → Type 0
SigMade good sigs sc st r = Makes sc.home (FromSigs good sigs sc st) st r.1 (OutOf r)

around_after : (good : List ℕ → Bool) (sigs : Table Signature) (sc : Scope) (made own : Signature) (st : Progress)
    (r : Signature × Progress) → Around good sigs sc made st → SpecMade good sigs (under made.env sc) made st r
    → Follows made own r.0 → IsAfter st r.1 → Around good sigs sc r.0 r.1
around_after good sigs sc made own st r h k f a =
    let first : Makes sc.home (FromSpecs good sigs sc made st) st r.1 (OutOf r) =
    before refl k (λ q i. specs_under good q sigs sc made st i) in
    let next : IsReadyFor sc.home (FromSpecs good sigs sc r.0 r.1) r.1.names =
    ready_after h.ready first (λ q i j. specs_after good q sigs sc made st r i j) in
    record {
      ready = next;
      sigs_named = h.sigs_named;
      firm = h.firm;
      rises = h.rises;
      made_rises = subst RisingEnv (sym f.env) (rising_modified made.env own.env h.made_rises f.rises);
      made_closed = subst IsClosedEnv (sym f.env)
          (Rattle.static_semantics.proofs.Holding.has_modified IsClosedScheme IsClosedFunction made.env own.env
          h.made_closed f.closed);
      fit = a.fit;
    }

-- .. of a signature by itself, and later on
around_nothing : (good : List ℕ → Bool) (sigs : Table Signature) (sc : Scope) (made : Signature) (st : Progress)
    → Around good sigs sc made st → Around good sigs sc empty_signature st
around_nothing good sigs sc made st h = record {
  ready = λ m l. ((h.ready m l).0, nothing_of (below_number sc.home m));
  sigs_named = h.sigs_named;
  firm = h.firm;
  rises = h.rises;
  made_rises = rising_nothing;
  made_closed = Rattle.static_semantics.proofs.Holding.has_nothing IsClosedScheme IsClosedFunction;
  fit = h.fit;
}

around_later : (good : List ℕ → Bool) (sigs : Table Signature) (sc : Scope) (made : Signature) (st : Progress)
    (r : Signature × Progress) → Around good sigs sc made st → SigMade good sigs sc st r → IsFit r.1.types
    → Around good sigs sc made r.1
around_later good sigs sc made st r h k fit =
    let first : Makes sc.home (FromSpecs good sigs sc made st) st r.1 (OutOf r) = before refl k (λ q i. i.0) in
    let next : IsReadyFor sc.home (FromSpecs good sigs sc made r.1) r.1.names =
    ready_after h.ready first (λ q i j. specs_later good q sigs sc made st r i j) in
    record {
      ready = next;
      sigs_named = h.sigs_named;
      firm = h.firm;
      rises = h.rises;
      made_rises = h.made_rises;
      made_closed = h.made_closed;
      fit = fit;
    }

-- ---- parts of a specification

-- structures behind others of the same specification
record StrSpecsDerived (sigs : Table Signature) (sc : Scope) (binds : SigBinds) (first before : Signature)
    (st : Progress) (r : Signature × Progress) : Type 0 where
  own : Signature
  follows : Follows first own r.0
  after : IsAfter st r.1
  derives : (s : Substitution) → ElaboratesStrSpecs sigs (put_scope s sc) st.names binds before own r.1.names

sig_is : (a b : Signature) → a.bound ≡ b.bound → a.env ≡ b.env → a ≡ b
sig_is a b e f = ap₂ sig_of e f

-- of a signature that follows nothing
alone_follows : (own all : Signature) → Follows empty_signature own all → all ≡ own
alone_follows own all f = sig_is all own f.bound (f.env ∙ from_nothing own.env f.rises)

sig_of_spec : (sigs : Table Signature) (sc : Scope) (spec : SpecPhrase) (at : At) (st : Progress)
    (r : Signature × Progress) → SpecDerived sigs sc spec empty_signature st r
    → SigDerived sigs sc (SigPhrase.Sig spec at) st r
sig_of_spec sigs sc spec at st r h =
    let e : r.0 ≡ h.own = alone_follows h.own r.0 h.follows in
    record {
      after = h.after;
      closed = subst (λ z. IsClosedEnv z.env) (sym e) h.follows.closed;
      derives = λ s. subst (λ z. ElaboratesSig sigs (put_scope s sc) st.names (SigPhrase.Sig spec at) z r.1.names)
          (sym e) (ElaboratesSig.rule_62 sigs (put_scope s sc) st.names r.1.names spec at h.own (h.derives s));
    }

-- two specifications, one behind the other
both_follow : (good : List ℕ → Bool) (sigs : Table Signature) (sc : Scope) (made first second q all : Signature)
    (st : Progress) → Around good sigs sc made st → Follows made first q → Follows q second all
    → Follows made (sig_of (first.bound ++ second.bound) (modified_by first.env second.env)) all
both_follow good sigs sc made first second q all st h f g =
    let both : Apart second.env made.env × Apart second.env first.env =
    apart_parts second.env made.env first.env f.rises
    (subst (Apart second.env) f.env (apart_is second.env q.env g.apart)) in
    record {
      bound = g.bound ∙ ap (λ z. z ++ second.bound) f.bound
          ∙ Rattle.std.proofs.Common.append_assoc made.bound first.bound second.bound;
      env = g.env ∙ ap (λ z. modified_by z second.env) f.env
          ∙ in_turn made.env first.env second.env h.made_rises f.rises g.rises;
      apart = none_common (modified_by first.env second.env) made.env
          (parts_apart first.env second.env made.env g.rises (apart_is first.env made.env f.apart) both.0);
      rises = rising_modified first.env second.env f.rises g.rises;
      closed = Rattle.static_semantics.proofs.Holding.has_modified IsClosedScheme IsClosedFunction first.env second.env
          f.closed g.closed;
    }

not_both : (made first second q all : Signature) → Follows made first q → Follows q second all
    → Rattle.module_semantics.specs.SignatureInference.have_common second.env first.env ≡ false
not_both made first second q all f g = none_common second.env first.env
    (apart_parts second.env made.env first.env f.rises
    (subst (Apart second.env) f.env (apart_is second.env q.env g.apart))).1

-- the scope of the specifications behind one
scope_is : (good : List ℕ → Bool) (s : Substitution) (sigs : Table Signature) (sc : Scope) (made first q : Signature)
    (st : Progress) → Around good sigs sc made st → Follows made first q
    → put_scope s (under q.env sc) ≡ under first.env (put_scope s (under made.env sc))
scope_is good s sigs sc made first q st h f =
    ap (λ z. put_scope s (in_env z sc))
    (ap (modified_by sc.env) f.env ∙ sym (in_turn sc.env made.env first.env h.rises h.made_rises f.rises))
    ∙ sym (under_put s first.env (under made.env sc))
    ∙ ap (λ z. under z (put_scope s (under made.env sc))) (env_stays s first.env f.closed)

-- ---- signature expressions and specifications

part_derived : (sigs : Table Signature) (sc : Scope) (name : Name) (long : LongName) (at : At) (made sig : Signature)
    (part : Env) (st : Progress) → IsFit st.types → Copied sc name long part → RisingEnv part
    → IsSpecified part made sig → SpecDerived sigs sc (SpecPhrase.Replication name long at) made st (sig, st)
part_derived sigs sc name long at made sig part st fit c r s = record {
  own = sig_of [] part;
  follows = record {
    bound = s.0 ∙ sym (append-nil made.bound);
    env = s.1;
    apart = s.2;
    rises = r;
    closed = c.closed;
  };
  after = after_none st fit;
  derives = λ z. subst (λ e. ElaboratesSpec sigs (put_scope z sc) st.names (SpecPhrase.Replication name long at)
      (sig_of [] e) st.names) (sym c.is)
      (ElaboratesSpec.rule_72 sigs (put_scope z sc) st.names name long at c.str (c.found z));
}

module _ (good : List ℕ → Bool) where
  mutual
    pub sig_derives : (sigs : Table Signature) (sc : Scope) (sig : SigPhrase) (st : Progress)
        → SigSpelt good sig → Around good sigs sc empty_signature st → Given (SigDerived sigs sc sig st) (infer_sig sigs sc sig st)
    sig_derives sigs sc (SigPhrase.Sig spec at) st p h =
        given_more (SpecDerived sigs sc spec empty_signature st) (SigDerived sigs sc (SigPhrase.Sig spec at) st)
        (infer_spec sigs sc spec empty_signature st) (sig_of_spec sigs sc spec at st)
        (spec_derives sigs sc spec empty_signature st p h (with_nothing sc.env))
    sig_derives sigs sc (SigPhrase.Named name at) st p h =
        given_then (IsNamed sigs name.text) (SigDerived sigs sc (SigPhrase.Named name at) st)
        (known sc (single name) (entry name.text sigs)) _
        (given_known (IsNamed sigs name.text) sc (single name) (entry name.text sigs)
        (if_named sigs name.text (entry name.text sigs) refl
        (rows_found IsClosedSignature name.text sigs h.sigs_named.closed))) (λ sig k. record {
          after = record { fit = h.fit; solved = λ p q. q; leaves = λ p q. q };
          closed = opened_closed sc.home sig st k.closed;
          derives = λ s. ElaboratesSig.rule_63 sigs (put_scope s sc) st.names name at sig k.is;
        })
    sig_derives sigs sc (SigPhrase.Where sig tyvars long ty at) st p h =
        let Q : Signature × Progress → Type 0 = SigDerived sigs sc (SigPhrase.Where sig tyvars long ty at) st in
        given_then (SigDerived sigs sc sig st) Q (infer_sig sigs sc sig st) _ (sig_derives sigs sc sig st p.0 h) (λ r k.
        given_then (ListedOf tyvars [] r.1) Q (listed sc tyvars [] r.1) _ (listed_of sc tyvars [] r.1 k.after.fit)
        (λ own l.
        given_then (FoundAt r.0.env long) Q (known sc long (found_at types long.parts r.0.env)) _
        (given_known (FoundAt r.0.env long) sc long (found_at types long.parts r.0.env)
        (if_found r.0.env long (found_at types long.parts r.0.env) refl)) (λ str f.
        given_then (OwnTy sc own.0 ty) Q (infer_ty (with_written_alone (as_written own.0) sc) ty) _
        (own_ty sc own.0 ty h.firm) (λ t o.
        given_then (Replaced r.0 str.function (type_function (numbers own.0) t)) Q
        (where_type sc at long str.function (type_function (numbers own.0) t) r.0) _
        (where_replaces sc at long str.function (type_function (numbers own.0) t) r.0) (λ with w.
        where_derived sigs sc sig tyvars long ty at st r own str t with k l f o w)))))

    pub spec_derives : (sigs : Table Signature) (sc : Scope) (spec : SpecPhrase) (made : Signature) (st : Progress)
        → SpecSpelt good spec → Around good sigs sc made st → InScope sc made → Given (SpecDerived sigs sc spec made st) (infer_spec sigs sc spec
        made st)
    spec_derives sigs sc (SpecPhrase.Vals descs at) made st p h i =
        given_more (ValsDerived sc descs made empty_env st) (SpecDerived sigs sc (SpecPhrase.Vals descs at) made st)
        (infer_vals sc descs made st) (λ r k. record {
          own = sig_of [] k.own;
          follows = k.follows;
          after = k.after;
          derives = λ s. subst (λ n. ElaboratesSpec sigs (put_scope s sc) st.names (SpecPhrase.Vals descs at)
              (sig_of [] k.own) n) (sym k.made)
              (ElaboratesSpec.rule_68 sigs (put_scope s sc) st.names descs at k.own (k.derives s));
        }) (vals_derive sc descs made made empty_env st h.firm h.made_rises h.fit (nothing_follows made))
    spec_derives sigs sc (SpecPhrase.Types descs at) made st p h i =
        given_more (TypeDescsDerived sc false descs made empty_signature st)
        (SpecDerived sigs sc (SpecPhrase.Types descs at) made st) (infer_type_descs sc false descs made st) (λ r k.
        record {
          own = k.own;
          follows = k.follows;
          after = k.after;
          derives = λ s. ElaboratesSpec.rule_69 sigs (put_scope s sc) st.names r.1.names descs at k.own (k.derives s);
        }) (type_descs_derive sc false descs made empty_signature made st h.made_rises h.fit (nothing_follows made))
    spec_derives sigs sc (SpecPhrase.Eqtypes descs at) made st p h i =
        given_more (TypeDescsDerived sc true descs made empty_signature st)
        (SpecDerived sigs sc (SpecPhrase.Eqtypes descs at) made st) (infer_type_descs sc true descs made st) (λ r k.
        record {
          own = k.own;
          follows = k.follows;
          after = k.after;
          derives = λ s. ElaboratesSpec.rule_70 sigs (put_scope s sc) st.names r.1.names descs at k.own (k.derives s);
        }) (type_descs_derive sc true descs made empty_signature made st h.made_rises h.fit (nothing_follows made))
    spec_derives sigs sc (SpecPhrase.Datatypes binds at) made st p h i = datatypes_derive sigs sc binds at made st h.firm
        (types_below good sigs sc made st h) h.fit h.made_rises
    spec_derives sigs sc (SpecPhrase.Replication name long at) made st p h i =
        given_then (λ part. Copied sc name long part × RisingEnv part)
        (SpecDerived sigs sc (SpecPhrase.Replication name long at) made st) (infer_replication sc name long) _
        (replication_copies sc name long h.firm h.rises) (λ part c.
        given_then (IsSpecified part made) (SpecDerived sigs sc (SpecPhrase.Replication name long at) made st)
        (specified sc (name_at name) part made) _ (specified_is sc (name_at name) part made) (λ sig s.
        part_derived sigs sc name long at made sig part st h.fit c.0 c.1 s))
    spec_derives sigs sc (SpecPhrase.Exceptions cons at) made st p h i =
        given_then (ExSpecsDerived sc cons made empty_env)
        (SpecDerived sigs sc (SpecPhrase.Exceptions cons at) made st) (infer_exception_specs sc cons made) _
        (exceptions_derive sc cons made made empty_env h.firm h.made_rises (nothing_follows made)) (λ sig k. record {
          own = sig_of [] k.own;
          follows = k.follows;
          after = after_none st h.fit;
          derives = λ s. ElaboratesSpec.rule_73 sigs (put_scope s sc) st.names cons at k.own (k.derives s);
        })
    spec_derives sigs sc (SpecPhrase.Structures binds at) made st p h i =
        given_more (StrSpecsDerived sigs sc binds made empty_signature st)
        (SpecDerived sigs sc (SpecPhrase.Structures binds at) made st) (infer_structure_specs sigs sc binds made st)
        (λ r k. record {
          own = k.own;
          follows = k.follows;
          after = k.after;
          derives = λ s. ElaboratesSpec.rule_74 sigs (put_scope s sc) st.names r.1.names binds at k.own (k.derives s);
        }) (binds_derive sigs sc binds made empty_signature made st p h (nothing_follows made))
    spec_derives sigs sc (SpecPhrase.Include sig at) made st p h i =
        let Q : Signature × Progress → Type 0 = SpecDerived sigs sc (SpecPhrase.Include sig at) made st in
        given_then (λ r. RisingEnv r.0.env × SigDerived sigs sc sig st r) Q (infer_sig sigs sc sig st) _
        (given_both (λ r. RisingEnv r.0.env) (SigDerived sigs sc sig st) (infer_sig sigs sc sig st)
        (sig_rises sigs sc sig st h.sigs_named.rise h.rises) (sig_derives sigs sc sig st p
        (around_nothing good sigs sc made st h)))
        (λ r k.
        given_then (IsSpecified r.0.env (also_bound r.0.bound made)) Q
        (specified sc at r.0.env (also_bound r.0.bound made)) _
        (specified_is sc at r.0.env (also_bound r.0.bound made)) (λ with s. record {
          own = r.0;
          follows = part_follows made r.0 with s k.0 k.1.closed;
          after = k.1.after;
          derives = λ z. ElaboratesSpec.rule_75 sigs (put_scope z sc) st.names r.1.names sig at r.0 (k.1.derives z);
        }))
    spec_derives sigs sc (SpecPhrase.Sequence specs at) made st p h i =
        given_more (SpecsDerived sigs sc specs made st) (SpecDerived sigs sc (SpecPhrase.Sequence specs at) made st)
        (infer_specs sigs sc specs made st) (λ r k. record {
          own = k.own;
          follows = k.follows;
          after = k.after;
          derives = λ s. ElaboratesSpec.rules_76_77 sigs (put_scope s sc) st.names r.1.names specs at k.own
              (subst (λ e. ElaboratesSpecs sigs (put_scope s (in_env e sc)) st.names specs k.own r.1.names) i
              (k.derives s));
        }) (specs_derive sigs sc specs made st p h)

    binds_derive : (sigs : Table Signature) (sc : Scope) (binds : SigBinds) (first before made : Signature)
        (st : Progress) → SigBindsSpelt good binds → Around good sigs sc first st → Follows first before made
        → Given (StrSpecsDerived sigs sc binds first before st) (infer_structure_specs sigs sc binds made st)
    binds_derive sigs sc SigBinds.EndOfBinds first before made st p h f = record {
      own = before;
      follows = f;
      after = after_none st h.fit;
      derives = λ s. ElaboratesStrSpecs.no_str_specs sigs (put_scope s sc) st.names before;
    }
    binds_derive sigs sc (SigBinds.Bind name sig rest) first before made st p h f =
        let Q : Signature × Progress → Type 0 = StrSpecsDerived sigs sc (SigBinds.Bind name sig rest) first before st in
        given_then (λ r. SigMade good sigs sc st r × (RisingEnv r.0.env × SigDerived sigs sc sig st r)) Q
        (infer_sig sigs sc sig st) _
        (given_both (SigMade good sigs sc st) (λ r. RisingEnv r.0.env × SigDerived sigs sc sig st r)
        (infer_sig sigs sc sig st) (sig_made good sigs sc sig st p.0 (λ m l. (h.ready m l).0))
        (given_both (λ r. RisingEnv r.0.env) (SigDerived sigs sc sig st) (infer_sig sigs sc sig st)
        (sig_rises sigs sc sig st h.sigs_named.rise h.rises)
        (sig_derives sigs sc sig st p.0 (around_nothing good sigs sc first st h)))) (λ r k.
        let part : Env = with_structure name.text r.0.env empty_env in
        given_then (IsSpecified part (also_bound r.0.bound made)) Q
        (specified sc (name_at name) part (also_bound r.0.bound made)) _
        (specified_is sc (name_at name) part (also_bound r.0.bound made)) (λ with s.
        let b : Behind first before with r.0.bound part = part_behind first before made with r.0.bound part h.made_rises f
        s (Rattle.table_laws.proofs.Units.one_structure name.text r.0.env k.1.0)
        (one_structure name.text r.0.env empty_env k.1.1.closed
        (Rattle.static_semantics.proofs.Holding.has_nothing IsClosedScheme IsClosedFunction)) in
        let next : Signature = sig_of (before.bound ++ r.0.bound) (with_structure name.text r.0.env before.env) in
        given_more (StrSpecsDerived sigs sc rest first next r.1) Q (infer_structure_specs sigs sc rest with r.1) (λ q l.
        record {
          own = l.own;
          follows = l.follows;
          after = after_both st r.1 q.1 k.1.1.after l.after;
          derives = λ z. ElaboratesStrSpecs.rule_84 sigs (put_scope z sc) st.names r.1.names q.1.names name sig rest
              before l.own r.0 (no_structure name.text part before.env r.0.env refl b.apart) (k.1.1.derives z)
              (l.derives z);
        }) (binds_derive sigs sc rest first next with r.1 p.1 (around_later good sigs sc first st r h k.0 k.1.1.after.fit)
        b.follows)))

    specs_derive : (sigs : Table Signature) (sc : Scope) (specs : SpecPhrases) (made : Signature) (st : Progress)
        → SpecsSpelt good specs → Around good sigs sc made st → Given (SpecsDerived sigs sc specs made st) (infer_specs sigs sc specs made st)
    specs_derive sigs sc SpecPhrases.EndOfSpecs made st p h = record {
      own = empty_signature;
      follows = nothing_follows made;
      after = after_none st h.fit;
      derives = λ s. ElaboratesSpecs.rule_76 sigs (put_scope s (under made.env sc)) st.names;
    }
    specs_derive sigs sc (SpecPhrases.Next spec rest) made st p h =
        let inner : Scope = under made.env sc in
        let Q : Signature × Progress → Type 0 = SpecsDerived sigs sc (SpecPhrases.Next spec rest) made st in
        let around : Around good sigs inner made st = around_under good sigs sc made st h in
        given_then (λ r. SpecMade good sigs inner made st r × SpecDerived sigs inner spec made st r) Q
        (infer_spec sigs inner spec made st) _
        (given_both (SpecMade good sigs inner made st) (SpecDerived sigs inner spec made st)
        (infer_spec sigs inner spec made st) (spec_made good sigs inner spec made st p.0 around.ready)
        (spec_derives sigs inner spec made st p.0 around (in_scope good sigs sc made st h))) (λ r b.
        let k : SpecDerived sigs inner spec made st r = b.1 in
        given_more (SpecsDerived sigs sc rest r.0 r.1) Q (infer_specs sigs sc rest r.0 r.1) (λ q l. record {
          own = sig_of (k.own.bound ++ l.own.bound) (modified_by k.own.env l.own.env);
          follows = both_follow good sigs sc made k.own l.own r.0 q.0 st h k.follows l.follows;
          after = after_both st r.1 q.1 k.after l.after;
          derives = λ z. ElaboratesSpecs.rule_77 sigs (put_scope z inner) st.names r.1.names q.1.names spec rest k.own
              l.own (k.derives z)
              (subst (λ e. ElaboratesSpecs sigs e r.1.names rest l.own q.1.names)
              (scope_is good z sigs sc made k.own r.0 st h k.follows) (l.derives z))
              (not_both made k.own l.own r.0 q.0 k.follows l.follows);
        }) (specs_derive sigs sc rest r.0 r.1 p.1 (around_after good sigs sc made k.own st r h b.0 k.follows k.after)))
