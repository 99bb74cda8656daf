-- Parts that are specified one after another.
use Rattle.std.proofs.Common.{◌≡◌, ℕ, List, [], ◌++◌, sym, ap, ◌∙◌, subst, None, append_assoc}
use Rattle.std.proofs.lemmas.List.{append-nil}
use Rattle.std.specs.Option.{is_some}
use Rattle.semantic_objects.specs.declared.name.TyName.{TyName}
use Rattle.semantic_objects.specs.Tables.{Table, entry, with_entry}
use Rattle.semantic_objects.specs.Environments.{Env, Signature, structures, types, values, empty_env, modified_by}
use Rattle.semantic_objects.proofs.Promised.{sets_entries}
use Rattle.static_semantics.proofs.Holding.{has_nothing, has_modified}
use Rattle.module_semantics.specs.SignatureNames.{empty_signature, also_bound}
use Rattle.unit_semantics.specs.Promises.{IsClosedScheme, IsClosedFunction, IsClosedEnv}
use Rattle.table_laws.specs.Rising.{RisingEnv}
use Rattle.table_laws.proofs.Tables.{rising_nothing, rising_modified}
use Rattle.signature_laws.proofs.Signatures.{IsSpecified}
use Rattle.specification_laws.specs.Derived.{Follows}
use Rattle.specification_laws.proofs.Joined.{in_turn, with_nothing, Disjoint, Apart, apart_is, none_common, apart_parts, parts_apart, nothing_apart}

abbrev pub sig_of : List TyName → Env → Signature
sig_of bound env = record { bound = bound; env = env }

pub nothing_follows : (made : Signature) → Follows made empty_signature made
nothing_follows made = record {
  bound = sym (append-nil made.bound);
  env = sym (with_nothing made.env);
  apart = none_common empty_env made.env (nothing_apart made.env);
  rises = rising_nothing;
  closed = has_nothing IsClosedScheme IsClosedFunction;
}

-- a part alone
pub part_follows : (made q with : Signature) → IsSpecified q.env (also_bound q.bound made) with → RisingEnv q.env
    → IsClosedEnv q.env → Follows made q with
part_follows made q with s r c = record { bound = s.0; env = s.1; apart = s.2; rises = r; closed = c }

-- .. with names that are bound with it, behind others
pub record Behind (first before sig : Signature) (names : List TyName) (part : Env) : Type 0 where
  pub follows : Follows first (sig_of (before.bound ++ names) (modified_by before.env part)) sig
  pub apart : Apart part before.env

pub part_behind : (first before made sig : Signature) (names : List TyName) (part : Env) → RisingEnv first.env
    → Follows first before made → IsSpecified part (also_bound names made) sig → RisingEnv part → IsClosedEnv part
    → Behind first before sig names part
part_behind first before made sig names part r h s p c =
    let both : Apart part first.env × Apart part before.env = apart_parts part first.env before.env h.rises
    (subst (Apart part) h.env (apart_is part made.env s.2)) in
    record {
      follows = record {
        bound = s.0 ∙ ap (λ z. z ++ names) h.bound ∙ append_assoc first.bound before.bound names;
        env = s.1 ∙ ap (λ z. modified_by z part) h.env ∙ in_turn first.env before.env part r h.rises p;
        apart = none_common (modified_by before.env part) first.env
            (parts_apart before.env part first.env p (apart_is before.env first.env h.apart) both.0);
        rises = rising_modified before.env part h.rises p;
        closed = has_modified IsClosedScheme IsClosedFunction before.env part h.closed c;
      };
      apart = both.1;
    }

-- .. with none, behind an environment that binds none
pub env_behind : (first made sig : Signature) (before part : Env) → RisingEnv first.env
    → Follows first (sig_of [] before) made → IsSpecified part made sig → RisingEnv part → IsClosedEnv part
    → Behind first (sig_of [] before) sig [] part
env_behind first made sig before part r h s p c =
    part_behind first (sig_of [] before) made sig [] part r h (s.0 ∙ sym (append-nil made.bound), s.1, s.2) p c

-- ---- what a part of one entry doesn't have in common

one_there : {A : Type 0} (name : List ℕ) (x : A) (table : Table A) → Disjoint (with_entry name x []) table
    → entry name table ≡ None
one_there {A} name x table d = d name (ap is_some ((sets_entries A).here name x []))

pub no_value : (name : List ℕ) (part before : Env) (x : Rattle.semantic_objects.specs.declared.entry.ValueEntry.ValueEntry)
    → values part ≡ with_entry name x [] → Apart part before → entry name (values before) ≡ None
no_value name part before x e h =
    one_there name x (values before) (subst (λ z. Disjoint z (values before)) e h.values)

pub no_type : (name : List ℕ) (part before : Env) (x : Rattle.semantic_objects.specs.declared.entry.TypeStr.TypeStr)
    → types part ≡ with_entry name x [] → Apart part before → entry name (types before) ≡ None
no_type name part before x e h =
    one_there name x (types before) (subst (λ z. Disjoint z (types before)) e h.types)

pub no_structure : (name : List ℕ) (part before x : Env) → structures part ≡ with_entry name x [] → Apart part before
    → entry name (structures before) ≡ None
no_structure name part before x e h =
    one_there name x (structures before) (subst (λ z. Disjoint z (structures before)) e h.structures)
