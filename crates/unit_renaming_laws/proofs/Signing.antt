-- Signature expressions move with the variables.
use Rattle.std.proofs.Common.{◌≡◌, ℕ, List, [], length, refl, sym, ap, ◌∙◌, subst, true, false}
use Rattle.semantic_objects.specs.Tables.{Table, entry}
use Rattle.semantic_objects.specs.Environments.{Signature, types, empty_env, with_structure}
use Rattle.unification.specs.Types.{Ty, put}
use Rattle.static_semantics.specs.Inferring.{Progress, Scope, under, with_written_alone, name_at, known, found_at}
use Rattle.static_semantics.specs.TypeInference.{infer_ty, listed, numbers, as_written, type_function}
use Rattle.static_semantics.specs.DatatypeInference.{infer_replication}
use Rattle.static_semantics.specs.EnvironmentsPut.{put_type, each_entry, put_env, put_scope}
use Rattle.module_semantics.specs.SigPhrases.{SigPhrase, SpecPhrase, SigBinds, SpecPhrases}
use Rattle.module_semantics.specs.SignatureNames.{with_bound_names, unit_names, bound_names, opened, empty_signature, also_bound}
use Rattle.module_semantics.specs.SignatureInference.{specified, infer_exception_specs, where_type, single, infer_sig, infer_spec, infer_structure_specs, infer_specs, signature_of}
use Rattle.renaming_laws.specs.Moved.{moved, AreMoved, Both}
use Rattle.renaming_laws.proofs.Answers.{plain_then, moves_then, known_moved}
use Rattle.renaming_laws.proofs.Environments.{each_found, put_has_types, put_found}
use Rattle.renaming_laws.proofs.Closing.{function_moved}
use Rattle.renaming_laws.proofs.TypesMoved.{later_rows, listed_moved, numbers_moved, under_moved, replication_moved}
use Rattle.unit_renaming_laws.specs.Moved.{put_type_function, put_signature}
use Rattle.unit_renaming_laws.proofs.Realising.{with_names_moved}
use Rattle.unit_renaming_laws.proofs.Specifying.{SigsMove, PartsMove, names_after, specified_moved, written_ty_moved, vals_moved, type_descs_moved, exception_specs_moved, datatype_specs_moved, where_moved}

abbrev pub moved_signatures : ℕ → Table Signature → Table Signature
moved_signatures k sigs = each_entry (put_signature (moved k)) sigs

pub opened_moved : (k : ℕ) (home : List ℕ) (sig : Signature) (st u : Progress) → AreMoved k st u
    → SigsMove k (opened home sig st) (opened home (put_signature (moved k) sig) u)
opened_moved k home sig st u h = (
  ap (λ n. with_bound_names (unit_names home n sig.bound) (put_signature (moved k) sig)) h.names
      ∙ with_names_moved k (unit_names home st.names sig.bound) sig,
  names_after k (length sig.bound) st u h,
)

-- a type function of written variables
function_of_moved : (k : ℕ) (rows : List (List ℕ × ℕ)) (t : Ty)
    → type_function (numbers (later_rows k rows)) (put (moved k) t)
    ≡ put_type_function (moved k) (type_function (numbers rows) t)
function_of_moved k rows t =
    ap (λ vs. type_function vs (put (moved k) t)) (numbers_moved k rows) ∙ function_moved k (numbers rows) t

mutual
  pub sig_moved : (k : ℕ) (sigs : Table Signature) (sc : Scope) (sig : SigPhrase) (st u : Progress) → AreMoved k st u
      → Both (SigsMove k) (infer_sig sigs sc sig st) (infer_sig (moved_signatures k sigs) (put_scope (moved k) sc) sig u)
  sig_moved k sigs sc (SigPhrase.Sig spec at) st u h = spec_moved k sigs sc spec empty_signature st u h
  sig_moved k sigs sc (SigPhrase.Named name at) st u h =
      plain_then (put_signature (moved k)) (SigsMove k) (known sc (single name) (entry name.text sigs))
      (known (put_scope (moved k) sc) (single name) (entry name.text (moved_signatures k sigs))) _ _
      (known_moved k (put_signature (moved k)) sc (single name) (entry name.text sigs)
      (entry name.text (moved_signatures k sigs)) (each_found (put_signature (moved k)) name.text sigs))
      (λ sig. opened_moved k sc.home sig st u h)
  sig_moved k sigs sc (SigPhrase.Where sig tyvars long ty at) st u h =
      moves_then k (put_signature (moved k)) (SigsMove k) (infer_sig sigs sc sig st)
      (infer_sig (moved_signatures k sigs) (put_scope (moved k) sc) sig u) _ _ (sig_moved k sigs sc sig st u h)
      (λ r v w i.
      moves_then k (later_rows k) (SigsMove k) (listed sc tyvars [] v)
      (listed (put_scope (moved k) sc) tyvars [] w) _ _ (listed_moved k sc tyvars [] v w i) (λ rows x y j.
      plain_then (put_type (moved k)) (SigsMove k) (known sc long (found_at types long.parts r.env))
      (known (put_scope (moved k) sc) long (found_at types long.parts (put_env (moved k) r.env))) _ _
      (known_moved k (put_type (moved k)) sc long (found_at types long.parts r.env)
      (found_at types long.parts (put_env (moved k) r.env))
      (put_found (moved k) (put_type (moved k)) types (put_has_types (moved k)) long.parts r.env)) (λ str.
      plain_then (put (moved k)) (SigsMove k) (infer_ty (with_written_alone (as_written rows) sc) ty)
      (infer_ty (with_written_alone (as_written (later_rows k rows)) (put_scope (moved k) sc)) ty) _ _
      (written_ty_moved k rows sc ty) (λ t.
      plain_then (put_signature (moved k)) (SigsMove k)
      (where_type sc at long str.function (type_function (numbers rows) t) r)
      (where_type (put_scope (moved k) sc) at long (put_type_function (moved k) str.function)
      (type_function (numbers (later_rows k rows)) (put (moved k) t)) (put_signature (moved k) r)) _ _
      (subst (λ f. Both (PartsMove k) (where_type sc at long str.function (type_function (numbers rows) t) r)
      (where_type (put_scope (moved k) sc) at long (put_type_function (moved k) str.function) f
      (put_signature (moved k) r))) (sym (function_of_moved k rows t))
      (where_moved k sc at long str.function (type_function (numbers rows) t) r))
      (λ with. (refl, j))))))

  pub spec_moved : (k : ℕ) (sigs : Table Signature) (sc : Scope) (spec : SpecPhrase) (made : Signature)
      (st u : Progress) → AreMoved k st u
      → Both (SigsMove k) (infer_spec sigs sc spec made st)
      (infer_spec (moved_signatures k sigs) (put_scope (moved k) sc) spec (put_signature (moved k) made) u)
  spec_moved k sigs sc (SpecPhrase.Vals descs at) made st u h = vals_moved k sc descs made st u h
  spec_moved k sigs sc (SpecPhrase.Types descs at) made st u h = type_descs_moved k sc false descs made st u h
  spec_moved k sigs sc (SpecPhrase.Eqtypes descs at) made st u h = type_descs_moved k sc true descs made st u h
  spec_moved k sigs sc (SpecPhrase.Datatypes binds at) made st u h = datatype_specs_moved k sc binds made st u h
  spec_moved k sigs sc (SpecPhrase.Replication name long at) made st u h =
      plain_then (put_env (moved k)) (SigsMove k) (infer_replication sc name long)
      (infer_replication (put_scope (moved k) sc) name long) _ _ (replication_moved k sc name long) (λ part.
      plain_then (put_signature (moved k)) (SigsMove k) (specified sc (name_at name) part made)
      (specified (put_scope (moved k) sc) (name_at name) (put_env (moved k) part) (put_signature (moved k) made)) _ _
      (specified_moved k sc (name_at name) part made) (λ sig. (refl, h)))
  spec_moved k sigs sc (SpecPhrase.Exceptions cons at) made st u h =
      plain_then (put_signature (moved k)) (SigsMove k) (infer_exception_specs sc cons made)
      (infer_exception_specs (put_scope (moved k) sc) cons (put_signature (moved k) made)) _ _
      (exception_specs_moved k sc cons made) (λ sig. (refl, h))
  spec_moved k sigs sc (SpecPhrase.Structures binds at) made st u h = structures_moved k sigs sc binds made st u h
  spec_moved k sigs sc (SpecPhrase.Include sig at) made st u h =
      moves_then k (put_signature (moved k)) (SigsMove k) (infer_sig sigs sc sig st)
      (infer_sig (moved_signatures k sigs) (put_scope (moved k) sc) sig u) _ _ (sig_moved k sigs sc sig st u h)
      (λ r v w i.
      plain_then (put_signature (moved k)) (SigsMove k) (specified sc at r.env (also_bound r.bound made))
      (specified (put_scope (moved k) sc) at (put_env (moved k) r.env)
      (also_bound r.bound (put_signature (moved k) made))) _ _
      (specified_moved k sc at r.env (also_bound r.bound made)) (λ with. (refl, i)))
  spec_moved k sigs sc (SpecPhrase.Sequence specs at) made st u h = specs_moved k sigs sc specs made st u h

  structures_moved : (k : ℕ) (sigs : Table Signature) (sc : Scope) (binds : SigBinds) (made : Signature)
      (st u : Progress) → AreMoved k st u
      → Both (SigsMove k) (infer_structure_specs sigs sc binds made st)
      (infer_structure_specs (moved_signatures k sigs) (put_scope (moved k) sc) binds (put_signature (moved k) made) u)
  structures_moved k sigs sc SigBinds.EndOfBinds made st u h = (refl, h)
  structures_moved k sigs sc (SigBinds.Bind name sig rest) made st u h =
      moves_then k (put_signature (moved k)) (SigsMove k) (infer_sig sigs sc sig st)
      (infer_sig (moved_signatures k sigs) (put_scope (moved k) sc) sig u) _ _ (sig_moved k sigs sc sig st u h)
      (λ r v w i.
      plain_then (put_signature (moved k)) (SigsMove k)
      (specified sc (name_at name) (with_structure name.text r.env empty_env) (also_bound r.bound made))
      (specified (put_scope (moved k) sc) (name_at name)
      (with_structure name.text (put_env (moved k) r.env) empty_env)
      (also_bound r.bound (put_signature (moved k) made))) _ _
      (specified_moved k sc (name_at name) (with_structure name.text r.env empty_env) (also_bound r.bound made))
      (λ with. structures_moved k sigs sc rest with v w i))

  specs_moved : (k : ℕ) (sigs : Table Signature) (sc : Scope) (specs : SpecPhrases) (made : Signature)
      (st u : Progress) → AreMoved k st u
      → Both (SigsMove k) (infer_specs sigs sc specs made st)
      (infer_specs (moved_signatures k sigs) (put_scope (moved k) sc) specs (put_signature (moved k) made) u)
  specs_moved k sigs sc SpecPhrases.EndOfSpecs made st u h = (refl, h)
  specs_moved k sigs sc (SpecPhrases.Next spec rest) made st u h =
      moves_then k (put_signature (moved k)) (SigsMove k) (infer_spec sigs (under made.env sc) spec made st)
      (infer_spec (moved_signatures k sigs) (under (put_env (moved k) made.env) (put_scope (moved k) sc)) spec
      (put_signature (moved k) made) u) _ _
      (subst (λ z. Both (SigsMove k) (infer_spec sigs (under made.env sc) spec made st)
      (infer_spec (moved_signatures k sigs) z spec (put_signature (moved k) made) u))
      (sym (under_moved k made.env sc)) (spec_moved k sigs (under made.env sc) spec made st u h))
      (λ r v w i. specs_moved k sigs sc rest r v w i)

pub signature_moved : (k : ℕ) (sigs : Table Signature) (sc : Scope) (sig : SigPhrase) (st u : Progress)
    → AreMoved k st u
    → Both (SigsMove k) (signature_of sigs sc sig st)
    (signature_of (moved_signatures k sigs) (put_scope (moved k) sc) sig u)
signature_moved k sigs sc sig st u h =
    moves_then k (put_signature (moved k)) (SigsMove k) (infer_sig sigs sc sig st)
    (infer_sig (moved_signatures k sigs) (put_scope (moved k) sc) sig u) _ _ (sig_moved k sigs sc sig st u h)
    (λ r v w i. (with_names_moved k (bound_names 0 r.bound) r, i))
