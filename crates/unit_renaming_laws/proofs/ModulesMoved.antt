-- Structure expressions and the declarations in them move with the variables.
use Rattle.std.proofs.Common.{◌≡◌, ℕ, List, ◌++◌, length, refl, sym, ap, ◌∙◌, subst}
use Rattle.std.proofs.lemmas.List.{map-append}
use Rattle.std.specs.Option.{is_some}
use Rattle.sml_trees.specs.declared.name.At.{At}
use Rattle.semantic_objects.specs.declared.name.TyName.{TyName}
use Rattle.semantic_objects.specs.declared.entry.TypeFn.{TypeFn}
use Rattle.semantic_objects.specs.Tables.{Table, entry, with_entry}
use Rattle.semantic_objects.specs.Environments.{Env, Signature, Functor, Top, table_of, structures_of, structures, empty_env, with_structure}
use Rattle.realisation.specs.Realised.{of_rows, realised}
use Rattle.static_semantics.specs.Inferring.{Progress, Scope, name_at, known, found_at}
use Rattle.static_semantics.specs.EnvironmentsPut.{put_type, put_value, each_entry, put_env, put_scope}
use Rattle.module_semantics.specs.SignatureNames.{rows_between, unit_names}
use Rattle.module_semantics.specs.SignatureInference.{single, signature_of}
use Rattle.module_semantics.specs.Matching.{Rows, matching, matched}
use Rattle.unit_semantics.specs.UnitPhrases.{ModulePhrase, ModuleDec, ModuleDecs, ModuleBinds}
use Rattle.unit_semantics.specs.StructureInference.{module_at, core_scope, top_under, known_env, transparent, opaque, param_of, result_by, functor_applied, infer_module, infer_module_dec, infer_module_decs, infer_module_binds}
use Rattle.renaming_laws.specs.Moved.{moved, AreMoved, Both, Moves}
use Rattle.renaming_laws.proofs.Answers.{plain_then, moves_then, both_where, known_moved}
use Rattle.renaming_laws.proofs.Environments.{each_with, each_found, each_has, put_has_structures, put_parts, put_modified, put_found}
use Rattle.renaming_laws.proofs.StepsMoved.{DecsMove, dec_sized}
use Rattle.renaming_laws.proofs.CoreMoved.{dec_moved}
use Rattle.renaming_laws.proofs.Beginning.{env_known}
use Rattle.unit_renaming_laws.specs.Moved.{put_type_function, put_realising, put_signature, put_functor, put_top}
use Rattle.unit_renaming_laws.proofs.Realising.{between_stay, realised_by_moved}
use Rattle.unit_renaming_laws.proofs.Specifying.{names_after}
use Rattle.unit_renaming_laws.proofs.Signing.{moved_signatures, opened_moved, signature_moved}
use Rattle.unit_renaming_laws.proofs.MatchingMoved.{RealisingMoves, matching_moved, matched_moved}

-- ---- what is in scope

abbrev pub top_of : Table Signature → Table Functor → Table Functor → Env → Top
top_of signatures functors funsigs env =
    record { env = env; signatures = signatures; functors = functors; funsigs = funsigs }

pub top_under_moved : (k : ℕ) (made : Env) (top : Top)
    → top_under (put_env (moved k) made) (put_top (moved k) top) ≡ put_top (moved k) (top_under made top)
top_under_moved k made top =
    ap (top_of (moved_signatures k top.signatures) (each_entry (put_functor (moved k)) top.functors)
    (each_entry (put_functor (moved k)) top.funsigs)) (put_modified (moved k) top.env made)

pub with_structure_moved : (k : ℕ) (name : List ℕ) (x env : Env)
    → with_structure name (put_env (moved k) x) (put_env (moved k) env)
    ≡ put_env (moved k) (with_structure name x env)
with_structure_moved k name x (Env.MakeEnv ss ts vs) =
    ap (λ z. Env.MakeEnv (structures_of z) (each_entry (put_type (moved k)) ts) (each_entry (put_value (moved k)) vs))
    (ap (with_entry name (put_env (moved k) x)) (put_has_structures (moved k) (Env.MakeEnv ss ts vs))
    ∙ each_with (put_env (moved k)) name x (table_of ss))
    ∙ ap (λ z. Env.MakeEnv z (each_entry (put_type (moved k)) ts) (each_entry (put_value (moved k)) vs))
    (put_parts (moved k) (with_entry name x (table_of ss)))

pub has_structure_moved : (k : ℕ) (name : List ℕ) (made : Env)
    → is_some (entry name (structures (put_env (moved k) made))) ≡ is_some (entry name (structures made))
has_structure_moved k name made = ap (λ z. is_some (entry name z)) (put_has_structures (moved k) made)
    ∙ each_has (put_env (moved k)) name (structures made)

-- ---- steps

pub known_env_moved : (k : ℕ) (env : Env) (st u : Progress) → AreMoved k st u
    → known_env (put_env (moved k) env) u ≡ put_env (moved k) (known_env env st)
known_env_moved k env st u h = env_known k st.types.stands u.types.stands env h.types.stands

matched_known : (k : ℕ) (sc : Scope) (at : At) (env : Env) (sig : Signature) (st u : Progress) → AreMoved k st u
    → Both (Moves (put_env (moved k))) (matched sc at st.types (known_env env st) sig)
    (matched (put_scope (moved k) sc) at u.types (known_env (put_env (moved k) env) u) (put_signature (moved k) sig))
matched_known k sc at env sig st u h =
    subst (λ z. Both (Moves (put_env (moved k))) (matched sc at st.types (known_env env st) sig)
    (matched (put_scope (moved k) sc) at u.types z (put_signature (moved k) sig))) (sym (known_env_moved k env st u h))
    (matched_moved k sc at st.types u.types (known_env env st) sig h.types)

transparent_moved : (k : ℕ) (sc : Scope) (at : At) (env : Env) (sig : Signature) (st u : Progress) → AreMoved k st u
    → Both (DecsMove k) (transparent sc at env (sig, st))
    (transparent (put_scope (moved k) sc) at (put_env (moved k) env) (put_signature (moved k) sig, u))
transparent_moved k sc at env sig st u h =
    plain_then (put_env (moved k)) (DecsMove k) (matched sc at st.types (known_env env st) sig)
    (matched (put_scope (moved k) sc) at u.types (known_env (put_env (moved k) env) u) (put_signature (moved k) sig))
    _ _ (matched_known k sc at env sig st u h) (λ made. (refl, h))

opaque_moved : (k : ℕ) (sc : Scope) (at : At) (env : Env) (sig : Signature) (st u : Progress) → AreMoved k st u
    → Both (DecsMove k) (opaque sc at env (sig, st))
    (opaque (put_scope (moved k) sc) at (put_env (moved k) env) (put_signature (moved k) sig, u))
opaque_moved k sc at env sig st u h =
    plain_then (put_env (moved k)) (DecsMove k) (matched sc at st.types (known_env env st) sig)
    (matched (put_scope (moved k) sc) at u.types (known_env (put_env (moved k) env) u) (put_signature (moved k) sig))
    _ _ (matched_known k sc at env sig st u h) (λ made. (
      ap (λ (z : Signature). z.env) (opened_moved k sc.home sig st u h).0,
      (opened_moved k sc.home sig st u h).1,
    ))

result_moved : (k : ℕ) (home : List ℕ) (fun : Functor) (rows : Rows) (st u : Progress) → AreMoved k st u
    → DecsMove k (result_by home fun rows st) (result_by home (put_functor (moved k) fun) (put_realising (moved k) rows) u)
result_moved k home fun rows st u h =
    let more : Rows = rows_between fun.further (unit_names home st.names fun.further) in (
      ap (λ n. realised (of_rows (put_realising (moved k) rows
          ++ rows_between fun.further (unit_names home n fun.further))) (put_env (moved k) fun.result)) h.names
          ∙ ap (λ z. realised (of_rows z) (put_env (moved k) fun.result))
          (ap (λ z. put_realising (moved k) rows ++ z)
          (sym (between_stay k fun.further (unit_names home st.names fun.further)))
          ∙ sym (map-append (λ (row : TyName × TypeFn). (row.0, put_type_function (moved k) row.1)) rows more))
          ∙ realised_by_moved k (rows ++ more) fun.result,
      names_after k (length fun.further) st u h,
    )

pub applied_moved : (k : ℕ) (sc : Scope) (at : At) (fun : Functor) (env : Env) (st u : Progress) → AreMoved k st u
    → Both (DecsMove k) (functor_applied sc at fun (env, st))
    (functor_applied (put_scope (moved k) sc) at (put_functor (moved k) fun) (put_env (moved k) env, u))
applied_moved k sc at fun env st u h =
    plain_then (put_realising (moved k)) (DecsMove k) (matching sc at st.types (known_env env st) (param_of fun))
    (matching (put_scope (moved k) sc) at u.types (known_env (put_env (moved k) env) u)
    (param_of (put_functor (moved k) fun))) _ _
    (subst (λ z. Both (RealisingMoves k) (matching sc at st.types (known_env env st) (param_of fun))
    (matching (put_scope (moved k) sc) at u.types z (put_signature (moved k) (param_of fun))))
    (sym (known_env_moved k env st u h))
    (matching_moved k sc at st.types u.types (known_env env st) (param_of fun) h.types))
    (λ rows. result_moved k sc.home fun rows st u h)

-- ---- the phrases

mutual
  pub module_moved : (k depth : ℕ) (home : List ℕ) (top : Top) (str : ModulePhrase) (st u : Progress)
      → AreMoved k st u
      → Both (DecsMove k) (infer_module depth home top str st)
      (infer_module depth home (put_top (moved k) top) str u)
  module_moved k depth home top (ModulePhrase.Struct dec at) st u h = module_dec_moved k depth home top dec st u h
  module_moved k depth home top (ModulePhrase.Named long at) st u h =
      plain_then (put_env (moved k)) (DecsMove k)
      (known (core_scope home top) long (found_at structures long.parts top.env))
      (known (put_scope (moved k) (core_scope home top)) long
      (found_at structures long.parts (put_env (moved k) top.env))) _ _
      (known_moved k (put_env (moved k)) (core_scope home top) long (found_at structures long.parts top.env)
      (found_at structures long.parts (put_env (moved k) top.env))
      (put_found (moved k) (put_env (moved k)) structures (put_has_structures (moved k)) long.parts top.env))
      (λ env. (refl, h))
  module_moved k depth home top (ModulePhrase.Transparent str sig at) st u h =
      let sc : Scope = core_scope home top in
      moves_then k (put_env (moved k)) (DecsMove k) (infer_module depth home top str st)
      (infer_module depth home (put_top (moved k) top) str u) _ _ (module_moved k depth home top str st u h)
      (λ e v w i.
      moves_then k (put_signature (moved k)) (DecsMove k) (signature_of top.signatures sc sig v)
      (signature_of (moved_signatures k top.signatures) (put_scope (moved k) sc) sig w) _ _
      (signature_moved k top.signatures sc sig v w i)
      (λ r x y j. transparent_moved k sc (module_at str) e r x y j))
  module_moved k depth home top (ModulePhrase.Opaque str sig at) st u h =
      let sc : Scope = core_scope home top in
      moves_then k (put_env (moved k)) (DecsMove k) (infer_module depth home top str st)
      (infer_module depth home (put_top (moved k) top) str u) _ _ (module_moved k depth home top str st u h)
      (λ e v w i.
      moves_then k (put_signature (moved k)) (DecsMove k) (signature_of top.signatures sc sig v)
      (signature_of (moved_signatures k top.signatures) (put_scope (moved k) sc) sig w) _ _
      (signature_moved k top.signatures sc sig v w i)
      (λ r x y j. opaque_moved k sc (module_at str) e r x y j))
  module_moved k depth home top (ModulePhrase.Functor name argument at) st u h =
      let sc : Scope = core_scope home top in
      plain_then (put_functor (moved k)) (DecsMove k) (known sc (single name) (entry name.text top.functors))
      (known (put_scope (moved k) sc) (single name)
      (entry name.text (each_entry (put_functor (moved k)) top.functors))) _ _
      (known_moved k (put_functor (moved k)) sc (single name) (entry name.text top.functors)
      (entry name.text (each_entry (put_functor (moved k)) top.functors))
      (each_found (put_functor (moved k)) name.text top.functors)) (λ fun.
      moves_then k (put_env (moved k)) (DecsMove k) (infer_module depth home top argument st)
      (infer_module depth home (put_top (moved k) top) argument u) _ _
      (module_moved k depth home top argument st u h)
      (λ e v w i. applied_moved k sc (module_at argument) fun e v w i))
  module_moved k depth home top (ModulePhrase.Within dec body at) st u h =
      moves_then k (put_env (moved k)) (DecsMove k) (infer_module_dec depth home top dec st)
      (infer_module_dec depth home (put_top (moved k) top) dec u) _ _ (module_dec_moved k depth home top dec st u h)
      (λ d v w i.
      subst (λ z. Both (DecsMove k) (infer_module depth home (top_under d top) body v)
      (infer_module depth home z body w)) (sym (top_under_moved k d top))
      (module_moved k depth home (top_under d top) body v w i))

  pub module_dec_moved : (k depth : ℕ) (home : List ℕ) (top : Top) (dec : ModuleDec) (st u : Progress)
      → AreMoved k st u
      → Both (DecsMove k) (infer_module_dec depth home top dec st)
      (infer_module_dec depth home (put_top (moved k) top) dec u)
  module_dec_moved k depth home top (ModuleDec.Core dec) st u h = dec_moved k depth (core_scope home top) dec st u h
  module_dec_moved k depth home top (ModuleDec.Local hidden shown at) st u h =
      moves_then k (put_env (moved k)) (DecsMove k) (infer_module_dec depth home top hidden st)
      (infer_module_dec depth home (put_top (moved k) top) hidden u) _ _
      (module_dec_moved k depth home top hidden st u h) (λ d v w i.
      moves_then k (put_env (moved k)) (DecsMove k) (infer_module_dec depth home (top_under d top) shown v)
      (infer_module_dec depth home (top_under (put_env (moved k) d) (put_top (moved k) top)) shown w) _ _
      (subst (λ z. Both (DecsMove k) (infer_module_dec depth home (top_under d top) shown v)
      (infer_module_dec depth home z shown w)) (sym (top_under_moved k d top))
      (module_dec_moved k depth home (top_under d top) shown v w i))
      (λ r x y j. dec_sized k (core_scope home top) at r x y j))
  module_dec_moved k depth home top (ModuleDec.Sequence decs at) st u h =
      module_decs_moved k depth home top decs st u h
  module_dec_moved k depth home top (ModuleDec.Structures binds at) st u h =
      moves_then k (put_env (moved k)) (DecsMove k) (infer_module_binds depth home top binds empty_env st)
      (infer_module_binds depth home (put_top (moved k) top) binds empty_env u) _ _
      (module_binds_moved k depth home top binds empty_env st u h)
      (λ r v w i. dec_sized k (core_scope home top) at r v w i)

  module_decs_moved : (k depth : ℕ) (home : List ℕ) (top : Top) (decs : ModuleDecs) (st u : Progress)
      → AreMoved k st u
      → Both (DecsMove k) (infer_module_decs depth home top decs st)
      (infer_module_decs depth home (put_top (moved k) top) decs u)
  module_decs_moved k depth home top ModuleDecs.EndOfDecs st u h = (refl, h)
  module_decs_moved k depth home top (ModuleDecs.Dec dec rest) st u h =
      moves_then k (put_env (moved k)) (DecsMove k) (infer_module_dec depth home top dec st)
      (infer_module_dec depth home (put_top (moved k) top) dec u) _ _ (module_dec_moved k depth home top dec st u h)
      (λ r v w i.
      moves_then k (put_env (moved k)) (DecsMove k) (infer_module_decs depth home (top_under r top) rest v)
      (infer_module_decs depth home (top_under (put_env (moved k) r) (put_top (moved k) top)) rest w) _ _
      (subst (λ z. Both (DecsMove k) (infer_module_decs depth home (top_under r top) rest v)
      (infer_module_decs depth home z rest w)) (sym (top_under_moved k r top))
      (module_decs_moved k depth home (top_under r top) rest v w i))
      (λ q x y j. (put_modified (moved k) r q, j)))

  module_binds_moved : (k depth : ℕ) (home : List ℕ) (top : Top) (binds : ModuleBinds) (made : Env)
      (st u : Progress) → AreMoved k st u
      → Both (DecsMove k) (infer_module_binds depth home top binds made st)
      (infer_module_binds depth home (put_top (moved k) top) binds (put_env (moved k) made) u)
  module_binds_moved k depth home top ModuleBinds.EndOfBinds made st u h = (refl, h)
  module_binds_moved k depth home top (ModuleBinds.Bind name str rest) made st u h =
      both_where k (DecsMove k) (is_some (entry name.text (structures made)))
      (is_some (entry name.text (structures (put_env (moved k) made)))) 40 (core_scope home top) (name_at name) _ _
      (has_structure_moved k name.text made)
      (moves_then k (put_env (moved k)) (DecsMove k) (infer_module depth home top str st)
      (infer_module depth home (put_top (moved k) top) str u) _ _ (module_moved k depth home top str st u h)
      (λ r v w i.
      subst (λ z. Both (DecsMove k) (infer_module_binds depth home top rest (with_structure name.text r made) v)
      (infer_module_binds depth home (put_top (moved k) top) rest z w))
      (sym (with_structure_moved k name.text r made))
      (module_binds_moved k depth home top rest (with_structure name.text r made) v w i)))
