-- The steps of a signature with `where type`.
use Rattle.std.proofs.Common.{◌≡◌, ℕ, refl, sym, ap, ap₂, ◌∙◌, subst, List, [], ◌∷◌, Option, Some, None}
use Rattle.std.specs.List.{join_with_byte}
use Rattle.std.specs.Option.{option_map}
use Rattle.std.specs.Prelude.{Result, Ok, Err, IsErrAnd}
use Rattle.cm_base.specs.declared.diag.Diag.{Diag}
use Rattle.cm_base.specs.declared.fault.Fault.{Fault}
use Rattle.sml_trees.specs.declared.name.At.{At}
use Rattle.sml_trees.specs.declared.name.Name.{Name}
use Rattle.sml_trees.specs.declared.name.LongName.{LongName}
use Rattle.semantic_objects.specs.declared.entry.TypeFn.{TypeFn}
use Rattle.semantic_objects.specs.declared.entry.TypeStr.{TypeStr}
use Rattle.semantic_objects.specs.Environments.{Env, Signature, types}
use Rattle.sml_modules.specs.Items.{function_of}
use Rattle.sml_modules.specs.Graphs.{Graph}
use Rattle.name_trails.specs.Trails.{Rows}
use Rattle.unification.specs.Types.{Ty}
use Rattle.bare_phrases.specs.Phrases.{TyPhrase}
use Rattle.static_semantics.specs.Inferring.{Progress, Scope, with_written_alone, Answer, ◌>>=◌, gives, long_at, known, found_at}
use Rattle.static_semantics.specs.TypeInference.{infer_ty, listed, numbers, as_written, type_function}
use Rattle.module_semantics.specs.SignatureInference.{where_type}
use Rattle.type_phrases.specs.Inferred.{Answers, Refuses}
use Rattle.type_phrases.proofs.Steps.{failed, refused}
use Rattle.type_phrases.proofs.PartsRead.{passed_on}
use Rattle.type_declarations.specs.Binding.{infer_function}
use Rattle.where_types.specs.Where.{infer_where, known_function}

in_steps : {A B C : Type 0} (m : Answer A) (f : A → B) (h : B → Answer C)
    → (m >>= λ x. h (f x)) ≡ ((m >>= λ x. gives (f x)) >>= h)
in_steps None f h = refl
in_steps (Some (Err d)) f h = refl
in_steps (Some (Ok x)) f h = refl

by_function : {C : Type 0} (sc : Scope) (long : LongName) (found : Option TypeStr) (h : TypeFn → Answer C)
    → (known sc long found >>= λ str. h str.function) ≡ (known_function sc long found >>= h)
by_function sc long found h = in_steps (known sc long found) (λ (str : TypeStr). str.function) h

-- ---- a type that is looked up

as_found : (inner : Scope) (long : LongName) (found : Option TypeStr) (function : TypeFn)
    → Some function ≡ option_map function_of found → known_function inner long found ≡ gives function
as_found inner long None function h = absurd (cc)
as_found inner long (Some str) function h =
    let k : function ≡ str.function = cc in ap (λ (f : TypeFn). gives f) (sym k)

as_missing : {S : Type 0} (g : Graph) (inner : Scope) (long : LongName) (found : Option TypeStr) (s : S → TypeFn)
    (e : Fault) → None ≡ option_map function_of found → inner.home ≡ g.home
    → Refuses g 30 (long_at long) (join_with_byte 46 long.parts ∷ []) e
    → Answers (known_function inner long found) s (Err e)
as_missing g inner long None s e h home k =
    failed (known inner long None) (λ (str : TypeStr). gives str.function) (λ (x : TypeStr). x) s e
    (refused g inner 30 (long_at long) (join_with_byte 46 long.parts ∷ []) (λ (x : TypeStr). x) e home k)
as_missing g inner long (Some str) s e h home k = absurd (cc)

pub function_found : (inner : Scope) (long : LongName) (env other : Env) (parts : List (List ℕ)) (function : TypeFn)
    → Some function ≡ option_map function_of (found_at types parts other) → parts ≡ long.parts → other ≡ env
    → known_function inner long (found_at types long.parts env) ≡ gives function
function_found inner long env other parts function h e f =
    as_found inner long (found_at types long.parts env) function
    (h ∙ ap₂ (λ ps d. option_map function_of (found_at types ps d)) e f)

pub function_missing : {S : Type 0} (g : Graph) (inner : Scope) (long : LongName) (env other : Env)
    (parts : List (List ℕ)) (s : S → TypeFn) (e : Fault) → None ≡ option_map function_of (found_at types parts other)
    → parts ≡ long.parts → other ≡ env → inner.home ≡ g.home
    → Refuses g 30 (long_at long) (join_with_byte 46 long.parts ∷ []) e
    → Answers (known_function inner long (found_at types long.parts env)) s (Err e)
function_missing g inner long env other parts s e h d f home k =
    as_missing g inner long (found_at types long.parts env) s e
    (h ∙ ap₂ (λ ps z. option_map function_of (found_at types ps z)) d f) home k

-- ---- all steps

module _ (sc : Scope) (tyvars : List Name) (long : LongName) (ty : TyPhrase) (at : At) (sig : Signature)
    (st : Progress) where
  abbrev last_step : Rows ℕ × Progress → TypeFn → TypeFn → Answer (Signature × Progress)
  last_step own old by = where_type sc at long old by sig >>= λ with. gives (with, own.1)

  abbrev typed_step : Rows ℕ × Progress → TypeFn → Answer (Signature × Progress)
  typed_step own old =
      infer_ty (with_written_alone (as_written own.0) sc) ty
      >>= λ t. last_step own old (type_function (numbers own.0) t)

  abbrev found_step : Rows ℕ × Progress → Answer (Signature × Progress)
  found_step own = known sc long (found_at types long.parts sig.env) >>= λ str. typed_step own str.function

  pub unlisted : {R S : Type 0} (r : R → Rows ℕ × Progress) (s : S → Signature × Progress) (e : Fault)
      (q : Result S Fault) → IsErrAnd q (λ f. f ≡ e) → Answers (listed sc tyvars [] st) r (Err e)
      → Answers (infer_where sc tyvars long ty at sig st) s q
  unlisted r s e q is h =
      passed_on (λ z. Answers (infer_where sc tyvars long ty at sig st) s z) q e is
      (failed (listed sc tyvars [] st) found_step r s e h)

  module _ (own : Rows ℕ × Progress) (lists : listed sc tyvars [] st ≡ gives own) where
    after_list : infer_where sc tyvars long ty at sig st
        ≡ (known_function sc long (found_at types long.parts sig.env) >>= typed_step own)
    after_list =
        ap (λ (m : Answer (Rows ℕ × Progress)). m >>= found_step) lists
        ∙ by_function sc long (found_at types long.parts sig.env) (typed_step own)

    pub unfound : {R S : Type 0} (r : R → TypeFn) (s : S → Signature × Progress) (e : Fault)
        (q : Result S Fault) → IsErrAnd q (λ f. f ≡ e)
        → Answers (known_function sc long (found_at types long.parts sig.env)) r (Err e)
        → Answers (infer_where sc tyvars long ty at sig st) s q
    unfound r s e q is h =
        passed_on (λ z. Answers (infer_where sc tyvars long ty at sig st) s z) q e is
        (subst (λ (w : Answer (Signature × Progress)). Answers w s (Err e)) (sym after_list)
        (failed (known_function sc long (found_at types long.parts sig.env)) (typed_step own) r s e h))

    module _ (old : TypeFn) (found : known_function sc long (found_at types long.parts sig.env) ≡ gives old) where
      after_found : infer_where sc tyvars long ty at sig st ≡ (infer_function sc own.0 ty >>= last_step own old)
      after_found =
          after_list ∙ ap (λ (m : Answer TypeFn). m >>= typed_step own) found
          ∙ in_steps (infer_ty (with_written_alone (as_written own.0) sc) ty)
          (λ t. type_function (numbers own.0) t) (last_step own old)

      pub untyped : {R S : Type 0} (r : R → TypeFn) (s : S → Signature × Progress) (e : Fault) (q : Result S Fault)
          → IsErrAnd q (λ f. f ≡ e) → Answers (infer_function sc own.0 ty) r (Err e)
          → Answers (infer_where sc tyvars long ty at sig st) s q
      untyped r s e q is h =
          passed_on (λ z. Answers (infer_where sc tyvars long ty at sig st) s z) q e is
          (subst (λ (w : Answer (Signature × Progress)). Answers w s (Err e)) (sym after_found)
          (failed (infer_function sc own.0 ty) (last_step own old) r s e h))

      module _ (by : TypeFn) (typed : infer_function sc own.0 ty ≡ gives by) where
        after_type : infer_where sc tyvars long ty at sig st ≡ last_step own old by
        after_type = after_found ∙ ap (λ (m : Answer TypeFn). m >>= last_step own old) typed

        pub unfit : {R S : Type 0} (r : R → Signature) (s : S → Signature × Progress) (e : Fault) (q : Result S Fault)
            → IsErrAnd q (λ f. f ≡ e) → Answers (where_type sc at long old by sig) r (Err e)
            → Answers (infer_where sc tyvars long ty at sig st) s q
        unfit r s e q is h =
            passed_on (λ z. Answers (infer_where sc tyvars long ty at sig st) s z) q e is
            (subst (λ (w : Answer (Signature × Progress)). Answers w s (Err e)) (sym after_type)
            (failed (where_type sc at long old by sig) (λ with. gives (with, own.1)) r s e h))

        pub replaced_by : (with made : Signature) (after : Progress) → where_type sc at long old by sig ≡ gives with
            → made ≡ with → own.1 ≡ after → infer_where sc tyvars long ty at sig st ≡ gives (made, after)
        replaced_by with made after h same end =
            after_type ∙ ap (λ (m : Answer Signature). m >>= λ z. gives (z, own.1)) h
            ∙ ap₂ (λ (z : Signature) (p : Progress). gives (z, p)) (sym same) end
