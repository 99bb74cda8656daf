-- Exceptions that are specified, one after another.
use Rattle.std.proofs.Common.{◌≡◌, ℕ, refl, sym, ap, ap₂, ◌∙◌, subst, List, [], ◌∷◌, Option, Some, None}
use Rattle.std.specs.Prelude.{Result, Ok, Err, IsErrAnd}
use Rattle.std.specs.Option.{option_map}
use Rattle.cm_base.specs.declared.fault.Fault.{Fault}
use Rattle.sml_trees.specs.declared.ty.Ty.{Ty as Phrase}
use Rattle.semantic_objects.specs.declared.entry.ValueEntry.{ValueEntry}
use Rattle.semantic_objects.specs.declared.symbol.Symbol.TheVariants as symbol
use Rattle.semantic_objects.specs.Trees.{Tree, Trees, trees_of, BindsBelow}
use Rattle.semantic_objects.specs.Environments.{Signature, empty_env, with_value}
use Rattle.unification.specs.Types.{Ty}
use Rattle.unification.specs.Closing.{closed_over}
use Rattle.type_nodes.specs.Tables.{Table}
use Rattle.bare_phrases.specs.Phrases.{TyPhrase, ConPhrase}
use Rattle.bare_phrases.specs.PhraseOf.{ty_phrase}
use Rattle.name_trails.specs.Trails.{Rows}
use Rattle.static_semantics.specs.BasicTypes.{exn_ty, arrow_ty}
use Rattle.static_semantics.specs.Inferring.{Scope, with_written_alone, Answer, ◌>>=◌, gives, name_at}
use Rattle.static_semantics.specs.TypeInference.{infer_ty}
use Rattle.static_semantics.specs.DatatypeInference.{infer_optional_ty, exception_entry}
use Rattle.inference_laws.proofs.Nodes.{closed_binds}
use Rattle.type_phrases.specs.Inferred.{Answers}
use Rattle.type_phrases.proofs.Steps.{failed}
use Rattle.type_phrases.proofs.PartsRead.{passed_on}
use Rattle.module_semantics.specs.SignatureInference.{exception_ty, specified, infer_exception_specs}
use Rattle.signature_specs.specs.Variables.{IsListIn}
use Rattle.signature_specs.specs.Steps.{open_exception, exception_with, infer_exception}

-- ---- one exception

pub no_list : (t : Table) (list : Rows ℕ) → list ≡ [] → IsListIn t list
no_list t list e = subst (IsListIn t) (sym e) (record { first = 0; numbered = tt })

pub exn_binds : (tree : Tree) → tree ≡ closed_over [] exn_ty → BindsBelow 0 tree
exn_binds tree e = subst (BindsBelow 0) (sym e) (closed_binds [] exn_ty)

arrow_is : (ty : Ty) (arg exn body : Tree) → arg ≡ closed_over [] ty → exn ≡ closed_over [] exn_ty
    → body ≡ Tree.Made symbol.Arrow (trees_of (arg ∷ exn ∷ [])) → body ≡ closed_over [] (arrow_ty ty exn_ty)
arrow_is ty arg exn body e f h =
    h ∙ ap₂ (λ x y. Tree.Made symbol.Arrow (Trees.Cons x (Trees.Cons y Trees.Nil))) e f

pub arrow_binds : (ty : Ty) (arg exn body : Tree) → arg ≡ closed_over [] ty → exn ≡ closed_over [] exn_ty
    → body ≡ Tree.Made symbol.Arrow (trees_of (arg ∷ exn ∷ [])) → BindsBelow 0 body
arrow_binds ty arg exn body e f h =
    subst (BindsBelow 0) (sym (arrow_is ty arg exn body e f h)) (closed_binds [] (arrow_ty ty exn_ty))

pub with_made : (inner : Scope) (phrase : TyPhrase) (ty : Ty) (arg exn body : Tree) (entry : ValueEntry)
    → infer_ty (with_written_alone [] inner) phrase ≡ gives ty → arg ≡ closed_over [] ty
    → exn ≡ closed_over [] exn_ty → body ≡ Tree.Made symbol.Arrow (trees_of (arg ∷ exn ∷ []))
    → entry ≡ open_exception body → exception_with inner phrase ≡ gives entry
with_made inner phrase ty arg exn body entry infers e f h k =
    ap (λ (m : Answer Ty). m >>= λ t. gives (exception_entry (exception_ty (Some t)))) infers
    ∙ ap gives (ap open_exception (sym (arrow_is ty arg exn body e f h)) ∙ sym k)

pub with_refused : {R S : Type 0} (inner : Scope) (phrase : TyPhrase) (r : R → Ty) (s : S → ValueEntry) (e : Fault)
    (q : Result S Fault) → IsErrAnd q (λ f. f ≡ e)
    → Answers (infer_ty (with_written_alone [] inner) phrase) r (Err e) → Answers (exception_with inner phrase) s q
with_refused inner phrase r s e q is h =
    passed_on (λ z. Answers (exception_with inner phrase) s z) q e is
    (failed (infer_ty (with_written_alone [] inner) phrase) (λ t. gives (exception_entry (exception_ty (Some t)))) r s e h)

two_steps : (m : Answer Ty)
    → (m >>= λ t. gives (exception_entry (exception_ty (Some t))))
    ≡ ((m >>= λ t. gives (Some t)) >>= λ a. gives (exception_entry (exception_ty a)))
two_steps None = refl
two_steps (Some (Err d)) = refl
two_steps (Some (Ok x)) = refl

pub argument_is : (inner : Scope) (arg : Option Phrase) (ty : Phrase) → arg ≡ Some ty
    → exception_with inner (ty_phrase ty) ≡ infer_exception inner (option_map ty_phrase arg)
argument_is inner arg ty e =
    two_steps (infer_ty (with_written_alone [] inner) (ty_phrase ty))
    ∙ ap (λ o. infer_exception inner (option_map ty_phrase o)) (sym e)

pub none_is : (inner : Scope) (arg : Option Phrase) (tree : Tree) (entry : ValueEntry) → arg ≡ None
    → tree ≡ closed_over [] exn_ty → entry ≡ open_exception tree
    → infer_exception inner (option_map ty_phrase arg) ≡ gives entry
none_is inner arg tree entry e f h =
    ap (λ o. infer_exception inner (option_map ty_phrase o)) e
    ∙ ap gives (ap open_exception (sym f) ∙ sym h)

-- ---- one after another

abbrev rest_of : Scope → ConPhrase → List ConPhrase → Signature → ValueEntry → Answer Signature
rest_of inner con cons sig entry =
    specified inner (name_at con.name) (with_value con.name.text entry empty_env) sig
    >>= λ more. infer_exception_specs inner cons more

in_steps : {A B C : Type 0} (m : Answer A) (f : A → B) (h : B → Answer C)
    → (m >>= λ x. h (f x)) ≡ ((m >>= λ x. gives (f x)) >>= h)
in_steps None f h = refl
in_steps (Some (Err d)) f h = refl
in_steps (Some (Ok x)) f h = refl

first_exception : (inner : Scope) (con : ConPhrase) (left rest : List ConPhrase) (sig : Signature) → left ≡ con ∷ rest
    → infer_exception_specs inner left sig ≡ (infer_exception inner con.arg >>= rest_of inner con rest sig)
first_exception inner con left rest sig e =
    ap (λ xs. infer_exception_specs inner xs sig) e
    ∙ in_steps (infer_optional_ty (with_written_alone [] inner) con.arg) (λ a. exception_entry (exception_ty a))
    (rest_of inner con rest sig)

abbrev ExceptionsLeft : Scope → List ConPhrase → Signature → List ConPhrase → Signature → Type 0
ExceptionsLeft inner cons first left sig = infer_exception_specs inner cons first ≡ infer_exception_specs inner left sig

module _ (inner : Scope) (cons left rest : List ConPhrase) (con : ConPhrase) (first sig : Signature)
    (sofar : ExceptionsLeft inner cons first left sig) (next : left ≡ con ∷ rest) where
  pub exceptions_refused : {R S : Type 0} (r : R → ValueEntry) (s : S → Signature) (e : Fault)
      (q : Result S Fault) → IsErrAnd q (λ f. f ≡ e) → Answers (infer_exception inner con.arg) r (Err e)
      → Answers (infer_exception_specs inner cons first) s q
  exceptions_refused {R} {S} r s e q is h =
      passed_on (λ z. Answers (infer_exception_specs inner cons first) s z) q e is
      (subst (λ (w : Answer Signature). Answers w s (Err e))
      (sym (sofar ∙ first_exception inner con left rest sig next))
      (failed (infer_exception inner con.arg) (rest_of inner con rest sig) r s e h))

  pub exceptions_taken : {R S : Type 0} (entry : ValueEntry) (r : R → Signature) (s : S → Signature)
      (e : Fault) (q : Result S Fault) → IsErrAnd q (λ f. f ≡ e) → infer_exception inner con.arg ≡ gives entry
      → Answers (specified inner (name_at con.name) (with_value con.name.text entry empty_env) sig) r (Err e)
      → Answers (infer_exception_specs inner cons first) s q
  exceptions_taken {R} {S} entry r s e q is k h =
      passed_on (λ z. Answers (infer_exception_specs inner cons first) s z) q e is
      (subst (λ (w : Answer Signature). Answers w s (Err e))
      (sym (sofar ∙ first_exception inner con left rest sig next
      ∙ ap (λ (m : Answer ValueEntry). m >>= rest_of inner con rest sig) k))
      (failed (specified inner (name_at con.name) (with_value con.name.text entry empty_env) sig)
      (λ more. infer_exception_specs inner rest more) r s e h))

  pub exceptions_more : (entry : ValueEntry) (more : Signature) → infer_exception inner con.arg ≡ gives entry
      → specified inner (name_at con.name) (with_value con.name.text entry empty_env) sig ≡ gives more
      → ExceptionsLeft inner cons first rest more
  exceptions_more entry more k h =
      sofar ∙ first_exception inner con left rest sig next
      ∙ ap (λ (m : Answer ValueEntry). m >>= rest_of inner con rest sig) k
      ∙ ap (λ (m : Answer Signature). m >>= λ z. infer_exception_specs inner rest z) h

pub exceptions_all : (inner : Scope) (cons left : List ConPhrase) (first sig : Signature)
    → ExceptionsLeft inner cons first left sig → left ≡ [] → infer_exception_specs inner cons first ≡ gives sig
exceptions_all inner cons left first sig sofar e = sofar ∙ ap (λ xs. infer_exception_specs inner xs sig) e
