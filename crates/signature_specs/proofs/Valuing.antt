-- Values that are specified, one after another.
use Rattle.std.proofs.Common.{◌≡◌, ℕ, refl, sym, ap, ap₂, ◌∙◌, subst, List, [], ◌∷◌, length, Some, None, Bool}
use Rattle.std.specs.Prelude.{Result, Ok, Err, IsErrAnd}
use Rattle.std.proofs.lemmas.List.{length-map}
use Rattle.cm_base.specs.declared.fault.Fault.{Fault}
use Rattle.semantic_objects.specs.declared.entry.ValueEntry.{ValueEntry}
use Rattle.semantic_objects.specs.Trees.{Tree, BindsBelow}
use Rattle.semantic_objects.specs.Environments.{Signature, empty_env, with_value}
use Rattle.unification.specs.Types.{Ty, State}
use Rattle.unification.specs.Closing.{closed_over}
use Rattle.type_nodes.specs.Tables.{Table, state, type_of}
use Rattle.bare_phrases.specs.Phrases.{TyPhrase}
use Rattle.sml_modules.specs.Graphs.{Graph}
use Rattle.name_trails.specs.Trails.{Rows}
use Rattle.static_semantics.specs.Inferring.{Progress, Scope, with_written_alone, Answer, ◌>>=◌, gives, name_at}
use Rattle.static_semantics.specs.TypeInference.{infer_ty, as_written, numbers}
use Rattle.inference_laws.proofs.Nodes.{closed_binds}
use Rattle.type_phrases.specs.Inferred.{Answers, progress}
use Rattle.type_phrases.proofs.Steps.{failed}
use Rattle.type_phrases.proofs.PartsRead.{passed_on}
use Rattle.listed_types.specs.declared.listed.ListedType.{ListedType}
use Rattle.module_semantics.specs.SigPhrases.{ValPhrase}
use Rattle.module_semantics.specs.SignatureInference.{variables_of, val_entry, specified, infer_vals}
use Rattle.signature_specs.specs.Variables.{marks_of}
use Rattle.signature_specs.specs.Steps.{closed_entry, val_under, infer_val}

-- ---- one value

pub marks_bind : (own : Rows ℕ) (marks : List Bool) (body : Tree) → marks ≡ marks_of own
    → BindsBelow (length own) body → BindsBelow (length marks) body
marks_bind own marks body e h =
    subst (λ n. BindsBelow n body)
    (sym (length-map own (λ (row : List ℕ × ℕ). _)) ∙ ap length (sym e)) h

pub own_bind : (own : Rows ℕ) (ty : Ty) (body : Tree) → body ≡ closed_over (numbers own) ty
    → BindsBelow (length own) body
own_bind own ty body e =
    subst (λ n. BindsBelow n body) (length-map own (λ (row : List ℕ × ℕ). row.1))
    (subst (BindsBelow (length (numbers own))) (sym e) (closed_binds (numbers own) ty))

pub same_progress : (g : Graph) (old new : Table) → state new ≡ state old → progress old g ≡ progress new g
same_progress g old new e = ap (λ (s : State). (let st : Progress = record { types = s; names = length g.made } in st)) (sym e)

module _ (g : Graph) (inner : Scope) (ty : TyPhrase) (st : Progress) (mid new : Table) (own : Rows ℕ)
    (listed : variables_of ty st ≡ (own, progress mid g)) where
  pub val_refused : {S : Type 0} (s : S → ValueEntry × Progress) (e : Fault) (r : Result S Fault)
      → IsErrAnd r (λ f. f ≡ e)
      → Answers {R = ListedType} (infer_ty (with_written_alone (as_written own) inner) ty)
      (λ made. type_of new made.id) (Err e)
      → Answers (infer_val inner ty st) s r
  val_refused {S} s e r is h =
      passed_on (λ q. Answers (infer_val inner ty st) s q) r e is
      (subst (λ (w : Answer (ValueEntry × Progress)). Answers w s (Err e)) (sym (ap (val_under inner ty) listed))
      (failed {R = ListedType} (infer_ty (with_written_alone (as_written own) inner) ty)
      (λ t. gives (val_entry own t, progress mid g)) (λ made. type_of new made.id) s e h))

  pub val_made : (made : ListedType) (entry : ValueEntry) → state new ≡ state mid
      → infer_ty (with_written_alone (as_written own) inner) ty ≡ gives (type_of new made.id)
      → made.tree ≡ closed_over (numbers own) (type_of new made.id) → entry ≡ closed_entry own made.tree
      → infer_val inner ty st ≡ gives (entry, progress new g)
  val_made made entry same h tree e =
      ap (val_under inner ty) listed
      ∙ ap (λ (m : Answer Ty). m >>= λ t. gives (val_entry own t, progress mid g)) h
      ∙ ap₂ (λ (x : ValueEntry) (p : Progress). gives (x, p))
      (ap (closed_entry own) (sym tree) ∙ sym e) (same_progress g mid new same)

-- ---- one after another

abbrev rest_of : Scope → ValPhrase → List ValPhrase → Signature → ValueEntry × Progress → Answer (Signature × Progress)
rest_of inner desc descs sig r =
    specified inner (name_at desc.name) (with_value desc.name.text r.0 empty_env) sig
    >>= λ more. infer_vals inner descs more r.1

in_steps : {A B C : Type 0} (m : Answer A) (f : A → B) (h : B → Answer C)
    → (m >>= λ x. h (f x)) ≡ ((m >>= λ x. gives (f x)) >>= h)
in_steps None f h = refl
in_steps (Some (Err d)) f h = refl
in_steps (Some (Ok x)) f h = refl

first_val : (inner : Scope) (desc : ValPhrase) (left rest : List ValPhrase) (sig : Signature) (st : Progress)
    → left ≡ desc ∷ rest
    → infer_vals inner left sig st ≡ (infer_val inner desc.ty st >>= rest_of inner desc rest sig)
first_val inner desc left rest sig st e =
    ap (λ xs. infer_vals inner xs sig st) e
    ∙ in_steps (infer_ty (with_written_alone (as_written (variables_of desc.ty st).0) inner) desc.ty)
    (λ t. (val_entry (variables_of desc.ty st).0 t, (variables_of desc.ty st).1)) (rest_of inner desc rest sig)

abbrev ValsLeft : Scope → List ValPhrase → Signature → Progress → List ValPhrase → Signature → Progress → Type 0
ValsLeft inner descs first st left sig u = infer_vals inner descs first st ≡ infer_vals inner left sig u

module _ (inner : Scope) (descs left rest : List ValPhrase) (desc : ValPhrase) (first sig : Signature)
    (st u : Progress) (sofar : ValsLeft inner descs first st left sig u) (next : left ≡ desc ∷ rest) where
  pub vals_refused : {R S : Type 0} (r : R → ValueEntry × Progress) (s : S → Signature × Progress) (e : Fault)
      (q : Result S Fault) → IsErrAnd q (λ f. f ≡ e) → Answers (infer_val inner desc.ty u) r (Err e)
      → Answers (infer_vals inner descs first st) s q
  vals_refused {R} {S} r s e q is h =
      passed_on (λ z. Answers (infer_vals inner descs first st) s z) q e is
      (subst (λ (w : Answer (Signature × Progress)). Answers w s (Err e))
      (sym (sofar ∙ first_val inner desc left rest sig u next))
      (failed (infer_val inner desc.ty u) (rest_of inner desc rest sig) r s e h))

  pub vals_taken : {R S : Type 0} (entry : ValueEntry) (v : Progress) (r : R → Signature) (s : S → Signature × Progress)
      (e : Fault) (q : Result S Fault) → IsErrAnd q (λ f. f ≡ e) → infer_val inner desc.ty u ≡ gives (entry, v)
      → Answers (specified inner (name_at desc.name) (with_value desc.name.text entry empty_env) sig) r (Err e)
      → Answers (infer_vals inner descs first st) s q
  vals_taken {R} {S} entry v r s e q is k h =
      passed_on (λ z. Answers (infer_vals inner descs first st) s z) q e is
      (subst (λ (w : Answer (Signature × Progress)). Answers w s (Err e))
      (sym (sofar ∙ first_val inner desc left rest sig u next
      ∙ ap (λ (m : Answer (ValueEntry × Progress)). m >>= rest_of inner desc rest sig) k))
      (failed (specified inner (name_at desc.name) (with_value desc.name.text entry empty_env) sig)
      (λ more. infer_vals inner rest more v) r s e h))

  pub vals_more : (entry : ValueEntry) (v : Progress) (more : Signature) → infer_val inner desc.ty u ≡ gives (entry, v)
      → specified inner (name_at desc.name) (with_value desc.name.text entry empty_env) sig ≡ gives more
      → ValsLeft inner descs first st rest more v
  vals_more entry v more k h =
      sofar ∙ first_val inner desc left rest sig u next
      ∙ ap (λ (m : Answer (ValueEntry × Progress)). m >>= rest_of inner desc rest sig) k
      ∙ ap (λ (m : Answer Signature). m >>= λ z. infer_vals inner rest z v) h

pub vals_all : (inner : Scope) (descs left : List ValPhrase) (first sig : Signature) (st u : Progress)
    → ValsLeft inner descs first st left sig u → left ≡ [] → infer_vals inner descs first st ≡ gives (sig, u)
vals_all inner descs left first sig st u sofar e = sofar ∙ ap (λ xs. infer_vals inner xs sig u) e
