-- Signature expressions that are finished.
use Rattle.std.proofs.Common.{◌≡◌, ℕ, sym, ap, ap₂, ◌∙◌, subst, List}
use Rattle.std.specs.Prelude.{Result, Ok, Err, IsErrAnd}
use Rattle.cm_base.specs.declared.fault.Fault.{Fault}
use Rattle.semantic_objects.specs.declared.name.TyId.{TyId}
use Rattle.semantic_objects.specs.Tables.{Table as Named}
use Rattle.semantic_objects.specs.Environments.{Env, Signature}
use Rattle.sml_modules.specs.declared.id.SigId.{SigId}
use Rattle.sml_modules.specs.declared.id.TopId.{TopId}
use Rattle.sml_modules.specs.declared.parts.SigParts.{SigParts}
use Rattle.sml_modules.specs.Items.{map_rows}
use Rattle.sml_modules.specs.Graphs.{Graph, signature_at, signature_of as signature_of_parts}
use Rattle.name_trails.specs.Trails.{Rows}
use Rattle.type_nodes.specs.Tables.{Table, type_of}
use Rattle.static_semantics.specs.Inferring.{Progress, Scope, Answer, ◌>>=◌, gives}
use Rattle.core_scopes.specs.Scopes.{Bindings, seen}
use Rattle.type_phrases.specs.Inferred.{Answers, progress, scope_in}
use Rattle.type_phrases.proofs.Steps.{failed}
use Rattle.type_phrases.proofs.PartsRead.{passed_on}
use Rattle.pattern_elab.specs.declared.own.OwnVariable.{OwnVariable}
use Rattle.pattern_elab.specs.Scopes.{own_entry}
use Rattle.module_semantics.specs.SigPhrases.{SigPhrase}
use Rattle.module_semantics.specs.SignatureNames.{closed}
use Rattle.module_semantics.specs.SignatureInference.{infer_sig, signature_of}
use Rattle.unit_semantics.specs.StructureInference.{core_scope}
use Rattle.where_types.specs.Where.{GrowsByNodes}
use Rattle.module_scopes.specs.declared.defined.Defined.{Defined}
use Rattle.module_scopes.specs.declared.top.TopScope.{TopScope}
use Rattle.module_scopes.specs.Tops.{top_seen, IsTopScope}
use Rattle.signature_parts.specs.Growing.{IsOpenSig}
use Rattle.signature_parts.proofs.Elaborated.{names_same}
use Rattle.signature_elab.specs.Phrases.{signatures_seen, KeepsNames}

abbrev scope_of : List ℕ → Table → Env → Rows TyId → Scope
scope_of home w env rows = record { env = env; written = map_rows (type_of w) rows; home = home }

-- no written type variable is in scope
whole_scope : (g : Graph) (t : Table) (top : TopScope) → IsTopScope g top
    → scope_in g t own_entry top.core ≡ core_scope g.home (top_seen g top)
whole_scope g t top r = ap (λ (rows : Rows TyId). scope_of g.home t (seen g own_entry top.core) rows) r.written

top_is : (a b : Bindings OwnVariable) (i j : TopId) (d e : Defined) → a ≡ b → i ≡ j → d ≡ e
    → (let x : TopScope = record { core = a; given = i; defined = d } in x)
    ≡ (let y : TopScope = record { core = b; given = j; defined = e } in y)
top_is a b i j d e p q r = cc

pub same_top : (old new : TopScope) → new.core ≡ old.core → KeepsNames old new → new ≡ old
same_top old new e n = top_is new.core old.core new.given old.given new.defined old.defined e n.given n.defined

module _ {g h : Graph} {t u : Table} {old : TopScope} {new : Bindings OwnVariable} (phrase : SigPhrase)
    (ready : IsTopScope g old) where
  pub whole_fails : {e : Fault} (r : Result SigId Fault) → IsErrAnd r (λ f. f ≡ e) → (s : SigId → Signature × Progress)
      → IsOpenSig g h t u old.core new (λ sc st. infer_sig (signatures_seen g old) sc phrase st) (Err e)
      → Answers (signature_of (signatures_seen g old) (core_scope g.home (top_seen g old)) phrase (progress t g)) s r
  whole_fails {e} r is s k =
      passed_on (λ z. Answers (signature_of (signatures_seen g old) (core_scope g.home (top_seen g old)) phrase
      (progress t g)) s z) r e is
      (failed (infer_sig (signatures_seen g old) (core_scope g.home (top_seen g old)) phrase (progress t g))
      (λ q. gives (closed q.0, q.1))
      (λ (parts : SigParts). (signature_of_parts h parts, progress u h)) s e
      (subst (λ (sc : Scope). Answers (infer_sig (signatures_seen g old) sc phrase (progress t g))
      (λ (parts : SigParts). (signature_of_parts h parts, progress u h)) (Err e)) (whole_scope g t old ready)
      (k.infers t own_entry)))

  pub whole_ends : {parts : SigParts} {k : Graph} (id : SigId)
      → IsOpenSig g h t u old.core new (λ sc st. infer_sig (signatures_seen g old) sc phrase st) (Ok parts)
      → signature_at k id ≡ closed (signature_of_parts h parts) → GrowsByNodes h k
      → signature_of (signatures_seen g old) (core_scope g.home (top_seen g old)) phrase (progress t g)
      ≡ gives (signature_at k id, progress u k)
  whole_ends {parts} {k} id sig is grows =
      ap (λ (sc : Scope). infer_sig (signatures_seen g old) sc phrase (progress t g) >>= λ q. gives (closed q.0, q.1))
      (sym (whole_scope g t old ready))
      ∙ ap (λ (m : Answer (Signature × Progress)). m >>= λ q. gives (closed q.0, q.1)) (sig.infers t own_entry)
      ∙ ap₂ (λ (s : Signature) (st : Progress). gives (s, st)) (sym is) (sym (names_same h k u grows.made))

-- the same signatures and the same environment
pub as_whole : {R : Type 0} (sigs here : Named Signature) (sc inner : Scope) (phrase : SigPhrase) (st : Progress)
    (s : R → Signature × Progress) (r : Result R Fault) → here ≡ sigs → inner ≡ sc
    → Answers (signature_of here inner phrase st) s r → Answers (signature_of sigs sc phrase st) s r
as_whole sigs here sc inner phrase st s r e f h =
    subst (λ (z : Scope). Answers (signature_of sigs z phrase st) s r) f
    (subst (λ (z : Named Signature). Answers (signature_of z inner phrase st) s r) e h)
