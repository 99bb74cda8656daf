-- All entries of an environment, as those of a structure without a name; and signatures by their names.
use Rattle.std.proofs.Common.{◌≡◌, ℕ, refl, sym, ap, ap₂, ◌∙◌, subst, List, [], ◌∷◌, length, Some, None, Option}
use Rattle.std.specs.Prelude.{Result, Ok, Err, IfOk}
use Rattle.cm_base.specs.declared.fault.Fault.{Fault}
use Rattle.sml_trees.specs.declared.name.Name.{Name}
use Rattle.sml_trees.specs.declared.name.LongName.{LongName}
use Rattle.semantic_objects.specs.declared.entry.ValueEntry.{ValueEntry}
use Rattle.semantic_objects.specs.Tables.{Table as Named, entry}
use Rattle.semantic_objects.specs.Environments.{Env, Signature, empty_env, modified_by, with_structure}
use Rattle.sml_modules.specs.declared.parts.SigParts.{SigParts}
use Rattle.sml_modules.specs.Graphs.{Graph, signature_of}
use Rattle.type_nodes.specs.Tables.{Table, state}
use Rattle.static_semantics.specs.Inferring.{Progress, Scope, ◌>>=◌, gives, name_at, known}
use Rattle.static_semantics.specs.CoreInference.{infer_open}
use Rattle.module_semantics.specs.SignatureNames.{opened}
use Rattle.module_semantics.specs.SignatureInference.{single}
use Rattle.core_scopes.specs.declared.made.Made.{Made}
use Rattle.core_scopes.specs.Scopes.{Bindings, seen, written_of}
use Rattle.core_scopes.specs.Marks.{Becomes, env_of_made}
use Rattle.type_phrases.specs.Inferred.{Answers, Refuses, progress, scope_in}
use Rattle.type_phrases.proofs.Steps.{refused}
use Rattle.signature_sealing.specs.Sealing.{IsOpened, MayMakeNames}
use Rattle.signature_parts.specs.Ending.{used}
use Rattle.signature_parts.specs.Growing.{Grows}
use Rattle.signature_parts.specs.Steps.{OpensNameless}
use Rattle.signature_parts.proofs.Adding.{bound_found, opened_one}
use Rattle.signature_parts.proofs.Elaborated.{grows_items}

-- ---- the structure without a name

no_types : Table
no_types = record { births = []; nodes = []; trail = [] }

pub nameless_made : {V : Type 0} (g : Graph) (sc : Bindings V) (made : Made V) (longs : List LongName) (long : LongName)
    (parts : List (List ℕ)) (name : List ℕ) → longs ≡ long ∷ [] → long.parts ≡ parts → parts ≡ name ∷ [] → name ≡ []
    → ((t : Table) (read : V → ValueEntry)
    → infer_open (scope_in g t read sc) longs empty_env ≡ gives (env_of_made g read made))
    → OpensNameless g sc made
nameless_made g sc made longs long parts name one is all none h = λ read env found.
    opened_one (scope_in g no_types read sc) longs long [] env (env_of_made g read made) one
    (is ∙ all ∙ ap (λ (n : List ℕ). n ∷ []) none) found (h no_types read)

pub nameless_opened : {V : Type 0} {E : Type 0} (g : Graph) (old sc : Bindings V) (name : List ℕ) (env : Env)
    (r : Result (Made V) E) → name ≡ []
    → Becomes g old sc (λ read. with_structure name env (seen g read old)) (written_of old)
    → IfOk r (λ made. OpensNameless g sc made)
    → IfOk r (λ made. (read : V → ValueEntry) → env_of_made g read made ≡ modified_by empty_env env)
nameless_opened g old sc name env (Ok made) none b h = λ read.
    h read env (bound_found [] env (seen g read old) (seen g read sc)
    (b.seen read ∙ ap (λ (n : List ℕ). with_structure n env (seen g read old)) none))
nameless_opened g old sc name env (Err e) none b h = tt

-- ---- signatures by their names

pub grows_may : {g h : Graph} → MayMakeNames g h → Grows g h
grows_may {g} {h} m =
    grows_items g h (ap (λ (z : Graph). z.items) m.is) (ap (λ (z : Graph). z.home) m.is)

pub grows_opened : {g h : Graph} {sig : Signature} {parts : SigParts} → IsOpened g h sig parts → Grows g h
grows_opened k = record { keeps = k.keeps; home = k.home }

known_progress : (g h : Graph) (t : Table) (home : List ℕ) (sig : Signature)
    → length h.made ≡ (opened home sig (progress t g)).1.names
    → (opened home sig (progress t g)).1 ≡ progress t h
known_progress g h t home sig e =
    ap (λ (names : ℕ). (let st : Progress = record { types = state t; names = names } in st)) (sym e)

pub used_gives : (g h : Graph) (t : Table) (sigs : Named Signature) (inner : Scope) (name : Name) (sig : Signature)
    (parts : SigParts) → inner.home ≡ g.home → entry name.text sigs ≡ Some sig → IsOpened g h sig parts
    → used sigs inner name (progress t g) ≡ gives (signature_of h parts, progress t h)
used_gives g h t sigs inner name sig parts home e k =
    ap (λ (o : Option Signature). known inner (single name) o >>= λ s. gives (opened inner.home s (progress t g))) e
    ∙ ap (λ (z : List ℕ). gives (opened z sig (progress t g))) home
    ∙ ap₂ (λ (s : Signature) (st : Progress). gives (s, st)) (sym (k.is (progress t g) refl))
    (known_progress g h t g.home sig (k.names (progress t g) refl))

pub used_refused : {R : Type 0} (g : Graph) (st : Progress) (sigs : Named Signature) (inner : Scope) (name : Name)
    (read : R → Signature × Progress) (e : Fault) → inner.home ≡ g.home → entry name.text sigs ≡ None
    → Refuses g 30 (name_at name) (name.text ∷ []) e
    → Answers (used sigs inner name st) read (Err e)
used_refused g st sigs inner name read e home none h =
    subst (λ (o : Option Signature). Answers (known inner (single name) o >>= λ s. gives (opened inner.home s st)) read
    (Err e)) (sym none) (refused g inner 30 (name_at name) (name.text ∷ []) read e home h)
