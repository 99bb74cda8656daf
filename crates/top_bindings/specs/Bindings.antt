-- What calls answer for functors, signatures of functors and signatures that declarations of the top level bind.
use Rattle.std.specs.Prelude.{◌≡◌, ℕ, List, [], ◌∷◌, Bool, Result, OnOk}
use Rattle.cm_base.specs.declared.fault.Fault.{Fault}
use Rattle.sml_trees.specs.declared.name.Name.{Name}
use Rattle.sml_trees.specs.declared.exp.StrBind.{StrBind}
use Rattle.bare_phrases.specs.PhraseOf.{str_bind_phrase}
use Rattle.semantic_objects.specs.Tables.{Table as Named, with_all, with_entry}
use Rattle.semantic_objects.specs.Environments.{Env, Signature, Functor, Top}
use Rattle.unification.specs.Unification.{depth}
use Rattle.sml_modules.specs.declared.id.EnvId.{EnvId}
use Rattle.sml_modules.specs.declared.id.SigId.{SigId}
use Rattle.sml_modules.specs.declared.id.FunId.{FunId}
use Rattle.sml_modules.specs.declared.parts.SigParts.{SigParts}
use Rattle.sml_modules.specs.Items.{map_rows}
use Rattle.sml_modules.specs.Graphs.{Graph, env_at, signature_at, functor_at, signature_of, HasEnv, HasSignature, HasFunctor}
use Rattle.name_trails.specs.Trails.{Rows}
use Rattle.static_semantics.specs.Inferring.{Progress, Answer, ◌>>=◌, gives}
use Rattle.static_semantics.specs.TypeInference.{new_label}
use Rattle.type_phrases.specs.Inferred.{Answers}
use Rattle.module_semantics.specs.SigPhrases.{SigPhrase}
use Rattle.module_semantics.specs.SignatureNames.{opened}
use Rattle.module_semantics.specs.SignatureInference.{signature_of as infer_signature}
use Rattle.unit_semantics.specs.UnitPhrases.{ModulePhrase, FunPhrase, FunsigPhrase, module_phrase, read_module}
use Rattle.unit_semantics.specs.StructureInference.{core_scope, infer_module}
use Rattle.unit_semantics.specs.UnitInference.{top_with_param, without_variables, infer_body, infer_result}
use Rattle.module_scopes.specs.Tops.{AllRows}
use Rattle.structure_elab.specs.Moments.{Moment, seen_at, progress_at, read_env, Passes, Elabs}
use Rattle.structure_elab.specs.Phrases.{read_signature}

-- a structure expression under a functor's parameter
abbrev pub IsModuleWith : Moment → Name → Env → ModulePhrase → Moment → Result EnvId Fault → Type 0
IsModuleWith old param env phrase new result =
    Elabs old (λ home top. infer_module depth home (top_with_param param env top) phrase (progress_at old)) read_env
    HasEnv new result

-- a signature expression under it
abbrev pub IsSignatureWith : Moment → Name → Env → SigPhrase → Moment → Result SigId Fault → Type 0
IsSignatureWith old param env sig new result =
    Elabs old (λ home top. infer_signature top.signatures (core_scope home (top_with_param param env top)) sig
    (progress_at old)) read_signature HasSignature new result

-- ---- single functors and signatures of functors

abbrev pub read_functor : Moment → FunId → Functor × Progress
read_functor m id = (functor_at m.graph id, progress_at m)

-- the body of a functor, with its parameter as it is finished and as it is inside
abbrev pub IsBody : Moment → FunPhrase → SigParts → SigParts → Moment → Result FunId Fault → Type 0
IsBody old bind param inside new result =
    Elabs old (λ home top. infer_body depth home top bind (signature_of old.graph param)
    (signature_of old.graph inside, progress_at old)) read_functor HasFunctor new result

-- .. of a signature of functors
abbrev pub IsResult : Moment → FunsigPhrase → SigParts → SigParts → Moment → Result FunId Fault → Type 0
IsResult old bind param inside new result =
    Elabs old (λ home top. infer_result home top bind (signature_of old.graph param)
    (signature_of old.graph inside, progress_at old)) read_functor HasFunctor new result

-- a functor: its parameter's signature, then its body
abbrev pub infer_functor : FunPhrase → List ℕ → Top → Progress → Answer (Functor × Progress)
infer_functor bind home top st =
    infer_signature top.signatures (core_scope home top) bind.param_sig st
    >>= λ p. infer_body depth home top bind p.0 (opened home p.0 p.1)

abbrev pub infer_funsig : FunsigPhrase → List ℕ → Top → Progress → Answer (Functor × Progress)
infer_funsig bind home top st =
    infer_signature top.signatures (core_scope home top) bind.param_sig st
    >>= λ p. infer_result home top bind p.0 (opened home p.0 p.1)

abbrev pub IsFunctorBound : Moment → FunPhrase → Moment → Result FunId Fault → Type 0
IsFunctorBound old bind new result =
    Elabs old (λ home top. infer_functor bind home top (progress_at old)) read_functor HasFunctor new result

abbrev pub IsFunsigBound : Moment → FunsigPhrase → Moment → Result FunId Fault → Type 0
IsFunsigBound old bind new result =
    Elabs old (λ home top. infer_funsig bind home top (progress_at old)) read_functor HasFunctor new result

-- ---- bindings of a declaration, after those before them in it, each under what is in scope before all of them

-- `one` gives what a binding binds, which has a name
abbrev pub Inferring : Type 0 → Type 0 → Type 0
Inferring B V = B → List ℕ → Top → Progress → Answer (V × Progress)

abbrev pub infer_bound : {B V : Type 0} → (B → Name) → Inferring B V → List B → Named V → List ℕ → Top → Progress
    → Answer (Named V × Progress)
infer_bound name one [] made home top st = gives (made, st)
infer_bound name one (bind ∷ binds) made home top st =
    new_label (core_scope home top) (name bind) made
    >>= λ u. one bind home top st
    >>= λ r. infer_bound name one binds (with_entry (name bind).text r.0 made) home top r.1

-- rows of a graph as a table: of two of one name the later counts
abbrev pub table_at : {Id V : Type 0} → (Graph → Id → V) → Graph → Rows Id → Named V
table_at value g rows = with_all (map_rows (value g) rows) []

-- rows behind others, where inference gives this
pub record BindsRows {Id V : Type 0} (value : Graph → Id → V) (has : Graph → Id → Type 0) (old : Moment)
    (want : List ℕ → Top → Answer (Named V × Progress)) (rows : Rows Id) (new : Moment)
    (result : Result (Unit {0}) Fault) : Type 0 where
  pub infers : Answers (want old.graph.home (seen_at old))
      (λ (u : Unit {0}). (table_at value new.graph rows, progress_at new)) result
  pub there : OnOk result (AllRows (has new.graph) rows)
  pub goes : Passes old new
  pub left : OnOk result (new.top ≡ old.top)

-- one binding behind others, and all bindings of a declaration behind others
abbrev pub infer_row : {B V : Type 0} → (B → Name) → Inferring B V → B → Named V → List ℕ → Top → Progress
    → Answer (Named V × Progress)
infer_row name one bind made home top st =
    new_label (core_scope home top) (name bind) made
    >>= λ u. one bind home top st
    >>= λ r. gives (with_entry (name bind).text r.0 made, r.1)

abbrev pub RowBound : {B Id V : Type 0} → (B → Name) → Inferring B V → (Graph → Id → V) → (Graph → Id → Type 0)
    → Moment → B → Rows Id → Rows Id → Moment → Result (Unit {0}) Fault → Type 0
RowBound name one value has old bind before after new result =
    BindsRows value has old (λ home top. infer_row name one bind (table_at value old.graph before) home top
    (progress_at old)) after new result

abbrev pub RowsBound : {B Id V : Type 0} → (B → Name) → Inferring B V → (Graph → Id → V) → (Graph → Id → Type 0)
    → Moment → List B → Rows Id → Rows Id → Moment → Result (Unit {0}) Fault → Type 0
RowsBound name one value has old binds before after new result =
    BindsRows value has old (λ home top. infer_bound name one binds (table_at value old.graph before) home top
    (progress_at old)) after new result

-- ---- functors, signatures of functors, signatures and structures

abbrev pub fun_name : FunPhrase → Name
fun_name bind = bind.name

abbrev pub funsig_name : FunsigPhrase → Name
funsig_name bind = bind.name

abbrev pub sig_name : Name × SigPhrase → Name
sig_name bind = bind.0

abbrev pub infer_sig_bind : Name × SigPhrase → List ℕ → Top → Progress → Answer (Signature × Progress)
infer_sig_bind bind home top st = infer_signature top.signatures (core_scope home top) bind.1 st

abbrev pub IsFunctorRow : Moment → FunPhrase → Rows FunId → Rows FunId → Moment → Result (Unit {0}) Fault → Type 0
IsFunctorRow = RowBound fun_name infer_functor functor_at HasFunctor

abbrev pub AreFunctorRows : Moment → List FunPhrase → Rows FunId → Rows FunId → Moment → Result (Unit {0}) Fault → Type 0
AreFunctorRows = RowsBound fun_name infer_functor functor_at HasFunctor

abbrev pub IsFunsigRow : Moment → FunsigPhrase → Rows FunId → Rows FunId → Moment → Result (Unit {0}) Fault → Type 0
IsFunsigRow = RowBound funsig_name infer_funsig functor_at HasFunctor

abbrev pub AreFunsigRows : Moment → List FunsigPhrase → Rows FunId → Rows FunId → Moment → Result (Unit {0}) Fault
    → Type 0
AreFunsigRows = RowsBound funsig_name infer_funsig functor_at HasFunctor

abbrev pub IsSignatureRow : Moment → Name × SigPhrase → Rows SigId → Rows SigId → Moment → Result (Unit {0}) Fault
    → Type 0
IsSignatureRow = RowBound sig_name infer_sig_bind signature_at HasSignature

abbrev pub AreSignatureRows : Moment → List (Name × SigPhrase) → Rows SigId → Rows SigId → Moment
    → Result (Unit {0}) Fault → Type 0
AreSignatureRows = RowsBound sig_name infer_sig_bind signature_at HasSignature

-- a structure with everything put in; a variable that is left is refused
abbrev pub structure_name : Name × ModulePhrase → Name
structure_name bind = bind.0

abbrev pub infer_structure : Name × ModulePhrase → List ℕ → Top → Progress → Answer (Env × Progress)
infer_structure bind home top st =
    infer_module depth home top bind.1 st >>= λ r. without_variables (core_scope home top) bind.0 r

abbrev pub IsStructureBound : Moment → Name × ModulePhrase → Moment → Result EnvId Fault → Type 0
IsStructureBound old bind new result =
    Elabs old (λ home top. infer_structure bind home top (progress_at old)) read_env HasEnv new result

abbrev pub IsStructureRow : Moment → Name × ModulePhrase → Rows EnvId → Rows EnvId → Moment → Result (Unit {0}) Fault
    → Type 0
IsStructureRow = RowBound structure_name infer_structure env_at HasEnv

abbrev pub AreStructureRows : Moment → List (Name × ModulePhrase) → Rows EnvId → Rows EnvId → Moment
    → Result (Unit {0}) Fault → Type 0
AreStructureRows = RowsBound structure_name infer_structure env_at HasEnv

-- a name with its structure expression, with the option that seals or without it
abbrev pub read_bind : Bool → StrBind → Name × ModulePhrase
read_bind sealing bind = ((str_bind_phrase bind).0, read_module sealing (module_phrase (str_bind_phrase bind).1))
