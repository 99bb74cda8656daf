-- What calls answer for structure expressions and the declarations in them, and for phrases under what a declaration made.
use Rattle.std.specs.Prelude.{◌≡◌, ℕ, List, Result, OnOk}
use Rattle.cm_base.specs.declared.fault.Fault.{Fault}
use Rattle.sml_trees.specs.declared.name.At.{At}
use Rattle.sml_trees.specs.declared.name.Name.{Name}
use Rattle.sml_trees.specs.declared.exp.StrBind.{StrBind}
use Rattle.semantic_objects.specs.Environments.{Env, Signature, Top, structures, with_structure}
use Rattle.unification.specs.Unification.{depth}
use Rattle.sml_modules.specs.declared.id.EnvId.{EnvId}
use Rattle.sml_modules.specs.declared.id.SigId.{SigId}
use Rattle.sml_modules.specs.Graphs.{env_at, signature_at, HasEnv, HasSignature}
use Rattle.name_trails.specs.Trails.{Rows}
use Rattle.bare_phrases.specs.Phrases.{DecPhrase}
use Rattle.bare_phrases.specs.PhraseOf.{str_bind_phrase}
use Rattle.static_semantics.specs.Inferring.{Progress, Answer, ◌>>=◌, gives}
use Rattle.static_semantics.specs.TypeInference.{new_label}
use Rattle.static_semantics.specs.CoreInference.{infer_dec}
use Rattle.core_scopes.specs.declared.made.Made.{Made}
use Rattle.core_scopes.specs.Scopes.{AreEnvs}
use Rattle.core_scopes.specs.Marks.{IsFrontOf}
use Rattle.pattern_elab.specs.declared.own.OwnVariable.{OwnVariable}
use Rattle.type_phrases.specs.Inferred.{Answers}
use Rattle.module_semantics.specs.SigPhrases.{SigPhrase}
use Rattle.module_semantics.specs.SignatureInference.{signature_of}
use Rattle.unit_semantics.specs.UnitPhrases.{ModulePhrase, ModuleDec, ModuleDecs, ModuleBinds, module_phrase}
use Rattle.unit_semantics.specs.StructureInference.{core_scope, top_under, transparent, opaque, infer_module, infer_module_dec, infer_module_decs, infer_module_binds}
use Rattle.module_scopes.specs.Tops.{structures_env}
use Rattle.structure_elab.specs.Moments.{Moment, seen_at, progress_at, read_env, read_made, made_at, HasMade, Passes, Elabs, IsOver}

-- a structure expression
abbrev pub IsModule : Moment → ModulePhrase → Moment → Result EnvId Fault → Type 0
IsModule old phrase new result =
    Elabs old (λ home top. infer_module depth home top phrase (progress_at old)) read_env HasEnv new result

-- .. under what a declaration made
abbrev pub IsModuleBehind : Moment → Made OwnVariable → ModulePhrase → Moment → Result EnvId Fault → Type 0
IsModuleBehind old made phrase new result =
    Elabs old (λ home top. infer_module depth home (top_under (made_at old made) top) phrase (progress_at old)) read_env
    HasEnv new result

-- a declaration
abbrev pub IsDeclared : Moment → ModuleDec → Moment → Result (Made OwnVariable) Fault → Type 0
IsDeclared old phrase new result =
    Elabs old (λ home top. infer_module_dec depth home top phrase (progress_at old)) read_made HasMade new result

-- .. under what another one made
abbrev pub IsDeclaredBehind : Moment → Made OwnVariable → ModuleDec → Moment → Result (Made OwnVariable) Fault → Type 0
IsDeclaredBehind old made phrase new result =
    Elabs old (λ home top. infer_module_dec depth home (top_under (made_at old made) top) phrase (progress_at old))
    read_made HasMade new result

-- a declaration of the core
abbrev pub IsCore : Moment → DecPhrase → Moment → Result (Made OwnVariable) Fault → Type 0
IsCore old phrase new result =
    Elabs old (λ home top. infer_dec depth (core_scope home top) phrase (progress_at old)) read_made HasMade new result

-- a declaration whose environment is made
abbrev pub IsStruct : Moment → ModuleDec → Moment → Result EnvId Fault → Type 0
IsStruct old phrase new result =
    Elabs old (λ home top. infer_module_dec depth home top phrase (progress_at old)) read_env HasEnv new result

-- a declaration of structures at a place
abbrev pub infer_declared : ModuleBinds → At → List ℕ → Top → Progress → Answer (Env × Progress)
infer_declared binds at home top st = infer_module_dec depth home top (ModuleDec.Structures binds at) st

abbrev pub AreStructures : Moment → ModuleBinds → At → Moment → Result (Made OwnVariable) Fault → Type 0
AreStructures old binds at new result =
    Elabs old (λ home top. infer_declared binds at home top (progress_at old)) read_made HasMade new result

-- declarations one after another
abbrev pub AreDeclared : Moment → ModuleDecs → Moment → Result (Made OwnVariable) Fault → Type 0
AreDeclared old phrases new result =
    Elabs old (λ home top. infer_module_decs depth home top phrases (progress_at old)) read_made HasMade new result

-- .. and each was entered into the scope of the next one
pub record AreEntered (old : Moment) (phrases : ModuleDecs) (all : Made OwnVariable) (new : Moment)
    (result : Result (Unit {0}) Fault) : Type 0 where
  pub infers : Answers (infer_module_decs depth old.graph.home (seen_at old) phrases (progress_at old))
      (λ (u : Unit {0}). read_made new all) result
  pub envs : OnOk result (HasMade new.graph all)
  pub goes : Passes old new
  pub over : OnOk result (IsOver old.top new.top)

-- ---- bindings

-- structures by name, as an environment, and what is known
abbrev pub read_rows : Moment → Rows EnvId → Env × Progress
read_rows m rows = (structures_env m.graph rows, progress_at m)

-- a name with its structure expression
abbrev pub bind_phrase : StrBind → Name × ModulePhrase
bind_phrase bind = ((str_bind_phrase bind).0, module_phrase (str_bind_phrase bind).1)

-- one binding behind others
abbrev pub infer_bind : Name × ModulePhrase → Env → List ℕ → Top → Progress → Answer (Env × Progress)
infer_bind bind made home top st =
    new_label (core_scope home top) bind.0 (structures made)
    >>= λ u. infer_module depth home top bind.1 st
    >>= λ r. gives (with_structure bind.0.text r.0 made, r.1)

-- rows behind others, where inference gives this
pub record Binds (old : Moment) (want : List ℕ → Top → Answer (Env × Progress)) (rows : Rows EnvId) (new : Moment)
    (result : Result (Unit {0}) Fault) : Type 0 where
  pub infers : Answers (want old.graph.home (seen_at old)) (λ (u : Unit {0}). read_rows new rows) result
  pub envs : OnOk result (AreEnvs new.graph rows)
  pub goes : Passes old new
  pub left : OnOk result (new.top ≡ old.top)

abbrev pub IsBind : Moment → Name × ModulePhrase → Rows EnvId → Rows EnvId → Moment → Result (Unit {0}) Fault → Type 0
IsBind old bind before after new result =
    Binds old (λ home top. infer_bind bind (structures_env old.graph before) home top (progress_at old)) after new result

abbrev pub AreBinds : Moment → ModuleBinds → Rows EnvId → Rows EnvId → Moment → Result (Unit {0}) Fault → Type 0
AreBinds old binds before after new result =
    Binds old (λ home top. infer_module_binds depth home top binds (structures_env old.graph before) (progress_at old))
    after new result

-- ---- signatures, and structures with them

abbrev pub read_signature : Moment → SigId → Signature × Progress
read_signature m id = (signature_at m.graph id, progress_at m)

abbrev pub IsSignature : Moment → SigPhrase → Moment → Result SigId Fault → Type 0
IsSignature old sig new result =
    Elabs old (λ home top. signature_of top.signatures (core_scope home top) sig (progress_at old)) read_signature
    HasSignature new result

-- a signature, with which a structure at a place is matched
abbrev pub infer_transparent : At → SigPhrase → Env → List ℕ → Top → Progress → Answer (Env × Progress)
infer_transparent at sig env home top st =
    signature_of top.signatures (core_scope home top) sig st >>= λ r. transparent (core_scope home top) at env r

abbrev pub infer_opaque : At → SigPhrase → Env → List ℕ → Top → Progress → Answer (Env × Progress)
infer_opaque at sig env home top st =
    signature_of top.signatures (core_scope home top) sig st >>= λ r. opaque (core_scope home top) at env r

abbrev pub IsTransparent : Moment → At → SigPhrase → EnvId → Moment → Result EnvId Fault → Type 0
IsTransparent old at sig env new result =
    Elabs old (λ home top. infer_transparent at sig (env_at old.graph env) home top (progress_at old)) read_env HasEnv
    new result

abbrev pub IsOpaque : Moment → At → SigPhrase → EnvId → Moment → Result EnvId Fault → Type 0
IsOpaque old at sig env new result =
    Elabs old (λ home top. infer_opaque at sig (env_at old.graph env) home top (progress_at old)) read_env HasEnv new
    result
