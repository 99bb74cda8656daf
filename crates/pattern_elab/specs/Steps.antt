-- What single steps of elaboration answer, and what they leave.
use Rattle.std.specs.Prelude.{◌≡◌, [], length, take, Option, Some, None, Result, Ok, Err, IfOk, OnOk}
use Rattle.cm_base.specs.declared.diag.Diag.{Diag}
use Rattle.cm_base.specs.declared.fault.Fault.{Fault}
use Rattle.cm_base.specs.declared.fault.Fault.TheVariants as fault
use Rattle.sml_trees.specs.declared.name.At.{At}
use Rattle.sml_trees.specs.declared.name.Name.{Name}
use Rattle.semantic_objects.specs.declared.name.TyId.{TyId}
use Rattle.semantic_objects.specs.Tables.{Table as Named, names_of, with_entry}
use Rattle.semantic_objects.specs.Symbols.{AreDiffering}
use Rattle.unification.specs.Types.{Ty, State}
use Rattle.unification.specs.Unification.{depth}
use Rattle.unification.specs.Unification as unifying
use Rattle.type_nodes.specs.Tables.{Table, Has, type_of}
use Rattle.sml_modules.specs.Graphs.{Graph}
use Rattle.name_trails.specs.Trails.{Rows}
use Rattle.bare_phrases.specs.Phrases.{PatPhrase, PatFields}
use Rattle.static_semantics.specs.Inferring.{Progress, Scope, Answer, ◌>>=◌, gives, Bound, diag_at, fault_number}
use Rattle.static_semantics.specs.TypeInference.{new_label}
use Rattle.static_semantics.specs.PatternInference.{infer_pat, infer_pat_fields}
use Rattle.core_scopes.specs.Scopes.{Bindings}
use Rattle.type_phrases.specs.Inferred.{Answers, KeepsTypes, HaveRows, progress, home_scope, made_fields}
use Rattle.pattern_elab.specs.declared.own.OwnVariable.{OwnVariable}
use Rattle.pattern_elab.specs.Scopes.{bound_of, scope_of}

-- a unification was refused, and the diagnostic names its fault at a place
pub record IsRefusedBy (g : Graph) (at : At) (want : Option (Result State unifying.Fault)) (diag : Diag) : Type 0 where
  pub fault : unifying.Fault
  pub is : want ≡ Some (Err fault)
  pub names : diag ≡ diag_at (fault_number fault) (home_scope g) at []

-- what a call answers that makes two types one at a place, where unification gives this
abbrev pub Unified : Graph → At → Option (Result State unifying.Fault) → Result (Unit {0}) Fault → State → Type 0
Unified g at want (Ok done) new = want ≡ Some (Ok new)
Unified g at want (Err (fault.Diag diag)) new = IsRefusedBy g at want diag
Unified g at want (Err fault.NoMemory) new = Unit {0}

-- what a call answers for the two sides of a constructor's type, where they are these: 34 where there are none
abbrev pub FindsSides : Graph → At → Option (Ty × Ty) → Result (TyId × TyId) Fault → Table → Type 0
FindsSides g at want (Ok sides) t = want ≡ Some (type_of t sides.0, type_of t sides.1)
FindsSides g at want (Err (fault.Diag diag)) t = (want ≡ None) × (diag ≡ diag_at 34 (home_scope g) at [])
FindsSides g at want (Err fault.NoMemory) t = Unit {0}

-- what a call answers for a pattern, where inference gives this: the id was made as its type, the rows are all
-- variables that were bound, and table and graph know what is known then
abbrev pub InferredPat :
    Answer (Ty × Bound × Progress) → Result TyId Fault → Table → Rows OwnVariable → Graph → Type 0
InferredPat want result t rows g =
    Answers want (λ (id : TyId). (type_of t id, bound_of rows, progress t g)) result

-- .. for one that binds no variable, whichever were bound before
abbrev pub InferredPlain :
    (Bound → Answer (Ty × Bound × Progress)) → Result TyId Fault → Table → Graph → Type 0
InferredPlain want result t g =
    (bound : Bound) → Answers (want bound) (λ (id : TyId). (type_of t id, bound, progress t g)) result

-- a field of a record pattern, after others: 40 at a label that one of them has
abbrev pub infer_field : Scope → Name → PatPhrase → Named Ty → Bound → Progress → Answer (Named Ty × Bound × Progress)
infer_field sc label phrase made bound st =
    new_label sc label made
    >>= λ u. infer_pat depth sc phrase bound st
    >>= λ r. gives (with_entry label.text r.0 made, r.1, r.2)

-- what a call answers for fields, where inference gives these
abbrev pub InferredFields : {R : Type 0} →
    Answer (Named Ty × Bound × Progress) → (R → Rows TyId) → Result R Fault → Table → Rows OwnVariable → Graph → Type 0
InferredFields {R} want read result t rows g =
    Answers want (λ (r : R). (made_fields t (read r), bound_of rows, progress t g)) result

-- ids stay ids and what they were made as, and variables were bound behind others
pub record BindsOn (old new : Table) (rows after : Rows OwnVariable) : Type 0 where
  pub ids : KeepsTypes old new
  pub front : take (length rows) after ≡ rows

-- what a call answers for a pattern in a scope, and what it leaves
pub record IsPat (g : Graph) (old : Table) (scope : Bindings OwnVariable) (phrase : PatPhrase) (new : Table)
    (before after : Rows OwnVariable) (result : Result TyId Fault) : Type 0 where
  pub infers : InferredPat (infer_pat depth (scope_of g scope) phrase (bound_of before) (progress old g)) result new
      after g
  pub has : IfOk result (Has new)
  pub goes : BindsOn old new before after

-- .. for the fields of a record pattern, whose labels differ
pub record AreFields (g : Graph) (old : Table) (scope : Bindings OwnVariable) (fields : PatFields) (new : Table)
    (before after : Rows OwnVariable) (result : Result (Rows TyId) Fault) : Type 0 where
  pub infers : InferredFields (infer_pat_fields depth (scope_of g scope) fields [] (bound_of before) (progress old g))
      (λ rows. rows) result new after g
  pub have : IfOk result (HaveRows new)
  pub differing : IfOk result (λ rows. AreDiffering (names_of rows))
  pub goes : BindsOn old new before after

-- .. for one field behind others
pub record IsField (g : Graph) (old : Table) (scope : Bindings OwnVariable) (label : Name) (phrase : PatPhrase) (new
    : Table)
    (rows more : Rows TyId) (before after : Rows OwnVariable) (result : Result (Unit {0}) Fault) : Type 0 where
  pub infers : InferredFields (infer_field (scope_of g scope) label phrase (made_fields old rows) (bound_of before)
      (progress old g)) (λ u. more) result new after g
  pub have : OnOk result (HaveRows new more)
  pub differing : OnOk result (AreDiffering (names_of more))
  pub goes : BindsOn old new before after
