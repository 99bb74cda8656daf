-- Expressions without parts: what inference gives of each from what single steps answer.
use Rattle.std.proofs.Common.{◌≡◌, sym, ap, ap₂, subst}
use Rattle.std.specs.Prelude.{Result, Ok, Err, IfOk}
use Rattle.cm_base.specs.declared.fault.Fault.{Fault}
use Rattle.cm_base.specs.declared.fault.Fault.TheVariants as fault
use Rattle.sml_trees.specs.declared.name.At.{At}
use Rattle.sml_trees.specs.declared.name.LongName.{LongName}
use Rattle.semantic_objects.specs.declared.name.TyId.{TyId}
use Rattle.semantic_objects.specs.declared.entry.ValueEntry.{ValueEntry}
use Rattle.semantic_objects.specs.Environments.{values}
use Rattle.unification.specs.Types.{Ty, State}
use Rattle.unification.specs.Unification.{depth}
use Rattle.unification.specs.Instances.{instance}
use Rattle.type_nodes.specs.Tables.{Table, state, type_of}
use Rattle.sml_modules.specs.Graphs.{Graph}
use Rattle.bare_phrases.specs.Phrases.{ExpPhrase}
use Rattle.static_semantics.specs.Inferring.{Progress, with_types, known, found_at, gives, sized, sized_exp}
use Rattle.static_semantics.specs.CoreInference.{infer_exp}
use Rattle.core_scopes.specs.Scopes.{Bindings}
use Rattle.type_phrases.specs.Inferred.{Answers, Inferred, progress, home_scope}
use Rattle.pattern_elab.specs.declared.own.OwnVariable.{OwnVariable}
use Rattle.pattern_elab.specs.Scopes.{scope_of}

pub exp_sized : (g : Graph) (at : At) (t : Table) (a : TyId) (r : Result TyId Fault)
    → Answers (sized (home_scope g) at (type_of t a) (progress t g)) (λ (same : TyId). tt) r → IfOk r (λ same. same ≡ a)
    → Inferred (sized_exp (home_scope g) at (type_of t a, progress t g)) r t g
exp_sized g at t a (Ok same) h k = rw h (ap (λ (x : TyId). gives (type_of t x, progress t g)) (sym k))
exp_sized g at t a (Err (fault.Diag d)) h k = rw h
exp_sized g at t a (Err fault.NoMemory) h k = tt

-- a type that was made, where nothing else was done
pub made_sized : (g : Graph) (at : At) (old new : Table) (a : TyId) (u : Ty) (r : Result TyId Fault)
    → type_of new a ≡ u → state new ≡ state old
    → Answers (sized (home_scope g) at (type_of new a) (progress new g)) (λ (same : TyId). tt) r
    → IfOk r (λ same. same ≡ a) → Inferred (sized_exp (home_scope g) at (u, progress old g)) r new g
made_sized g at old new a u r e f h k =
    subst (λ (w : Ty × Progress). Inferred (sized_exp (home_scope g) at w) r new g)
    (ap₂ (λ (v : Ty) (s : State). (v, with_types s (progress old g))) e f)
    (exp_sized g at new a r h k)

-- ---- names

pub named_sized : (g : Graph) (scope : Bindings OwnVariable) (long : LongName) (at : At) (old t : Table)
    (value : ValueEntry) (a : TyId) (r : Result TyId Fault)
    → known (scope_of g scope) long (found_at values long.parts (scope_of g scope).env) ≡ gives value
    → type_of t a ≡ (instance value.scheme (state old)).0 → state t ≡ (instance value.scheme (state old)).1
    → Answers (sized (home_scope g) at (type_of t a) (progress t g)) (λ (same : TyId). tt) r → IfOk r (λ same. same ≡ a)
    → Inferred (infer_exp depth (scope_of g scope) (ExpPhrase.Long long at) (progress old g)) r t g
named_sized g scope long at old t value a r h e f k l =
    let w : infer_exp depth (scope_of g scope) (ExpPhrase.Long long at) (progress old g)
    ≡ sized_exp (scope_of g scope) at (type_of t a, progress t g) =
    rw h (ap₂ (λ (u : Ty) (s : State). sized_exp (scope_of g scope) at (u, with_types s (progress old g))) (sym e)
    (sym f)) in
    subst (λ m. Inferred m r t g) (sym w) (exp_sized g at t a r k l)

pub named_failed : (g : Graph) (scope : Bindings OwnVariable) (long : LongName) (at : At) (old t : Table) {R : Type 0}
    (read : R → ValueEntry) (e : Fault)
    → Answers (known (scope_of g scope) long (found_at values long.parts (scope_of g scope).env)) read (Err e)
    → Inferred (infer_exp depth (scope_of g scope) (ExpPhrase.Long long at) (progress old g)) (Err e) t g
named_failed g scope long at old t read (fault.Diag d) h = rw h
named_failed g scope long at old t read fault.NoMemory h = tt
