-- Patterns, form by form: what inference gives of each from what it gives of its parts.
use Rattle.std.proofs.Common.{◌≡◌, ℕ, List, [], ◌∷◌, length, refl, sym, ap, ap₂, ◌∙◌, subst, Some, false, not, arith, slice_get}
use Rattle.std.specs.Prelude.{Result, Ok, Err, IfOk}
use Rattle.cm_base.specs.declared.fault.Fault.{Fault}
use Rattle.cm_base.specs.declared.fault.Fault.TheVariants as fault
use Rattle.sml_trees.specs.declared.name.At.{At}
use Rattle.sml_trees.specs.declared.name.LongName.{LongName}
use Rattle.semantic_objects.specs.declared.name.TyId.{TyId}
use Rattle.semantic_objects.specs.declared.name.TyId.TheVariants as id
use Rattle.semantic_objects.specs.declared.entry.ValueEntry.{ValueEntry}
use Rattle.semantic_objects.specs.Environments.{values}
use Rattle.unification.specs.Types.{Ty, State}
use Rattle.unification.specs.Unification.{depth}
use Rattle.unification.specs.Instances.{instance, with_variable}
use Rattle.type_nodes.specs.Tables.{Table, state, type_of}
use Rattle.sml_modules.specs.Graphs.{Graph}
use Rattle.name_trails.specs.Trails.{Rows}
use Rattle.bare_phrases.specs.Phrases.{PatPhrase}
use Rattle.static_semantics.specs.Inferring.{Progress, Scope, Bound, with_types, new_variable, known, found_at, gives, sized, sized_pat, refuses_where}
use Rattle.static_semantics.specs.PatternInference.{infer_pat, name_pat, known_pat, as_con, takes_none}
use Rattle.core_scopes.specs.Scopes.{Bindings}
use Rattle.type_phrases.specs.Inferred.{Answers, progress, home_scope}
use Rattle.pattern_elab.specs.declared.own.OwnVariable.{OwnVariable}
use Rattle.pattern_elab.specs.Scopes.{bound_of, scope_of}
use Rattle.pattern_elab.specs.Steps.{InferredPat}

-- ---- sizes

pub pat_sized : (g : Graph) (at : At) (t : Table) (a : TyId) (b : Bound) (r : Result TyId Fault)
    → Answers (sized (home_scope g) at (type_of t a) (progress t g)) (λ (same : TyId). tt) r → IfOk r (λ same. same ≡ a)
    → Answers (sized_pat (home_scope g) at (type_of t a, b, progress t g)) (λ (x : TyId). (
      type_of t x,
      b,
      progress t
          g,
    )) r
pat_sized g at t a b (Ok same) h k = rw h (ap (λ (x : TyId). gives (type_of t x, b, progress t g)) (sym k))
pat_sized g at t a b (Err (fault.Diag d)) h k = rw h
pat_sized g at t a b (Err fault.NoMemory) h k = tt

-- a type that was made, where nothing else was done
pub made_sized : (g : Graph) (at : At) (old new : Table) (a : TyId) (u : Ty) (b : Bound) (r : Result TyId Fault)
    → type_of new a ≡ u → state new ≡ state old
    → Answers (sized (home_scope g) at (type_of new a) (progress new g)) (λ (same : TyId). tt) r → IfOk r (λ same.
    same ≡ a)
    → Answers (sized_pat (home_scope g) at (u, b, progress old g)) (λ (x : TyId). (type_of new x, b, progress new g)) r
made_sized g at old new a u b r e f h k =
    subst (λ (w : Ty × Bound × Progress). Answers (sized_pat (home_scope g) at w)
    (λ (x : TyId). (type_of new x, b, progress new g)) r)
    (ap₂ (λ (v : Ty) (s : State). (v, b, with_types s (progress old g))) e f)
    (pat_sized g at new a b r h k)

pub wild_sized : (g : Graph) (at : At) (old new : Table) (a : TyId) (b : Bound) (r : Result TyId Fault)
    → a ≡ id.Variable (length old.births) → (state old).next ≡ length old.births
    → state new ≡ with_variable false false (state old)
    → Answers (sized (home_scope g) at (type_of new a) (progress new g)) (λ (same : TyId). tt) r → IfOk r (λ same.
    same ≡ a)
    → Answers (sized_pat (home_scope g) at ((new_variable (progress old g)).0, b, (new_variable (progress old g)).1))
    (λ (x : TyId). (type_of new x, b, progress new g)) r
wild_sized g at old new a b r e n f h k =
    let u : type_of new a ≡ Ty.Var (state old).next = ap (type_of new) e ∙ ap Ty.Var (sym n) in
    subst (λ (w : Ty × Bound × Progress). Answers (sized_pat (home_scope g) at w)
    (λ (x : TyId). (type_of new x, b, progress new g)) r)
    (ap₂ (λ (v : Ty) (s : State). (v, b, with_types s (progress old g))) u f)
    (pat_sized g at new a b r h k)

-- ---- names

pub con_done : (sc : Scope) (long : LongName) (at : At) (b : Bound) (st : Progress) (value : ValueEntry) (u : Ty) (s
    : State)
    → known sc long (found_at values long.parts sc.env) ≡ gives value → as_con sc at value ≡ gives tt
    → refuses_where (not (takes_none value.scheme.body)) 34 sc at ≡ gives tt
    → u ≡ (instance value.scheme st.types).0 → s ≡ (instance value.scheme st.types).1
    → known_pat sc long at b st ≡ gives (u, b, with_types s st)
con_done sc long at b st value u s h i j e f =
    rw (h, i, j) (ap₂ (λ (v : Ty) (q : State). gives (v, b, with_types q st)) (sym e) (sym f))

pub name_alone : (sc : Scope) (long : LongName) (at : At) (parts : List (List ℕ)) (name : List ℕ) (b : Bound) (st :
    Progress)
    → length parts ≡ 1 → Some name ≡ slice_get parts 0
    → name_pat sc long at (name ∷ []) b st ≡ name_pat sc long at parts b st
name_alone sc long at [] name b st h k = absurd (omega (arith, h))
name_alone sc long at (x ∷ []) name b st h k =
    let e : name ≡ x = cc in ap (λ (y : List ℕ). name_pat sc long at (y ∷ []) b st) e
name_alone sc long at (x ∷ y ∷ rest) name b st h k = absurd (omega (arith, h))

pub name_long : (sc : Scope) (long : LongName) (at : At) (parts : List (List ℕ)) (b : Bound) (st : Progress)
    → (length parts ≡ 1 → ⊥) → known_pat sc long at b st ≡ name_pat sc long at parts b st
name_long sc long at [] b st h = refl
name_long sc long at (x ∷ []) b st h = absurd (h refl)
name_long sc long at (x ∷ y ∷ rest) b st h = refl

pub long_sized : (g : Graph) (scope : Bindings OwnVariable) (long : LongName) (at : At) (b : Bound) (st : Progress)
    (t : Table) (rows : Rows OwnVariable) (a : TyId) (r : Result TyId Fault)
    → name_pat (scope_of g scope) long at long.parts b st ≡ gives (type_of t a, bound_of rows, progress t g)
    → Answers (sized (home_scope g) at (type_of t a) (progress t g)) (λ (same : TyId). tt) r → IfOk r (λ same. same ≡ a)
    → InferredPat (infer_pat depth (scope_of g scope) (PatPhrase.Long long at) b st) r t rows g
long_sized g scope long at b st t rows a r h k l =
    let e : infer_pat depth (scope_of g scope) (PatPhrase.Long long at) b st
    ≡ sized_pat (scope_of g scope) at (type_of t a, bound_of rows, progress t g) = rw h in
    subst (λ m. InferredPat m r t rows g) (sym e) (pat_sized g at t a (bound_of rows) r k l)

pub long_failed : (g : Graph) (scope : Bindings OwnVariable) (long : LongName) (at : At) (b : Bound) (st : Progress)
    (t : Table) (rows : Rows OwnVariable) (e : Fault)
    → InferredPat (name_pat (scope_of g scope) long at long.parts b st) (Err e) t rows g
    → InferredPat (infer_pat depth (scope_of g scope) (PatPhrase.Long long at) b st) (Err e) t rows g
long_failed g scope long at b st t rows (fault.Diag d) h = rw h
long_failed g scope long at b st t rows fault.NoMemory h = tt
