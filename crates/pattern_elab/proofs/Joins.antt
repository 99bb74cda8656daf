-- Patterns with parts: what inference gives of each from what it gives of its parts.
use Rattle.std.proofs.Common.{◌≡◌, [], refl, sym, ap, subst, Option, Some, None}
use Rattle.std.specs.Prelude.{Result, Ok, Err, IfOk}
use Rattle.cm_base.specs.declared.fault.Fault.{Fault}
use Rattle.cm_base.specs.declared.fault.Fault.TheVariants as fault
use Rattle.sml_trees.specs.declared.name.At.{At}
use Rattle.sml_trees.specs.declared.name.Name.{Name}
use Rattle.sml_trees.specs.declared.name.LongName.{LongName}
use Rattle.semantic_objects.specs.declared.name.TyId.{TyId}
use Rattle.semantic_objects.specs.declared.entry.ValueEntry.{ValueEntry}
use Rattle.semantic_objects.specs.Tables.{Table as Named, entry}
use Rattle.semantic_objects.specs.Environments.{values}
use Rattle.unification.specs.Types.{Ty, State}
use Rattle.unification.specs.Unification.{unify_in, depth}
use Rattle.unification.specs.Instances.{instance}
use Rattle.type_nodes.specs.Tables.{Table, state, type_of}
use Rattle.sml_modules.specs.Graphs.{Graph}
use Rattle.name_trails.specs.Trails.{Rows}
use Rattle.bare_phrases.specs.Phrases.{TyPhrase, PatPhrase, PatFields}
use Rattle.static_semantics.specs.BasicTypes.{record_ty}
use Rattle.static_semantics.specs.Inferring.{Progress, Scope, Answer, ◌>>=◌, Bound, with_types, known, found_at, gives, sized, sized_pat, refuses_where, stands_for_con, unify_at, name_at}
use Rattle.static_semantics.specs.TypeInference.{infer_ty}
use Rattle.static_semantics.specs.PatternInference.{infer_pat, infer_pat_fields, as_con, arrow_in, bind_variable, typed_variable}
use Rattle.core_scopes.specs.Scopes.{Bindings}
use Rattle.type_phrases.specs.Inferred.{Answers, progress, home_scope}
use Rattle.pattern_elab.specs.declared.own.OwnVariable.{OwnVariable}
use Rattle.pattern_elab.specs.Scopes.{bound_of, scope_of}
use Rattle.pattern_elab.specs.Steps.{Unified, InferredPat, FindsSides}
use Rattle.pattern_elab.proofs.Forms.{pat_sized}

-- ---- a unification, and the size after it

abbrev pub joins : Graph → Bindings OwnVariable → At → Ty → Ty → Progress → Ty → Bound → Answer (Ty × Bound × Progress)
joins g scope at a b st u bound = unify_at depth (scope_of g scope) at a b st >>= λ s. sized_pat (scope_of g scope)
    at (u, bound, s)

pub joined_sized : (g : Graph) (scope : Bindings OwnVariable) (at : At) (a b u : Ty) (rows : Rows OwnVariable)
    (t new : Table) (x : TyId) (r : Result TyId Fault)
    → Unified g at (unify_in depth a b (state t)) (Ok tt) (state new) → type_of new x ≡ u
    → Answers (sized (home_scope g) at (type_of new x) (progress new g)) (λ (same : TyId). tt) r → IfOk r (λ same.
    same ≡ x)
    → InferredPat (joins g scope at a b (progress t g) u (bound_of rows)) r new rows g
joined_sized g scope at a b u rows t new x r h e k l =
    let m : joins g scope at a b (progress t g) u (bound_of rows)
    ≡ sized_pat (scope_of g scope) at (type_of new x, bound_of rows, progress new g) = rw (h, e) in
    subst (λ m. InferredPat m r new rows g) (sym m) (pat_sized g at new x (bound_of rows) r k l)

pub joined_failed : (g : Graph) (scope : Bindings OwnVariable) (at : At) (a b u : Ty) (bound : Bound)
    (t new : Table) (rows : Rows OwnVariable) (s : State) (e : Fault)
    → Unified g at (unify_in depth a b (state t)) (Err e) s
    → InferredPat (joins g scope at a b (progress t g) u bound) (Err e) new rows g
joined_failed g scope at a b u bound t new rows s (fault.Diag d) h = rw h.is (ap (λ d. Some (Err d)) (sym h.names))
joined_failed g scope at a b u bound t new rows s fault.NoMemory h = tt

-- ---- `p : ty`

pub typed_is : (g : Graph) (scope : Bindings OwnVariable) (p : PatPhrase) (ty : TyPhrase) (at : At) (b c : Bound)
    (st s1 s2 : Progress) (u v w : Ty)
    → infer_pat depth (scope_of g scope) p b st ≡ gives (u, c, s1) → infer_ty (scope_of g scope) ty ≡ gives w
    → v ≡ u → s2 ≡ s1
    → infer_pat depth (scope_of g scope) (PatPhrase.Typed p ty at) b st ≡ joins g scope at v w s2 v c
typed_is g scope p ty at b c st s1 s2 u v w h k e f = rw (h, k, e, f)

pub typed_first : (g : Graph) (sc : Scope) (p : PatPhrase) (ty : TyPhrase) (at : At) (b : Bound) (st : Progress)
    (t new : Table) (rows more : Rows OwnVariable) (e : Fault)
    → InferredPat (infer_pat depth sc p b st) (Err e) t rows g
    → InferredPat (infer_pat depth sc (PatPhrase.Typed p ty at) b st) (Err e) new more g
typed_first g sc p ty at b st t new rows more (fault.Diag d) h = rw h
typed_first g sc p ty at b st t new rows more fault.NoMemory h = tt

pub typed_second : (g : Graph) (sc : Scope) (p : PatPhrase) (ty : TyPhrase) (at : At) (b c : Bound) (st s : Progress)
    (u : Ty) (read : TyId → Ty) (new : Table) (more : Rows OwnVariable) (e : Fault)
    → infer_pat depth sc p b st ≡ gives (u, c, s) → Answers (infer_ty sc ty) read (Err e)
    → InferredPat (infer_pat depth sc (PatPhrase.Typed p ty at) b st) (Err e) new more g
typed_second g sc p ty at b c st s u read new more (fault.Diag d) h k = rw (h, k)
typed_second g sc p ty at b c st s u read new more fault.NoMemory h k = tt

-- ---- a constructor with its argument

given_then : (m : Answer Progress) (u : Ty) (c : Bound) (k : Ty × Bound × Progress → Answer (Ty × Bound × Progress))
    → ((m >>= λ s. gives (u, c, s)) >>= k) ≡ (m >>= λ s. k (u, c, s))
given_then None u c k = refl
given_then (Some (Err d)) u c k = refl
given_then (Some (Ok s)) u c k = refl

pub con_is : (g : Graph) (scope : Bindings OwnVariable) (long : LongName) (p : PatPhrase) (at : At) (b c : Bound)
    (st s1 s2 : Progress) (value : ValueEntry) (u v from to : Ty)
    → known (scope_of g scope) long (found_at values long.parts (scope_of g scope).env) ≡ gives value
    → infer_pat depth (scope_of g scope) p b st ≡ gives (u, c, s1) → as_con (scope_of g scope) at value ≡ gives tt
    → arrow_in value.scheme.body (instance value.scheme s1.types).0 ≡ Some (from, to)
    → v ≡ u → s2 ≡ with_types (instance value.scheme s1.types).1 s1
    → infer_pat depth (scope_of g scope) (PatPhrase.Con long p at) b st ≡ joins g scope at from v s2 to c
con_is g scope long p at b c st s1 s2 value u v from to h i j k e f =
    rw (h, i, j, k, e, f) (given_then (unify_at depth (scope_of g scope) at from u
    (with_types (instance value.scheme s1.types).1 s1)) to c (λ q. sized_pat (scope_of g scope) at q))

pub con_first : (g : Graph) (sc : Scope) (long : LongName) (p : PatPhrase) (at : At) (b : Bound) (st : Progress)
    {R : Type 0} (read : R → ValueEntry) (new : Table) (more : Rows OwnVariable) (e : Fault)
    → Answers (known sc long (found_at values long.parts sc.env)) read (Err e)
    → InferredPat (infer_pat depth sc (PatPhrase.Con long p at) b st) (Err e) new more g
con_first g sc long p at b st read new more (fault.Diag d) h = rw h
con_first g sc long p at b st read new more fault.NoMemory h = tt

pub con_second : (g : Graph) (sc : Scope) (long : LongName) (p : PatPhrase) (at : At) (b : Bound) (st : Progress)
    (value : ValueEntry) (t new : Table) (rows more : Rows OwnVariable) (e : Fault)
    → known sc long (found_at values long.parts sc.env) ≡ gives value
    → InferredPat (infer_pat depth sc p b st) (Err e) t rows g
    → InferredPat (infer_pat depth sc (PatPhrase.Con long p at) b st) (Err e) new more g
con_second g sc long p at b st value t new rows more (fault.Diag d) h k = rw (h, k)
con_second g sc long p at b st value t new rows more fault.NoMemory h k = tt

pub con_third : (g : Graph) (sc : Scope) (long : LongName) (p : PatPhrase) (at : At) (b c : Bound) (st s : Progress)
    (value : ValueEntry) (u : Ty) (read : Unit {0} → Unit {0}) (new : Table) (more : Rows OwnVariable) (e : Fault)
    → known sc long (found_at values long.parts sc.env) ≡ gives value → infer_pat depth sc p b st ≡ gives (u, c, s)
    → Answers (as_con sc at value) read (Err e)
    → InferredPat (infer_pat depth sc (PatPhrase.Con long p at) b st) (Err e) new more g
con_third g sc long p at b c st s value u read new more (fault.Diag d) h k l = rw (h, k, l)
con_third g sc long p at b c st s value u read new more fault.NoMemory h k l = tt

pub con_fourth : (g : Graph) (scope : Bindings OwnVariable) (long : LongName) (p : PatPhrase) (at : At) (b c : Bound)
    (st s : Progress) (value : ValueEntry) (u : Ty) (t new : Table) (more : Rows OwnVariable) (e : Fault)
    → known (scope_of g scope) long (found_at values long.parts (scope_of g scope).env) ≡ gives value
    → infer_pat depth (scope_of g scope) p b st ≡ gives (u, c, s) → as_con (scope_of g scope) at value ≡ gives tt
    → FindsSides g at (arrow_in value.scheme.body (instance value.scheme s.types).0) (Err e) t
    → InferredPat (infer_pat depth (scope_of g scope) (PatPhrase.Con long p at) b st) (Err e) new more g
con_fourth g scope long p at b c st s value u t new more (fault.Diag d) h k l m =
    rw (h, k, l, m.0) (ap (λ d. Some (Err d)) (sym m.1))
con_fourth g scope long p at b c st s value u t new more fault.NoMemory h k l m = tt

-- ---- `x : ty as p`

pub as_is : (g : Graph) (scope : Bindings OwnVariable) (name : Name) (ty : Option TyPhrase) (p : PatPhrase) (at : At)
    (b c d : Bound) (st s1 s2 s3 : Progress) (u v w : Ty)
    → refuses_where (stands_for_con (entry name.text (values (scope_of g scope).env))) 34 (scope_of g scope) at ≡
    gives tt
    → bind_variable (scope_of g scope) (name_at name) name.text b st ≡ gives (u, c, s1)
    → typed_variable depth (scope_of g scope) at u ty s1 ≡ gives s2
    → infer_pat depth (scope_of g scope) p c s2 ≡ gives (w, d, s3) → v ≡ u
    → infer_pat depth (scope_of g scope) (PatPhrase.As name ty p at) b st ≡ joins g scope at v w s3 v d
as_is g scope name ty p at b c d st s1 s2 s3 u v w h i j k e = rw (h, i, j, k, e)

pub as_first : (g : Graph) (sc : Scope) (name : Name) (ty : Option TyPhrase) (p : PatPhrase) (at : At) (b : Bound)
    (st : Progress) (read : Unit {0} → Unit {0}) (new : Table) (more : Rows OwnVariable) (e : Fault)
    → Answers (refuses_where (stands_for_con (entry name.text (values sc.env))) 34 sc at) read (Err e)
    → InferredPat (infer_pat depth sc (PatPhrase.As name ty p at) b st) (Err e) new more g
as_first g sc name ty p at b st read new more (fault.Diag d) h = rw h
as_first g sc name ty p at b st read new more fault.NoMemory h = tt

pub as_second : (g : Graph) (sc : Scope) (name : Name) (ty : Option TyPhrase) (p : PatPhrase) (at : At) (b : Bound)
    (st : Progress) (t new : Table) (rows more : Rows OwnVariable) (e : Fault)
    → refuses_where (stands_for_con (entry name.text (values sc.env))) 34 sc at ≡ gives tt
    → InferredPat (bind_variable sc (name_at name) name.text b st) (Err e) t rows g
    → InferredPat (infer_pat depth sc (PatPhrase.As name ty p at) b st) (Err e) new more g
as_second g sc name ty p at b st t new rows more (fault.Diag d) h k = rw (h, k)
as_second g sc name ty p at b st t new rows more fault.NoMemory h k = tt

pub as_third : (g : Graph) (sc : Scope) (name : Name) (ty : Option TyPhrase) (p : PatPhrase) (at : At) (b c : Bound)
    (st s : Progress) (u : Ty) (read : Unit {0} → Progress) (new : Table) (more : Rows OwnVariable) (e : Fault)
    → refuses_where (stands_for_con (entry name.text (values sc.env))) 34 sc at ≡ gives tt
    → bind_variable sc (name_at name) name.text b st ≡ gives (u, c, s)
    → Answers (typed_variable depth sc at u ty s) read (Err e)
    → InferredPat (infer_pat depth sc (PatPhrase.As name ty p at) b st) (Err e) new more g
as_third g sc name ty p at b c st s u read new more (fault.Diag d) h k l = rw (h, k, l)
as_third g sc name ty p at b c st s u read new more fault.NoMemory h k l = tt

pub as_fourth : (g : Graph) (sc : Scope) (name : Name) (ty : Option TyPhrase) (p : PatPhrase) (at : At) (b c : Bound)
    (st s1 s2 : Progress) (u : Ty) (t new : Table) (rows more : Rows OwnVariable) (e : Fault)
    → refuses_where (stands_for_con (entry name.text (values sc.env))) 34 sc at ≡ gives tt
    → bind_variable sc (name_at name) name.text b st ≡ gives (u, c, s1)
    → typed_variable depth sc at u ty s1 ≡ gives s2
    → InferredPat (infer_pat depth sc p c s2) (Err e) t rows g
    → InferredPat (infer_pat depth sc (PatPhrase.As name ty p at) b st) (Err e) new more g
as_fourth g sc name ty p at b c st s1 s2 u t new rows more (fault.Diag d) h i j k = rw (h, i, j, k)
as_fourth g sc name ty p at b c st s1 s2 u t new rows more fault.NoMemory h i j k = tt

-- ---- the type written at a variable

pub typed_joins : (g : Graph) (scope : Bindings OwnVariable) (at : At) (ty : TyPhrase) (u v w : Ty) (s1 s2 : Progress)
    → infer_ty (scope_of g scope) ty ≡ gives w → v ≡ u → s2 ≡ s1
    → typed_variable depth (scope_of g scope) at u (Some ty) s1 ≡ unify_at depth (scope_of g scope) at v w s2
typed_joins g scope at ty u v w s1 s2 h e f = rw (h, e, f)

pub typed_failed : (sc : Scope) (at : At) (ty : TyPhrase) (u : Ty) (s : Progress) (read : TyId → Ty)
    (told : Unit {0} → Progress) (e : Fault) → Answers (infer_ty sc ty) read (Err e)
    → Answers (typed_variable depth sc at u (Some ty) s) told (Err e)
typed_failed sc at ty u s read told (fault.Diag d) h = rw h
typed_failed sc at ty u s read told fault.NoMemory h = tt

pub unify_answers : (g : Graph) (scope : Bindings OwnVariable) (at : At) (a b : Ty) (t new : Table)
    (r : Result (Unit {0}) Fault) → Unified g at (unify_in depth a b (state t)) r (state new)
    → Answers (unify_at depth (scope_of g scope) at a b (progress t g)) (λ (u : Unit {0}). progress new g) r
unify_answers g scope at a b t new (Ok u) h = rw h
unify_answers g scope at a b t new (Err (fault.Diag d)) h = rw h.is (ap (λ d. Some (Err d)) (sym h.names))
unify_answers g scope at a b t new (Err fault.NoMemory) h = tt

-- ---- records

pub record_is : (sc : Scope) (fields : PatFields) (at : At) (b c : Bound) (st s : Progress) (made : Named Ty) (u : Ty)
    → infer_pat_fields depth sc fields [] b st ≡ gives (made, c, s) → u ≡ record_ty made
    → infer_pat depth sc (PatPhrase.Record fields at) b st ≡ sized_pat sc at (u, c, s)
record_is sc fields at b c st s made u h e = rw (h, e)

pub record_failed : (g : Graph) (sc : Scope) (fields : PatFields) (at : At) (b : Bound) (st : Progress) {R : Type 0}
    (read : R → Named Ty × Bound × Progress) (new : Table) (more : Rows OwnVariable) (e : Fault)
    → Answers (infer_pat_fields depth sc fields [] b st) read (Err e)
    → InferredPat (infer_pat depth sc (PatPhrase.Record fields at) b st) (Err e) new more g
record_failed g sc fields at b st read new more (fault.Diag d) h = rw h
record_failed g sc fields at b st read new more fault.NoMemory h = tt

-- ---- phrases

pub as_phrase : (g : Graph) (sc : Scope) (p q : PatPhrase) (b : Bound) (st : Progress) (t : Table) (rows : Rows
    OwnVariable)
    (r : Result TyId Fault) → p ≡ q → InferredPat (infer_pat depth sc q b st) r t rows g
    → InferredPat (infer_pat depth sc p b st) r t rows g
as_phrase g sc p q b st t rows r e h = subst (λ z. InferredPat (infer_pat depth sc z b st) r t rows g) (sym e) h
