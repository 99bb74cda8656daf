-- What the types of patterns, and of the variables that they bind, are made of.
use Rattle.std.proofs.Common.{◌≡◌, ℕ, List, [], ◌∷◌, refl, ◌∙◌, Option, Some, None, Bool, true, false, not}
use Rattle.std.specs.Option.{is_some}
use Rattle.sml_trees.specs.declared.name.At.{At}
use Rattle.sml_trees.specs.declared.name.LongName.{LongName}
use Rattle.semantic_objects.specs.declared.symbol.Symbol.TheVariants as symbol
use Rattle.semantic_objects.specs.declared.entry.ValueEntry.{ValueEntry}
use Rattle.semantic_objects.specs.Tables.{Table, entry, with_entry}
use Rattle.semantic_objects.specs.Trees.{Tree, TypeScheme}
use Rattle.semantic_objects.specs.Environments.{values}
use Rattle.unification.specs.Types.{Ty, Types, State, put}
use Rattle.unification.specs.Instances.{with_variable, with_variables}
use Rattle.bare_phrases.specs.Phrases.{TyPhrase, PatPhrase, PatFields}
use Rattle.static_semantics.specs.BasicTypes.{int_ty, string_ty, char_ty, record_ty, arrow_parts, reserved_names, is_one_of}
use Rattle.static_semantics.specs.Inferring.{Progress, Scope, gives, name_at, known, unify_at, found_at, is_named, is_con, stands_for_con, new_variable, new_instance, Bound, is_too_large, sized_pat}
use Rattle.static_semantics.specs.TypeInference.{infer_ty}
use Rattle.static_semantics.specs.PatternInference.{bind_variable, takes_none, arrow_in, with_argument, lone_con, applied_con, known_pat, name_by, name_pat, typed_variable, infer_pat, infer_pat_fields}
use Rattle.static_semantics.specs.Holding.{Given, IfSome, AllRows, ValueHas}
use Rattle.static_semantics.proofs.Holding.{given_then, given_where, given_known, rows_after, has_values, has_found}
use Rattle.static_semantics.proofs.TypesGrow.{given_more}
use Rattle.inference_laws.specs.Nodes.{Nodes, TyOf, StateOf, SchemeOf, FunctionOf, ScopeOf, IsOf, PatOf}
use Rattle.inference_laws.specs.Spelling.{OptionalSpelt, PatSpelt, PatFieldsSpelt}
use Rattle.inference_laws.proofs.Nodes.{ty_filled, FieldsOf, no_fields, field_more, ty_record}
use Rattle.inference_laws.proofs.Unifying.{UnifiedOf, unify_of}
use Rattle.inference_laws.proofs.TypesMade.{state_same, ty_of}

pub record PatFieldsOf (good : List ℕ → Bool) (q : Nodes) (st : Progress) (r : Table Ty × Bound × Progress) : Type 0
  where
    pub names : r.2.names ≡ st.names
    pub state : StateOf q r.2.types
    pub fields : FieldsOf good q r.0
    pub bound : AllRows (TyOf q) r.1

pub at_state : (good : List ℕ → Bool) (q : Nodes) (sc : Scope) (st u : Progress) → IsOf good sc st q → StateOf q u.types
    → IsOf good sc u q
at_state good q sc st u h k = record { scope = h.scope; state = k }

pat_sized : (q : Nodes) (st : Progress) (sc : Scope) (at : At) (r : Ty × Bound × Progress) → PatOf q st r
    → Given (PatOf q st) (sized_pat sc at r)
pat_sized q st sc at r h = given_where (PatOf q st) (is_too_large (put r.2.types.stands r.0)) 38 sc at (λ u. gives r) h

-- a value of the environment
pub value_of : (good : List ℕ → Bool) (q : Nodes) (sc : Scope) (long : LongName) → ScopeOf good sc q
    → Given (ValueHas (SchemeOf q)) (known sc long (found_at values long.parts sc.env))
value_of good q sc long h = given_known (ValueHas (SchemeOf q)) sc long (found_at values long.parts sc.env)
    (has_found (SchemeOf q) (FunctionOf q) (ValueHas (SchemeOf q)) values (has_values (SchemeOf q) (FunctionOf q))
    long.parts sc.env h.env)

-- instances
stands_after : (rigid : Bool) (ms : List Bool) (s : State) → (with_variables rigid ms s).stands ≡ s.stands
stands_after rigid [] s = refl
stands_after rigid (m ∷ ms) s = stands_after rigid ms (with_variable rigid m s)

pub instance_state : (q : Nodes) (σ : TypeScheme) (st : Progress) → StateOf q st.types
    → StateOf q (new_instance σ st).1.types
instance_state q σ st h = state_same q (new_instance σ st).1.types st.types.stands
    (stands_after false σ.marks st.types) h

pub instance_ty : (q : Nodes) (σ : TypeScheme) (st : Progress) → SchemeOf q σ → TyOf q (new_instance σ st).0
instance_ty q σ st h = ty_filled q _ Ty.Var σ.body (λ i. tt) (λ n. tt) h.body

bind_of : (q : Nodes) (sc : Scope) (at : At) (name : List ℕ) (bound : Bound) (st : Progress) → StateOf q st.types
    → AllRows (TyOf q) bound → Given (PatOf q st) (bind_variable sc at name bound st)
bind_of q sc at name bound st h k =
    given_where (PatOf q st) (is_one_of reserved_names name) 34 sc at _
    (given_where (PatOf q st) (is_named name bound) 40 sc at _ (record {
      names = refl;
      state = h;
      ty = tt;
      bound = rows_after (TyOf q) bound ((name, (new_variable st).0) ∷ []) k (tt, tt);
    }))

lone_of : (q : Nodes) (sc : Scope) (at : At) (bound : Bound) (value : ValueEntry) (st : Progress) → StateOf q st.types
    → AllRows (TyOf q) bound → SchemeOf q value.scheme → Given (PatOf q st) (lone_con sc at bound value st)
lone_of q sc at bound value st h k l =
    given_where (PatOf q st) (not (is_con value.status)) 34 sc at _
    (given_where (PatOf q st) (not (takes_none value.scheme.body)) 34 sc at _ (record {
      names = refl;
      state = instance_state q value.scheme st h;
      ty = instance_ty q value.scheme st l;
      bound = k;
    }))

-- both sides of an arrow that was found
abbrev BothOf : Nodes → Ty × Ty → Type 0
BothOf q parts = TyOf q parts.0 × TyOf q parts.1

parts_of : (q : Nodes) (ty : Ty) → TyOf q ty → IfSome (BothOf q) (arrow_parts ty)
parts_of q (Ty.Var n) h = tt
parts_of q (Ty.Made symbol.Arrow Types.Nil) h = tt
parts_of q (Ty.Made symbol.Arrow (Types.Cons a Types.Nil)) h = tt
parts_of q (Ty.Made symbol.Arrow (Types.Cons a (Types.Cons b Types.Nil))) h = (h.1.0, h.1.1.0)
parts_of q (Ty.Made symbol.Arrow (Types.Cons a (Types.Cons b (Types.Cons c ts)))) h = tt
parts_of q (Ty.Made (symbol.Record labels) ts) h = tt
parts_of q (Ty.Made (symbol.Name name) ts) h = tt

arrow_found : (q : Nodes) (body : Tree) (ty : Ty) → TyOf q ty → IfSome (BothOf q) (arrow_in body ty)
arrow_found q (Tree.Bound i) ty h = tt
arrow_found q (Tree.Free n) ty h = tt
arrow_found q (Tree.Made c ts) ty h = parts_of q ty h

argument_of : (q : Nodes) (sc : Scope) (at : At) (o : Option (Ty × Ty)) → IfSome (BothOf q) o
    → Given (BothOf q) (with_argument sc at o)
argument_of q sc at None h = tt
argument_of q sc at (Some parts) h = h

applied_of : (q : Nodes) (depth : ℕ) (sc : Scope) (at : At) (value : ValueEntry) (arg : Ty × Bound × Progress)
    → StateOf q arg.2.types → TyOf q arg.0 → AllRows (TyOf q) arg.1 → SchemeOf q value.scheme
    → Given (PatOf q arg.2) (applied_con depth sc at value arg)
applied_of q depth sc at value arg h k l m =
    let u : Progress = (new_instance value.scheme arg.2).1 in
    given_where (PatOf q arg.2) (not (is_con value.status)) 34 sc at _
    (given_then (BothOf q) (PatOf q arg.2)
    (with_argument sc at (arrow_in value.scheme.body (new_instance value.scheme arg.2).0)) _
    (argument_of q sc at (arrow_in value.scheme.body (new_instance value.scheme arg.2).0)
    (arrow_found q value.scheme.body (new_instance value.scheme arg.2).0 (instance_ty q value.scheme arg.2 m)))
    (λ parts i.
    given_then (UnifiedOf q u) (PatOf q arg.2) (unify_at depth sc at parts.0 arg.0 u) _
    (unify_of q depth sc at parts.0 arg.0 u (instance_state q value.scheme arg.2 h) i.0 k) (λ v j.
    record { names = j.0; state = j.1; ty = i.1; bound = l })))

known_of : (good : List ℕ → Bool) (q : Nodes) (sc : Scope) (long : LongName) (at : At) (bound : Bound) (st : Progress)
    → IsOf good sc st q → AllRows (TyOf q) bound → Given (PatOf q st) (known_pat sc long at bound st)
known_of good q sc long at bound st h k = given_then (ValueHas (SchemeOf q)) (PatOf q st)
    (known sc long (found_at values long.parts sc.env)) _ (value_of good q sc long h.scope)
    (λ value l. lone_of q sc at bound value st h.state k l)

by_of : (good : List ℕ → Bool) (q : Nodes) (sc : Scope) (at : At) (c : Bool) (name : List ℕ) (long : LongName)
    (bound : Bound) (st : Progress) → IsOf good sc st q → AllRows (TyOf q) bound
    → Given (PatOf q st) (name_by sc at c name long bound st)
by_of good q sc at true name long bound st h k = known_of good q sc long at bound st h k
by_of good q sc at false name long bound st h k = bind_of q sc at name bound st h.state k

name_of : (good : List ℕ → Bool) (q : Nodes) (sc : Scope) (long : LongName) (at : At) (parts : List (List ℕ))
    (bound : Bound) (st : Progress) → IsOf good sc st q → AllRows (TyOf q) bound
    → Given (PatOf q st) (name_pat sc long at parts bound st)
name_of good q sc long at [] bound st h k = known_of good q sc long at bound st h k
name_of good q sc long at (name ∷ []) bound st h k =
    by_of good q sc at (stands_for_con (entry name (values sc.env))) name long bound st h k
name_of good q sc long at (name ∷ next ∷ rest) bound st h k = known_of good q sc long at bound st h k

typed_of : (good : List ℕ → Bool) (q : Nodes) (depth : ℕ) (sc : Scope) (at : At) (x : Ty) (ty : Option TyPhrase)
    (st : Progress) → OptionalSpelt good ty → IsOf good sc st q → TyOf q x
    → Given (UnifiedOf q st) (typed_variable depth sc at x ty st)
typed_of good q depth sc at x None st p h k = (refl, h.state)
typed_of good q depth sc at x (Some ty) st p h k =
    given_then (TyOf q) (UnifiedOf q st) (infer_ty sc ty) _ (ty_of good q sc ty p h.scope)
    (λ t l. unify_of q depth sc at x t st h.state k l)

mutual
  pub pat_of : (good : List ℕ → Bool) (q : Nodes) (depth : ℕ) (sc : Scope) (pat : PatPhrase) (bound : Bound)
      (st : Progress) → PatSpelt good pat → IsOf good sc st q → AllRows (TyOf q) bound
      → Given (PatOf q st) (infer_pat depth sc pat bound st)
  pat_of good q depth sc (PatPhrase.Wild at) bound st p h k =
      pat_sized q st sc at ((new_variable st).0, bound, (new_variable st).1)
      (record { names = refl; state = h.state; ty = tt; bound = k })
  pat_of good q depth sc (PatPhrase.Int value at) bound st p h k = pat_sized q st sc at (int_ty, bound, st)
      (record { names = refl; state = h.state; ty = (h.scope.admits.int, tt); bound = k })
  pat_of good q depth sc (PatPhrase.Str value at) bound st p h k = pat_sized q st sc at (string_ty, bound, st)
      (record { names = refl; state = h.state; ty = (h.scope.admits.string, tt); bound = k })
  pat_of good q depth sc (PatPhrase.Char value at) bound st p h k = pat_sized q st sc at (char_ty, bound, st)
      (record { names = refl; state = h.state; ty = (h.scope.admits.char, tt); bound = k })
  pat_of good q depth sc (PatPhrase.Long long at) bound st p h k =
      given_then (PatOf q st) (PatOf q st) (name_pat sc long at long.parts bound st) _
      (name_of good q sc long at long.parts bound st h k) (λ r i. pat_sized q st sc at r i)
  pat_of good q depth sc (PatPhrase.Record fields at) bound st p h k =
      given_then (PatFieldsOf good q st) (PatOf q st) (infer_pat_fields depth sc fields [] bound st) _
      (pat_fields_of good q depth sc fields [] bound st p h (no_fields good q) k) (λ r i.
      pat_sized q st sc at (record_ty r.0, r.1, r.2) (record {
        names = i.names;
        state = i.state;
        ty = ty_record good q r.0 h.scope.admits i.fields;
        bound = i.bound;
      }))
  pat_of good q depth sc (PatPhrase.Con long arg at) bound st p h k =
      given_then (ValueHas (SchemeOf q)) (PatOf q st) (known sc long (found_at values long.parts sc.env)) _
      (value_of good q sc long h.scope) (λ value l.
      given_then (PatOf q st) (PatOf q st) (infer_pat depth sc arg bound st) _
      (pat_of good q depth sc arg bound st p h k) (λ r i.
      given_then (PatOf q r.2) (PatOf q st) (applied_con depth sc at value r) _
      (applied_of q depth sc at value r i.state i.ty i.bound l) (λ v j.
      pat_sized q st sc at v (record { names = j.names ∙ i.names; state = j.state; ty = j.ty; bound = j.bound }))))
  pat_of good q depth sc (PatPhrase.Typed pat ty at) bound st p h k =
      given_then (PatOf q st) (PatOf q st) (infer_pat depth sc pat bound st) _
      (pat_of good q depth sc pat bound st p.0 h k) (λ r i.
      given_then (TyOf q) (PatOf q st) (infer_ty sc ty) _ (ty_of good q sc ty p.1 h.scope) (λ t j.
      given_then (UnifiedOf q r.2) (PatOf q st) (unify_at depth sc at r.0 t r.2) _
      (unify_of q depth sc at r.0 t r.2 i.state i.ty j) (λ u l.
      pat_sized q st sc at (r.0, r.1, u)
      (record { names = l.0 ∙ i.names; state = l.1; ty = i.ty; bound = i.bound }))))
  pat_of good q depth sc (PatPhrase.As name ty pat at) bound st p h k =
      given_where (PatOf q st) (stands_for_con (entry name.text (values sc.env))) 34 sc at _
      (given_then (PatOf q st) (PatOf q st) (bind_variable sc (name_at name) name.text bound st) _
      (bind_of q sc (name_at name) name.text bound st h.state k) (λ x i.
      given_then (UnifiedOf q x.2) (PatOf q st) (typed_variable depth sc at x.0 ty x.2) _
      (typed_of good q depth sc at x.0 ty x.2 p.1 (at_state good q sc st x.2 h i.state) i.ty) (λ s j.
      given_then (PatOf q s) (PatOf q st) (infer_pat depth sc pat x.1 s) _
      (pat_of good q depth sc pat x.1 s p.2 (at_state good q sc st s h j.1) i.bound) (λ r l.
      given_then (UnifiedOf q r.2) (PatOf q st) (unify_at depth sc at x.0 r.0 r.2) _
      (unify_of q depth sc at x.0 r.0 r.2 l.state i.ty l.ty) (λ u m.
      pat_sized q st sc at (x.0, r.1, u) (record {
        names = m.0 ∙ l.names ∙ j.0 ∙ i.names;
        state = m.1;
        ty = i.ty;
        bound = l.bound;
      }))))))

  pub pat_fields_of : (good : List ℕ → Bool) (q : Nodes) (depth : ℕ) (sc : Scope) (fields : PatFields) (made : Table Ty)
      (bound : Bound) (st : Progress) → PatFieldsSpelt good fields → IsOf good sc st q → FieldsOf good q made
      → AllRows (TyOf q) bound → Given (PatFieldsOf good q st) (infer_pat_fields depth sc fields made bound st)
  pat_fields_of good q depth sc PatFields.EndOfFields made bound st p h k l =
      record { names = refl; state = h.state; fields = k; bound = l }
  pat_fields_of good q depth sc (PatFields.Field label pat rest) made bound st p h k l =
      given_where (PatFieldsOf good q st) (is_some (entry label.text made)) 40 sc (name_at label) _
      (given_then (PatOf q st) (PatFieldsOf good q st) (infer_pat depth sc pat bound st) _
      (pat_of good q depth sc pat bound st p.1 h l) (λ r i.
      given_more (PatFieldsOf good q r.2) (PatFieldsOf good q st)
      (infer_pat_fields depth sc rest (with_entry label.text r.0 made) r.1 r.2)
      (λ v j. record { names = j.names ∙ i.names; state = j.state; fields = j.fields; bound = j.bound })
      (pat_fields_of good q depth sc rest (with_entry label.text r.0 made) r.1 r.2 p.2
      (at_state good q sc st r.2 h i.state)
      (field_more good q label.text r.0 made p.0 i.ty k) i.bound)))
