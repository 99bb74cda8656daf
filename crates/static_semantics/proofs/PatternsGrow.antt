-- Patterns: states grow, and types and variables stay among such variables.
use Rattle.std.proofs.Common.{ℕ, List, [], ◌∷◌, Option, Some, None, Bool, true, false, not}
use Rattle.std.specs.Option.{is_some}
use Rattle.sml_trees.specs.declared.name.At.{At}
use Rattle.sml_trees.specs.declared.name.LongName.{LongName}
use Rattle.semantic_objects.specs.declared.symbol.Symbol.TheVariants as symbol
use Rattle.semantic_objects.specs.declared.entry.ValueEntry.{ValueEntry}
use Rattle.semantic_objects.specs.Tables.{Table, entry, with_entry}
use Rattle.semantic_objects.specs.Trees.{Tree}
use Rattle.semantic_objects.specs.Environments.{values}
use Rattle.unification.specs.Types.{Ty, Types, State, put}
use Rattle.bare_phrases.specs.Phrases.{TyPhrase, PatPhrase, PatFields}
use Rattle.static_semantics.specs.BasicTypes.{int_ty, string_ty, char_ty, record_ty, arrow_parts, reserved_names, is_one_of}
use Rattle.static_semantics.specs.Inferring.{Progress, Scope, gives, name_at, known, unify_at, found_at, is_named, is_con, stands_for_con, new_variable, new_instance, Bound, is_too_large, sized_pat}
use Rattle.static_semantics.specs.TypeInference.{infer_ty}
use Rattle.static_semantics.specs.PatternInference.{bind_variable, takes_none, arrow_in, with_argument, lone_con, applied_con, known_pat, name_by, name_pat, typed_variable, infer_pat, infer_pat_fields}
use Rattle.static_semantics.specs.Holding.{Given, IfSome, AllRows, ValueHas}
use Rattle.static_semantics.specs.Growing.{TyIn, SchemeIn, FunctionIn, ScopeIn, Grows, IsReady}
use Rattle.static_semantics.proofs.Holding.{given_then, given_where, given_known, rows_with, rows_after, has_values, has_found}
use Rattle.static_semantics.proofs.Growing.{grows_same, grows_then, ty_later, rows_later, ready_later, grows_variable, ty_new, grows_instance, ty_instance, scheme_later, ty_record, ty_constant, arrow_left, arrow_right, unify_grows}
use Rattle.static_semantics.proofs.TypesGrow.{given_more, ty_grows}

-- what a pattern gives
abbrev pub PatIn : (ℕ → Type 0) → Progress → Ty × Bound × Progress → Type 0
PatIn P st r = Grows P st r.2 × TyIn P r.2.types r.0 × AllRows (TyIn P r.2.types) r.1

abbrev pub PatFieldsIn : (ℕ → Type 0) → Progress → Table Ty × Bound × Progress → Type 0
PatFieldsIn P st r = Grows P st r.2 × AllRows (TyIn P r.2.types) r.0 × AllRows (TyIn P r.2.types) r.1

pat_after : (P : ℕ → Type 0) (st u : Progress) → Grows P st u → (r : Ty × Bound × Progress) → PatIn P u r → PatIn P st r
pat_after P st u g r h = (grows_then P st u r.2 g h.0, h.1, h.2)

pat_sized : (P : ℕ → Type 0) (st : Progress) (sc : Scope) (at : At) (r : Ty × Bound × Progress) → PatIn P st r
    → Given (PatIn P st) (sized_pat sc at r)
pat_sized P st sc at r h = given_where (PatIn P st) (is_too_large (put r.2.types.stands r.0)) 38 sc at (λ u. gives r) h

-- a value of the environment
pub value_in : (P : ℕ → Type 0) (s : State) (sc : Scope) (long : LongName) → ScopeIn P s sc
    → Given (ValueHas (SchemeIn P s)) (known sc long (found_at values long.parts sc.env))
value_in P s sc long h = given_known (ValueHas (SchemeIn P s)) sc long (found_at values long.parts sc.env)
    (has_found (SchemeIn P s) (FunctionIn P s) (ValueHas (SchemeIn P s)) values
    (has_values (SchemeIn P s) (FunctionIn P s)) long.parts sc.env h.env)

bind_grows : (P : ℕ → Type 0) (sc : Scope) (at : At) (name : List ℕ) (bound : Bound) (st : Progress) → IsReady P sc st
    → AllRows (TyIn P st.types) bound → Given (PatIn P st) (bind_variable sc at name bound st)
bind_grows P sc at name bound st h k =
    let g : Grows P st (new_variable st).1 = grows_variable P false false st h.fit h.new in
    let t : TyIn P (new_variable st).1.types (new_variable st).0 = ty_new P false false st h.fit h.new in
    given_where (PatIn P st) (is_one_of reserved_names name) 34 sc at _
    (given_where (PatIn P st) (is_named name bound) 40 sc at _ (
      g,
      t,
      rows_after (TyIn P (new_variable st).1.types) bound ((name, (new_variable st).0) ∷ [])
          (rows_later P st (new_variable st).1 bound g k) (t, tt),
    ))

lone_grows : (P : ℕ → Type 0) (sc : Scope) (at : At) (bound : Bound) (value : ValueEntry) (st : Progress)
    → IsReady P sc st → AllRows (TyIn P st.types) bound → SchemeIn P st.types value.scheme
    → Given (PatIn P st) (lone_con sc at bound value st)
lone_grows P sc at bound value st h k l =
    let g : Grows P st (new_instance value.scheme st).1 = grows_instance P value.scheme st h.fit h.new in
    given_where (PatIn P st) (not (is_con value.status)) 34 sc at _
    (given_where (PatIn P st) (not (takes_none value.scheme.body)) 34 sc at _
    (g, ty_instance P value.scheme st h.fit h.new l, rows_later P st (new_instance value.scheme st).1 bound g k))

-- both sides of an arrow that was found
abbrev BothIn : (ℕ → Type 0) → State → Ty × Ty → Type 0
BothIn P s parts = TyIn P s parts.0 × TyIn P s parts.1

parts_in : (P : ℕ → Type 0) (s : State) (ty : Ty) → TyIn P s ty → IfSome (BothIn P s) (arrow_parts ty)
parts_in P s (Ty.Var n) h = tt
parts_in P s (Ty.Made symbol.Arrow Types.Nil) h = tt
parts_in P s (Ty.Made symbol.Arrow (Types.Cons a Types.Nil)) h = tt
parts_in P s (Ty.Made symbol.Arrow (Types.Cons a (Types.Cons b Types.Nil))) h =
    (arrow_left P s symbol.Arrow a b h, arrow_right P s symbol.Arrow a b h)
parts_in P s (Ty.Made symbol.Arrow (Types.Cons a (Types.Cons b (Types.Cons c ts)))) h = tt
parts_in P s (Ty.Made (symbol.Record labels) ts) h = tt
parts_in P s (Ty.Made (symbol.Name name) ts) h = tt

arrow_found : (P : ℕ → Type 0) (s : State) (body : Tree) (ty : Ty) → TyIn P s ty
    → IfSome (BothIn P s) (arrow_in body ty)
arrow_found P s (Tree.Bound i) ty h = tt
arrow_found P s (Tree.Free n) ty h = tt
arrow_found P s (Tree.Made c ts) ty h = parts_in P s ty h

argument_grows : (P : ℕ → Type 0) (s : State) (sc : Scope) (at : At) (o : Option (Ty × Ty)) → IfSome (BothIn P s) o
    → Given (BothIn P s) (with_argument sc at o)
argument_grows P s sc at None h = tt
argument_grows P s sc at (Some parts) h = h

applied_grows : (P : ℕ → Type 0) (depth : ℕ) (sc : Scope) (at : At) (value : ValueEntry) (arg : Ty × Bound × Progress)
    → IsReady P sc arg.2 → TyIn P arg.2.types arg.0 → AllRows (TyIn P arg.2.types) arg.1
    → SchemeIn P arg.2.types value.scheme → Given (PatIn P arg.2) (applied_con depth sc at value arg)
applied_grows P depth sc at value arg h k l m =
    let u : Progress = (new_instance value.scheme arg.2).1 in
    let g : Grows P arg.2 u = grows_instance P value.scheme arg.2 h.fit h.new in
    given_where (PatIn P arg.2) (not (is_con value.status)) 34 sc at _
    (given_then (BothIn P u.types) (PatIn P arg.2)
    (with_argument sc at (arrow_in value.scheme.body (new_instance value.scheme arg.2).0)) _
    (argument_grows P u.types sc at (arrow_in value.scheme.body (new_instance value.scheme arg.2).0)
    (arrow_found P u.types value.scheme.body (new_instance value.scheme arg.2).0
    (ty_instance P value.scheme arg.2 h.fit h.new m))) (λ parts i.
    given_then (Grows P u) (PatIn P arg.2) (unify_at depth sc at parts.0 arg.0 u) _
    (unify_grows P depth sc at parts.0 arg.0 u g.fit i.0 (ty_later P arg.2 u arg.0 g k)) (λ v j. (
      grows_then P arg.2 u v g j,
      ty_later P u v parts.1 j i.1,
      rows_later P arg.2 v arg.1 (grows_then P arg.2 u v g j) l,
    ))))

known_grows : (P : ℕ → Type 0) (sc : Scope) (long : LongName) (at : At) (bound : Bound) (st : Progress)
    → IsReady P sc st
    → AllRows (TyIn P st.types) bound → Given (PatIn P st) (known_pat sc long at bound st)
known_grows P sc long at bound st h k = given_then (ValueHas (SchemeIn P st.types)) (PatIn P st)
    (known sc long (found_at values long.parts sc.env)) _ (value_in P st.types sc long h.scope)
    (λ value l. lone_grows P sc at bound value st h k l)

by_grows : (P : ℕ → Type 0) (sc : Scope) (at : At) (c : Bool) (name : List ℕ) (long : LongName) (bound : Bound)
    (st : Progress) → IsReady P sc st → AllRows (TyIn P st.types) bound
    → Given (PatIn P st) (name_by sc at c name long bound st)
by_grows P sc at true name long bound st h k = known_grows P sc long at bound st h k
by_grows P sc at false name long bound st h k = bind_grows P sc at name bound st h k

name_grows : (P : ℕ → Type 0) (sc : Scope) (long : LongName) (at : At) (parts : List (List ℕ)) (bound : Bound)
    (st : Progress) → IsReady P sc st → AllRows (TyIn P st.types) bound
    → Given (PatIn P st) (name_pat sc long at parts bound st)
name_grows P sc long at [] bound st h k = known_grows P sc long at bound st h k
name_grows P sc long at (name ∷ []) bound st h k =
    by_grows P sc at (stands_for_con (entry name (values sc.env))) name long bound st h k
name_grows P sc long at (name ∷ next ∷ rest) bound st h k = known_grows P sc long at bound st h k

typed_grows : (P : ℕ → Type 0) (depth : ℕ) (sc : Scope) (at : At) (x : Ty) (ty : Option TyPhrase) (st : Progress)
    → IsReady P sc st → TyIn P st.types x → Given (Grows P st) (typed_variable depth sc at x ty st)
typed_grows P depth sc at x None st h k = grows_same P st h.fit
typed_grows P depth sc at x (Some ty) st h k =
    given_then (TyIn P st.types) (Grows P st) (infer_ty sc ty) _ (ty_grows P st.types sc ty h.scope)
    (λ t l. unify_grows P depth sc at x t st h.fit k l)

mutual
  pub pat_grows : (P : ℕ → Type 0) (depth : ℕ) (sc : Scope) (pat : PatPhrase) (bound : Bound) (st : Progress)
      → IsReady P sc st → AllRows (TyIn P st.types) bound → Given (PatIn P st) (infer_pat depth sc pat bound st)
  pat_grows P depth sc (PatPhrase.Wild at) bound st h k =
      let g : Grows P st (new_variable st).1 = grows_variable P false false st h.fit h.new in
      pat_sized P st sc at ((new_variable st).0, bound, (new_variable st).1)
      (g, ty_new P false false st h.fit h.new, rows_later P st (new_variable st).1 bound g k)
  pat_grows P depth sc (PatPhrase.Int value at) bound st h k = pat_sized P st sc at (int_ty, bound, st)
      (grows_same P st h.fit, ty_constant P st.types _, k)
  pat_grows P depth sc (PatPhrase.Str value at) bound st h k = pat_sized P st sc at (string_ty, bound, st)
      (grows_same P st h.fit, ty_constant P st.types _, k)
  pat_grows P depth sc (PatPhrase.Char value at) bound st h k = pat_sized P st sc at (char_ty, bound, st)
      (grows_same P st h.fit, ty_constant P st.types _, k)
  pat_grows P depth sc (PatPhrase.Long long at) bound st h k =
      given_then (PatIn P st) (PatIn P st) (name_pat sc long at long.parts bound st) _
      (name_grows P sc long at long.parts bound st h k) (λ r i. pat_sized P st sc at r i)
  pat_grows P depth sc (PatPhrase.Record fields at) bound st h k =
      given_then (PatFieldsIn P st) (PatIn P st) (infer_pat_fields depth sc fields [] bound st) _
      (pat_fields_grow P depth sc fields [] bound st h tt k) (λ r i.
      pat_sized P st sc at (record_ty r.0, r.1, r.2) (i.0, ty_record P r.2.types r.0 i.1, i.2))
  pat_grows P depth sc (PatPhrase.Con long arg at) bound st h k =
      given_then (ValueHas (SchemeIn P st.types)) (PatIn P st) (known sc long (found_at values long.parts sc.env)) _
      (value_in P st.types sc long h.scope) (λ value l.
      given_then (PatIn P st) (PatIn P st) (infer_pat depth sc arg bound st) _
      (pat_grows P depth sc arg bound st h k) (λ r i.
      given_then (PatIn P r.2) (PatIn P st) (applied_con depth sc at value r) _
      (applied_grows P depth sc at value r (ready_later P sc st r.2 h i.0) i.1 i.2
      (scheme_later P st r.2 i.0 value.scheme l)) (λ q j.
      pat_sized P st sc at q (pat_after P st r.2 i.0 q j))))
  pat_grows P depth sc (PatPhrase.Typed pat ty at) bound st h k =
      given_then (PatIn P st) (PatIn P st) (infer_pat depth sc pat bound st) _
      (pat_grows P depth sc pat bound st h k) (λ r i.
      given_then (TyIn P r.2.types) (PatIn P st) (infer_ty sc ty) _
      (ty_grows P r.2.types sc ty (ready_later P sc st r.2 h i.0).scope) (λ t j.
      given_then (Grows P r.2) (PatIn P st) (unify_at depth sc at r.0 t r.2) _
      (unify_grows P depth sc at r.0 t r.2 i.0.fit i.1 j) (λ u l.
      pat_sized P st sc at (r.0, r.1, u) (pat_after P st r.2 i.0 (r.0, r.1, u)
      (l, ty_later P r.2 u r.0 l i.1, rows_later P r.2 u r.1 l i.2)))))
  pat_grows P depth sc (PatPhrase.As name ty pat at) bound st h k =
      given_where (PatIn P st) (stands_for_con (entry name.text (values sc.env))) 34 sc at _
      (given_then (PatIn P st) (PatIn P st) (bind_variable sc (name_at name) name.text bound st) _
      (bind_grows P sc (name_at name) name.text bound st h k) (λ x i.
      given_then (Grows P x.2) (PatIn P st) (typed_variable depth sc at x.0 ty x.2) _
      (typed_grows P depth sc at x.0 ty x.2 (ready_later P sc st x.2 h i.0) i.1) (λ s j.
      let g : Grows P st s = grows_then P st x.2 s i.0 j in
      given_then (PatIn P s) (PatIn P st) (infer_pat depth sc pat x.1 s) _
      (pat_grows P depth sc pat x.1 s (ready_later P sc st s h g) (rows_later P x.2 s x.1 j i.2)) (λ r l.
      let t : TyIn P r.2.types x.0 = ty_later P x.2 r.2 x.0 (grows_then P x.2 s r.2 j l.0) i.1 in
      given_then (Grows P r.2) (PatIn P st) (unify_at depth sc at x.0 r.0 r.2) _
      (unify_grows P depth sc at x.0 r.0 r.2 l.0.fit t l.1) (λ u m.
      pat_sized P st sc at (x.0, r.1, u) (
        grows_then P st r.2 u (grows_then P st s r.2 g l.0) m,
        ty_later P r.2 u x.0 m t,
        rows_later P r.2 u r.1 m
            l.2,
      ))))))

  pub pat_fields_grow : (P : ℕ → Type 0) (depth : ℕ) (sc : Scope) (fields : PatFields) (made : Table Ty) (bound : Bound)
      (st : Progress) → IsReady P sc st → AllRows (TyIn P st.types) made → AllRows (TyIn P st.types) bound
      → Given (PatFieldsIn P st) (infer_pat_fields depth sc fields made bound st)
  pat_fields_grow P depth sc PatFields.EndOfFields made bound st h k l = (grows_same P st h.fit, k, l)
  pat_fields_grow P depth sc (PatFields.Field label pat rest) made bound st h k l =
      given_where (PatFieldsIn P st) (is_some (entry label.text made)) 40 sc (name_at label) _
      (given_then (PatIn P st) (PatFieldsIn P st) (infer_pat depth sc pat bound st) _
      (pat_grows P depth sc pat bound st h l) (λ r i.
      given_more (PatFieldsIn P r.2) (PatFieldsIn P st)
      (infer_pat_fields depth sc rest (with_entry label.text r.0 made) r.1 r.2)
      (λ q j. (grows_then P st r.2 q.2 i.0 j.0, j.1, j.2))
      (pat_fields_grow P depth sc rest (with_entry label.text r.0 made) r.1 r.2 (ready_later P sc st r.2 h i.0)
      (rows_with (TyIn P r.2.types) label.text r.0 made i.1 (rows_later P st r.2 made i.0 k)) i.2)))
