-- Types and what `type` binds: states grow by new variables alone.
use Rattle.std.proofs.Common.{◌≡◌, ℕ, zero, suc, List, [], ◌∷◌, ◌++◌, length, refl, ap, ◌∙◌, Option, Some, None, Bool, true, false, cond, not, get_or}
use Rattle.std.specs.Prelude.{eqb, Ok, Err}
use Rattle.std.proofs.lemmas.Bool.{eq-eqb}
use Rattle.std.specs.Option.{is_some}
use Rattle.sml_trees.specs.declared.name.Name.{Name}
use Rattle.sml_trees.specs.declared.name.LongName.{LongName}
use Rattle.semantic_objects.specs.declared.entry.TypeFn.{TypeFn}
use Rattle.semantic_objects.specs.Symbols.{same_text}
use Rattle.semantic_objects.specs.Tables.{Table, entry, with_entry}
use Rattle.semantic_objects.specs.Environments.{Env, types, with_type}
use Rattle.unification.specs.Types.{Ty, State}
use Rattle.unification.specs.Fitting.{IsFit}
use Rattle.bare_phrases.specs.Phrases.{TyPhrase, TyFields, TyPhrases, TypPhrase}
use Rattle.static_semantics.specs.BasicTypes.{unit_ty, record_ty, is_equality_variable}
use Rattle.static_semantics.specs.Inferring.{Progress, Scope, with_written_alone, Answer, gives, known, name_at, found_at, named, is_named}
use Rattle.static_semantics.specs.TypeInference.{applied_to, infer_ty, infer_ty_fields, infer_tys, new_rigid, listed, numbers, as_written, type_function, plain_type, infer_types}
use Rattle.static_semantics.specs.Holding.{Given, IfSome, AllItems, AllRows, TypeHas}
use Rattle.static_semantics.specs.Growing.{TyIn, SchemeIn, FunctionIn, EnvIn, ScopeIn, HasNew, Grows, IsReady}
use Rattle.static_semantics.proofs.Holding.{given_then, given_where, given_known, rows_with, rows_more, rows_after, has_types, has_with_type, has_found}
use Rattle.static_semantics.proofs.Growing.{grows_same, grows_then, new_later, ty_later, env_later, ready_later, grows_variable, ty_new, ty_filled, ty_arrow, ty_record, ty_constant, ty_closed}
use Rattle.semantic_objects.specs.declared.symbol.Symbol.TheVariants as symbol

found_or : {A : Type 0} (R : A → Type 0) (c : Bool) (x : A) (rest : Option A) → R x → IfSome R rest
    → IfSome R (cond c (Some x) rest)
found_or R true x rest h k = h
found_or R false x rest h k = k

pub rows_named : {A : Type 0} (R : A → Type 0) (name : List ℕ) (rows : Table A) → AllRows R rows
    → IfSome R (named name rows)
rows_named R name [] h = tt
rows_named R name (row ∷ rows) h = found_or R (same_text name row.0) row.1 (named name rows) h.0
    (rows_named R name rows h.1)

items_get : {A : Type 0} (R : A → Type 0) (xs : List A) (d : A) → R d → AllItems R xs → (i : ℕ) → R (get_or xs i d)
items_get R [] d h k i = h
items_get R (x ∷ xs) d h k zero = k.0
items_get R (x ∷ xs) d h k (suc i) = items_get R xs d h k.1 i

-- ---- types

function_of : (P : ℕ → Type 0) (s : State) (sc : Scope) (parts : List (List ℕ)) → ScopeIn P s sc
    → IfSome (TypeHas (SchemeIn P s) (FunctionIn P s)) (found_at types parts sc.env)
function_of P s sc parts h = has_found (SchemeIn P s) (FunctionIn P s) (TypeHas (SchemeIn P s) (FunctionIn P s)) types
    (has_types (SchemeIn P s) (FunctionIn P s)) parts sc.env h.env

applied_in : (P : ℕ → Type 0) (s : State) (function : TypeFn) (args : List Ty) → FunctionIn P s function
    → AllItems (TyIn P s) args → TyIn P s (applied_to function args)
applied_in P s function args h k = ty_filled P s (λ i. get_or args i unit_ty) function.body
    (items_get (TyIn P s) args unit_ty (ty_constant P s (symbol.Record [])) k) h

mutual
  pub ty_grows : (P : ℕ → Type 0) (s : State) (sc : Scope) (ty : TyPhrase) → ScopeIn P s sc
      → Given (TyIn P s) (infer_ty sc ty)
  ty_grows P s sc (TyPhrase.Var name at) h = given_known (TyIn P s) sc
      (let long : LongName = record { parts = name.text ∷ []; line = name.line; col = name.col } in long)
      (named name.text sc.written) (rows_named (TyIn P s) name.text sc.written h.written)
  ty_grows P s sc (TyPhrase.Record fields at) h = given_then (AllRows (TyIn P s)) (TyIn P s)
      (infer_ty_fields sc fields [])
      (λ made. gives (record_ty made)) (ty_fields_grow P s sc fields [] h tt) (λ made k. ty_record P s made k)
  ty_grows P s sc (TyPhrase.Named args long at) h =
      given_then (AllItems (TyIn P s)) (TyIn P s) (infer_tys sc args) _ (tys_grow P s sc args h) (λ made k.
      given_then (TypeHas (SchemeIn P s) (FunctionIn P s)) (TyIn P s) (known sc long
      (found_at types long.parts sc.env)) _
      (given_known (TypeHas (SchemeIn P s) (FunctionIn P s)) sc long (found_at types long.parts sc.env)
      (function_of P s sc long.parts h)) (λ found l.
      given_where (TyIn P s) (not (eqb (length made) found.function.arity)) 35 sc at _
      (applied_in P s found.function made l.0 k)))
  ty_grows P s sc (TyPhrase.Arrow from to at) h =
      given_then (TyIn P s) (TyIn P s) (infer_ty sc from) _ (ty_grows P s sc from h) (λ a k.
      given_then (TyIn P s) (TyIn P s) (infer_ty sc to) _ (ty_grows P s sc to h) (λ b l.
      ty_arrow P s a b k l))

  ty_fields_grow : (P : ℕ → Type 0) (s : State) (sc : Scope) (fields : TyFields) (made : Table Ty) → ScopeIn P s sc
      → AllRows (TyIn P s) made → Given (AllRows (TyIn P s)) (infer_ty_fields sc fields made)
  ty_fields_grow P s sc TyFields.EndOfFields made h k = k
  ty_fields_grow P s sc (TyFields.Field label ty rest) made h k =
      given_where (AllRows (TyIn P s)) (is_some (entry label.text made)) 40 sc (name_at label) _
      (given_then (TyIn P s) (AllRows (TyIn P s)) (infer_ty sc ty) _ (ty_grows P s sc ty h) (λ t l.
      ty_fields_grow P s sc rest (with_entry label.text t made) h (rows_with (TyIn P s) label.text t made l k)))

  tys_grow : (P : ℕ → Type 0) (s : State) (sc : Scope) (tys : TyPhrases) → ScopeIn P s sc
      → Given (AllItems (TyIn P s)) (infer_tys sc tys)
  tys_grow P s sc TyPhrases.EndOfArgs h = tt
  tys_grow P s sc (TyPhrases.Arg ty rest) h =
      given_then (TyIn P s) (AllItems (TyIn P s)) (infer_ty sc ty) _ (ty_grows P s sc ty h) (λ t k.
      given_then (AllItems (TyIn P s)) (AllItems (TyIn P s)) (infer_tys sc rest) _ (tys_grow P s sc rest h) (λ ts l.
      (k, l)))

-- ---- lists of type variables

-- a variable of a list is a rigid one of the state
pub record NumberIn (P : ℕ → Type 0) (s : State) (n : ℕ) : Type 0 where
  pub ty : TyIn P s (Ty.Var n)
  pub rigid : s.rigid n ≡ true

number_later : (P : ℕ → Type 0) (st u : Progress) → Grows P st u → (n : ℕ) → NumberIn P st.types n
    → NumberIn P u.types n
number_later P st u g n h = record {
  ty = ty_later P st u (Ty.Var n) g h.ty;
  rigid = g.rigid n (h.ty.below n (eq-eqb n n refl)) ∙ h.rigid;
}

abbrev pub ListedIn : (ℕ → Type 0) → Progress → List (List ℕ × ℕ) × Progress → Type 0
ListedIn P st r = Grows P st r.1 × AllRows (NumberIn P r.1.types) r.0

pub numbers_later : (P : ℕ → Type 0) (st u : Progress) (rows : List (List ℕ × ℕ)) → Grows P st u
    → AllRows (NumberIn P st.types) rows → AllRows (NumberIn P u.types) rows
numbers_later P st u rows h k = rows_more (NumberIn P st.types) (NumberIn P u.types) rows
    (number_later P st u h) k

pub one_more : (P : ℕ → Type 0) (text : List ℕ) (before : List (List ℕ × ℕ)) (st : Progress) → IsFit st.types
    → HasNew P st.types → AllRows (NumberIn P st.types) before
    → ListedIn P st (before ++ (text, st.types.next) ∷ [], new_rigid text st)
one_more P text before st h k l =
    let g : Grows P st (new_rigid text st) = grows_variable P true (is_equality_variable text) st h k in (
      g,
      rows_after (NumberIn P (new_rigid text st).types) before ((text, st.types.next) ∷ [])
          (numbers_later P st (new_rigid text st) before g l) (
            record {
              ty = ty_new P true (is_equality_variable text) st h k;
              rigid = ap (λ z. cond z true (st.types.rigid st.types.next)) (eq-eqb st.types.next st.types.next refl);
            },
            tt,
          ),
    )

pub listed_after : (P : ℕ → Type 0) (st u : Progress) → Grows P st u → (r : List (List ℕ × ℕ) × Progress)
    → ListedIn P u r → ListedIn P st r
listed_after P st u g r h = (grows_then P st u r.1 g h.0, h.1)

pub given_more : {A : Type 0} (R Q : A → Type 0) (m : Answer A) → ((x : A) → R x → Q x) → Given R m → Given Q m
given_more R Q None f h = tt
given_more R Q (Some (Err d)) f h = tt
given_more R Q (Some (Ok x)) f h = f x h

pub listed_grows : (P : ℕ → Type 0) (sc : Scope) (names : List Name) (before : List (List ℕ × ℕ)) (st : Progress)
    → IsFit st.types → HasNew P st.types → AllRows (NumberIn P st.types) before
    → Given (ListedIn P st) (listed sc names before st)
listed_grows P sc [] before st h k l = (grows_same P st h, l)
listed_grows P sc (name ∷ names) before st h k l =
    let g : ListedIn P st (before ++ (name.text, st.types.next) ∷ [], new_rigid name.text st) =
    one_more P name.text before st h k l in
    given_where (ListedIn P st) (is_named name.text before) 40 sc (name_at name) _
    (given_more (ListedIn P (new_rigid name.text st)) (ListedIn P st)
    (listed sc names (before ++ (name.text, st.types.next) ∷ []) (new_rigid name.text st))
    (listed_after P st (new_rigid name.text st) g.0)
    (listed_grows P sc names (before ++ (name.text, st.types.next) ∷ []) (new_rigid name.text st) g.0.fit
    (new_later P st (new_rigid name.text st) g.0 k) g.1))

pub written_rows : (P : ℕ → Type 0) (s : State) (rows : List (List ℕ × ℕ)) → AllRows (NumberIn P s) rows
    → AllRows (TyIn P s) (as_written rows)
written_rows P s [] h = tt
written_rows P s (row ∷ rows) h = (h.0.ty, written_rows P s rows h.1)

-- a scope that sees a list alone
pub list_scope : (P : ℕ → Type 0) (sc : Scope) (st : Progress) (r : List (List ℕ × ℕ) × Progress)
    → ScopeIn P st.types sc
    → ListedIn P st r → ScopeIn P r.1.types (with_written_alone (as_written r.0) sc)
list_scope P sc st r h k = record {
  env = env_later P st r.1 sc.env k.0 h.env;
  written = written_rows P r.1.types r.0 k.1;
}

-- ---- `type`

-- what a declaration gives
abbrev pub MadeIn : (ℕ → Type 0) → Progress → Env × Progress → Type 0
MadeIn P st r = Grows P st r.1 × EnvIn P r.1.types r.0

pub types_grow : (P : ℕ → Type 0) (sc : Scope) (binds : List TypPhrase) (made : Env) (st : Progress) → IsReady P sc st
    → EnvIn P st.types made → Given (MadeIn P st) (infer_types sc binds made st)
types_grow P sc [] made st h k = (grows_same P st h.fit, k)
types_grow P sc (bind ∷ binds) made st h k =
    given_then (ListedIn P st) (MadeIn P st) (listed sc bind.tyvars [] st) _
    (listed_grows P sc bind.tyvars [] st h.fit h.new tt) (λ r l.
    given_where (MadeIn P st) (is_some (entry bind.name.text (types made))) 40 sc (name_at bind.name) _
    (given_then (TyIn P r.1.types) (MadeIn P st) (infer_ty (with_written_alone (as_written r.0) sc) bind.ty) _
    (ty_grows P r.1.types (with_written_alone (as_written r.0) sc) bind.ty (list_scope P sc st r h.scope l)) (λ ty m.
    given_more (MadeIn P r.1) (MadeIn P st)
    (infer_types sc binds (with_type bind.name.text (plain_type (type_function (numbers r.0) ty)) made) r.1)
    (λ q i. (grows_then P st r.1 q.1 l.0 i.0, i.1))
    (types_grow P sc binds (with_type bind.name.text (plain_type (type_function (numbers r.0) ty)) made) r.1
    (ready_later P sc st r.1 h l.0)
    (has_with_type (SchemeIn P r.1.types) (FunctionIn P r.1.types) bind.name.text
    (plain_type (type_function (numbers r.0) ty)) made
    (ty_closed P r.1.types (numbers r.0) ty m, tt) (env_later P st r.1 made l.0 k))))))
