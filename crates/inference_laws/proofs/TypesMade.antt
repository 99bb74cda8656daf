-- What types are made of, and what `type` binds.
use Rattle.std.proofs.Common.{◌≡◌, ℕ, zero, suc, ◌+◌, List, [], ◌∷◌, ◌++◌, length, refl, sym, ap, ◌∙◌, subst, arith, Bool, not, get_or}
use Rattle.std.specs.Prelude.{eqb}
use Rattle.std.specs.Option.{is_some}
use Rattle.sml_trees.specs.declared.name.Name.{Name}
use Rattle.sml_trees.specs.declared.name.LongName.{LongName}
use Rattle.semantic_objects.specs.declared.entry.TypeFn.{TypeFn}
use Rattle.semantic_objects.specs.Tables.{Table, entry, with_entry}
use Rattle.semantic_objects.specs.Environments.{Env, types, with_type}
use Rattle.unification.specs.Types.{Ty, Substitution, State}
use Rattle.bare_phrases.specs.Phrases.{TyPhrase, TyFields, TyPhrases, TypPhrase}
use Rattle.static_semantics.specs.BasicTypes.{unit_ty, record_ty}
use Rattle.static_semantics.specs.Inferring.{Progress, Scope, with_written_alone, gives, known, name_at, found_at, named, is_named}
use Rattle.static_semantics.specs.TypeInference.{applied_to, infer_ty, infer_ty_fields, infer_tys, new_rigid, listed, numbers, as_written, type_function, plain_type, infer_types}
use Rattle.static_semantics.specs.Holding.{Given, AllItems, AllRows, TypeHas}
use Rattle.static_semantics.proofs.Holding.{given_then, given_where, given_known, has_types, has_with_type, has_found}
use Rattle.static_semantics.proofs.TypesGrow.{given_more, rows_named}
use Rattle.inference_laws.specs.Nodes.{Nodes, TyOf, StateOf, SchemeOf, FunctionOf, EnvOf, Admits, ScopeOf, IsOf}
use Rattle.inference_laws.specs.Spelling.{TySpelt, TyFieldsSpelt, TysSpelt, TypSpelt}
use Rattle.inference_laws.proofs.Nodes.{ty_filled, tree_closed, closed_binds, ty_arrow, FieldsOf, no_fields, field_more, ty_record}

-- ---- types

pub items_get : {A : Type 0} (R : A → Type 0) (xs : List A) (d : A) → R d → AllItems R xs → (i : ℕ) → R (get_or xs i d)
items_get R [] d h k i = h
items_get R (x ∷ xs) d h k zero = k.0
items_get R (x ∷ xs) d h k (suc i) = items_get R xs d h k.1 i

pub unit_of : (good : List ℕ → Bool) (q : Nodes) → Admits good q → TyOf q unit_ty
unit_of good q h = (h.records [] tt tt, tt)

pub type_found : (good : List ℕ → Bool) (q : Nodes) (sc : Scope) (long : LongName) → ScopeOf good sc q
    → Given (TypeHas (SchemeOf q) (FunctionOf q)) (known sc long (found_at types long.parts sc.env))
type_found good q sc long h = given_known (TypeHas (SchemeOf q) (FunctionOf q)) sc long
    (found_at types long.parts sc.env)
    (has_found (SchemeOf q) (FunctionOf q) (TypeHas (SchemeOf q) (FunctionOf q)) types
    (has_types (SchemeOf q) (FunctionOf q)) long.parts sc.env h.env)

applied_of : (good : List ℕ → Bool) (q : Nodes) (function : TypeFn) (args : List Ty) → Admits good q
    → FunctionOf q function → AllItems (TyOf q) args → TyOf q (applied_to function args)
applied_of good q function args h k l = ty_filled q (λ i. get_or args i unit_ty) Ty.Var function.body
    (items_get (TyOf q) args unit_ty (unit_of good q h) l) (λ n. tt) k.body

mutual
  pub ty_of : (good : List ℕ → Bool) (q : Nodes) (sc : Scope) (ty : TyPhrase) → TySpelt good ty → ScopeOf good sc q
      → Given (TyOf q) (infer_ty sc ty)
  ty_of good q sc (TyPhrase.Var name at) p h = given_known (TyOf q) sc
      (let long : LongName = record { parts = name.text ∷ []; line = name.line; col = name.col } in long)
      (named name.text sc.written) (rows_named (TyOf q) name.text sc.written h.written)
  ty_of good q sc (TyPhrase.Record fields at) p h = given_then (FieldsOf good q) (TyOf q)
      (infer_ty_fields sc fields []) (λ made. gives (record_ty made))
      (ty_fields_of good q sc fields [] p h (no_fields good q)) (λ made k. ty_record good q made h.admits k)
  ty_of good q sc (TyPhrase.Named args long at) p h =
      given_then (AllItems (TyOf q)) (TyOf q) (infer_tys sc args) _ (tys_of good q sc args p h) (λ made k.
      given_then (TypeHas (SchemeOf q) (FunctionOf q)) (TyOf q) (known sc long (found_at types long.parts sc.env)) _
      (type_found good q sc long h) (λ found l.
      given_where (TyOf q) (not (eqb (length made) found.function.arity)) 35 sc at _
      (applied_of good q found.function made h.admits l.0 k)))
  ty_of good q sc (TyPhrase.Arrow from to at) p h =
      given_then (TyOf q) (TyOf q) (infer_ty sc from) _ (ty_of good q sc from p.0 h) (λ a k.
      given_then (TyOf q) (TyOf q) (infer_ty sc to) _ (ty_of good q sc to p.1 h) (λ b l.
      ty_arrow good q a b h.admits k l))

  ty_fields_of : (good : List ℕ → Bool) (q : Nodes) (sc : Scope) (fields : TyFields) (made : Table Ty)
      → TyFieldsSpelt good fields → ScopeOf good sc q → FieldsOf good q made
      → Given (FieldsOf good q) (infer_ty_fields sc fields made)
  ty_fields_of good q sc TyFields.EndOfFields made p h k = k
  ty_fields_of good q sc (TyFields.Field label ty rest) made p h k =
      given_where (FieldsOf good q) (is_some (entry label.text made)) 40 sc (name_at label) _
      (given_then (TyOf q) (FieldsOf good q) (infer_ty sc ty) _ (ty_of good q sc ty p.1 h) (λ t l.
      ty_fields_of good q sc rest (with_entry label.text t made) p.2 h (field_more good q label.text t made p.0 l k)))

  tys_of : (good : List ℕ → Bool) (q : Nodes) (sc : Scope) (tys : TyPhrases) → TysSpelt good tys → ScopeOf good sc q
      → Given (AllItems (TyOf q)) (infer_tys sc tys)
  tys_of good q sc TyPhrases.EndOfArgs p h = tt
  tys_of good q sc (TyPhrases.Arg ty rest) p h =
      given_then (TyOf q) (AllItems (TyOf q)) (infer_ty sc ty) _ (ty_of good q sc ty p.0 h) (λ t k.
      given_then (AllItems (TyOf q)) (AllItems (TyOf q)) (infer_tys sc rest) _ (tys_of good q sc rest p.1 h) (λ ts l.
      (k, l)))

-- ---- lists of type variables

-- nothing is put in and no name is made; there are so many more variables
pub record IsListed (before count : ℕ) (st : Progress) (r : List (List ℕ × ℕ) × Progress) : Type 0 where
  pub stands : r.1.types.stands ≡ st.types.stands
  pub names : r.1.names ≡ st.names
  pub length : length r.0 ≡ before + count

one_longer : {A : Type 0} (xs : List A) (x : A) → length (xs ++ x ∷ []) ≡ suc (length xs)
one_longer [] x = refl
one_longer (y ∷ xs) x = ap suc (one_longer xs x)

pub listed_of : (sc : Scope) (names : List Name) (before : List (List ℕ × ℕ)) (st : Progress)
    → Given (IsListed (length before) (length names) st) (listed sc names before st)
listed_of sc [] before st = record { stands = refl; names = refl; length = omega arith }
listed_of sc (name ∷ names) before st =
    let row : List ℕ × ℕ = (name.text, st.types.next) in
    given_where (IsListed (length before) (length (name ∷ names)) st) (is_named name.text before) 40 sc (name_at name) _
    (given_more (IsListed (length (before ++ row ∷ [])) (length names) (new_rigid name.text st))
    (IsListed (length before) (length (name ∷ names)) st)
    (listed sc names (before ++ row ∷ []) (new_rigid name.text st))
    (λ r h. record {
      stands = h.stands;
      names = h.names;
      length = let k : length (before ++ row ∷ []) ≡ suc (length before) = one_longer before row in
          let l : length r.0 ≡ length (before ++ row ∷ []) + length names = h.length in omega (arith, k, l);
    })
    (listed_of sc names (before ++ row ∷ []) (new_rigid name.text st)))

pub state_same : (q : Nodes) (s : State) (stands : Substitution) → s.stands ≡ stands → ((n : ℕ) → TyOf q (stands n))
    → StateOf q s
state_same q s stands e h n = subst (λ f. TyOf q (f n)) (sym e) (h n)

pub written_of : (q : Nodes) (rows : List (List ℕ × ℕ)) → AllRows (TyOf q) (as_written rows)
written_of q [] = tt
written_of q (row ∷ rows) = (tt, written_of q rows)

-- a scope that sees a list alone
pub list_scope : (good : List ℕ → Bool) (q : Nodes) (sc : Scope) (rows : List (List ℕ × ℕ)) → ScopeOf good sc q
    → ScopeOf good (with_written_alone (as_written rows) sc) q
list_scope good q sc rows h = record { admits = h.admits; env = h.env; written = written_of q rows }

-- ---- `type`

pub function_closed : (q : Nodes) (vs : List ℕ) (t : Ty) → TyOf q t → FunctionOf q (type_function vs t)
function_closed q vs t h = record { closed = closed_binds vs t; body = tree_closed q vs t h }

-- what a declaration gives that makes no names
abbrev pub PlainOf : Nodes → Progress → Env × Progress → Type 0
PlainOf q st r = (r.1.names ≡ st.names) × StateOf q r.1.types × EnvOf q r.0

pub types_of_binds : (good : List ℕ → Bool) (q : Nodes) (sc : Scope) (binds : List TypPhrase) (made : Env)
    (st : Progress)
    → AllItems (TypSpelt good) binds → IsOf good sc st q → EnvOf q made
    → Given (PlainOf q st) (infer_types sc binds made st)
types_of_binds good q sc [] made st p h k = (refl, h.state, k)
types_of_binds good q sc (bind ∷ binds) made st p h k =
    given_then (IsListed 0 (length bind.tyvars) st) (PlainOf q st) (listed sc bind.tyvars [] st) _
    (listed_of sc bind.tyvars [] st) (λ r l.
    given_where (PlainOf q st) (is_some (entry bind.name.text (types made))) 40 sc (name_at bind.name) _
    (given_then (TyOf q) (PlainOf q st) (infer_ty (with_written_alone (as_written r.0) sc) bind.ty) _
    (ty_of good q (with_written_alone (as_written r.0) sc) bind.ty p.0.1 (list_scope good q sc r.0 h.scope)) (λ ty m.
    given_more (PlainOf q r.1) (PlainOf q st)
    (infer_types sc binds (with_type bind.name.text (plain_type (type_function (numbers r.0) ty)) made) r.1)
    (λ v i. (i.0 ∙ l.names, i.1, i.2))
    (types_of_binds good q sc binds (with_type bind.name.text (plain_type (type_function (numbers r.0) ty)) made) r.1
    p.1
    (record { scope = h.scope; state = state_same q r.1.types st.types.stands l.stands h.state })
    (has_with_type (SchemeOf q) (FunctionOf q) bind.name.text (plain_type (type_function (numbers r.0) ty)) made
    (function_closed q (numbers r.0) ty m, tt) k)))))
