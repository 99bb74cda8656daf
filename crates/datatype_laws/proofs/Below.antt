-- The unit's type names in types have numbers below the next one.
use Rattle.std.proofs.Common.{◌≡◌, ℕ, zero, suc, ◌+◌, ◌-◌, ◌<◌, ◌≤◌, List, [], ◌∷◌, ◌++◌, map, length, get_or, refl, sym, ap, ◌∙◌, subst, arith, Option, Some, None, Bool, true, false, not, ◌||◌, cond, eqb}
use Rattle.std.specs.Prelude.{ltb}
use Rattle.std.specs.Option.{is_some}
use Rattle.std.proofs.lemmas.Bool.{ltb-true, lt-ltb}
use Rattle.sml_trees.specs.declared.name.At.{At}
use Rattle.sml_trees.specs.declared.name.Name.{Name}
use Rattle.sml_trees.specs.declared.name.LongName.{LongName}
use Rattle.semantic_objects.specs.declared.name.TyName.{TyName}
use Rattle.semantic_objects.specs.declared.symbol.Symbol.{Symbol}
use Rattle.semantic_objects.specs.declared.symbol.Symbol.TheVariants as symbol
use Rattle.semantic_objects.specs.declared.entry.ConEntry.{ConEntry}
use Rattle.semantic_objects.specs.declared.entry.TypeFn.{TypeFn}
use Rattle.semantic_objects.specs.declared.entry.TypeStr.{TypeStr}
use Rattle.semantic_objects.specs.declared.entry.ValueEntry.{ValueEntry}
use Rattle.semantic_objects.specs.declared.entry.VidStatus.TheVariants as status
use Rattle.semantic_objects.specs.Tables.{Table, entry, with_entry}
use Rattle.semantic_objects.specs.Trees.{Tree, Trees}
use Rattle.semantic_objects.specs.Environments.{Env, structures, types, values, empty_env, with_type, with_value, modified_by}
use Rattle.unification.specs.Types.{Ty, State}
use Rattle.bare_phrases.specs.Phrases.{TyPhrase, TyFields, TyPhrases, TypPhrase, ExPhrase, DecPhrase, DecPhrases}
use Rattle.static_semantics.specs.BasicTypes.{unit_ty, types_of, is_one_of, reserved_constructors}
use Rattle.static_semantics.specs.Inferring.{Progress, Scope, Answer, ◌>>=◌, under, with_written, with_written_alone, Bound, variable_entry, with_bound, under_bound, is_kept, has_too_large, sized_dec, gives, name_at, known, found_at, named}
use Rattle.static_semantics.specs.TypeInference.{infer_ty, infer_ty_fields, infer_tys, listed, numbers, as_written, type_function, plain_type, infer_types}
use Rattle.static_semantics.specs.DatatypeInference.{same_as_home, own_name, own_ty, Dat, with_cons, with_datatype, datatype_str, made_types, datatypes_of, infer_replication, exception_of, infer_exceptions, exceptions_of}
use Rattle.static_semantics.specs.CoreInference.{own_variables, Group, infer_binds, infer_rec_pats, infer_rec_exps, rec_bound, rec_groups, closed_where, closed_variables, closed_groups, left_over, none_left, closed_val, infer_open, infer_dec, infer_decs}
use Rattle.static_semantics.specs.Holding.{Given, IfSome, AllItems, AllRows, ConHas, TypeHas}
use Rattle.static_semantics.specs.Growing.{IsReady}
use Rattle.static_semantics.proofs.Holding.{given_then, given_where, given_known, rows_with, has_structures, has_types, has_nothing, has_with_type, has_with_value, has_modified, has_found, env_more}
use Rattle.static_semantics.proofs.TypesGrow.{MadeIn}
use Rattle.static_semantics.proofs.Growing.{ready_later}
use Rattle.static_semantics.proofs.DatatypesGrow.{ready_under}
use Rattle.static_semantics.proofs.CoreGrow.{dec_grows, decs_grow}
use Rattle.inference_laws.specs.Nodes.{Nodes, TyOf, TysOf, TreeOf, TreesOf, below_number}
use Rattle.inference_laws.specs.Alike.{FirmEnv}
use Rattle.inference_laws.specs.Promises.{Any}
use Rattle.inference_laws.proofs.Nodes.{ty_filled, tree_closed}
use Rattle.inference_laws.proofs.Making.{given_both}
use Rattle.inference_laws.proofs.SameTypes.{given_any}
use Rattle.inference_laws.proofs.TypesMade.{IsListed, listed_of}
use Rattle.inference_laws.proofs.Firm.{firm_modified, dec_firm}
use Rattle.datatype_laws.specs.Below.{AnyScheme, FunctionBelow, TypesBelow}
use Rattle.datatype_laws.specs.Derived.{DatatypesDerived}
use Rattle.datatype_laws.specs.Promises.{TypesStayBelow}
use Rattle.datatype_laws.proofs.Datatypes.{as_many, datatypes_have_derivations}

-- whatever is given on the way
always : {A B : Type 0} (Q : B → Type 0) (m : Answer A) (next : A → Answer B) → ((x : A) → Given Q (next x))
    → Given Q (m >>= next)
always Q m next h = given_then (λ x. Unit {0}) Q m next (given_any m) (λ x k. h x)

-- ---- later numbers

symbol_later : (home : List ℕ) (n m : ℕ) (c : Symbol) (k : ℕ) → n ≤ m → below_number home n c k ≡ true
    → below_number home m c k ≡ true
symbol_later home n m symbol.Arrow k l h = refl
symbol_later home n m (symbol.Record labels) k l h = refl
symbol_later home n m (symbol.Name name) k l h =
    either (same_as_home home name.owner) (ltb name.number n) (ltb name.number m) h
    (λ e. let j : name.number < n = ltb-true name.number n e in lt-ltb name.number m (omega (arith, j, l)))
  where
    either : (a b c : Bool) → (not a || b) ≡ true → (b ≡ true → c ≡ true) → (not a || c) ≡ true
    either true b c e f = f e
    either false b c e f = refl

mutual
  tree_later : (home : List ℕ) (n m : ℕ) (t : Tree) → n ≤ m → TreeOf (below_number home n) t
      → TreeOf (below_number home m) t
  tree_later home n m (Tree.Bound i) l h = h
  tree_later home n m (Tree.Free i) l h = h
  tree_later home n m (Tree.Made c ts) l h = (symbol_later home n m c _ l h.0, trees_later home n m ts l h.1)

  trees_later : (home : List ℕ) (n m : ℕ) (ts : Trees) → n ≤ m → TreesOf (below_number home n) ts
      → TreesOf (below_number home m) ts
  trees_later home n m Trees.Nil l h = h
  trees_later home n m (Trees.Cons t ts) l h = (tree_later home n m t l h.0, trees_later home n m ts l h.1)

pub below_later : (home : List ℕ) (n m : ℕ) (env : Env) → n ≤ m → TypesBelow home n env → TypesBelow home m env
below_later home n m env l h = env_more AnyScheme AnyScheme (FunctionBelow home n) (FunctionBelow home m) (λ σ i. i)
    (λ function i. tree_later home n m function.body l i) env h

-- ---- types

module _ (home : List ℕ) (n : ℕ) where
  abbrev q : Nodes
  q = below_number home n

  abbrev F : TypeFn → Type 0
  F = FunctionBelow home n

  abbrev B : Env → Type 0
  B = TypesBelow home n

  get_below : (xs : List Ty) (i : ℕ) → AllItems (TyOf q) xs → TyOf q (get_or xs i unit_ty)
  get_below [] i h = (refl, tt)
  get_below (x ∷ xs) zero h = h.0
  get_below (x ∷ xs) (suc i) h = get_below xs i h.1

  row_types : (rows : Table Ty) → AllRows (TyOf q) rows → TysOf q (types_of (map (λ (row : List ℕ × Ty). row.1) rows))
  row_types [] h = tt
  row_types (row ∷ rows) h = (h.0, row_types rows h.1)

  named_below : (name : List ℕ) (rows : List (List ℕ × Ty)) → AllRows (TyOf q) rows → IfSome (TyOf q) (named name rows)
  named_below name [] h = tt
  named_below name (row ∷ rows) h = by_test _ (named_below name rows h.1)
    where
      by_test : (c : Bool) → IfSome (TyOf q) (named name rows)
          → IfSome (TyOf q) (cond c (Some row.1) (named name rows))
      by_test true k = h.0
      by_test false k = k

  mutual
    pub ty_below : (sc : Scope) (ty : TyPhrase) → B sc.env → AllRows (TyOf q) sc.written → Given (TyOf q) (infer_ty sc ty)
    ty_below sc (TyPhrase.Var name at) h k = given_known (TyOf q) sc
        (let long : LongName = record { parts = name.text ∷ []; line = name.line; col = name.col } in long)
        (named name.text sc.written) (named_below name.text sc.written k)
    ty_below sc (TyPhrase.Record fields at) h k =
        given_then (AllRows (TyOf q)) (TyOf q) (infer_ty_fields sc fields []) _ (fields_below sc fields [] h k tt)
        (λ made l. (refl, row_types made l))
    ty_below sc (TyPhrase.Named args long at) h k =
        given_then (AllItems (TyOf q)) (TyOf q) (infer_tys sc args) _ (tys_below sc args h k) (λ made l.
        given_then (TypeHas AnyScheme F) (TyOf q) (known sc long (found_at types long.parts sc.env)) _
        (given_known (TypeHas AnyScheme F) sc long (found_at types long.parts sc.env)
        (has_found AnyScheme F (TypeHas AnyScheme F) types (has_types AnyScheme F) long.parts sc.env h)) (λ found m.
        given_where (TyOf q) (not (eqb (length made) found.function.arity)) 35 sc at _
        (ty_filled q (λ i. get_or made i unit_ty) Ty.Var found.function.body (λ i. get_below made i l) (λ n. tt) m.0)))
    ty_below sc (TyPhrase.Arrow from to at) h k =
        given_then (TyOf q) (TyOf q) (infer_ty sc from) _ (ty_below sc from h k) (λ a l.
        given_then (TyOf q) (TyOf q) (infer_ty sc to) _ (ty_below sc to h k) (λ b m. (refl, (l, (m, tt)))))

    fields_below : (sc : Scope) (fields : TyFields) (made : Table Ty) → B sc.env → AllRows (TyOf q) sc.written
        → AllRows (TyOf q) made → Given (AllRows (TyOf q)) (infer_ty_fields sc fields made)
    fields_below sc TyFields.EndOfFields made h k l = l
    fields_below sc (TyFields.Field label ty rest) made h k l =
        given_where (AllRows (TyOf q)) (is_some (entry label.text made)) 40 sc (name_at label) _
        (given_then (TyOf q) (AllRows (TyOf q)) (infer_ty sc ty) _ (ty_below sc ty h k) (λ t m.
        fields_below sc rest (with_entry label.text t made) h k (rows_with (TyOf q) label.text t made m l)))

    tys_below : (sc : Scope) (tys : TyPhrases) → B sc.env → AllRows (TyOf q) sc.written
        → Given (AllItems (TyOf q)) (infer_tys sc tys)
    tys_below sc TyPhrases.EndOfArgs h k = tt
    tys_below sc (TyPhrases.Arg ty rest) h k =
        given_then (TyOf q) (AllItems (TyOf q)) (infer_ty sc ty) _ (ty_below sc ty h k) (λ t l.
        given_then (AllItems (TyOf q)) (AllItems (TyOf q)) (infer_tys sc rest) _ (tys_below sc rest h k)
        (λ ts m. (l, m)))

  list_below : (own : List (List ℕ × ℕ)) → AllRows (TyOf q) (as_written own)
  list_below [] = tt
  list_below (row ∷ own) = (tt, list_below own)

  -- ---- environments

  value_below : (name : List ℕ) (value : ValueEntry) (env : Env) → B env → B (with_value name value env)
  value_below name value env h = has_with_value AnyScheme F name value env tt h

  type_below : (name : List ℕ) (str : TypeStr) (env : Env) → TypeHas AnyScheme F str → B env → B (with_type name str env)
  type_below name str env h k = has_with_type AnyScheme F name str env h k

  any_cons : (cons : List ConEntry) → AllItems (ConHas AnyScheme) cons
  any_cons [] = tt
  any_cons (con ∷ cons) = (tt, any_cons cons)

  cons_below : (cons : List ConEntry) (env : Env) → B env → B (with_cons cons env)
  cons_below [] env h = h
  cons_below (con ∷ cons) env h =
      let value : ValueEntry = record { status = status.Constructor; scheme = con.scheme } in
      cons_below cons (with_value con.name value env) (value_below con.name value env h)

  datatype_below : (name : List ℕ) (str : TypeStr) (env : Env) → F str.function → B env → B (with_datatype name str env)
  datatype_below name str env h k =
      cons_below str.cons (with_type name str env) (type_below name str env (h, any_cons str.cons) k)

  pub bound_below : (rows : Bound) (env : Env) → B env → B (with_bound rows env)
  bound_below [] env h = h
  bound_below (row ∷ rows) env h = bound_below rows _
      (value_below row.0 (variable_entry row.1) env h)

  pub modified_below : (env by : Env) → B env → B by → B (modified_by env by)
  modified_below env by h k = has_modified AnyScheme F env by h k

  nothing_below : B empty_env
  nothing_below = has_nothing AnyScheme F

  variables_below : (closes : Bool) (kept : ℕ → Bool) (s : State) (rows : Bound) (env : Env) → B env
      → B (closed_variables closes kept s rows env)
  variables_below closes kept s [] env h = h
  variables_below closes kept s (row ∷ rows) env h =
      let value : ValueEntry = record { status = status.Variable; scheme = closed_where closes kept s row.1 } in
      variables_below closes kept s rows (with_value row.0 value env) (value_below row.0 value env h)

  groups_below : (kept : ℕ → Bool) (s : State) (groups : List Group) (env : Env) → B env
      → B (closed_groups kept s groups env)
  groups_below kept s [] env h = h
  groups_below kept s (group ∷ groups) env h = groups_below kept s groups
      (closed_variables group.0 kept s group.1 env) (variables_below group.0 kept s group.1 env h)

  exceptions_below : (sc : Scope) (binds : List ExPhrase) (made : Env) → B made → Given B (infer_exceptions sc binds made)
  exceptions_below sc [] made h = h
  exceptions_below sc (bind ∷ binds) made h =
      given_where B (is_one_of reserved_constructors bind.name.text) 34 sc (name_at bind.name) _
      (given_where B (is_some (entry bind.name.text (values made))) 40 sc (name_at bind.name) _
      (always B (exception_of sc bind.body) _ (λ value.
      exceptions_below sc binds (with_value bind.name.text value made) (value_below bind.name.text value made h))))

  structure_below : (parts : List (List ℕ)) (env : Env) → B env → IfSome B (found_at structures parts env)
  structure_below = has_found AnyScheme F B structures (has_structures AnyScheme F)

  open_below : (sc : Scope) (longs : List LongName) (made : Env) → B sc.env → B made → Given B (infer_open sc longs made)
  open_below sc [] made h k = k
  open_below sc (long ∷ longs) made h k =
      given_then B B (known sc long (found_at structures long.parts sc.env)) _
      (given_known B sc long (found_at structures long.parts sc.env) (structure_below long.parts sc.env h))
      (λ env l. open_below sc longs (modified_by made env) h (modified_below made env k l))

  replication_below : (sc : Scope) (name : Name) (long : LongName) → B sc.env → Given B (infer_replication sc name long)
  replication_below sc name long h =
      given_then (TypeHas AnyScheme F) B (known sc long (found_at types long.parts sc.env)) _
      (given_known (TypeHas AnyScheme F) sc long (found_at types long.parts sc.env)
      (has_found AnyScheme F (TypeHas AnyScheme F) types (has_types AnyScheme F) long.parts sc.env h))
      (λ str k. datatype_below name.text str empty_env k.0 nothing_below)

  variable_types : (vs : List ℕ) → TysOf q (types_of (map Ty.Var vs))
  variable_types [] = tt
  variable_types (v ∷ vs) = (tt, variable_types vs)

  -- new names with numbers below
  own_below : (number arity : ℕ) (eq : Bool) (vs : List ℕ) → number < n
      → F (type_function vs (own_ty (own_name home number arity eq) vs))
  own_below number arity eq vs h = tree_closed q vs (own_ty (own_name home number arity eq) vs) (
    right (not (same_as_home home
        (own_name home number arity eq).owner)) (ltb number n) (lt-ltb number n h),
    variable_types vs,
  )
    where
      right : (a b : Bool) → b ≡ true → (a || b) ≡ true
      right true b e = refl
      right false b e = e

  made_below : (first : ℕ) (choice : List Bool) (number : ℕ) (dats : List Dat) (env : Env) → number + length dats ≤ n
      → B env → B (made_types home first choice number dats env)
  made_below first choice number [] env h k = k
  made_below first choice number (dat ∷ dats) env h k =
      let name : TyName = own_name home number (length dat.variables) (get_or choice (number - first) false) in
      let str : TypeStr = datatype_str home first choice dat.variables (own_ty name (numbers dat.variables)) dat.cons in
      let l : number + suc (length dats) ≤ n = h in
      made_below first choice (suc number) dats (with_datatype dat.name str env) (omega (arith, l))
      (datatype_below dat.name str env
      (own_below number (length dat.variables) (get_or choice (number - first) false) (numbers dat.variables)
      (omega (arith, l))) k)

-- ---- `type`

abbrev DecBelow : List ℕ → Env × Progress → Type 0
DecBelow home r = TypesBelow home r.1.names r.0

abbrev PlainBelow : List ℕ → ℕ → Env × Progress → Type 0
PlainBelow home n r = TypesBelow home n r.0 × (r.1.names ≡ n)

types_below : (n : ℕ) (sc : Scope) (binds : List TypPhrase) (made : Env) (st : Progress) → st.names ≡ n
    → TypesBelow sc.home n sc.env → TypesBelow sc.home n made
    → Given (PlainBelow sc.home n) (infer_types sc binds made st)
types_below n sc [] made st e h k = (k, e)
types_below n sc (bind ∷ binds) made st e h k =
    let Q : Env × Progress → Type 0 = PlainBelow sc.home n in
    given_then (IsListed 0 (length bind.tyvars) st) Q (listed sc bind.tyvars [] st) _ (listed_of sc bind.tyvars [] st)
    (λ r l.
    given_where Q (is_some (entry bind.name.text (types made))) 40 sc (name_at bind.name) _
    (given_then (TyOf (below_number sc.home n)) Q (infer_ty (with_written_alone (as_written r.0) sc) bind.ty) _
    (ty_below sc.home n (with_written_alone (as_written r.0) sc) bind.ty h (list_below sc.home n r.0)) (λ ty t.
    let str : TypeStr = plain_type (type_function (numbers r.0) ty) in
    types_below n sc binds (with_type bind.name.text str made) r.1 (l.names ∙ e) h
    (type_below sc.home n bind.name.text str made
    (tree_closed (below_number sc.home n) (numbers r.0) ty t, tt) k))))

-- ---- declarations

sized_below : (home : List ℕ) (sc : Scope) (at : At) (r : Env × Progress) → DecBelow home r
    → Given (DecBelow home) (sized_dec sc at r)
sized_below home sc at r h = given_where (DecBelow home) (has_too_large r.1.types.stands r.0) 38 sc at (λ u. gives r) h

left_in : {A : Type 0} (R : A → Type 0) (sc : Scope) (at : At) (x : A) (o : Option (List ℕ)) → R x
    → Given R (none_left sc at x o)
left_in R sc at x None h = h
left_in R sc at x (Some text) h = tt

closed_below : (sc : Scope) (at : At) (kept : ℕ → Bool) (own : List (List ℕ × ℕ)) (groups : List Group) (st : Progress)
    → Given (DecBelow sc.home) (closed_val sc at kept own groups st)
closed_below sc at kept own groups st = left_in (DecBelow sc.home) sc at (closed_groups kept st.types groups empty_env, st)
    (left_over kept st.types (closed_groups kept st.types groups empty_env) own)
    (groups_below sc.home st.names kept st.types groups empty_env (nothing_below sc.home st.names))

-- .. with what else is known of a declaration
abbrev Known : Scope → Progress → Env × Progress → Type 0
Known sc st r = MadeIn Any st r × (FirmEnv r.0 × DecBelow sc.home r)

dec_known : (depth : ℕ) (sc : Scope) (dec : DecPhrase) (st : Progress) → FirmEnv sc.env → IsReady Any sc st
    → Given (DecBelow sc.home) (infer_dec depth sc dec st) → Given (Known sc st) (infer_dec depth sc dec st)
dec_known depth sc dec st firm ready h =
    given_both (MadeIn Any st) (λ r. FirmEnv r.0 × DecBelow sc.home r) (infer_dec depth sc dec st)
    (dec_grows Any depth sc dec st ready)
    (given_both (λ r. FirmEnv r.0) (DecBelow sc.home) (infer_dec depth sc dec st) (dec_firm depth sc dec st firm) h)

mutual
  pub dec_below : (depth : ℕ) (sc : Scope) (dec : DecPhrase) (st : Progress) → FirmEnv sc.env → IsReady Any sc st
      → TypesBelow sc.home st.names sc.env → Given (DecBelow sc.home) (infer_dec depth sc dec st)
  dec_below depth sc (DecPhrase.Val tyvars rules recs at) st firm ready h =
      let Q : Env × Progress → Type 0 = DecBelow sc.home in
      always Q (own_variables sc tyvars rules recs st) _ (λ own.
      let inner : Scope = with_written (as_written own.0) sc in
      always Q (infer_binds depth inner rules [] [] own.1) _ (λ b.
      always Q (infer_rec_pats depth inner recs [] b.0 b.2) _ (λ r.
      always Q (infer_rec_exps depth (under_bound (rec_bound r.0) inner) recs r.0 r.1) _ (λ u.
      given_then Q Q (closed_val sc at (is_kept sc u.types.stands) own.0 (b.1 ++ rec_groups sc.env recs r.0) u) _
      (closed_below sc at (is_kept sc u.types.stands) own.0 (b.1 ++ rec_groups sc.env recs r.0) u)
      (λ v k. sized_below sc.home sc at v k)))))
  dec_below depth sc (DecPhrase.Types binds at) st firm ready h =
      given_then (PlainBelow sc.home st.names) (DecBelow sc.home) (infer_types sc binds empty_env st) _
      (types_below st.names sc binds empty_env st refl h (nothing_below sc.home st.names))
      (λ r k. sized_below sc.home sc at r (subst (λ n. TypesBelow sc.home n r.0) (sym k.1) k.0))
  dec_below depth sc (DecPhrase.Datatypes binds at) st firm ready h =
      given_then (DatatypesDerived sc reserved_constructors binds st) (DecBelow sc.home)
      (datatypes_of sc reserved_constructors binds st) _
      (datatypes_have_derivations.all sc reserved_constructors binds st firm h ready.fit) (λ r d.
      let many : length d.choice ≡ length d.dats =
      as_many sc.home st.names d.choice d.choice d.choice d.dats d.maximal.respects in
      let count : st.names + length d.dats ≡ st.names + length binds =
      ap (λ k. st.names + k) (sym many ∙ d.counted) in
      let names : r.1.names ≡ st.names + length binds = d.names in
      sized_below sc.home sc at r (subst (TypesBelow sc.home r.1.names) (sym d.made)
      (made_below sc.home r.1.names st.names d.choice st.names d.dats empty_env (omega (arith, count, names))
      (nothing_below sc.home r.1.names))))
  dec_below depth sc (DecPhrase.Replication name long at) st firm ready h =
      given_then (TypesBelow sc.home st.names) (DecBelow sc.home) (infer_replication sc name long) _
      (replication_below sc.home st.names sc name long h) (λ made k. sized_below sc.home sc at (made, st) k)
  dec_below depth sc (DecPhrase.Exceptions binds at) st firm ready h =
      given_then (TypesBelow sc.home st.names) (DecBelow sc.home) (exceptions_of sc binds) _
      (exceptions_below sc.home st.names sc binds empty_env (nothing_below sc.home st.names))
      (λ made k. sized_below sc.home sc at (made, st) k)
  dec_below depth sc (DecPhrase.Local hidden shown at) st firm ready h =
      given_then (Known sc st) (DecBelow sc.home) (infer_dec depth sc hidden st) _
      (dec_known depth sc hidden st firm ready (dec_below depth sc hidden st firm ready h)) (λ d k.
      given_then (DecBelow sc.home) (DecBelow sc.home) (infer_dec depth (under d.0 sc) shown d.1) _
      (dec_below depth (under d.0 sc) shown d.1 (firm_modified sc.env d.0 firm k.1.0)
      (ready_under Any d.0 sc d.1 k.0.1 (ready_later Any sc st d.1 ready k.0.0))
      (modified_below sc.home d.1.names sc.env d.0 (below_later sc.home st.names d.1.names sc.env k.0.0.names h) k.1.1))
      (λ r l. sized_below sc.home sc at r l))
  dec_below depth sc (DecPhrase.Open longs at) st firm ready h =
      given_then (TypesBelow sc.home st.names) (DecBelow sc.home) (infer_open sc longs empty_env) _
      (open_below sc.home st.names sc longs empty_env h (nothing_below sc.home st.names))
      (λ made k. sized_below sc.home sc at (made, st) k)
  dec_below depth sc (DecPhrase.Sequence decs at) st firm ready h = decs_below depth sc decs st firm ready h
  dec_below depth sc (DecPhrase.Structures binds at) st firm ready h = tt

  decs_below : (depth : ℕ) (sc : Scope) (decs : DecPhrases) (st : Progress) → FirmEnv sc.env → IsReady Any sc st
      → TypesBelow sc.home st.names sc.env → Given (DecBelow sc.home) (infer_decs depth sc decs st)
  decs_below depth sc DecPhrases.EndOfDecs st firm ready h = nothing_below sc.home st.names
  decs_below depth sc (DecPhrases.Dec dec rest) st firm ready h =
      given_then (Known sc st) (DecBelow sc.home) (infer_dec depth sc dec st) _
      (dec_known depth sc dec st firm ready (dec_below depth sc dec st firm ready h)) (λ d k.
      let inner : IsReady Any (under d.0 sc) d.1 =
      ready_under Any d.0 sc d.1 k.0.1 (ready_later Any sc st d.1 ready k.0.0) in
      let firm_inner : FirmEnv (under d.0 sc).env = firm_modified sc.env d.0 firm k.1.0 in
      given_then (λ v. MadeIn Any d.1 v × DecBelow sc.home v) (DecBelow sc.home) (infer_decs depth (under d.0 sc) rest d.1) _
      (given_both (MadeIn Any d.1) (DecBelow sc.home) (infer_decs depth (under d.0 sc) rest d.1)
      (decs_grow Any depth (under d.0 sc) rest d.1 inner)
      (decs_below depth (under d.0 sc) rest d.1 firm_inner inner
      (modified_below sc.home d.1.names sc.env d.0 (below_later sc.home st.names d.1.names sc.env k.0.0.names h) k.1.1)))
      (λ v l. modified_below sc.home v.1.names d.0 v.0
      (below_later sc.home d.1.names v.1.names d.0 l.0.0.names k.1.1) l.1))

pub types_stay_below : TypesStayBelow
types_stay_below = record { dec = dec_below }
