-- The variables of a `val` one after another: their ids, their values, and the end of the `val`.
use Rattle.std.proofs.Common.{◌≡◌, ℕ, zero, suc, List, [], ◌∷◌, ◌++◌, map, refl, sym, ap, ap₂, ◌∙◌, subst, arith, Option, Some, None, Bool, true, false, ◌||◌, ◌&&◌, not, cond, slice_get}
use Rattle.std.specs.Prelude.{Result, Ok, Err, IsErrAnd, reverse}
use Rattle.std.specs.List.{list_any}
use Rattle.std.proofs.lemmas.List.{append_assoc, append-nil, reverse-append, reverse-reverse}
use Rattle.cm_base.specs.declared.fault.Fault.{Fault}
use Rattle.sml_trees.specs.declared.name.At.{At}
use Rattle.semantic_objects.specs.declared.name.TyId.{TyId}
use Rattle.semantic_objects.specs.declared.name.TyId.TheVariants as id
use Rattle.semantic_objects.specs.declared.entry.ValueEntry.{ValueEntry}
use Rattle.semantic_objects.specs.declared.entry.VidStatus.TheVariants as status
use Rattle.semantic_objects.specs.Symbols.{same_bool}
use Rattle.semantic_objects.specs.Tables.{with_all}
use Rattle.semantic_objects.specs.Trees.{TypeScheme}
use Rattle.semantic_objects.specs.Environments.{Env, env_of}
use Rattle.unification.specs.Types.{Ty, State, put, occurs, occurs_any}
use Rattle.unification.specs.Closing.{kept_since}
use Rattle.type_nodes.specs.Tables.{Table, state, whole_all}
use Rattle.type_nodes.specs.Keeping.{IsKept}
use Rattle.type_schemes.specs.Schemes.{IsFirstOf, MayBeFirstOf, scheme_since, schemes_since, stays_since, is_left}
use Rattle.sml_modules.specs.Items.{map_rows}
use Rattle.sml_modules.specs.Graphs.{Graph, structure_rows, type_rows}
use Rattle.name_trails.specs.Trails.{Rows}
use Rattle.static_semantics.specs.Inferring.{Progress, Scope, Answer, ◌>>=◌, gives, refuses_where}
use Rattle.static_semantics.specs.CoreInference.{Group, none_left}
use Rattle.static_semantics.specs.RuleConditions.{are_distinct, groups_bound}
use Rattle.core_scopes.specs.declared.made.Made.{Made}
use Rattle.core_scopes.specs.declared.made.NamedInScope.{NamedInScope}
use Rattle.core_scopes.specs.declared.value.ValueInScope.{ValueInScope}
use Rattle.core_scopes.specs.declared.value.ValueInScope.TheVariants as value
use Rattle.core_scopes.specs.Scopes.{entry_of}
use Rattle.core_scopes.specs.Listed.{scope_rows}
use Rattle.core_scopes.specs.Marks.{value_rows, env_of_made}
use Rattle.type_phrases.specs.Inferred.{Answers, progress}
use Rattle.type_phrases.proofs.Steps.{failed, refused}
use Rattle.pattern_elab.specs.declared.own.OwnVariable.{OwnVariable}
use Rattle.pattern_elab.specs.Scopes.{own_entry}
use Rattle.closing_laws.specs.Variables.{Closing, variables_of, closed_entry, closed_rows, env_of_values, stays_open, first_left, any_too_large, val_end, ended_val}
use Rattle.closing_laws.proofs.Rows.{ended}
use Rattle.value_closing.specs.declared.closing.ClosingVariable.{ClosingVariable}
use Rattle.value_closing.specs.Closings.{closing_of, closings, id_where, ids_where, entry_rows, HasScheme, IsValueBy, ids_of, NamesAt}

-- ---- the first written type variable that is left

pub none_first : (t : Table) (n : ℕ) (unclosed : List TyId) (rows : List (List ℕ × ℕ))
    → MayBeFirstOf (is_left t n unclosed) (ids_of rows) None → first_left (stays_since t n unclosed) rows ≡ None
none_first t n unclosed [] h = refl
none_first t n unclosed (row ∷ rows) h =
    ap (λ b. cond b (Some row.0) (first_left (stays_since t n unclosed) rows)) (h 0 (id.Variable row.1) refl)
    ∙ none_first t n unclosed rows (λ i a e. h (suc i) a e)

-- the row that is named
pub record IsNamed (left : ℕ → Bool) (rows : List (List ℕ × ℕ)) (p : ℕ) : Type 0 where
  pub row : List ℕ × ℕ
  pub at : slice_get rows p ≡ Some row
  pub is : first_left left rows ≡ Some row.0

pub some_first : (t : Table) (n : ℕ) (unclosed : List TyId) (rows : List (List ℕ × ℕ)) (p : ℕ)
    → IsFirstOf (is_left t n unclosed) (ids_of rows) p → IsNamed (stays_since t n unclosed) rows p
some_first t n unclosed [] p h = let e : slice_get (ids_of []) p ≡ Some h.first = h.at in absurd (cc)
some_first t n unclosed (row ∷ rows) zero h =
    let e : id.Variable row.1 ≡ h.first = let f : Some (id.Variable row.1) ≡ Some h.first = h.at in cc in
    record {
      row = row;
      at = refl;
      is = ap (λ b. cond b (Some row.0) (first_left (stays_since t n unclosed) rows))
          (ap (is_left t n unclosed) e ∙ h.is);
    }
some_first t n unclosed (row ∷ rows) (suc p) h =
    let rest : IsNamed (stays_since t n unclosed) rows p = some_first t n unclosed rows p (record {
      first = h.first;
      at = h.at;
      is = h.is;
      before = λ i a l e. h.before (suc i) a (omega (arith, l)) e;
    }) in
    record {
      row = rest.row;
      at = rest.at;
      is = ap (λ b. cond b (Some row.0) (first_left (stays_since t n unclosed) rows))
          (h.before 0 (id.Variable row.1) (omega arith) refl) ∙ rest.is;
    }

pub left_fits : (inner : Scope) (at : At) (t : Table) (n : ℕ) (unclosed ids : List TyId) (rows : List (List ℕ × ℕ))
    → ids ≡ ids_of rows → MayBeFirstOf (is_left t n unclosed) ids None
    → none_left inner at (tt {0}) (first_left (stays_since t n unclosed) rows) ≡ gives (tt {0})
left_fits inner at t n unclosed ids rows e h =
    ap (none_left inner at (tt {0}))
    (none_first t n unclosed rows (subst (λ z. MayBeFirstOf (is_left t n unclosed) z None) e h))

pub left_refused : (g : Graph) (inner : Scope) (at : At) (t : Table) (n : ℕ) (unclosed ids : List TyId)
    (rows : List (List ℕ × ℕ)) (p : ℕ) (f : Fault) → inner.home ≡ g.home → ids ≡ ids_of rows
    → MayBeFirstOf (is_left t n unclosed) ids (Some p) → NamesAt g at rows p f
    → Answers {R = Unit {0}} (none_left inner at (tt {0}) (first_left (stays_since t n unclosed) rows)) (λ u. tt) (Err f)
left_refused g inner at t n unclosed ids rows p f home e h k =
    let named : IsNamed (stays_since t n unclosed) rows p =
    some_first t n unclosed rows p (subst (λ z. MayBeFirstOf (is_left t n unclosed) z (Some p)) e h) in
    subst (λ (o : Option (List ℕ)). Answers {R = Unit {0}} (none_left inner at (tt {0}) o) (λ u. tt) (Err f))
    (sym named.is)
    (refused {R = Unit {0}} g inner 37 at (named.row.0 ∷ []) (λ u. tt) f home (k named.row named.at))

-- ---- values

-- what was made, and the variables and schemes that are left, where the schemes are those of a mark
pub record ValuesSoFar (t : Table) (variables : List ClosingVariable) (schemes : List TypeScheme)
    (rest : List ClosingVariable) (left : List TypeScheme) (values : List (NamedInScope OwnVariable)) : Type 0 where
  pub made : (n : ℕ) → schemes ≡ map (scheme_since t n) (ids_where true variables)
      → scope_rows values ++ entry_rows (kept_since n (state t).stands) (state t) rest
      ≡ entry_rows (kept_since n (state t).stands) (state t) variables
  pub queue : (n : ℕ) → schemes ≡ map (scheme_since t n) (ids_where true variables)
      → reverse left ≡ map (scheme_since t n) (ids_where true rest)

pub values_begin : (t : Table) (variables rest : List ClosingVariable) (schemes left : List TypeScheme)
    (values : List (NamedInScope OwnVariable)) → rest ≡ variables → left ≡ reverse schemes → values ≡ []
    → ValuesSoFar t variables schemes rest left values
values_begin t variables rest schemes left values e f k = record {
  made = λ n h. ap (λ (z : List (NamedInScope OwnVariable)). scope_rows z
      ++ entry_rows (kept_since n (state t).stands) (state t) rest) k
      ∙ ap (entry_rows (kept_since n (state t).stands) (state t)) e;
  queue = λ n h. ap reverse f ∙ reverse-reverse schemes ∙ h
      ∙ ap (λ (z : List ClosingVariable). map (scheme_since t n) (ids_where true z)) (sym e);
}

-- the scheme that a variable has
has_closed : (closes : Bool) (t : Table) (n m : ℕ) (old new : List TypeScheme) (σ : TypeScheme)
    (rest : List TypeScheme) → HasScheme closes t m old new σ
    → reverse old ≡ map (scheme_since t n) (cond (same_bool closes true) (id.Variable m ∷ []) []) ++ rest
    → (σ ≡ (closed_entry (kept_since n (state t).stands) (state t) (closes, ([], Ty.Var m))).scheme)
    × (reverse new ≡ rest)
has_closed true t n m old new σ rest h k =
    let e : σ ∷ reverse new ≡ scheme_since t n (id.Variable m) ∷ rest =
    sym (reverse-append new (σ ∷ [])) ∙ ap reverse (sym h) ∙ k in
    let f : σ ≡ scheme_since t n (id.Variable m) = cc in
    let l : reverse new ≡ rest = cc in
    (f, l)
has_closed false t n m old new σ rest h k = (h.1, ap reverse h.0 ∙ k)

rows_snoc : (values : List (NamedInScope OwnVariable)) (x : NamedInScope OwnVariable)
    → scope_rows (values ++ x ∷ []) ≡ scope_rows values ++ (x.name, x.entry) ∷ []
rows_snoc [] x = refl
rows_snoc (v ∷ values) x =
    ap (λ (z : Rows (ValueInScope OwnVariable)). (v.name, v.entry) ∷ z) (rows_snoc values x)

map_append : (f : TyId → TypeScheme) (xs ys : List TyId) → map f (xs ++ ys) ≡ map f xs ++ map f ys
map_append f [] ys = refl
map_append f (x ∷ xs) ys = ap (λ (z : List TypeScheme). f x ∷ z) (map_append f xs ys)

abbrev plain_entry : TypeScheme → ValueInScope OwnVariable
plain_entry σ = value.Entry (record { status = status.Variable; scheme = σ })

pub values_next : (t : Table) (variables : List ClosingVariable) (schemes : List TypeScheme)
    (all rest : List ClosingVariable) (x : ClosingVariable) (left new : List TypeScheme)
    (values more : List (NamedInScope OwnVariable)) (named : NamedInScope OwnVariable)
    → ValuesSoFar t variables schemes all left values → all ≡ x ∷ rest → IsValueBy t x left new named
    → more ≡ values ++ named ∷ [] → ValuesSoFar t variables schemes rest new more
values_next t variables schemes all rest x left new values more named s e v f =
    let scheme : (n : ℕ) → schemes ≡ map (scheme_since t n) (ids_where true variables)
    → (v.scheme ≡ (closed_entry (kept_since n (state t).stands) (state t) (closing_of x)).scheme)
    × (reverse new ≡ map (scheme_since t n) (ids_where true rest)) = λ n h.
    has_closed x.closes t n x.number left new v.scheme (map (scheme_since t n) (ids_where true rest)) v.has
    (s.queue n h ∙ ap (λ (z : List ClosingVariable). map (scheme_since t n) (ids_where true z)) e
    ∙ map_append (scheme_since t n) (id_where true x) (ids_where true rest)) in
    record {
      made = λ n h.
          let kept : ℕ → Bool = kept_since n (state t).stands in
          ap (λ (z : List (NamedInScope OwnVariable)). scope_rows z ++ entry_rows kept (state t) rest) f
          ∙ ap (λ (z : Rows (ValueInScope OwnVariable)). z ++ entry_rows kept (state t) rest) (rows_snoc values named)
          ∙ append_assoc (scope_rows values) ((named.name, named.entry) ∷ []) (entry_rows kept (state t) rest)
          ∙ ap₂ (λ (m : List ℕ) (y : ValueInScope OwnVariable). scope_rows values
          ++ ((m, y) ∷ entry_rows kept (state t) rest)) v.name
          (v.entry ∙ ap plain_entry (scheme n h).0)
          ∙ ap (λ (z : List ClosingVariable). scope_rows values ++ entry_rows kept (state t) z) (sym e)
          ∙ s.made n h;
      queue = λ n h. (scheme n h).1;
    }

pub values_end : (t : Table) (variables rest : List ClosingVariable) (schemes left : List TypeScheme)
    (values : List (NamedInScope OwnVariable)) → ValuesSoFar t variables schemes rest left values → rest ≡ []
    → (n : ℕ) → schemes ≡ map (scheme_since t n) (ids_where true variables)
    → scope_rows values ≡ entry_rows (kept_since n (state t).stands) (state t) variables
values_end t variables rest schemes left values s e n h =
    sym (append-nil (scope_rows values))
    ∙ ap (λ (z : List ClosingVariable). scope_rows values ++ entry_rows (kept_since n (state t).stands) (state t) z)
    (sym e)
    ∙ s.made n h

-- ---- what stays open

any_open : (closes : Bool) (t : Table) (v m : ℕ) (rest : List TyId) (b : Bool)
    → b ≡ occurs_any v (whole_all t rest)
    → ((not closes && occurs v (put (state t).stands (Ty.Var m))) || b)
    ≡ occurs_any v (whole_all t (cond (same_bool closes false) (id.Variable m ∷ []) [] ++ rest))
any_open true t v m rest b h = h
any_open false t v m rest b h = ap (λ c. occurs v (put (state t).stands (Ty.Var m)) || c) h

open_ids : (t : Table) (v : ℕ) (xs : List ClosingVariable)
    → list_any (λ (x : Closing). not x.0 && occurs v (put (state t).stands x.1.1)) (closings xs)
    ≡ occurs_any v (whole_all t (ids_where false xs))
open_ids t v [] = refl
open_ids t v (x ∷ xs) = any_open x.closes t v x.number (ids_where false xs)
    (list_any (λ (y : Closing). not y.0 && occurs v (put (state t).stands y.1.1)) (closings xs)) (open_ids t v xs)

first_same : (left other : ℕ → Bool) (rows : List (List ℕ × ℕ)) → ((v : ℕ) → left v ≡ other v)
    → first_left left rows ≡ first_left other rows
first_same left other [] h = refl
first_same left other (row ∷ rows) h =
    ap₂ (λ (b : Bool) (o : Option (List ℕ)). cond b (Some row.0) o) (h row.1) (first_same left other rows h)

pub left_same : (t : Table) (n : ℕ) (xs : List ClosingVariable) (ids : List TyId) (rows : List (List ℕ × ℕ))
    → ids ≡ ids_where false xs
    → first_left (stays_open (kept_since n (state t).stands) (state t) (closings xs)) rows
    ≡ first_left (stays_since t n ids) rows
left_same t n xs ids rows e =
    first_same (stays_open (kept_since n (state t).stands) (state t) (closings xs)) (stays_since t n ids) rows
    (λ v. ap (λ b. kept_since n (state t).stands v || b)
    (open_ids t v xs ∙ ap (λ (z : List TyId). occurs_any v (whole_all t z)) (sym e)))

-- ---- what was made

val_rows : {V : Type 0} (read : V → ValueEntry) (list : List (NamedInScope V))
    → value_rows read list ≡ map_rows (entry_of read) (scope_rows list)
val_rows read [] = refl
val_rows read (e ∷ es) = ap (λ (z : Rows ValueEntry). (e.name, entry_of read e.entry) ∷ z) (val_rows read es)

entries_read : (kept : ℕ → Bool) (s : State) (xs : List ClosingVariable)
    → map_rows (entry_of own_entry) (entry_rows kept s xs) ≡ closed_rows kept s (closings xs)
entries_read kept s [] = refl
entries_read kept s (x ∷ xs) =
    ap (λ (z : Rows ValueEntry). (x.name, closed_entry kept s (closing_of x)) ∷ z) (entries_read kept s xs)

made_is : (g : Graph) (kept : ℕ → Bool) (s : State) (xs : List ClosingVariable) (made : Made OwnVariable)
    → made.structures ≡ [] → made.types ≡ [] → scope_rows made.values ≡ entry_rows kept s xs
    → env_of_made g own_entry made ≡ env_of_values (closed_rows kept s (closings xs))
made_is g kept s xs made h k l =
    ap (λ es. env_of (with_all (structure_rows g es) []) (with_all (type_rows made.types) [])
    (with_all (value_rows own_entry made.values) [])) h
    ∙ ap (λ es. env_of [] (with_all (type_rows es) []) (with_all (value_rows own_entry made.values) [])) k
    ∙ ap env_of_values (val_rows own_entry made.values ∙ ap (map_rows (entry_of own_entry)) l ∙ entries_read kept s xs)

-- ---- the end

module _ (g : Graph) (inner : Scope) (at : At) (t : Table) (n : ℕ) (own : List (List ℕ × ℕ)) (groups : List Group)
    (xs : List ClosingVariable) (unclosed : List TyId) (kept_table : IsKept t)
    (distinct : are_distinct (groups_bound groups) ≡ true) (all : closings xs ≡ variables_of groups)
    (ids : unclosed ≡ ids_where false xs) where
  abbrev kept : ℕ → Bool
  kept = kept_since n (state t).stands

  abbrev whole_end : Answer (Env × Progress)
  whole_end = val_end inner at kept own groups (progress t g)

  abbrev behind_left : Unit {0} → Answer (Env × Progress)
  behind_left u = refuses_where (any_too_large (state t) (closings xs)) 38 inner at
      >>= λ v. gives (env_of_values (closed_rows kept (state t) (closings xs)), progress t g)

  in_steps : whole_end ≡ (none_left inner at (tt {0}) (first_left (stays_since t n unclosed) own) >>= behind_left)
  in_steps =
      ended inner at kept own groups (progress t g) kept_table.fit.settled distinct
      ∙ ap (λ (z : List Closing). ended_val inner at kept own z (progress t g)) (sym all)
      ∙ ap (λ (o : Option (List ℕ)). none_left inner at (tt {0}) o >>= behind_left) (left_same t n xs unclosed own ids)

  pub ends_left : (read : Made OwnVariable → Env × Progress) (e : Fault)
      → Answers {R = Unit {0}} (none_left inner at (tt {0}) (first_left (stays_since t n unclosed) own)) (λ u. tt) (Err e)
      → Answers whole_end read (Err e)
  ends_left read e h = subst (λ (w : Answer (Env × Progress)). Answers w read (Err e)) (sym in_steps)
      (failed {R = Unit {0}} (none_left inner at (tt {0}) (first_left (stays_since t n unclosed) own)) behind_left
      (λ u. tt) read e h)

  pub ends_large : (read : Made OwnVariable → Env × Progress) (e : Fault)
      → none_left inner at (tt {0}) (first_left (stays_since t n unclosed) own) ≡ gives (tt {0})
      → Answers {R = Unit {0}} (refuses_where (any_too_large (state t) (closings xs)) 38 inner at) (λ u. tt) (Err e)
      → Answers whole_end read (Err e)
  ends_large read e h k = subst (λ (w : Answer (Env × Progress)). Answers w read (Err e))
      (sym (in_steps ∙ ap (λ (m : Answer (Unit {0})). m >>= behind_left) h))
      (failed {R = Unit {0}} (refuses_where (any_too_large (state t) (closings xs)) 38 inner at)
      (λ v. gives (env_of_values (closed_rows kept (state t) (closings xs)), progress t g)) (λ u. tt) read e k)

  pub ends_made : (made : Made OwnVariable) → made.structures ≡ [] → made.types ≡ []
      → scope_rows made.values ≡ entry_rows kept (state t) xs
      → none_left inner at (tt {0}) (first_left (stays_since t n unclosed) own) ≡ gives (tt {0})
      → refuses_where (any_too_large (state t) (closings xs)) 38 inner at ≡ gives (tt {0})
      → whole_end ≡ gives (env_of_made g own_entry made, progress t g)
  ends_made made s ts vs h k =
      in_steps
      ∙ ap (λ (m : Answer (Unit {0})). m >>= behind_left) h
      ∙ ap (λ (m : Answer (Unit {0})). m
      >>= λ v. gives (env_of_values (closed_rows kept (state t) (closings xs)), progress t g)) k
      ∙ ap (λ (env : Env). gives (env, progress t g)) (sym (made_is g kept (state t) xs made s ts vs))

-- ---- facts of a table that is the same

pub sizes_same : (t now : Table) (xs ys : List ClosingVariable) → now ≡ t → ys ≡ xs
    → any_too_large (state now) (closings ys) ≡ any_too_large (state t) (closings xs)
sizes_same t now xs ys e f =
    ap₂ (λ (z : Table) (zs : List ClosingVariable). any_too_large (state z) (closings zs)) e f

pub large_still : (inner : Scope) (at : At) (t now : Table) (xs ys : List ClosingVariable) (r : Result (Unit {0}) Fault)
    → now ≡ t → ys ≡ xs
    → Answers (refuses_where (any_too_large (state now) (closings ys)) 38 inner at) (λ u. tt) r
    → Answers (refuses_where (any_too_large (state t) (closings xs)) 38 inner at) (λ u. tt) r
large_still inner at t now xs ys r e f h =
    subst (λ (b : Bool). Answers (refuses_where b 38 inner at) (λ u. tt) r) (sizes_same t now xs ys e f) h

pub values_are : (t mid now : Table) (n : ℕ) (xs ys : List ClosingVariable) (closing : List TyId)
    (schemes : List TypeScheme) (values : List (NamedInScope OwnVariable)) → mid ≡ t → now ≡ mid → ys ≡ xs
    → closing ≡ ids_where true ys → schemes ≡ schemes_since mid n closing
    → ((m : ℕ) → schemes ≡ map (scheme_since now m) (ids_where true xs)
    → scope_rows values ≡ entry_rows (kept_since m (state now).stands) (state now) xs)
    → scope_rows values ≡ entry_rows (kept_since n (state t).stands) (state t) xs
values_are t mid now n xs ys closing schemes values e f k c h v =
    subst (λ (z : Table). scope_rows values ≡ entry_rows (kept_since n (state z).stands) (state z) xs) (f ∙ e)
    (v n (h ∙ ap₂ (λ (z : Table) (ids : List TyId). map (scheme_since z n) ids) (sym f) (c ∙ ap (ids_where true) k)))

-- what a failed step hands on
pub passed_on : {R : Type 0} (P : Result R Fault → Type 0) (r : Result R Fault) (e : Fault) → IsErrAnd r (λ f. f ≡ e)
    → P (Err e) → P r
passed_on P (Ok x) e h k = absurd h
passed_on P (Err f) e h k = subst (λ (z : Fault). P (Err z)) (sym h) k
