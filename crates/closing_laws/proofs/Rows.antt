-- What a `val` makes, row by row: the trees in it, those that are too large, and the variables that stay open.
use Rattle.std.proofs.Common.{◌≡◌, ◌≢◌, ℕ, ◌+◌, List, [], ◌∷◌, ◌++◌, map, refl, sym, ap, ap₂, ◌∙◌, subst, Option, Some, None, Bool, true, false, ◌||◌, ◌&&◌, not, cond}
use Rattle.std.proofs.lemmas.Bool.{eqb-true}
use Rattle.std.specs.List.{list_any}
use Rattle.std.specs.Prelude.{ltb}
use Rattle.std.specs.Option.{is_some}
use Rattle.std.specs.FinMap.Entries.{by_order}
use Rattle.std.specs.Ordering.{is_eq, eq_by_cmp}
use Rattle.std.specs.declared.cmp.Ordering.{Ordering}
use Rattle.std.specs.declared.cmp.Ordering.TheVariants as ordering
use Rattle.sml_trees.specs.declared.name.At.{At}
use Rattle.semantic_objects.specs.declared.entry.ValueEntry.{ValueEntry}
use Rattle.semantic_objects.specs.Symbols.{same_text}
use Rattle.semantic_objects.specs.Tables.{Table, by_bytes, entry, with_entry, with_all}
use Rattle.semantic_objects.specs.Trees.{Tree}
use Rattle.semantic_objects.specs.Environments.{Env, env_of, empty_env}
use Rattle.semantic_objects.proofs.Same.{text_same}
use Rattle.semantic_objects.proofs.Promised.{sets_entries}
use Rattle.unification.specs.Types.{Ty, Substitution, State, put, put_all, occurs, size, size_all}
use Rattle.unification.specs.Unification.{IsSettled}
use Rattle.unification.specs.Closing.{is_among, found_in, closed_over, filler}
use Rattle.unification.specs.Touching.{IsWithin}
use Rattle.unification.proofs.Walking.{either_way, not_both, and_left, and_right, walk}
use Rattle.unification.proofs.Putting.{put_solved, put_same}
use Rattle.unification.proofs.Filling.{fill_closed}
use Rattle.unification.proofs.Untouched.{within_put}
use Rattle.unification.proofs.Closing.{found_all}
use Rattle.static_semantics.specs.BasicTypes.{unit_ty}
use Rattle.static_semantics.specs.Inferring.{Progress, Scope, ◌>>=◌, gives, refuses_where, is_named, named, Bound, seen, value_bodies, bodies, free_in_env, is_too_large, has_too_large, sized_dec}
use Rattle.static_semantics.specs.CoreInference.{Group, closed_where, closed_variables, closed_groups, left_over, none_left}
use Rattle.static_semantics.specs.RuleConditions.{are_distinct, groups_bound}
use Rattle.static_semantics.proofs.Ages.{known_itself}
use Rattle.closing_laws.specs.Variables.{Closing, all_closing, variables_of, closed_entry, closed_rows, env_of_values, stays_open, first_left, any_too_large, val_end, ended_val}

-- ---- one environment

all_append : {A : Type 0} (front back t : Table A) → with_all (front ++ back) t ≡ with_all back (with_all front t)
all_append [] back t = refl
all_append (row ∷ front) back t = all_append front back (with_entry row.0 row.1 t)

rows_append : (kept : ℕ → Bool) (s : State) (xs ys : List Closing)
    → closed_rows kept s (xs ++ ys) ≡ closed_rows kept s xs ++ closed_rows kept s ys
rows_append kept s [] ys = refl
rows_append kept s (x ∷ xs) ys =
    ap (λ (rows : Table ValueEntry). (x.1.0, closed_entry kept s x) ∷ rows) (rows_append kept s xs ys)

variables_made : (closes : Bool) (kept : ℕ → Bool) (s : State) (rows : Bound) (vs : Table ValueEntry)
    → closed_variables closes kept s rows (env_of [] [] vs)
    ≡ env_of [] [] (with_all (closed_rows kept s (all_closing closes rows)) vs)
variables_made closes kept s [] vs = refl
variables_made closes kept s (row ∷ rows) vs =
    variables_made closes kept s rows (with_entry row.0 (closed_entry kept s (closes, row)) vs)

groups_made : (kept : ℕ → Bool) (s : State) (groups : List Group) (vs : Table ValueEntry)
    → closed_groups kept s groups (env_of [] [] vs)
    ≡ env_of [] [] (with_all (closed_rows kept s (variables_of groups)) vs)
groups_made kept s [] vs = refl
groups_made kept s (group ∷ groups) vs =
    let front : Table ValueEntry = closed_rows kept s (all_closing group.0 group.1) in
    let back : Table ValueEntry = closed_rows kept s (variables_of groups) in
    ap (closed_groups kept s groups) (variables_made group.0 kept s group.1 vs)
    ∙ groups_made kept s groups (with_all front vs)
    ∙ ap (env_of [] []) (sym (all_append front back vs)
    ∙ ap (λ (rows : Table ValueEntry). with_all rows vs)
    (sym (rows_append kept s (all_closing group.0 group.1) (variables_of groups))))

pub val_made : (kept : ℕ → Bool) (s : State) (groups : List Group)
    → closed_groups kept s groups empty_env ≡ env_of_values (closed_rows kept s (variables_of groups))
val_made kept s groups = groups_made kept s groups []

-- ---- any of the trees in it

swapped : (a b c : Bool) → (a || (b || c)) ≡ (b || (a || c))
swapped true true c = refl
swapped true false c = refl
swapped false b c = refl

turned : (a b c : Bool) → (a || (b || c)) ≡ ((b || a) || c)
turned true true c = refl
turned true false c = refl
turned false true c = refl
turned false false c = refl

or_nothing : (b : Bool) → (b || false) ≡ b
or_nothing true = refl
or_nothing false = refl

none_twice : {A : Type 0} (c : Bool) (x : A) (o : Option A) → c ≡ true → cond c (Some x) o ≡ None → ⊥
none_twice true x o e h = absurd (cc)
none_twice false x o e h = absurd (cc)

none_after : {A : Type 0} (c : Bool) (x : A) (o : Option A) → cond c (Some x) o ≡ None → o ≡ None
none_after true x o h = absurd (cc)
none_after false x o h = h

-- names that stand nowhere in a table
abbrev AllAbsent : Table ValueEntry → Table ValueEntry → Type 0
AllAbsent t [] = Unit {0}
AllAbsent t (row ∷ rows) = (entry row.0 t ≡ None) × AllAbsent t rows

pub named_apart : {A : Type 0} (c : Bool) (x : A) (o : Option A) → is_some (cond c (Some x) o) ≡ false
    → (c ≡ false) × (is_some o ≡ false)
named_apart true x o h = absurd (cc)
named_apart false x o h = (refl, h)

pub not_true : (b : Bool) → not b ≡ true → b ≡ false
not_true true h = absurd (cc)
not_true false h = refl

texts_differ : (a b : List ℕ) → same_text a b ≡ false → a ≢ b
texts_differ a b h e =
    let k : true ≡ false = sym (text_same a) ∙ ap (λ z. same_text a z) e ∙ h in cc

absent_with : (name : List ℕ) (x : ValueEntry) (t rows : Table ValueEntry) → is_named name rows ≡ false
    → AllAbsent t rows → AllAbsent (with_entry name x t) rows
absent_with name x t [] h k = tt
absent_with name x t (row ∷ rows) h k =
    let e : (same_text name row.0 ≡ false) × (is_named name rows ≡ false) =
    named_apart (same_text name row.0) row.1 (named name rows) h in (
      (sets_entries ValueEntry).others name row.0 x t (texts_differ name row.0 e.0) ∙ k.0,
      absent_with name x t rows e.1 k.1,
    )

absent_from_nothing : (rows : Table ValueEntry) → AllAbsent [] rows
absent_from_nothing [] = tt
absent_from_nothing (row ∷ rows) = (refl, absent_from_nothing rows)

module _ (test : Tree → Bool) where
  any_entry : (name : List ℕ) (x : ValueEntry) (t : Table ValueEntry) → entry name t ≡ None
      → list_any test (value_bodies (with_entry name x t)) ≡ (test x.scheme.body || list_any test (value_bodies t))
  any_entry name x [] h = refl
  any_entry name x (row ∷ rows) h = by_test (by_bytes name row.0) refl
      (any_entry name x rows (none_after (eq_by_cmp by_bytes name row.0) row.1 (entry name rows) h))
    where
      by_test : (o : Ordering) → by_bytes name row.0 ≡ o
          → list_any test (value_bodies (with_entry name x rows))
          ≡ (test x.scheme.body || list_any test (value_bodies rows))
          → list_any test (value_bodies (by_order o ((name, x) ∷ row ∷ rows) ((row.0, x) ∷ rows)
          (row ∷ with_entry name x rows)))
          ≡ (test x.scheme.body || (test row.1.scheme.body || list_any test (value_bodies rows)))
      by_test ordering.Less e k = refl
      by_test ordering.Equal e k = absurd (none_twice (eq_by_cmp by_bytes name row.0) row.1 (entry name rows)
          (ap is_eq e) h)
      by_test ordering.Greater e k = ap (λ b. test row.1.scheme.body || b) k
          ∙ swapped (test row.1.scheme.body) (test x.scheme.body) (list_any test (value_bodies rows))

  any_all : (rows t : Table ValueEntry) → are_distinct rows ≡ true → AllAbsent t rows
      → list_any test (value_bodies (with_all rows t))
      ≡ (list_any test (value_bodies rows) || list_any test (value_bodies t))
  any_all [] t d h = refl
  any_all (row ∷ rows) t d h =
      let apart : is_named row.0 rows ≡ false = not_true (is_named row.0 rows)
      (and_left (not (is_named row.0 rows)) (are_distinct rows) d) in
      any_all rows (with_entry row.0 row.1 t) (and_right (not (is_named row.0 rows)) (are_distinct rows) d)
      (absent_with row.0 row.1 t rows apart h.1)
      ∙ ap (λ b. list_any test (value_bodies rows) || b) (any_entry row.0 row.1 t h.0)
      ∙ turned (list_any test (value_bodies rows)) (test row.1.scheme.body) (list_any test (value_bodies t))

  any_rows : (rows : Table ValueEntry) → are_distinct rows ≡ true
      → list_any test (bodies (env_of_values rows)) ≡ list_any test (value_bodies rows)
  any_rows rows d = any_all rows [] d (absent_from_nothing rows) ∙ or_nothing (list_any test (value_bodies rows))

  any_closed : (kept : ℕ → Bool) (s : State) (xs : List Closing)
      → list_any test (value_bodies (closed_rows kept s xs))
      ≡ list_any (λ (x : Closing). test (closed_where x.0 kept s x.1.1).body) xs
  any_closed kept s [] = refl
  any_closed kept s (x ∷ xs) =
      ap (λ b. test (closed_where x.0 kept s x.1.1).body || b) (any_closed kept s xs)

-- ---- names

abbrev rows_in : List Closing → Bound
rows_in xs = map (λ (x : Closing). x.1) xs

named_closed : (kept : ℕ → Bool) (s : State) (name : List ℕ) (xs : List Closing)
    → is_named name (closed_rows kept s xs) ≡ is_named name (rows_in xs)
named_closed kept s name [] = refl
named_closed kept s name (x ∷ xs) = by_test (same_text name x.1.0) (named_closed kept s name xs)
  where
    by_test : (c : Bool) → is_named name (closed_rows kept s xs) ≡ is_named name (rows_in xs)
        → is_some (cond c (Some (closed_entry kept s x)) (named name (closed_rows kept s xs)))
        ≡ is_some (cond c (Some x.1.1) (named name (rows_in xs)))
    by_test true h = refl
    by_test false h = h

distinct_closed : (kept : ℕ → Bool) (s : State) (xs : List Closing)
    → are_distinct (closed_rows kept s xs) ≡ are_distinct (rows_in xs)
distinct_closed kept s [] = refl
distinct_closed kept s (x ∷ xs) =
    ap₂ (λ a b. not a && b) (named_closed kept s x.1.0 xs) (distinct_closed kept s xs)

names_of_all : (closes : Bool) (rows : Bound) (xs : List Closing)
    → rows_in (all_closing closes rows ++ xs) ≡ rows ++ rows_in xs
names_of_all closes [] xs = refl
names_of_all closes (row ∷ rows) xs = ap (λ (z : Bound). row ∷ z) (names_of_all closes rows xs)

bound_is : (groups : List Group) → rows_in (variables_of groups) ≡ groups_bound groups
bound_is [] = refl
bound_is (group ∷ groups) = names_of_all group.0 group.1 (variables_of groups)
    ∙ ap (λ (z : Bound). group.1 ++ z) (bound_is groups)

-- any of the trees in what a `val` makes, where its names differ
any_made : (test : Tree → Bool) (kept : ℕ → Bool) (s : State) (groups : List Group)
    → are_distinct (groups_bound groups) ≡ true
    → list_any test (bodies (env_of_values (closed_rows kept s (variables_of groups))))
    ≡ list_any (λ (x : Closing). test (closed_where x.0 kept s x.1.1).body) (variables_of groups)
any_made test kept s groups d =
    any_rows test (closed_rows kept s (variables_of groups)) (distinct_closed kept s (variables_of groups)
    ∙ ap are_distinct (bound_is groups) ∙ d)
    ∙ any_closed test kept s (variables_of groups)

-- ---- closed types as they are known

-- what is seen for the variables of a closed type
abbrev shown : List ℕ → Substitution → Substitution
shown vs s = filler vs (λ i. unit_ty) s

seen_closed : (vs : List ℕ) (s : Substitution) (t : Ty) → seen s (closed_over vs t) ≡ put (shown vs s) t
seen_closed vs s t = fill_closed (λ i. unit_ty) s vs t

-- a type of which nothing is closed
seen_open : (s : State) (ty : Ty) → IsSettled s → seen s.stands (closed_over [] (put s.stands ty)) ≡ put s.stands ty
seen_open s ty h = seen_closed [] s.stands (put s.stands ty)
    ∙ put_same (shown [] s.stands) s.stands (put s.stands ty) (λ n. refl)
    ∙ put_solved s s ty h.solves

-- a variable of a closed type, as it is seen, is one that is kept
abbrev IsKeptOne : (ℕ → Bool) → ℕ → Type 0
IsKeptOne kept v = kept v ≡ true

shown_kept : (kept : ℕ → Bool) (s : State) (ty : Ty) → IsSettled s → (n : ℕ) → occurs n (put s.stands ty) ≡ true
    → (c : Bool) → is_among n (found_in kept (put s.stands ty) []) ≡ c
    → IsWithin (IsKeptOne kept) (cond c unit_ty (s.stands n))
shown_kept kept s ty h n e true a v i = absurd (cc)
shown_kept kept s ty h n e false a v i =
    let alone : s.stands n ≡ Ty.Var n = known_itself s n ty h e in
    let one : v ≡ n = eqb-true v n (ap (occurs v) (sym alone) ∙ i) in
    let staying : kept n ≡ true = either_way (kept n) (λ k. k)
    (λ k. absurd (not_both (is_among n (found_in kept (put s.stands ty) [])) a
    (found_all kept n (put s.stands ty) [] e k))) in
    ap kept one ∙ staying

closed_hides : (kept : ℕ → Bool) (s : State) (ty : Ty) → IsSettled s
    → IsWithin (IsKeptOne kept) (seen s.stands (closed_over (found_in kept (put s.stands ty) []) (put s.stands ty)))
closed_hides kept s ty h =
    let vs : List ℕ = found_in kept (put s.stands ty) [] in
    subst (IsWithin (IsKeptOne kept)) (sym (seen_closed vs s.stands (put s.stands ty)))
    (within_put (IsKeptOne kept) (shown vs s.stands) (put s.stands ty)
    (λ n e. shown_kept kept s ty h n e (is_among n vs) refl))

-- ---- what stays open

false_of : (a : Bool) → (a ≡ true → ⊥) → a ≡ false
false_of true h = absurd (h refl)
false_of false h = refl

seen_in : (closes : Bool) (kept : ℕ → Bool) (s : State) (ty : Ty) (v : ℕ) → IsSettled s → kept v ≡ false
    → occurs v (seen s.stands (closed_where closes kept s ty).body) ≡ (not closes && occurs v (put s.stands ty))
seen_in true kept s ty v h k =
    false_of (occurs v (seen s.stands (closed_over (found_in kept (put s.stands ty) []) (put s.stands ty))))
    (λ e. not_both (kept v) k (closed_hides kept s ty h v e))
seen_in false kept s ty v h k = ap (occurs v) (seen_open s ty h)

any_same : {A : Type 0} (first second : A → Bool) (xs : List A) → ((x : A) → first x ≡ second x)
    → list_any first xs ≡ list_any second xs
any_same first second [] h = refl
any_same first second (x ∷ xs) h = ap₂ (λ a b. a || b) (h x) (any_same first second xs h)

kept_or : (kept first second : Bool) → (kept ≡ false → first ≡ second) → (kept || first) ≡ (kept || second)
kept_or true first second h = refl
kept_or false first second h = h refl

pub open_is : (kept : ℕ → Bool) (s : State) (groups : List Group) (v : ℕ) → IsSettled s
    → are_distinct (groups_bound groups) ≡ true
    → (kept v || free_in_env v s.stands (env_of_values (closed_rows kept s (variables_of groups))))
    ≡ stays_open kept s (variables_of groups) v
open_is kept s groups v h d =
    let xs : List Closing = variables_of groups in
    kept_or (kept v) (free_in_env v s.stands (env_of_values (closed_rows kept s xs)))
    (list_any (λ (x : Closing). not x.0 && occurs v (put s.stands x.1.1)) xs) (λ k.
    any_made (λ tree. occurs v (seen s.stands tree)) kept s groups d
    ∙ any_same (λ (x : Closing). occurs v (seen s.stands (closed_where x.0 kept s x.1.1).body))
    (λ (x : Closing). not x.0 && occurs v (put s.stands x.1.1)) xs (λ x. seen_in x.0 kept s x.1.1 v h k))

left_is : (kept left : ℕ → Bool) (s : State) (made : Env) (own : List (List ℕ × ℕ))
    → ((v : ℕ) → (kept v || free_in_env v s.stands made) ≡ left v)
    → left_over kept s made own ≡ first_left left own
left_is kept left s made [] h = refl
left_is kept left s made (row ∷ rows) h =
    ap₂ (λ (b : Bool) (o : Option (List ℕ)). cond b (Some row.0) o) (h row.1) (left_is kept left s made rows h)

-- ---- sizes

-- a substitution that puts a type of one node for each variable of a type
walk_size : (f : Substitution) → (t : Ty) → ((n : ℕ) → occurs n t ≡ true → size (f n) ≡ 1) → size (put f t) ≡ size t
walk_size f = walk (λ n. size (f n) ≡ 1) (λ t. size (put f t) ≡ size t) (λ ts. size_all (put_all f ts) ≡ size_all ts)
    (record {
      variable = λ n e. e;
      made = λ c ts e. ap (λ n. n + 1) e;
      none = refl;
      more = λ t ts e k. ap₂ (λ a b. a + b) e k;
    })

shown_one : (vs : List ℕ) (s : State) (ty : Ty) → IsSettled s → (n : ℕ) → occurs n (put s.stands ty) ≡ true
    → (c : Bool) → size (cond c unit_ty (s.stands n)) ≡ 1
shown_one vs s ty h n e true = refl
shown_one vs s ty h n e false = ap size (known_itself s n ty h e)

seen_size : (vs : List ℕ) (s : State) (ty : Ty) → IsSettled s
    → size (seen s.stands (closed_over vs (put s.stands ty))) ≡ size (put s.stands ty)
seen_size vs s ty h = ap size (seen_closed vs s.stands (put s.stands ty))
    ∙ walk_size (shown vs s.stands) (put s.stands ty) (λ n e. shown_one vs s ty h n e (is_among n vs))

large_in : (closes : Bool) (kept : ℕ → Bool) (s : State) (ty : Ty) → IsSettled s
    → is_too_large (seen s.stands (closed_where closes kept s ty).body) ≡ is_too_large (put s.stands ty)
large_in true kept s ty h = ap (ltb 65536) (seen_size (found_in kept (put s.stands ty) []) s ty h)
large_in false kept s ty h = ap (ltb 65536) (seen_size [] s ty h)

large_is : (kept : ℕ → Bool) (s : State) (groups : List Group) → IsSettled s
    → are_distinct (groups_bound groups) ≡ true
    → has_too_large s.stands (env_of_values (closed_rows kept s (variables_of groups)))
    ≡ any_too_large s (variables_of groups)
large_is kept s groups h d =
    any_made (λ tree. is_too_large (seen s.stands tree)) kept s groups d
    ∙ any_same (λ (x : Closing). is_too_large (seen s.stands (closed_where x.0 kept s x.1.1).body))
    (λ (x : Closing). is_too_large (put s.stands x.1.1)) (variables_of groups) (λ x. large_in x.0 kept s x.1.1 h)

-- ---- the end of a `val`

checked : (sc : Scope) (at : At) (r : Env × Progress) (o : Option (List ℕ)) (b : Bool)
    → has_too_large r.1.types.stands r.0 ≡ b
    → (none_left sc at r o >>= λ q. sized_dec sc at q)
    ≡ (none_left sc at (tt {0}) o >>= λ u. refuses_where b 38 sc at >>= λ v. gives r)
checked sc at r None b h = ap (λ c. refuses_where c 38 sc at >>= λ v. gives r) h
checked sc at r (Some text) b h = refl

pub ended : (sc : Scope) (at : At) (kept : ℕ → Bool) (own : List (List ℕ × ℕ)) (groups : List Group) (st : Progress)
    → IsSettled st.types → are_distinct (groups_bound groups) ≡ true
    → val_end sc at kept own groups st
    ≡ ended_val sc at kept own (variables_of groups) st
ended sc at kept own groups st h d =
    let xs : List Closing = variables_of groups in
    let made : Env = env_of_values (closed_rows kept st.types xs) in
    ap (λ (env : Env). none_left sc at (env, st) (left_over kept st.types env own) >>= λ r. sized_dec sc at r)
    (val_made kept st.types groups)
    ∙ ap (λ (o : Option (List ℕ)). none_left sc at (made, st) o >>= λ r. sized_dec sc at r)
    (left_is kept (stays_open kept st.types xs) st.types made own (λ v. open_is kept st.types groups v h d))
    ∙ checked sc at (made, st) (first_left (stays_open kept st.types xs) own) (any_too_large st.types xs)
    (large_is kept st.types groups h d)
