-- What types and trees are made of, when types are put in, filled in and closed over.
use Rattle.std.proofs.Common.{◌≡◌, ℕ, suc, ◌<◌, List, [], ◌∷◌, length, map, refl, sym, ap, subst, arith, Bool, true, false, cond}
use Rattle.std.specs.Ordering.{is_lt}
use Rattle.std.specs.FinMap.Entries.{by_order}
use Rattle.std.specs.declared.cmp.Ordering.{Ordering}
use Rattle.std.specs.declared.cmp.Ordering.TheVariants as ordering
use Rattle.std.proofs.lemmas.Bool.{eqb-true}
use Rattle.std.proofs.lemmas.List.{length-map}
use Rattle.semantic_objects.specs.declared.symbol.Symbol.{Symbol}
use Rattle.semantic_objects.specs.declared.symbol.Symbol.TheVariants as symbol
use Rattle.semantic_objects.specs.Symbols.{AreRising}
use Rattle.semantic_objects.specs.Tables.{Table, IsTable, by_bytes, names_of, with_entry}
use Rattle.semantic_objects.specs.Trees.{Tree, Trees, BindsBelow, binds, binds_any}
use Rattle.semantic_objects.proofs.Promised.{sets_entries}
use Rattle.unification.specs.Types.{Ty, Types, Substitution, Marks, put, put_all}
use Rattle.unification.specs.Instances.{fill, fill_all}
use Rattle.unification.specs.Closing.{is_among, place_of, closed_over, closed_over_all, scheme_over}
use Rattle.unification.proofs.Walking.{or_either, and_left, and_right}
use Rattle.unification.proofs.Canonical.{place_below}
use Rattle.static_semantics.specs.BasicTypes.{arrow_ty, types_of, record_ty}
use Rattle.static_semantics.specs.Holding.{AllItems, AllRows}
use Rattle.static_semantics.proofs.Holding.{rows_with}
use Rattle.inference_laws.specs.Nodes.{Nodes, count_types, count_trees, TyOf, TysOf, TreeOf, TreesOf, SchemeOf, IsGood, Admits}

-- ---- types that are put in

pub ty_where : (q : Nodes) (c : Bool) (t u : Ty) → TyOf q t → TyOf q u → TyOf q (cond c t u)
ty_where q true t u h k = h
ty_where q false t u h k = k

count_put : (s : Substitution) (ts : Types) → count_types (put_all s ts) ≡ count_types ts
count_put s Types.Nil = refl
count_put s (Types.Cons t ts) = ap suc (count_put s ts)

mutual
  pub ty_put : (q : Nodes) (s : Substitution) (t : Ty) → ((n : ℕ) → TyOf q (s n)) → TyOf q t → TyOf q (put s t)
  ty_put q s (Ty.Var n) h k = h n
  ty_put q s (Ty.Made c ts) h k =
      (subst (λ z. q c z ≡ true) (sym (count_put s ts)) k.0, tys_put q s ts h k.1)

  tys_put : (q : Nodes) (s : Substitution) (ts : Types) → ((n : ℕ) → TyOf q (s n)) → TysOf q ts → TysOf q (put_all s ts)
  tys_put q s Types.Nil h k = tt
  tys_put q s (Types.Cons t ts) h k = (ty_put q s t h k.0, tys_put q s ts h k.1)

-- ---- trees that are filled in

count_filled : (b f : Substitution) (xs : Trees) → count_types (fill_all b f xs) ≡ count_trees xs
count_filled b f Trees.Nil = refl
count_filled b f (Trees.Cons x xs) = ap suc (count_filled b f xs)

mutual
  pub ty_filled : (q : Nodes) (b f : Substitution) (x : Tree) → ((i : ℕ) → TyOf q (b i)) → ((n : ℕ) → TyOf q (f n))
      → TreeOf q x → TyOf q (fill b f x)
  ty_filled q b f (Tree.Bound i) h k l = h i
  ty_filled q b f (Tree.Free n) h k l = k n
  ty_filled q b f (Tree.Made c xs) h k l =
      (subst (λ z. q c z ≡ true) (sym (count_filled b f xs)) l.0, tys_filled q b f xs h k l.1)

  tys_filled : (q : Nodes) (b f : Substitution) (xs : Trees) → ((i : ℕ) → TyOf q (b i)) → ((n : ℕ) → TyOf q (f n))
      → TreesOf q xs → TysOf q (fill_all b f xs)
  tys_filled q b f Trees.Nil h k l = tt
  tys_filled q b f (Trees.Cons x xs) h k l = (ty_filled q b f x h k l.0, tys_filled q b f xs h k l.1)

-- ---- types that are closed over

count_closed : (vs : List ℕ) (ts : Types) → count_trees (closed_over_all vs ts) ≡ count_types ts
count_closed vs Types.Nil = refl
count_closed vs (Types.Cons t ts) = ap suc (count_closed vs ts)

variable_closed : (q : Nodes) (c : Bool) (i n : ℕ) → TreeOf q (cond c (Tree.Bound i) (Tree.Free n))
variable_closed q true i n = tt
variable_closed q false i n = tt

mutual
  pub tree_closed : (q : Nodes) (vs : List ℕ) (t : Ty) → TyOf q t → TreeOf q (closed_over vs t)
  tree_closed q vs (Ty.Var n) h = variable_closed q (is_among n vs) (place_of n vs) n
  tree_closed q vs (Ty.Made c ts) h =
      (subst (λ z. q c z ≡ true) (sym (count_closed vs ts)) h.0, trees_closed q vs ts h.1)

  trees_closed : (q : Nodes) (vs : List ℕ) (ts : Types) → TysOf q ts → TreesOf q (closed_over_all vs ts)
  trees_closed q vs Types.Nil h = tt
  trees_closed q vs (Types.Cons t ts) h = (tree_closed q vs t h.0, trees_closed q vs ts h.1)

-- a closed type binds places of the list alone
variable_bound : (vs : List ℕ) (n : ℕ) (c : Bool) → is_among n vs ≡ c → (i : ℕ)
    → binds i (cond c (Tree.Bound (place_of n vs)) (Tree.Free n)) ≡ true → i < length vs
variable_bound vs n true e i h = subst (λ z. z < length vs) (sym (eqb-true i (place_of n vs) h)) (place_below n vs e)
variable_bound vs n false e i h = absurd (cc)

mutual
  pub closed_binds : (vs : List ℕ) (t : Ty) → BindsBelow (length vs) (closed_over vs t)
  closed_binds vs (Ty.Var n) i h = variable_bound vs n (is_among n vs) refl i h
  closed_binds vs (Ty.Made c ts) i h = closed_binds_all vs ts i h

  closed_binds_all : (vs : List ℕ) (ts : Types) (i : ℕ) → binds_any i (closed_over_all vs ts) ≡ true → i < length vs
  closed_binds_all vs Types.Nil i h = absurd (cc)
  closed_binds_all vs (Types.Cons t ts) i h =
      or_either (binds i (closed_over vs t)) (binds_any i (closed_over_all vs ts)) h
      (closed_binds vs t i) (closed_binds_all vs ts i)

pub scheme_closed : (q : Nodes) (vs : List ℕ) (marks : Marks) (t : Ty) → TyOf q t → SchemeOf q (scheme_over vs marks t)
scheme_closed q vs marks t h = record {
  closed = λ i k. (let l : i < length vs = closed_binds vs t i k in
      let m : length (map marks vs) ≡ length vs = length-map vs marks in omega (arith, l, m));
  body = tree_closed q vs t h;
}

-- ---- types made of types

pub tys_of : (q : Nodes) (ts : List Ty) → AllItems (TyOf q) ts → TysOf q (types_of ts)
tys_of q [] h = tt
tys_of q (t ∷ ts) h = (h.0, tys_of q ts h.1)

pub count_of : (ts : List Ty) → count_types (types_of ts) ≡ length ts
count_of [] = refl
count_of (t ∷ ts) = ap suc (count_of ts)

pub ty_made : (q : Nodes) (c : Symbol) (ts : List Ty) → q c (length ts) ≡ true → AllItems (TyOf q) ts
    → TyOf q (Ty.Made c (types_of ts))
ty_made q c ts h k = (subst (λ z. q c z ≡ true) (sym (count_of ts)) h, tys_of q ts k)

pub ty_arrow : (good : List ℕ → Bool) (q : Nodes) (a b : Ty) → Admits good q → TyOf q a → TyOf q b
    → TyOf q (arrow_ty a b)
ty_arrow good q a b h k l = (h.arrow, (k, (l, tt)))

-- ---- fields of records

pub record FieldsOf (good : List ℕ → Bool) (q : Nodes) (made : Table Ty) : Type 0 where
  pub table : IsTable made
  pub labels : AllItems (IsGood good) (names_of made)
  pub types : AllRows (TyOf q) made

pub no_fields : (good : List ℕ → Bool) (q : Nodes) → FieldsOf good q []
no_fields good q = record { table = refl; labels = tt; types = tt }

names_ordered : {A : Type 0} (R : List ℕ → Type 0) (o : Ordering) (a b c : Table A) → AllItems R (names_of a)
    → AllItems R (names_of b) → AllItems R (names_of c) → AllItems R (names_of (by_order o a b c))
names_ordered R ordering.Less a b c h k l = h
names_ordered R ordering.Equal a b c h k l = k
names_ordered R ordering.Greater a b c h k l = l

pub names_with : {A : Type 0} (R : List ℕ → Type 0) (name : List ℕ) (x : A) (rows : Table A) → R name
    → AllItems R (names_of rows) → AllItems R (names_of (with_entry name x rows))
names_with R name x [] h k = (h, tt)
names_with R name x (row ∷ rows) h k =
    names_ordered R (by_bytes name row.0) ((name, x) ∷ row ∷ rows) ((row.0, x) ∷ rows) (row ∷ with_entry name x rows)
    (h, k) k (k.0, names_with R name x rows h k.1)

pub field_more : (good : List ℕ → Bool) (q : Nodes) (label : List ℕ) (t : Ty) (made : Table Ty) → IsGood good label
    → TyOf q t → FieldsOf good q made → FieldsOf good q (with_entry label t made)
field_more good q label t made h k l = record {
  table = (sets_entries Ty).kept label t made l.table;
  labels = names_with (IsGood good) label t made h l.labels;
  types = rows_with (TyOf q) label t made k l.types;
}

is_less : (o : Ordering) → is_lt o ≡ true → o ≡ ordering.Less
is_less ordering.Less h = refl
is_less ordering.Equal h = absurd (cc)
is_less ordering.Greater h = absurd (cc)

rising : {A : Type 0} (rows : Table A) → IsTable rows → AreRising (names_of rows)
rising [] h = tt
rising (row ∷ []) h = tt
rising (row ∷ next ∷ rows) h = (
  is_less (by_bytes row.0 next.0) (and_left _ _ (and_left _ _ h)),
  rising (next ∷ rows) (and_right _ _ h),
)

items_of_rows : {A : Type 0} (R : A → Type 0) (rows : Table A) → AllRows R rows
    → AllItems R (map (λ row. row.1) rows)
items_of_rows R [] h = tt
items_of_rows R (row ∷ rows) h = (h.0, items_of_rows R rows h.1)

as_many : {A : Type 0} (rows : Table A) → length (names_of rows) ≡ length (map (λ row. row.1) rows)
as_many [] = refl
as_many (row ∷ rows) = ap suc (as_many rows)

pub ty_record : (good : List ℕ → Bool) (q : Nodes) (made : Table Ty) → Admits good q → FieldsOf good q made
    → TyOf q (record_ty made)
ty_record good q made h k = ty_made q (symbol.Record (names_of made)) (map (λ row. row.1) made)
    (subst (λ z. q (symbol.Record (names_of made)) z ≡ true) (as_many made)
    (h.records (names_of made) (rising made k.table) k.labels))
    (items_of_rows (TyOf q) made k.types)
