-- Types and schemes of the canonical form.
use Rattle.std.proofs.Common.{◌≡◌, ℕ, ◌<◌, refl, sym, ap, ◌∙◌, subst, Bool, true, false, ◌||◌, List, [], map, length, suc}
use Rattle.std.specs.List.{range_with_len}
use Rattle.std.proofs.lemmas.Bool.{eq-eqb}
use Rattle.std.proofs.lemmas.List.{append-nil, length-map}
use Rattle.semantic_objects.specs.declared.name.TyName.{TyName}
use Rattle.semantic_objects.specs.declared.symbol.Symbol.{Symbol}
use Rattle.semantic_objects.specs.declared.symbol.Symbol.TheVariants as symbol
use Rattle.semantic_objects.specs.declared.entry.TypeFn.{TypeFn}
use Rattle.semantic_objects.specs.Trees.{Tree, Trees, TypeScheme, binds, binds_any}
use Rattle.unification.specs.Closing.{is_among, place_of, bound_in, bound_in_all, plug, plug_all}
use Rattle.unification.specs.Instances.{mark_of}
use Rattle.unification.proofs.Walking.{or_left, or_right, or_either}
use Rattle.unification.proofs.Canonical.{among_once, place_below}
use Rattle.realisation.specs.Names.{names_of_symbol, names_in, names_in_all}
use Rattle.realisation.specs.Canonical.{with_number, renamed_symbol, renamed, renamed_all, to_canonical}
use Rattle.realisation.proofs.Listing.{Named, named_left, named_right, named_first}
use Rattle.interface_format.specs.Rules.{IsNumber, IsTypeName, IsOver, count_trees, IsType, AreTypes, IsFunction, IsClosed}
use Rattle.canonical_interfaces.specs.Fair.{IsShapedOver, HasShape, HaveShapes, IsFairFunction, IsFairScheme}
use Rattle.canonical_interfaces.proofs.Places.{by_place, found_in_order}

-- a renaming that gives numbers alone
abbrev pub Keeps : (TyName → TyName) → Type 0
Keeps h = (n : TyName) → h n ≡ with_number (h n).number n

-- what becomes of the names of a type can be written
abbrev pub Fits : (TyName → TyName) → Tree → Type 0
Fits h t = Named (λ n. IsTypeName (h n)) (names_in t)

-- ---- names

count_renamed : (h : TyName → TyName) (ts : Trees) → count_trees (renamed_all h ts) ≡ count_trees ts
count_renamed h Trees.Nil = refl
count_renamed h (Trees.Cons t ts) = ap suc (count_renamed h ts)

symbol_written : (h : TyName → TyName) → Keeps h → (c : Symbol) (n : ℕ) → IsShapedOver c n
    → Named (λ m. IsTypeName (h m)) (names_of_symbol c) → IsOver (renamed_symbol h c) n
symbol_written h k symbol.Arrow n s f = record { symbol = tt; parts = s.parts }
symbol_written h k (symbol.Record labels) n s f = record { symbol = s.labels; parts = s.parts }
symbol_written h k (symbol.Name name) n s f = record {
  symbol = named_first (λ m. IsTypeName (h m)) name [] f;
  parts = s.parts ∙ sym (ap (λ (m : TyName). m.arity) (k name));
}

mutual
  type_written : (h : TyName → TyName) → Keeps h → (count : ℕ) (t : Tree) → HasShape count t → Fits h t
      → IsType count (renamed h t)
  type_written h k count (Tree.Bound i) s f = s
  type_written h k count (Tree.Free n) s f = absurd s
  type_written h k count (Tree.Made c ts) s f = (
    subst (IsOver (renamed_symbol h c)) (sym (count_renamed h ts))
        (symbol_written h k c (count_trees ts) s.0
        (named_left (λ m. IsTypeName (h m)) (names_of_symbol c) (names_in_all ts) f)),
    types_written h k count ts s.1 (named_right (λ m. IsTypeName (h m)) (names_of_symbol c) (names_in_all ts) f),
  )

  types_written : (h : TyName → TyName) → Keeps h → (count : ℕ) (ts : Trees) → HaveShapes count ts
      → Named (λ n. IsTypeName (h n)) (names_in_all ts) → AreTypes count (renamed_all h ts)
  types_written h k count Trees.Nil s f = tt
  types_written h k count (Trees.Cons t ts) s f = (
    type_written h k count t s.0 (named_left (λ m. IsTypeName (h m)) (names_in t) (names_in_all ts) f),
    types_written h k count ts s.1 (named_right (λ m. IsTypeName (h m)) (names_in t) (names_in_all ts) f),
  )

mutual
  renamed_found : (h : TyName → TyName) (t : Tree) (vs : List ℕ) → bound_in (renamed h t) vs ≡ bound_in t vs
  renamed_found h (Tree.Bound i) vs = refl
  renamed_found h (Tree.Free n) vs = refl
  renamed_found h (Tree.Made c ts) vs = renamed_all_found h ts vs

  renamed_all_found : (h : TyName → TyName) (ts : Trees) (vs : List ℕ)
      → bound_in_all (renamed_all h ts) vs ≡ bound_in_all ts vs
  renamed_all_found h Trees.Nil vs = refl
  renamed_all_found h (Trees.Cons t ts) vs =
      renamed_all_found h ts (bound_in (renamed h t) vs) ∙ ap (bound_in_all ts) (renamed_found h t vs)

-- ---- variables

abbrev by_number : (ℕ → ℕ) → ℕ → Tree
by_number f i = Tree.Bound (f i)

count_plugged : (f : ℕ → ℕ) (ts : Trees) → count_trees (plug_all (by_number f) ts) ≡ count_trees ts
count_plugged f Trees.Nil = refl
count_plugged f (Trees.Cons t ts) = ap suc (count_plugged f ts)

mutual
  type_plugged : (f : ℕ → ℕ) (m n : ℕ) (t : Tree) → IsType n t → ((i : ℕ) → binds i t ≡ true → f i < m)
      → IsType m (plug (by_number f) t)
  type_plugged f m n (Tree.Bound i) h b = b i (eq-eqb i i refl)
  type_plugged f m n (Tree.Free v) h b = absurd h
  type_plugged f m n (Tree.Made c ts) h b =
      (subst (IsOver c) (sym (count_plugged f ts)) h.0, types_plugged f m n ts h.1 b)

  types_plugged : (f : ℕ → ℕ) (m n : ℕ) (ts : Trees) → AreTypes n ts
      → ((i : ℕ) → binds_any i ts ≡ true → f i < m) → AreTypes m (plug_all (by_number f) ts)
  types_plugged f m n Trees.Nil h b = tt
  types_plugged f m n (Trees.Cons t ts) h b = (
    type_plugged f m n t h.0 (λ i e. b i (or_left (binds i t) (binds_any i ts) e)),
    types_plugged f m n ts h.1 (λ i e. b i (or_right (binds i t) (binds_any i ts) e)),
  )

-- a variable that was found before, or stands in the tree, is found
mutual
  among_found : (i : ℕ) (t : Tree) (vs : List ℕ) → (is_among i vs || binds i t) ≡ true
      → is_among i (bound_in t vs) ≡ true
  among_found i (Tree.Bound j) vs h = among_once i j vs (is_among j vs) refl h
  among_found i (Tree.Free n) vs h = or_either (is_among i vs) false h (λ e. e) (λ e. absurd (cc))
  among_found i (Tree.Made c ts) vs h = all_among_found i ts vs h

  all_among_found : (i : ℕ) (ts : Trees) (vs : List ℕ) → (is_among i vs || binds_any i ts) ≡ true
      → is_among i (bound_in_all ts vs) ≡ true
  all_among_found i Trees.Nil vs h = or_either (is_among i vs) false h (λ e. e) (λ e. absurd (cc))
  all_among_found i (Trees.Cons t ts) vs h = all_among_found i ts (bound_in t vs)
      (or_either (is_among i vs) (binds i t || binds_any i ts) h
      (λ e. or_left (is_among i (bound_in t vs)) (binds_any i ts)
      (among_found i t vs (or_left (is_among i vs) (binds i t) e)))
      (λ e. or_either (binds i t) (binds_any i ts) e
      (λ l. or_left (is_among i (bound_in t vs)) (binds_any i ts)
      (among_found i t vs (or_right (is_among i vs) (binds i t) l)))
      (λ l. or_right (is_among i (bound_in t vs)) (binds_any i ts) l)))

-- ---- entries

abbrev scheme_of : List Bool → Tree → TypeScheme
scheme_of marks body = record { marks = marks; body = body }

pub scheme_written : (h : TyName → TyName) → Keeps h → (σ : TypeScheme) → IsFairScheme σ → Fits h σ.body
    → IsClosed ((to_canonical h).scheme σ)
scheme_written h k σ s f =
    let body : Tree = renamed h σ.body in
    let vs : List ℕ = bound_in body [] in
    let many : length (map (mark_of σ.marks) vs) ≡ length vs = length-map vs (mark_of σ.marks) in
    let whole : IsType (length vs) (plug (by_place vs) body) =
    type_plugged (λ i. place_of i vs) (length vs) (length σ.marks) body
    (type_written h k (length σ.marks) σ.body s.body f)
    (λ i e. place_below i vs (among_found i body [] e)) in
    record {
      count = subst IsNumber (ap length (sym (renamed_found h σ.body [])) ∙ sym many) s.count;
      body = subst (λ n. IsType n (plug (by_place vs) body)) (sym many) whole;
      ordered = found_in_order body [] [] vs (sym (append-nil vs)) ∙ ap (range_with_len 0) (sym many);
    }

pub function_written : (h : TyName → TyName) → Keeps h → (x : TypeFn) → IsFairFunction x → Fits h x.body
    → IsFunction ((to_canonical h).function x)
function_written h k x s f = record {
  arity = s.arity;
  body = type_written h k x.arity x.body s.body f;
}
