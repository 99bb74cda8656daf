-- Constructors by name, and their schemes as the definition makes them.
use Rattle.std.proofs.Common.{◌≡◌, ℕ, ◌+◌, ◌<◌, ◌≤◌, List, [], ◌∷◌, ◌++◌, length, map, get_or, take, drop, refl, sym, ap, ap₂, ◌∙◌, subst, Option, Some, None, Bool, true, false, cond, arith, zero, suc, slice_get}
use Rattle.std.proofs.lemmas.List.{map_more, append_assoc}
use Rattle.semantic_objects.specs.declared.entry.ConEntry.{ConEntry}
use Rattle.semantic_objects.specs.declared.symbol.Symbol.TheVariants as symbol
use Rattle.semantic_objects.specs.Tables.{Table as Named, with_entry, names_of}
use Rattle.semantic_objects.specs.Trees.{Tree, Trees, TypeScheme}
use Rattle.unification.specs.Types.{Ty, Types}
use Rattle.unification.specs.Closing.{closed_over, closed_over_all, is_among, place_of}
use Rattle.type_nodes.specs.Tables.{Table, type_of}
use Rattle.sml_modules.specs.Items.{map_rows}
use Rattle.sml_modules.proofs.Setting.{with_map}
use Rattle.static_semantics.specs.BasicTypes.{is_equality_variable}
use Rattle.static_semantics.specs.TypeInference.{numbers}
use Rattle.static_semantics.specs.DatatypeInference.{counted, settled, settled_all, settled_symbol, con_ty, con_schemes, con_entries}
use Rattle.listed_types.specs.declared.listed.ListedType.{ListedType}
use Rattle.listed_types.specs.Mapped.{mapped, mapped_all}
use Rattle.type_phrases.proofs.PartsRead.{drop_item}
use Rattle.datatype_elab.specs.declared.cons.ConRead.{ConRead}
use Rattle.datatype_elab.specs.declared.cons.Variables.{Variables}
use Rattle.datatype_elab.specs.Reading.{con_of, argument_ty, IsArgument, AreCons}
use Rattle.datatype_elab.specs.Making.{con_tree, con_scheme, ArgBinds, AreBound, places_from, scheme_of, scheme_in, entry_at, entries_of}

-- ---- places

pub places_more : (cons : List ConRead) (at k : ℕ) (con : ConRead) (name : List ℕ) (rows new : Named ℕ) → at ≡ k + 1
    → k < length cons → con ≡ get_or cons k con → name ≡ con.name → rows ≡ places_from at (drop at cons)
    → new ≡ with_entry name k rows → new ≡ places_from k (drop k cons)
places_more cons at k con name rows new e within is n h f =
    let m : at ≡ suc k = omega (arith, e) in
    f ∙ ap₂ (λ z t. with_entry z k t) n (h ∙ ap₂ (λ a b. places_from a (drop b cons)) m e)
    ∙ ap (places_from k) (sym (drop_item cons k con within is))

pub places_begun : (cons : List ConRead) (at : ℕ) (rows : Named ℕ) → at ≡ length cons → rows ≡ []
    → rows ≡ places_from at (drop at cons)
places_begun cons at rows e f = f ∙ ap (places_from at) (sym (ap (λ n. drop n cons) e ∙ past cons))
  where
    past : (xs : List ConRead) → drop (length xs) xs ≡ []
    past [] = refl
    past (x ∷ xs) = past xs

pub places_ended : (cons : List ConRead) (at : ℕ) (rows : Named ℕ) → at ≤ 0 → rows ≡ places_from at (drop at cons)
    → rows ≡ places_from 0 cons
places_ended cons at rows h e = e ∙ ap (λ n. places_from n (drop n cons)) (let k : at ≡ 0 = omega (arith, h) in k)

-- ---- entries

pub got_some : (cons : List ConRead) (p : ℕ) (con : ConRead) → p < length cons → con ≡ get_or cons p con
    → Some con ≡ slice_get cons p
got_some [] p con h e = absurd (omega (arith, h))
got_some (c ∷ cons) zero con h e = ap Some e
got_some (c ∷ cons) (suc p) con h e = got_some cons p con (omega (arith, h)) e

pub bound_at : (k : ℕ) (cons : List ConRead) (p : ℕ) (con : ConRead) → AreBound k cons → Some con ≡ slice_get cons p
    → ArgBinds k con.arg
bound_at k [] p con h e = absurd (cc)
bound_at k (c ∷ cons) zero con h e = let f : con ≡ c = cc in subst (λ (z : ConRead). ArgBinds k z.arg) (sym f) h.0
bound_at k (c ∷ cons) (suc p) con h e = bound_at k cons p con h.1 e

row_at : (rows : Named ℕ) (at : ℕ) (name : List ℕ) (place : ℕ) → Some name ≡ slice_get (names_of rows) at
    → Some place ≡ slice_get (map (λ row. row.1) rows) at → (at < length rows) × ((name, place) ≡ get_or rows at (name, place))
row_at [] at name place e f = absurd (cc)
row_at (row ∷ rows) zero name place e f =
    let h : name ≡ row.0 = cc in
    let k : place ≡ row.1 = cc in
    (omega arith, ap₂ (λ a b. (a, b)) h k)
row_at (row ∷ rows) (suc at) name place e f =
    let h = row_at rows at name place e f in
    let l : at < length rows = h.0 in
    (omega (arith, l), h.1)

pub entries_more : (scheme : ℕ → TypeScheme) (rows : Named ℕ) (at : ℕ) (name : List ℕ) (place : ℕ)
    (names : List (List ℕ)) (places : List ℕ) (entries new : List ConEntry) (entry : ConEntry)
    → names ≡ names_of rows → places ≡ map (λ row. row.1) rows
    → Some name ≡ slice_get names at → Some place ≡ slice_get places at
    → entries ≡ map (entry_at scheme) (take at rows) → entry.name ≡ name → entry.scheme ≡ scheme place
    → new ≡ entries ++ entry ∷ [] → new ≡ map (entry_at scheme) (take (at + 1) rows)
entries_more scheme rows at name place names places entries new entry n p e f h i j k =
    let row = row_at rows at name place (e ∙ ap (λ xs. slice_get xs at) n) (f ∙ ap (λ xs. slice_get xs at) p) in
    let made : entry ≡ entry_at scheme (get_or rows at (name, place)) =
    ap₂ (λ a b. (let con : ConEntry = record { name = a; scheme = b } in con)) i j ∙ ap (entry_at scheme) row.1 in
    k ∙ ap₂ (λ es x. es ++ x ∷ []) h made
    ∙ sym (map_more (entry_at scheme) rows at (name, place) row.0)

-- ---- as the definition makes them

mutual
  tree_settled : (home : List ℕ) (first : ℕ) (choice : List Bool) (vs : List ℕ) (t : Ty)
      → mapped Tree.Free (settled_symbol home first choice) (closed_over vs t)
      ≡ closed_over vs (settled home first choice t)
  tree_settled home first choice vs (Ty.Var n) = by_test (is_among n vs)
    where
      by_test : (c : Bool)
          → mapped Tree.Free (settled_symbol home first choice) (cond c (Tree.Bound (place_of n vs)) (Tree.Free n))
          ≡ cond c (Tree.Bound (place_of n vs)) (Tree.Free n)
      by_test true = refl
      by_test false = refl
  tree_settled home first choice vs (Ty.Made c ts) =
      ap (Tree.Made (settled_symbol home first choice c)) (trees_settled home first choice vs ts)

  trees_settled : (home : List ℕ) (first : ℕ) (choice : List Bool) (vs : List ℕ) (ts : Types)
      → mapped_all Tree.Free (settled_symbol home first choice) (closed_over_all vs ts)
      ≡ closed_over_all vs (settled_all home first choice ts)
  trees_settled home first choice vs Types.Nil = refl
  trees_settled home first choice vs (Types.Cons t ts) =
      ap₂ Trees.Cons (tree_settled home first choice vs t) (trees_settled home first choice vs ts)

module _ (home : List ℕ) (first : ℕ) (choice : List Bool) (own : List (List ℕ × ℕ)) (of : Ty) (t : Table)
    (vs : Variables) (marks : List Bool) (tree : Tree)
    (numbered : numbers own ≡ counted vs.count vs.first)
    (marked : marks ≡ map (λ row. is_equality_variable row.0) own)
    (closed : tree ≡ closed_over (numbers own) of) where
  body_is : (arg : Option ListedType) → IsArgument t vs arg
      → con_tree home first choice tree arg ≡ closed_over (numbers own) (con_ty home first choice of (argument_ty t arg))
  body_is None h = closed
  body_is (Some a) h =
      ap₂ (λ x y. Tree.Made symbol.Arrow (Trees.Cons x (Trees.Cons y Trees.Nil)))
      (ap (mapped Tree.Free (settled_symbol home first choice))
      (h.1 ∙ ap (λ ns. closed_over ns (type_of t a.id)) (sym numbered))
      ∙ tree_settled home first choice (numbers own) (type_of t a.id))
      closed

  scheme_is : (con : ConRead) → IsArgument t vs con.arg
      → con_scheme home first choice marks tree con
      ≡ (let σ : TypeScheme = record {
        marks = map (λ row. is_equality_variable row.0) own;
        body = closed_over (numbers own) (con_ty home first choice of (argument_ty t con.arg));
      } in σ)
  scheme_is con h = ap₂ (λ ms b. (let σ : TypeScheme = record { marks = ms; body = b } in σ)) marked (body_is con.arg h)

  got_last : (front : List ConRead) (con : ConRead) (cons : List ConRead) (n : ℕ) → length front ≡ n
      → slice_get (front ++ con ∷ cons) n ≡ Some con
  got_last [] con cons zero e = refl
  got_last [] con cons (suc n) e = absurd (omega (arith, e))
  got_last (x ∷ front) con cons zero e = absurd (omega (arith, e))
  got_last (x ∷ front) con cons (suc n) e = got_last front con cons n (omega (arith, e))

  schemes_are : (all front cons : List ConRead) (n : ℕ) → all ≡ front ++ cons → length front ≡ n → AreCons t vs cons
      → map_rows (scheme_in home first choice marks tree all) (places_from n cons)
      ≡ con_schemes home first choice own of (map (con_of t) cons)
  schemes_are all front [] n e l h = refl
  schemes_are all front (con ∷ cons) n e l h =
      sym (with_map (scheme_in home first choice marks tree all) con.name n (places_from (suc n) cons))
      ∙ ap₂ (with_entry con.name)
      (ap (scheme_of home first choice marks tree) (ap (λ xs. slice_get xs n) e ∙ got_last front con cons n l)
      ∙ scheme_is con h.0)
      (schemes_are all (front ++ con ∷ []) cons (suc n) (e ∙ sym (append_assoc front (con ∷ []) cons))
      (more front n l) h.1)
    where
      more : (xs : List ConRead) (m : ℕ) → length xs ≡ m → length (xs ++ con ∷ []) ≡ suc m
      more [] m k = omega (arith, k)
      more (x ∷ xs) zero k = absurd (omega (arith, k))
      more (x ∷ xs) (suc m) k = let j : length (xs ++ con ∷ []) ≡ suc m = more xs m (omega (arith, k)) in omega (arith, j)

  entries_by : (scheme : ℕ → TypeScheme) (rows : Named ℕ) → map (entry_at scheme) rows ≡ con_entries (map_rows scheme rows)
  entries_by scheme [] = refl
  entries_by scheme (row ∷ rows) = ap (λ es. entry_at scheme row ∷ es) (entries_by scheme rows)

  pub entries_are : (cons : List ConRead) → AreCons t vs cons
      → entries_of home first choice marks tree cons
      ≡ con_entries (con_schemes home first choice own of (map (con_of t) cons))
  entries_are cons h =
      entries_by (scheme_in home first choice marks tree cons) (places_from 0 cons)
      ∙ ap con_entries (schemes_are cons [] cons 0 refl refl h)
