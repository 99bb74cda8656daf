-- An instance of a scheme, closed over all its variables, is the scheme in its one form.
use Rattle.std.proofs.Common.{◌≡◌, ℕ, zero, suc, ◌+◌, ◌<◌, ◌≤◌, refl, sym, ap, ap₂, ◌∙◌, List, [], ◌∷◌, ◌++◌, map, Bool, true, false, ◌||◌, cond, arith}
use Rattle.std.proofs.lemmas.Bool.{eq-eqb, ne_eqb}
use Rattle.std.proofs.lemmas.List.{map-append}
use Rattle.semantic_objects.specs.declared.name.TyId.{TyId}
use Rattle.semantic_objects.specs.Trees.{Tree, Trees, TypeScheme, binds, binds_any}
use Rattle.unification.specs.Types.{Ty, State, Substitution, put}
use Rattle.unification.specs.Instances.{fill, fill_all, mark_of, instance, with_variable, with_variables}
use Rattle.unification.specs.Closing.{is_among, place_of, found_in, found_in_all, closed_over, closed_over_all, bound_in, bound_in_all, plug, plug_all, scheme_over, canonical_scheme}
use Rattle.unification.specs.Fitting.{IsFit}
use Rattle.unification.proofs.Walking.{either_way, or_left, or_right, or_either, or_false_left, or_false_right}
use Rattle.unification.proofs.Canonical.{among_once}
use Rattle.env_parts.specs.Types.{holds_free, any_holds_free}
use Rattle.type_nodes.specs.Tables.{Table, type_of, state}
use Rattle.type_schemes.specs.Schemes.{closed_scheme}
use Rattle.variable_names.proofs.Naming.{eqb_shift}
use Rattle.structure_matching.proofs.Apart.{put_filled}

-- ---- variables under other numbers

among_shift : (n i : ℕ) (vs : List ℕ) → is_among (n + i) (map (λ j. n + j) vs) ≡ is_among i vs
among_shift n i [] = refl
among_shift n i (v ∷ vs) = ap₂ (λ a b. a || b) (eqb_shift n i v) (among_shift n i vs)

place_shift : (n i : ℕ) (vs : List ℕ) → place_of (n + i) (map (λ j. n + j) vs) ≡ place_of i vs
place_shift n i [] = refl
place_shift n i (v ∷ vs) = ap₂ (λ a b. cond a zero (suc b)) (eqb_shift n i v) (place_shift n i vs)

noticed_shift : (n i : ℕ) (vs : List ℕ) (b : Bool) → is_among i vs ≡ b
    → cond b (map (λ j. n + j) vs) (map (λ j. n + j) vs ++ (n + i) ∷ []) ≡ map (λ j. n + j) (cond b vs (vs ++ i ∷ []))
noticed_shift n i vs true e = refl
noticed_shift n i vs false e = sym (map-append (λ j. n + j) vs (i ∷ []))

abbrev shifted : ℕ → Substitution
shifted n i = Ty.Var (n + i)

-- ---- what is found

mutual
  found_shift : (n : ℕ) (x : Tree) (vs : List ℕ) → holds_free x ≡ false
      → found_in (λ v. false) (fill (shifted n) Ty.Var x) (map (λ j. n + j) vs) ≡ map (λ j. n + j) (bound_in x vs)
  found_shift n (Tree.Bound i) vs h =
      ap (λ b. cond b (map (λ j. n + j) vs) (map (λ j. n + j) vs ++ (n + i) ∷ [])) (among_shift n i vs)
      ∙ noticed_shift n i vs (is_among i vs) refl
  found_shift n (Tree.Free m) vs h = absurd (cc)
  found_shift n (Tree.Made c xs) vs h = found_shift_all n xs vs h

  found_shift_all : (n : ℕ) (xs : Trees) (vs : List ℕ) → any_holds_free xs ≡ false
      → found_in_all (λ v. false) (fill_all (shifted n) Ty.Var xs) (map (λ j. n + j) vs)
      ≡ map (λ j. n + j) (bound_in_all xs vs)
  found_shift_all n Trees.Nil vs h = refl
  found_shift_all n (Trees.Cons x xs) vs h =
      ap (found_in_all (λ v. false) (fill_all (shifted n) Ty.Var xs))
      (found_shift n x vs (or_false_left (holds_free x) (any_holds_free xs) h))
      ∙ found_shift_all n xs (bound_in x vs) (or_false_right (holds_free x) (any_holds_free xs) h)

mutual
  all_bound : (i : ℕ) (x : Tree) (vs : List ℕ) → (is_among i vs || binds i x) ≡ true → is_among i (bound_in x vs) ≡ true
  all_bound i (Tree.Bound j) vs h = among_once i j vs (is_among j vs) refl h
  all_bound i (Tree.Free m) vs h = or_either (is_among i vs) false h (λ e. e) (λ e. absurd (cc))
  all_bound i (Tree.Made c xs) vs h = all_bound_in i xs vs h

  all_bound_in : (i : ℕ) (xs : Trees) (vs : List ℕ) → (is_among i vs || binds_any i xs) ≡ true
      → is_among i (bound_in_all xs vs) ≡ true
  all_bound_in i Trees.Nil vs h = or_either (is_among i vs) false h (λ e. e) (λ e. absurd (cc))
  all_bound_in i (Trees.Cons x xs) vs h = all_bound_in i xs (bound_in x vs)
      (or_either (is_among i vs) (binds i x || binds_any i xs) h
      (λ e. or_left (is_among i (bound_in x vs)) (binds_any i xs) (all_bound i x vs (or_left (is_among i vs) (binds i x) e)))
      (λ e. or_either (binds i x) (binds_any i xs) e
      (λ l. or_left (is_among i (bound_in x vs)) (binds_any i xs) (all_bound i x vs (or_right (is_among i vs) (binds i x) l)))
      (λ l. or_right (is_among i (bound_in x vs)) (binds_any i xs) l)))

-- ---- closing

mutual
  closed_shift : (n : ℕ) (vs : List ℕ) (x : Tree) → holds_free x ≡ false
      → ((i : ℕ) → binds i x ≡ true → is_among i vs ≡ true)
      → closed_over (map (λ j. n + j) vs) (fill (shifted n) Ty.Var x) ≡ plug (λ i. Tree.Bound (place_of i vs)) x
  closed_shift n vs (Tree.Bound i) h k =
      ap₂ (λ b p. cond b (Tree.Bound p) (Tree.Free (n + i)))
      (among_shift n i vs ∙ k i (eq-eqb i i refl)) (place_shift n i vs)
  closed_shift n vs (Tree.Free m) h k = absurd (cc)
  closed_shift n vs (Tree.Made c xs) h k = ap (Tree.Made c) (closed_shift_all n vs xs h k)

  closed_shift_all : (n : ℕ) (vs : List ℕ) (xs : Trees) → any_holds_free xs ≡ false
      → ((i : ℕ) → binds_any i xs ≡ true → is_among i vs ≡ true)
      → closed_over_all (map (λ j. n + j) vs) (fill_all (shifted n) Ty.Var xs)
      ≡ plug_all (λ i. Tree.Bound (place_of i vs)) xs
  closed_shift_all n vs Trees.Nil h k = refl
  closed_shift_all n vs (Trees.Cons x xs) h k = ap₂ Trees.Cons
      (closed_shift n vs x (or_false_left (holds_free x) (any_holds_free xs) h)
      (λ i e. k i (or_left (binds i x) (binds_any i xs) e)))
      (closed_shift_all n vs xs (or_false_right (holds_free x) (any_holds_free xs) h)
      (λ i e. k i (or_right (binds i x) (binds_any i xs) e)))

-- ---- marks of new variables

stands_same : (ms : List Bool) (s : State) → (with_variables false ms s).stands ≡ s.stands
stands_same [] s = refl
stands_same (m ∷ ms) s = stands_same ms (with_variable false m s)

older_mark : (ms : List Bool) (s : State) (n : ℕ) → n < s.next → (with_variables false ms s).marks n ≡ s.marks n
older_mark [] s n h = refl
older_mark (m ∷ ms) s n h =
    older_mark ms (with_variable false m s) n (omega (arith, h))
    ∙ ap (λ b. cond b m (s.marks n)) (ne_eqb n s.next (λ e. omega (arith, h, e)))

new_mark : (ms : List Bool) (s : State) (i n : ℕ) → ((k : ℕ) → s.next ≤ k → s.marks k ≡ false) → n ≡ s.next + i
    → (with_variables false ms s).marks n ≡ mark_of ms i
new_mark [] s zero n h e = h n (omega (arith, e))
new_mark [] s (suc i) n h e = h n (omega (arith, e))
new_mark (m ∷ ms) s zero n h e =
    older_mark ms (with_variable false m s) n (omega (arith, e))
    ∙ ap (λ b. cond b m (s.marks n)) (eq-eqb n s.next (omega (arith, e)))
new_mark (m ∷ ms) s (suc i) n h e = new_mark ms (with_variable false m s) i n
    (λ k l. ap (λ b. cond b m (s.marks k)) (ne_eqb k s.next (λ f. omega (arith, l, f))) ∙ h k (omega (arith, l)))
    (omega (arith, e))

unmarked : (s : State) → IsFit s → (k : ℕ) → s.next ≤ k → s.marks k ≡ false
unmarked s f k l = either_way (s.marks k)
    (λ e. (let b : k < s.next = f.marks k e in absurd (omega (arith, l, b)))) (λ e. e)

marks_shift : (σ : TypeScheme) (s : State) → IsFit s → (vs : List ℕ)
    → map (with_variables false σ.marks s).marks (map (λ j. s.next + j) vs) ≡ map (mark_of σ.marks) vs
marks_shift σ s f [] = refl
marks_shift σ s f (v ∷ vs) = ap₂ (λ x xs. x ∷ xs)
    (new_mark σ.marks s v (s.next + v) (unmarked s f) refl) (marks_shift σ s f vs)

-- ---- an instance that is closed

whole_is : (σ : TypeScheme) (s : State) → IsFit s → holds_free σ.body ≡ false
    → put (with_variables false σ.marks s).stands (fill (shifted s.next) Ty.Var σ.body)
    ≡ fill (shifted s.next) Ty.Var σ.body
whole_is σ s f h =
    put_filled (with_variables false σ.marks s).stands (shifted s.next) σ.body h
    (λ i. ap (λ q. q (s.next + i)) (stands_same σ.marks s) ∙ f.beyond (s.next + i) (omega arith))

scheme_is : (m n : List Bool) (x y : Tree) → m ≡ n → x ≡ y
    → (let σ : TypeScheme = record { marks = m; body = x } in σ) ≡ (let τ : TypeScheme = record { marks = n; body = y } in τ)
scheme_is m n x y h k = cc

closed_instance : (σ : TypeScheme) (s : State) → IsFit s → holds_free σ.body ≡ false
    → scheme_over (found_in (λ v. false) (fill (shifted s.next) Ty.Var σ.body) []) (with_variables false σ.marks s).marks
    (fill (shifted s.next) Ty.Var σ.body) ≡ canonical_scheme σ
closed_instance σ s f h =
    let vs : List ℕ = bound_in σ.body [] in
    ap (λ xs. scheme_over xs (with_variables false σ.marks s).marks (fill (shifted s.next) Ty.Var σ.body))
    (found_shift s.next σ.body [] h)
    ∙ scheme_is (map (with_variables false σ.marks s).marks (map (λ j. s.next + j) vs)) (map (mark_of σ.marks) vs)
    (closed_over (map (λ j. s.next + j) vs) (fill (shifted s.next) Ty.Var σ.body))
    (plug (λ i. Tree.Bound (place_of i vs)) σ.body)
    (marks_shift σ s f vs)
    (closed_shift s.next vs σ.body h (λ i e. all_bound i σ.body [] e))

pub reclosed_is : (σ made : TypeScheme) (old new : Table) (kept : List TyId) (id : TyId) → IsFit (state old)
    → holds_free σ.body ≡ false → type_of new id ≡ (instance σ (state old)).0 → state new ≡ (instance σ (state old)).1
    → kept ≡ [] → made ≡ closed_scheme new kept id → made ≡ canonical_scheme σ
reclosed_is σ made old new kept id f h ty st none e =
    let s : State = state old in
    e ∙ ap (λ ids. closed_scheme new ids id) none
    ∙ ap₂ (λ (r : State) t. scheme_over (found_in (λ v. false) (put r.stands t) []) r.marks (put r.stands t)) st ty
    ∙ ap (λ t. scheme_over (found_in (λ v. false) t []) (with_variables false σ.marks s).marks t) (whole_is σ s f h)
    ∙ closed_instance σ s f h
