-- Which of two schemes is at least as general doesn't hang on the numbers of variables.
use Rattle.std.proofs.Common.{◌≡◌, ℕ, ◌+◌, List, [], map, refl, sym, ap, ap₂, ◌∙◌, subst, Option, Some, None, Bool, true, false, ◌&&◌, cond}
use Rattle.std.specs.Prelude.{eqb}
use Rattle.std.specs.Option.{is_some}
use Rattle.semantic_objects.specs.Symbols.{same_symbol}
use Rattle.semantic_objects.specs.Trees.{Tree, Trees, TypeScheme}
use Rattle.unification.specs.Types.{Marks, State, equality_of, where_parts}
use Rattle.unification.specs.Instances.{mark_of}
use Rattle.unification.specs.Closing.{place_of, bound_in, bound_in_all, plug, plug_all, canonical_scheme, put_tree, put_trees}
use Rattle.unification.specs.Generality.{same_tree, same_trees, tree_admits, trees_admit, Found, nothing_found, match_variable, match_then, match_tree, match_trees, may_stand, covers}
use Rattle.static_semantics.specs.EnvironmentsPut.{put_scheme}
use Rattle.renaming_laws.specs.Moved.{moved, IsMoved}
use Rattle.renaming_laws.specs.Promises.{GeneralityMoves}
use Rattle.renaming_laws.proofs.Unifying.{eqb_moved}
use Rattle.renaming_laws.proofs.Answers.{mapped}

-- ---- trees

mutual
  pub same_moved : (k : ℕ) (t u : Tree) → same_tree (put_tree (moved k) t) (put_tree (moved k) u) ≡ same_tree t u
  same_moved k (Tree.Bound i) (Tree.Bound j) = refl
  same_moved k (Tree.Bound i) (Tree.Free m) = refl
  same_moved k (Tree.Bound i) (Tree.Made d us) = refl
  same_moved k (Tree.Free n) (Tree.Bound j) = refl
  same_moved k (Tree.Free n) (Tree.Free m) = eqb_moved k n m
  same_moved k (Tree.Free n) (Tree.Made d us) = refl
  same_moved k (Tree.Made c ts) (Tree.Bound j) = refl
  same_moved k (Tree.Made c ts) (Tree.Free m) = refl
  same_moved k (Tree.Made c ts) (Tree.Made d us) = ap (λ z. same_symbol c d && z) (same_all_moved k ts us)

  same_all_moved : (k : ℕ) (ts us : Trees)
      → same_trees (put_trees (moved k) ts) (put_trees (moved k) us) ≡ same_trees ts us
  same_all_moved k Trees.Nil Trees.Nil = refl
  same_all_moved k Trees.Nil (Trees.Cons u us) = refl
  same_all_moved k (Trees.Cons t ts) Trees.Nil = refl
  same_all_moved k (Trees.Cons t ts) (Trees.Cons u us) =
      ap₂ (λ a b. a && b) (same_moved k t u) (same_all_moved k ts us)

mutual
  pub admits_moved : (k : ℕ) (b q p : Marks) (t : Tree) → ((n : ℕ) → p (n + k) ≡ q n)
      → tree_admits b p (put_tree (moved k) t) ≡ tree_admits b q t
  admits_moved k b q p (Tree.Bound i) h = refl
  admits_moved k b q p (Tree.Free n) h = h n
  admits_moved k b q p (Tree.Made c ts) h = ap (where_parts (equality_of c)) (admit_all_moved k b q p ts h)

  admit_all_moved : (k : ℕ) (b q p : Marks) (ts : Trees) → ((n : ℕ) → p (n + k) ≡ q n)
      → trees_admit b p (put_trees (moved k) ts) ≡ trees_admit b q ts
  admit_all_moved k b q p Trees.Nil h = refl
  admit_all_moved k b q p (Trees.Cons t ts) h =
      ap₂ (λ x y. x && y) (admits_moved k b q p t h) (admit_all_moved k b q p ts h)

-- ---- what has to stand for the variables of a scheme

abbrev FoundMoves : ℕ → Found → Found → Type 0
FoundMoves k f g = (i : ℕ) → g i ≡ mapped (put_tree (moved k)) (f i)

abbrev SomeFound : ℕ → Option Found → Option Found → Type 0
SomeFound k None None = Unit {0}
SomeFound k None (Some g) = ⊥
SomeFound k (Some f) None = ⊥
SomeFound k (Some f) (Some g) = FoundMoves k f g

-- two ways to tell what may stand that agree on what moved
abbrev MayAlike : ℕ → (ℕ → Tree → Bool) → (ℕ → Tree → Bool) → Type 0
MayAlike k may other = (i : ℕ) (t : Tree) → other i (put_tree (moved k) t) ≡ may i t

one_found : (k : ℕ) (b : Bool) (t : Tree) (o p : Option Tree) → p ≡ mapped (put_tree (moved k)) o
    → cond b (Some (put_tree (moved k) t)) p ≡ mapped (put_tree (moved k)) (cond b (Some t) o)
one_found k true t o p h = refl
one_found k false t o p h = h

where_found : (k : ℕ) (b c : Bool) (x y : Option Found) → c ≡ b → SomeFound k x y
    → SomeFound k (cond b x None) (cond c y None)
where_found k true true x y e h = h
where_found k false false x y e h = tt
where_found k true false x y e h = absurd (cc)
where_found k false true x y e h = absurd (cc)

variable_found : (k : ℕ) (b : Bool) (i : ℕ) (t : Tree) (f g : Found) (o : Option Tree) → FoundMoves k f g
    → SomeFound k (match_variable b i t f o)
    (match_variable b i (put_tree (moved k) t) g (mapped (put_tree (moved k)) o))
variable_found k false i t f g o h = tt
variable_found k true i t f g None h = λ j. one_found k (eqb i j) t (f j) (g j) (h j)
variable_found k true i t f g (Some u) h =
    where_found k (same_tree u t) (same_tree (put_tree (moved k) u) (put_tree (moved k) t)) (Some f) (Some g)
    (same_moved k u t) h

then_found : (k : ℕ) (o p : Option Found) (x y : Found → Option Found) → SomeFound k o p
    → ((f g : Found) → FoundMoves k f g → SomeFound k (x f) (y g)) → SomeFound k (match_then o x) (match_then p y)
then_found k None None x y h l = tt
then_found k None (Some g) x y h l = absurd h
then_found k (Some f) None x y h l = absurd h
then_found k (Some f) (Some g) x y h l = l f g h

module _ (k : ℕ) (may other : ℕ → Tree → Bool) (alike : MayAlike k may other) where
  mutual
    match_moved : (t u : Tree) (f g : Found) → FoundMoves k f g
        → SomeFound k (match_tree may t u f)
        (match_tree other (put_tree (moved k) t) (put_tree (moved k) u) g)
    match_moved (Tree.Bound i) u f g h =
        subst (λ z. SomeFound k (match_variable (may i u) i u f (f i))
        (match_variable z i (put_tree (moved k) u) g (g i))) (sym (alike i u))
        (subst (λ z. SomeFound k (match_variable (may i u) i u f (f i))
        (match_variable (may i u) i (put_tree (moved k) u) g z)) (sym (h i))
        (variable_found k (may i u) i u f g (f i) h))
    match_moved (Tree.Free n) (Tree.Bound j) f g h = tt
    match_moved (Tree.Free n) (Tree.Free m) f g h =
        where_found k (eqb n m) (eqb (n + k) (m + k)) (Some f) (Some g) (eqb_moved k n m) h
    match_moved (Tree.Free n) (Tree.Made d us) f g h = tt
    match_moved (Tree.Made c ts) (Tree.Bound j) f g h = tt
    match_moved (Tree.Made c ts) (Tree.Free m) f g h = tt
    match_moved (Tree.Made c ts) (Tree.Made d us) f g h =
        where_found k (same_symbol c d) (same_symbol c d) (match_trees may ts us f)
        (match_trees other (put_trees (moved k) ts) (put_trees (moved k) us) g) refl (match_all_moved ts us f g h)

    match_all_moved : (ts us : Trees) (f g : Found) → FoundMoves k f g
        → SomeFound k (match_trees may ts us f)
        (match_trees other (put_trees (moved k) ts) (put_trees (moved k) us) g)
    match_all_moved Trees.Nil Trees.Nil f g h = h
    match_all_moved Trees.Nil (Trees.Cons u us) f g h = tt
    match_all_moved (Trees.Cons t ts) Trees.Nil f g h = tt
    match_all_moved (Trees.Cons t ts) (Trees.Cons u us) f g h =
        then_found k (match_tree may t u f) (match_tree other (put_tree (moved k) t) (put_tree (moved k) u) g)
        (match_trees may ts us) (match_trees other (put_trees (moved k) ts) (put_trees (moved k) us))
        (match_moved t u f g h) (λ x y i. match_all_moved ts us x y i)

both_found : (k : ℕ) (o p : Option Found) → SomeFound k o p → is_some p ≡ is_some o
both_found k None None h = refl
both_found k None (Some g) h = absurd h
both_found k (Some f) None h = absurd h
both_found k (Some f) (Some g) h = refl

pub covers_moved : (k : ℕ) (s r : State) (g h : TypeScheme) → IsMoved k s r
    → covers r (put_scheme (moved k) g) (put_scheme (moved k) h) ≡ covers s g h
covers_moved k s r g h l =
    let other : ℕ → Tree → Bool = may_stand r (put_scheme (moved k) g) (put_scheme (moved k) h) in
    both_found k (match_tree (may_stand s g h) g.body h.body nothing_found)
    (match_tree other (put_tree (moved k) g.body) (put_tree (moved k) h.body) nothing_found)
    (match_moved k (may_stand s g h) other
    (λ i t. ap (λ z. cond (mark_of g.marks i) z true) (admits_moved k (mark_of h.marks) s.marks r.marks t l.marks))
    g.body h.body nothing_found nothing_found (λ i. refl))

-- ---- the one form of a scheme

mutual
  bound_in_moved : (k : ℕ) (t : Tree) (vs : List ℕ) → bound_in (put_tree (moved k) t) vs ≡ bound_in t vs
  bound_in_moved k (Tree.Bound i) vs = refl
  bound_in_moved k (Tree.Free n) vs = refl
  bound_in_moved k (Tree.Made c ts) vs = bound_in_all_moved k ts vs

  bound_in_all_moved : (k : ℕ) (ts : Trees) (vs : List ℕ)
      → bound_in_all (put_trees (moved k) ts) vs ≡ bound_in_all ts vs
  bound_in_all_moved k Trees.Nil vs = refl
  bound_in_all_moved k (Trees.Cons t ts) vs =
      ap (bound_in_all (put_trees (moved k) ts)) (bound_in_moved k t vs) ∙ bound_in_all_moved k ts (bound_in t vs)

mutual
  plug_moved : (k : ℕ) (vs : List ℕ) (t : Tree)
      → plug (λ i. Tree.Bound (place_of i vs)) (put_tree (moved k) t)
      ≡ put_tree (moved k) (plug (λ i. Tree.Bound (place_of i vs)) t)
  plug_moved k vs (Tree.Bound i) = refl
  plug_moved k vs (Tree.Free n) = refl
  plug_moved k vs (Tree.Made c ts) = ap (Tree.Made c) (plug_all_moved k vs ts)

  plug_all_moved : (k : ℕ) (vs : List ℕ) (ts : Trees)
      → plug_all (λ i. Tree.Bound (place_of i vs)) (put_trees (moved k) ts)
      ≡ put_trees (moved k) (plug_all (λ i. Tree.Bound (place_of i vs)) ts)
  plug_all_moved k vs Trees.Nil = refl
  plug_all_moved k vs (Trees.Cons t ts) = ap₂ Trees.Cons (plug_moved k vs t) (plug_all_moved k vs ts)

abbrev scheme_of : List Bool → Tree → TypeScheme
scheme_of marks body = record { marks = marks; body = body }

pub canonical_moved : (k : ℕ) (σ : TypeScheme)
    → canonical_scheme (put_scheme (moved k) σ) ≡ put_scheme (moved k) (canonical_scheme σ)
canonical_moved k σ =
    ap (λ vs. scheme_of (map (mark_of σ.marks) vs) (plug (λ i. Tree.Bound (place_of i vs)) (put_tree (moved k) σ.body)))
    (bound_in_moved k σ.body [])
    ∙ ap (scheme_of (map (mark_of σ.marks) (bound_in σ.body []))) (plug_moved k (bound_in σ.body []) σ.body)

pub generality_moves : GeneralityMoves
generality_moves = record { covers = covers_moved; same = same_moved; canonical = canonical_moved }
