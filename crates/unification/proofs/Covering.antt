-- The plain function that compares two schemes says whether the one is at least as general as the other.
use Rattle.std.proofs.Common.{◌≡◌, ℕ, ◌+◌, refl, sym, ap, ap₂, ◌∙◌, subst, Option, Some, None, Bool, true, false, cond, [], ◌↔◌}
use Rattle.std.proofs.lemmas.Bool.{eq-eqb, eqb-true, eqb-false}
use Rattle.std.specs.Option.{is_some}
use Rattle.std.specs.Prelude.{eqb}
use Rattle.semantic_objects.proofs.Same.{symbol_is, symbol_not}
use Rattle.semantic_objects.specs.Symbols.{same_symbol}
use Rattle.semantic_objects.specs.Trees.{Tree, Trees, TypeScheme}
use Rattle.semantic_objects.specs.declared.symbol.Symbol.{Symbol}
use Rattle.semantic_objects.specs.declared.symbol.Symbol.TheVariants as symbol
use Rattle.unification.specs.Closing.{plug, plug_all}
use Rattle.unification.specs.Generality.{same_tree, tree_admits, Found, nothing_found, with_found, match_variable, match_then, match_tree, match_trees, may_stand, covers, IsOf, MarksOwn}
use Rattle.unification.specs.Instances.{mark_of, fill, IsInstance, IsMoreGeneral}
use Rattle.unification.specs.Types.{Ty, Substitution, Marks, State}
use Rattle.unification.proofs.Walking.{Anything, either_way, not_both, walk_tree}
use Rattle.unification.proofs.Filling.{fill_plug, plug_still, tree_is, tree_same, admits_filled, read_as, read_filled, read_admits, from_on, below_free, on_bound, marks_on}

-- ---- what is asked of a choice of trees for the variables of a scheme

abbrev Choice : Type 0
Choice = ℕ → Tree

abbrev Keeps : Found → Choice → Type 0
Keeps f θ = (i : ℕ) (t : Tree) → f i ≡ Some t → θ i ≡ t

abbrev MayAll : (ℕ → Tree → Bool) → Choice → Type 0
MayAll may θ = (i : ℕ) → may i (θ i) ≡ true

-- what is found may stand there
abbrev MayFound : (ℕ → Tree → Bool) → Found → Type 0
MayFound may f = (i : ℕ) (t : Tree) → f i ≡ Some t → may i t ≡ true

-- after `f` was found, `r` is what a choice has to keep so that `S` holds
record Finds (may : ℕ → Tree → Bool) (S : Choice → Type 0) (f r : Found) : Type 0 where
  old : (θ : Choice) → Keeps r θ → Keeps f θ
  holds : (θ : Choice) → Keeps r θ → S θ
  needed : (θ : Choice) → Keeps f θ → S θ → Keeps r θ
  allowed : MayFound may f → MayFound may r

-- .. or there is no choice
abbrev Answers : (ℕ → Tree → Bool) → (Choice → Type 0) → Found → Option Found → Type 0
Answers may S f (Some r) = Finds may S f r
Answers may S f None = (θ : Choice) → MayAll may θ → Keeps f θ → S θ → ⊥

nothing_new : (may : ℕ → Tree → Bool) (S : Choice → Type 0) (f : Found) → ((θ : Choice) → Keeps f θ → S θ)
    → Finds may S f f
nothing_new may S f h =
    record { old = λ θ k. k; holds = h; needed = λ θ k _. k; allowed = λ w. w }

same_question : (may : ℕ → Tree → Bool) (S U : Choice → Type 0) (f : Found) (o : Option Found)
    → ((θ : Choice) → S θ → U θ) → ((θ : Choice) → U θ → S θ) → Answers may S f o → Answers may U f o
same_question may S U f None there back h = λ θ l k u. h θ l k (back θ u)
same_question may S U f (Some r) there back h = record {
  old = h.old;
  holds = λ θ k. there θ (h.holds θ k);
  needed = λ θ k u. h.needed θ k (back θ u);
  allowed = h.allowed;
}

second_question : (may : ℕ → Tree → Bool) (S U : Choice → Type 0) (f m : Found) (o : Option Found)
    → Finds may S f m → Answers may U m o → Answers may (λ θ. S θ × U θ) f o
second_question may S U f m None g h = λ θ l k both. h θ l (g.needed θ k both.0) both.1
second_question may S U f m (Some r) g h = record {
  old = λ θ k. g.old θ (h.old θ k);
  holds = λ θ k. (g.holds θ (h.old θ k), h.holds θ k);
  needed = λ θ k both. h.needed θ (g.needed θ k both.0) both.1;
  allowed = λ w. h.allowed (g.allowed w);
}

both_questions : (may : ℕ → Tree → Bool) (S U : Choice → Type 0) (f : Found) (o : Option Found)
    (k : Found → Option Found) → Answers may S f o → ((m : Found) → Answers may U m (k m))
    → Answers may (λ θ. S θ × U θ) f (match_then o k)
both_questions may S U f None k h g = λ θ l a both. h θ l a both.0
both_questions may S U f (Some m) k h g = second_question may S U f m (k m) h (g m)

where_same : (may : ℕ → Tree → Bool) (S : Choice → Type 0) (f : Found) (c : Bool) (o : Option Found)
    → (c ≡ true → Answers may S f o) → (c ≡ false → (θ : Choice) → Keeps f θ → S θ → ⊥)
    → Answers may S f (cond c o None)
where_same may S f true o yes_is no_is = yes_is refl
where_same may S f false o yes_is no_is = λ θ _ k s. no_is refl θ k s

-- ---- one variable

some_is : {A : Type 0} (x y : A) → Some x ≡ Some y → x ≡ y
some_is x y h = cc

-- what is found afterwards is the tree at its variable, or was found before
found_case : (P : ℕ → Tree → Type 0) (i j : ℕ) (t u : Tree) (f : Found) → P i t → (f j ≡ Some u → P j u)
    → with_found i t f j ≡ Some u → P j u
found_case P i j t u f here there e = either_way (eqb i j)
    (λ k. subst (λ z. P z u) (eqb-true i j k)
    (subst (P i) (some_is t u (sym (ap (λ b. cond b (Some t) (f j)) k) ∙ e)) here))
    (λ k. there (sym (ap (λ b. cond b (Some t) (f j)) k) ∙ e))

found_here : (i : ℕ) (t : Tree) (f : Found) → with_found i t f i ≡ Some t
found_here i t f = ap (λ b. cond b (Some t) (f i)) (eq-eqb i i refl)

found_before : (i j : ℕ) (t u : Tree) (f : Found) → f i ≡ None → f j ≡ Some u → with_found i t f j ≡ Some u
found_before i j t u f none e = either_way (eqb i j)
    (λ k. let l : None ≡ Some u = sym none ∙ ap f (eqb-true i j k) ∙ e in absurd (cc))
    (λ k. ap (λ b. cond b (Some t) (f j)) k ∙ e)

abbrev Becomes : Tree → Tree → Choice → Type 0
Becomes x y θ = plug θ x ≡ y

abbrev BecomeAll : Trees → Trees → Choice → Type 0
BecomeAll xs ys θ = plug_all θ xs ≡ ys

variable_finds : (may : ℕ → Tree → Bool) (i : ℕ) (t : Tree) (f : Found) (c : Bool) (o : Option Tree) → may i t ≡ c
    → f i ≡ o → Answers may (Becomes (Tree.Bound i) t) f (match_variable c i t f o)
variable_finds may i t f false o no_is e = λ θ l k s. not_both (may i t) no_is (subst (λ z. may i z ≡ true) s (l i))
variable_finds may i t f true None may_it e = record {
  old = λ θ k j u g. k j u (found_before i j t u f e g);
  holds = λ θ k. k i t (found_here i t f);
  needed = λ θ k s j u. found_case (λ n z. θ n ≡ z) i j t u f s (k j u);
  allowed = λ w j u. found_case (λ n z. may n z ≡ true) i j t u f may_it (w j u);
}
variable_finds may i t f true (Some u) may_it e =
    where_same may (Becomes (Tree.Bound i) t) f (same_tree u t) (Some f)
    (λ same. nothing_new may (Becomes (Tree.Bound i) t) f (λ θ k. k i u e ∙ tree_is u t same))
    (λ differ θ k s. not_both (same_tree u t) differ
    (subst (λ z. same_tree u z ≡ true) (sym (k i u e) ∙ s) (tree_same u)))

-- ---- trees

abbrev FindsIn : (ℕ → Tree → Bool) → Tree → Type 0
FindsIn may x = (y : Tree) (f : Found) → Answers may (Becomes x y) f (match_tree may x y f)

abbrev FindAllIn : (ℕ → Tree → Bool) → Trees → Type 0
FindAllIn may xs = (ys : Trees) (f : Found) → Answers may (BecomeAll xs ys) f (match_trees may xs ys f)

free_finds : (may : ℕ → Tree → Bool) (n : ℕ) → FindsIn may (Tree.Free n)
free_finds may n (Tree.Bound j) f = λ θ _ _ s. absurd (cc)
free_finds may n (Tree.Free m) f = where_same may (Becomes (Tree.Free n) (Tree.Free m)) f (eqb n m) (Some f)
    (λ e. nothing_new may (Becomes (Tree.Free n) (Tree.Free m)) f (λ θ _. ap Tree.Free (eqb-true n m e)))
    (λ e θ _ s. eqb-false n m e (let k : n ≡ m = cc in k))
free_finds may n (Tree.Made d us) f = λ θ _ _ s. absurd (cc)

made_finds : (may : ℕ → Tree → Bool) (c : Symbol) (ts : Trees) → FindAllIn may ts → FindsIn may (Tree.Made c ts)
made_finds may c ts h (Tree.Bound j) f = λ θ _ _ s. absurd (cc)
made_finds may c ts h (Tree.Free m) f = λ θ _ _ s. absurd (cc)
made_finds may c ts h (Tree.Made d us) f =
    where_same may (Becomes (Tree.Made c ts) (Tree.Made d us)) f (same_symbol c d) (match_trees may ts us f)
    (λ e. same_question may (BecomeAll ts us) (Becomes (Tree.Made c ts) (Tree.Made d us)) f (match_trees may ts us f)
    (λ θ s. ap₂ Tree.Made (symbol_is c d e) s) (λ θ s. let k : plug_all θ ts ≡ us = cc in k) (h us f))
    (λ e θ _ s. symbol_not c d e (let k : c ≡ d = cc in k))

none_finds : (may : ℕ → Tree → Bool) → FindAllIn may Trees.Nil
none_finds may Trees.Nil f = nothing_new may (BecomeAll Trees.Nil Trees.Nil) f (λ θ _. refl)
none_finds may (Trees.Cons u us) f = λ θ _ _ s. absurd (cc)

more_finds : (may : ℕ → Tree → Bool) (t : Tree) (ts : Trees) → FindsIn may t → FindAllIn may ts
    → FindAllIn may (Trees.Cons t ts)
more_finds may t ts h hs Trees.Nil f = λ θ _ _ s. absurd (cc)
more_finds may t ts h hs (Trees.Cons u us) f =
    same_question may (λ θ. Becomes t u θ × BecomeAll ts us θ) (BecomeAll (Trees.Cons t ts) (Trees.Cons u us)) f
    (match_then (match_tree may t u f) (match_trees may ts us)) (λ θ s. ap₂ Trees.Cons s.0 s.1)
    (λ θ s. (let k : plug θ t ≡ u = cc in k, let l : plug_all θ ts ≡ us = cc in l))
    (both_questions may (Becomes t u) (BecomeAll ts us) f (match_tree may t u f) (match_trees may ts us) (h u f)
    (hs us))

finds : (may : ℕ → Tree → Bool) (x : Tree) → FindsIn may x
finds may x = walk_tree Anything Anything (FindsIn may) (FindAllIn may)
    (record {
      bound = λ i _ y f. variable_finds may i y f (may i y) (f i) refl refl;
      free = λ n _. free_finds may n;
      made = made_finds may;
      none = none_finds may;
      more = more_finds may;
    })
    x (λ i _. tt) (λ n _. tt)

-- ---- instances

-- the choice that keeps what was found, with the empty record for all else
abbrev or_empty : Option Tree → Tree
or_empty None = Tree.Made (symbol.Record []) Trees.Nil
or_empty (Some t) = t

abbrev kept_by : Found → Choice
kept_by f i = or_empty (f i)

where_asked : (m x : Bool) → cond m x true ≡ true → m ≡ true → x ≡ true
where_asked true x h k = h
where_asked false x h k = absurd (cc)

asked_where : (m x : Bool) → (m ≡ true → x ≡ true) → cond m x true ≡ true
asked_where true x h = h refl
asked_where false x h = refl

found_admits : (s : State) (g h : TypeScheme) (i : ℕ) (o : Option Tree)
    → ((t : Tree) → o ≡ Some t → may_stand s g h i t ≡ true) → mark_of g.marks i ≡ true
    → tree_admits (mark_of h.marks) s.marks (or_empty o) ≡ true
found_admits s g h i None w k = refl
found_admits s g h i (Some t) w k =
    where_asked (mark_of g.marks i) (tree_admits (mark_of h.marks) s.marks t) (w t refl) k

-- what was found makes each instance of the second one of the first
found_general : (s : State) (g h : TypeScheme) (f : Found) → MarksOwn s
    → Finds (may_stand s g h) (Becomes g.body h.body) nothing_found f → IsMoreGeneral s g h
found_general s g h f own m q same t i =
    let θ : Choice = kept_by f in
    let w : MayFound (may_stand s g h) f = m.allowed (λ j u e. absurd (cc)) in
    record {
      by = λ j. fill i.by Ty.Var (θ j);
      admitted = λ j k. admits_filled (mark_of h.marks) s.marks q i.by (θ j) i.admitted
          (λ n e. same n (own n e) ∙ e) (found_admits s g h j (f j) (w j) k);
      is = sym (fill_plug i.by Ty.Var θ g.body)
          ∙ ap (fill i.by Ty.Var) (m.holds θ (λ j u e. ap or_empty e)) ∙ i.is;
    }

-- where nothing is found, the instance with new variables is none of the first scheme
none_general : (s : State) (g h : TypeScheme) → IsOf s g.body → IsOf s h.body
    → Answers (may_stand s g h) (Becomes g.body h.body) nothing_found None → IsMoreGeneral s g h → ⊥
none_general s g h of_g of_h none more =
    let new : Substitution = λ i. Ty.Var (s.next + i) in
    let back : ℕ → Tree = from_on s.next in
    let q : Marks = marks_on s.next s.marks (mark_of h.marks) in
    let i : IsInstance q g (fill new Ty.Var h.body) = more q
    (λ n k. ap (tree_admits (mark_of h.marks) s.marks) (below_free s.next n k)) (fill new Ty.Var h.body)
    (record {
      by = new;
      admitted = λ j k. ap (tree_admits (mark_of h.marks) s.marks) (on_bound s.next j) ∙ k;
      is = refl;
    }) in
    let θ : Choice = λ j. read_as back (i.by j) in
    none θ
    (λ j. asked_where (mark_of g.marks j) (tree_admits (mark_of h.marks) s.marks (θ j))
    (λ k. sym (read_admits back q (mark_of h.marks) s.marks (i.by j) (λ n. refl)) ∙ i.admitted j k))
    (λ j u e. absurd (cc))
    (sym (read_filled back i.by g.body (λ n e. below_free s.next n (of_g n e))) ∙ ap (read_as back) i.is
    ∙ read_filled back new h.body (λ n e. below_free s.next n (of_h n e))
    ∙ plug_still (λ j. read_as back (new j)) h.body (on_bound s.next))

decided : (s : State) (g h : TypeScheme) (o : Option Found) → MarksOwn s → IsOf s g.body → IsOf s h.body
    → Answers (may_stand s g h) (Becomes g.body h.body) nothing_found o → (is_some o ≡ true) ↔ IsMoreGeneral s g h
decided s g h (Some f) own of_g of_h m = ((λ e. found_general s g h f own m), (λ more. refl))
decided s g h None own of_g of_h m = ((λ e. absurd (cc)), (λ more. absurd (none_general s g h of_g of_h m more)))

pub covers_law : (s : State) (g h : TypeScheme) → MarksOwn s → IsOf s g.body → IsOf s h.body
    → (covers s g h ≡ true) ↔ IsMoreGeneral s g h
covers_law s g h own of_g of_h = decided s g h (match_tree (may_stand s g h) g.body h.body nothing_found) own of_g of_h
    (finds (may_stand s g h) g.body h.body nothing_found)
