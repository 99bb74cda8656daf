-- Variables by first occurrence, in a list and with a table of their places.
use Rattle.std.specs.Prelude.{Result, Ok, Err, IfOk}
use Rattle.unification.specs.Closing.{canonical_scheme}
use Rattle.unification.specs.Instances.{mark_of}
use Rattle.std.proofs.Common.{◌≡◌, ℕ, suc, ◌<◌, refl, sym, ap, ap₂, ◌∙◌, subst, List, [], ◌∷◌, ◌++◌, length, map, Some, None, Bool, true, false, ◌||◌, cond, eqb, nat_eq}
use Rattle.std.proofs.lemmas.Bool.{eq-eqb, eqb-true}
use Rattle.semantic_objects.specs.Trees.{Tree, Trees, TypeScheme, binds, binds_any, BindsBelow}
use Rattle.unification.specs.Closing.{is_among, place_of, bound_in, plug, plug_all}
use Rattle.unification.proofs.Walking.{either_way, not_both, or_left, or_right, or_either, or_false_left, or_false_right}
use Rattle.unification.proofs.Canonical.{place_below}
use Rattle.environment_walks.specs.declared.places.Images.{Images}
use Rattle.environment_walks.specs.Changing.{image_in}
use Rattle.name_walks.specs.Visits.{variables_in, variables_in_all}
use Rattle.name_walks.proofs.Notes.{IsSet, listed_append, listed_noted, or_false}
use Rattle.name_walks.proofs.Once.{tells_variables, variables_noted}
use Rattle.canonical_types.specs.Variables.{AreTold}
use Rattle.canonical_types.proofs.Mapped.{by_place}

-- ---- places

some_none : {P : Type 0} (n : ℕ) → Some n ≡ None → P
some_none n h = absurd (cc)

past_all : (v : ℕ) (vs : List ℕ) → is_among v vs ≡ false → place_of v vs ≡ length vs
past_all v [] e = refl
past_all v (w ∷ ws) e = ap (λ b. cond b 0 (suc (place_of v ws))) (or_false_left (eqb v w) (is_among v ws) e)
    ∙ ap suc (past_all v ws (or_false_right (eqb v w) (is_among v ws) e))

pub not_told : (places : Images) (vs : List ℕ) (v : ℕ) → AreTold places vs → image_in places v ≡ None
    → is_among v vs ≡ false
not_told places vs v t h = either_way (is_among v vs)
    (λ e. some_none (place_of v vs) (sym (t.each v ∙ ap (λ b. cond b (Some (place_of v vs)) None) e) ∙ h))
    (λ e. e)

pub past_told : (places : Images) (vs : List ℕ) (v : ℕ) → AreTold places vs → image_in places v ≡ None
    → length vs ≡ place_of v vs
past_told places vs v t h = sym (past_all v vs (not_told places vs v t h))

-- ---- one variable more

among_last : (p v : ℕ) (vs : List ℕ) → is_among p (vs ++ v ∷ []) ≡ (is_among p vs || eqb p v)
among_last p v vs = listed_append eqb is_among tells_variables p vs (v ∷ [])
    ∙ ap (λ b. is_among p vs || b) (or_false (eqb p v))

place_front : (p v : ℕ) (vs : List ℕ) → is_among p vs ≡ true → place_of p (vs ++ v ∷ []) ≡ place_of p vs
place_front p v [] e = absurd (cc)
place_front p v (w ∷ ws) e = either_way (eqb p w)
    (λ k. ap (λ b. cond b 0 (suc (place_of p (ws ++ v ∷ [])))) k
    ∙ sym (ap (λ b. cond b 0 (suc (place_of p ws))) k))
    (λ k. ap (λ b. cond b 0 (suc (place_of p (ws ++ v ∷ [])))) k
    ∙ ap suc (place_front p v ws (sym (ap (λ b. b || is_among p ws) k) ∙ e))
    ∙ sym (ap (λ b. cond b 0 (suc (place_of p ws))) k))

place_last : (v : ℕ) (vs : List ℕ) → is_among v vs ≡ false → place_of v (vs ++ v ∷ []) ≡ length vs
place_last v [] e = ap (λ b. cond b 0 1) (eq-eqb v v refl)
place_last v (w ∷ ws) e =
    ap (λ b. cond b 0 (suc (place_of v (ws ++ v ∷ [])))) (or_false_left (eqb v w) (is_among v ws) e)
    ∙ ap suc (place_last v ws (or_false_right (eqb v w) (is_among v ws) e))

pub told_more : (old new : Images) (vs : List ℕ) (v : ℕ) → AreTold old vs → image_in old v ≡ None
    → IsSet old new v (length vs) → AreTold new (vs ++ v ∷ [])
told_more old new vs v t h set = record {
  each = λ p. either_way (nat_eq v p)
      (λ e. subst (λ z. image_in new z ≡ cond (is_among z (vs ++ v ∷ [])) (Some (place_of z (vs ++ v ∷ []))) None)
      (eqb-true v p e) here)
      (λ e. set p ∙ ap (λ b. cond b (Some (length vs)) (image_in old p)) e ∙ t.each p ∙ there p (apart p e));
}
  where
    new_one : is_among v vs ≡ false
    new_one = not_told old vs v t h

    here : image_in new v ≡ cond (is_among v (vs ++ v ∷ [])) (Some (place_of v (vs ++ v ∷ []))) None
    here = set v ∙ ap (λ b. cond b (Some (length vs)) (image_in old v)) (eq-eqb v v refl)
        ∙ sym (ap Some (place_last v vs new_one))
        ∙ sym (ap (λ b. cond b (Some (place_of v (vs ++ v ∷ []))) None)
        (among_last v v vs ∙ or_right (is_among v vs) (eqb v v) (eq-eqb v v refl)))

    apart : (p : ℕ) → nat_eq v p ≡ false → eqb p v ≡ false
    apart p e = either_way (eqb p v)
        (λ k. absurd (not_both (nat_eq v p) e (eq-eqb v p (sym (eqb-true p v k)))))
        (λ k. k)

    there : (p : ℕ) → eqb p v ≡ false → cond (is_among p vs) (Some (place_of p vs)) None
        ≡ cond (is_among p (vs ++ v ∷ [])) (Some (place_of p (vs ++ v ∷ []))) None
    there p k = either_way (is_among p vs)
        (λ i. ap (λ b. cond b (Some (place_of p vs)) None) i ∙ ap Some (sym (place_front p v vs i))
        ∙ sym (ap (λ b. cond b (Some (place_of p (vs ++ v ∷ []))) None)
        (among_last p v vs ∙ or_left (is_among p vs) (eqb p v) i)))
        (λ i. ap (λ b. cond b (Some (place_of p vs)) None) i
        ∙ sym (ap (λ b. cond b (Some (place_of p (vs ++ v ∷ []))) None)
        (among_last p v vs ∙ ap (λ b. b || eqb p v) i ∙ k)))

-- ---- what stands in a type is found

mutual
  binds_found : (i : ℕ) (t : Tree) → binds i t ≡ is_among i (variables_in t)
  binds_found i (Tree.Bound j) = sym (or_false (eqb i j))
  binds_found i (Tree.Free n) = refl
  binds_found i (Tree.Made c ts) = all_binds_found i ts

  all_binds_found : (i : ℕ) (ts : Trees) → binds_any i ts ≡ is_among i (variables_in_all ts)
  all_binds_found i Trees.Nil = refl
  all_binds_found i (Trees.Cons t ts) = ap (λ b. b || binds_any i ts) (binds_found i t)
      ∙ ap (λ b. is_among i (variables_in t) || b) (all_binds_found i ts)
      ∙ sym (listed_append eqb is_among tells_variables i (variables_in t) (variables_in_all ts))

found : (t : Tree) (i : ℕ) → binds i t ≡ true → is_among i (bound_in t []) ≡ true
found t i h = ap (is_among i) (sym (variables_noted t []))
    ∙ listed_noted eqb is_among tells_variables i [] (variables_in t) ∙ sym (binds_found i t) ∙ h

-- ---- variables below their number

mutual
  plugged_below : (vs : List ℕ) (k : ℕ) (t : Tree) → ((j : ℕ) → binds j t ≡ true → place_of j vs < k)
      → BindsBelow k (plug (by_place vs) t)
  plugged_below vs k (Tree.Bound j) h i e =
      subst (λ z. z < k) (sym (eqb-true i (place_of j vs) e)) (h j (eq-eqb j j refl))
  plugged_below vs k (Tree.Free n) h i e = absurd (cc)
  plugged_below vs k (Tree.Made c ts) h i e = all_plugged_below vs k ts h i e

  all_plugged_below : (vs : List ℕ) (k : ℕ) (ts : Trees) → ((j : ℕ) → binds_any j ts ≡ true → place_of j vs < k)
      → (i : ℕ) → binds_any i (plug_all (by_place vs) ts) ≡ true → i < k
  all_plugged_below vs k Trees.Nil h i e = absurd (cc)
  all_plugged_below vs k (Trees.Cons t ts) h i e =
      or_either (binds i (plug (by_place vs) t)) (binds_any i (plug_all (by_place vs) ts)) e
      (λ l. plugged_below vs k t (λ j b. h j (or_left (binds j t) (binds_any j ts) b)) i l)
      (λ l. all_plugged_below vs k ts (λ j b. h j (or_right (binds j t) (binds_any j ts) b)) i l)

pub in_order : (t : Tree) (vs : List ℕ) (k : ℕ) → vs ≡ bound_in t [] → length vs ≡ k
    → BindsBelow k (plug (by_place vs) t)
in_order t vs k e l = subst (λ n. BindsBelow n (plug (by_place vs) t)) l
    (plugged_below vs (length vs) t
    (λ j b. place_below j vs (subst (λ z. is_among j z ≡ true) (sym e) (found t j b))))

-- ---- schemes

abbrev scheme_of : List Bool → Tree → TypeScheme
scheme_of marks body = record { marks = marks; body = body }

scheme_is : (σ : TypeScheme) (marks : List Bool) (body : Tree) → σ.marks ≡ marks → σ.body ≡ body
    → σ ≡ record { marks = marks; body = body }
scheme_is σ marks body h k = ap₂ scheme_of h k

pub scheme_ordered : {E : Type 0} (old : List Bool) (t : Tree) (vs : List ℕ) (marks : List Bool) (body : Tree)
    (r : Result TypeScheme E) → vs ≡ bound_in t [] → marks ≡ map (mark_of old) vs → body ≡ plug (by_place vs) t
    → IfOk r (λ σ. σ.marks ≡ marks) → IfOk r (λ σ. σ.body ≡ body)
    → IfOk r (λ σ. σ ≡ canonical_scheme (record { marks = old; body = t }))
scheme_ordered old t vs marks body (Err e) a b c h k = tt
scheme_ordered old t vs marks body (Ok σ) a b c h k =
    scheme_is σ (map (mark_of old) (bound_in t [])) (plug (by_place (bound_in t [])) t)
    (h ∙ b ∙ ap (map (mark_of old)) a) (k ∙ c ∙ ap (λ z. plug (by_place z) t) a)
