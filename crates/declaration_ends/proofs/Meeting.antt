-- Steps of a walk that looks for places that are large, where a function tells of each place whether it is.
use Rattle.std.proofs.Common.{◌≡◌, ℕ, List, [], ◌∷◌, ◌++◌, refl, sym, ap, ◌∙◌, subst, Some, None, Bool, true, false, ◌||◌, cond, nat_eq}
use Rattle.std.specs.List.{list_any}
use Rattle.std.proofs.lemmas.Bool.{eqb-true}
use Rattle.std.proofs.lemmas.List.{append_assoc, append-nil}
use Rattle.std.proofs.lemmas.List.Folds.{list_any-append}
use Rattle.unification.proofs.Walking.{either_way, or_left, or_right}
use Rattle.environment_walks.specs.declared.places.Images.{Images}
use Rattle.environment_walks.specs.declared.steps.Step.{Step}
use Rattle.environment_walks.specs.declared.steps.Step.TheVariants as step
use Rattle.environment_walks.specs.Changing.{image_in}
use Rattle.environment_walks.specs.Stepping.{entered}
use Rattle.declaration_ends.specs.Structures.{is_met, any_met, IsLeft, AreLeft, IsWalk, IsTaken, IsDone, IsFinished, IsOpened}

pub or_false : (b : Bool) → (b || false) ≡ b
or_false true = refl
or_false false = refl

or_turn : (a b : Bool) → (a || (b || false)) ≡ (b || a)
or_turn true true = refl
or_turn true false = refl
or_turn false true = refl
or_turn false false = refl

not_large : (b : Bool) → (b ≡ true → false ≡ true) → b ≡ false
not_large true f = sym (f refl)
not_large false f = refl

none_some : (q : ℕ) → None ≡ Some q → ⊥
none_some q h = cc

pub entered_append : (xs ys : List ℕ) → entered (xs ++ ys) ≡ entered ys ++ entered xs
entered_append [] ys = sym (append-nil (entered ys))
entered_append (x ∷ xs) ys = ap (λ z. z ++ step.Enter x ∷ []) (entered_append xs ys)
    ∙ append_assoc (entered ys) (entered xs) (step.Enter x ∷ [])

module _ (large : ℕ → Bool) where
  met_append : (xs ys : List Step) → any_met large (xs ++ ys) ≡ (any_met large xs || any_met large ys)
  met_append xs ys = list_any-append (is_met large) xs ys

  met_entered : (ps : List ℕ) → any_met large (entered ps) ≡ list_any large ps
  met_entered [] = refl
  met_entered (p ∷ ps) = met_append (entered ps) (step.Enter p ∷ [])
      ∙ ap (λ b. b || (large p || false)) (met_entered ps) ∙ or_turn (list_any large ps) (large p)

  left_entered : (ps : List ℕ) (tail : List Step) → AreLeft large tail → AreLeft large (entered ps ++ tail)
  left_entered [] tail h = h
  left_entered (p ∷ ps) tail h = subst (AreLeft large) (sym (append_assoc (entered ps) (step.Enter p ∷ []) tail))
      (left_entered ps (step.Enter p ∷ tail) (tt, h))

  all_entered : (ps : List ℕ) → AreLeft large (entered ps)
  all_entered ps = subst (AreLeft large) (append-nil (entered ps)) (left_entered ps [] tt)

  -- ---- steps in place of others

  same_met : (before tail more : List Step) → any_met large tail ≡ any_met large more
      → any_met large (before ++ tail) ≡ any_met large (before ++ more)
  same_met before tail more f = met_append before tail ∙ ap (λ b. any_met large before || b) f
      ∙ sym (met_append before more)

  left_more : (before tail more : List Step) → any_met large tail ≡ any_met large more → AreLeft large more
      → AreLeft large (before ++ tail) → AreLeft large (before ++ more)
  left_more [] tail more f k h = k
  left_more (s ∷ ss) tail more f k h =
      (subst (IsLeft large s) (same_met ss tail more f) h.0, left_more ss tail more f k h.1)

  moved : (any : Bool) (done next : Images) (before tail more : List Step) → any_met large tail ≡ any_met large more
      → AreLeft large more → ((p q : ℕ) → image_in next p ≡ Some q → large p ≡ false)
      → IsWalk large any done (before ++ tail) → IsWalk large any next (before ++ more)
  moved any done next before tail more f k m h = record {
    finds = sym (same_met before tail more f) ∙ h.finds;
    left = left_more before tail more f k h.left;
    small = m;
  }

  walk_ends : (any : Bool) (done : Images) (steps : List Step) → IsWalk large any done (steps ++ [])
      → IsWalk large any done steps
  walk_ends any done steps h = subst (IsWalk large any done) (append-nil steps) h

  -- ---- what is done

  small_set : (done next : Images) (place : ℕ) → ((p q : ℕ) → image_in done p ≡ Some q → large p ≡ false)
      → large place ≡ false → IsDone done next place → (p q : ℕ) → image_in next p ≡ Some q → large p ≡ false
  small_set done next place h k set p q e = either_way (nat_eq place p)
      (λ i. ap large (sym (eqb-true place p i)) ∙ k)
      (λ i. h p q (sym (ap (λ b. cond b (Some place) (image_in done p)) i) ∙ sym (set p) ∙ e))

  last_left : (before : List Step) (p : ℕ) → AreLeft large (before ++ step.Leave p ∷ []) → large p ≡ true
      → false ≡ true
  last_left [] p h = h.0
  last_left (s ∷ ss) p h = last_left ss p h.1

  -- ---- steps that are taken

  -- what is met is done already
  pub skipped : (done : Images) (before : List Step) (p q : ℕ) → image_in done p ≡ Some q
      → IsTaken large (step.Enter p) done done before before false
  skipped done before p q e any h = walk_ends any done before
      (moved any done done before (step.Enter p ∷ []) [] (or_false (large p) ∙ h.small p q e) tt h.small h)

  -- it is known at once of what is met
  pub finished : (done next : Images) (before : List Step) (p : ℕ) (known found : Bool) → known ≡ large p
      → IsFinished done next p known found → IsTaken large (step.Enter p) done next before before found
  finished done next before p known true e f = λ any h. sym h.finds ∙ met_append before (step.Enter p ∷ [])
      ∙ or_right (any_met large before) (large p || false) (or_left (large p) false (sym e ∙ f))
  finished done next before p known false e f = λ any h. walk_ends any next before
      (moved any done next before (step.Enter p ∷ []) [] (or_false (large p) ∙ (sym e ∙ f.0)) tt
      (small_set done next p h.small (sym e ∙ f.0) f.1) h)

  -- its parts come next
  pub opened : (before after : List Step) (p : ℕ) (ps : List ℕ) → large p ≡ list_any large ps
      → after ≡ (before ++ step.Leave p ∷ []) ++ entered ps → IsOpened large p before after
  opened before after p ps k g done any h =
      let same : (large p || false) ≡ any_met large (entered ps) =
      or_false (large p) ∙ k ∙ sym (met_entered ps) in
      let there : large p ≡ true → any_met large (entered ps) ≡ true =
      λ i. met_entered ps ∙ (sym k ∙ i) in
      subst (IsWalk large any done) (sym (g ∙ append_assoc before (step.Leave p ∷ []) (entered ps)))
      (moved any done done before (step.Enter p ∷ []) (step.Leave p ∷ entered ps) same (there, all_entered ps) h.small h)

  -- its parts are done
  pub parts_done : (done next : Images) (before : List Step) (p : ℕ) → IsDone done next p
      → IsTaken large (step.Leave p) done next before before false
  parts_done done next before p set any h = walk_ends any next before
      (moved any done next before (step.Leave p ∷ []) [] refl tt
      (small_set done next p h.small (not_large (large p) (last_left before p h.left)) set) h)

  -- ---- whole walks

  pub begins : (done : Images) (steps : List Step) (ps : List ℕ) → ((x : ℕ) → image_in done x ≡ None)
      → steps ≡ entered ps → IsWalk large (list_any large ps) done steps
  begins done steps ps h e = subst (IsWalk large (list_any large ps) done) (sym e) (record {
    finds = met_entered ps;
    left = all_entered ps;
    small = λ x q k. absurd (none_some q (sym (h x) ∙ k));
  })

  pub ends : (any : Bool) (done : Images) (steps : List Step) → steps ≡ [] → IsWalk large any done steps
      → false ≡ any
  ends any done steps e h = ap (any_met large) (sym e) ∙ h.finds

  pub goes_on : (any found : Bool) (done next : Images) (steps before after : List Step) (s : Step)
      → steps ≡ before ++ s ∷ [] → IsTaken large s done next before after found → found ≡ false
      → IsWalk large any done steps → IsWalk large any next after
  goes_on any true done next steps before after s h g f w = absurd (cc)
  goes_on any false done next steps before after s h g f w = g any (subst (IsWalk large any done) h w)

  pub finds : (any found : Bool) (done next : Images) (steps before after : List Step) (s : Step)
      → steps ≡ before ++ s ∷ [] → IsTaken large s done next before after found → found ≡ true
      → IsWalk large any done steps → true ≡ any
  finds any true done next steps before after s h g f w = sym (g any (subst (IsWalk large any done) h w))
  finds any false done next steps before after s h g f w = absurd (cc)
