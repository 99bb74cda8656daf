-- Things that are noted in a walk, each once.
use Rattle.std.proofs.Common.{◌≡◌, ℕ, List, [], ◌∷◌, ◌++◌, refl, sym, ap, ◌∙◌, subst, Some, None, Bool, true, false, ◌||◌, cond, nat_eq}
use Rattle.std.specs.List.{flat_map}
use Rattle.std.proofs.lemmas.Bool.{eqb-true}
use Rattle.std.proofs.lemmas.List.{append_assoc, append-nil}
use Rattle.unification.proofs.Walking.{either_way, or_left, or_right}
use Rattle.environment_walks.specs.declared.places.Images.{Images}
use Rattle.environment_walks.specs.declared.steps.Step.{Step}
use Rattle.environment_walks.specs.declared.steps.Step.TheVariants as step
use Rattle.environment_walks.specs.Changing.{image_in}
use Rattle.environment_walks.specs.Stepping.{entered}
use Rattle.name_walks.specs.Noting.{noted, noted_all, of_step, left, AllListed, LeaveIs, LeavesAre, IsWalk, Goes}

-- ---- booleans

pub or_false : (b : Bool) → (b || false) ≡ b
or_false true = refl
or_false false = refl

pub or_true : (b : Bool) → (b || true) ≡ true
or_true true = refl
or_true false = refl

or_assoc : (a b c : Bool) → ((a || b) || c) ≡ (a || (b || c))
or_assoc true b c = refl
or_assoc false b c = refl

or_known : (a b : Bool) → (b ≡ true → a ≡ true) → a ≡ (a || b)
or_known true b f = refl
or_known false true f = f refl
or_known false false f = refl

-- ---- what is listed

-- what the function has to tell of lists, where another one compares
pub record Tells {A : Type 0} (same : A → A → Bool) (listed : A → List A → Bool) : Type 0 where
  pub none : (x : A) → listed x [] ≡ false
  pub more : (x y : A) (ys : List A) → listed x (y ∷ ys) ≡ (same x y || listed x ys)
  pub is : (x y : A) → same x y ≡ true → x ≡ y
  pub itself : (x : A) → same x x ≡ true

module _ {A : Type 0} (same : A → A → Bool) (listed : A → List A → Bool) (L : Tells same listed) where
  pub listed_append : (n : A) (xs ys : List A) → listed n (xs ++ ys) ≡ (listed n xs || listed n ys)
  listed_append n [] ys = sym (ap (λ b. b || listed n ys) (L.none n))
  listed_append n (x ∷ xs) ys = L.more n x (xs ++ ys) ∙ ap (λ b. same n x || b) (listed_append n xs ys)
      ∙ sym (or_assoc (same n x) (listed n xs) (listed n ys)) ∙ sym (ap (λ b. b || listed n ys) (L.more n x xs))

  pub listed_left : (n : A) (xs ys : List A) → listed n xs ≡ true → listed n (xs ++ ys) ≡ true
  listed_left n xs ys h = listed_append n xs ys ∙ or_left (listed n xs) (listed n ys) h

  pub listed_right : (n : A) (xs ys : List A) → listed n ys ≡ true → listed n (xs ++ ys) ≡ true
  listed_right n xs ys h = listed_append n xs ys ∙ or_right (listed n xs) (listed n ys) h

  pub listed_alone : (n x : A) → listed n (x ∷ []) ≡ same n x
  listed_alone n x = L.more n x [] ∙ ap (λ b. same n x || b) (L.none n) ∙ or_false (same n x)

  pub listed_first : (x : A) (xs : List A) → listed x (x ∷ xs) ≡ true
  listed_first x xs = L.more x x xs ∙ or_left (same x x) (listed x xs) (L.itself x)

  pub listed_same : (n x : A) (d : List A) → listed x d ≡ true → same n x ≡ true → listed n d ≡ true
  listed_same n x d h e = subst (λ z. listed z d ≡ true) (sym (L.is n x e)) h

  pub listed_one : (n x : A) (d : List A) → listed n (noted listed d x) ≡ (listed n d || same n x)
  listed_one n x d = either_way (listed x d)
      (λ e. ap (λ b. listed n (cond b d (d ++ x ∷ []))) e
      ∙ or_known (listed n d) (same n x) (listed_same n x d e))
      (λ e. ap (λ b. listed n (cond b d (d ++ x ∷ []))) e ∙ listed_append n d (x ∷ [])
      ∙ ap (λ b. listed n d || b) (listed_alone n x))

  pub listed_noted : (n : A) (d xs : List A) → listed n (noted_all listed d xs) ≡ listed n (d ++ xs)
  listed_noted n d [] = ap (listed n) (sym (append-nil d))
  listed_noted n d (x ∷ xs) = listed_noted n (noted listed d x) xs
      ∙ listed_append n (noted listed d x) xs
      ∙ ap (λ b. b || listed n xs) (listed_one n x d)
      ∙ or_assoc (listed n d) (same n x) (listed n xs)
      ∙ ap (λ b. listed n d || b) (sym (L.more n x xs))
      ∙ sym (listed_append n d (x ∷ xs))

  -- ---- what is noted

  noted_known : (d xs : List A) → AllListed listed xs d → noted_all listed d xs ≡ d
  noted_known d [] h = refl
  noted_known d (x ∷ xs) h =
      ap (λ z. noted_all listed z xs) (ap (λ b. cond b d (d ++ x ∷ [])) (h x (listed_first x xs)))
      ∙ noted_known d xs (λ n e. h n (L.more n x xs ∙ or_right (same n x) (listed n xs) e))

  all_moved : (d e xs ys : List A) → noted_all listed d xs ≡ noted_all listed e ys
      → AllListed listed (d ++ xs) (e ++ ys)
  all_moved d e xs ys h n k = sym (listed_noted n e ys) ∙ ap (listed n) (sym h) ∙ listed_noted n d xs ∙ k

  still_listed : (d e xs : List A) → e ≡ noted_all listed d xs → AllListed listed d e
  still_listed d e xs h n k = ap (listed n) h ∙ listed_noted n d xs ∙ listed_left n d xs k

  now_listed : (d e xs : List A) → e ≡ noted_all listed d xs → AllListed listed xs e
  now_listed d e xs h n k = ap (listed n) h ∙ listed_noted n d xs ∙ listed_right n d xs k

pub noted_append : {A : Type 0} (listed : A → List A → Bool) (d xs ys : List A)
    → noted_all listed d (xs ++ ys) ≡ noted_all listed (noted_all listed d xs) ys
noted_append listed d [] ys = refl
noted_append listed d (x ∷ xs) ys = noted_append listed (noted listed d x) xs ys

-- ---- steps

left_append : {A : Type 0} (N : ℕ → List A) (xs ys : List Step) → left N (xs ++ ys) ≡ left N ys ++ left N xs
left_append N [] ys = sym (append-nil (left N ys))
left_append N (x ∷ xs) ys = ap (λ z. z ++ of_step N x) (left_append N xs ys)
    ∙ append_assoc (left N ys) (left N xs) (of_step N x)

left_entered : {A : Type 0} (N : ℕ → List A) (ps : List ℕ) → left N (entered ps) ≡ flat_map N ps
left_entered N [] = refl
left_entered N (p ∷ ps) = left_append N (entered ps) (step.Enter p ∷ []) ∙ ap (λ z. N p ++ z) (left_entered N ps)

pub entered_append : (xs ys : List ℕ) → entered (xs ++ ys) ≡ entered ys ++ entered xs
entered_append [] ys = sym (append-nil (entered ys))
entered_append (x ∷ xs) ys = ap (λ z. z ++ step.Enter x ∷ []) (entered_append xs ys)
    ∙ append_assoc (entered ys) (entered xs) (step.Enter x ∷ [])

leaves_entered : {A : Type 0} (listed : A → List A → Bool) (N : ℕ → List A) (d : List A) (ps : List ℕ)
    (tail : List Step) → LeavesAre listed N d tail → LeavesAre listed N d (entered ps ++ tail)
leaves_entered listed N d [] tail h = h
leaves_entered listed N d (p ∷ ps) tail h =
    subst (LeavesAre listed N d) (sym (append_assoc (entered ps) (step.Enter p ∷ []) tail))
    (leaves_entered listed N d ps (step.Enter p ∷ tail) (tt, h))

moved_left : {A : Type 0} (listed : A → List A → Bool) (N : ℕ → List A) (d e : List A) (ss tail more : List Step)
    → noted_all listed d (left N tail) ≡ noted_all listed e (left N more)
    → noted_all listed d (left N (ss ++ tail)) ≡ noted_all listed e (left N (ss ++ more))
moved_left listed N d e ss tail more h =
    ap (noted_all listed d) (left_append N ss tail)
    ∙ noted_append listed d (left N tail) (left N ss)
    ∙ ap (λ z. noted_all listed z (left N ss)) h
    ∙ sym (noted_append listed e (left N more) (left N ss))
    ∙ ap (noted_all listed e) (sym (left_append N ss more))

leave_more : {A : Type 0} (listed : A → List A → Bool) (N : ℕ → List A) (s : Step) (ms ns : List A)
    → AllListed listed ms ns → LeaveIs listed N ms s → LeaveIs listed N ns s
leave_more listed N (step.Enter p) ms ns f h = tt
leave_more listed N (step.Leave p) ms ns f h = λ n e. f n (h n e)

abbrev pub AreMet : {A : Type 0} → (A → List A → Bool) → (ℕ → List A) → List A → Images → Type 0
AreMet listed N d done = (p q : ℕ) → image_in done p ≡ Some q → AllListed listed (N p) d

abbrev pub IsSet : Images → Images → ℕ → ℕ → Type 0
IsSet old new place image = (p : ℕ) → image_in new p ≡ cond (nat_eq place p) (Some image) (image_in old p)

none_some : (q : ℕ) → None ≡ Some q → ⊥
none_some q h = cc

module _ {A : Type 0} (same : A → A → Bool) (listed : A → List A → Bool) (L : Tells same listed) (N : ℕ → List A) where
  leaves_more : (d e : List A) (before tail more : List Step)
      → noted_all listed d (left N tail) ≡ noted_all listed e (left N more) → LeavesAre listed N e more
      → LeavesAre listed N d (before ++ tail) → LeavesAre listed N e (before ++ more)
  leaves_more d e [] tail more f k h = k
  leaves_more d e (s ∷ ss) tail more f k h = (
    leave_more listed N s (d ++ left N (ss ++ tail)) (e ++ left N (ss ++ more))
        (all_moved same listed L d e (left N (ss ++ tail)) (left N (ss ++ more)) (moved_left listed N d e ss tail more f))
        h.0,
    leaves_more d e ss tail more f k h.1,
  )

  moved : (all d e : List A) (done next : Images) (before tail more : List Step)
      → noted_all listed d (left N tail) ≡ noted_all listed e (left N more) → LeavesAre listed N e more
      → AreMet listed N e next → IsWalk listed N all d done (before ++ tail)
      → IsWalk listed N all e next (before ++ more)
  moved all d e done next before tail more f k m h = record {
    finds = sym (moved_left listed N d e before tail more f) ∙ h.finds;
    leaves = leaves_more d e before tail more f k h.leaves;
    met = m;
  }

  -- ---- what is done

  met_set : (d e : List A) (done next : Images) (place image : ℕ) → AreMet listed N d done → AllListed listed d e
      → AllListed listed (N place) e → IsSet done next place image → AreMet listed N e next
  met_set d e done next place image h f g set p q k = either_way (nat_eq place p)
      (λ s n i. g n (subst (λ z. listed n (N z) ≡ true) (sym (eqb-true place p s)) i))
      (λ s n i. f n (h p q (sym (ap (λ b. cond b (Some image) (image_in done p)) s) ∙ sym (set p) ∙ k) n i))

  last_leave : (d : List A) (before : List Step) (p : ℕ) → LeavesAre listed N d (before ++ step.Leave p ∷ [])
      → AllListed listed (N p) d
  last_leave d [] p h = subst (AllListed listed (N p)) (append-nil d) h.0
  last_leave d (s ∷ ss) p h = last_leave d ss p h.1

  walk_ends : (all d : List A) (done : Images) (steps : List Step) → IsWalk listed N all d done (steps ++ [])
      → IsWalk listed N all d done steps
  walk_ends all d done steps h = subst (IsWalk listed N all d done) (append-nil steps) h

  -- ---- steps that are taken

  -- what is met is done already
  pub skipped : (d : List A) (done : Images) (before : List Step) (p q : ℕ) → image_in done p ≡ Some q
      → Goes listed N (step.Enter p) d d done done before before
  skipped d done before p q e all h = walk_ends all d done before
      (moved all d d done done before (step.Enter p ∷ []) []
      (noted_known same listed L d (N p) (h.met p q e)) tt h.met h)

  -- what stands at it is noted at once
  pub whole_noted : (d e : List A) (done next : Images) (before : List Step) (p image : ℕ)
      → e ≡ noted_all listed d (N p) → IsSet done next p image
      → Goes listed N (step.Enter p) d e done next before before
  whole_noted d e done next before p image f set all h = walk_ends all e next before
      (moved all d e done next before (step.Enter p ∷ []) [] (sym f) tt
      (met_set d e done next p image h.met (still_listed same listed L d e (N p) f)
      (now_listed same listed L d e (N p) f) set) h)

  -- its parts come next
  pub opened : (d e own : List A) (done : Images) (before after : List Step) (p : ℕ) (ps : List ℕ)
      → N p ≡ own ++ flat_map N ps → e ≡ noted_all listed d own
      → after ≡ (before ++ step.Leave p ∷ []) ++ entered ps
      → Goes listed N (step.Enter p) d e done done before after
  opened d e own done before after p ps k f g all h =
      let same_all : noted_all listed d (N p) ≡ noted_all listed e (left N (entered ps) ++ []) =
      ap (noted_all listed d) k ∙ noted_append listed d own (flat_map N ps)
      ∙ ap (λ z. noted_all listed z (flat_map N ps)) (sym f)
      ∙ ap (noted_all listed e) (sym (append-nil (left N (entered ps)) ∙ left_entered N ps)) in
      let there : AllListed listed (N p) (e ++ left N (entered ps)) = λ n i.
      subst (λ z. listed n (e ++ z) ≡ true) (append-nil (left N (entered ps)))
      (all_moved same listed L d e (N p) (left N (entered ps) ++ []) same_all n (listed_right same listed L n d (N p) i)) in
      let leaves : LeavesAre listed N e (entered ps) =
      subst (LeavesAre listed N e) (append-nil (entered ps)) (leaves_entered listed N e ps [] tt) in
      subst (IsWalk listed N all e done) (sym (g ∙ append_assoc before (step.Leave p ∷ []) (entered ps)))
      (moved all d e done done before (step.Enter p ∷ []) (step.Leave p ∷ entered ps) same_all (there, leaves)
      (λ x q i n j. still_listed same listed L d e own f n (h.met x q i n j)) h)

  -- its parts are done
  pub parts_done : (d : List A) (done next : Images) (before : List Step) (p image : ℕ) → IsSet done next p image
      → Goes listed N (step.Leave p) d d done next before before
  parts_done d done next before p image set all h = walk_ends all d next before
      (moved all d d done next before (step.Leave p ∷ []) [] refl tt
      (met_set d d done next p image h.met (λ n i. i) (last_leave d before p h.leaves) set) h)

  -- ---- whole walks

  pub begins : (d : List A) (done : Images) (steps : List Step) (ps : List ℕ)
      → ((x : ℕ) → image_in done x ≡ None) → steps ≡ entered ps
      → IsWalk listed N (noted_all listed d (flat_map N ps)) d done steps
  begins d done steps ps h e = subst (IsWalk listed N (noted_all listed d (flat_map N ps)) d done) (sym e) (record {
    finds = ap (noted_all listed d) (left_entered N ps);
    leaves = subst (LeavesAre listed N d) (append-nil (entered ps)) (leaves_entered listed N d ps [] tt);
    met = λ x q k. absurd (none_some q (sym (h x) ∙ k));
  })

  pub ends : (all d : List A) (done : Images) (steps : List Step) → steps ≡ [] → IsWalk listed N all d done steps
      → d ≡ all
  ends all d done steps e h = ap (λ z. noted_all listed d (left N z)) (sym e) ∙ h.finds

  pub goes_on : (all d e : List A) (done next : Images) (steps before after : List Step) (s : Step)
      → steps ≡ before ++ s ∷ [] → Goes listed N s d e done next before after → IsWalk listed N all d done steps
      → IsWalk listed N all e next after
  goes_on all d e done next steps before after s h g w = g all (subst (IsWalk listed N all d done) h w)
