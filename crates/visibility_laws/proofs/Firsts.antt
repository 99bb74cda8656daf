-- The first item that passes a test.
use Rattle.std.proofs.Common.{◌≡◌, ◌⊎◌, ◌∙◌, inl, inr, sym, ap, refl, subst, Bool, true, false, cond, List, [], ◌∷◌, ◌++◌, Option, Some, None}
use Rattle.std.specs.Prelude.{find}
use Rattle.visibility.proofs.Among.{Member, from_member, left_from, right_from, to_member}
use Rattle.visibility_laws.proofs.Stepping.{first_here, first_more}
use Rattle.visibility_laws.specs.Steps.{IsFirst}

-- an item passes a test
abbrev pub Passes : {A : Type 0} → (A → Bool) → A → Type 0
Passes p x = p x ≡ true

fails : {A : Type 0} (p : A → Bool) (x : A) → p x ≡ false → Passes p x → ⊥
fails p x is so = let clash : true ≡ false = sym so ∙ is in cc

found_by : {A : Type 0} (p : A → Bool) (y : A) (ys : List A) (x : A) (b : Bool) → p y ≡ b
    → (find p ys ≡ Some x → IsFirst (Passes p) ys x) → cond b (Some y) (find p ys) ≡ Some x
    → IsFirst (Passes p) (y ∷ ys) x
found_by p y ys x true is rest h =
    let same : y ≡ x = cc in subst (IsFirst (Passes p) (y ∷ ys)) same (first_here (Passes p) y ys is)
found_by p y ys x false is rest h = first_more (Passes p) y ys x (fails p y is) (rest h)

-- what is found is the first that passes ..
pub found_first : {A : Type 0} (p : A → Bool) (xs : List A) (x : A) → find p xs ≡ Some x → IsFirst (Passes p) xs x
found_first p [] x h = cc
found_first p (y ∷ ys) x h = found_by p y ys x (p y) refl (λ rest. found_first p ys x rest) h

not_passed : {A : Type 0} (p : A → Bool) (y : A) (rest : Option A) (b : Bool) → p y ≡ b → (Passes p y → ⊥)
    → cond b (Some y) rest ≡ rest
not_passed p y rest true is none = absurd (none is)
not_passed p y rest false is none = refl

found_behind : {A : Type 0} (p : A → Bool) (before : List A) (x : A) (after : List A)
    → ((y : A) → Member before y → Passes p y → ⊥) → Passes p x → find p (before ++ x ∷ after) ≡ Some x
found_behind p [] x after none so = ap (λ b. cond b (Some x) (find p after)) so
found_behind p (y ∷ before) x after none so =
    not_passed p y (find p (before ++ x ∷ after)) (p y) refl (none y (inl refl))
    ∙ found_behind p before x after (λ z m. none z (inr m)) so

-- .. and the first that passes is found
pub first_found : {A : Type 0} (p : A → Bool) (xs : List A) (x : A) → IsFirst (Passes p) xs x → find p xs ≡ Some x
first_found p xs x first =
    ap (find p) first.split
    ∙ found_behind p first.before x first.after (λ y m so. first.none y (from_member first.before y m) so) first.so

none_by : {A : Type 0} (p : A → Bool) (y : A) (ys : List A) (x : A) (b : Bool) → p y ≡ b
    → (find p ys ≡ None → Member ys x → p x ≡ false) → cond b (Some y) (find p ys) ≡ None → (y ≡ x) ⊎ Member ys x
    → p x ≡ false
none_by p y ys x true is rest h m = cc
none_by p y ys x false is rest h (inl same) = sym (ap p same) ∙ is
none_by p y ys x false is rest h (inr more) = rest h more

-- where nothing is found, nothing passes ..
pub none_passes : {A : Type 0} (p : A → Bool) (xs : List A) (x : A) → find p xs ≡ None → Member xs x → p x ≡ false
none_passes p [] x h m = absurd m
none_passes p (y ∷ ys) x h m = none_by p y ys x (p y) refl (λ rest more. none_passes p ys x rest more) h m

-- .. and where nothing passes, nothing is found
pub nothing_found : {A : Type 0} (p : A → Bool) (xs : List A) → ((x : A) → Member xs x → p x ≡ false)
    → find p xs ≡ None
nothing_found p [] none = refl
nothing_found p (y ∷ ys) none =
    ap (λ b. cond b (Some y) (find p ys)) (none y (inl refl)) ∙ nothing_found p ys (λ x m. none x (inr m))

-- the first that something holds of is the first of what holds of the same items
pub first_same : {A : Type 0} (P Q : A → Type 0) (xs : List A) (x : A)
    → ((y : A) → Member xs y → P y → Q y) → ((y : A) → Member xs y → Q y → P y) → IsFirst P xs x → IsFirst Q xs x
first_same P Q xs x over back first =
    let all = first.split in
    record {
      before = first.before;
      after = first.after;
      split = all;
      so = over x (subst (λ l. Member l x) (sym all) (right_from first.before (x ∷ first.after) x (inl refl))) first.so;
      none = λ y c so. first.none y c
          (back y (subst (λ l. Member l y) (sym all)
          (left_from first.before (x ∷ first.after) y (to_member first.before y c))) so);
    }
