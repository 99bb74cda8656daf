-- Steps that are collected give what relations say, where the relations fix each step.
use Rattle.std.proofs.Common.{◌≡◌, ◌⊎◌, ◌∙◌, inl, inr, sym, ap, refl, subst, List, [], ◌∷◌, ◌++◌, Result, Ok, Err}
use Rattle.std.specs.Prelude.{Contains}
use Rattle.cm_base.specs.Diags.{◌>>=◌}
use Rattle.cm_base.specs.declared.diag.Diag.{Diag}
use Rattle.visibility.proofs.Among.{Member, from_member, to_member}
use Rattle.visibility.specs.Imports.{collected}
use Rattle.visibility_laws.specs.Steps.{AreGiven, IsFirst, IsFirstRefusal, IsRefused}

-- ---- the first of a list

first_on : {A : Type 0} (P : A → Type 0) (x : A) (before : List A) (y : A) → (P x → ⊥)
    → ((z : A) → Contains before z → P z → ⊥) → (x ≡ y) ⊎ Member before y → P y → ⊥
first_on P x before y here rest (inl same) so = here (subst P (sym same) so)
first_on P x before y here rest (inr more) so = rest y (from_member before y more) so

-- an item before which one stands that doesn't count
pub first_more : {A : Type 0} (P : A → Type 0) (x : A) (xs : List A) (item : A) → (P x → ⊥) → IsFirst P xs item
    → IsFirst P (x ∷ xs) item
first_more P x xs item here first = record {
  before = x ∷ first.before;
  after = first.after;
  split = ap (λ l. x ∷ l) first.split;
  so = first.so;
  none = λ y c so. first_on P x first.before y here first.none (to_member (x ∷ first.before) y c) so;
}

none_before : {A : Type 0} (P : A → Type 0) (y : A) → Contains [] y → P y → ⊥
none_before P y c so = to_member [] y c

pub first_here : {A : Type 0} (P : A → Type 0) (x : A) (xs : List A) → P x → IsFirst P (x ∷ xs) x
first_here P x xs so = record {
  before = [];
  after = xs;
  split = refl;
  so = so;
  none = none_before P;
}

meets : {A : Type 0} (P : A → Type 0) (x y : A) (before after rest : List A) → (x ∷ after) ≡ before ++ y ∷ rest
    → P x → ((z : A) → Member before z → P z → ⊥) → x ≡ y
meets P x y [] after rest split so none = cc
meets P x y (z ∷ before) after rest split so none =
    let same : z ≡ x = cc in absurd (none z (inl refl) (subst P (sym same) so))

first_by : {A : Type 0} (P : A → Type 0) (x y : A) (one two after rest : List A)
    → one ++ x ∷ after ≡ two ++ y ∷ rest → P x → P y → ((z : A) → Member one z → P z → ⊥)
    → ((z : A) → Member two z → P z → ⊥) → x ≡ y
first_by P x y [] two after rest split so also none_one none_two = meets P x y two after rest split so none_two
first_by P x y (z ∷ one) [] after rest split so also none_one none_two =
    let same : z ≡ y = cc in absurd (none_one z (inl refl) (subst P (sym same) also))
first_by P x y (z ∷ one) (w ∷ two) after rest split so also none_one none_two =
    let tails : one ++ x ∷ after ≡ two ++ y ∷ rest = cc in
    first_by P x y one two after rest tails so also (λ v m. none_one v (inr m)) (λ v m. none_two v (inr m))

-- a list has one first item
pub one_first : {A : Type 0} (P : A → Type 0) (xs : List A) (x y : A) → IsFirst P xs x → IsFirst P xs y → x ≡ y
one_first P xs x y first second =
    first_by P x y first.before second.before first.after second.after (sym first.split ∙ second.split) first.so
    second.so (λ z m. first.none z (from_member first.before z m))
    (λ z m. second.none z (from_member second.before z m))

-- ---- relations and steps

-- a result is what relations say of an item
abbrev pub Says : {A B : Type 0} → (A → B → Type 0) → (A → Type 0) → (A → Diag → Type 0) → A → Result (List B) Diag
    → Type 0
Says G N R x (Ok []) = N x
Says G N R x (Ok (y ∷ [])) = G x y
Says G N R x (Ok (y ∷ z ∷ more)) = ⊥
Says G N R x (Err diag) = R x diag

-- relations say what a step does, and fix it
pub record Fixes {A B : Type 0} (G : A → B → Type 0) (N : A → Type 0) (R : A → Diag → Type 0)
    (step : A → Result (List B) Diag) : Type 0 where
  pub says : (x : A) → Says G N R x (step x)
  pub gives : (x : A) (y : B) → G x y → step x ≡ Ok (y ∷ [])
  pub nothing : (x : A) → N x → step x ≡ Ok []
  pub refuses : (x : A) (diag : Diag) → R x diag → step x ≡ Err diag

-- ---- what is collected

given_by : {A B : Type 0} (G : A → B → Type 0) (N : A → Type 0) (R : A → Diag → Type 0) (x : A) (xs : List A)
    (here rest : Result (List B) Diag) (list : List B)
    → Says G N R x here → ((more : List B) → rest ≡ Ok more → AreGiven G N xs more)
    → (here >>= (λ h. rest >>= (λ more. Ok (h ++ more)))) ≡ Ok list → AreGiven G N (x ∷ xs) list
given_by G N R x xs (Ok []) (Ok more) list says each is =
    let same : more ≡ list = cc in inr (says, subst (AreGiven G N xs) same (each more refl))
given_by G N R x xs (Ok (y ∷ [])) (Ok more) list says each is =
    let same : y ∷ more ≡ list = cc in inl (y, more, sym same, says, each more refl)
given_by G N R x xs (Ok (y ∷ z ∷ others)) (Ok more) list says each is = absurd says
given_by G N R x xs (Ok h) (Err diag) list says each is = cc
given_by G N R x xs (Err diag) rest list says each is = cc

pub given_from : {A B : Type 0} (G : A → B → Type 0) (N : A → Type 0) (R : A → Diag → Type 0)
    (step : A → Result (List B) Diag) → Fixes G N R step → (xs : List A) (list : List B)
    → collected step xs ≡ Ok list → AreGiven G N xs list
given_from {B = B} G N R step fixes [] list is =
    let same : ◌≡◌ {A = List B} [] list = cc in sym same
given_from G N R step fixes (x ∷ xs) list is =
    given_by G N R x xs (step x) (collected step xs) list (fixes.says x)
    (λ more gives. given_from G N R step fixes xs more gives) is

-- what a first step and the others give
joined : {A B : Type 0} (step : A → Result (List B) Diag) (x : A) (xs : List A) (here more : List B)
    → step x ≡ Ok here → collected step xs ≡ Ok more → collected step (x ∷ xs) ≡ Ok (here ++ more)
joined {B = B} step x xs here more first rest =
    ap (λ (r : Result (List B) Diag). r >>= (λ h. collected step xs >>= (λ m. Ok (h ++ m)))) first
    ∙ ap (λ (r : Result (List B) Diag). r >>= (λ m. Ok (here ++ m))) rest

pub given_to : {A B : Type 0} (G : A → B → Type 0) (N : A → Type 0) (R : A → Diag → Type 0)
    (step : A → Result (List B) Diag) → Fixes G N R step → (xs : List A) (list : List B)
    → AreGiven G N xs list → collected step xs ≡ Ok list
given_to G N R step fixes [] list is = ap Ok (sym is)
given_to G N R step fixes (x ∷ xs) list (inl (y, more, same, gives, rest)) =
    joined step x xs (y ∷ []) more (fixes.gives x y gives) (given_to G N R step fixes xs more rest) ∙ ap Ok (sym same)
given_to G N R step fixes (x ∷ xs) list (inr (nothing, rest)) =
    joined step x xs [] list (fixes.nothing x nothing) (given_to G N R step fixes xs list rest)

-- ---- what is refused

refused_by : {A B : Type 0} (G : A → B → Type 0) (N : A → Type 0) (R : A → Diag → Type 0)
    (step : A → Result (List B) Diag) → Fixes G N R step → (x : A) (xs : List A) (here rest : Result (List B) Diag)
    (diag : Diag)
    → step x ≡ here → Says G N R x here → (rest ≡ Err diag → IsFirstRefusal R xs diag)
    → (here >>= (λ h. rest >>= (λ more. Ok (h ++ more)))) ≡ Err diag → IsFirstRefusal R (x ∷ xs) diag
refused_by G N R step fixes x xs (Ok here) (Ok more) diag first says each is = cc
refused_by G N R step fixes x xs (Ok here) (Err other) diag first says each is =
    let same : other ≡ diag = cc in
    let found = each (ap Err same) in (
      found.0,
      first_more (IsRefused R) x xs found.0
          (λ refused. let clash = sym first ∙ fixes.refuses x refused.0 refused.1 in cc) found.1,
      found.2,
    )
refused_by G N R step fixes x xs (Err other) rest diag first says each is =
    let same : other ≡ diag = cc in
    (x, first_here (IsRefused R) x xs (other, says), subst (R x) same says)

pub refused_from : {A B : Type 0} (G : A → B → Type 0) (N : A → Type 0) (R : A → Diag → Type 0)
    (step : A → Result (List B) Diag) → Fixes G N R step → (xs : List A) (diag : Diag)
    → collected step xs ≡ Err diag → IsFirstRefusal R xs diag
refused_from G N R step fixes [] diag is = cc
refused_from G N R step fixes (x ∷ xs) diag is =
    refused_by G N R step fixes x xs (step x) (collected step xs) diag refl (fixes.says x)
    (λ wrong. refused_from G N R step fixes xs diag wrong) is

passes_by : {A B : Type 0} (G : A → B → Type 0) (N : A → Type 0) (R : A → Diag → Type 0) (x : A)
    (here rest : Result (List B) Diag) (diag : Diag)
    → Says G N R x here → (IsRefused R x → ⊥) → rest ≡ Err diag
    → (here >>= (λ h. rest >>= (λ more. Ok (h ++ more)))) ≡ Err diag
passes_by {B = B} G N R x (Ok here) rest diag says none is =
    ap (λ (r : Result (List B) Diag). r >>= (λ more. Ok (here ++ more))) is
passes_by G N R x (Err other) rest diag says none is = absurd (none (other, says))

refused_behind : {A B : Type 0} (G : A → B → Type 0) (N : A → Type 0) (R : A → Diag → Type 0)
    (step : A → Result (List B) Diag) → Fixes G N R step → (before : List A) (x : A) (after : List A) (diag : Diag)
    → ((y : A) → Member before y → IsRefused R y → ⊥) → R x diag
    → collected step (before ++ x ∷ after) ≡ Err diag
refused_behind {B = B} G N R step fixes [] x after diag none refused =
    ap (λ (r : Result (List B) Diag). r >>= (λ h. collected step after >>= (λ m. Ok (h ++ m))))
    (fixes.refuses x diag refused)
refused_behind G N R step fixes (y ∷ before) x after diag none refused =
    passes_by G N R y (step y) (collected step (before ++ x ∷ after)) diag (fixes.says y) (none y (inl refl))
    (refused_behind G N R step fixes before x after diag (λ z m. none z (inr m)) refused)

pub refused_to : {A B : Type 0} (G : A → B → Type 0) (N : A → Type 0) (R : A → Diag → Type 0)
    (step : A → Result (List B) Diag) → Fixes G N R step → (xs : List A) (diag : Diag)
    → IsFirstRefusal R xs diag → collected step xs ≡ Err diag
refused_to G N R step fixes xs diag (x, first, refused) =
    ap (collected step) first.split
    ∙ refused_behind G N R step fixes first.before x first.after diag
    (λ y m so. first.none y (from_member first.before y m) so) refused

-- ---- results as a set

-- a result is that of an item
pub record IsOf {A B : Type 0} (G : A → B → Type 0) (xs : List A) (y : B) : Type 0 where
  pub item : A
  pub among : Member xs item
  pub gives : G item y

of_more : {A B : Type 0} (G : A → B → Type 0) (x : A) (xs : List A) (y : B) → IsOf G xs y → IsOf G (x ∷ xs) y
of_more G x xs y of = record { item = of.item; among = inr of.among; gives = of.gives }

of_by : {A B : Type 0} (G : A → B → Type 0) (x : A) (xs : List A) (first y : B) (more : List B)
    → G x first → (Member more y → IsOf G xs y) → (first ≡ y) ⊎ Member more y → IsOf G (x ∷ xs) y
of_by G x xs first y more gives rest (inl same) =
    record { item = x; among = inl refl; gives = subst (G x) same gives }
of_by G x xs first y more gives rest (inr m) = of_more G x xs y (rest m)

pub results_of : {A B : Type 0} (G : A → B → Type 0) (N : A → Type 0) (xs : List A) (list : List B) (y : B)
    → AreGiven G N xs list → Member list y → IsOf G xs y
results_of G N [] list y is m = absurd (subst (λ l. Member l y) is m)
results_of G N (x ∷ xs) list y (inl (first, more, same, gives, rest)) m =
    of_by G x xs first y more gives (λ h. results_of G N xs more y rest h) (subst (λ l. Member l y) same m)
results_of G N (x ∷ xs) list y (inr (nothing, rest)) m = of_more G x xs y (results_of G N xs list y rest m)

one_result : {A B : Type 0} (G : A → B → Type 0) (N : A → Type 0) (R : A → Diag → Type 0)
    (step : A → Result (List B) Diag) → Fixes G N R step → (x : A) (first y : B) → G x first → G x y → first ≡ y
one_result {B = B} G N R step fixes x first y gives also =
    let same : ◌≡◌ {A = Result (List B) Diag} (Ok (first ∷ [])) (Ok (y ∷ [])) =
    sym (fixes.gives x first gives) ∙ fixes.gives x y also in
    cc

pub all_results : {A B : Type 0} (G : A → B → Type 0) (N : A → Type 0) (R : A → Diag → Type 0)
    (step : A → Result (List B) Diag) → Fixes G N R step → (xs : List A) (list : List B) (x : A) (y : B)
    → AreGiven G N xs list → Member xs x → G x y → Member list y
all_results G N R step fixes [] list x y is m also = absurd m
all_results G N R step fixes (z ∷ xs) list x y (inl (first, more, same, gives, rest)) (inl here) also =
    subst (λ l. Member l y) (sym same)
    (inl (one_result G N R step fixes z first y gives (subst (λ v. G v y) (sym here) also)))
all_results G N R step fixes (z ∷ xs) list x y (inl (first, more, same, gives, rest)) (inr m) also =
    subst (λ l. Member l y) (sym same) (inr (all_results G N R step fixes xs more x y rest m also))
all_results {B = B} G N R step fixes (z ∷ xs) list x y (inr (nothing, rest)) (inl here) also =
    absurd (let clash : ◌≡◌ {A = Result (List B) Diag} (Ok []) (Ok (y ∷ [])) =
    sym (fixes.nothing z nothing) ∙ fixes.gives z y (subst (λ v. G v y) (sym here) also) in cc)
all_results G N R step fixes (z ∷ xs) list x y (inr (nothing, rest)) (inr m) also =
    all_results G N R step fixes xs list x y rest m also

-- where all give something, none is refused
pub given_unrefused : {A B : Type 0} (G : A → B → Type 0) (N : A → Type 0) (R : A → Diag → Type 0)
    (step : A → Result (List B) Diag) → Fixes G N R step → (xs : List A) (list : List B) (x : A)
    → AreGiven G N xs list → Member xs x → (diag : Diag) → R x diag → ⊥
given_unrefused G N R step fixes [] list x is m diag refused = absurd m
given_unrefused {B = B} G N R step fixes (z ∷ xs) list x (inl (first, more, same, gives, rest)) (inl here) diag
    refused =
    let clash : ◌≡◌ {A = Result (List B) Diag} (Ok (first ∷ [])) (Err diag) =
    sym (fixes.gives z first gives) ∙ fixes.refuses z diag (subst (λ v. R v diag) (sym here) refused) in cc
given_unrefused {B = B} G N R step fixes (z ∷ xs) list x (inr (nothing, rest)) (inl here) diag refused =
    let clash : ◌≡◌ {A = Result (List B) Diag} (Ok []) (Err diag) =
    sym (fixes.nothing z nothing) ∙ fixes.refuses z diag (subst (λ v. R v diag) (sym here) refused) in cc
given_unrefused G N R step fixes (z ∷ xs) list x (inl (first, more, same, gives, rest)) (inr m) diag refused =
    given_unrefused G N R step fixes xs more x rest m diag refused
given_unrefused G N R step fixes (z ∷ xs) list x (inr (nothing, rest)) (inr m) diag refused =
    given_unrefused G N R step fixes xs list x rest m diag refused
