-- Lists that are collected item by item.
use Rattle.std.proofs.Common.{◌≡◌, ◌∙◌, sym, ap, refl, ℕ, ◌+◌, ◌<◌, ◌≤◌, List, [], ◌∷◌, ◌++◌, append_assoc, append-nil, length, drop, get_or, Result, Ok, Err}
use Rattle.std.proofs.Math.Path.{fun_ext}
use Rattle.std.proofs.lemmas.List.{drop_all}
use Rattle.cm_base.specs.Diags.{◌>>=◌}
use Rattle.cm_base.specs.declared.diag.Diag.{Diag}
use Rattle.cm_conditions.proofs.TableSteps.{left_at}
use Rattle.visibility.specs.Imports.{collected}

-- items before those of an answer
abbrev pub before : {A : Type 0} → List A → Result (List A) Diag → Result (List A) Diag
before xs (Ok ys) = Ok (xs ++ ys)
before xs (Err diag) = Err diag

pub before_before : {A : Type 0} (xs ys : List A) (r : Result (List A) Diag)
    → before xs (before ys r) ≡ before (xs ++ ys) r
before_before xs ys (Ok zs) = ap Ok (sym (append_assoc xs ys zs))
before_before xs ys (Err diag) = refl

pub before_none : {A : Type 0} (r : Result (List A) Diag) → before [] r ≡ r
before_none (Ok zs) = refl
before_none (Err diag) = refl

bind_before : {A : Type 0} (here : List A) (r : Result (List A) Diag)
    → (r >>= (λ more. Ok (here ++ more))) ≡ before here r
bind_before here (Ok more) = refl
bind_before here (Err diag) = refl

-- what the first item gives comes before what the others give
collected_more : {A B : Type 0} (step : A → Result (List B) Diag) (x : A) (xs : List A) (here : List B)
    → step x ≡ Ok here → collected step (x ∷ xs) ≡ before here (collected step xs)
collected_more {B = B} step x xs here is =
    ap (λ (r : Result (List B) Diag). r >>= (λ h. collected step xs >>= (λ more. Ok (h ++ more)))) is
    ∙ bind_before here (collected step xs)

-- .. and its refusal ends the work
collected_wrong : {A B : Type 0} (step : A → Result (List B) Diag) (x : A) (xs : List A) (diag : Diag)
    → step x ≡ Err diag → collected step (x ∷ xs) ≡ Err diag
collected_wrong {B = B} step x xs diag is =
    ap (λ (r : Result (List B) Diag). r >>= (λ h. collected step xs >>= (λ more. Ok (h ++ more)))) is

-- one more item of a loop is collected
pub one_more : {A B : Type 0} (step : A → Result (List B) Diag) (xs : List A) (i : ℕ) (x : A) (list here : List B)
    → i < length xs → x ≡ get_or xs i x → step x ≡ Ok here
    → before (list ++ here) (collected step (drop (i + 1) xs)) ≡ before list (collected step (drop i xs))
one_more step xs i x list here lt is gives =
    sym (ap (λ left. before list (collected step left)) (left_at xs i x lt is)
    ∙ ap (before list) (collected_more step x (drop (i + 1) xs) here gives)
    ∙ before_before list here (collected step (drop (i + 1) xs)))

-- one more item is refused
pub one_wrong : {A B : Type 0} (step : A → Result (List B) Diag) (xs : List A) (i : ℕ) (x : A) (list : List B)
    (diag : Diag)
    → i < length xs → x ≡ get_or xs i x → step x ≡ Err diag
    → before list (collected step (drop i xs)) ≡ Err diag
one_wrong step xs i x list diag lt is gives =
    ap (λ left. before list (collected step left)) (left_at xs i x lt is)
    ∙ ap (before list) (collected_wrong step x (drop (i + 1) xs) diag gives)

-- no item is left
pub all_collected : {A B : Type 0} (step : A → Result (List B) Diag) (xs : List A) (i : ℕ) (list : List B)
    → length xs ≤ i → before list (collected step (drop i xs)) ≡ Ok list
all_collected step xs i list past =
    ap (λ left. before list (collected step left)) (drop_all i xs past) ∙ ap Ok (append-nil list)

-- steps that do the same collect the same
pub collected_same : {A B : Type 0} (f g : A → Result (List B) Diag) → ((x : A) → f x ≡ g x) → (xs : List A)
    → collected f xs ≡ collected g xs
collected_same f g same xs = ap (λ h. collected h xs) (fun_ext same)
