-- Groups are put together one after the other, in the order of their numbers.
use Rattle.std.proofs.Common.{◌≡◌, ◌∙◌, ℕ, suc, ◌+◌, ◌<◌, List, [], ◌∷◌, ◌++◌, length, drop, drop-cons, get_or, append_assoc, append-nil, length-append, refl, ap, sym, arith}
use Rattle.cm_description.specs.declared.loaded.Group.{Group}
use Rattle.project_checks.specs.Assembly.{filled_by, filled_with, owned_by, owner_number}
use Rattle.project_checks.specs.declared.owners.Owned.{Owned}

pub nothing_left : {X : Type 0} (xs : List X) → length xs ≡ 0 → xs ≡ []
nothing_left [] h = refl
nothing_left (x ∷ xs) h = absurd (omega arith)

-- what is left of a list begins with what stands there
front_of : {X : Type 0} (xs : List X) (i : ℕ) (x : X) → i < length xs → get_or xs i x ≡ x
    → drop i xs ≡ x ∷ drop (suc i) xs
front_of {X} xs i x within here =
    drop-cons xs i x within ∙ ap (λ (y : X). y ∷ drop (suc i) xs) here

-- one group more
pub owned_more : (list new rest : List Group) (group done : Group) (owners : List Owned) (known : Owned)
    (whole : List Group) → length list < length owners → get_or owners (length list) known ≡ known
    → done ≡ record group { owner = owner_number known } → new ≡ list ++ done ∷ []
    → list ++ owned_by (group ∷ rest) (drop (length list) owners) ≡ whole
    → new ++ owned_by rest (drop (length new) owners) ≡ whole
owned_more list new rest group done owners known whole within here is pushed so =
    let size = ap length pushed in
    let long : length new ≡ suc (length list) = omega (arith, size, length-append list (done ∷ [])) in
    ap (λ (xs : List Group). xs ++ owned_by rest (drop (length new) owners)) pushed
    ∙ ap (λ (n : ℕ). (list ++ done ∷ []) ++ owned_by rest (drop n owners)) long
    ∙ append_assoc list (done ∷ []) (owned_by rest (drop (suc (length list)) owners))
    ∙ ap (λ (g : Group). list ++ (g ∷ owned_by rest (drop (suc (length list)) owners))) is
    ∙ ap (λ (os : List Owned). list ++ owned_by (group ∷ rest) os)
    (sym (front_of owners (length list) known within here))
    ∙ so

pub filled_more : (list new rest : List Group) (group done : Group) (units members : List (List ℕ))
    (own held : List ℕ) (whole : List Group) → length list < length units → length list < length members
    → get_or units (length list) own ≡ own → get_or members (length list) held ≡ held
    → done ≡ filled_with group own held → new ≡ list ++ done ∷ []
    → list ++ filled_by (group ∷ rest) (drop (length list) units) (drop (length list) members) ≡ whole
    → new ++ filled_by rest (drop (length new) units) (drop (length new) members) ≡ whole
filled_more list new rest group done units members own held whole inside within here there is pushed so =
    let size = ap length pushed in
    let long : length new ≡ suc (length list) = omega (arith, size, length-append list (done ∷ [])) in
    ap (λ (xs : List Group). xs ++ filled_by rest (drop (length new) units) (drop (length new) members)) pushed
    ∙ ap (λ (n : ℕ). (list ++ done ∷ []) ++ filled_by rest (drop n units) (drop n members)) long
    ∙ append_assoc list (done ∷ [])
    (filled_by rest (drop (suc (length list)) units) (drop (suc (length list)) members))
    ∙ ap (λ (g : Group). list ++ (g ∷ filled_by rest (drop (suc (length list)) units)
    (drop (suc (length list)) members))) is
    ∙ ap (λ (us : List (List ℕ)). list ++ filled_by (group ∷ rest) us (held ∷ drop (suc (length list)) members))
    (sym (front_of units (length list) own inside here))
    ∙ ap (λ (ms : List (List ℕ)). list ++ filled_by (group ∷ rest) (drop (length list) units) ms)
    (sym (front_of members (length list) held within there))
    ∙ so
