-- Lists that are gone through from their front, with what is left of them.
use Rattle.std.proofs.Common.{◌≡◌, ℕ, ◌+◌, ◌<◌, ◌≤◌, refl, sym, ap, ◌∙◌, List, [], ◌∷◌, ◌++◌, length, drop, get_or, Bool, true, false, ◌&&◌}
use Rattle.std.specs.List.{list_all}
use Rattle.std.proofs.lemmas.List.{append-nil, append_assoc, drop_all}
use Rattle.semantic_objects.specs.declared.name.TyName.{TyName}
use Rattle.type_walks.proofs.Imaging.{rest_at}
use Rattle.imported_interfaces.specs.Known.{noted, noted_all}

-- the next item and the rest
pub left_at : (names items : List TyName) (i : ℕ) (x : TyName) → items ≡ names → i < length items
    → x ≡ get_or items i x → drop i names ≡ x ∷ drop (i + 1) names
left_at names items i x e h is = rest_at names items i x e h ∙ ap (λ z. z ∷ drop (i + 1) names) (sym is)

pub none_left : (names items : List TyName) (i : ℕ) → items ≡ names → length items ≤ i → drop i names ≡ []
none_left names items i e h = ap (drop i) (sym e) ∙ drop_all i items h

-- one more was added
pub added_next : (known new left rest total : List TyName) (x : TyName) → new ≡ known ++ x ∷ [] → left ≡ x ∷ rest
    → known ++ left ≡ total → new ++ rest ≡ total
added_next known new left rest total x e l h =
    ap (λ z. z ++ rest) e ∙ append_assoc known (x ∷ []) rest ∙ ap (λ z. known ++ z) (sym l) ∙ h

pub added_all : (known left total : List TyName) → left ≡ [] → known ++ left ≡ total → known ≡ total
added_all known left total l h = sym (append-nil known) ∙ ap (λ z. known ++ z) (sym l) ∙ h

-- one more was noted
pub noted_next : (known new left rest total : List TyName) (x : TyName) → new ≡ noted known x → left ≡ x ∷ rest
    → noted_all known left ≡ total → noted_all new rest ≡ total
noted_next known new left rest total x e l h =
    ap (λ z. noted_all z rest) e ∙ ap (noted_all known) (sym l) ∙ h

pub noted_every : (known left total : List TyName) → left ≡ [] → noted_all known left ≡ total → known ≡ total
noted_every known left total l h = ap (noted_all known) (sym l) ∙ h

-- one more is so, or isn't
pub all_next : (f : TyName → Bool) (left rest : List TyName) (x : TyName) (b : Bool) → left ≡ x ∷ rest → f x ≡ true
    → list_all f left ≡ b → list_all f rest ≡ b
all_next f left rest x b l e h = sym (ap (λ z. z && list_all f rest) e) ∙ ap (list_all f) (sym l) ∙ h

pub not_all : (f : TyName → Bool) (left rest : List TyName) (x : TyName) (b : Bool) → left ≡ x ∷ rest → f x ≡ false
    → list_all f left ≡ b → false ≡ b
not_all f left rest x b l e h = sym (ap (λ z. z && list_all f rest) e) ∙ ap (list_all f) (sym l) ∙ h

pub all_so : (f : TyName → Bool) (left : List TyName) (b : Bool) → left ≡ [] → list_all f left ≡ b → true ≡ b
all_so f left b l h = ap (list_all f) (sym l) ∙ h
