-- The places of names, types and bindings don't show in their bytes.
use Rattle.std.proofs.Common.{◌≡◌, ℕ, List, [], ◌∷◌, ◌++◌, Option, Some, None, map, option_map, refl, sym, ap, ap₂, ◌∙◌, subst}
use Rattle.cm_bytes.specs.Fields.{list_of}
use Rattle.sml_syntax.specs.Code.{parts, option_of, name_of, long_of, ty_of, ty_field_of, ty_level, ty_field_level, typ_bind_of, con_bind_of, dat_bind_of, ex_body_of, ex_bind_of, val_desc_of, typ_desc_of}
use Rattle.sml_syntax.specs.Places.{unplaced_name, unplaced_long, ty_unplaced, ty_field_unplaced, unplaced_ty, unplaced_ty_field, unplaced_typ_bind, unplaced_con_bind, unplaced_dat_bind, unplaced_ex_body, unplaced_ex_bind, unplaced_val_desc, unplaced_typ_desc}
use Rattle.sml_syntax.proofs.Level.{parts_map}
use Rattle.sml_trees.specs.declared.name.Name.{Name}
use Rattle.sml_trees.specs.declared.name.LongName.{LongName}
use Rattle.sml_trees.specs.declared.ty.Ty.{Ty, roll-Ty}
use Rattle.sml_trees.specs.declared.ty.TyField.{TyField, roll-TyField}
use Rattle.sml_trees.specs.declared.ty.Ty.TheOpen.{Ty-F, TyField-F}
use Rattle.sml_trees.specs.declared.ty.Ty.TheFolds.{map-Ty, map-TyField, fold-roll-Ty, fold-roll-TyField, ind-Ty, ind-TyField}
use Rattle.sml_trees.specs.declared.ty.TypBind.{TypBind}
use Rattle.sml_trees.specs.declared.ty.ConBind.{ConBind}
use Rattle.sml_trees.specs.declared.ty.DatBind.{DatBind}
use Rattle.sml_trees.specs.declared.ty.ExBind.{ExBind}
use Rattle.sml_trees.specs.declared.ty.ValDesc.{ValDesc}
use Rattle.sml_trees.specs.declared.ty.TypDesc.{TypDesc}
use Rattle.sml_trees.specs.declared.ty.ExBody.{ExBody}
use Rattle.sml_trees.specs.declared.ty.ExBody.TheVariants as exn

pub ap₃ : {A B C D : Type 0} (f : A → B → C → D) {a a' : A} {b b' : B} {c c' : C} → a ≡ a' → b ≡ b' → c ≡ c'
    → f a b c ≡ f a' b' c'
ap₃ {A} {B} {C} {D} f p q r = ap₂ (λ (h : C → D) (c : C). h c) (ap₂ f p q) r

-- ---- lists

pub each_same : {A : Type 0} (item_of : A → List ℕ) (f : A → A) → ((x : A) → item_of (f x) ≡ item_of x)
    → (xs : List A) → map item_of (map f xs) ≡ map item_of xs
each_same item_of f same [] = refl
each_same item_of f same (x ∷ xs) = ap₂ (λ s ss. s ∷ ss) (same x) (each_same item_of f same xs)

pub list_same : {A : Type 0} (item_of : A → List ℕ) (f : A → A) → ((x : A) → item_of (f x) ≡ item_of x)
    → (xs : List A) → list_of item_of (map f xs) ≡ list_of item_of xs
list_same item_of f same xs =
    sym (parts_map item_of (map f xs)) ∙ ap parts (each_same item_of f same xs) ∙ parts_map item_of xs

-- the same where the proof stands beside each item
pub held_same : {A : Type 0} (item_of : A → List ℕ) (f : A → A) (es : List ((x : A) × (item_of (f x) ≡ item_of x)))
    → map item_of (map f (map (λ e. e.0) es)) ≡ map item_of (map (λ e. e.0) es)
held_same item_of f [] = refl
held_same item_of f (e ∷ es) = ap₂ (λ s ss. s ∷ ss) e.1 (held_same item_of f es)

pub option_same : {A : Type 0} (item_of : A → List ℕ) (f : A → A) → ((x : A) → item_of (f x) ≡ item_of x)
    → (x : Option A) → option_of item_of (option_map f x) ≡ option_of item_of x
option_same item_of f same None = refl
option_same item_of f same (Some x) = ap (λ s. 1 ∷ s) (same x)

pub names_same : (xs : List Name) → list_of name_of (map unplaced_name xs) ≡ list_of name_of xs
names_same = list_same name_of unplaced_name (λ x. refl)

pub longs_same : (xs : List LongName) → list_of long_of (map unplaced_long xs) ≡ list_of long_of xs
longs_same = list_same long_of unplaced_long (λ x. refl)

-- ---- types

abbrev SameTy : Ty → Type 0
SameTy x = ty_of (unplaced_ty x) ≡ ty_of x

abbrev HeldTy : Type 0
HeldTy = (x : Ty) × SameTy x

abbrev SameTyField : TyField → Type 0
SameTyField x = ty_field_of (unplaced_ty_field x) ≡ ty_field_of x

abbrev HeldTyField : Type 0
HeldTyField = (x : TyField) × SameTyField x

ty_parts_same : (y : Ty-F HeldTy HeldTyField)
    → ty_level (map-Ty _ _ _ _ ty_of ty_field_of (ty_unplaced (map-Ty _ _ _ _ unplaced_ty unplaced_ty_field (map-Ty _ _ _ _ (λ e. e.0) (λ e. e.0) y))))
    ≡ ty_level (map-Ty _ _ _ _ ty_of ty_field_of (map-Ty _ _ _ _ (λ e. e.0) (λ e. e.0) y))
ty_parts_same (Ty-F.Var a at) = refl
ty_parts_same (Ty-F.Record a at) = ap (λ s. 49 ∷ parts s) (held_same ty_field_of unplaced_ty_field a)
ty_parts_same (Ty-F.Named a b at) = ap (λ s. 50 ∷ (parts s ++ long_of b)) (held_same ty_of unplaced_ty a)
ty_parts_same (Ty-F.Arrow a b at) = ap₂ (λ s t. 51 ∷ (s ++ t)) (a.1) (b.1)

ty_step : (x : Ty-F Ty TyField) (y : Ty-F HeldTy HeldTyField) → map-Ty _ _ _ _ (λ e. e.0) (λ e. e.0) y ≡ x → SameTy (roll-Ty x)
ty_step x y is = subst (λ (z : Ty-F Ty TyField). SameTy (roll-Ty z)) is (
    ap ty_of (fold-roll-Ty _ _ (λ x. roll-Ty (ty_unplaced x)) (λ x. roll-TyField (ty_field_unplaced x)) z)
    ∙ fold-roll-Ty _ _ ty_level ty_field_level (ty_unplaced (map-Ty _ _ _ _ unplaced_ty unplaced_ty_field z))
    ∙ ty_parts_same y
    ∙ sym (fold-roll-Ty _ _ ty_level ty_field_level z))
  where
    z : Ty-F Ty TyField
    z = map-Ty _ _ _ _ (λ e. e.0) (λ e. e.0) y

ty_field_parts_same : (y : TyField-F HeldTy HeldTyField)
    → ty_field_level (map-TyField _ _ _ _ ty_of ty_field_of (ty_field_unplaced (map-TyField _ _ _ _ unplaced_ty unplaced_ty_field (map-TyField _ _ _ _ (λ e. e.0) (λ e. e.0) y))))
    ≡ ty_field_level (map-TyField _ _ _ _ ty_of ty_field_of (map-TyField _ _ _ _ (λ e. e.0) (λ e. e.0) y))
ty_field_parts_same y = ap (λ s. (name_of y.label ++ s)) (y.ty.1)

ty_field_step : (x : TyField-F Ty TyField) (y : TyField-F HeldTy HeldTyField) → map-TyField _ _ _ _ (λ e. e.0) (λ e. e.0) y ≡ x → SameTyField (roll-TyField x)
ty_field_step x y is = subst (λ (z : TyField-F Ty TyField). SameTyField (roll-TyField z)) is (
    ap ty_field_of (fold-roll-TyField _ _ (λ x. roll-Ty (ty_unplaced x)) (λ x. roll-TyField (ty_field_unplaced x)) z)
    ∙ fold-roll-TyField _ _ ty_level ty_field_level (ty_field_unplaced (map-TyField _ _ _ _ unplaced_ty unplaced_ty_field z))
    ∙ ty_field_parts_same y
    ∙ sym (fold-roll-TyField _ _ ty_level ty_field_level z))
  where
    z : TyField-F Ty TyField
    z = map-TyField _ _ _ _ (λ e. e.0) (λ e. e.0) y

pub ty_same : (x : Ty) → SameTy x
ty_same = ind-Ty SameTy SameTyField ty_step ty_field_step

pub ty_field_same : (x : TyField) → SameTyField x
ty_field_same = ind-TyField SameTy SameTyField ty_step ty_field_step

-- ---- bindings of names and types

pub typ_bind_same : (x : TypBind) → typ_bind_of (unplaced_typ_bind x) ≡ typ_bind_of x
typ_bind_same x = ap₂ (λ s t. (s ++ (name_of x.name ++ t))) (names_same x.tyvars) (ty_same x.ty)

pub con_bind_same : (x : ConBind) → con_bind_of (unplaced_con_bind x) ≡ con_bind_of x
con_bind_same x = ap (λ s. (name_of x.name ++ s)) (option_same ty_of unplaced_ty ty_same x.arg)

pub dat_bind_same : (x : DatBind) → dat_bind_of (unplaced_dat_bind x) ≡ dat_bind_of x
dat_bind_same x = ap₂ (λ s t. (s ++ (name_of x.name ++ t))) (names_same x.tyvars) (list_same con_bind_of unplaced_con_bind con_bind_same x.cons)

pub ex_body_same : (x : ExBody) → ex_body_of (unplaced_ex_body x) ≡ ex_body_of x
ex_body_same exn.Plain = refl
ex_body_same (exn.Of ty) = ap (λ s. 1 ∷ s) (ty_same ty)
ex_body_same (exn.Copy long) = refl

pub ex_bind_same : (x : ExBind) → ex_bind_of (unplaced_ex_bind x) ≡ ex_bind_of x
ex_bind_same x = ap (λ s. (name_of x.name ++ s)) (ex_body_same x.body)

pub val_desc_same : (x : ValDesc) → val_desc_of (unplaced_val_desc x) ≡ val_desc_of x
val_desc_same x = ap (λ s. (name_of x.name ++ s)) (ty_same x.ty)

pub typ_desc_same : (x : TypDesc) → typ_desc_of (unplaced_typ_desc x) ≡ typ_desc_of x
typ_desc_same x = ap (λ s. (s ++ name_of x.name)) (names_same x.tyvars)
