-- Low types, and the bindings that are made of names and types, have a code where their bytes are few enough.
use Rattle.std.proofs.Common.{◌≡◌, ℕ, zero, suc, ◌≤◌, List, ◌++◌, map, Option, Some, None, option_map, refl, sym, ap, subst, ◌∙◌, arith}
use Rattle.cm_bytes.specs.Fields.{list_of}
use Rattle.sml_trees.specs.declared.ty.Ty.{Ty, out-Ty, roll-Ty, roll-out-Ty, out-roll-Ty}
use Rattle.sml_trees.specs.declared.ty.Ty.TheOpen.{Ty-F, TyField-F}
use Rattle.sml_trees.specs.declared.ty.Ty.TheFolds.{map-Ty, map-TyField, fold-roll-Ty, fold-roll-TyField}
use Rattle.sml_trees.specs.declared.ty.TyField.{TyField, out-TyField, roll-TyField, roll-out-TyField, out-roll-TyField}
use Rattle.sml_trees.specs.declared.ty.TypBind.{TypBind}
use Rattle.sml_trees.specs.declared.ty.ConBind.{ConBind}
use Rattle.sml_trees.specs.declared.ty.DatBind.{DatBind}
use Rattle.sml_trees.specs.declared.ty.ExBind.{ExBind}
use Rattle.sml_trees.specs.declared.ty.ExBody.{ExBody}
use Rattle.sml_trees.specs.declared.ty.ExBody.TheVariants as exn
use Rattle.sml_trees.specs.declared.ty.ValDesc.{ValDesc}
use Rattle.sml_trees.specs.declared.ty.TypDesc.{TypDesc}
use Rattle.sml_syntax.specs.Code.{parts, option_of, name_of, long_of, ty_of, ty_field_of, ty_level, ty_field_level, typ_bind_of, con_bind_of, dat_bind_of, ex_body_of, ex_bind_of, val_desc_of, typ_desc_of}
use Rattle.sml_syntax.specs.Places.{ty_unplaced, ty_field_unplaced, unplaced_ty, unplaced_ty_field, unplaced_typ_bind, unplaced_con_bind, unplaced_dat_bind, unplaced_ex_body, unplaced_ex_bind, unplaced_val_desc, unplaced_typ_desc}
use Rattle.sml_syntax.specs.Reading.{IsName, AreAll, IfThere, IsTyField, ty_is, IsTy}
use Rattle.sml_syntax.specs.ReadingBinds.{IsTypBind, IsConBind, IsDatBind, IsValDesc, IsTypDesc, IsExBody, IsExBind}
use Rattle.tree_heights.specs.Heights.{highest, ty_step, ty_field_step, ty_height, ty_field_height, optional_height, con_height, dat_height, typ_bind_height, ex_body_height, ex_height, val_desc_height}
use Rattle.code_laws.proofs.Lists.{Small, Full, small_left, small_right, small_tail, full_left, text_full, list_full, each_any, each_low, Reads, list_reads, parts_read, name_reads, names_read, long_reads}

-- ---- types

abbrev LowTy : ℕ → Ty → Type 0
LowTy n x = ty_height x ≤ n

abbrev LowField : ℕ → TyField → Type 0
LowField n x = ty_field_height x ≤ n

abbrev pub TyReads : ℕ → Type 0
TyReads n = Reads ty_of unplaced_ty (LowTy n) (IsTy n)

-- a level of a type, with what is made of its parts
abbrev heights_of : Ty-F Ty TyField → Ty-F ℕ ℕ
heights_of = map-Ty _ _ _ _ ty_height ty_field_height

abbrev bytes_of : Ty-F Ty TyField → Ty-F (List ℕ) (List ℕ)
bytes_of = map-Ty _ _ _ _ ty_of ty_field_of

abbrev bare_of : Ty-F Ty TyField → Ty-F Ty TyField
bare_of = map-Ty _ _ _ _ unplaced_ty unplaced_ty_field

level_full : (l : Ty-F Ty TyField) → Full (ty_level (bytes_of l))
level_full (Ty-F.Var name at) = omega arith
level_full (Ty-F.Record fields at) = omega arith
level_full (Ty-F.Named args long at) = omega arith
level_full (Ty-F.Arrow from to at) = omega arith

bytes-is : (x : Ty) → ty_of x ≡ ty_level (bytes_of (out-Ty x))
bytes-is x = ap ty_of (sym (roll-out-Ty x)) ∙ fold-roll-Ty _ _ ty_level ty_field_level (out-Ty x)

ty_full : (x : Ty) → Full (ty_of x)
ty_full x = subst Full (sym (bytes-is x)) (level_full (out-Ty x))

field-bytes : (x : TyField) → ty_field_of x ≡ name_of (out-TyField x).label ++ ty_of (out-TyField x).ty
field-bytes x =
    ap ty_field_of (sym (roll-out-TyField x)) ∙ fold-roll-TyField _ _ ty_level ty_field_level (out-TyField x)

field_full : (x : TyField) → Full (ty_field_of x)
field_full x =
    subst Full (sym (field-bytes x)) (full_left (name_of (out-TyField x).label) _ (text_full (out-TyField x).label.text))

-- over types of one level less
module _ (n : ℕ) (below : TyReads n) where
  field_reads : Reads ty_field_of unplaced_ty_field (LowField n) (IsTyField (IsTy n))
  field_reads x low small =
      let l = out-TyField x in
      let few : Small (name_of l.label ++ ty_of l.ty) = subst Small (field-bytes x) small in
      let under : ty_height l.ty ≤ n =
      subst (λ (h : ℕ). h ≤ n) (ap ty_field_height (sym (roll-out-TyField x)) ∙ fold-roll-TyField _ _ ty_step ty_field_step l) low in
      let made : out-TyField (unplaced_ty_field x) ≡ ty_field_unplaced (map-TyField _ _ _ _ unplaced_ty unplaced_ty_field l) =
      ap (λ (y : TyField). out-TyField (unplaced_ty_field y)) (sym (roll-out-TyField x))
      ∙ ap out-TyField (fold-roll-TyField _ _ (λ y. roll-Ty (ty_unplaced y)) (λ y. roll-TyField (ty_field_unplaced y)) l)
      ∙ out-roll-TyField (ty_field_unplaced (map-TyField _ _ _ _ unplaced_ty unplaced_ty_field l)) in
      subst (λ (f : TyField-F Ty TyField). IsName f.label × IsTy n f.ty) (sym made)
      (name_reads l.label (small_left (name_of l.label) (ty_of l.ty) few), below l.ty under (small_right (name_of l.label) (ty_of l.ty) few))

  level_reads : (l : Ty-F Ty TyField) → ty_step (heights_of l) ≤ suc n → Small (ty_level (bytes_of l))
      → ty_is (IsTy n) (ty_unplaced (bare_of l))
  level_reads (Ty-F.Var name at) low small = (name_reads name (small_tail 48 (name_of name) small), refl)
  level_reads (Ty-F.Record fields at) low small = (
    parts_read ty_field_of unplaced_ty_field (LowField n) (IsTyField (IsTy n)) field_full field_reads fields
        (each_low ty_field_height n fields (omega arith)) (small_tail 49 (parts (map ty_field_of fields)) small),
    refl,
  )
  level_reads (Ty-F.Named args long at) low small =
      let few = small_tail 50 (parts (map ty_of args) ++ long_of long) small in (
        (
          parts_read ty_of unplaced_ty (LowTy n) (IsTy n) ty_full below args (each_low ty_height n args (omega arith))
              (small_left (parts (map ty_of args)) (long_of long) few),
          long_reads long (small_right (parts (map ty_of args)) (long_of long) few),
        ),
        refl,
      )
  level_reads (Ty-F.Arrow from to at) low small =
      let few = small_tail 51 (ty_of from ++ ty_of to) small in (
        (
          below from (omega arith) (small_left (ty_of from) (ty_of to) few),
          below to (omega arith) (small_right (ty_of from) (ty_of to) few),
        ),
        refl,
      )

  deeper : TyReads (suc n)
  deeper x low small =
      let l = out-Ty x in
      let under : ty_step (heights_of l) ≤ suc n =
      subst (λ (h : ℕ). h ≤ suc n) (ap ty_height (sym (roll-out-Ty x)) ∙ fold-roll-Ty _ _ ty_step ty_field_step l) low in
      let made : out-Ty (unplaced_ty x) ≡ ty_unplaced (bare_of l) =
      ap (λ (y : Ty). out-Ty (unplaced_ty y)) (sym (roll-out-Ty x))
      ∙ ap out-Ty (fold-roll-Ty _ _ (λ y. roll-Ty (ty_unplaced y)) (λ y. roll-TyField (ty_field_unplaced y)) l)
      ∙ out-roll-Ty (ty_unplaced (bare_of l)) in
      subst (ty_is (IsTy n)) (sym made) (level_reads l under (subst Small (bytes-is x) small))

level_tall : (l : Ty-F Ty TyField) → ty_step (heights_of l) ≤ 0 → ⊥
level_tall (Ty-F.Var name at) low = omega arith
level_tall (Ty-F.Record fields at) low = omega arith
level_tall (Ty-F.Named args long at) low = omega arith
level_tall (Ty-F.Arrow from to at) low = omega arith

pub ty_reads : (n : ℕ) → TyReads n
ty_reads zero x low small =
    absurd (level_tall (out-Ty x) (subst (λ (h : ℕ). h ≤ 0)
    (ap ty_height (sym (roll-out-Ty x)) ∙ fold-roll-Ty _ _ ty_step ty_field_step (out-Ty x)) low))
ty_reads (suc n) x low small = deeper n (ty_reads n) x low small

-- a type that may be absent
pub if_ty_reads : (n : ℕ) (x : Option Ty) → optional_height x ≤ n → Small (option_of ty_of x)
    → IfThere (IsTy n) (option_map unplaced_ty x)
if_ty_reads n None low small = tt
if_ty_reads n (Some x) low small = ty_reads n x low (small_tail 1 (ty_of x) small)

-- ---- bindings

pub typ_bind_reads : (n : ℕ) → Reads typ_bind_of unplaced_typ_bind (λ x. typ_bind_height x ≤ n) (IsTypBind n)
typ_bind_reads n x low small =
    let vars = list_of name_of x.tyvars in
    let rest = small_right vars (name_of x.name ++ ty_of x.ty) small in (
      names_read x.tyvars (small_left vars (name_of x.name ++ ty_of x.ty) small),
      (
        name_reads x.name (small_left (name_of x.name) (ty_of x.ty) rest),
        ty_reads n x.ty low (small_right (name_of x.name) (ty_of x.ty) rest),
      ),
    )

pub typ_bind_full : (x : TypBind) → Full (typ_bind_of x)
typ_bind_full x = full_left (list_of name_of x.tyvars) _ (list_full name_of x.tyvars)

pub con_bind_reads : (n : ℕ) → Reads con_bind_of unplaced_con_bind (λ x. con_height x ≤ n) (IsConBind n)
con_bind_reads n x low small = (
  name_reads x.name (small_left (name_of x.name) (option_of ty_of x.arg) small),
  if_ty_reads n x.arg low (small_right (name_of x.name) (option_of ty_of x.arg) small),
)

pub con_bind_full : (x : ConBind) → Full (con_bind_of x)
con_bind_full x = full_left (name_of x.name) _ (text_full x.name.text)

pub con_binds_read : (n : ℕ) (xs : List ConBind) → highest (map con_height xs) ≤ n → Small (list_of con_bind_of xs)
    → AreAll (IsConBind n) (map unplaced_con_bind xs)
con_binds_read n xs low small =
    list_reads con_bind_of unplaced_con_bind (λ x. con_height x ≤ n) (IsConBind n) con_bind_full (con_bind_reads n) xs
    (each_low con_height n xs low) small

pub dat_bind_reads : (n : ℕ) → Reads dat_bind_of unplaced_dat_bind (λ x. dat_height x ≤ n) (IsDatBind n)
dat_bind_reads n x low small =
    let vars = list_of name_of x.tyvars in
    let cons = list_of con_bind_of x.cons in
    let rest = small_right vars (name_of x.name ++ cons) small in (
      names_read x.tyvars (small_left vars (name_of x.name ++ cons) small),
      (
        name_reads x.name (small_left (name_of x.name) cons rest),
        con_binds_read n x.cons low (small_right (name_of x.name) cons rest),
      ),
    )

pub dat_bind_full : (x : DatBind) → Full (dat_bind_of x)
dat_bind_full x = full_left (list_of name_of x.tyvars) _ (list_full name_of x.tyvars)

pub dat_binds_read : (n : ℕ) (xs : List DatBind) → highest (map dat_height xs) ≤ n → Small (list_of dat_bind_of xs)
    → AreAll (IsDatBind n) (map unplaced_dat_bind xs)
dat_binds_read n xs low small =
    list_reads dat_bind_of unplaced_dat_bind (λ x. dat_height x ≤ n) (IsDatBind n) dat_bind_full (dat_bind_reads n) xs
    (each_low dat_height n xs low) small

ex_body_reads : (n : ℕ) (x : ExBody) → ex_body_height x ≤ n → Small (ex_body_of x) → IsExBody n (unplaced_ex_body x)
ex_body_reads n exn.Plain low small = tt
ex_body_reads n (exn.Of ty) low small = ty_reads n ty low (small_tail 1 (ty_of ty) small)
ex_body_reads n (exn.Copy long) low small = long_reads long (small_tail 2 (long_of long) small)

pub ex_bind_reads : (n : ℕ) → Reads ex_bind_of unplaced_ex_bind (λ x. ex_height x ≤ n) (IsExBind n)
ex_bind_reads n x low small = (
  name_reads x.name (small_left (name_of x.name) (ex_body_of x.body) small),
  ex_body_reads n x.body low (small_right (name_of x.name) (ex_body_of x.body) small),
)

pub ex_bind_full : (x : ExBind) → Full (ex_bind_of x)
ex_bind_full x = full_left (name_of x.name) _ (text_full x.name.text)

pub val_desc_reads : (n : ℕ) → Reads val_desc_of unplaced_val_desc (λ x. val_desc_height x ≤ n) (IsValDesc n)
val_desc_reads n x low small = (
  name_reads x.name (small_left (name_of x.name) (ty_of x.ty) small),
  ty_reads n x.ty low (small_right (name_of x.name) (ty_of x.ty) small),
)

pub val_desc_full : (x : ValDesc) → Full (val_desc_of x)
val_desc_full x = full_left (name_of x.name) _ (text_full x.name.text)

pub typ_desc_reads : (n : ℕ) → Reads typ_desc_of unplaced_typ_desc (λ x. Unit {0}) (IsTypDesc n)
typ_desc_reads n x low small = (
  names_read x.tyvars (small_left (list_of name_of x.tyvars) (name_of x.name) small),
  name_reads x.name (small_right (list_of name_of x.tyvars) (name_of x.name) small),
)

pub typ_desc_full : (x : TypDesc) → Full (typ_desc_of x)
typ_desc_full x = full_left (list_of name_of x.tyvars) _ (list_full name_of x.tyvars)

pub typ_descs_read : (n : ℕ) (xs : List TypDesc) → Small (list_of typ_desc_of xs)
    → AreAll (IsTypDesc n) (map unplaced_typ_desc xs)
typ_descs_read n xs small =
    list_reads typ_desc_of unplaced_typ_desc (λ x. Unit {0}) (IsTypDesc n) typ_desc_full (typ_desc_reads n) xs
    (each_any xs) small
