-- Names and types are read exactly.
use Rattle.std.proofs.Common.{◌≡◌, ℕ, zero, suc, List, refl, sym, subst}
use Rattle.cm_bytes.specs.Fields.{Step, IsReadAgain}
use Rattle.sml_syntax.specs.Code.{name_of, long_of, ty_of, ty_field_of, ty_level, ty_field_level}
use Rattle.sml_syntax.specs.Steps.{or_tag, IsExact}
use Rattle.sml_syntax.specs.Reading.{nowhere, name_nowhere, long_nowhere, name_at, long_at, IsName, IsLong, ty_field_at, ty_table, ty_at, IsTyField, ty_is, IsTy}
use Rattle.sml_syntax.proofs.Exact.{made_exact, both_exact, text_exact, list_exact, tagged_spelled, tagged_again, no_tag_spells, or_tag_spells}
use Rattle.sml_syntax.proofs.Level.{ty_of-Var, ty_of-Record, ty_of-Named, ty_of-Arrow}
use Rattle.sml_trees.specs.declared.name.At.{At}
use Rattle.sml_trees.specs.declared.name.Name.{Name}
use Rattle.sml_trees.specs.declared.name.LongName.{LongName}
use Rattle.sml_trees.specs.declared.ty.Ty.{Ty, out-Ty, roll-Ty, roll-out-Ty, out-roll-Ty}
use Rattle.sml_trees.specs.declared.ty.Ty.TheOpen.{Ty-F}
use Rattle.sml_trees.specs.declared.ty.Ty.TheFolds.{fold-roll-TyField}
use Rattle.sml_trees.specs.declared.ty.Ty.TheVariants as ty
use Rattle.sml_trees.specs.declared.ty.TyField.{TyField, out-TyField, roll-TyField, roll-out-TyField, out-roll-TyField}

pub name_exact : IsExact name_of name_at IsName
unfolding name_at
name_exact = made_exact name_of IsName name_nowhere (λ (name : Name). name.text) text_exact
    (λ text fits. refl) (λ text short. record { short = short; at = refl }) (λ name is. (sym is.at, is.short))

pub long_exact : IsExact long_of long_at IsLong
unfolding long_at
long_exact = made_exact long_of IsLong long_nowhere (λ (long : LongName). long.parts) (list_exact text_exact)
    (λ parts fits. refl) (λ parts fits. record { short = fits.0; each = fits.1; at = refl })
    (λ long is. (sym is.at, (is.short, is.each)))

pub ty_field_exact : (part_at : Step Ty) (Is : Ty → Type 0) → IsExact ty_of part_at Is
    → IsExact ty_field_of (ty_field_at part_at) (IsTyField Is)
unfolding ty_field_at
ty_field_exact part_at Is part =
    made_exact ty_field_of (IsTyField Is) (λ (p : Name × Ty). roll-TyField (record { label = p.0; ty = p.1 }))
    (λ (field : TyField). ((out-TyField field).label, (out-TyField field).ty)) (both_exact name_exact part)
    (λ p fits. fold-roll-TyField _ _ ty_level ty_field_level (record { label = p.0; ty = p.1 }))
    (λ p fits. subst (λ l. IsName l.label × Is l.ty) (sym (out-roll-TyField (record { label = p.0; ty = p.1 }))) fits)
    (λ field is. (roll-out-TyField field, is))

-- a level that is one makes a type that is one
ty_made : (n : ℕ) (l : Ty-F Ty TyField) (x : Ty) → roll-Ty l ≡ x → ty_is (IsTy n) l → IsTy (suc n) x
ty_made n l x is fits =
    subst (IsTy (suc n)) is (subst (ty_is (IsTy n)) (sym (out-roll-Ty l)) fits)

ty_deeper : (n : ℕ) → IsExact ty_of (ty_at n) (IsTy n) → IsExact ty_of (ty_at (suc n)) (IsTy (suc n))
unfolding or_tag
ty_deeper n within = record {
  again = λ x fits. subst (IsReadAgain ty_of (ty_at (suc n))) (roll-out-Ty x) (level (out-Ty x) fits);
  spelled = tagged_spelled (
      or_tag_spells 48 (λ name. ty.Var name nowhere) name_exact (λ name. ty_of-Var name nowhere)
      (λ name fits. ty_made n (Ty-F.Var name nowhere) _ (ty.rolls-Var name nowhere) (fits, refl)) (
      or_tag_spells 49 (λ fields. ty.Record fields nowhere) (list_exact (ty_field_exact (ty_at n) (IsTy n) within)) (λ fields. ty_of-Record fields nowhere)
      (λ fields fits. ty_made n (Ty-F.Record fields nowhere) _ (ty.rolls-Record fields nowhere) (fits, refl)) (
      or_tag_spells 50 (λ (p : List Ty × LongName). ty.Named p.0 p.1 nowhere) (both_exact (list_exact within) long_exact)
      (λ p. ty_of-Named p.0 p.1 nowhere)
      (λ p fits. ty_made n (Ty-F.Named p.0 p.1 nowhere) _ (ty.rolls-Named p.0 p.1 nowhere) (fits, refl)) (
      or_tag_spells 51 (λ (p : Ty × Ty). ty.Arrow p.0 p.1 nowhere) (both_exact within within) (λ p. ty_of-Arrow p.0 p.1 nowhere)
      (λ p fits. ty_made n (Ty-F.Arrow p.0 p.1 nowhere) _ (ty.rolls-Arrow p.0 p.1 nowhere) (fits, refl))
      (no_tag_spells ty_of (IsTy (suc n)))))));
}
  where
    level : (l : Ty-F Ty TyField) → ty_is (IsTy n) l → IsReadAgain ty_of (ty_at (suc n)) (roll-Ty l)
    level (Ty-F.Var name at) fits =
        subst (λ (a : At). IsReadAgain ty_of (ty_at (suc n)) (roll-Ty (Ty-F.Var name a))) (sym fits.1)
        (subst (IsReadAgain ty_of (ty_at (suc n))) (sym (ty.rolls-Var name nowhere))
        (tagged_again ty_of (ty_table (ty_at n)) 48 (λ name. ty.Var name nowhere) name_exact name fits.0 (ty_of-Var name nowhere) refl))
    level (Ty-F.Record fields at) fits =
        subst (λ (a : At). IsReadAgain ty_of (ty_at (suc n)) (roll-Ty (Ty-F.Record fields a))) (sym fits.1)
        (subst (IsReadAgain ty_of (ty_at (suc n))) (sym (ty.rolls-Record fields nowhere))
        (tagged_again ty_of (ty_table (ty_at n)) 49 (λ fields. ty.Record fields nowhere) (list_exact (ty_field_exact (ty_at n) (IsTy n) within)) fields fits.0
        (ty_of-Record fields nowhere) refl))
    level (Ty-F.Named args long at) fits =
        subst (λ (a : At). IsReadAgain ty_of (ty_at (suc n)) (roll-Ty (Ty-F.Named args long a))) (sym fits.1)
        (subst (IsReadAgain ty_of (ty_at (suc n))) (sym (ty.rolls-Named args long nowhere))
        (tagged_again ty_of (ty_table (ty_at n)) 50 (λ (p : List Ty × LongName). ty.Named p.0 p.1 nowhere) (both_exact (list_exact within) long_exact)
        (args, long) fits.0 (ty_of-Named args long nowhere) refl))
    level (Ty-F.Arrow from to at) fits =
        subst (λ (a : At). IsReadAgain ty_of (ty_at (suc n)) (roll-Ty (Ty-F.Arrow from to a))) (sym fits.1)
        (subst (IsReadAgain ty_of (ty_at (suc n))) (sym (ty.rolls-Arrow from to nowhere))
        (tagged_again ty_of (ty_table (ty_at n)) 51 (λ (p : Ty × Ty). ty.Arrow p.0 p.1 nowhere) (both_exact within within)
        (from, to) fits.0 (ty_of-Arrow from to nowhere) refl))

pub ty_exact : (n : ℕ) → IsExact ty_of (ty_at n) (IsTy n)
ty_exact zero = record {
  again = λ x fits. absurd fits;
  spelled = record { takes = λ bytes x rest h e. absurd cc; fits = λ bytes x rest h e. absurd cc };
}
ty_exact (suc n) = ty_deeper n (ty_exact n)
