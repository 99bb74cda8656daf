-- Patterns are read exactly.
use Rattle.std.proofs.Common.{◌≡◌, ℕ, ℤ, zero, suc, List, [], ◌∷◌, ◌++◌, Option, refl, sym, ap, subst, ◌∙◌}
use Rattle.cm_bytes.specs.Fields.{IsReadAgain, text_of, list_of}
use Rattle.sml_syntax.specs.Steps.{or_tag, tagged, IsExact}
use Rattle.sml_syntax.proofs.Exact.{made_exact, both_exact, text_exact, list_exact, byte_exact, int_exact, nothing_exact, option_exact, none_exact, tagged_spelled, tagged_again, no_tag_spells, or_tag_spells}
use Rattle.sml_syntax.proofs.ReadTy.{name_exact, long_exact, ty_exact}
use Rattle.sml_syntax.proofs.Level.{parts_map}
use Rattle.sml_syntax.specs.Code.{int_of, long_of, name_of, option_of, pat_field_level, pat_field_of, pat_level, pat_of, ty_of}
use Rattle.sml_syntax.specs.Reading.{nowhere, IsName}
use Rattle.sml_syntax.specs.ReadingPat.{pat_field_at, IsPatField, pat_table, pat_level_is, pat_steps, pat_is}
use Rattle.sml_trees.specs.declared.name.At.{At}
use Rattle.sml_trees.specs.declared.name.Name.{Name}
use Rattle.sml_trees.specs.declared.name.LongName.{LongName}
use Rattle.sml_trees.specs.declared.ty.Ty.{Ty}
use Rattle.sml_trees.specs.declared.pat.Pat.{Pat, out-Pat, roll-Pat, roll-out-Pat, out-roll-Pat}
use Rattle.sml_trees.specs.declared.pat.Pat.TheOpen.{Pat-F}
use Rattle.sml_trees.specs.declared.pat.Pat.TheVariants as pat
use Rattle.sml_trees.specs.declared.pat.PatField.{PatField, out-PatField, roll-PatField, roll-out-PatField, out-roll-PatField}
use Rattle.sml_trees.specs.declared.pat.Pat.TheFolds.{fold-roll-Pat, fold-roll-PatField}

pub pat_of-Wild_nowhere : pat_of (pat.Wild nowhere) ≡ 32 ∷ []
pat_of-Wild_nowhere =
    ap pat_of (sym (pat.rolls-Wild nowhere))
    ∙ fold-roll-Pat _ _ pat_level pat_field_level (Pat-F.Wild nowhere)

pub pat_of-Int_nowhere : (a0 : ℤ) → pat_of (pat.Int a0 nowhere) ≡ 33 ∷ int_of a0
pat_of-Int_nowhere a0 =
    ap pat_of (sym (pat.rolls-Int a0 nowhere))
    ∙ fold-roll-Pat _ _ pat_level pat_field_level (Pat-F.Int a0 nowhere)

pub pat_of-Str_nowhere : (a0 : (List ℕ)) → pat_of (pat.Str a0 nowhere) ≡ 34 ∷ text_of a0
pat_of-Str_nowhere a0 =
    ap pat_of (sym (pat.rolls-Str a0 nowhere))
    ∙ fold-roll-Pat _ _ pat_level pat_field_level (Pat-F.Str a0 nowhere)

pub pat_of-Char_nowhere : (a0 : ℕ) → pat_of (pat.Char a0 nowhere) ≡ 35 ∷ (a0 ∷ [])
pat_of-Char_nowhere a0 =
    ap pat_of (sym (pat.rolls-Char a0 nowhere))
    ∙ fold-roll-Pat _ _ pat_level pat_field_level (Pat-F.Char a0 nowhere)

pub pat_of-Long_nowhere : (a0 : LongName) → pat_of (pat.Long a0 nowhere) ≡ 36 ∷ long_of a0
pat_of-Long_nowhere a0 =
    ap pat_of (sym (pat.rolls-Long a0 nowhere))
    ∙ fold-roll-Pat _ _ pat_level pat_field_level (Pat-F.Long a0 nowhere)

pub pat_of-Record_nowhere : (a0 : (List PatField)) → pat_of (pat.Record a0 nowhere) ≡ 37 ∷ (list_of pat_field_of) a0
pat_of-Record_nowhere a0 =
    ap pat_of (sym (pat.rolls-Record a0 nowhere))
    ∙ fold-roll-Pat _ _ pat_level pat_field_level (Pat-F.Record a0 nowhere)
    ∙ ap (λ (u : List ℕ). 37 ∷ u) (parts_map pat_field_of a0)

pub pat_of-Con_nowhere : (a0 : LongName) (a1 : Pat) → pat_of (pat.Con a0 a1 nowhere) ≡ 38 ∷ (long_of a0 ++ pat_of a1)
pat_of-Con_nowhere a0 a1 =
    ap pat_of (sym (pat.rolls-Con a0 a1 nowhere))
    ∙ fold-roll-Pat _ _ pat_level pat_field_level (Pat-F.Con a0 a1 nowhere)

pub pat_of-Typed_nowhere : (a0 : Pat) (a1 : Ty) → pat_of (pat.Typed a0 a1 nowhere) ≡ 39 ∷ (pat_of a0 ++ ty_of a1)
pat_of-Typed_nowhere a0 a1 =
    ap pat_of (sym (pat.rolls-Typed a0 a1 nowhere))
    ∙ fold-roll-Pat _ _ pat_level pat_field_level (Pat-F.Typed a0 a1 nowhere)

pub pat_of-As_nowhere : (a0 : Name) (a1 : (Option Ty)) (a2 : Pat) → pat_of (pat.As a0 a1 a2 nowhere) ≡ 40 ∷ (name_of a0 ++ ((option_of ty_of) a1 ++ pat_of a2))
pat_of-As_nowhere a0 a1 a2 =
    ap pat_of (sym (pat.rolls-As a0 a1 a2 nowhere))
    ∙ fold-roll-Pat _ _ pat_level pat_field_level (Pat-F.As a0 a1 a2 nowhere)

pub record PatExact (n : ℕ) : Type 0 where
  pub pat : IsExact pat_of (pat_steps n).pat (pat_is n).pat

pat_field_exact : (n : ℕ) → PatExact n → IsExact pat_field_of (pat_field_at n (pat_steps n)) (IsPatField n (pat_is n))
unfolding pat_field_at
pat_field_exact n x =
    made_exact pat_field_of (IsPatField n (pat_is n)) (λ (p : (Name × Pat)). roll-PatField (record { label = p.0; pat = p.1 }))
    (λ (bind : PatField). ((out-PatField bind).label, (out-PatField bind).pat)) (both_exact name_exact x.pat)
    (λ p fits. fold-roll-PatField _ _ pat_level pat_field_level (record { label = p.0; pat = p.1 }))
    (λ p fits. subst (λ l. (IsName l.label × (pat_is n).pat l.pat)) (sym (out-roll-PatField (record { label = p.0; pat = p.1 }))) fits)
    (λ bind is. (roll-out-PatField bind, is))

pat_deeper : (n : ℕ) → PatExact n → IsExact pat_of (tagged (pat_table n (pat_steps n))) (λ y. pat_level_is n (pat_is n) (out-Pat y))
unfolding or_tag
pat_deeper n x = record {
  again = λ y fits. subst Again (roll-out-Pat y) (level (out-Pat y) fits);
  spelled = tagged_spelled (
      or_tag_spells 32 (λ (p : Unit {0}). pat.Wild nowhere) nothing_exact (λ p. pat_of-Wild_nowhere)
      (λ p fits. made_is (Pat-F.Wild nowhere) _ (pat.rolls-Wild nowhere) refl) (
      or_tag_spells 33 (λ (p : ℤ). pat.Int p nowhere) int_exact (λ p. pat_of-Int_nowhere p)
      (λ p fits. made_is (Pat-F.Int p nowhere) _ (pat.rolls-Int p nowhere) (fits, refl)) (
      or_tag_spells 34 (λ (p : (List ℕ)). pat.Str p nowhere) text_exact (λ p. pat_of-Str_nowhere p)
      (λ p fits. made_is (Pat-F.Str p nowhere) _ (pat.rolls-Str p nowhere) (fits, refl)) (
      or_tag_spells 35 (λ (p : ℕ). pat.Char p nowhere) byte_exact (λ p. pat_of-Char_nowhere p)
      (λ p fits. made_is (Pat-F.Char p nowhere) _ (pat.rolls-Char p nowhere) (fits, refl)) (
      or_tag_spells 36 (λ (p : LongName). pat.Long p nowhere) long_exact (λ p. pat_of-Long_nowhere p)
      (λ p fits. made_is (Pat-F.Long p nowhere) _ (pat.rolls-Long p nowhere) (fits, refl)) (
      or_tag_spells 37 (λ (p : (List PatField)). pat.Record p nowhere) (list_exact (pat_field_exact n x)) (λ p. pat_of-Record_nowhere p)
      (λ p fits. made_is (Pat-F.Record p nowhere) _ (pat.rolls-Record p nowhere) (fits, refl)) (
      or_tag_spells 38 (λ (p : (LongName × Pat)). pat.Con p.0 p.1 nowhere) (both_exact long_exact x.pat) (λ p. pat_of-Con_nowhere p.0 p.1)
      (λ p fits. made_is (Pat-F.Con p.0 p.1 nowhere) _ (pat.rolls-Con p.0 p.1 nowhere) (fits, refl)) (
      or_tag_spells 39 (λ (p : (Pat × Ty)). pat.Typed p.0 p.1 nowhere) (both_exact x.pat (ty_exact n)) (λ p. pat_of-Typed_nowhere p.0 p.1)
      (λ p fits. made_is (Pat-F.Typed p.0 p.1 nowhere) _ (pat.rolls-Typed p.0 p.1 nowhere) (fits, refl)) (
      or_tag_spells 40 (λ (p : (Name × ((Option Ty) × Pat))). pat.As p.0 p.1.0 p.1.1 nowhere) (both_exact name_exact (both_exact (option_exact (ty_exact n)) x.pat)) (λ p. pat_of-As_nowhere p.0 p.1.0 p.1.1)
      (λ p fits. made_is (Pat-F.As p.0 p.1.0 p.1.1 nowhere) _ (pat.rolls-As p.0 p.1.0 p.1.1 nowhere) (fits, refl)) (no_tag_spells pat_of Is))))))))));
}
  where
    Is : Pat → Type 0
    Is y = pat_level_is n (pat_is n) (out-Pat y)

    Again : Pat → Type 0
    Again = IsReadAgain pat_of (tagged (pat_table n (pat_steps n)))

    made_is : (l : Pat-F Pat PatField) (y : Pat) → roll-Pat l ≡ y → pat_level_is n (pat_is n) l → Is y
    made_is l y is fits = subst Is is (subst (pat_level_is n (pat_is n)) (sym (out-roll-Pat l)) fits)

    level : (l : Pat-F Pat PatField) → pat_level_is n (pat_is n) l → Again (roll-Pat l)
    level (Pat-F.Wild at) fits =
        subst (λ (at : At). Again (roll-Pat (Pat-F.Wild at))) (sym fits)
        (subst Again (sym (pat.rolls-Wild nowhere))
        (tagged_again pat_of (pat_table n (pat_steps n)) 32 (λ (p : Unit {0}). pat.Wild nowhere) nothing_exact tt tt pat_of-Wild_nowhere refl))
    level (Pat-F.Int a0 at) fits =
        subst (λ (at : At). Again (roll-Pat (Pat-F.Int a0 at))) (sym fits.1)
        (subst Again (sym (pat.rolls-Int a0 nowhere))
        (tagged_again pat_of (pat_table n (pat_steps n)) 33 (λ (p : ℤ). pat.Int p nowhere) int_exact a0 fits.0 (pat_of-Int_nowhere a0) refl))
    level (Pat-F.Str a0 at) fits =
        subst (λ (at : At). Again (roll-Pat (Pat-F.Str a0 at))) (sym fits.1)
        (subst Again (sym (pat.rolls-Str a0 nowhere))
        (tagged_again pat_of (pat_table n (pat_steps n)) 34 (λ (p : (List ℕ)). pat.Str p nowhere) text_exact a0 fits.0 (pat_of-Str_nowhere a0) refl))
    level (Pat-F.Char a0 at) fits =
        subst (λ (at : At). Again (roll-Pat (Pat-F.Char a0 at))) (sym fits.1)
        (subst Again (sym (pat.rolls-Char a0 nowhere))
        (tagged_again pat_of (pat_table n (pat_steps n)) 35 (λ (p : ℕ). pat.Char p nowhere) byte_exact a0 fits.0 (pat_of-Char_nowhere a0) refl))
    level (Pat-F.Long a0 at) fits =
        subst (λ (at : At). Again (roll-Pat (Pat-F.Long a0 at))) (sym fits.1)
        (subst Again (sym (pat.rolls-Long a0 nowhere))
        (tagged_again pat_of (pat_table n (pat_steps n)) 36 (λ (p : LongName). pat.Long p nowhere) long_exact a0 fits.0 (pat_of-Long_nowhere a0) refl))
    level (Pat-F.Record a0 at) fits =
        subst (λ (at : At). Again (roll-Pat (Pat-F.Record a0 at))) (sym fits.1)
        (subst Again (sym (pat.rolls-Record a0 nowhere))
        (tagged_again pat_of (pat_table n (pat_steps n)) 37 (λ (p : (List PatField)). pat.Record p nowhere) (list_exact (pat_field_exact n x)) a0 fits.0 (pat_of-Record_nowhere a0) refl))
    level (Pat-F.Con a0 a1 at) fits =
        subst (λ (at : At). Again (roll-Pat (Pat-F.Con a0 a1 at))) (sym fits.1)
        (subst Again (sym (pat.rolls-Con a0 a1 nowhere))
        (tagged_again pat_of (pat_table n (pat_steps n)) 38 (λ (p : (LongName × Pat)). pat.Con p.0 p.1 nowhere) (both_exact long_exact x.pat) (a0, a1) fits.0 (pat_of-Con_nowhere a0 a1) refl))
    level (Pat-F.Typed a0 a1 at) fits =
        subst (λ (at : At). Again (roll-Pat (Pat-F.Typed a0 a1 at))) (sym fits.1)
        (subst Again (sym (pat.rolls-Typed a0 a1 nowhere))
        (tagged_again pat_of (pat_table n (pat_steps n)) 39 (λ (p : (Pat × Ty)). pat.Typed p.0 p.1 nowhere) (both_exact x.pat (ty_exact n)) (a0, a1) fits.0 (pat_of-Typed_nowhere a0 a1) refl))
    level (Pat-F.As a0 a1 a2 at) fits =
        subst (λ (at : At). Again (roll-Pat (Pat-F.As a0 a1 a2 at))) (sym fits.1)
        (subst Again (sym (pat.rolls-As a0 a1 a2 nowhere))
        (tagged_again pat_of (pat_table n (pat_steps n)) 40 (λ (p : (Name × ((Option Ty) × Pat))). pat.As p.0 p.1.0 p.1.1 nowhere) (both_exact name_exact (both_exact (option_exact (ty_exact n)) x.pat)) (a0, (a1, a2)) fits.0 (pat_of-As_nowhere a0 a1 a2) refl))

pub pat_exact : (n : ℕ) → PatExact n
pat_exact zero = record { pat = none_exact pat_of }
pat_exact (suc n) = record {
  pat = pat_deeper n (pat_exact n);
}
