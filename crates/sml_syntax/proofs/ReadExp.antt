-- Expressions, declarations and structure expressions are read exactly.
use Rattle.std.proofs.Common.{◌≡◌, ℕ, ℤ, zero, suc, List, [], ◌∷◌, ◌++◌, refl, sym, ap, ap₂, subst, ◌∙◌}
use Rattle.cm_bytes.specs.Fields.{IsReadAgain, text_of, list_of}
use Rattle.sml_syntax.specs.Steps.{or_tag, tagged, IsExact}
use Rattle.sml_syntax.proofs.Exact.{made_exact, both_exact, text_exact, list_exact, byte_exact, int_exact, none_exact, body_exact, tagged_spelled, tagged_again, no_tag_spells, or_tag_spells}
use Rattle.sml_syntax.proofs.ReadTy.{name_exact, long_exact, ty_exact}
use Rattle.sml_syntax.proofs.Level.{parts_map}
use Rattle.sml_syntax.proofs.ReadBinds.{typ_bind_exact, dat_bind_exact, ex_bind_exact}
use Rattle.sml_syntax.proofs.ReadPat.{pat_exact}
use Rattle.sml_syntax.proofs.ReadSig.{sig_exact}
use Rattle.sml_syntax.specs.Code.{dat_bind_of, dec_level, dec_of, ex_bind_of, exp_field_level, exp_field_of, exp_level, exp_of, int_of, long_of, name_of, rule_level, rule_of, sig_of, str_bind_level, str_bind_of, str_level, str_of, ty_of, typ_bind_of}
use Rattle.sml_syntax.specs.Reading.{nowhere, IsName}
use Rattle.sml_syntax.specs.ReadingPat.{pat_is}
use Rattle.sml_syntax.specs.ReadingExp.{exp_field_at, IsExpField, rule_at, IsRule, str_bind_at, IsStrBind, exp_table, exp_level_is, dec_table, dec_level_is, str_table, str_level_is, exp_steps, exp_is}
use Rattle.sml_trees.specs.declared.name.At.{At}
use Rattle.sml_trees.specs.declared.name.Name.{Name}
use Rattle.sml_trees.specs.declared.name.LongName.{LongName}
use Rattle.sml_trees.specs.declared.ty.Ty.{Ty}
use Rattle.sml_trees.specs.declared.ty.TypBind.{TypBind}
use Rattle.sml_trees.specs.declared.ty.DatBind.{DatBind}
use Rattle.sml_trees.specs.declared.ty.ExBind.{ExBind}
use Rattle.sml_trees.specs.declared.pat.Pat.{Pat}
use Rattle.sml_trees.specs.declared.sig_exp.SigExp.{SigExp}
use Rattle.sml_trees.specs.declared.exp.Exp.{Exp, out-Exp, roll-Exp, roll-out-Exp, out-roll-Exp}
use Rattle.sml_trees.specs.declared.exp.Dec.TheOpen.{Dec-F, Exp-F, StrExp-F}
use Rattle.sml_trees.specs.declared.exp.Exp.TheVariants as expv
use Rattle.sml_trees.specs.declared.exp.Dec.{Dec, out-Dec, roll-Dec, roll-out-Dec, out-roll-Dec}
use Rattle.sml_trees.specs.declared.exp.Dec.TheVariants as decv
use Rattle.sml_trees.specs.declared.exp.StrExp.{StrExp, out-StrExp, roll-StrExp, roll-out-StrExp, out-roll-StrExp}
use Rattle.sml_trees.specs.declared.exp.StrExp.TheVariants as strv
use Rattle.sml_trees.specs.declared.exp.ExpField.{ExpField, out-ExpField, roll-ExpField, roll-out-ExpField, out-roll-ExpField}
use Rattle.sml_trees.specs.declared.exp.Rule.{Rule, out-Rule, roll-Rule, roll-out-Rule, out-roll-Rule}
use Rattle.sml_trees.specs.declared.exp.StrBind.{StrBind, out-StrBind, roll-StrBind, roll-out-StrBind, out-roll-StrBind}
use Rattle.sml_trees.specs.declared.exp.Dec.TheFolds.{fold-roll-Dec, fold-roll-Exp, fold-roll-StrExp, fold-roll-ExpField, fold-roll-Rule, fold-roll-StrBind}

pub exp_of-Int_nowhere : (a0 : ℤ) → exp_of (expv.Int a0 nowhere) ≡ 16 ∷ int_of a0
exp_of-Int_nowhere a0 =
    ap exp_of (sym (expv.rolls-Int a0 nowhere))
    ∙ fold-roll-Exp _ _ _ _ _ _ dec_level exp_level str_level exp_field_level rule_level str_bind_level (Exp-F.Int a0 nowhere)

pub exp_of-Str_nowhere : (a0 : (List ℕ)) → exp_of (expv.Str a0 nowhere) ≡ 17 ∷ text_of a0
exp_of-Str_nowhere a0 =
    ap exp_of (sym (expv.rolls-Str a0 nowhere))
    ∙ fold-roll-Exp _ _ _ _ _ _ dec_level exp_level str_level exp_field_level rule_level str_bind_level (Exp-F.Str a0 nowhere)

pub exp_of-Char_nowhere : (a0 : ℕ) → exp_of (expv.Char a0 nowhere) ≡ 18 ∷ (a0 ∷ [])
exp_of-Char_nowhere a0 =
    ap exp_of (sym (expv.rolls-Char a0 nowhere))
    ∙ fold-roll-Exp _ _ _ _ _ _ dec_level exp_level str_level exp_field_level rule_level str_bind_level (Exp-F.Char a0 nowhere)

pub exp_of-Long_nowhere : (a0 : LongName) → exp_of (expv.Long a0 nowhere) ≡ 19 ∷ long_of a0
exp_of-Long_nowhere a0 =
    ap exp_of (sym (expv.rolls-Long a0 nowhere))
    ∙ fold-roll-Exp _ _ _ _ _ _ dec_level exp_level str_level exp_field_level rule_level str_bind_level (Exp-F.Long a0 nowhere)

pub exp_of-Record_nowhere : (a0 : (List ExpField)) → exp_of (expv.Record a0 nowhere) ≡ 20 ∷ (list_of exp_field_of) a0
exp_of-Record_nowhere a0 =
    ap exp_of (sym (expv.rolls-Record a0 nowhere))
    ∙ fold-roll-Exp _ _ _ _ _ _ dec_level exp_level str_level exp_field_level rule_level str_bind_level (Exp-F.Record a0 nowhere)
    ∙ ap (λ (u : List ℕ). 20 ∷ u) (parts_map exp_field_of a0)

pub exp_of-Let_nowhere : (a0 : Dec) (a1 : Exp) → exp_of (expv.Let a0 a1 nowhere) ≡ 21 ∷ (dec_of a0 ++ exp_of a1)
exp_of-Let_nowhere a0 a1 =
    ap exp_of (sym (expv.rolls-Let a0 a1 nowhere))
    ∙ fold-roll-Exp _ _ _ _ _ _ dec_level exp_level str_level exp_field_level rule_level str_bind_level (Exp-F.Let a0 a1 nowhere)

pub exp_of-App_nowhere : (a0 : Exp) (a1 : Exp) → exp_of (expv.App a0 a1 nowhere) ≡ 22 ∷ (exp_of a0 ++ exp_of a1)
exp_of-App_nowhere a0 a1 =
    ap exp_of (sym (expv.rolls-App a0 a1 nowhere))
    ∙ fold-roll-Exp _ _ _ _ _ _ dec_level exp_level str_level exp_field_level rule_level str_bind_level (Exp-F.App a0 a1 nowhere)

pub exp_of-Typed_nowhere : (a0 : Exp) (a1 : Ty) → exp_of (expv.Typed a0 a1 nowhere) ≡ 23 ∷ (exp_of a0 ++ ty_of a1)
exp_of-Typed_nowhere a0 a1 =
    ap exp_of (sym (expv.rolls-Typed a0 a1 nowhere))
    ∙ fold-roll-Exp _ _ _ _ _ _ dec_level exp_level str_level exp_field_level rule_level str_bind_level (Exp-F.Typed a0 a1 nowhere)

pub exp_of-Handle_nowhere : (a0 : Exp) (a1 : (List Rule)) → exp_of (expv.Handle a0 a1 nowhere) ≡ 24 ∷ (exp_of a0 ++ (list_of rule_of) a1)
exp_of-Handle_nowhere a0 a1 =
    ap exp_of (sym (expv.rolls-Handle a0 a1 nowhere))
    ∙ fold-roll-Exp _ _ _ _ _ _ dec_level exp_level str_level exp_field_level rule_level str_bind_level (Exp-F.Handle a0 a1 nowhere)
    ∙ ap (λ (u : List ℕ). 24 ∷ (exp_of a0 ++ u)) (parts_map rule_of a1)

pub exp_of-Raise_nowhere : (a0 : Exp) → exp_of (expv.Raise a0 nowhere) ≡ 25 ∷ exp_of a0
exp_of-Raise_nowhere a0 =
    ap exp_of (sym (expv.rolls-Raise a0 nowhere))
    ∙ fold-roll-Exp _ _ _ _ _ _ dec_level exp_level str_level exp_field_level rule_level str_bind_level (Exp-F.Raise a0 nowhere)

pub exp_of-Fn_nowhere : (a0 : (List Rule)) → exp_of (expv.Fn a0 nowhere) ≡ 26 ∷ (list_of rule_of) a0
exp_of-Fn_nowhere a0 =
    ap exp_of (sym (expv.rolls-Fn a0 nowhere))
    ∙ fold-roll-Exp _ _ _ _ _ _ dec_level exp_level str_level exp_field_level rule_level str_bind_level (Exp-F.Fn a0 nowhere)
    ∙ ap (λ (u : List ℕ). 26 ∷ u) (parts_map rule_of a0)

pub dec_of-Val_nowhere : (a0 : (List Name)) (a1 : (List Rule)) (a2 : (List Rule)) → dec_of (decv.Val a0 a1 a2 nowhere) ≡ 64 ∷ ((list_of name_of) a0 ++ ((list_of rule_of) a1 ++ (list_of rule_of) a2))
dec_of-Val_nowhere a0 a1 a2 =
    ap dec_of (sym (decv.rolls-Val a0 a1 a2 nowhere))
    ∙ fold-roll-Dec _ _ _ _ _ _ dec_level exp_level str_level exp_field_level rule_level str_bind_level (Dec-F.Val a0 a1 a2 nowhere)
    ∙ ap₂ (λ (u : List ℕ) (v : List ℕ). 64 ∷ ((list_of name_of) a0 ++ (u ++ v))) (parts_map rule_of a1) (parts_map rule_of a2)

pub dec_of-Types_nowhere : (a0 : (List TypBind)) → dec_of (decv.Types a0 nowhere) ≡ 65 ∷ (list_of typ_bind_of) a0
dec_of-Types_nowhere a0 =
    ap dec_of (sym (decv.rolls-Types a0 nowhere))
    ∙ fold-roll-Dec _ _ _ _ _ _ dec_level exp_level str_level exp_field_level rule_level str_bind_level (Dec-F.Types a0 nowhere)

pub dec_of-Datatypes_nowhere : (a0 : (List DatBind)) → dec_of (decv.Datatypes a0 nowhere) ≡ 66 ∷ (list_of dat_bind_of) a0
dec_of-Datatypes_nowhere a0 =
    ap dec_of (sym (decv.rolls-Datatypes a0 nowhere))
    ∙ fold-roll-Dec _ _ _ _ _ _ dec_level exp_level str_level exp_field_level rule_level str_bind_level (Dec-F.Datatypes a0 nowhere)

pub dec_of-Replication_nowhere : (a0 : Name) (a1 : LongName) → dec_of (decv.Replication a0 a1 nowhere) ≡ 67 ∷ (name_of a0 ++ long_of a1)
dec_of-Replication_nowhere a0 a1 =
    ap dec_of (sym (decv.rolls-Replication a0 a1 nowhere))
    ∙ fold-roll-Dec _ _ _ _ _ _ dec_level exp_level str_level exp_field_level rule_level str_bind_level (Dec-F.Replication a0 a1 nowhere)

pub dec_of-Exceptions_nowhere : (a0 : (List ExBind)) → dec_of (decv.Exceptions a0 nowhere) ≡ 68 ∷ (list_of ex_bind_of) a0
dec_of-Exceptions_nowhere a0 =
    ap dec_of (sym (decv.rolls-Exceptions a0 nowhere))
    ∙ fold-roll-Dec _ _ _ _ _ _ dec_level exp_level str_level exp_field_level rule_level str_bind_level (Dec-F.Exceptions a0 nowhere)

pub dec_of-Local_nowhere : (a0 : Dec) (a1 : Dec) → dec_of (decv.Local a0 a1 nowhere) ≡ 69 ∷ (dec_of a0 ++ dec_of a1)
dec_of-Local_nowhere a0 a1 =
    ap dec_of (sym (decv.rolls-Local a0 a1 nowhere))
    ∙ fold-roll-Dec _ _ _ _ _ _ dec_level exp_level str_level exp_field_level rule_level str_bind_level (Dec-F.Local a0 a1 nowhere)

pub dec_of-Open_nowhere : (a0 : (List LongName)) → dec_of (decv.Open a0 nowhere) ≡ 70 ∷ (list_of long_of) a0
dec_of-Open_nowhere a0 =
    ap dec_of (sym (decv.rolls-Open a0 nowhere))
    ∙ fold-roll-Dec _ _ _ _ _ _ dec_level exp_level str_level exp_field_level rule_level str_bind_level (Dec-F.Open a0 nowhere)

pub dec_of-Sequence_nowhere : (a0 : (List Dec)) → dec_of (decv.Sequence a0 nowhere) ≡ 71 ∷ (list_of dec_of) a0
dec_of-Sequence_nowhere a0 =
    ap dec_of (sym (decv.rolls-Sequence a0 nowhere))
    ∙ fold-roll-Dec _ _ _ _ _ _ dec_level exp_level str_level exp_field_level rule_level str_bind_level (Dec-F.Sequence a0 nowhere)
    ∙ ap (λ (u : List ℕ). 71 ∷ u) (parts_map dec_of a0)

pub dec_of-Structures_nowhere : (a0 : (List StrBind)) → dec_of (decv.Structures a0 nowhere) ≡ 72 ∷ (list_of str_bind_of) a0
dec_of-Structures_nowhere a0 =
    ap dec_of (sym (decv.rolls-Structures a0 nowhere))
    ∙ fold-roll-Dec _ _ _ _ _ _ dec_level exp_level str_level exp_field_level rule_level str_bind_level (Dec-F.Structures a0 nowhere)
    ∙ ap (λ (u : List ℕ). 72 ∷ u) (parts_map str_bind_of a0)

pub str_of-Struct_nowhere : (a0 : Dec) → str_of (strv.Struct a0 nowhere) ≡ 80 ∷ dec_of a0
str_of-Struct_nowhere a0 =
    ap str_of (sym (strv.rolls-Struct a0 nowhere))
    ∙ fold-roll-StrExp _ _ _ _ _ _ dec_level exp_level str_level exp_field_level rule_level str_bind_level (StrExp-F.Struct a0 nowhere)

pub str_of-Named_nowhere : (a0 : LongName) → str_of (strv.Named a0 nowhere) ≡ 81 ∷ long_of a0
str_of-Named_nowhere a0 =
    ap str_of (sym (strv.rolls-Named a0 nowhere))
    ∙ fold-roll-StrExp _ _ _ _ _ _ dec_level exp_level str_level exp_field_level rule_level str_bind_level (StrExp-F.Named a0 nowhere)

pub str_of-Transparent_nowhere : (a0 : StrExp) (a1 : SigExp) → str_of (strv.Transparent a0 a1 nowhere) ≡ 82 ∷ (str_of a0 ++ sig_of a1)
str_of-Transparent_nowhere a0 a1 =
    ap str_of (sym (strv.rolls-Transparent a0 a1 nowhere))
    ∙ fold-roll-StrExp _ _ _ _ _ _ dec_level exp_level str_level exp_field_level rule_level str_bind_level (StrExp-F.Transparent a0 a1 nowhere)

pub str_of-Opaque_nowhere : (a0 : StrExp) (a1 : SigExp) → str_of (strv.Opaque a0 a1 nowhere) ≡ 83 ∷ (str_of a0 ++ sig_of a1)
str_of-Opaque_nowhere a0 a1 =
    ap str_of (sym (strv.rolls-Opaque a0 a1 nowhere))
    ∙ fold-roll-StrExp _ _ _ _ _ _ dec_level exp_level str_level exp_field_level rule_level str_bind_level (StrExp-F.Opaque a0 a1 nowhere)

pub str_of-Functor_nowhere : (a0 : Name) (a1 : StrExp) → str_of (strv.Functor a0 a1 nowhere) ≡ 84 ∷ (name_of a0 ++ str_of a1)
str_of-Functor_nowhere a0 a1 =
    ap str_of (sym (strv.rolls-Functor a0 a1 nowhere))
    ∙ fold-roll-StrExp _ _ _ _ _ _ dec_level exp_level str_level exp_field_level rule_level str_bind_level (StrExp-F.Functor a0 a1 nowhere)

pub str_of-Within_nowhere : (a0 : Dec) (a1 : StrExp) → str_of (strv.Within a0 a1 nowhere) ≡ 85 ∷ (dec_of a0 ++ str_of a1)
str_of-Within_nowhere a0 a1 =
    ap str_of (sym (strv.rolls-Within a0 a1 nowhere))
    ∙ fold-roll-StrExp _ _ _ _ _ _ dec_level exp_level str_level exp_field_level rule_level str_bind_level (StrExp-F.Within a0 a1 nowhere)

pub record ExpExact (n : ℕ) : Type 0 where
  pub exp : IsExact exp_of (exp_steps n).exp (exp_is n).exp
  pub dec : IsExact dec_of (exp_steps n).dec (exp_is n).dec
  pub str : IsExact str_of (exp_steps n).str (exp_is n).str
  pub dec_body : IsExact dec_of (exp_steps n).dec_body (exp_is n).dec_body

exp_field_exact : (n : ℕ) → ExpExact n → IsExact exp_field_of (exp_field_at n (exp_steps n)) (IsExpField n (exp_is n))
unfolding exp_field_at
exp_field_exact n x =
    made_exact exp_field_of (IsExpField n (exp_is n)) (λ (p : (Name × Exp)). roll-ExpField (record { label = p.0; exp = p.1 }))
    (λ (bind : ExpField). ((out-ExpField bind).label, (out-ExpField bind).exp)) (both_exact name_exact x.exp)
    (λ p fits. fold-roll-ExpField _ _ _ _ _ _ dec_level exp_level str_level exp_field_level rule_level str_bind_level (record { label = p.0; exp = p.1 }))
    (λ p fits. subst (λ l. (IsName l.label × (exp_is n).exp l.exp)) (sym (out-roll-ExpField (record { label = p.0; exp = p.1 }))) fits)
    (λ bind is. (roll-out-ExpField bind, is))

rule_exact : (n : ℕ) → ExpExact n → IsExact rule_of (rule_at n (exp_steps n)) (IsRule n (exp_is n))
unfolding rule_at
rule_exact n x =
    made_exact rule_of (IsRule n (exp_is n)) (λ (p : (Pat × Exp)). roll-Rule (record { pat = p.0; exp = p.1 }))
    (λ (bind : Rule). ((out-Rule bind).pat, (out-Rule bind).exp)) (both_exact (pat_exact n).pat x.exp)
    (λ p fits. fold-roll-Rule _ _ _ _ _ _ dec_level exp_level str_level exp_field_level rule_level str_bind_level (record { pat = p.0; exp = p.1 }))
    (λ p fits. subst (λ l. ((pat_is n).pat l.pat × (exp_is n).exp l.exp)) (sym (out-roll-Rule (record { pat = p.0; exp = p.1 }))) fits)
    (λ bind is. (roll-out-Rule bind, is))

pub str_bind_exact : (n : ℕ) → ExpExact n → IsExact str_bind_of (str_bind_at n (exp_steps n)) (IsStrBind n (exp_is n))
unfolding str_bind_at
str_bind_exact n x =
    made_exact str_bind_of (IsStrBind n (exp_is n)) (λ (p : (Name × StrExp)). roll-StrBind (record { name = p.0; body = p.1 }))
    (λ (bind : StrBind). ((out-StrBind bind).name, (out-StrBind bind).body)) (both_exact name_exact x.str)
    (λ p fits. fold-roll-StrBind _ _ _ _ _ _ dec_level exp_level str_level exp_field_level rule_level str_bind_level (record { name = p.0; body = p.1 }))
    (λ p fits. subst (λ l. (IsName l.name × (exp_is n).str l.body)) (sym (out-roll-StrBind (record { name = p.0; body = p.1 }))) fits)
    (λ bind is. (roll-out-StrBind bind, is))

exp_deeper : (n : ℕ) → ExpExact n → IsExact exp_of (tagged (exp_table n (exp_steps n))) (λ y. exp_level_is n (exp_is n) (out-Exp y))
unfolding or_tag
exp_deeper n x = record {
  again = λ y fits. subst Again (roll-out-Exp y) (level (out-Exp y) fits);
  spelled = tagged_spelled (
      or_tag_spells 16 (λ (p : ℤ). expv.Int p nowhere) int_exact (λ p. exp_of-Int_nowhere p)
      (λ p fits. made_is (Exp-F.Int p nowhere) _ (expv.rolls-Int p nowhere) (fits, refl)) (
      or_tag_spells 17 (λ (p : (List ℕ)). expv.Str p nowhere) text_exact (λ p. exp_of-Str_nowhere p)
      (λ p fits. made_is (Exp-F.Str p nowhere) _ (expv.rolls-Str p nowhere) (fits, refl)) (
      or_tag_spells 18 (λ (p : ℕ). expv.Char p nowhere) byte_exact (λ p. exp_of-Char_nowhere p)
      (λ p fits. made_is (Exp-F.Char p nowhere) _ (expv.rolls-Char p nowhere) (fits, refl)) (
      or_tag_spells 19 (λ (p : LongName). expv.Long p nowhere) long_exact (λ p. exp_of-Long_nowhere p)
      (λ p fits. made_is (Exp-F.Long p nowhere) _ (expv.rolls-Long p nowhere) (fits, refl)) (
      or_tag_spells 20 (λ (p : (List ExpField)). expv.Record p nowhere) (list_exact (exp_field_exact n x)) (λ p. exp_of-Record_nowhere p)
      (λ p fits. made_is (Exp-F.Record p nowhere) _ (expv.rolls-Record p nowhere) (fits, refl)) (
      or_tag_spells 21 (λ (p : (Dec × Exp)). expv.Let p.0 p.1 nowhere) (both_exact x.dec_body x.exp) (λ p. exp_of-Let_nowhere p.0 p.1)
      (λ p fits. made_is (Exp-F.Let p.0 p.1 nowhere) _ (expv.rolls-Let p.0 p.1 nowhere) (fits, refl)) (
      or_tag_spells 22 (λ (p : (Exp × Exp)). expv.App p.0 p.1 nowhere) (both_exact x.exp x.exp) (λ p. exp_of-App_nowhere p.0 p.1)
      (λ p fits. made_is (Exp-F.App p.0 p.1 nowhere) _ (expv.rolls-App p.0 p.1 nowhere) (fits, refl)) (
      or_tag_spells 23 (λ (p : (Exp × Ty)). expv.Typed p.0 p.1 nowhere) (both_exact x.exp (ty_exact n)) (λ p. exp_of-Typed_nowhere p.0 p.1)
      (λ p fits. made_is (Exp-F.Typed p.0 p.1 nowhere) _ (expv.rolls-Typed p.0 p.1 nowhere) (fits, refl)) (
      or_tag_spells 24 (λ (p : (Exp × (List Rule))). expv.Handle p.0 p.1 nowhere) (both_exact x.exp (list_exact (rule_exact n x))) (λ p. exp_of-Handle_nowhere p.0 p.1)
      (λ p fits. made_is (Exp-F.Handle p.0 p.1 nowhere) _ (expv.rolls-Handle p.0 p.1 nowhere) (fits, refl)) (
      or_tag_spells 25 (λ (p : Exp). expv.Raise p nowhere) x.exp (λ p. exp_of-Raise_nowhere p)
      (λ p fits. made_is (Exp-F.Raise p nowhere) _ (expv.rolls-Raise p nowhere) (fits, refl)) (
      or_tag_spells 26 (λ (p : (List Rule)). expv.Fn p nowhere) (list_exact (rule_exact n x)) (λ p. exp_of-Fn_nowhere p)
      (λ p fits. made_is (Exp-F.Fn p nowhere) _ (expv.rolls-Fn p nowhere) (fits, refl)) (no_tag_spells exp_of Is))))))))))));
}
  where
    Is : Exp → Type 0
    Is y = exp_level_is n (exp_is n) (out-Exp y)

    Again : Exp → Type 0
    Again = IsReadAgain exp_of (tagged (exp_table n (exp_steps n)))

    made_is : (l : Exp-F Dec Exp StrExp ExpField Rule StrBind) (y : Exp) → roll-Exp l ≡ y → exp_level_is n (exp_is n) l → Is y
    made_is l y is fits = subst Is is (subst (exp_level_is n (exp_is n)) (sym (out-roll-Exp l)) fits)

    level : (l : Exp-F Dec Exp StrExp ExpField Rule StrBind) → exp_level_is n (exp_is n) l → Again (roll-Exp l)
    level (Exp-F.Int a0 at) fits =
        subst (λ (at : At). Again (roll-Exp (Exp-F.Int a0 at))) (sym fits.1)
        (subst Again (sym (expv.rolls-Int a0 nowhere))
        (tagged_again exp_of (exp_table n (exp_steps n)) 16 (λ (p : ℤ). expv.Int p nowhere) int_exact a0 fits.0 (exp_of-Int_nowhere a0) refl))
    level (Exp-F.Str a0 at) fits =
        subst (λ (at : At). Again (roll-Exp (Exp-F.Str a0 at))) (sym fits.1)
        (subst Again (sym (expv.rolls-Str a0 nowhere))
        (tagged_again exp_of (exp_table n (exp_steps n)) 17 (λ (p : (List ℕ)). expv.Str p nowhere) text_exact a0 fits.0 (exp_of-Str_nowhere a0) refl))
    level (Exp-F.Char a0 at) fits =
        subst (λ (at : At). Again (roll-Exp (Exp-F.Char a0 at))) (sym fits.1)
        (subst Again (sym (expv.rolls-Char a0 nowhere))
        (tagged_again exp_of (exp_table n (exp_steps n)) 18 (λ (p : ℕ). expv.Char p nowhere) byte_exact a0 fits.0 (exp_of-Char_nowhere a0) refl))
    level (Exp-F.Long a0 at) fits =
        subst (λ (at : At). Again (roll-Exp (Exp-F.Long a0 at))) (sym fits.1)
        (subst Again (sym (expv.rolls-Long a0 nowhere))
        (tagged_again exp_of (exp_table n (exp_steps n)) 19 (λ (p : LongName). expv.Long p nowhere) long_exact a0 fits.0 (exp_of-Long_nowhere a0) refl))
    level (Exp-F.Record a0 at) fits =
        subst (λ (at : At). Again (roll-Exp (Exp-F.Record a0 at))) (sym fits.1)
        (subst Again (sym (expv.rolls-Record a0 nowhere))
        (tagged_again exp_of (exp_table n (exp_steps n)) 20 (λ (p : (List ExpField)). expv.Record p nowhere) (list_exact (exp_field_exact n x)) a0 fits.0 (exp_of-Record_nowhere a0) refl))
    level (Exp-F.Let a0 a1 at) fits =
        subst (λ (at : At). Again (roll-Exp (Exp-F.Let a0 a1 at))) (sym fits.1)
        (subst Again (sym (expv.rolls-Let a0 a1 nowhere))
        (tagged_again exp_of (exp_table n (exp_steps n)) 21 (λ (p : (Dec × Exp)). expv.Let p.0 p.1 nowhere) (both_exact x.dec_body x.exp) (a0, a1) fits.0 (exp_of-Let_nowhere a0 a1) refl))
    level (Exp-F.App a0 a1 at) fits =
        subst (λ (at : At). Again (roll-Exp (Exp-F.App a0 a1 at))) (sym fits.1)
        (subst Again (sym (expv.rolls-App a0 a1 nowhere))
        (tagged_again exp_of (exp_table n (exp_steps n)) 22 (λ (p : (Exp × Exp)). expv.App p.0 p.1 nowhere) (both_exact x.exp x.exp) (a0, a1) fits.0 (exp_of-App_nowhere a0 a1) refl))
    level (Exp-F.Typed a0 a1 at) fits =
        subst (λ (at : At). Again (roll-Exp (Exp-F.Typed a0 a1 at))) (sym fits.1)
        (subst Again (sym (expv.rolls-Typed a0 a1 nowhere))
        (tagged_again exp_of (exp_table n (exp_steps n)) 23 (λ (p : (Exp × Ty)). expv.Typed p.0 p.1 nowhere) (both_exact x.exp (ty_exact n)) (a0, a1) fits.0 (exp_of-Typed_nowhere a0 a1) refl))
    level (Exp-F.Handle a0 a1 at) fits =
        subst (λ (at : At). Again (roll-Exp (Exp-F.Handle a0 a1 at))) (sym fits.1)
        (subst Again (sym (expv.rolls-Handle a0 a1 nowhere))
        (tagged_again exp_of (exp_table n (exp_steps n)) 24 (λ (p : (Exp × (List Rule))). expv.Handle p.0 p.1 nowhere) (both_exact x.exp (list_exact (rule_exact n x))) (a0, a1) fits.0 (exp_of-Handle_nowhere a0 a1) refl))
    level (Exp-F.Raise a0 at) fits =
        subst (λ (at : At). Again (roll-Exp (Exp-F.Raise a0 at))) (sym fits.1)
        (subst Again (sym (expv.rolls-Raise a0 nowhere))
        (tagged_again exp_of (exp_table n (exp_steps n)) 25 (λ (p : Exp). expv.Raise p nowhere) x.exp a0 fits.0 (exp_of-Raise_nowhere a0) refl))
    level (Exp-F.Fn a0 at) fits =
        subst (λ (at : At). Again (roll-Exp (Exp-F.Fn a0 at))) (sym fits.1)
        (subst Again (sym (expv.rolls-Fn a0 nowhere))
        (tagged_again exp_of (exp_table n (exp_steps n)) 26 (λ (p : (List Rule)). expv.Fn p nowhere) (list_exact (rule_exact n x)) a0 fits.0 (exp_of-Fn_nowhere a0) refl))

dec_deeper : (n : ℕ) → ExpExact n → IsExact dec_of (tagged (dec_table n (exp_steps n))) (λ y. dec_level_is n (exp_is n) (out-Dec y))
unfolding or_tag
dec_deeper n x = record {
  again = λ y fits. subst Again (roll-out-Dec y) (level (out-Dec y) fits);
  spelled = tagged_spelled (
      or_tag_spells 64 (λ (p : ((List Name) × ((List Rule) × (List Rule)))). decv.Val p.0 p.1.0 p.1.1 nowhere) (both_exact (list_exact name_exact) (both_exact (list_exact (rule_exact n x)) (list_exact (rule_exact n x)))) (λ p. dec_of-Val_nowhere p.0 p.1.0 p.1.1)
      (λ p fits. made_is (Dec-F.Val p.0 p.1.0 p.1.1 nowhere) _ (decv.rolls-Val p.0 p.1.0 p.1.1 nowhere) (fits, refl)) (
      or_tag_spells 65 (λ (p : (List TypBind)). decv.Types p nowhere) (list_exact (typ_bind_exact n)) (λ p. dec_of-Types_nowhere p)
      (λ p fits. made_is (Dec-F.Types p nowhere) _ (decv.rolls-Types p nowhere) (fits, refl)) (
      or_tag_spells 66 (λ (p : (List DatBind)). decv.Datatypes p nowhere) (list_exact (dat_bind_exact n)) (λ p. dec_of-Datatypes_nowhere p)
      (λ p fits. made_is (Dec-F.Datatypes p nowhere) _ (decv.rolls-Datatypes p nowhere) (fits, refl)) (
      or_tag_spells 67 (λ (p : (Name × LongName)). decv.Replication p.0 p.1 nowhere) (both_exact name_exact long_exact) (λ p. dec_of-Replication_nowhere p.0 p.1)
      (λ p fits. made_is (Dec-F.Replication p.0 p.1 nowhere) _ (decv.rolls-Replication p.0 p.1 nowhere) (fits, refl)) (
      or_tag_spells 68 (λ (p : (List ExBind)). decv.Exceptions p nowhere) (list_exact (ex_bind_exact n)) (λ p. dec_of-Exceptions_nowhere p)
      (λ p fits. made_is (Dec-F.Exceptions p nowhere) _ (decv.rolls-Exceptions p nowhere) (fits, refl)) (
      or_tag_spells 69 (λ (p : (Dec × Dec)). decv.Local p.0 p.1 nowhere) (both_exact x.dec_body x.dec_body) (λ p. dec_of-Local_nowhere p.0 p.1)
      (λ p fits. made_is (Dec-F.Local p.0 p.1 nowhere) _ (decv.rolls-Local p.0 p.1 nowhere) (fits, refl)) (
      or_tag_spells 70 (λ (p : (List LongName)). decv.Open p nowhere) (list_exact long_exact) (λ p. dec_of-Open_nowhere p)
      (λ p fits. made_is (Dec-F.Open p nowhere) _ (decv.rolls-Open p nowhere) (fits, refl)) (
      or_tag_spells 71 (λ (p : (List Dec)). decv.Sequence p nowhere) (list_exact x.dec) (λ p. dec_of-Sequence_nowhere p)
      (λ p fits. made_is (Dec-F.Sequence p nowhere) _ (decv.rolls-Sequence p nowhere) (fits, refl)) (
      or_tag_spells 72 (λ (p : (List StrBind)). decv.Structures p nowhere) (list_exact (str_bind_exact n x)) (λ p. dec_of-Structures_nowhere p)
      (λ p fits. made_is (Dec-F.Structures p nowhere) _ (decv.rolls-Structures p nowhere) (fits, refl)) (no_tag_spells dec_of Is))))))))));
}
  where
    Is : Dec → Type 0
    Is y = dec_level_is n (exp_is n) (out-Dec y)

    Again : Dec → Type 0
    Again = IsReadAgain dec_of (tagged (dec_table n (exp_steps n)))

    made_is : (l : Dec-F Dec Exp StrExp ExpField Rule StrBind) (y : Dec) → roll-Dec l ≡ y → dec_level_is n (exp_is n) l → Is y
    made_is l y is fits = subst Is is (subst (dec_level_is n (exp_is n)) (sym (out-roll-Dec l)) fits)

    level : (l : Dec-F Dec Exp StrExp ExpField Rule StrBind) → dec_level_is n (exp_is n) l → Again (roll-Dec l)
    level (Dec-F.Val a0 a1 a2 at) fits =
        subst (λ (at : At). Again (roll-Dec (Dec-F.Val a0 a1 a2 at))) (sym fits.1)
        (subst Again (sym (decv.rolls-Val a0 a1 a2 nowhere))
        (tagged_again dec_of (dec_table n (exp_steps n)) 64 (λ (p : ((List Name) × ((List Rule) × (List Rule)))). decv.Val p.0 p.1.0 p.1.1 nowhere) (both_exact (list_exact name_exact) (both_exact (list_exact (rule_exact n x)) (list_exact (rule_exact n x)))) (a0, (a1, a2)) fits.0 (dec_of-Val_nowhere a0 a1 a2) refl))
    level (Dec-F.Types a0 at) fits =
        subst (λ (at : At). Again (roll-Dec (Dec-F.Types a0 at))) (sym fits.1)
        (subst Again (sym (decv.rolls-Types a0 nowhere))
        (tagged_again dec_of (dec_table n (exp_steps n)) 65 (λ (p : (List TypBind)). decv.Types p nowhere) (list_exact (typ_bind_exact n)) a0 fits.0 (dec_of-Types_nowhere a0) refl))
    level (Dec-F.Datatypes a0 at) fits =
        subst (λ (at : At). Again (roll-Dec (Dec-F.Datatypes a0 at))) (sym fits.1)
        (subst Again (sym (decv.rolls-Datatypes a0 nowhere))
        (tagged_again dec_of (dec_table n (exp_steps n)) 66 (λ (p : (List DatBind)). decv.Datatypes p nowhere) (list_exact (dat_bind_exact n)) a0 fits.0 (dec_of-Datatypes_nowhere a0) refl))
    level (Dec-F.Replication a0 a1 at) fits =
        subst (λ (at : At). Again (roll-Dec (Dec-F.Replication a0 a1 at))) (sym fits.1)
        (subst Again (sym (decv.rolls-Replication a0 a1 nowhere))
        (tagged_again dec_of (dec_table n (exp_steps n)) 67 (λ (p : (Name × LongName)). decv.Replication p.0 p.1 nowhere) (both_exact name_exact long_exact) (a0, a1) fits.0 (dec_of-Replication_nowhere a0 a1) refl))
    level (Dec-F.Exceptions a0 at) fits =
        subst (λ (at : At). Again (roll-Dec (Dec-F.Exceptions a0 at))) (sym fits.1)
        (subst Again (sym (decv.rolls-Exceptions a0 nowhere))
        (tagged_again dec_of (dec_table n (exp_steps n)) 68 (λ (p : (List ExBind)). decv.Exceptions p nowhere) (list_exact (ex_bind_exact n)) a0 fits.0 (dec_of-Exceptions_nowhere a0) refl))
    level (Dec-F.Local a0 a1 at) fits =
        subst (λ (at : At). Again (roll-Dec (Dec-F.Local a0 a1 at))) (sym fits.1)
        (subst Again (sym (decv.rolls-Local a0 a1 nowhere))
        (tagged_again dec_of (dec_table n (exp_steps n)) 69 (λ (p : (Dec × Dec)). decv.Local p.0 p.1 nowhere) (both_exact x.dec_body x.dec_body) (a0, a1) fits.0 (dec_of-Local_nowhere a0 a1) refl))
    level (Dec-F.Open a0 at) fits =
        subst (λ (at : At). Again (roll-Dec (Dec-F.Open a0 at))) (sym fits.1)
        (subst Again (sym (decv.rolls-Open a0 nowhere))
        (tagged_again dec_of (dec_table n (exp_steps n)) 70 (λ (p : (List LongName)). decv.Open p nowhere) (list_exact long_exact) a0 fits.0 (dec_of-Open_nowhere a0) refl))
    level (Dec-F.Sequence a0 at) fits =
        subst (λ (at : At). Again (roll-Dec (Dec-F.Sequence a0 at))) (sym fits.1)
        (subst Again (sym (decv.rolls-Sequence a0 nowhere))
        (tagged_again dec_of (dec_table n (exp_steps n)) 71 (λ (p : (List Dec)). decv.Sequence p nowhere) (list_exact x.dec) a0 fits.0 (dec_of-Sequence_nowhere a0) refl))
    level (Dec-F.Structures a0 at) fits =
        subst (λ (at : At). Again (roll-Dec (Dec-F.Structures a0 at))) (sym fits.1)
        (subst Again (sym (decv.rolls-Structures a0 nowhere))
        (tagged_again dec_of (dec_table n (exp_steps n)) 72 (λ (p : (List StrBind)). decv.Structures p nowhere) (list_exact (str_bind_exact n x)) a0 fits.0 (dec_of-Structures_nowhere a0) refl))

str_deeper : (n : ℕ) → ExpExact n → IsExact str_of (tagged (str_table n (exp_steps n))) (λ y. str_level_is n (exp_is n) (out-StrExp y))
unfolding or_tag
str_deeper n x = record {
  again = λ y fits. subst Again (roll-out-StrExp y) (level (out-StrExp y) fits);
  spelled = tagged_spelled (
      or_tag_spells 80 (λ (p : Dec). strv.Struct p nowhere) x.dec_body (λ p. str_of-Struct_nowhere p)
      (λ p fits. made_is (StrExp-F.Struct p nowhere) _ (strv.rolls-Struct p nowhere) (fits, refl)) (
      or_tag_spells 81 (λ (p : LongName). strv.Named p nowhere) long_exact (λ p. str_of-Named_nowhere p)
      (λ p fits. made_is (StrExp-F.Named p nowhere) _ (strv.rolls-Named p nowhere) (fits, refl)) (
      or_tag_spells 82 (λ (p : (StrExp × SigExp)). strv.Transparent p.0 p.1 nowhere) (both_exact x.str (sig_exact n).sig) (λ p. str_of-Transparent_nowhere p.0 p.1)
      (λ p fits. made_is (StrExp-F.Transparent p.0 p.1 nowhere) _ (strv.rolls-Transparent p.0 p.1 nowhere) (fits, refl)) (
      or_tag_spells 83 (λ (p : (StrExp × SigExp)). strv.Opaque p.0 p.1 nowhere) (both_exact x.str (sig_exact n).sig) (λ p. str_of-Opaque_nowhere p.0 p.1)
      (λ p fits. made_is (StrExp-F.Opaque p.0 p.1 nowhere) _ (strv.rolls-Opaque p.0 p.1 nowhere) (fits, refl)) (
      or_tag_spells 84 (λ (p : (Name × StrExp)). strv.Functor p.0 p.1 nowhere) (both_exact name_exact x.str) (λ p. str_of-Functor_nowhere p.0 p.1)
      (λ p fits. made_is (StrExp-F.Functor p.0 p.1 nowhere) _ (strv.rolls-Functor p.0 p.1 nowhere) (fits, refl)) (
      or_tag_spells 85 (λ (p : (Dec × StrExp)). strv.Within p.0 p.1 nowhere) (both_exact x.dec_body x.str) (λ p. str_of-Within_nowhere p.0 p.1)
      (λ p fits. made_is (StrExp-F.Within p.0 p.1 nowhere) _ (strv.rolls-Within p.0 p.1 nowhere) (fits, refl)) (no_tag_spells str_of Is)))))));
}
  where
    Is : StrExp → Type 0
    Is y = str_level_is n (exp_is n) (out-StrExp y)

    Again : StrExp → Type 0
    Again = IsReadAgain str_of (tagged (str_table n (exp_steps n)))

    made_is : (l : StrExp-F Dec Exp StrExp ExpField Rule StrBind) (y : StrExp) → roll-StrExp l ≡ y → str_level_is n (exp_is n) l → Is y
    made_is l y is fits = subst Is is (subst (str_level_is n (exp_is n)) (sym (out-roll-StrExp l)) fits)

    level : (l : StrExp-F Dec Exp StrExp ExpField Rule StrBind) → str_level_is n (exp_is n) l → Again (roll-StrExp l)
    level (StrExp-F.Struct a0 at) fits =
        subst (λ (at : At). Again (roll-StrExp (StrExp-F.Struct a0 at))) (sym fits.1)
        (subst Again (sym (strv.rolls-Struct a0 nowhere))
        (tagged_again str_of (str_table n (exp_steps n)) 80 (λ (p : Dec). strv.Struct p nowhere) x.dec_body a0 fits.0 (str_of-Struct_nowhere a0) refl))
    level (StrExp-F.Named a0 at) fits =
        subst (λ (at : At). Again (roll-StrExp (StrExp-F.Named a0 at))) (sym fits.1)
        (subst Again (sym (strv.rolls-Named a0 nowhere))
        (tagged_again str_of (str_table n (exp_steps n)) 81 (λ (p : LongName). strv.Named p nowhere) long_exact a0 fits.0 (str_of-Named_nowhere a0) refl))
    level (StrExp-F.Transparent a0 a1 at) fits =
        subst (λ (at : At). Again (roll-StrExp (StrExp-F.Transparent a0 a1 at))) (sym fits.1)
        (subst Again (sym (strv.rolls-Transparent a0 a1 nowhere))
        (tagged_again str_of (str_table n (exp_steps n)) 82 (λ (p : (StrExp × SigExp)). strv.Transparent p.0 p.1 nowhere) (both_exact x.str (sig_exact n).sig) (a0, a1) fits.0 (str_of-Transparent_nowhere a0 a1) refl))
    level (StrExp-F.Opaque a0 a1 at) fits =
        subst (λ (at : At). Again (roll-StrExp (StrExp-F.Opaque a0 a1 at))) (sym fits.1)
        (subst Again (sym (strv.rolls-Opaque a0 a1 nowhere))
        (tagged_again str_of (str_table n (exp_steps n)) 83 (λ (p : (StrExp × SigExp)). strv.Opaque p.0 p.1 nowhere) (both_exact x.str (sig_exact n).sig) (a0, a1) fits.0 (str_of-Opaque_nowhere a0 a1) refl))
    level (StrExp-F.Functor a0 a1 at) fits =
        subst (λ (at : At). Again (roll-StrExp (StrExp-F.Functor a0 a1 at))) (sym fits.1)
        (subst Again (sym (strv.rolls-Functor a0 a1 nowhere))
        (tagged_again str_of (str_table n (exp_steps n)) 84 (λ (p : (Name × StrExp)). strv.Functor p.0 p.1 nowhere) (both_exact name_exact x.str) (a0, a1) fits.0 (str_of-Functor_nowhere a0 a1) refl))
    level (StrExp-F.Within a0 a1 at) fits =
        subst (λ (at : At). Again (roll-StrExp (StrExp-F.Within a0 a1 at))) (sym fits.1)
        (subst Again (sym (strv.rolls-Within a0 a1 nowhere))
        (tagged_again str_of (str_table n (exp_steps n)) 85 (λ (p : (Dec × StrExp)). strv.Within p.0 p.1 nowhere) (both_exact x.dec_body x.str) (a0, a1) fits.0 (str_of-Within_nowhere a0 a1) refl))

pub exp_exact : (n : ℕ) → ExpExact n
exp_exact zero = record { exp = none_exact exp_of; dec = none_exact dec_of; str = none_exact str_of; dec_body = none_exact dec_of }
exp_exact (suc n) = record {
  exp = exp_deeper n (exp_exact n);
  dec = dec_deeper n (exp_exact n);
  str = str_deeper n (exp_exact n);
  dec_body = body_exact 71 (λ (xs : List Dec). decv.Sequence xs nowhere) (list_exact (exp_exact n).dec) (λ xs. dec_of-Sequence_nowhere xs);
}
