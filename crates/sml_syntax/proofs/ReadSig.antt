-- Signature expressions and specifications are read exactly.
use Rattle.std.proofs.Common.{◌≡◌, ℕ, zero, suc, List, ◌∷◌, ◌++◌, refl, sym, ap, subst, ◌∙◌}
use Rattle.cm_bytes.specs.Fields.{IsReadAgain, list_of}
use Rattle.sml_syntax.specs.Steps.{or_tag, tagged, IsExact}
use Rattle.sml_syntax.proofs.Exact.{made_exact, both_exact, list_exact, none_exact, body_exact, tagged_spelled, tagged_again, no_tag_spells, or_tag_spells}
use Rattle.sml_syntax.proofs.ReadTy.{name_exact, long_exact, ty_exact}
use Rattle.sml_syntax.proofs.Level.{parts_map}
use Rattle.sml_syntax.proofs.ReadBinds.{con_bind_exact, dat_bind_exact, val_desc_exact, typ_desc_exact}
use Rattle.sml_syntax.specs.Code.{con_bind_of, dat_bind_of, long_of, name_of, sig_bind_level, sig_bind_of, sig_level, sig_of, spec_level, spec_of, ty_of, typ_desc_of, val_desc_of}
use Rattle.sml_syntax.specs.Reading.{nowhere, IsName}
use Rattle.sml_syntax.specs.ReadingSig.{sig_bind_at, IsSigBind, sig_table, sig_level_is, spec_table, spec_level_is, sig_steps, sig_is}
use Rattle.sml_trees.specs.declared.name.At.{At}
use Rattle.sml_trees.specs.declared.name.Name.{Name}
use Rattle.sml_trees.specs.declared.name.LongName.{LongName}
use Rattle.sml_trees.specs.declared.ty.Ty.{Ty}
use Rattle.sml_trees.specs.declared.ty.ConBind.{ConBind}
use Rattle.sml_trees.specs.declared.ty.DatBind.{DatBind}
use Rattle.sml_trees.specs.declared.ty.ValDesc.{ValDesc}
use Rattle.sml_trees.specs.declared.ty.TypDesc.{TypDesc}
use Rattle.sml_trees.specs.declared.sig_exp.SigExp.{SigExp, out-SigExp, roll-SigExp, roll-out-SigExp, out-roll-SigExp}
use Rattle.sml_trees.specs.declared.sig_exp.SigExp.TheOpen.{SigExp-F, Spec-F}
use Rattle.sml_trees.specs.declared.sig_exp.SigExp.TheVariants as sigv
use Rattle.sml_trees.specs.declared.sig_exp.Spec.{Spec, out-Spec, roll-Spec, roll-out-Spec, out-roll-Spec}
use Rattle.sml_trees.specs.declared.sig_exp.Spec.TheVariants as specv
use Rattle.sml_trees.specs.declared.sig_exp.SigBind.{SigBind, out-SigBind, roll-SigBind, roll-out-SigBind, out-roll-SigBind}
use Rattle.sml_trees.specs.declared.sig_exp.SigExp.TheFolds.{fold-roll-SigExp, fold-roll-Spec, fold-roll-SigBind}

pub sig_of-Sig_nowhere : (a0 : Spec) → sig_of (sigv.Sig a0 nowhere) ≡ 96 ∷ spec_of a0
sig_of-Sig_nowhere a0 =
    ap sig_of (sym (sigv.rolls-Sig a0 nowhere))
    ∙ fold-roll-SigExp _ _ _ sig_level spec_level sig_bind_level (SigExp-F.Sig a0 nowhere)

pub sig_of-Named_nowhere : (a0 : Name) → sig_of (sigv.Named a0 nowhere) ≡ 97 ∷ name_of a0
sig_of-Named_nowhere a0 =
    ap sig_of (sym (sigv.rolls-Named a0 nowhere))
    ∙ fold-roll-SigExp _ _ _ sig_level spec_level sig_bind_level (SigExp-F.Named a0 nowhere)

pub sig_of-Where_nowhere : (a0 : SigExp) (a1 : (List Name)) (a2 : LongName) (a3 : Ty) → sig_of (sigv.Where a0 a1 a2 a3 nowhere) ≡ 98 ∷ (sig_of a0 ++ ((list_of name_of) a1 ++ (long_of a2 ++ ty_of a3)))
sig_of-Where_nowhere a0 a1 a2 a3 =
    ap sig_of (sym (sigv.rolls-Where a0 a1 a2 a3 nowhere))
    ∙ fold-roll-SigExp _ _ _ sig_level spec_level sig_bind_level (SigExp-F.Where a0 a1 a2 a3 nowhere)

pub spec_of-Vals_nowhere : (a0 : (List ValDesc)) → spec_of (specv.Vals a0 nowhere) ≡ 112 ∷ (list_of val_desc_of) a0
spec_of-Vals_nowhere a0 =
    ap spec_of (sym (specv.rolls-Vals a0 nowhere))
    ∙ fold-roll-Spec _ _ _ sig_level spec_level sig_bind_level (Spec-F.Vals a0 nowhere)

pub spec_of-Types_nowhere : (a0 : (List TypDesc)) → spec_of (specv.Types a0 nowhere) ≡ 113 ∷ (list_of typ_desc_of) a0
spec_of-Types_nowhere a0 =
    ap spec_of (sym (specv.rolls-Types a0 nowhere))
    ∙ fold-roll-Spec _ _ _ sig_level spec_level sig_bind_level (Spec-F.Types a0 nowhere)

pub spec_of-Eqtypes_nowhere : (a0 : (List TypDesc)) → spec_of (specv.Eqtypes a0 nowhere) ≡ 114 ∷ (list_of typ_desc_of) a0
spec_of-Eqtypes_nowhere a0 =
    ap spec_of (sym (specv.rolls-Eqtypes a0 nowhere))
    ∙ fold-roll-Spec _ _ _ sig_level spec_level sig_bind_level (Spec-F.Eqtypes a0 nowhere)

pub spec_of-Datatypes_nowhere : (a0 : (List DatBind)) → spec_of (specv.Datatypes a0 nowhere) ≡ 115 ∷ (list_of dat_bind_of) a0
spec_of-Datatypes_nowhere a0 =
    ap spec_of (sym (specv.rolls-Datatypes a0 nowhere))
    ∙ fold-roll-Spec _ _ _ sig_level spec_level sig_bind_level (Spec-F.Datatypes a0 nowhere)

pub spec_of-Replication_nowhere : (a0 : Name) (a1 : LongName) → spec_of (specv.Replication a0 a1 nowhere) ≡ 116 ∷ (name_of a0 ++ long_of a1)
spec_of-Replication_nowhere a0 a1 =
    ap spec_of (sym (specv.rolls-Replication a0 a1 nowhere))
    ∙ fold-roll-Spec _ _ _ sig_level spec_level sig_bind_level (Spec-F.Replication a0 a1 nowhere)

pub spec_of-Exceptions_nowhere : (a0 : (List ConBind)) → spec_of (specv.Exceptions a0 nowhere) ≡ 117 ∷ (list_of con_bind_of) a0
spec_of-Exceptions_nowhere a0 =
    ap spec_of (sym (specv.rolls-Exceptions a0 nowhere))
    ∙ fold-roll-Spec _ _ _ sig_level spec_level sig_bind_level (Spec-F.Exceptions a0 nowhere)

pub spec_of-Structures_nowhere : (a0 : (List SigBind)) → spec_of (specv.Structures a0 nowhere) ≡ 118 ∷ (list_of sig_bind_of) a0
spec_of-Structures_nowhere a0 =
    ap spec_of (sym (specv.rolls-Structures a0 nowhere))
    ∙ fold-roll-Spec _ _ _ sig_level spec_level sig_bind_level (Spec-F.Structures a0 nowhere)
    ∙ ap (λ (u : List ℕ). 118 ∷ u) (parts_map sig_bind_of a0)

pub spec_of-Include_nowhere : (a0 : SigExp) → spec_of (specv.Include a0 nowhere) ≡ 119 ∷ sig_of a0
spec_of-Include_nowhere a0 =
    ap spec_of (sym (specv.rolls-Include a0 nowhere))
    ∙ fold-roll-Spec _ _ _ sig_level spec_level sig_bind_level (Spec-F.Include a0 nowhere)

pub spec_of-Sequence_nowhere : (a0 : (List Spec)) → spec_of (specv.Sequence a0 nowhere) ≡ 120 ∷ (list_of spec_of) a0
spec_of-Sequence_nowhere a0 =
    ap spec_of (sym (specv.rolls-Sequence a0 nowhere))
    ∙ fold-roll-Spec _ _ _ sig_level spec_level sig_bind_level (Spec-F.Sequence a0 nowhere)
    ∙ ap (λ (u : List ℕ). 120 ∷ u) (parts_map spec_of a0)

pub record SigExact (n : ℕ) : Type 0 where
  pub sig : IsExact sig_of (sig_steps n).sig (sig_is n).sig
  pub spec : IsExact spec_of (sig_steps n).spec (sig_is n).spec
  pub spec_body : IsExact spec_of (sig_steps n).spec_body (sig_is n).spec_body

pub sig_bind_exact : (n : ℕ) → SigExact n → IsExact sig_bind_of (sig_bind_at n (sig_steps n)) (IsSigBind n (sig_is n))
unfolding sig_bind_at
sig_bind_exact n x =
    made_exact sig_bind_of (IsSigBind n (sig_is n)) (λ (p : (Name × SigExp)). roll-SigBind (record { name = p.0; sig = p.1 }))
    (λ (bind : SigBind). ((out-SigBind bind).name, (out-SigBind bind).sig)) (both_exact name_exact x.sig)
    (λ p fits. fold-roll-SigBind _ _ _ sig_level spec_level sig_bind_level (record { name = p.0; sig = p.1 }))
    (λ p fits. subst (λ l. (IsName l.name × (sig_is n).sig l.sig)) (sym (out-roll-SigBind (record { name = p.0; sig = p.1 }))) fits)
    (λ bind is. (roll-out-SigBind bind, is))

sig_deeper : (n : ℕ) → SigExact n → IsExact sig_of (tagged (sig_table n (sig_steps n))) (λ y. sig_level_is n (sig_is n) (out-SigExp y))
unfolding or_tag
sig_deeper n x = record {
  again = λ y fits. subst Again (roll-out-SigExp y) (level (out-SigExp y) fits);
  spelled = tagged_spelled (
      or_tag_spells 96 (λ (p : Spec). sigv.Sig p nowhere) x.spec_body (λ p. sig_of-Sig_nowhere p)
      (λ p fits. made_is (SigExp-F.Sig p nowhere) _ (sigv.rolls-Sig p nowhere) (fits, refl)) (
      or_tag_spells 97 (λ (p : Name). sigv.Named p nowhere) name_exact (λ p. sig_of-Named_nowhere p)
      (λ p fits. made_is (SigExp-F.Named p nowhere) _ (sigv.rolls-Named p nowhere) (fits, refl)) (
      or_tag_spells 98 (λ (p : (SigExp × ((List Name) × (LongName × Ty)))). sigv.Where p.0 p.1.0 p.1.1.0 p.1.1.1 nowhere) (both_exact x.sig (both_exact (list_exact name_exact) (both_exact long_exact (ty_exact n)))) (λ p. sig_of-Where_nowhere p.0 p.1.0 p.1.1.0 p.1.1.1)
      (λ p fits. made_is (SigExp-F.Where p.0 p.1.0 p.1.1.0 p.1.1.1 nowhere) _ (sigv.rolls-Where p.0 p.1.0 p.1.1.0 p.1.1.1 nowhere) (fits, refl)) (no_tag_spells sig_of Is))));
}
  where
    Is : SigExp → Type 0
    Is y = sig_level_is n (sig_is n) (out-SigExp y)

    Again : SigExp → Type 0
    Again = IsReadAgain sig_of (tagged (sig_table n (sig_steps n)))

    made_is : (l : SigExp-F SigExp Spec SigBind) (y : SigExp) → roll-SigExp l ≡ y → sig_level_is n (sig_is n) l → Is y
    made_is l y is fits = subst Is is (subst (sig_level_is n (sig_is n)) (sym (out-roll-SigExp l)) fits)

    level : (l : SigExp-F SigExp Spec SigBind) → sig_level_is n (sig_is n) l → Again (roll-SigExp l)
    level (SigExp-F.Sig a0 at) fits =
        subst (λ (at : At). Again (roll-SigExp (SigExp-F.Sig a0 at))) (sym fits.1)
        (subst Again (sym (sigv.rolls-Sig a0 nowhere))
        (tagged_again sig_of (sig_table n (sig_steps n)) 96 (λ (p : Spec). sigv.Sig p nowhere) x.spec_body a0 fits.0 (sig_of-Sig_nowhere a0) refl))
    level (SigExp-F.Named a0 at) fits =
        subst (λ (at : At). Again (roll-SigExp (SigExp-F.Named a0 at))) (sym fits.1)
        (subst Again (sym (sigv.rolls-Named a0 nowhere))
        (tagged_again sig_of (sig_table n (sig_steps n)) 97 (λ (p : Name). sigv.Named p nowhere) name_exact a0 fits.0 (sig_of-Named_nowhere a0) refl))
    level (SigExp-F.Where a0 a1 a2 a3 at) fits =
        subst (λ (at : At). Again (roll-SigExp (SigExp-F.Where a0 a1 a2 a3 at))) (sym fits.1)
        (subst Again (sym (sigv.rolls-Where a0 a1 a2 a3 nowhere))
        (tagged_again sig_of (sig_table n (sig_steps n)) 98 (λ (p : (SigExp × ((List Name) × (LongName × Ty)))). sigv.Where p.0 p.1.0 p.1.1.0 p.1.1.1 nowhere) (both_exact x.sig (both_exact (list_exact name_exact) (both_exact long_exact (ty_exact n)))) (a0, (a1, (a2, a3))) fits.0 (sig_of-Where_nowhere a0 a1 a2 a3) refl))

spec_deeper : (n : ℕ) → SigExact n → IsExact spec_of (tagged (spec_table n (sig_steps n))) (λ y. spec_level_is n (sig_is n) (out-Spec y))
unfolding or_tag
spec_deeper n x = record {
  again = λ y fits. subst Again (roll-out-Spec y) (level (out-Spec y) fits);
  spelled = tagged_spelled (
      or_tag_spells 112 (λ (p : (List ValDesc)). specv.Vals p nowhere) (list_exact (val_desc_exact n)) (λ p. spec_of-Vals_nowhere p)
      (λ p fits. made_is (Spec-F.Vals p nowhere) _ (specv.rolls-Vals p nowhere) (fits, refl)) (
      or_tag_spells 113 (λ (p : (List TypDesc)). specv.Types p nowhere) (list_exact (typ_desc_exact n)) (λ p. spec_of-Types_nowhere p)
      (λ p fits. made_is (Spec-F.Types p nowhere) _ (specv.rolls-Types p nowhere) (fits, refl)) (
      or_tag_spells 114 (λ (p : (List TypDesc)). specv.Eqtypes p nowhere) (list_exact (typ_desc_exact n)) (λ p. spec_of-Eqtypes_nowhere p)
      (λ p fits. made_is (Spec-F.Eqtypes p nowhere) _ (specv.rolls-Eqtypes p nowhere) (fits, refl)) (
      or_tag_spells 115 (λ (p : (List DatBind)). specv.Datatypes p nowhere) (list_exact (dat_bind_exact n)) (λ p. spec_of-Datatypes_nowhere p)
      (λ p fits. made_is (Spec-F.Datatypes p nowhere) _ (specv.rolls-Datatypes p nowhere) (fits, refl)) (
      or_tag_spells 116 (λ (p : (Name × LongName)). specv.Replication p.0 p.1 nowhere) (both_exact name_exact long_exact) (λ p. spec_of-Replication_nowhere p.0 p.1)
      (λ p fits. made_is (Spec-F.Replication p.0 p.1 nowhere) _ (specv.rolls-Replication p.0 p.1 nowhere) (fits, refl)) (
      or_tag_spells 117 (λ (p : (List ConBind)). specv.Exceptions p nowhere) (list_exact (con_bind_exact n)) (λ p. spec_of-Exceptions_nowhere p)
      (λ p fits. made_is (Spec-F.Exceptions p nowhere) _ (specv.rolls-Exceptions p nowhere) (fits, refl)) (
      or_tag_spells 118 (λ (p : (List SigBind)). specv.Structures p nowhere) (list_exact (sig_bind_exact n x)) (λ p. spec_of-Structures_nowhere p)
      (λ p fits. made_is (Spec-F.Structures p nowhere) _ (specv.rolls-Structures p nowhere) (fits, refl)) (
      or_tag_spells 119 (λ (p : SigExp). specv.Include p nowhere) x.sig (λ p. spec_of-Include_nowhere p)
      (λ p fits. made_is (Spec-F.Include p nowhere) _ (specv.rolls-Include p nowhere) (fits, refl)) (
      or_tag_spells 120 (λ (p : (List Spec)). specv.Sequence p nowhere) (list_exact x.spec) (λ p. spec_of-Sequence_nowhere p)
      (λ p fits. made_is (Spec-F.Sequence p nowhere) _ (specv.rolls-Sequence p nowhere) (fits, refl)) (no_tag_spells spec_of Is))))))))));
}
  where
    Is : Spec → Type 0
    Is y = spec_level_is n (sig_is n) (out-Spec y)

    Again : Spec → Type 0
    Again = IsReadAgain spec_of (tagged (spec_table n (sig_steps n)))

    made_is : (l : Spec-F SigExp Spec SigBind) (y : Spec) → roll-Spec l ≡ y → spec_level_is n (sig_is n) l → Is y
    made_is l y is fits = subst Is is (subst (spec_level_is n (sig_is n)) (sym (out-roll-Spec l)) fits)

    level : (l : Spec-F SigExp Spec SigBind) → spec_level_is n (sig_is n) l → Again (roll-Spec l)
    level (Spec-F.Vals a0 at) fits =
        subst (λ (at : At). Again (roll-Spec (Spec-F.Vals a0 at))) (sym fits.1)
        (subst Again (sym (specv.rolls-Vals a0 nowhere))
        (tagged_again spec_of (spec_table n (sig_steps n)) 112 (λ (p : (List ValDesc)). specv.Vals p nowhere) (list_exact (val_desc_exact n)) a0 fits.0 (spec_of-Vals_nowhere a0) refl))
    level (Spec-F.Types a0 at) fits =
        subst (λ (at : At). Again (roll-Spec (Spec-F.Types a0 at))) (sym fits.1)
        (subst Again (sym (specv.rolls-Types a0 nowhere))
        (tagged_again spec_of (spec_table n (sig_steps n)) 113 (λ (p : (List TypDesc)). specv.Types p nowhere) (list_exact (typ_desc_exact n)) a0 fits.0 (spec_of-Types_nowhere a0) refl))
    level (Spec-F.Eqtypes a0 at) fits =
        subst (λ (at : At). Again (roll-Spec (Spec-F.Eqtypes a0 at))) (sym fits.1)
        (subst Again (sym (specv.rolls-Eqtypes a0 nowhere))
        (tagged_again spec_of (spec_table n (sig_steps n)) 114 (λ (p : (List TypDesc)). specv.Eqtypes p nowhere) (list_exact (typ_desc_exact n)) a0 fits.0 (spec_of-Eqtypes_nowhere a0) refl))
    level (Spec-F.Datatypes a0 at) fits =
        subst (λ (at : At). Again (roll-Spec (Spec-F.Datatypes a0 at))) (sym fits.1)
        (subst Again (sym (specv.rolls-Datatypes a0 nowhere))
        (tagged_again spec_of (spec_table n (sig_steps n)) 115 (λ (p : (List DatBind)). specv.Datatypes p nowhere) (list_exact (dat_bind_exact n)) a0 fits.0 (spec_of-Datatypes_nowhere a0) refl))
    level (Spec-F.Replication a0 a1 at) fits =
        subst (λ (at : At). Again (roll-Spec (Spec-F.Replication a0 a1 at))) (sym fits.1)
        (subst Again (sym (specv.rolls-Replication a0 a1 nowhere))
        (tagged_again spec_of (spec_table n (sig_steps n)) 116 (λ (p : (Name × LongName)). specv.Replication p.0 p.1 nowhere) (both_exact name_exact long_exact) (a0, a1) fits.0 (spec_of-Replication_nowhere a0 a1) refl))
    level (Spec-F.Exceptions a0 at) fits =
        subst (λ (at : At). Again (roll-Spec (Spec-F.Exceptions a0 at))) (sym fits.1)
        (subst Again (sym (specv.rolls-Exceptions a0 nowhere))
        (tagged_again spec_of (spec_table n (sig_steps n)) 117 (λ (p : (List ConBind)). specv.Exceptions p nowhere) (list_exact (con_bind_exact n)) a0 fits.0 (spec_of-Exceptions_nowhere a0) refl))
    level (Spec-F.Structures a0 at) fits =
        subst (λ (at : At). Again (roll-Spec (Spec-F.Structures a0 at))) (sym fits.1)
        (subst Again (sym (specv.rolls-Structures a0 nowhere))
        (tagged_again spec_of (spec_table n (sig_steps n)) 118 (λ (p : (List SigBind)). specv.Structures p nowhere) (list_exact (sig_bind_exact n x)) a0 fits.0 (spec_of-Structures_nowhere a0) refl))
    level (Spec-F.Include a0 at) fits =
        subst (λ (at : At). Again (roll-Spec (Spec-F.Include a0 at))) (sym fits.1)
        (subst Again (sym (specv.rolls-Include a0 nowhere))
        (tagged_again spec_of (spec_table n (sig_steps n)) 119 (λ (p : SigExp). specv.Include p nowhere) x.sig a0 fits.0 (spec_of-Include_nowhere a0) refl))
    level (Spec-F.Sequence a0 at) fits =
        subst (λ (at : At). Again (roll-Spec (Spec-F.Sequence a0 at))) (sym fits.1)
        (subst Again (sym (specv.rolls-Sequence a0 nowhere))
        (tagged_again spec_of (spec_table n (sig_steps n)) 120 (λ (p : (List Spec)). specv.Sequence p nowhere) (list_exact x.spec) a0 fits.0 (spec_of-Sequence_nowhere a0) refl))

pub sig_exact : (n : ℕ) → SigExact n
sig_exact zero = record { sig = none_exact sig_of; spec = none_exact spec_of; spec_body = none_exact spec_of }
sig_exact (suc n) = record {
  sig = sig_deeper n (sig_exact n);
  spec = spec_deeper n (sig_exact n);
  spec_body = body_exact 120 (λ (xs : List Spec). specv.Sequence xs nowhere) (list_exact (sig_exact n).spec) (λ xs. spec_of-Sequence_nowhere xs);
}
