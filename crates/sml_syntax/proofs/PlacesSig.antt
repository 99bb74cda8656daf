-- The places of patterns and signatures don't show in their bytes.
use Rattle.std.proofs.Common.{◌≡◌, ℕ, List, [], ◌∷◌, ◌++◌, Option, map, refl, sym, ap, ap₂, ◌∙◌, subst}
use Rattle.cm_bytes.specs.Fields.{list_of}
use Rattle.sml_syntax.specs.Code.{parts, option_of, name_of, long_of, int_of, ty_of, typ_desc_of, con_bind_of, dat_bind_of, val_desc_of, pat_of, pat_field_of, pat_level, pat_field_level, sig_of, spec_of, sig_bind_of, sig_level, spec_level, sig_bind_level}
use Rattle.sml_syntax.specs.Places.{unplaced_name, unplaced_ty, unplaced_con_bind, unplaced_dat_bind, unplaced_val_desc, unplaced_typ_desc, pat_unplaced, pat_field_unplaced, unplaced_pat, unplaced_pat_field, sig_unplaced, spec_unplaced, sig_bind_unplaced, unplaced_sig, unplaced_spec, unplaced_sig_bind}
use Rattle.sml_syntax.proofs.Places.{ap₃, list_same, held_same, option_same, names_same, ty_same, con_bind_same, dat_bind_same, val_desc_same, typ_desc_same}
use Rattle.sml_trees.specs.declared.pat.Pat.{Pat, roll-Pat}
use Rattle.sml_trees.specs.declared.pat.PatField.{PatField, roll-PatField}
use Rattle.sml_trees.specs.declared.pat.Pat.TheOpen.{Pat-F, PatField-F}
use Rattle.sml_trees.specs.declared.pat.Pat.TheFolds.{map-Pat, map-PatField, fold-roll-Pat, fold-roll-PatField, ind-Pat, ind-PatField}
use Rattle.sml_trees.specs.declared.sig_exp.SigExp.{SigExp, roll-SigExp}
use Rattle.sml_trees.specs.declared.sig_exp.Spec.{Spec, roll-Spec}
use Rattle.sml_trees.specs.declared.sig_exp.SigBind.{SigBind, roll-SigBind}
use Rattle.sml_trees.specs.declared.sig_exp.SigExp.TheOpen.{SigExp-F, Spec-F, SigBind-F}
use Rattle.sml_trees.specs.declared.sig_exp.SigExp.TheFolds.{map-SigExp, map-Spec, map-SigBind, fold-roll-SigExp, fold-roll-Spec, fold-roll-SigBind, ind-SigExp, ind-Spec, ind-SigBind}

-- ---- patterns

abbrev SamePat : Pat → Type 0
SamePat x = pat_of (unplaced_pat x) ≡ pat_of x

abbrev HeldPat : Type 0
HeldPat = (x : Pat) × SamePat x

abbrev SamePatField : PatField → Type 0
SamePatField x = pat_field_of (unplaced_pat_field x) ≡ pat_field_of x

abbrev HeldPatField : Type 0
HeldPatField = (x : PatField) × SamePatField x

pat_parts_same : (y : Pat-F HeldPat HeldPatField)
    → pat_level (map-Pat _ _ _ _ pat_of pat_field_of (pat_unplaced (map-Pat _ _ _ _ unplaced_pat unplaced_pat_field (map-Pat _ _ _ _ (λ e. e.0) (λ e. e.0) y))))
    ≡ pat_level (map-Pat _ _ _ _ pat_of pat_field_of (map-Pat _ _ _ _ (λ e. e.0) (λ e. e.0) y))
pat_parts_same (Pat-F.Wild at) = refl
pat_parts_same (Pat-F.Int a at) = refl
pat_parts_same (Pat-F.Str a at) = refl
pat_parts_same (Pat-F.Char a at) = refl
pat_parts_same (Pat-F.Long a at) = refl
pat_parts_same (Pat-F.Record a at) = ap (λ s. 37 ∷ parts s) (held_same pat_field_of unplaced_pat_field a)
pat_parts_same (Pat-F.Con a b at) = ap (λ s. 38 ∷ (long_of a ++ s)) (b.1)
pat_parts_same (Pat-F.Typed a b at) = ap₂ (λ s t. 39 ∷ (s ++ t)) (a.1) (ty_same b)
pat_parts_same (Pat-F.As a b c at) = ap₂ (λ s t. 40 ∷ (name_of a ++ (s ++ t))) (option_same ty_of unplaced_ty ty_same b) (c.1)

pat_step : (x : Pat-F Pat PatField) (y : Pat-F HeldPat HeldPatField) → map-Pat _ _ _ _ (λ e. e.0) (λ e. e.0) y ≡ x → SamePat (roll-Pat x)
pat_step x y is = subst (λ (z : Pat-F Pat PatField). SamePat (roll-Pat z)) is (
    ap pat_of (fold-roll-Pat _ _ (λ x. roll-Pat (pat_unplaced x)) (λ x. roll-PatField (pat_field_unplaced x)) z)
    ∙ fold-roll-Pat _ _ pat_level pat_field_level (pat_unplaced (map-Pat _ _ _ _ unplaced_pat unplaced_pat_field z))
    ∙ pat_parts_same y
    ∙ sym (fold-roll-Pat _ _ pat_level pat_field_level z))
  where
    z : Pat-F Pat PatField
    z = map-Pat _ _ _ _ (λ e. e.0) (λ e. e.0) y

pat_field_parts_same : (y : PatField-F HeldPat HeldPatField)
    → pat_field_level (map-PatField _ _ _ _ pat_of pat_field_of (pat_field_unplaced (map-PatField _ _ _ _ unplaced_pat unplaced_pat_field (map-PatField _ _ _ _ (λ e. e.0) (λ e. e.0) y))))
    ≡ pat_field_level (map-PatField _ _ _ _ pat_of pat_field_of (map-PatField _ _ _ _ (λ e. e.0) (λ e. e.0) y))
pat_field_parts_same y = ap (λ s. (name_of y.label ++ s)) (y.pat.1)

pat_field_step : (x : PatField-F Pat PatField) (y : PatField-F HeldPat HeldPatField) → map-PatField _ _ _ _ (λ e. e.0) (λ e. e.0) y ≡ x → SamePatField (roll-PatField x)
pat_field_step x y is = subst (λ (z : PatField-F Pat PatField). SamePatField (roll-PatField z)) is (
    ap pat_field_of (fold-roll-PatField _ _ (λ x. roll-Pat (pat_unplaced x)) (λ x. roll-PatField (pat_field_unplaced x)) z)
    ∙ fold-roll-PatField _ _ pat_level pat_field_level (pat_field_unplaced (map-PatField _ _ _ _ unplaced_pat unplaced_pat_field z))
    ∙ pat_field_parts_same y
    ∙ sym (fold-roll-PatField _ _ pat_level pat_field_level z))
  where
    z : PatField-F Pat PatField
    z = map-PatField _ _ _ _ (λ e. e.0) (λ e. e.0) y

pub pat_same : (x : Pat) → SamePat x
pat_same = ind-Pat SamePat SamePatField pat_step pat_field_step

pub pat_field_same : (x : PatField) → SamePatField x
pat_field_same = ind-PatField SamePat SamePatField pat_step pat_field_step

-- ---- signatures

abbrev SameSigExp : SigExp → Type 0
SameSigExp x = sig_of (unplaced_sig x) ≡ sig_of x

abbrev HeldSigExp : Type 0
HeldSigExp = (x : SigExp) × SameSigExp x

abbrev SameSpec : Spec → Type 0
SameSpec x = spec_of (unplaced_spec x) ≡ spec_of x

abbrev HeldSpec : Type 0
HeldSpec = (x : Spec) × SameSpec x

abbrev SameSigBind : SigBind → Type 0
SameSigBind x = sig_bind_of (unplaced_sig_bind x) ≡ sig_bind_of x

abbrev HeldSigBind : Type 0
HeldSigBind = (x : SigBind) × SameSigBind x

sig_parts_same : (y : SigExp-F HeldSigExp HeldSpec HeldSigBind)
    → sig_level (map-SigExp _ _ _ _ _ _ sig_of spec_of sig_bind_of (sig_unplaced (map-SigExp _ _ _ _ _ _ unplaced_sig unplaced_spec unplaced_sig_bind (map-SigExp _ _ _ _ _ _ (λ e. e.0) (λ e. e.0) (λ e. e.0) y))))
    ≡ sig_level (map-SigExp _ _ _ _ _ _ sig_of spec_of sig_bind_of (map-SigExp _ _ _ _ _ _ (λ e. e.0) (λ e. e.0) (λ e. e.0) y))
sig_parts_same (SigExp-F.Sig a at) = ap (λ s. 96 ∷ s) (a.1)
sig_parts_same (SigExp-F.Named a at) = refl
sig_parts_same (SigExp-F.Where a b c d at) = ap₃ (λ s t u. 98 ∷ (s ++ (t ++ (long_of c ++ u)))) (a.1) (names_same b) (ty_same d)

sig_step : (x : SigExp-F SigExp Spec SigBind) (y : SigExp-F HeldSigExp HeldSpec HeldSigBind) → map-SigExp _ _ _ _ _ _ (λ e. e.0) (λ e. e.0) (λ e. e.0) y ≡ x → SameSigExp (roll-SigExp x)
sig_step x y is = subst (λ (z : SigExp-F SigExp Spec SigBind). SameSigExp (roll-SigExp z)) is (
    ap sig_of (fold-roll-SigExp _ _ _ (λ x. roll-SigExp (sig_unplaced x)) (λ x. roll-Spec (spec_unplaced x)) (λ x. roll-SigBind (sig_bind_unplaced x)) z)
    ∙ fold-roll-SigExp _ _ _ sig_level spec_level sig_bind_level (sig_unplaced (map-SigExp _ _ _ _ _ _ unplaced_sig unplaced_spec unplaced_sig_bind z))
    ∙ sig_parts_same y
    ∙ sym (fold-roll-SigExp _ _ _ sig_level spec_level sig_bind_level z))
  where
    z : SigExp-F SigExp Spec SigBind
    z = map-SigExp _ _ _ _ _ _ (λ e. e.0) (λ e. e.0) (λ e. e.0) y

spec_parts_same : (y : Spec-F HeldSigExp HeldSpec HeldSigBind)
    → spec_level (map-Spec _ _ _ _ _ _ sig_of spec_of sig_bind_of (spec_unplaced (map-Spec _ _ _ _ _ _ unplaced_sig unplaced_spec unplaced_sig_bind (map-Spec _ _ _ _ _ _ (λ e. e.0) (λ e. e.0) (λ e. e.0) y))))
    ≡ spec_level (map-Spec _ _ _ _ _ _ sig_of spec_of sig_bind_of (map-Spec _ _ _ _ _ _ (λ e. e.0) (λ e. e.0) (λ e. e.0) y))
spec_parts_same (Spec-F.Vals a at) = ap (λ s. 112 ∷ s) (list_same val_desc_of unplaced_val_desc val_desc_same a)
spec_parts_same (Spec-F.Types a at) = ap (λ s. 113 ∷ s) (list_same typ_desc_of unplaced_typ_desc typ_desc_same a)
spec_parts_same (Spec-F.Eqtypes a at) = ap (λ s. 114 ∷ s) (list_same typ_desc_of unplaced_typ_desc typ_desc_same a)
spec_parts_same (Spec-F.Datatypes a at) = ap (λ s. 115 ∷ s) (list_same dat_bind_of unplaced_dat_bind dat_bind_same a)
spec_parts_same (Spec-F.Replication a b at) = refl
spec_parts_same (Spec-F.Exceptions a at) = ap (λ s. 117 ∷ s) (list_same con_bind_of unplaced_con_bind con_bind_same a)
spec_parts_same (Spec-F.Structures a at) = ap (λ s. 118 ∷ parts s) (held_same sig_bind_of unplaced_sig_bind a)
spec_parts_same (Spec-F.Include a at) = ap (λ s. 119 ∷ s) (a.1)
spec_parts_same (Spec-F.Sequence a at) = ap (λ s. 120 ∷ parts s) (held_same spec_of unplaced_spec a)

spec_step : (x : Spec-F SigExp Spec SigBind) (y : Spec-F HeldSigExp HeldSpec HeldSigBind) → map-Spec _ _ _ _ _ _ (λ e. e.0) (λ e. e.0) (λ e. e.0) y ≡ x → SameSpec (roll-Spec x)
spec_step x y is = subst (λ (z : Spec-F SigExp Spec SigBind). SameSpec (roll-Spec z)) is (
    ap spec_of (fold-roll-Spec _ _ _ (λ x. roll-SigExp (sig_unplaced x)) (λ x. roll-Spec (spec_unplaced x)) (λ x. roll-SigBind (sig_bind_unplaced x)) z)
    ∙ fold-roll-Spec _ _ _ sig_level spec_level sig_bind_level (spec_unplaced (map-Spec _ _ _ _ _ _ unplaced_sig unplaced_spec unplaced_sig_bind z))
    ∙ spec_parts_same y
    ∙ sym (fold-roll-Spec _ _ _ sig_level spec_level sig_bind_level z))
  where
    z : Spec-F SigExp Spec SigBind
    z = map-Spec _ _ _ _ _ _ (λ e. e.0) (λ e. e.0) (λ e. e.0) y

sig_bind_parts_same : (y : SigBind-F HeldSigExp HeldSpec HeldSigBind)
    → sig_bind_level (map-SigBind _ _ _ _ _ _ sig_of spec_of sig_bind_of (sig_bind_unplaced (map-SigBind _ _ _ _ _ _ unplaced_sig unplaced_spec unplaced_sig_bind (map-SigBind _ _ _ _ _ _ (λ e. e.0) (λ e. e.0) (λ e. e.0) y))))
    ≡ sig_bind_level (map-SigBind _ _ _ _ _ _ sig_of spec_of sig_bind_of (map-SigBind _ _ _ _ _ _ (λ e. e.0) (λ e. e.0) (λ e. e.0) y))
sig_bind_parts_same y = ap (λ s. (name_of y.name ++ s)) (y.sig.1)

sig_bind_step : (x : SigBind-F SigExp Spec SigBind) (y : SigBind-F HeldSigExp HeldSpec HeldSigBind) → map-SigBind _ _ _ _ _ _ (λ e. e.0) (λ e. e.0) (λ e. e.0) y ≡ x → SameSigBind (roll-SigBind x)
sig_bind_step x y is = subst (λ (z : SigBind-F SigExp Spec SigBind). SameSigBind (roll-SigBind z)) is (
    ap sig_bind_of (fold-roll-SigBind _ _ _ (λ x. roll-SigExp (sig_unplaced x)) (λ x. roll-Spec (spec_unplaced x)) (λ x. roll-SigBind (sig_bind_unplaced x)) z)
    ∙ fold-roll-SigBind _ _ _ sig_level spec_level sig_bind_level (sig_bind_unplaced (map-SigBind _ _ _ _ _ _ unplaced_sig unplaced_spec unplaced_sig_bind z))
    ∙ sig_bind_parts_same y
    ∙ sym (fold-roll-SigBind _ _ _ sig_level spec_level sig_bind_level z))
  where
    z : SigBind-F SigExp Spec SigBind
    z = map-SigBind _ _ _ _ _ _ (λ e. e.0) (λ e. e.0) (λ e. e.0) y

pub sig_same : (x : SigExp) → SameSigExp x
sig_same = ind-SigExp SameSigExp SameSpec SameSigBind sig_step spec_step sig_bind_step

pub spec_same : (x : Spec) → SameSpec x
spec_same = ind-Spec SameSigExp SameSpec SameSigBind sig_step spec_step sig_bind_step

pub sig_bind_same : (x : SigBind) → SameSigBind x
sig_bind_same = ind-SigBind SameSigExp SameSpec SameSigBind sig_step spec_step sig_bind_step
