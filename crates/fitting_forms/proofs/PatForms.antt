-- What a pattern becomes has constants that fit, if what its parts become has.
use Rattle.std.proofs.Common.{◌≡◌, ℕ, ℤ, zero, suc, Bool, true, false, List, [], ◌∷◌, Option, Some, None, refl, sym, ap, ap₂, ◌∙◌, subst, map}
use Rattle.std.specs.Prelude.{codes}
use Rattle.std.specs.Option.{option_map}
use Rattle.sml_trees.specs.declared.name.At.{At}
use Rattle.sml_trees.specs.declared.name.Name.{Name}
use Rattle.sml_trees.specs.declared.name.LongName.{LongName}
use Rattle.sml_trees.specs.declared.full_ty.FullTy.{FullTy}
use Rattle.sml_trees.specs.declared.full_ty.OpLong.{OpLong}
use Rattle.sml_trees.specs.declared.full_ty.OpName.{OpName}
use Rattle.sml_trees.specs.declared.full_pat.Constant.{Constant}
use Rattle.sml_trees.specs.declared.full_pat.Constant.TheVariants as constant
use Rattle.sml_trees.specs.declared.full_pat.Fixity.{Fixity}
use Rattle.sml_trees.specs.declared.full_pat.FullPat.{FullPat}
use Rattle.sml_trees.specs.declared.full_pat.FullPat.TheOpen.{FullPat-F, FullPatItem-F, FullPatField-F}
use Rattle.sml_trees.specs.declared.full_pat.FullPat.TheFolds.{fold-roll-FullPat, fold-roll-FullPatField}
use Rattle.sml_trees.specs.declared.full_pat.FullPat.TheVariants as written
use Rattle.sml_trees.specs.declared.full_pat.FullPatItem.{FullPatItem}
use Rattle.sml_trees.specs.declared.full_pat.FullPatItem.TheVariants as piece
use Rattle.sml_trees.specs.declared.full_pat.FullPatField.{FullPatField}
use Rattle.sml_trees.specs.declared.full_pat.FullPatField.TheVariants as row
use Rattle.sml_trees.specs.declared.pat.Pat.{Pat, out-Pat}
use Rattle.sml_trees.specs.declared.pat.Pat.TheOpen.{Pat-F}
use Rattle.sml_trees.specs.declared.pat.Pat.TheFolds.{fold-roll-Pat, fold-roll-PatField}
use Rattle.sml_trees.specs.declared.pat.Pat.TheVariants as pat
use Rattle.sml_trees.specs.declared.pat.PatField.{PatField, roll-PatField}
use Rattle.sml_trees.specs.declared.ty.Ty.{Ty}
use Rattle.bare_forms.specs.declared.placed.PlacedPat.{PlacedPat}
use Rattle.bare_forms.specs.Runs.{Part, run_of}
use Rattle.bare_forms.specs.RunValues.{part_value}
use Rattle.bare_forms.specs.Types.{label_of, bare_ty}
use Rattle.bare_forms.specs.Patterns.{at_name, long_name, long_at, constant_pat, pat_fields_from, pair_pat, cons_pat, rest_pat, list_pat, joined_pat, con_pat, applied_pat, missing_pat, named_pat, pat_level, pat_field_level, pat_item_level, bare_pat, bare_pat_field, bare_pat_item}
use Rattle.bare_forms.proofs.RunFusion.{run-value}
use Rattle.bare_forms.proofs.PatLevels.{bare_pat-Record, bare_pat-Tuple, bare_pat-List, bare_pat-Run, bare_pat_field-Named, bare_pat_item-Atom, bare_pat_item-Operator}
use Rattle.code_laws.specs.Constants.{fits_int, fits_byte, pat_fit, pat_field_fit, fit_pat, fit_pat_field}
use Rattle.body_laws.proofs.Signatures.{Each, each-map, each-true}

-- what may be absent
abbrev pub IfAny : {A : Type 0} → (A → Type 0) → Option A → Type 0
IfAny P None = Unit {0}
IfAny P (Some a) = P a

-- ---- nodes

abbrev pub FitPat : Pat → Type 0
FitPat p = fit_pat p ≡ true

abbrev pub FitPlaced : PlacedPat → Type 0
FitPlaced p = FitPat p.pat

abbrev pub FitField : PatField → Type 0
FitField f = fit_pat_field f ≡ true

abbrev pub FitConstant : Constant → Type 0
FitConstant (constant.Int n) = fits_int n ≡ true
FitConstant (constant.Str text) = Unit {0}
FitConstant (constant.Char byte) = fits_byte byte ≡ true

pub good-Wild : (at : At) → FitPat (pat.Wild at)
good-Wild at = ap fit_pat (sym (pat.rolls-Wild at)) ∙ fold-roll-Pat _ _ pat_fit pat_field_fit (Pat-F.Wild at)

pub good-Long : (long : LongName) (at : At) → FitPat (pat.Long long at)
good-Long long at =
    ap fit_pat (sym (pat.rolls-Long long at)) ∙ fold-roll-Pat _ _ pat_fit pat_field_fit (Pat-F.Long long at)

good-constant : (value : Constant) (at : At) → FitConstant value → FitPat (constant_pat value at)
good-constant (constant.Int n) at is =
    ap fit_pat (sym (pat.rolls-Int n at)) ∙ fold-roll-Pat _ _ pat_fit pat_field_fit (Pat-F.Int n at) ∙ is
good-constant (constant.Str text) at is =
    ap fit_pat (sym (pat.rolls-Str text at)) ∙ fold-roll-Pat _ _ pat_fit pat_field_fit (Pat-F.Str text at)
good-constant (constant.Char byte) at is =
    ap fit_pat (sym (pat.rolls-Char byte at)) ∙ fold-roll-Pat _ _ pat_fit pat_field_fit (Pat-F.Char byte at) ∙ is

pub good-Record : (fields : List PatField) (at : At) → Each FitField fields → FitPat (pat.Record fields at)
good-Record fields at all =
    ap fit_pat (sym (pat.rolls-Record fields at))
    ∙ fold-roll-Pat _ _ pat_fit pat_field_fit (Pat-F.Record fields at)
    ∙ each-true fit_pat_field fields all

good-Con : (long : LongName) (arg : Pat) (at : At) → FitPat arg → FitPat (pat.Con long arg at)
good-Con long arg at is =
    ap fit_pat (sym (pat.rolls-Con long arg at)) ∙ fold-roll-Pat _ _ pat_fit pat_field_fit (Pat-F.Con long arg at) ∙ is

good-Typed : (inner : Pat) (t : Ty) (at : At) → FitPat inner → FitPat (pat.Typed inner t at)
good-Typed inner t at is =
    ap fit_pat (sym (pat.rolls-Typed inner t at))
    ∙ fold-roll-Pat _ _ pat_fit pat_field_fit (Pat-F.Typed inner t at) ∙ is

good-As : (name : Name) (t : Option Ty) (inner : Pat) (at : At) → FitPat inner → FitPat (pat.As name t inner at)
good-As name t inner at is =
    ap fit_pat (sym (pat.rolls-As name t inner at))
    ∙ fold-roll-Pat _ _ pat_fit pat_field_fit (Pat-F.As name t inner at) ∙ is

good-field : (label : Name) (inner : Pat) → FitPat inner → FitField (roll-PatField (record { label = label; pat = inner }))
good-field label inner is = fold-roll-PatField _ _ pat_fit pat_field_fit (record { label = label; pat = inner }) ∙ is

-- ---- what derived forms are made of

pub good-tuple : (at : At) (n : ℕ) (parts : List PlacedPat) → Each FitPlaced parts
    → Each FitField (pat_fields_from at n parts)
good-tuple at n [] all = tt
good-tuple at n (part ∷ parts) all =
    (good-field (label_of at n) part.pat all.0, good-tuple at (suc n) parts all.1)

pub good-pair : (at : At) (a b : Pat) → FitPat a → FitPat b → FitPat (pair_pat at a b)
good-pair at a b first second =
    good-Record
    (roll-PatField (record { label = label_of at 1; pat = a })
    ∷ roll-PatField (record { label = label_of at 2; pat = b }) ∷ []) at
    (good-field (label_of at 1) a first, (good-field (label_of at 2) b second, tt))

good-cons : (at : At) (a b : Pat) → FitPat a → FitPat b → FitPat (cons_pat at a b)
good-cons at a b first second =
    good-Con (long_at at (codes "::")) (pair_pat at a b) at (good-pair at a b first second)

good-rest : (ps : List PlacedPat) (rest : Pat) → Each FitPlaced ps → FitPat rest → FitPat (rest_pat ps rest)
good-rest [] rest all is = is
good-rest (p ∷ ps) rest all is = good-cons p.at p.pat (rest_pat ps rest) all.0 (good-rest ps rest all.1 is)

good-list : (at : At) (ps : List PlacedPat) → Each FitPlaced ps → FitPat (list_pat at ps)
good-list at [] all = good-Long (long_at at (codes "nil")) at
good-list at (p ∷ ps) all =
    let nil = pat.Long (long_at at (codes "nil")) at in
    good-cons at p.pat (rest_pat ps nil) all.0 (good-rest ps nil all.1 (good-Long (long_at at (codes "nil")) at))

good-named : (name : Name) (t : Option Ty) (inner : Option PlacedPat) → IfAny FitPlaced inner
    → FitPat (named_pat name t inner)
good-named name t (Some inner) is = good-As name t inner.pat (at_name name) is
good-named name None None is = good-Long (long_name name) (at_name name)
good-named name (Some t) None is =
    good-Typed (pat.Long (long_name name) (at_name name)) t (at_name name) (good-Long (long_name name) (at_name name))

-- ---- runs: what is made of operands with their proofs has its proof

abbrev HeldP : Type 0
HeldP = (p : PlacedPat) × FitPlaced p

abbrev placed_of : HeldP → PlacedPat
placed_of h = h.0

good-applied : (node : Pat-F Pat PatField) (con arg : PlacedPat) → FitPlaced con → FitPlaced arg
    → FitPat (con_pat node con arg)
good-applied (Pat-F.Long long at) con arg first second = good-Con long arg.pat con.at second
good-applied (Pat-F.Wild at) con arg first second = first
good-applied (Pat-F.Int n at) con arg first second = first
good-applied (Pat-F.Str text at) con arg first second = first
good-applied (Pat-F.Char byte at) con arg first second = first
good-applied (Pat-F.Record fields at) con arg first second = first
good-applied (Pat-F.Con long inner at) con arg first second = first
good-applied (Pat-F.Typed inner t at) con arg first second = first
good-applied (Pat-F.As name t inner at) con arg first second = first

abbrev joined_held : Name → HeldP → HeldP → HeldP
joined_held op a b = (
  joined_pat op a.0 b.0,
  good-Con (long_name op) (pair_pat a.0.at a.0.pat b.0.pat) a.0.at (good-pair a.0.at a.0.pat b.0.pat a.1 b.1),
)

abbrev applied_held : HeldP → HeldP → HeldP
applied_held f x = (applied_pat f.0 x.0, good-applied (out-Pat f.0.pat) f.0 x.0 f.1 x.1)

abbrev missing_held : At → HeldP
missing_held at = (missing_pat at, good-Wild at)

abbrev pub FitPart : Part PlacedPat → Type 0
FitPart (Part.Atom p) = FitPlaced p
FitPart (Part.Operator op) = Unit {0}

abbrev held_part : (part : Part PlacedPat) → FitPart part → Part HeldP
held_part (Part.Atom p) is = Part.Atom (p, is)
held_part (Part.Operator op) is = Part.Operator op

held_part-is : (part : Part PlacedPat) (is : FitPart part) → part_value placed_of (held_part part is) ≡ part
held_part-is (Part.Atom p) is = refl
held_part-is (Part.Operator op) is = refl

abbrev held_parts : (parts : List (Part PlacedPat)) → Each FitPart parts → List (Part HeldP)
held_parts [] all = []
held_parts (part ∷ parts) all = held_part part all.0 ∷ held_parts parts all.1

held_parts-are : (parts : List (Part PlacedPat)) (all : Each FitPart parts)
    → map (part_value placed_of) (held_parts parts all) ≡ parts
held_parts-are [] all = refl
held_parts-are (part ∷ parts) all = ap₂ (λ p ps. p ∷ ps) (held_part-is part all.0) (held_parts-are parts all.1)

pub good-run : (at : At) (parts : List (Part PlacedPat)) → Each FitPart parts
    → FitPlaced (run_of joined_pat applied_pat (missing_pat at) parts)
good-run at parts all =
    let run = run_of joined_held applied_held (missing_held at) (held_parts parts all) in
    subst FitPlaced
    (run-value placed_of joined_held joined_pat (λ op a b. refl) applied_held applied_pat (λ a b. refl)
    (missing_held at) (missing_pat at) refl (held_parts parts all)
    ∙ ap (run_of joined_pat applied_pat (missing_pat at)) (held_parts-are parts all))
    run.1

-- ---- each form

-- what a pattern becomes has constants that fit
abbrev pub PatIs : FullPat → Type 0
PatIs full = FitPlaced (bare_pat full)

abbrev pub FieldIs : FullPatField → Type 0
FieldIs full = FitField (bare_pat_field full)

abbrev pub ItemIs : FullPatItem → Type 0
ItemIs full = FitPart (bare_pat_item full)

pat_by : {one made : PlacedPat} → one ≡ made → FitPlaced made → FitPlaced one
pat_by same is = subst FitPlaced (sym same) is

pub pat-Wild : (at : At) → PatIs (written.Wild at)
pat-Wild at =
    pat_by (ap bare_pat (sym (written.rolls-Wild at))
    ∙ fold-roll-FullPat _ _ _ pat_level pat_field_level pat_item_level (FullPat-F.Wild at)) (good-Wild at)

pub pat-Constant : (value : Constant) (at : At) → FitConstant value → PatIs (written.Constant value at)
pat-Constant value at is =
    pat_by (ap bare_pat (sym (written.rolls-Constant value at))
    ∙ fold-roll-FullPat _ _ _ pat_level pat_field_level pat_item_level (FullPat-F.Constant value at))
    (good-constant value at is)

pub pat-Long : (id : OpLong) (at : At) → PatIs (written.Long id at)
pat-Long id at =
    pat_by (ap bare_pat (sym (written.rolls-Long id at))
    ∙ fold-roll-FullPat _ _ _ pat_level pat_field_level pat_item_level (FullPat-F.Long id at)) (good-Long id.long at)

pub pat-Record : (fields : List FullPatField) (at : At) → Each FieldIs fields → PatIs (written.Record fields at)
pat-Record fields at all =
    pat_by (bare_pat-Record fields at)
    (good-Record (map bare_pat_field fields) at (each-map FitField bare_pat_field fields all))

pub pat-Unit : (at : At) → PatIs (written.Unit at)
pat-Unit at =
    pat_by (ap bare_pat (sym (written.rolls-Unit at))
    ∙ fold-roll-FullPat _ _ _ pat_level pat_field_level pat_item_level (FullPat-F.Unit at)) (good-Record [] at tt)

pub pat-Tuple : (parts : List FullPat) (at : At) → Each PatIs parts → PatIs (written.Tuple parts at)
pat-Tuple parts at all =
    pat_by (bare_pat-Tuple parts at)
    (good-Record (pat_fields_from at 1 (map bare_pat parts)) at
    (good-tuple at 1 (map bare_pat parts) (each-map FitPlaced bare_pat parts all)))

pub pat-List : (items : List FullPat) (at : At) → Each PatIs items → PatIs (written.List items at)
pat-List items at all =
    pat_by (bare_pat-List items at) (good-list at (map bare_pat items) (each-map FitPlaced bare_pat items all))

pub pat-Paren : (inner : FullPat) (at : At) → PatIs inner → PatIs (written.Paren inner at)
pat-Paren inner at is =
    pat_by (ap bare_pat (sym (written.rolls-Paren inner at))
    ∙ fold-roll-FullPat _ _ _ pat_level pat_field_level pat_item_level (FullPat-F.Paren inner at)) is

pub pat-Run : (items : List FullPatItem) (at : At) → Each ItemIs items → PatIs (written.Run items at)
pat-Run items at all =
    pat_by (bare_pat-Run items at) (good-run at (map bare_pat_item items) (each-map FitPart bare_pat_item items all))

pub pat-Typed : (inner : FullPat) (ty : FullTy) (at : At) → PatIs inner → PatIs (written.Typed inner ty at)
pat-Typed inner ty at is =
    pat_by (ap bare_pat (sym (written.rolls-Typed inner ty at))
    ∙ fold-roll-FullPat _ _ _ pat_level pat_field_level pat_item_level (FullPat-F.Typed inner ty at))
    (good-Typed (bare_pat inner).pat (bare_ty ty) at is)

pub pat-As : (called : OpName) (ty : Option FullTy) (inner : FullPat) (at : At) → PatIs inner
    → PatIs (written.As called ty inner at)
pat-As called ty inner at is =
    pat_by (ap bare_pat (sym (written.rolls-As called ty inner at))
    ∙ fold-roll-FullPat _ _ _ pat_level pat_field_level pat_item_level (FullPat-F.As called ty inner at))
    (good-As called.name (option_map bare_ty ty) (bare_pat inner).pat at is)

pub item-Atom : (inner : FullPat) → PatIs inner → ItemIs (piece.Atom inner)
item-Atom inner is = subst FitPart (sym (bare_pat_item-Atom inner)) is

pub item-Operator : (called : Name) (fixity : Fixity) → ItemIs (piece.Operator called fixity)
item-Operator called fixity = subst FitPart (sym (bare_pat_item-Operator called fixity)) tt

pub field-Labelled : (label : Name) (inner : FullPat) → PatIs inner → FieldIs (row.Labelled label inner)
field-Labelled label inner is =
    subst FitField (sym (ap bare_pat_field (sym (row.rolls-Labelled label inner))
    ∙ fold-roll-FullPatField _ _ _ pat_level pat_field_level pat_item_level (FullPatField-F.Labelled label inner)))
    (good-field label (bare_pat inner).pat is)

pub field-Named : (called : Name) (ty : Option FullTy) (inner : Option FullPat) → IfAny PatIs inner
    → FieldIs (row.Named called ty inner)
field-Named called ty None is =
    subst FitField (sym (bare_pat_field-Named called ty None))
    (good-field called (named_pat called (option_map bare_ty ty) None) (good-named called (option_map bare_ty ty) None tt))
field-Named called ty (Some inner) is =
    subst FitField (sym (bare_pat_field-Named called ty (Some inner)))
    (good-field called (named_pat called (option_map bare_ty ty) (Some (bare_pat inner)))
    (good-named called (option_map bare_ty ty) (Some (bare_pat inner)) is))
