-- What a pattern becomes has names that fit, if its names and what its parts become have.
use Rattle.std.proofs.Common.{◌≡◌, ℕ, suc, ◌+◌, ◌≤◌, ◌^◌, true, List, [], ◌∷◌, Option, Some, None, length, refl, sym, ap, ◌∙◌, subst, map, arith}
use Rattle.std.proofs.lemmas.List.{length-map}
use Rattle.std.specs.Prelude.{codes}
use Rattle.std.specs.Option.{option_map}
use Rattle.sml_trees.specs.declared.name.At.{At}
use Rattle.sml_trees.specs.declared.name.Name.{Name}
use Rattle.sml_trees.specs.declared.full_ty.FullTy.{FullTy}
use Rattle.sml_trees.specs.declared.full_ty.OpLong.{OpLong}
use Rattle.sml_trees.specs.declared.full_ty.OpName.{OpName}
use Rattle.sml_trees.specs.declared.full_pat.Constant.{Constant}
use Rattle.sml_trees.specs.declared.full_pat.Constant.TheVariants as constant
use Rattle.sml_trees.specs.declared.full_pat.Fixity.{Fixity}
use Rattle.sml_trees.specs.declared.full_pat.FullPat.{FullPat}
use Rattle.sml_trees.specs.declared.full_pat.FullPat.TheOpen.{FullPat-F, FullPatField-F}
use Rattle.sml_trees.specs.declared.full_pat.FullPat.TheFolds.{fold-roll-FullPat, fold-roll-FullPatField}
use Rattle.sml_trees.specs.declared.full_pat.FullPat.TheVariants as written
use Rattle.sml_trees.specs.declared.full_pat.FullPatItem.{FullPatItem}
use Rattle.sml_trees.specs.declared.full_pat.FullPatItem.TheVariants as piece
use Rattle.sml_trees.specs.declared.full_pat.FullPatField.{FullPatField}
use Rattle.sml_trees.specs.declared.full_pat.FullPatField.TheVariants as row
use Rattle.sml_trees.specs.declared.pat.Pat.{Pat, out-Pat, roll-out-Pat}
use Rattle.sml_trees.specs.declared.pat.Pat.TheOpen.{Pat-F}
use Rattle.sml_trees.specs.declared.pat.Pat.TheFolds.{map-Pat, fold-roll-Pat}
use Rattle.sml_trees.specs.declared.pat.Pat.TheVariants as pat
use Rattle.sml_trees.specs.declared.pat.PatField.{PatField, roll-PatField}
use Rattle.sml_trees.specs.declared.ty.Ty.{Ty}
use Rattle.bare_forms.specs.declared.placed.PlacedPat.{PlacedPat}
use Rattle.bare_forms.specs.Runs.{Part, run_of}
use Rattle.bare_forms.specs.Types.{label_of, bare_ty}
use Rattle.bare_forms.specs.Patterns.{at_name, long_name, long_at, constant_pat, pat_fields_from, pair_pat, cons_pat, rest_pat, list_pat, joined_pat, con_pat, applied_pat, missing_pat, named_pat, pat_level, pat_field_level, pat_item_level, bare_pat, bare_pat_field, bare_pat_item}
use Rattle.bare_forms.proofs.PatLevels.{bare_pat-Record, bare_pat-Tuple, bare_pat-List, bare_pat-Run, bare_pat_field-Named, bare_pat_item-Atom, bare_pat_item-Operator}
use Rattle.body_laws.proofs.Signatures.{Each, each-map, both-true}
use Rattle.fitting_names.specs.Names.{text_fits, pat_names, pat_field_names, names_pat, names_pat_field, names_if_ty}
use Rattle.fitting_names.proofs.Texts.{FitText, IsFew}
use Rattle.fitting_names.proofs.Nodes.{FitName, FitLong, pat-Wild, pat-Int, pat-Str, pat-Char, pat-Long, pat-Record, pat-Con, pat-Typed, pat-As, good-pat_field}
use Rattle.fitting_names.proofs.Runs.{GoodPart, run_good}
use Rattle.fitting_names.proofs.TyForms.{TyIs, IfTy, if-is, label_fits}

-- ---- names of one part

pub alone_fits : (text : List ℕ) → FitText text → (line col : ℕ)
    → FitLong (record { parts = text ∷ []; line = line; col = col })
alone_fits text is line col = both-true (text_fits text) true is refl

pub long_name_fits : (name : Name) → FitName name → FitLong (long_name name)
long_name_fits name is = alone_fits name.text is name.line name.col

-- ---- nodes

abbrev pub FitPat : Pat → Type 0
FitPat p = names_pat p ≡ true

abbrev pub FitPlaced : PlacedPat → Type 0
FitPlaced p = FitPat p.pat

abbrev pub FitField : PatField → Type 0
FitField field = names_pat_field field ≡ true

pub fields_fit : (at : At) (n : ℕ) (parts : List PlacedPat) → n + length parts ≤ 2 ^ 64 → Each FitPlaced parts
    → Each FitField (pat_fields_from at n parts)
fields_fit at n [] low all = tt
fields_fit at n (part ∷ parts) low all = (
  good-pat_field (label_of at n) part.pat (label_fits at n (omega (arith, low))) all.0,
  fields_fit at (suc n) parts (omega (arith, low)) all.1,
)

pub pair_fits : (at : At) (a b : Pat) → FitPat a → FitPat b → FitPat (pair_pat at a b)
pair_fits at a b first second =
    pat-Record
    (roll-PatField (record { label = label_of at 1; pat = a })
    ∷ roll-PatField (record { label = label_of at 2; pat = b }) ∷ []) at (
      good-pat_field (label_of at 1) a (label_fits at 1 (omega arith)) first,
      (good-pat_field (label_of at 2) b (label_fits at 2 (omega arith)) second, tt),
    )

cons_fits : (at : At) (a b : Pat) → FitPat a → FitPat b → FitPat (cons_pat at a b)
cons_fits at a b first second =
    pat-Con (long_at at (codes "::")) (pair_pat at a b) at refl (pair_fits at a b first second)

rest_fits : (ps : List PlacedPat) (rest : Pat) → Each FitPlaced ps → FitPat rest → FitPat (rest_pat ps rest)
rest_fits [] rest all is = is
rest_fits (p ∷ ps) rest all is = cons_fits p.at p.pat (rest_pat ps rest) all.0 (rest_fits ps rest all.1 is)

list_fits : (at : At) (ps : List PlacedPat) → Each FitPlaced ps → FitPat (list_pat at ps)
list_fits at [] all = pat-Long (long_at at (codes "nil")) at refl
list_fits at (p ∷ ps) all =
    let nil = pat.Long (long_at at (codes "nil")) at in
    cons_fits at p.pat (rest_pat ps nil) all.0 (rest_fits ps nil all.1 (pat-Long (long_at at (codes "nil")) at refl))

abbrev IfPat : Option PlacedPat → Type 0
IfPat None = Unit {0}
IfPat (Some p) = FitPlaced p

named_fits : (name : Name) (given : Option Ty) (inner : Option PlacedPat) → FitName name → names_if_ty given ≡ true
    → IfPat inner → FitPat (named_pat name given inner)
named_fits name given (Some inner) called is so = pat-As name given inner.pat (at_name name) called is so
named_fits name None None called is so = pat-Long (long_name name) (at_name name) (long_name_fits name called)
named_fits name (Some t) None called is so =
    pat-Typed (pat.Long (long_name name) (at_name name)) t (at_name name)
    (pat-Long (long_name name) (at_name name) (long_name_fits name called)) is

-- ---- runs

applied_node : (node : Pat-F Pat PatField) (con arg : PlacedPat)
    → pat_names (map-Pat _ _ _ _ names_pat names_pat_field node) ≡ true → FitPlaced con → FitPlaced arg
    → FitPat (con_pat node con arg)
applied_node (Pat-F.Long long at) con arg is first second = pat-Con long arg.pat con.at is second
applied_node (Pat-F.Wild at) con arg is first second = first
applied_node (Pat-F.Int n at) con arg is first second = first
applied_node (Pat-F.Str text at) con arg is first second = first
applied_node (Pat-F.Char byte at) con arg is first second = first
applied_node (Pat-F.Record fields at) con arg is first second = first
applied_node (Pat-F.Con long inner at) con arg is first second = first
applied_node (Pat-F.Typed inner t at) con arg is first second = first
applied_node (Pat-F.As name t inner at) con arg is first second = first

applied_fits : (con arg : PlacedPat) → FitPlaced con → FitPlaced arg → FitPlaced (applied_pat con arg)
applied_fits con arg first second =
    let same = ap names_pat (sym (roll-out-Pat con.pat))
    ∙ fold-roll-Pat _ _ pat_names pat_field_names (out-Pat con.pat) in
    applied_node (out-Pat con.pat) con arg (sym same ∙ first) first second

joined_fits : (op : Name) (a b : PlacedPat) → FitName op → FitPlaced a → FitPlaced b → FitPlaced (joined_pat op a b)
joined_fits op a b called first second =
    pat-Con (long_name op) (pair_pat a.at a.pat b.pat) a.at (long_name_fits op called)
    (pair_fits a.at a.pat b.pat first second)

abbrev pub FitPart : Part PlacedPat → Type 0
FitPart (Part.Atom p) = FitPlaced p
FitPart (Part.Operator op) = FitName op.name

run_part : (part : Part PlacedPat) → FitPart part → GoodPart FitPlaced FitName joined_pat joined_fits part
run_part (Part.Atom p) is = is
run_part (Part.Operator op) is = is

run_parts : (parts : List (Part PlacedPat)) → Each FitPart parts
    → Each (GoodPart FitPlaced FitName joined_pat joined_fits) parts
run_parts [] all = tt
run_parts (part ∷ parts) all = (run_part part all.0, run_parts parts all.1)

run_fits : (at : At) (parts : List (Part PlacedPat)) → Each FitPart parts
    → FitPlaced (run_of joined_pat applied_pat (missing_pat at) parts)
run_fits at parts all =
    run_good FitPlaced FitName joined_pat joined_fits applied_pat applied_fits (missing_pat at) (pat-Wild at) parts
    (run_parts parts all)

-- ---- each form

abbrev pub PatIs : FullPat → Type 0
PatIs full = FitPlaced (bare_pat full)

abbrev pub FieldIs : FullPatField → Type 0
FieldIs full = FitField (bare_pat_field full)

abbrev pub ItemIs : FullPatItem → Type 0
ItemIs full = FitPart (bare_pat_item full)

abbrev pub IfPatIs : Option FullPat → Type 0
IfPatIs None = Unit {0}
IfPatIs (Some p) = PatIs p

pat_by : {one made : PlacedPat} → one ≡ made → FitPlaced made → FitPlaced one
pat_by same is = subst FitPlaced (sym same) is

pub full-Wild : (at : At) → PatIs (written.Wild at)
full-Wild at =
    pat_by (ap bare_pat (sym (written.rolls-Wild at))
    ∙ fold-roll-FullPat _ _ _ pat_level pat_field_level pat_item_level (FullPat-F.Wild at)) (pat-Wild at)

constant_fits : (value : Constant) (at : At) → FitPat (constant_pat value at)
constant_fits (constant.Int n) at = pat-Int n at
constant_fits (constant.Str text) at = pat-Str text at
constant_fits (constant.Char byte) at = pat-Char byte at

pub full-Constant : (value : Constant) (at : At) → PatIs (written.Constant value at)
full-Constant value at =
    pat_by (ap bare_pat (sym (written.rolls-Constant value at))
    ∙ fold-roll-FullPat _ _ _ pat_level pat_field_level pat_item_level (FullPat-F.Constant value at))
    (constant_fits value at)

pub full-Long : (id : OpLong) (at : At) → FitLong id.long → PatIs (written.Long id at)
full-Long id at is =
    pat_by (ap bare_pat (sym (written.rolls-Long id at))
    ∙ fold-roll-FullPat _ _ _ pat_level pat_field_level pat_item_level (FullPat-F.Long id at)) (pat-Long id.long at is)

pub full-Record : (fields : List FullPatField) (at : At) → Each FieldIs fields → PatIs (written.Record fields at)
full-Record fields at all =
    pat_by (bare_pat-Record fields at)
    (pat-Record (map bare_pat_field fields) at (each-map FitField bare_pat_field fields all))

pub full-Unit : (at : At) → PatIs (written.Unit at)
full-Unit at =
    pat_by (ap bare_pat (sym (written.rolls-Unit at))
    ∙ fold-roll-FullPat _ _ _ pat_level pat_field_level pat_item_level (FullPat-F.Unit at)) (pat-Record [] at tt)

pub full-Tuple : (parts : List FullPat) (at : At) → IsFew parts → Each PatIs parts → PatIs (written.Tuple parts at)
full-Tuple parts at few all =
    let same : length (map bare_pat parts) ≡ length parts = length-map parts bare_pat in
    pat_by (bare_pat-Tuple parts at)
    (pat-Record (pat_fields_from at 1 (map bare_pat parts)) at
    (fields_fit at 1 (map bare_pat parts) (omega (arith, same, few)) (each-map FitPlaced bare_pat parts all)))

pub full-List : (items : List FullPat) (at : At) → Each PatIs items → PatIs (written.List items at)
full-List items at all =
    pat_by (bare_pat-List items at) (list_fits at (map bare_pat items) (each-map FitPlaced bare_pat items all))

pub full-Paren : (inner : FullPat) (at : At) → PatIs inner → PatIs (written.Paren inner at)
full-Paren inner at is =
    pat_by (ap bare_pat (sym (written.rolls-Paren inner at))
    ∙ fold-roll-FullPat _ _ _ pat_level pat_field_level pat_item_level (FullPat-F.Paren inner at)) is

pub full-Run : (items : List FullPatItem) (at : At) → Each ItemIs items → PatIs (written.Run items at)
full-Run items at all =
    pat_by (bare_pat-Run items at) (run_fits at (map bare_pat_item items) (each-map FitPart bare_pat_item items all))

pub full-Typed : (inner : FullPat) (ty : FullTy) (at : At) → PatIs inner → TyIs ty → PatIs (written.Typed inner ty at)
full-Typed inner ty at first second =
    pat_by (ap bare_pat (sym (written.rolls-Typed inner ty at))
    ∙ fold-roll-FullPat _ _ _ pat_level pat_field_level pat_item_level (FullPat-F.Typed inner ty at))
    (pat-Typed (bare_pat inner).pat (bare_ty ty) at first second)

pub full-As : (called : OpName) (ty : Option FullTy) (inner : FullPat) (at : At) → FitName called.name → IfTy ty
    → PatIs inner → PatIs (written.As called ty inner at)
full-As called ty inner at first second third =
    pat_by (ap bare_pat (sym (written.rolls-As called ty inner at))
    ∙ fold-roll-FullPat _ _ _ pat_level pat_field_level pat_item_level (FullPat-F.As called ty inner at))
    (pat-As called.name (option_map bare_ty ty) (bare_pat inner).pat at first (if-is ty second) third)

pub item-Atom : (inner : FullPat) → PatIs inner → ItemIs (piece.Atom inner)
item-Atom inner is = subst FitPart (sym (bare_pat_item-Atom inner)) is

pub item-Operator : (called : Name) (fixity : Fixity) → FitName called → ItemIs (piece.Operator called fixity)
item-Operator called fixity is = subst FitPart (sym (bare_pat_item-Operator called fixity)) is

pub field-Labelled : (label : Name) (inner : FullPat) → FitName label → PatIs inner → FieldIs (row.Labelled label inner)
field-Labelled label inner called is =
    subst FitField (sym (ap bare_pat_field (sym (row.rolls-Labelled label inner))
    ∙ fold-roll-FullPatField _ _ _ pat_level pat_field_level pat_item_level (FullPatField-F.Labelled label inner)))
    (good-pat_field label (bare_pat inner).pat called is)

pub field-Named : (called : Name) (ty : Option FullTy) (inner : Option FullPat) → FitName called → IfTy ty
    → IfPatIs inner → FieldIs (row.Named called ty inner)
field-Named called ty None first second third =
    subst FitField (sym (bare_pat_field-Named called ty None))
    (good-pat_field called (named_pat called (option_map bare_ty ty) None) first
    (named_fits called (option_map bare_ty ty) None first (if-is ty second) tt))
field-Named called ty (Some inner) first second third =
    subst FitField (sym (bare_pat_field-Named called ty (Some inner)))
    (good-pat_field called (named_pat called (option_map bare_ty ty) (Some (bare_pat inner))) first
    (named_fits called (option_map bare_ty ty) (Some (bare_pat inner)) first (if-is ty second) third))
