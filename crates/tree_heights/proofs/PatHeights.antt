-- The height of one form of a pattern as it is written, by those of its parts.
use Rattle.std.proofs.Common.{◌≡◌, ℕ, ℤ, suc, max, Bool, true, false, List, [], ◌∷◌, Option, Some, None, refl, sym, ap, ap₂, ◌∙◌, map}
use Rattle.std.specs.Prelude.{codes}
use Rattle.std.specs.Option.{option_map}
use Rattle.sml_trees.specs.declared.name.At.{At}
use Rattle.sml_trees.specs.declared.name.Name.{Name}
use Rattle.sml_trees.specs.declared.name.LongName.{LongName}
use Rattle.sml_trees.specs.declared.full_ty.FullTy.{FullTy}
use Rattle.sml_trees.specs.declared.full_ty.OpLong.{OpLong}
use Rattle.sml_trees.specs.declared.full_ty.OpName.{OpName}
use Rattle.sml_trees.specs.declared.full_pat.Constant.{Constant}
use Rattle.sml_trees.specs.declared.full_pat.Constant.TheVariants as constant
use Rattle.sml_trees.specs.declared.full_pat.Fixity.{Fixity}
use Rattle.sml_trees.specs.declared.full_pat.FullPat.{FullPat}
use Rattle.sml_trees.specs.declared.full_pat.FullPat.TheOpen.{FullPat-F, FullPatField-F}
use Rattle.sml_trees.specs.declared.full_pat.FullPat.TheFolds.{fold-roll-FullPat, fold-roll-FullPatField}
use Rattle.sml_trees.specs.declared.full_pat.FullPat.TheVariants as full
use Rattle.sml_trees.specs.declared.full_pat.FullPatField.{FullPatField}
use Rattle.sml_trees.specs.declared.full_pat.FullPatField.TheVariants as field
use Rattle.sml_trees.specs.declared.full_pat.FullPatItem.{FullPatItem}
use Rattle.sml_trees.specs.declared.full_pat.FullPatItem.TheVariants as item
use Rattle.sml_trees.specs.declared.ty.Ty.{Ty}
use Rattle.sml_trees.specs.declared.pat.Pat.{Pat, out-Pat}
use Rattle.sml_trees.specs.declared.pat.Pat.TheOpen.{Pat-F, PatField-F}
use Rattle.sml_trees.specs.declared.pat.Pat.TheFolds.{fold-roll-Pat, fold-roll-PatField}
use Rattle.sml_trees.specs.declared.pat.Pat.TheVariants as pat
use Rattle.sml_trees.specs.declared.pat.PatField.{PatField, roll-PatField}
use Rattle.bare_forms.specs.declared.placed.PlacedPat.{PlacedPat}
use Rattle.tree_heights.specs.declared.height_pat.PatHeight.{PatHeight}
use Rattle.bare_forms.specs.Types.{bare_ty, label_of}
use Rattle.bare_forms.specs.Runs.{Part, run_of}
use Rattle.bare_forms.specs.RunValues.{part_value}
use Rattle.bare_forms.specs.Patterns.{placed, constant_pat, at_name, long_name, long_at, pat_fields_from, tuple_pat, pair_pat, cons_pat, rest_pat, items_pat, list_pat, joined_pat, con_pat, applied_pat, missing_pat, named_pat, bare_pat, bare_pat_field, bare_pat_item, pat_level, pat_field_level, pat_item_level}
use Rattle.tree_heights.specs.Heights.{highest, pat_step, pat_field_step, pat_height, pat_field_height, optional_height, ty_height}
use Rattle.tree_heights.specs.NodeHeights.{is_none, cons_height, in_turn, pats_height, joined_pat_height, con_height_of, applied_pat_height, missing_pat_height, pat_of}
use Rattle.tree_heights.specs.FullHeights.{full_ty, full_optional_ty, is_long_pat, pat_value, placed_height, full_pat, height_of_pat, full_pat_field, full_pat_item, named_height, named_pat_height}
use Rattle.bare_forms.proofs.PatLevels.{bare_pat-Record, bare_pat-Tuple, bare_pat-List, bare_pat-Run, bare_pat_field-Named, bare_pat_item-Atom, bare_pat_item-Operator}
use Rattle.tree_heights.proofs.Highest.{map-map, two}
use Rattle.bare_forms.proofs.RunFusion.{run-value}
use Rattle.bare_forms.proofs.Bound.{run_from-Atom, run_from-Operator, run_from-end}

-- ---- bare patterns

pub pat_height-Wild : (at : At) → pat_height (pat.Wild at) ≡ 1
pat_height-Wild at =
    ap pat_height (sym (pat.rolls-Wild at)) ∙ fold-roll-Pat _ _ pat_step pat_field_step (Pat-F.Wild at)

pat_height-Int : (n : ℤ) (at : At) → pat_height (pat.Int n at) ≡ 1
pat_height-Int n at =
    ap pat_height (sym (pat.rolls-Int n at)) ∙ fold-roll-Pat _ _ pat_step pat_field_step (Pat-F.Int n at)

pat_height-Str : (text : List ℕ) (at : At) → pat_height (pat.Str text at) ≡ 1
pat_height-Str text at =
    ap pat_height (sym (pat.rolls-Str text at)) ∙ fold-roll-Pat _ _ pat_step pat_field_step (Pat-F.Str text at)

pat_height-Char : (byte : ℕ) (at : At) → pat_height (pat.Char byte at) ≡ 1
pat_height-Char byte at =
    ap pat_height (sym (pat.rolls-Char byte at)) ∙ fold-roll-Pat _ _ pat_step pat_field_step (Pat-F.Char byte at)

pub pat_height-Long : (long : LongName) (at : At) → pat_height (pat.Long long at) ≡ 1
pat_height-Long long at =
    ap pat_height (sym (pat.rolls-Long long at)) ∙ fold-roll-Pat _ _ pat_step pat_field_step (Pat-F.Long long at)

pub pat_height-Record : (fields : List PatField) (at : At) → pat_height (pat.Record fields at) ≡ suc (highest (map pat_field_height fields))
pat_height-Record fields at =
    ap pat_height (sym (pat.rolls-Record fields at)) ∙ fold-roll-Pat _ _ pat_step pat_field_step (Pat-F.Record fields at)

pat_height-Con : (long : LongName) (arg : Pat) (at : At) → pat_height (pat.Con long arg at) ≡ suc (pat_height arg)
pat_height-Con long arg at =
    ap pat_height (sym (pat.rolls-Con long arg at)) ∙ fold-roll-Pat _ _ pat_step pat_field_step (Pat-F.Con long arg at)

pat_height-Typed : (inner : Pat) (ty : Ty) (at : At) → pat_height (pat.Typed inner ty at) ≡ suc (max (pat_height inner) (ty_height ty))
pat_height-Typed inner ty at =
    ap pat_height (sym (pat.rolls-Typed inner ty at)) ∙ fold-roll-Pat _ _ pat_step pat_field_step (Pat-F.Typed inner ty at)

pat_height-As : (name : Name) (ty : Option Ty) (inner : Pat) (at : At) → pat_height (pat.As name ty inner at) ≡ suc (max (optional_height ty) (pat_height inner))
pat_height-As name ty inner at =
    ap pat_height (sym (pat.rolls-As name ty inner at)) ∙ fold-roll-Pat _ _ pat_step pat_field_step (Pat-F.As name ty inner at)

field_height-kept : (label : Name) (part : Pat)
    → pat_field_height (roll-PatField (record { label = label; pat = part })) ≡ pat_height part
field_height-kept label part =
    fold-roll-PatField _ _ pat_step pat_field_step (record { label = label; pat = part })

-- a pattern that is written here, of this height
valued : (begin : At) (p : Pat) (height : ℕ) (b : Bool) → pat_height p ≡ height → is_long_pat (out-Pat p) ≡ b
    → pat_value (placed begin p) ≡ pat_of height b
valued begin p height b deep long = ap₂ (pat_of) deep long

value-Wild : (begin : At) (at : At) → pat_value (placed begin (pat.Wild at)) ≡ pat_of 1 false
value-Wild begin at = valued begin _ _ false (pat_height-Wild at) (ap is_long_pat (pat.outs-Wild at))

value-Int : (begin : At) (n : ℤ) (at : At) → pat_value (placed begin (pat.Int n at)) ≡ pat_of 1 false
value-Int begin n at = valued begin _ _ false (pat_height-Int n at) (ap is_long_pat (pat.outs-Int n at))

value-Str : (begin : At) (text : List ℕ) (at : At) → pat_value (placed begin (pat.Str text at)) ≡ pat_of 1 false
value-Str begin text at = valued begin _ _ false (pat_height-Str text at) (ap is_long_pat (pat.outs-Str text at))

value-Char : (begin : At) (byte : ℕ) (at : At) → pat_value (placed begin (pat.Char byte at)) ≡ pat_of 1 false
value-Char begin byte at = valued begin _ _ false (pat_height-Char byte at) (ap is_long_pat (pat.outs-Char byte at))

value-Long : (begin : At) (long : LongName) (at : At) → pat_value (placed begin (pat.Long long at)) ≡ pat_of 1 true
value-Long begin long at = valued begin _ _ true (pat_height-Long long at) (ap is_long_pat (pat.outs-Long long at))

value-Record : (begin : At) (fields : List PatField) (at : At) → pat_value (placed begin (pat.Record fields at)) ≡ pat_of (suc (highest (map pat_field_height fields))) false
value-Record begin fields at = valued begin _ _ false (pat_height-Record fields at) (ap is_long_pat (pat.outs-Record fields at))

value-Con : (begin : At) (long : LongName) (arg : Pat) (at : At) → pat_value (placed begin (pat.Con long arg at)) ≡ pat_of (suc (pat_height arg)) false
value-Con begin long arg at = valued begin _ _ false (pat_height-Con long arg at) (ap is_long_pat (pat.outs-Con long arg at))

value-Typed : (begin : At) (inner : Pat) (ty : Ty) (at : At) → pat_value (placed begin (pat.Typed inner ty at)) ≡ pat_of (suc (max (pat_height inner) (ty_height ty))) false
value-Typed begin inner ty at = valued begin _ _ false (pat_height-Typed inner ty at) (ap is_long_pat (pat.outs-Typed inner ty at))

value-As : (begin : At) (name : Name) (ty : Option Ty) (inner : Pat) (at : At) → pat_value (placed begin (pat.As name ty inner at)) ≡ pat_of (suc (max (optional_height ty) (pat_height inner))) false
value-As begin name ty inner at = valued begin _ _ false (pat_height-As name ty inner at) (ap is_long_pat (pat.outs-As name ty inner at))

-- ---- tuples and lists

pub fields_height : (at : At) (n : ℕ) (parts : List PlacedPat)
    → map pat_field_height (pat_fields_from at n parts) ≡ map (λ p. pat_height p.pat) parts
fields_height at n [] = refl
fields_height at n (part ∷ parts) =
    ap (λ here. here ∷ map pat_field_height (pat_fields_from at (suc n) parts)) (field_height-kept (label_of at n) part.pat)
    ∙ ap (λ rest. pat_height part.pat ∷ rest) (fields_height at (suc n) parts)

pub pair-height : (at : At) (a b : Pat) → pat_height (pair_pat at a b) ≡ suc (max (pat_height a) (pat_height b))
pair-height at a b =
    pat_height-Record _ at ∙ ap suc (two _ _)
    ∙ ap₂ (λ x y. suc (max x y)) (field_height-kept (label_of at 1) a) (field_height-kept (label_of at 2) b)

cons-height : (at : At) (a b : Pat) → pat_height (cons_pat at a b) ≡ cons_height (pat_height a) (pat_height b)
cons-height at a b = pat_height-Con _ (pair_pat at a b) at ∙ ap suc (pair-height at a b)

rest-height : (ps : List PlacedPat) (rest : Pat)
    → pat_height (rest_pat ps rest) ≡ in_turn cons_height (map placed_height ps) (pat_height rest)
rest-height [] rest = refl
rest-height (p ∷ ps) rest =
    cons-height p.at p.pat (rest_pat ps rest) ∙ ap (cons_height (pat_height p.pat)) (rest-height ps rest)

items-height : (at : At) (ps : List PlacedPat) (rest : Pat)
    → pat_height (items_pat at ps rest) ≡ in_turn cons_height (map placed_height ps) (pat_height rest)
items-height at [] rest = refl
items-height at (p ∷ ps) rest =
    cons-height at p.pat (rest_pat ps rest) ∙ ap (cons_height (pat_height p.pat)) (rest-height ps rest)

list-height : (at : At) (ps : List PlacedPat) → pat_height (list_pat at ps) ≡ pats_height (map placed_height ps)
list-height at ps =
    items-height at ps _ ∙ ap (in_turn cons_height (map placed_height ps)) (pat_height-Long _ at)

-- only the empty list is a long identifier
list-long : (at : At) (ps : List PlacedPat) → is_long_pat (out-Pat (list_pat at ps)) ≡ is_none ps
list-long at [] = ap is_long_pat (pat.outs-Long (long_at at (codes "nil")) at)
list-long at (p ∷ ps) =
    ap is_long_pat (pat.outs-Con (long_at at (codes "::"))
    (pair_pat at p.pat (rest_pat ps (pat.Long (long_at at (codes "nil")) at))) at)

none-map : {A B : Type 0} (f : A → B) (xs : List A) → is_none (map f xs) ≡ is_none xs
none-map f [] = refl
none-map f (x ∷ xs) = refl

-- ---- runs

joined-value : (op : Name) (left right : PlacedPat)
    → pat_value (joined_pat op left right) ≡ joined_pat_height op (pat_value left) (pat_value right)
joined-value op left right =
    value-Con left.at (long_name op) (pair_pat left.at left.pat right.pat) left.at
    ∙ ap (λ h. pat_of (suc h) false) (pair-height left.at left.pat right.pat)

-- a pattern that is no long identifier takes no argument
other-value : (level : Pat-F Pat PatField) (con : PlacedPat) → out-Pat con.pat ≡ level → is_long_pat level ≡ false
    → pat_value (placed con.at con.pat) ≡ pat_of (pat_height con.pat) false
other-value level con is other = ap (pat_of (pat_height con.pat)) (ap is_long_pat is ∙ other)

con-value : (level : Pat-F Pat PatField) (con arg : PlacedPat) → out-Pat con.pat ≡ level
    → pat_value (placed con.at (con_pat level con arg))
    ≡ pat_of (con_height_of (is_long_pat level) (pat_value con) (pat_value arg)) false
con-value (Pat-F.Wild at) con arg is = other-value (Pat-F.Wild at) con is refl
con-value (Pat-F.Int n at) con arg is = other-value (Pat-F.Int n at) con is refl
con-value (Pat-F.Str text at) con arg is = other-value (Pat-F.Str text at) con is refl
con-value (Pat-F.Char byte at) con arg is = other-value (Pat-F.Char byte at) con is refl
con-value (Pat-F.Long long at) con arg is = value-Con con.at long arg.pat con.at
con-value (Pat-F.Record fields at) con arg is = other-value (Pat-F.Record fields at) con is refl
con-value (Pat-F.Con long inner at) con arg is = other-value (Pat-F.Con long inner at) con is refl
con-value (Pat-F.Typed inner ty at) con arg is = other-value (Pat-F.Typed inner ty at) con is refl
con-value (Pat-F.As name ty inner at) con arg is = other-value (Pat-F.As name ty inner at) con is refl

applied-value : (con arg : PlacedPat)
    → pat_value (applied_pat con arg) ≡ applied_pat_height (pat_value con) (pat_value arg)
applied-value con arg = con-value (out-Pat con.pat) con arg refl

run_height : (at : At) (items : List FullPatItem)
    → pat_value (run_of joined_pat applied_pat (missing_pat at) (map bare_pat_item items))
    ≡ run_of joined_pat_height applied_pat_height missing_pat_height (map full_pat_item items)
unfolding full_pat_item
run_height at items =
    run-value pat_value joined_pat joined_pat_height joined-value applied_pat applied_pat_height applied-value
    (missing_pat at) missing_pat_height (value-Wild at at) (map bare_pat_item items)
    ∙ ap (run_of joined_pat_height applied_pat_height missing_pat_height)
    (map-map (part_value pat_value) bare_pat_item items)

-- ---- patterns as they are written

bare-Wild : (at : At) → bare_pat (full.Wild at) ≡ placed at (pat.Wild at)
bare-Wild at =
    ap bare_pat (sym (full.rolls-Wild at))
    ∙ fold-roll-FullPat _ _ _ pat_level pat_field_level pat_item_level (FullPat-F.Wild at)

bare-Long : (long : OpLong) (at : At) → bare_pat (full.Long long at) ≡ placed at (pat.Long long.long at)
bare-Long long at =
    ap bare_pat (sym (full.rolls-Long long at))
    ∙ fold-roll-FullPat _ _ _ pat_level pat_field_level pat_item_level (FullPat-F.Long long at)

bare-Constant : (c : Constant) (at : At) → bare_pat (full.Constant c at) ≡ placed at (constant_pat c at)
bare-Constant c at =
    ap bare_pat (sym (full.rolls-Constant c at))
    ∙ fold-roll-FullPat _ _ _ pat_level pat_field_level pat_item_level (FullPat-F.Constant c at)

bare-Unit : (at : At) → bare_pat (full.Unit at) ≡ placed at (pat.Record [] at)
bare-Unit at =
    ap bare_pat (sym (full.rolls-Unit at))
    ∙ fold-roll-FullPat _ _ _ pat_level pat_field_level pat_item_level (FullPat-F.Unit at)

bare-Typed : (inner : FullPat) (ty : FullTy) (at : At) → bare_pat (full.Typed inner ty at) ≡ placed at (pat.Typed (bare_pat inner).pat (bare_ty ty) at)
bare-Typed inner ty at =
    ap bare_pat (sym (full.rolls-Typed inner ty at))
    ∙ fold-roll-FullPat _ _ _ pat_level pat_field_level pat_item_level (FullPat-F.Typed inner ty at)

bare-As : (name : OpName) (ty : Option FullTy) (inner : FullPat) (at : At) → bare_pat (full.As name ty inner at) ≡ placed at (pat.As name.name (option_map bare_ty ty) (bare_pat inner).pat at)
bare-As name ty inner at =
    ap bare_pat (sym (full.rolls-As name ty inner at))
    ∙ fold-roll-FullPat _ _ _ pat_level pat_field_level pat_item_level (FullPat-F.As name ty inner at)

bare-Paren : (inner : FullPat) (at : At) → bare_pat (full.Paren inner at) ≡ placed at ((bare_pat inner).pat)
bare-Paren inner at =
    ap bare_pat (sym (full.rolls-Paren inner at))
    ∙ fold-roll-FullPat _ _ _ pat_level pat_field_level pat_item_level (FullPat-F.Paren inner at)

pub full_pat-Wild : (at : At) → full_pat (full.Wild at) ≡ pat_of 1 false
unfolding full_pat
full_pat-Wild at = ap pat_value (bare-Wild at) ∙ value-Wild at at

constant-value : (c : Constant) (at : At) → pat_value (placed at (constant_pat c at)) ≡ pat_of 1 false
constant-value (constant.Int n) at = value-Int at n at
constant-value (constant.Str text) at = value-Str at text at
constant-value (constant.Char byte) at = value-Char at byte at

pub full_pat-Constant : (c : Constant) (at : At) → full_pat (full.Constant c at) ≡ pat_of 1 false
unfolding full_pat
full_pat-Constant c at = ap pat_value (bare-Constant c at) ∙ constant-value c at

pub full_pat-Long : (long : OpLong) (at : At) → full_pat (full.Long long at) ≡ pat_of 1 true
unfolding full_pat
full_pat-Long long at = ap pat_value (bare-Long long at) ∙ value-Long at long.long at

pub full_pat-Record : (fields : List FullPatField) (at : At)
    → full_pat (full.Record fields at) ≡ pat_of (suc (highest (map full_pat_field fields))) false
unfolding full_pat full_pat_field
full_pat-Record fields at =
    ap pat_value (bare_pat-Record fields at) ∙ value-Record at (map bare_pat_field fields) at
    ∙ ap (λ hs. pat_of (suc (highest hs)) false) (map-map pat_field_height bare_pat_field fields)

pub full_pat-Unit : (at : At) → full_pat (full.Unit at) ≡ pat_of 1 false
unfolding full_pat
full_pat-Unit at = ap pat_value (bare-Unit at) ∙ value-Record at [] at

pub full_pat-Tuple : (parts : List FullPat) (at : At)
    → full_pat (full.Tuple parts at) ≡ pat_of (suc (highest (map height_of_pat parts))) false
unfolding full_pat
full_pat-Tuple parts at =
    ap pat_value (bare_pat-Tuple parts at) ∙ value-Record at (pat_fields_from at 1 (map bare_pat parts)) at
    ∙ ap (λ hs. pat_of (suc (highest hs)) false)
    (fields_height at 1 (map bare_pat parts) ∙ map-map (λ p. pat_height p.pat) bare_pat parts)

pub full_pat-Paren : (inner : FullPat) (at : At)
    → full_pat (full.Paren inner at) ≡ full_pat inner
unfolding full_pat
full_pat-Paren inner at = ap pat_value (bare-Paren inner at)

pub full_pat-List : (items : List FullPat) (at : At)
    → full_pat (full.List items at) ≡ pat_of (pats_height (map height_of_pat items)) (is_none items)
unfolding full_pat
full_pat-List items at =
    ap pat_value (bare_pat-List items at)
    ∙ valued at (list_pat at (map bare_pat items)) _ _ (list-height at (map bare_pat items))
    (list-long at (map bare_pat items) ∙ none-map bare_pat items)
    ∙ ap (λ ps. pat_of (pats_height ps) (is_none items)) (map-map placed_height bare_pat items)

pub full_pat-Run : (items : List FullPatItem) (at : At)
    → full_pat (full.Run items at)
    ≡ run_of joined_pat_height applied_pat_height missing_pat_height (map full_pat_item items)
unfolding full_pat
full_pat-Run items at =
    ap pat_value (bare_pat-Run items at) ∙ run_height at items

pub full_pat-Typed : (inner : FullPat) (ty : FullTy) (at : At)
    → full_pat (full.Typed inner ty at) ≡ pat_of (suc (max (full_pat inner).height (full_ty ty))) false
unfolding full_pat full_ty
full_pat-Typed inner ty at = ap pat_value (bare-Typed inner ty at) ∙ value-Typed at (bare_pat inner).pat (bare_ty ty) at

pub full_pat-As : (name : OpName) (ty : Option FullTy) (inner : FullPat) (at : At)
    → full_pat (full.As name ty inner at)
    ≡ pat_of (suc (max (full_optional_ty ty) (full_pat inner).height)) false
unfolding full_pat full_optional_ty
full_pat-As name ty inner at =
    ap pat_value (bare-As name ty inner at) ∙ value-As at name.name (option_map bare_ty ty) (bare_pat inner).pat at

pub ruleset pat_forms = (
  full_pat-Wild,
  full_pat-Constant,
  full_pat-Long,
  full_pat-Record,
  full_pat-Unit,
  full_pat-Tuple,
  full_pat-Paren,
  full_pat-List,
  full_pat-Run,
  full_pat-Typed,
  full_pat-As,
)

-- ---- fields and parts of runs

pub full_pat_field-Labelled : (label : Name) (p : FullPat) → full_pat_field (field.Labelled label p) ≡ (full_pat p).height
unfolding full_pat full_pat_field
full_pat_field-Labelled label p =
    ap pat_field_height (ap bare_pat_field (sym (field.rolls-Labelled label p))
    ∙ fold-roll-FullPatField _ _ _ pat_level pat_field_level pat_item_level (FullPatField-F.Labelled label p))
    ∙ field_height-kept label (bare_pat p).pat

full_pat_field-Alone : (name : Name) (ty : Option FullTy)
    → full_pat_field (field.Named name ty None) ≡ named_height ty
unfolding full_pat_field full_ty
full_pat_field-Alone name None =
    ap pat_field_height (bare_pat_field-Named name None None)
    ∙ field_height-kept name _ ∙ pat_height-Long (long_name name) (at_name name)
full_pat_field-Alone name (Some ty) =
    ap pat_field_height (bare_pat_field-Named name (Some ty) None)
    ∙ field_height-kept name _
    ∙ pat_height-Typed (pat.Long (long_name name) (at_name name)) (bare_ty ty) (at_name name)
    ∙ ap (λ h. suc (max h (ty_height (bare_ty ty)))) (pat_height-Long (long_name name) (at_name name))

pub full_pat_field-Named : (name : Name) (ty : Option FullTy) (p : Option FullPat)
    → full_pat_field (field.Named name ty p) ≡ named_pat_height ty p
unfolding full_pat full_pat_field full_optional_ty
full_pat_field-Named name ty None = full_pat_field-Alone name ty
full_pat_field-Named name ty (Some p) =
    ap pat_field_height (bare_pat_field-Named name ty (Some p))
    ∙ field_height-kept name _
    ∙ pat_height-As name (option_map bare_ty ty) (bare_pat p).pat (at_name name)

pub ruleset field_forms = (full_pat_field-Labelled, full_pat_field-Named)

pub full_pat_item-Atom : (p : FullPat) → full_pat_item (item.Atom p) ≡ Part.Atom (full_pat p)
unfolding full_pat full_pat_item
full_pat_item-Atom p = ap (part_value pat_value) (bare_pat_item-Atom p)

pub full_pat_item-Operator : (name : Name) (fixity : Fixity)
    → full_pat_item (item.Operator name fixity) ≡ Part.Operator (record { name = name; fixity = fixity })
unfolding full_pat_item
full_pat_item-Operator name fixity = ap (part_value pat_value) (bare_pat_item-Operator name fixity)

pub ruleset pat_runs = (
  full_pat_item-Atom,
  full_pat_item-Operator,
  run_from-Atom,
  run_from-Operator,
  run_from-end,
)
