-- The heights of what types and patterns become.
use Rattle.std.specs.Prelude.{ℕ, suc, max, Bool, true, false, List, [], Option, Some, None}
use Rattle.std.specs.Option.{option_map}
use Rattle.sml_trees.specs.declared.full_ty.FullTy.{FullTy}
use Rattle.sml_trees.specs.declared.full_ty.FullTyField.{FullTyField}
use Rattle.sml_trees.specs.declared.full_ty.FullTypBind.{FullTypBind}
use Rattle.sml_trees.specs.declared.full_ty.FullConBind.{FullConBind}
use Rattle.sml_trees.specs.declared.full_ty.FullDatBind.{FullDatBind}
use Rattle.sml_trees.specs.declared.full_ty.FullExBody.{FullExBody}
use Rattle.sml_trees.specs.declared.full_ty.FullExBind.{FullExBind}
use Rattle.sml_trees.specs.declared.full_ty.FullValDesc.{FullValDesc}
use Rattle.sml_trees.specs.declared.full_pat.FullPat.{FullPat}
use Rattle.sml_trees.specs.declared.full_pat.FullPatField.{FullPatField}
use Rattle.sml_trees.specs.declared.full_pat.FullPatItem.{FullPatItem}
use Rattle.sml_trees.specs.declared.pat.Pat.{Pat, out-Pat}
use Rattle.sml_trees.specs.declared.pat.Pat.TheOpen.{Pat-F}
use Rattle.sml_trees.specs.declared.pat.PatField.{PatField}
use Rattle.bare_forms.specs.declared.placed.PlacedPat.{PlacedPat}
use Rattle.bare_forms.specs.Runs.{Part}
use Rattle.bare_forms.specs.RunValues.{part_value}
use Rattle.bare_forms.specs.Types.{bare_ty, bare_ty_field, bare_typ_bind, bare_con_bind, bare_dat_bind, bare_ex_body, bare_ex_bind, bare_val_desc}
use Rattle.bare_forms.specs.Patterns.{bare_pat, bare_pat_field, bare_pat_item}
use Rattle.tree_heights.specs.declared.height_pat.PatHeight.{PatHeight}
use Rattle.tree_heights.specs.Heights.{ty_height, ty_field_height, optional_height, typ_bind_height, con_height, dat_height, ex_body_height, ex_height, val_desc_height, pat_height, pat_field_height}

-- ---- types

unfoldable pub full_ty : FullTy → ℕ
full_ty t = ty_height (bare_ty t)

unfoldable pub full_ty_field : FullTyField → ℕ
full_ty_field f = ty_field_height (bare_ty_field f)

unfoldable pub full_optional_ty : Option FullTy → ℕ
full_optional_ty t = optional_height (option_map bare_ty t)

unfoldable pub full_typ_bind : FullTypBind → ℕ
full_typ_bind bind = typ_bind_height (bare_typ_bind bind)

unfoldable pub full_con : FullConBind → ℕ
full_con con = con_height (bare_con_bind con)

unfoldable pub full_dat : FullDatBind → ℕ
full_dat bind = dat_height (bare_dat_bind bind)

unfoldable pub full_ex_body : FullExBody → ℕ
full_ex_body body = ex_body_height (bare_ex_body body)

unfoldable pub full_ex : FullExBind → ℕ
full_ex bind = ex_height (bare_ex_bind bind)

unfoldable pub full_val_desc : FullValDesc → ℕ
full_val_desc desc = val_desc_height (bare_val_desc desc)

-- ---- patterns

-- whether a pattern is a long identifier
abbrev pub is_long_pat : Pat-F Pat PatField → Bool
is_long_pat (Pat-F.Long long at) = true
is_long_pat _ = false

abbrev pub pat_value : PlacedPat → PatHeight
pat_value p = record { height = pat_height p.pat; is_long = is_long_pat (out-Pat p.pat) }

abbrev pub placed_height : PlacedPat → ℕ
placed_height p = pat_height p.pat

unfoldable pub full_pat : FullPat → PatHeight
full_pat p = pat_value (bare_pat p)

abbrev pub height_of_pat : FullPat → ℕ
height_of_pat p = (full_pat p).height

unfoldable pub full_pat_field : FullPatField → ℕ
full_pat_field f = pat_field_height (bare_pat_field f)

unfoldable pub full_pat_item : FullPatItem → Part PatHeight
full_pat_item item = part_value pat_value (bare_pat_item item)

-- `name`, or `name : ty`
abbrev pub named_height : Option FullTy → ℕ
named_height None = 1
named_height (Some ty) = suc (max 1 (full_ty ty))

-- .. `name as pat`, or `name : ty as pat`
abbrev pub named_pat_height : Option FullTy → Option FullPat → ℕ
named_pat_height ty None = named_height ty
named_pat_height ty (Some p) = suc (max (full_optional_ty ty) (full_pat p).height)
