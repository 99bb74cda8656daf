-- The heights of what signatures and specifications become.
use Rattle.std.specs.Prelude.{ℕ, suc, max, List, [], ◌∷◌, map, Option, Some, None, if◌then◌else◌}
use Rattle.sml_trees.specs.declared.name.Name.{Name}
use Rattle.sml_trees.specs.declared.full_ty.FullTy.{FullTy}
use Rattle.sml_trees.specs.declared.full_ty.FullTypDesc.{FullTypDesc}
use Rattle.sml_trees.specs.declared.full_sig.FullSigExp.{FullSigExp}
use Rattle.sml_trees.specs.declared.full_sig.FullSpec.{FullSpec}
use Rattle.sml_trees.specs.declared.full_sig.FullSigBind.{FullSigBind}
use Rattle.sml_trees.specs.declared.full_sig.FullWhere.{FullWhere}
use Rattle.bare_forms.specs.Signatures.{has_type, bare_sig, bare_spec, bare_sig_bind}
use Rattle.tree_heights.specs.Heights.{highest, sig_height, spec_height, sig_bind_height}
use Rattle.tree_heights.specs.FullHeights.{full_ty}

abbrev pub where_height : ℕ → List FullWhere → ℕ
where_height inner [] = inner
where_height inner (each ∷ others) = where_height (suc (max inner (full_ty each.ty))) others

-- the specification of one type, which may stand for another
abbrev pub single_height : Option FullTy → ℕ
single_height None = 1
single_height (Some ty) = suc (suc (max 3 (full_ty ty)))

abbrev pub desc_height : FullTypDesc → ℕ
desc_height desc = single_height desc.ty

abbrev pub types_height : List FullTypDesc → ℕ
types_height descs = if has_type descs then highest (map desc_height descs) else 1

-- `include` with each of these names by itself
abbrev pub includes_height : List Name → ℕ
includes_height [] = 0
includes_height (name ∷ names) = 2

unfoldable pub full_sig : FullSigExp → ℕ
full_sig sig = sig_height (bare_sig sig)

unfoldable pub full_spec : FullSpec → ℕ
full_spec spec = highest (map spec_height (bare_spec spec))

unfoldable pub full_sig_bind : FullSigBind → ℕ
full_sig_bind bind = sig_bind_height (bare_sig_bind bind)
