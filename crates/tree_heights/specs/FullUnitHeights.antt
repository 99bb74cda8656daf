-- The heights of what structures, functors, signatures of functors and declarations of the top level become.
use Rattle.std.specs.Prelude.{ℕ, suc, max, List, map, Option, Some, None}
use Rattle.sml_trees.specs.declared.full_sig.FullSeal.{FullSeal}
use Rattle.sml_trees.specs.declared.full_str.FullStrDec.{FullStrDec}
use Rattle.sml_trees.specs.declared.full_str.FullStrExp.{FullStrExp}
use Rattle.sml_trees.specs.declared.full_str.FullStrBind.{FullStrBind}
use Rattle.sml_trees.specs.declared.full_unit.FullTopDec.{FullTopDec}
use Rattle.sml_trees.specs.declared.full_unit.FullParam.{FullParam}
use Rattle.sml_trees.specs.declared.full_unit.FullParam.TheVariants as param
use Rattle.sml_trees.specs.declared.full_unit.FullFunctorBind.{FullFunctorBind}
use Rattle.sml_trees.specs.declared.full_unit.FullFunsigBind.{FullFunsigBind}
use Rattle.bare_forms.specs.Structures.{bare_str_dec, bare_str, bare_str_bind}
use Rattle.bare_forms.specs.Units.{bare_functor, bare_funsig, bare_topdec}
use Rattle.tree_heights.specs.Heights.{highest, dec_height, str_height, str_bind_height, functor_height, funsig_height, topdec_height}
use Rattle.tree_heights.specs.FullSigHeights.{full_sig, full_spec}

-- ---- structures

unfoldable pub full_str_dec : FullStrDec → ℕ
full_str_dec dec = highest (map dec_height (bare_str_dec dec).decs)

-- declarations one after another, as one node
abbrev pub str_decs_height : List FullStrDec → ℕ
str_decs_height decs = suc (highest (map full_str_dec decs))

unfoldable pub full_str : FullStrExp → ℕ
full_str s = str_height (bare_str s).str

-- a structure with the signature that it is given
abbrev pub seal_height : Option FullSeal → ℕ → ℕ
seal_height None body = body
seal_height (Some seal) body = suc (max body (full_sig seal.sig))

unfoldable pub full_str_bind : FullStrBind → ℕ
full_str_bind bind = str_bind_height (bare_str_bind bind)

-- ---- units

-- a functor with this parameter: `let open %S in body end` is its body where the parameter is a specification
abbrev pub with_param : FullParam → ℕ → ℕ
with_param (param.Named name sig) body = max (full_sig sig) body
with_param (param.Spec specs at) body =
    max (suc (suc (highest (map full_spec specs)))) (suc (max 2 body))

unfoldable pub full_functor : FullFunctorBind → ℕ
full_functor bind = functor_height (bare_functor bind)

unfoldable pub full_funsig : FullFunsigBind → ℕ
full_funsig bind = funsig_height (bare_funsig bind)

unfoldable pub full_topdec : FullTopDec → ℕ
full_topdec topdec = topdec_height (bare_topdec topdec)
