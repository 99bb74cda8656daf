-- Units without derived forms.
use Rattle.std.specs.Prelude.{ℕ, List, [], ◌∷◌, map, codes}
use Rattle.std.specs.List.{flat_map}
use Rattle.sml_trees.specs.declared.name.At.{At}
use Rattle.sml_trees.specs.declared.name.Name.{Name}
use Rattle.sml_trees.specs.declared.full_sig.FullSpec.{FullSpec}
use Rattle.sml_trees.specs.declared.sig_exp.SigExp.{SigExp}
use Rattle.sml_trees.specs.declared.sig_exp.SigExp.TheVariants as sig
use Rattle.sml_trees.specs.declared.sig_exp.Spec.TheVariants as spec
use Rattle.sml_trees.specs.declared.full_unit.FullUnit.{FullUnit}
use Rattle.sml_trees.specs.declared.full_unit.FullTopDec.{FullTopDec}
use Rattle.sml_trees.specs.declared.full_unit.FullTopDec.TheVariants as full
use Rattle.sml_trees.specs.declared.full_unit.FullParam.{FullParam}
use Rattle.sml_trees.specs.declared.full_unit.FullParam.TheVariants as param
use Rattle.sml_trees.specs.declared.full_unit.FullFunctorBind.{FullFunctorBind}
use Rattle.sml_trees.specs.declared.full_unit.FullFunsigBind.{FullFunsigBind}
use Rattle.sml_trees.specs.declared.exp.Dec.TheVariants as dec
use Rattle.sml_trees.specs.declared.exp.StrExp.{StrExp}
use Rattle.sml_trees.specs.declared.exp.StrExp.TheVariants as str
use Rattle.sml_trees.specs.declared.unit.BareUnit.{BareUnit}
use Rattle.sml_trees.specs.declared.unit.TopDec.{TopDec}
use Rattle.sml_trees.specs.declared.unit.TopDec.TheVariants as top
use Rattle.sml_trees.specs.declared.unit.FunBind.{FunBind}
use Rattle.sml_trees.specs.declared.unit.FunsigBind.{FunsigBind}
use Rattle.bare_forms.specs.Patterns.{long_at}
use Rattle.bare_forms.specs.Signatures.{bare_sig, bare_spec, bare_sig_bind}
use Rattle.bare_forms.specs.Structures.{sealed, bare_str, bare_str_bind}

-- the parameter of a functor that takes a specification, which no source has
abbrev pub param_text : List ℕ
param_text = codes "%S"

-- `sig specs end`, which begins where the first of them begins
abbrev pub spec_sig : At → List FullSpec → SigExp
spec_sig at specs = sig.Sig (spec.Sequence (flat_map bare_spec specs) at) at

-- `let open %S in body end`, which begins where the body begins
abbrev pub opening : At → StrExp → StrExp
opening at body = str.Within (dec.Sequence (dec.Open (long_at at param_text ∷ []) at ∷ []) at) body at

-- The Definition, Appendix A, functor bindings: `funid (spec) <: sigexp> = strexp` is
-- `funid (strid : sig spec end) = let open strid in strexp <: sigexp> end`, and
-- `funid (strid : sigexp) : sigexp' = strexp` is `funid (strid : sigexp) = strexp : sigexp'`
abbrev pub functor_of : FullFunctorBind → FullParam → FunBind
functor_of bind (param.Named name sig) = record {
  name = bind.name;
  param = name;
  param_sig = bare_sig sig;
  body = sealed bind.seal (bare_str bind.body);
}
functor_of bind (param.Spec specs at) = record {
  name = bind.name;
  param = record { text = param_text; line = at.line; col = at.col };
  param_sig = spec_sig at specs;
  body = opening (bare_str bind.body).at (sealed bind.seal (bare_str bind.body));
}

abbrev pub bare_functor : FullFunctorBind → FunBind
bare_functor bind = functor_of bind bind.param

abbrev pub bare_funsig : FullFunsigBind → FunsigBind
bare_funsig bind = record {
  name = bind.name;
  param = bind.param;
  param_sig = bare_sig bind.param_sig;
  result_sig = bare_sig bind.result_sig;
}

abbrev pub bare_topdec : FullTopDec → TopDec
bare_topdec (full.Structures binds at) = top.Structures (map bare_str_bind binds) at
bare_topdec (full.Signatures binds at) = top.Signatures (map bare_sig_bind binds) at
bare_topdec (full.Functors binds at) = top.Functors (map bare_functor binds) at
bare_topdec (full.Funsigs binds at) = top.Funsigs (map bare_funsig binds) at

-- the bare unit of a unit as it is written
abbrev pub bare_of : FullUnit → BareUnit
bare_of unit = record { file = unit.file; topdecs = map bare_topdec unit.topdecs }
