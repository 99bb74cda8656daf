-- The lists of structures and units in which no name may stand twice.
use Rattle.std.specs.Prelude.{List, [], ◌++◌, map, Option}
use Rattle.sml_trees.specs.declared.name.At.{At}
use Rattle.sml_trees.specs.declared.full_str.FullStrDec.{FullStrDec}
use Rattle.sml_trees.specs.declared.full_str.FullStrDec.TheOpen.{FullStrDec-F, FullStrExp-F, FullStrBind-F}
use Rattle.sml_trees.specs.declared.full_str.FullStrDec.TheFolds.{fold-FullStrDec, fold-FullStrExp, fold-FullStrBind}
use Rattle.sml_trees.specs.declared.full_str.FullStrExp.{FullStrExp}
use Rattle.sml_trees.specs.declared.full_str.FullStrBind.{FullStrBind}
use Rattle.sml_trees.specs.declared.full_unit.FullUnit.{FullUnit}
use Rattle.sml_trees.specs.declared.full_unit.FullTopDec.{FullTopDec}
use Rattle.sml_trees.specs.declared.full_unit.FullTopDec.TheVariants as full
use Rattle.sml_trees.specs.declared.full_unit.FullParam.{FullParam}
use Rattle.sml_trees.specs.declared.full_unit.FullParam.TheVariants as param
use Rattle.sml_trees.specs.declared.full_unit.FullFunctorBind.{FullFunctorBind}
use Rattle.sml_trees.specs.declared.full_unit.FullFunsigBind.{FullFunsigBind}
use Rattle.repeated_names.specs.Repeats.{Member, member, repeats_in, all_repeats, earliest}
use Rattle.repeated_names.specs.RepeatedTypes.{sig_repeats, spec_repeats, sig_bind_member, seal_repeats}
use Rattle.repeated_names.specs.RepeatedDecs.{dec_repeats}

-- ---- structure expressions, and the declarations in them

abbrev pub str_level : FullStrExp-F (List At) (List At) Member → List At
str_level (FullStrExp-F.Struct decs at) = all_repeats decs
str_level (FullStrExp-F.Named long at) = []
str_level (FullStrExp-F.Transparent inner sig at) = inner ++ sig_repeats sig
str_level (FullStrExp-F.Opaque inner sig at) = inner ++ sig_repeats sig
str_level (FullStrExp-F.Functor name arg at) = arg
str_level (FullStrExp-F.FunctorOfDecs name decs begin at) = all_repeats decs
str_level (FullStrExp-F.Within decs inner at) = all_repeats decs ++ inner

abbrev pub str_dec_level : FullStrDec-F (List At) (List At) Member → List At
str_dec_level (FullStrDec-F.Core each) = dec_repeats each
str_dec_level (FullStrDec-F.Structures binds at) = repeats_in binds
str_dec_level (FullStrDec-F.Local hidden decs at) = all_repeats hidden ++ all_repeats decs

abbrev pub str_bind_level : FullStrBind-F (List At) (List At) Member → Member
str_bind_level bind = member bind.name (seal_repeats bind.seal ++ bind.body)

abbrev pub str_dec_repeats : FullStrDec → List At
str_dec_repeats = fold-FullStrDec (List At) (List At) Member str_dec_level str_level str_bind_level

abbrev pub str_repeats : FullStrExp → List At
str_repeats = fold-FullStrExp (List At) (List At) Member str_dec_level str_level str_bind_level

abbrev pub str_bind_member : FullStrBind → Member
str_bind_member = fold-FullStrBind (List At) (List At) Member str_dec_level str_level str_bind_level

-- ---- units

abbrev pub param_repeats : FullParam → List At
param_repeats (param.Named name sig) = sig_repeats sig
param_repeats (param.Spec specs at) = all_repeats (map spec_repeats specs)

abbrev pub functor_member : FullFunctorBind → Member
functor_member bind = member bind.name (param_repeats bind.param ++ (seal_repeats bind.seal ++ str_repeats bind.body))

abbrev pub funsig_member : FullFunsigBind → Member
funsig_member bind = member bind.name (sig_repeats bind.param_sig ++ sig_repeats bind.result_sig)

abbrev pub topdec_repeats : FullTopDec → List At
topdec_repeats (full.Structures binds at) = repeats_in (map str_bind_member binds)
topdec_repeats (full.Signatures binds at) = repeats_in (map sig_bind_member binds)
topdec_repeats (full.Functors binds at) = repeats_in (map functor_member binds)
topdec_repeats (full.Funsigs binds at) = repeats_in (map funsig_member binds)

-- where a name stands twice in a list of the unit
abbrev pub unit_repeats : FullUnit → List At
unit_repeats unit = all_repeats (map topdec_repeats unit.topdecs)

-- the earliest of these places
abbrev pub first_repeat : FullUnit → Option At
first_repeat unit = earliest (unit_repeats unit)
