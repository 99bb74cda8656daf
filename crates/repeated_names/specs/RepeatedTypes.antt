-- The lists of types, patterns and signatures in which no name may stand twice: labels of a record, type variables, and
-- what `and` joins in one `type`, `datatype`, `exception` or `structure`.
use Rattle.std.specs.Prelude.{List, [], ◌∷◌, ◌++◌, map, Option, Some, None}
use Rattle.std.specs.List.{flat_map}
use Rattle.std.specs.Option.{option_map}
use Rattle.sml_trees.specs.declared.name.At.{At}
use Rattle.sml_trees.specs.declared.name.Name.{Name}
use Rattle.sml_trees.specs.declared.ty.TypDesc.{TypDesc}
use Rattle.sml_trees.specs.declared.full_ty.FullTy.{FullTy}
use Rattle.sml_trees.specs.declared.full_ty.FullTy.TheOpen.{FullTy-F, FullTyField-F}
use Rattle.sml_trees.specs.declared.full_ty.FullTy.TheFolds.{fold-FullTy, fold-FullTyField}
use Rattle.sml_trees.specs.declared.full_ty.FullTyField.{FullTyField}
use Rattle.sml_trees.specs.declared.full_ty.FullTypBind.{FullTypBind}
use Rattle.sml_trees.specs.declared.full_ty.FullConBind.{FullConBind}
use Rattle.sml_trees.specs.declared.full_ty.FullDatBind.{FullDatBind}
use Rattle.sml_trees.specs.declared.full_ty.FullExBody.{FullExBody}
use Rattle.sml_trees.specs.declared.full_ty.FullExBody.TheVariants as full
use Rattle.sml_trees.specs.declared.full_ty.FullExBind.{FullExBind}
use Rattle.sml_trees.specs.declared.full_ty.FullValDesc.{FullValDesc}
use Rattle.sml_trees.specs.declared.full_ty.FullTypDesc.{FullTypDesc}
use Rattle.sml_trees.specs.declared.full_pat.FullPat.{FullPat}
use Rattle.sml_trees.specs.declared.full_pat.FullPat.TheOpen.{FullPat-F, FullPatField-F, FullPatItem-F}
use Rattle.sml_trees.specs.declared.full_pat.FullPat.TheFolds.{fold-FullPat, fold-FullPatField, fold-FullPatItem}
use Rattle.sml_trees.specs.declared.full_pat.FullPatField.{FullPatField}
use Rattle.sml_trees.specs.declared.full_pat.FullPatItem.{FullPatItem}
use Rattle.sml_trees.specs.declared.full_sig.FullSigExp.{FullSigExp}
use Rattle.sml_trees.specs.declared.full_sig.FullSigExp.TheOpen.{FullSigExp-F, FullSpec-F, FullSigBind-F}
use Rattle.sml_trees.specs.declared.full_sig.FullSigExp.TheFolds.{fold-FullSigExp, fold-FullSpec, fold-FullSigBind}
use Rattle.sml_trees.specs.declared.full_sig.FullSpec.{FullSpec}
use Rattle.sml_trees.specs.declared.full_sig.FullSigBind.{FullSigBind}
use Rattle.sml_trees.specs.declared.full_sig.FullWhere.{FullWhere}
use Rattle.sml_trees.specs.declared.full_sig.FullSeal.{FullSeal}
use Rattle.repeated_names.specs.Repeats.{Member, member, bare_member, repeats_in, all_repeats, option_repeats}

-- ---- types

abbrev pub ty_level : FullTy-F (List At) Member → List At
ty_level (FullTy-F.Var name at) = []
ty_level (FullTy-F.Record fields at) = repeats_in fields
ty_level (FullTy-F.Con long at) = []
ty_level (FullTy-F.Applied arg long at) = arg
ty_level (FullTy-F.AppliedAll args long at) = all_repeats args
ty_level (FullTy-F.Tuple parts at) = all_repeats parts
ty_level (FullTy-F.Arrow from to at) = from ++ to
ty_level (FullTy-F.Paren inner at) = inner

abbrev pub ty_field_level : FullTyField-F (List At) Member → Member
ty_field_level field = member field.label field.ty

abbrev pub ty_repeats : FullTy → List At
ty_repeats = fold-FullTy (List At) Member ty_level ty_field_level

abbrev pub ty_field_member : FullTyField → Member
ty_field_member = fold-FullTyField (List At) Member ty_level ty_field_level

-- a type that may be absent
abbrev pub optional_ty : Option FullTy → List At
optional_ty None = []
optional_ty (Some ty) = ty_repeats ty

-- ---- bindings of types, constructors and exceptions

-- type variables
abbrev pub tyvar_repeats : List Name → List At
tyvar_repeats tyvars = repeats_in (map bare_member tyvars)

abbrev pub typ_bind_member : FullTypBind → Member
typ_bind_member bind = member bind.name (tyvar_repeats bind.tyvars ++ ty_repeats bind.ty)

abbrev pub typ_desc_member : FullTypDesc → Member
typ_desc_member desc = member desc.name (tyvar_repeats desc.tyvars ++ optional_ty desc.ty)

-- `eqtype` may hold a name twice here; the rules of signatures refuse it
abbrev pub eq_desc_repeats : TypDesc → List At
eq_desc_repeats desc = tyvar_repeats desc.tyvars

abbrev pub con_member : FullConBind → Member
con_member con = member con.name.name (optional_ty con.arg)

abbrev pub dat_member : FullDatBind → Member
dat_member bind = member bind.name (tyvar_repeats bind.tyvars)

abbrev pub dat_cons : FullDatBind → List Member
dat_cons bind = map con_member bind.cons

-- the types of a `datatype` are one list, and all its constructors another
abbrev pub dat_repeats : List FullDatBind → List At
dat_repeats binds = repeats_in (map dat_member binds) ++ repeats_in (flat_map dat_cons binds)

abbrev pub ex_body_repeats : FullExBody → List At
ex_body_repeats full.Plain = []
ex_body_repeats (full.Of arg) = ty_repeats arg
ex_body_repeats (full.Copy long) = []

abbrev pub ex_member : FullExBind → Member
ex_member bind = member bind.name.name (ex_body_repeats bind.body)

-- `val` may describe a name twice here; the rules of signatures refuse it
abbrev pub val_desc_repeats : FullValDesc → List At
val_desc_repeats desc = ty_repeats desc.ty

-- ---- patterns

abbrev pub pat_level : FullPat-F (List At) Member (List At) → List At
pat_level (FullPat-F.Wild at) = []
pat_level (FullPat-F.Constant constant at) = []
pat_level (FullPat-F.Long long at) = []
pat_level (FullPat-F.Record fields at) = repeats_in fields
pat_level (FullPat-F.Unit at) = []
pat_level (FullPat-F.Tuple parts at) = all_repeats parts
pat_level (FullPat-F.Paren inner at) = inner
pat_level (FullPat-F.List items at) = all_repeats items
pat_level (FullPat-F.Run items at) = all_repeats items
pat_level (FullPat-F.Typed inner ty at) = inner ++ ty_repeats ty
pat_level (FullPat-F.As name ty inner at) = optional_ty ty ++ inner

abbrev pub pat_field_level : FullPatField-F (List At) Member (List At) → Member
pat_field_level (FullPatField-F.Labelled label pat) = member label pat
pat_field_level (FullPatField-F.Named name ty pat) = member name (optional_ty ty ++ option_repeats pat)

abbrev pub pat_item_level : FullPatItem-F (List At) Member (List At) → List At
pat_item_level (FullPatItem-F.Atom pat) = pat
pat_item_level (FullPatItem-F.Operator name fixity) = []

abbrev pub pat_repeats : FullPat → List At
pat_repeats = fold-FullPat (List At) Member (List At) pat_level pat_field_level pat_item_level

abbrev pub pat_field_member : FullPatField → Member
pat_field_member = fold-FullPatField (List At) Member (List At) pat_level pat_field_level pat_item_level

abbrev pub pat_item_repeats : FullPatItem → List At
pat_item_repeats = fold-FullPatItem (List At) Member (List At) pat_level pat_field_level pat_item_level

-- ---- signatures

abbrev pub where_repeats : FullWhere → List At
where_repeats each = tyvar_repeats each.tyvars ++ ty_repeats each.ty

abbrev pub sig_level : FullSigExp-F (List At) (List At) Member → List At
sig_level (FullSigExp-F.Sig specs at) = all_repeats specs
sig_level (FullSigExp-F.Named name at) = []
sig_level (FullSigExp-F.Where inner wheres at) = inner ++ all_repeats (map where_repeats wheres)

abbrev pub spec_level : FullSpec-F (List At) (List At) Member → List At
spec_level (FullSpec-F.Vals descs at) = all_repeats (map val_desc_repeats descs)
spec_level (FullSpec-F.Types descs at) = repeats_in (map typ_desc_member descs)
spec_level (FullSpec-F.Eqtypes descs at) = all_repeats (map eq_desc_repeats descs)
spec_level (FullSpec-F.Datatypes binds at) = dat_repeats binds
spec_level (FullSpec-F.Replication name long at) = []
spec_level (FullSpec-F.Exceptions cons at) = repeats_in (map con_member cons)
spec_level (FullSpec-F.Structures binds at) = repeats_in binds
spec_level (FullSpec-F.IncludeNames names at) = []
spec_level (FullSpec-F.Include inner at) = inner

abbrev pub sig_bind_level : FullSigBind-F (List At) (List At) Member → Member
sig_bind_level bind = member bind.name bind.sig

abbrev pub sig_repeats : FullSigExp → List At
sig_repeats = fold-FullSigExp (List At) (List At) Member sig_level spec_level sig_bind_level

abbrev pub spec_repeats : FullSpec → List At
spec_repeats = fold-FullSpec (List At) (List At) Member sig_level spec_level sig_bind_level

abbrev pub sig_bind_member : FullSigBind → Member
sig_bind_member = fold-FullSigBind (List At) (List At) Member sig_level spec_level sig_bind_level

-- a signature that may be given
abbrev pub seal_repeats : Option FullSeal → List At
seal_repeats None = []
seal_repeats (Some seal) = sig_repeats seal.sig
