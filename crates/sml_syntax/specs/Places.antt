-- Trees without their places: each line and column is 0.
use Rattle.std.specs.Prelude.{List, Option, map, option_map}
use Rattle.sml_syntax.specs.Reading.{nowhere, name_nowhere, long_nowhere}
use Rattle.sml_trees.specs.declared.name.Name.{Name}
use Rattle.sml_trees.specs.declared.name.LongName.{LongName}
use Rattle.sml_trees.specs.declared.ty.Ty.{Ty, roll-Ty}
use Rattle.sml_trees.specs.declared.ty.TyField.{TyField, roll-TyField}
use Rattle.sml_trees.specs.declared.ty.Ty.TheOpen.{Ty-F, TyField-F}
use Rattle.sml_trees.specs.declared.ty.Ty.TheFolds.{fold-Ty, fold-TyField}
use Rattle.sml_trees.specs.declared.ty.TypBind.{TypBind}
use Rattle.sml_trees.specs.declared.ty.ConBind.{ConBind}
use Rattle.sml_trees.specs.declared.ty.DatBind.{DatBind}
use Rattle.sml_trees.specs.declared.ty.ExBind.{ExBind}
use Rattle.sml_trees.specs.declared.ty.ValDesc.{ValDesc}
use Rattle.sml_trees.specs.declared.ty.TypDesc.{TypDesc}
use Rattle.sml_trees.specs.declared.ty.ExBody.{ExBody}
use Rattle.sml_trees.specs.declared.ty.ExBody.TheVariants as exn
use Rattle.sml_trees.specs.declared.pat.Pat.{Pat, roll-Pat}
use Rattle.sml_trees.specs.declared.pat.PatField.{PatField, roll-PatField}
use Rattle.sml_trees.specs.declared.pat.Pat.TheOpen.{Pat-F, PatField-F}
use Rattle.sml_trees.specs.declared.pat.Pat.TheFolds.{fold-Pat, fold-PatField}
use Rattle.sml_trees.specs.declared.sig_exp.SigExp.{SigExp, roll-SigExp}
use Rattle.sml_trees.specs.declared.sig_exp.Spec.{Spec, roll-Spec}
use Rattle.sml_trees.specs.declared.sig_exp.SigBind.{SigBind, roll-SigBind}
use Rattle.sml_trees.specs.declared.sig_exp.SigExp.TheOpen.{SigExp-F, Spec-F, SigBind-F}
use Rattle.sml_trees.specs.declared.sig_exp.SigExp.TheFolds.{fold-SigExp, fold-Spec, fold-SigBind}

abbrev pub unplaced_name : Name → Name
unplaced_name name = name_nowhere name.text

abbrev pub unplaced_long : LongName → LongName
unplaced_long long = long_nowhere long.parts

-- ---- types

abbrev pub ty_unplaced : {A B : Type 0} → Ty-F A B → Ty-F A B
ty_unplaced (Ty-F.Var a at) = Ty-F.Var (unplaced_name a) nowhere
ty_unplaced (Ty-F.Record a at) = Ty-F.Record a nowhere
ty_unplaced (Ty-F.Named a b at) = Ty-F.Named a (unplaced_long b) nowhere
ty_unplaced (Ty-F.Arrow a b at) = Ty-F.Arrow a b nowhere

abbrev pub ty_field_unplaced : {A B : Type 0} → TyField-F A B → TyField-F A B
ty_field_unplaced x = record { label = unplaced_name x.label; ty = x.ty }

abbrev pub unplaced_ty : Ty → Ty
unplaced_ty = fold-Ty Ty TyField
    (λ x. roll-Ty (ty_unplaced x))
    (λ x. roll-TyField (ty_field_unplaced x))

abbrev pub unplaced_ty_field : TyField → TyField
unplaced_ty_field = fold-TyField Ty TyField
    (λ x. roll-Ty (ty_unplaced x))
    (λ x. roll-TyField (ty_field_unplaced x))

-- ---- bindings of names and types

abbrev pub unplaced_typ_bind : TypBind → TypBind
unplaced_typ_bind x = record { tyvars = map unplaced_name x.tyvars; name = unplaced_name x.name; ty = unplaced_ty x.ty }

abbrev pub unplaced_con_bind : ConBind → ConBind
unplaced_con_bind x = record { name = unplaced_name x.name; arg = option_map unplaced_ty x.arg }

abbrev pub unplaced_dat_bind : DatBind → DatBind
unplaced_dat_bind x = record { tyvars = map unplaced_name x.tyvars; name = unplaced_name x.name; cons = map unplaced_con_bind x.cons }

abbrev pub unplaced_ex_body : ExBody → ExBody
unplaced_ex_body exn.Plain = exn.Plain
unplaced_ex_body (exn.Of ty) = exn.Of (unplaced_ty ty)
unplaced_ex_body (exn.Copy long) = exn.Copy (unplaced_long long)

abbrev pub unplaced_ex_bind : ExBind → ExBind
unplaced_ex_bind x = record { name = unplaced_name x.name; body = unplaced_ex_body x.body }

abbrev pub unplaced_val_desc : ValDesc → ValDesc
unplaced_val_desc x = record { name = unplaced_name x.name; ty = unplaced_ty x.ty }

abbrev pub unplaced_typ_desc : TypDesc → TypDesc
unplaced_typ_desc x = record { tyvars = map unplaced_name x.tyvars; name = unplaced_name x.name }

-- ---- patterns

abbrev pub pat_unplaced : {A B : Type 0} → Pat-F A B → Pat-F A B
pat_unplaced (Pat-F.Wild at) = Pat-F.Wild nowhere
pat_unplaced (Pat-F.Int a at) = Pat-F.Int a nowhere
pat_unplaced (Pat-F.Str a at) = Pat-F.Str a nowhere
pat_unplaced (Pat-F.Char a at) = Pat-F.Char a nowhere
pat_unplaced (Pat-F.Long a at) = Pat-F.Long (unplaced_long a) nowhere
pat_unplaced (Pat-F.Record a at) = Pat-F.Record a nowhere
pat_unplaced (Pat-F.Con a b at) = Pat-F.Con (unplaced_long a) b nowhere
pat_unplaced (Pat-F.Typed a b at) = Pat-F.Typed a (unplaced_ty b) nowhere
pat_unplaced (Pat-F.As a b c at) = Pat-F.As (unplaced_name a) (option_map unplaced_ty b) c nowhere

abbrev pub pat_field_unplaced : {A B : Type 0} → PatField-F A B → PatField-F A B
pat_field_unplaced x = record { label = unplaced_name x.label; pat = x.pat }

abbrev pub unplaced_pat : Pat → Pat
unplaced_pat = fold-Pat Pat PatField
    (λ x. roll-Pat (pat_unplaced x))
    (λ x. roll-PatField (pat_field_unplaced x))

abbrev pub unplaced_pat_field : PatField → PatField
unplaced_pat_field = fold-PatField Pat PatField
    (λ x. roll-Pat (pat_unplaced x))
    (λ x. roll-PatField (pat_field_unplaced x))

-- ---- signatures

abbrev pub sig_unplaced : {A B C : Type 0} → SigExp-F A B C → SigExp-F A B C
sig_unplaced (SigExp-F.Sig a at) = SigExp-F.Sig a nowhere
sig_unplaced (SigExp-F.Named a at) = SigExp-F.Named (unplaced_name a) nowhere
sig_unplaced (SigExp-F.Where a b c d at) = SigExp-F.Where a (map unplaced_name b) (unplaced_long c) (unplaced_ty d) nowhere

abbrev pub spec_unplaced : {A B C : Type 0} → Spec-F A B C → Spec-F A B C
spec_unplaced (Spec-F.Vals a at) = Spec-F.Vals (map unplaced_val_desc a) nowhere
spec_unplaced (Spec-F.Types a at) = Spec-F.Types (map unplaced_typ_desc a) nowhere
spec_unplaced (Spec-F.Eqtypes a at) = Spec-F.Eqtypes (map unplaced_typ_desc a) nowhere
spec_unplaced (Spec-F.Datatypes a at) = Spec-F.Datatypes (map unplaced_dat_bind a) nowhere
spec_unplaced (Spec-F.Replication a b at) = Spec-F.Replication (unplaced_name a) (unplaced_long b) nowhere
spec_unplaced (Spec-F.Exceptions a at) = Spec-F.Exceptions (map unplaced_con_bind a) nowhere
spec_unplaced (Spec-F.Structures a at) = Spec-F.Structures a nowhere
spec_unplaced (Spec-F.Include a at) = Spec-F.Include a nowhere
spec_unplaced (Spec-F.Sequence a at) = Spec-F.Sequence a nowhere

abbrev pub sig_bind_unplaced : {A B C : Type 0} → SigBind-F A B C → SigBind-F A B C
sig_bind_unplaced x = record { name = unplaced_name x.name; sig = x.sig }

abbrev pub unplaced_sig : SigExp → SigExp
unplaced_sig = fold-SigExp SigExp Spec SigBind
    (λ x. roll-SigExp (sig_unplaced x))
    (λ x. roll-Spec (spec_unplaced x))
    (λ x. roll-SigBind (sig_bind_unplaced x))

abbrev pub unplaced_spec : Spec → Spec
unplaced_spec = fold-Spec SigExp Spec SigBind
    (λ x. roll-SigExp (sig_unplaced x))
    (λ x. roll-Spec (spec_unplaced x))
    (λ x. roll-SigBind (sig_bind_unplaced x))

abbrev pub unplaced_sig_bind : SigBind → SigBind
unplaced_sig_bind = fold-SigBind SigExp Spec SigBind
    (λ x. roll-SigExp (sig_unplaced x))
    (λ x. roll-Spec (spec_unplaced x))
    (λ x. roll-SigBind (sig_bind_unplaced x))
