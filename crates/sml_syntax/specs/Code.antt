-- The bytes of a unit's code: `CMC1` and its declarations as trees. A node is a byte for its kind, its tag, and its
-- parts one after another; places aren't written.
use Rattle.std.specs.Prelude.{ℕ, ℤ, List, [], ◌∷◌, ◌++◌, Option, Some, None}
use Rattle.std.specs.Int.{w64, to_be_bytes, cast_unsigned}
use Rattle.cm_bytes.specs.Fields.{text_of, list_of}
use Rattle.sml_trees.specs.declared.name.Name.{Name}
use Rattle.sml_trees.specs.declared.name.LongName.{LongName}
use Rattle.sml_trees.specs.declared.ty.Ty.{Ty}
use Rattle.sml_trees.specs.declared.ty.Ty.TheOpen.{Ty-F, TyField-F}
use Rattle.sml_trees.specs.declared.ty.Ty.TheFolds.{fold-Ty, fold-TyField}
use Rattle.sml_trees.specs.declared.ty.TyField.{TyField}
use Rattle.sml_trees.specs.declared.ty.TypBind.{TypBind}
use Rattle.sml_trees.specs.declared.ty.ConBind.{ConBind}
use Rattle.sml_trees.specs.declared.ty.DatBind.{DatBind}
use Rattle.sml_trees.specs.declared.ty.ExBind.{ExBind}
use Rattle.sml_trees.specs.declared.ty.ExBody.{ExBody}
use Rattle.sml_trees.specs.declared.ty.ExBody.TheVariants as exn
use Rattle.sml_trees.specs.declared.ty.ValDesc.{ValDesc}
use Rattle.sml_trees.specs.declared.ty.TypDesc.{TypDesc}
use Rattle.sml_trees.specs.declared.pat.Pat.{Pat}
use Rattle.sml_trees.specs.declared.pat.Pat.TheOpen.{Pat-F, PatField-F}
use Rattle.sml_trees.specs.declared.pat.Pat.TheFolds.{fold-Pat, fold-PatField}
use Rattle.sml_trees.specs.declared.pat.PatField.{PatField}
use Rattle.sml_trees.specs.declared.sig_exp.SigExp.{SigExp}
use Rattle.sml_trees.specs.declared.sig_exp.SigExp.TheOpen.{SigExp-F, Spec-F, SigBind-F}
use Rattle.sml_trees.specs.declared.sig_exp.SigExp.TheFolds.{fold-SigExp, fold-Spec, fold-SigBind}
use Rattle.sml_trees.specs.declared.sig_exp.Spec.{Spec}
use Rattle.sml_trees.specs.declared.sig_exp.SigBind.{SigBind}
use Rattle.sml_trees.specs.declared.exp.Dec.{Dec}
use Rattle.sml_trees.specs.declared.exp.Dec.TheOpen.{Dec-F, Exp-F, StrExp-F, ExpField-F, Rule-F, StrBind-F}
use Rattle.sml_trees.specs.declared.exp.Dec.TheFolds.{fold-Dec, fold-Exp, fold-StrExp, fold-ExpField, fold-Rule, fold-StrBind}
use Rattle.sml_trees.specs.declared.exp.Exp.{Exp}
use Rattle.sml_trees.specs.declared.exp.StrExp.{StrExp}
use Rattle.sml_trees.specs.declared.exp.ExpField.{ExpField}
use Rattle.sml_trees.specs.declared.exp.Rule.{Rule}
use Rattle.sml_trees.specs.declared.exp.StrBind.{StrBind}
use Rattle.sml_trees.specs.declared.unit.TopDec.{TopDec}
use Rattle.sml_trees.specs.declared.unit.TopDec.TheVariants as top
use Rattle.sml_trees.specs.declared.unit.FunBind.{FunBind}
use Rattle.sml_trees.specs.declared.unit.FunsigBind.{FunsigBind}
use Rattle.sml_trees.specs.declared.unit.BareUnit.{BareUnit}

-- ---- the parts of every node

-- a list of parts that are spelled already
unfoldable pub parts : List (List ℕ) → List ℕ
parts items = list_of (λ item. item) items

-- an integer is eight bytes in two's complement, the most significant first
unfoldable pub int_of : ℤ → List ℕ
int_of n = to_be_bytes w64 (cast_unsigned w64 n)

-- a name is its text
abbrev pub name_of : Name → List ℕ
name_of name = text_of name.text

-- a long identifier is the list of its texts
abbrev pub long_of : LongName → List ℕ
long_of long = list_of text_of long.parts

-- what may be absent is the byte 0, or 1 and what is there
abbrev pub option_of : {A : Type 0} → (A → List ℕ) → Option A → List ℕ
option_of item_of None = 0 ∷ []
option_of item_of (Some x) = 1 ∷ item_of x

-- ---- types

abbrev pub ty_level : Ty-F (List ℕ) (List ℕ) → List ℕ
ty_level (Ty-F.Var name at) = 48 ∷ name_of name
ty_level (Ty-F.Record fields at) = 49 ∷ parts fields
ty_level (Ty-F.Named args long at) = 50 ∷ (parts args ++ long_of long)
ty_level (Ty-F.Arrow from to at) = 51 ∷ (from ++ to)

abbrev pub ty_field_level : TyField-F (List ℕ) (List ℕ) → List ℕ
ty_field_level field = name_of field.label ++ field.ty

-- the bytes of a type
abbrev pub ty_of : Ty → List ℕ
ty_of = fold-Ty (List ℕ) (List ℕ) ty_level ty_field_level

-- the bytes of a field of a record type
abbrev pub ty_field_of : TyField → List ℕ
ty_field_of = fold-TyField (List ℕ) (List ℕ) ty_level ty_field_level

-- ---- bindings of names and types

-- `tyvars name = ty`
abbrev pub typ_bind_of : TypBind → List ℕ
typ_bind_of bind = list_of name_of bind.tyvars ++ (name_of bind.name ++ ty_of bind.ty)

-- a constructor, or an exception of a signature
abbrev pub con_bind_of : ConBind → List ℕ
con_bind_of con = name_of con.name ++ option_of ty_of con.arg

-- a datatype with its constructors
abbrev pub dat_bind_of : DatBind → List ℕ
dat_bind_of bind = list_of name_of bind.tyvars ++ (name_of bind.name ++ list_of con_bind_of bind.cons)

-- an exception is new without argument, new with one, or a copy of another
abbrev pub ex_body_of : ExBody → List ℕ
ex_body_of exn.Plain = 0 ∷ []
ex_body_of (exn.Of ty) = 1 ∷ ty_of ty
ex_body_of (exn.Copy long) = 2 ∷ long_of long

-- an exception that is bound
abbrev pub ex_bind_of : ExBind → List ℕ
ex_bind_of bind = name_of bind.name ++ ex_body_of bind.body

-- `name : ty`
abbrev pub val_desc_of : ValDesc → List ℕ
val_desc_of desc = name_of desc.name ++ ty_of desc.ty

-- `tyvars name`
abbrev pub typ_desc_of : TypDesc → List ℕ
typ_desc_of desc = list_of name_of desc.tyvars ++ name_of desc.name

-- ---- patterns

abbrev pub pat_level : Pat-F (List ℕ) (List ℕ) → List ℕ
pat_level (Pat-F.Wild at) = 32 ∷ []
pat_level (Pat-F.Int n at) = 33 ∷ int_of n
pat_level (Pat-F.Str text at) = 34 ∷ text_of text
pat_level (Pat-F.Char byte at) = 35 ∷ byte ∷ []
pat_level (Pat-F.Long long at) = 36 ∷ long_of long
pat_level (Pat-F.Record fields at) = 37 ∷ parts fields
pat_level (Pat-F.Con long arg at) = 38 ∷ (long_of long ++ arg)
pat_level (Pat-F.Typed pat ty at) = 39 ∷ (pat ++ ty_of ty)
pat_level (Pat-F.As name ty pat at) = 40 ∷ (name_of name ++ (option_of ty_of ty ++ pat))

abbrev pub pat_field_level : PatField-F (List ℕ) (List ℕ) → List ℕ
pat_field_level field = name_of field.label ++ field.pat

-- the bytes of a pattern
abbrev pub pat_of : Pat → List ℕ
pat_of = fold-Pat (List ℕ) (List ℕ) pat_level pat_field_level

-- the bytes of a field of a record pattern
abbrev pub pat_field_of : PatField → List ℕ
pat_field_of = fold-PatField (List ℕ) (List ℕ) pat_level pat_field_level

-- ---- signatures

abbrev pub sig_level : SigExp-F (List ℕ) (List ℕ) (List ℕ) → List ℕ
sig_level (SigExp-F.Sig spec at) = 96 ∷ spec
sig_level (SigExp-F.Named name at) = 97 ∷ name_of name
sig_level (SigExp-F.Where sig tyvars long ty at) =
    98 ∷ (sig ++ (list_of name_of tyvars ++ (long_of long ++ ty_of ty)))

abbrev pub spec_level : Spec-F (List ℕ) (List ℕ) (List ℕ) → List ℕ
spec_level (Spec-F.Vals descs at) = 112 ∷ list_of val_desc_of descs
spec_level (Spec-F.Types descs at) = 113 ∷ list_of typ_desc_of descs
spec_level (Spec-F.Eqtypes descs at) = 114 ∷ list_of typ_desc_of descs
spec_level (Spec-F.Datatypes binds at) = 115 ∷ list_of dat_bind_of binds
spec_level (Spec-F.Replication name long at) = 116 ∷ (name_of name ++ long_of long)
spec_level (Spec-F.Exceptions descs at) = 117 ∷ list_of con_bind_of descs
spec_level (Spec-F.Structures descs at) = 118 ∷ parts descs
spec_level (Spec-F.Include sig at) = 119 ∷ sig
spec_level (Spec-F.Sequence specs at) = 120 ∷ parts specs

abbrev pub sig_bind_level : SigBind-F (List ℕ) (List ℕ) (List ℕ) → List ℕ
sig_bind_level bind = name_of bind.name ++ bind.sig

-- the bytes of a signature expression
abbrev pub sig_of : SigExp → List ℕ
sig_of = fold-SigExp (List ℕ) (List ℕ) (List ℕ) sig_level spec_level sig_bind_level

-- the bytes of a specification
abbrev pub spec_of : Spec → List ℕ
spec_of = fold-Spec (List ℕ) (List ℕ) (List ℕ) sig_level spec_level sig_bind_level

-- the bytes of a name with its signature
abbrev pub sig_bind_of : SigBind → List ℕ
sig_bind_of = fold-SigBind (List ℕ) (List ℕ) (List ℕ) sig_level spec_level sig_bind_level

-- ---- expressions, declarations and structures

abbrev pub exp_level : Exp-F (List ℕ) (List ℕ) (List ℕ) (List ℕ) (List ℕ) (List ℕ) → List ℕ
exp_level (Exp-F.Int n at) = 16 ∷ int_of n
exp_level (Exp-F.Str text at) = 17 ∷ text_of text
exp_level (Exp-F.Char byte at) = 18 ∷ byte ∷ []
exp_level (Exp-F.Long long at) = 19 ∷ long_of long
exp_level (Exp-F.Record fields at) = 20 ∷ parts fields
exp_level (Exp-F.Let dec exp at) = 21 ∷ (dec ++ exp)
exp_level (Exp-F.App function arg at) = 22 ∷ (function ++ arg)
exp_level (Exp-F.Typed exp ty at) = 23 ∷ (exp ++ ty_of ty)
exp_level (Exp-F.Handle exp rules at) = 24 ∷ (exp ++ parts rules)
exp_level (Exp-F.Raise exp at) = 25 ∷ exp
exp_level (Exp-F.Fn rules at) = 26 ∷ parts rules

abbrev pub exp_field_level : ExpField-F (List ℕ) (List ℕ) (List ℕ) (List ℕ) (List ℕ) (List ℕ) → List ℕ
exp_field_level field = name_of field.label ++ field.exp

abbrev pub rule_level : Rule-F (List ℕ) (List ℕ) (List ℕ) (List ℕ) (List ℕ) (List ℕ) → List ℕ
rule_level rule = pat_of rule.pat ++ rule.exp

abbrev pub dec_level : Dec-F (List ℕ) (List ℕ) (List ℕ) (List ℕ) (List ℕ) (List ℕ) → List ℕ
dec_level (Dec-F.Val tyvars binds recs at) = 64 ∷ (list_of name_of tyvars ++ (parts binds ++ parts recs))
dec_level (Dec-F.Types binds at) = 65 ∷ list_of typ_bind_of binds
dec_level (Dec-F.Datatypes binds at) = 66 ∷ list_of dat_bind_of binds
dec_level (Dec-F.Replication name long at) = 67 ∷ (name_of name ++ long_of long)
dec_level (Dec-F.Exceptions binds at) = 68 ∷ list_of ex_bind_of binds
dec_level (Dec-F.Local hidden dec at) = 69 ∷ (hidden ++ dec)
dec_level (Dec-F.Open longs at) = 70 ∷ list_of long_of longs
dec_level (Dec-F.Sequence decs at) = 71 ∷ parts decs
dec_level (Dec-F.Structures binds at) = 72 ∷ parts binds

abbrev pub str_level : StrExp-F (List ℕ) (List ℕ) (List ℕ) (List ℕ) (List ℕ) (List ℕ) → List ℕ
str_level (StrExp-F.Struct dec at) = 80 ∷ dec
str_level (StrExp-F.Named long at) = 81 ∷ long_of long
str_level (StrExp-F.Transparent str sig at) = 82 ∷ (str ++ sig_of sig)
str_level (StrExp-F.Opaque str sig at) = 83 ∷ (str ++ sig_of sig)
str_level (StrExp-F.Functor name arg at) = 84 ∷ (name_of name ++ arg)
str_level (StrExp-F.Within dec str at) = 85 ∷ (dec ++ str)

abbrev pub str_bind_level : StrBind-F (List ℕ) (List ℕ) (List ℕ) (List ℕ) (List ℕ) (List ℕ) → List ℕ
str_bind_level bind = name_of bind.name ++ bind.body

-- the bytes of an expression
abbrev pub exp_of : Exp → List ℕ
exp_of = fold-Exp (List ℕ) (List ℕ) (List ℕ) (List ℕ) (List ℕ) (List ℕ)
    dec_level exp_level str_level exp_field_level rule_level str_bind_level

-- the bytes of a field of a record
abbrev pub exp_field_of : ExpField → List ℕ
exp_field_of = fold-ExpField (List ℕ) (List ℕ) (List ℕ) (List ℕ) (List ℕ) (List ℕ)
    dec_level exp_level str_level exp_field_level rule_level str_bind_level

-- the bytes of a pattern with its expression
abbrev pub rule_of : Rule → List ℕ
rule_of = fold-Rule (List ℕ) (List ℕ) (List ℕ) (List ℕ) (List ℕ) (List ℕ)
    dec_level exp_level str_level exp_field_level rule_level str_bind_level

-- the bytes of a declaration
abbrev pub dec_of : Dec → List ℕ
dec_of = fold-Dec (List ℕ) (List ℕ) (List ℕ) (List ℕ) (List ℕ) (List ℕ)
    dec_level exp_level str_level exp_field_level rule_level str_bind_level

-- the bytes of a structure expression
abbrev pub str_of : StrExp → List ℕ
str_of = fold-StrExp (List ℕ) (List ℕ) (List ℕ) (List ℕ) (List ℕ) (List ℕ)
    dec_level exp_level str_level exp_field_level rule_level str_bind_level

-- the bytes of a structure that is bound
abbrev pub str_bind_of : StrBind → List ℕ
str_bind_of = fold-StrBind (List ℕ) (List ℕ) (List ℕ) (List ℕ) (List ℕ) (List ℕ)
    dec_level exp_level str_level exp_field_level rule_level str_bind_level

-- ---- the top level

-- a functor that is bound
abbrev pub fun_bind_of : FunBind → List ℕ
fun_bind_of bind = name_of bind.name ++ (name_of bind.param ++ (sig_of bind.param_sig ++ str_of bind.body))

-- the signature of functors that is bound
abbrev pub funsig_bind_of : FunsigBind → List ℕ
funsig_bind_of bind = name_of bind.name ++ (name_of bind.param ++ (sig_of bind.param_sig ++ sig_of bind.result_sig))

-- the bytes of a declaration of the top level
abbrev pub topdec_of : TopDec → List ℕ
topdec_of (top.Structures binds at) = 128 ∷ list_of str_bind_of binds
topdec_of (top.Signatures binds at) = 129 ∷ list_of sig_bind_of binds
topdec_of (top.Functors binds at) = 130 ∷ list_of fun_bind_of binds
topdec_of (top.Funsigs binds at) = 131 ∷ list_of funsig_bind_of binds

-- the code of a unit: `CMC1` and the list of its declarations
unfoldable pub code_of : BareUnit → List ℕ
code_of unit = 67 ∷ 77 ∷ 67 ∷ 49 ∷ list_of topdec_of unit.topdecs
