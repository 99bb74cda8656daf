-- How bindings of names and types are read, and which of them.
use Rattle.std.specs.Prelude.{ℕ}
use Rattle.cm_bytes.specs.Fields.{Step, list_at}
use Rattle.sml_syntax.specs.Steps.{made, both, Table, no_tag, or_tag, tagged, nothing_at, option_at}
use Rattle.sml_syntax.specs.Reading.{name_at, long_at, IsName, IsLong, AreAll, IfThere, ty_at, IsTy}
use Rattle.sml_trees.specs.declared.ty.TypBind.{TypBind}
use Rattle.sml_trees.specs.declared.ty.ConBind.{ConBind}
use Rattle.sml_trees.specs.declared.ty.DatBind.{DatBind}
use Rattle.sml_trees.specs.declared.ty.ExBind.{ExBind}
use Rattle.sml_trees.specs.declared.ty.ExBody.{ExBody}
use Rattle.sml_trees.specs.declared.ty.ValDesc.{ValDesc}
use Rattle.sml_trees.specs.declared.ty.TypDesc.{TypDesc}
use Rattle.sml_trees.specs.declared.ty.ExBody.TheVariants as exn

unfoldable pub typ_bind_at : ℕ → Step TypBind
typ_bind_at n = made (λ p. record { tyvars = p.0; name = p.1.0; ty = p.1.1 }) (both (list_at name_at) (both name_at (ty_at n)))

abbrev pub IsTypBind : ℕ → TypBind → Type 0
IsTypBind n bind = ((AreAll IsName) bind.tyvars × (IsName bind.name × (IsTy n) bind.ty))

unfoldable pub con_bind_at : ℕ → Step ConBind
con_bind_at n = made (λ p. record { name = p.0; arg = p.1 }) (both name_at (option_at (ty_at n)))

abbrev pub IsConBind : ℕ → ConBind → Type 0
IsConBind n bind = (IsName bind.name × (IfThere (IsTy n)) bind.arg)

unfoldable pub dat_bind_at : ℕ → Step DatBind
dat_bind_at n = made (λ p. record { tyvars = p.0; name = p.1.0; cons = p.1.1 }) (both (list_at name_at) (both name_at (list_at (con_bind_at n))))

abbrev pub IsDatBind : ℕ → DatBind → Type 0
IsDatBind n bind = ((AreAll IsName) bind.tyvars × (IsName bind.name × (AreAll (IsConBind n)) bind.cons))

unfoldable pub val_desc_at : ℕ → Step ValDesc
val_desc_at n = made (λ p. record { name = p.0; ty = p.1 }) (both name_at (ty_at n))

abbrev pub IsValDesc : ℕ → ValDesc → Type 0
IsValDesc n bind = (IsName bind.name × (IsTy n) bind.ty)

unfoldable pub typ_desc_at : ℕ → Step TypDesc
typ_desc_at n = made (λ p. record { tyvars = p.0; name = p.1 }) (both (list_at name_at) name_at)

abbrev pub IsTypDesc : ℕ → TypDesc → Type 0
IsTypDesc n bind = ((AreAll IsName) bind.tyvars × IsName bind.name)

-- an exception is new without argument, new with one, or a copy of another
abbrev pub ex_body_table : ℕ → Table ExBody
ex_body_table n =
    or_tag 0 (made (λ p. exn.Plain) nothing_at) (
    or_tag 1 (made exn.Of (ty_at n)) (
    or_tag 2 (made exn.Copy long_at) no_tag))

unfoldable pub ex_body_at : ℕ → Step ExBody
ex_body_at n = tagged (ex_body_table n)

abbrev pub IsExBody : ℕ → ExBody → Type 0
IsExBody n exn.Plain = Unit {0}
IsExBody n (exn.Of ty) = IsTy n ty
IsExBody n (exn.Copy long) = IsLong long

unfoldable pub ex_bind_at : ℕ → Step ExBind
ex_bind_at n = made (λ p. record { name = p.0; body = p.1 }) (both name_at (ex_body_at n))

abbrev pub IsExBind : ℕ → ExBind → Type 0
IsExBind n bind = (IsName bind.name × (IsExBody n) bind.body)
