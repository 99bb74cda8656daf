-- Bindings of names and types are read exactly.
use Rattle.std.proofs.Common.{ℕ, List, Option, refl}
use Rattle.cm_bytes.specs.Fields.{IsReadAgain}
use Rattle.sml_syntax.specs.Steps.{made, Table, or_tag, no_tag, nothing_at, IsExact}
use Rattle.sml_syntax.proofs.Exact.{made_exact, both_exact, list_exact, nothing_exact, option_exact, tagged_spelled, tagged_again, no_tag_spells, or_tag_spells}
use Rattle.sml_syntax.proofs.ReadTy.{name_exact, long_exact, ty_exact}
use Rattle.sml_syntax.specs.Code.{con_bind_of, dat_bind_of, ex_bind_of, ex_body_of, typ_bind_of, typ_desc_of, val_desc_of}
use Rattle.sml_syntax.specs.Reading.{long_at, ty_at}
use Rattle.sml_syntax.specs.ReadingBinds.{typ_bind_at, IsTypBind, con_bind_at, IsConBind, dat_bind_at, IsDatBind, val_desc_at, IsValDesc, typ_desc_at, IsTypDesc, ex_bind_at, IsExBind, ex_body_at, IsExBody}
use Rattle.sml_trees.specs.declared.name.Name.{Name}
use Rattle.sml_trees.specs.declared.ty.Ty.{Ty}
use Rattle.sml_trees.specs.declared.ty.TypBind.{TypBind}
use Rattle.sml_trees.specs.declared.ty.ConBind.{ConBind}
use Rattle.sml_trees.specs.declared.ty.DatBind.{DatBind}
use Rattle.sml_trees.specs.declared.ty.ExBind.{ExBind}
use Rattle.sml_trees.specs.declared.ty.ExBody.{ExBody}
use Rattle.sml_trees.specs.declared.ty.ValDesc.{ValDesc}
use Rattle.sml_trees.specs.declared.ty.TypDesc.{TypDesc}
use Rattle.sml_trees.specs.declared.ty.ExBody.TheVariants as exn

pub typ_bind_exact : (n : ℕ) → IsExact typ_bind_of (typ_bind_at n) (IsTypBind n)
unfolding typ_bind_at
typ_bind_exact n =
    made_exact typ_bind_of (IsTypBind n) (λ (p : ((List Name) × (Name × Ty))). record { tyvars = p.0; name = p.1.0; ty = p.1.1 })
    (λ (bind : TypBind). (bind.tyvars, (bind.name, bind.ty))) (both_exact (list_exact name_exact) (both_exact name_exact (ty_exact n)))
    (λ p fits. refl) (λ p fits. fits) (λ bind is. (refl, is))

pub con_bind_exact : (n : ℕ) → IsExact con_bind_of (con_bind_at n) (IsConBind n)
unfolding con_bind_at
con_bind_exact n =
    made_exact con_bind_of (IsConBind n) (λ (p : (Name × (Option Ty))). record { name = p.0; arg = p.1 })
    (λ (bind : ConBind). (bind.name, bind.arg)) (both_exact name_exact (option_exact (ty_exact n)))
    (λ p fits. refl) (λ p fits. fits) (λ bind is. (refl, is))

pub dat_bind_exact : (n : ℕ) → IsExact dat_bind_of (dat_bind_at n) (IsDatBind n)
unfolding dat_bind_at
dat_bind_exact n =
    made_exact dat_bind_of (IsDatBind n) (λ (p : ((List Name) × (Name × (List ConBind)))). record { tyvars = p.0; name = p.1.0; cons = p.1.1 })
    (λ (bind : DatBind). (bind.tyvars, (bind.name, bind.cons))) (both_exact (list_exact name_exact) (both_exact name_exact (list_exact (con_bind_exact n))))
    (λ p fits. refl) (λ p fits. fits) (λ bind is. (refl, is))

pub val_desc_exact : (n : ℕ) → IsExact val_desc_of (val_desc_at n) (IsValDesc n)
unfolding val_desc_at
val_desc_exact n =
    made_exact val_desc_of (IsValDesc n) (λ (p : (Name × Ty)). record { name = p.0; ty = p.1 })
    (λ (bind : ValDesc). (bind.name, bind.ty)) (both_exact name_exact (ty_exact n))
    (λ p fits. refl) (λ p fits. fits) (λ bind is. (refl, is))

pub typ_desc_exact : (n : ℕ) → IsExact typ_desc_of (typ_desc_at n) (IsTypDesc n)
unfolding typ_desc_at
typ_desc_exact n =
    made_exact typ_desc_of (IsTypDesc n) (λ (p : ((List Name) × Name)). record { tyvars = p.0; name = p.1 })
    (λ (bind : TypDesc). (bind.tyvars, bind.name)) (both_exact (list_exact name_exact) name_exact)
    (λ p fits. refl) (λ p fits. fits) (λ bind is. (refl, is))

pub ex_body_exact : (n : ℕ) → IsExact ex_body_of (ex_body_at n) (IsExBody n)
unfolding ex_body_at or_tag
ex_body_exact n = record {
  again = again;
  spelled = tagged_spelled (
      or_tag_spells 0 (λ (p : Unit {0}). exn.Plain) nothing_exact (λ p. refl) (λ p fits. fits) (
      or_tag_spells 1 exn.Of (ty_exact n) (λ p. refl) (λ p fits. fits) (
      or_tag_spells 2 exn.Copy long_exact (λ p. refl) (λ p fits. fits) (no_tag_spells ex_body_of (IsExBody n)))));
}
  where
    table : Table ExBody
    table = or_tag 0 (made (λ p. exn.Plain) nothing_at) (
        or_tag 1 (made exn.Of (ty_at n)) (or_tag 2 (made exn.Copy long_at) no_tag))

    again : (x : ExBody) → IsExBody n x → IsReadAgain ex_body_of (ex_body_at n) x
    again exn.Plain fits = tagged_again ex_body_of table 0 (λ (p : Unit {0}). exn.Plain) nothing_exact tt tt refl refl
    again (exn.Of ty) fits = tagged_again ex_body_of table 1 exn.Of (ty_exact n) ty fits refl refl
    again (exn.Copy long) fits = tagged_again ex_body_of table 2 exn.Copy long_exact long fits refl refl

pub ex_bind_exact : (n : ℕ) → IsExact ex_bind_of (ex_bind_at n) (IsExBind n)
unfolding ex_bind_at
ex_bind_exact n =
    made_exact ex_bind_of (IsExBind n) (λ (p : (Name × ExBody)). record { name = p.0; body = p.1 })
    (λ (bind : ExBind). (bind.name, bind.body)) (both_exact name_exact (ex_body_exact n))
    (λ p fits. refl) (λ p fits. fits) (λ bind is. (refl, is))
