-- Module names that are the same are equal.
use Rattle.std.proofs.Common.{◌≡◌, ◌∙◌, sym, ap, ap₂, refl, ℕ, List, Bool, true, false, ◌&&◌, nat_eq}
use Rattle.cm_base.specs.declared.record.ModName.{ModName}
use Rattle.cm_base.specs.declared.record.Namespace.{Namespace}
use Rattle.cm_base.specs.declared.record.Namespace.TheVariants as space
use Rattle.cm_conditions.proofs.TableSteps.{same_is}
use Rattle.cm_conditions.specs.Tables.{same_name}
use Rattle.cm_conditions.specs.Values.{same_space, same_module}
use lib.Pointwise.{pointwise, bytes_decides}

-- both of two tests
pub both : (a b : Bool) → (a && b) ≡ true → (a ≡ true) × (b ≡ true)
both true b h = (refl, h)
both false b h = cc

spaces_is : (s t : Namespace) → same_space s t ≡ true → s ≡ t
spaces_is space.Structure space.Structure h = refl
spaces_is space.Structure space.Signature h = cc
spaces_is space.Structure space.Functor h = cc
spaces_is space.Structure space.Funsig h = cc
spaces_is space.Signature space.Structure h = cc
spaces_is space.Signature space.Signature h = refl
spaces_is space.Signature space.Functor h = cc
spaces_is space.Signature space.Funsig h = cc
spaces_is space.Functor space.Structure h = cc
spaces_is space.Functor space.Signature h = cc
spaces_is space.Functor space.Functor h = refl
spaces_is space.Functor space.Funsig h = cc
spaces_is space.Funsig space.Structure h = cc
spaces_is space.Funsig space.Signature h = cc
spaces_is space.Funsig space.Functor h = cc
spaces_is space.Funsig space.Funsig h = refl

own_space : (s : Namespace) → same_space s s ≡ true
own_space space.Structure = refl
own_space space.Signature = refl
own_space space.Functor = refl
own_space space.Funsig = refl

abbrev pub named : Namespace → List ℕ → ModName
named space name = record { space = space; name = name }

pub module_is : (a b : ModName) → same_module a b ≡ true → a ≡ b
module_is a b h =
    let parts = both (same_space a.space b.space) (pointwise nat_eq a.name b.name) h in
    ap₂ named (spaces_is a.space b.space parts.0) ((bytes_decides a.name b.name).0 parts.1)

pub own_module : (a : ModName) → same_module a a ≡ true
own_module a = ap₂ (λ s t. s && t) (own_space a.space) ((bytes_decides a.name a.name).1 refl)

pub name_is : (a b : ModName) → same_name a b ≡ true → a ≡ b
name_is a b h = module_is a b (sym (same_is a b) ∙ h)
