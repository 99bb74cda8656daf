-- The built-in structures, which each source sees where its options allow it.
use Rattle.std.specs.Prelude.{ℕ, Bool, true, false, nat_eq, ◌&&◌, ◌||◌, List, codes}
use Rattle.cm_base.specs.declared.record.ModName.{ModName}
use Rattle.cm_base.specs.declared.record.Namespace.{Namespace}
use Rattle.cm_base.specs.declared.record.Namespace.TheVariants as space
use lib.Pointwise.{pointwise}

-- whether a name is that of a structure of the Basis Library which is built in
unfoldable pub is_basis_structure : List ℕ → Bool
is_basis_structure name =
    pointwise nat_eq name (codes "Int")
    || (pointwise nat_eq name (codes "String") || pointwise nat_eq name (codes "Char"))

abbrev pub is_structure : Namespace → Bool
is_structure space.Structure = true
is_structure _ = false

-- whether a module is a built-in structure; no signature, functor or funsig is built in
abbrev pub is_built_in : ModName → Bool
is_built_in name = is_structure name.space && is_basis_structure name.name
