-- The skeleton of a unit: the module names that its top level defines, and those that it uses and doesn't bind.
use Rattle.std.specs.Prelude.{ℕ, suc, not, Bool, ◌&&◌, List, [], ◌∷◌, map}
use Rattle.std.specs.List.{list_any, filter, flat_map}
use Rattle.std.specs.Ordering.{nat_cmp, ordering_then}
use Rattle.std.specs.declared.cmp.Ordering.{Ordering}
use Rattle.std.specs.FinMap.{FinMap, empty, insert, values}
use Rattle.cm_base.specs.declared.record.Namespace.{Namespace}
use Rattle.cm_base.specs.declared.record.Namespace.TheVariants as space
use Rattle.cm_base.specs.declared.record.ModName.{ModName}
use Rattle.cm_base.specs.declared.record.Spot.{Spot}
use Rattle.cm_base.specs.declared.record.Need.{Need}
use Rattle.cm_base.specs.declared.record.Skeleton.{Skeleton}
use Rattle.sml_trees.specs.declared.name.Name.{Name}
use Rattle.sml_trees.specs.declared.sig_exp.SigBind.{SigBind}
use Rattle.sml_trees.specs.declared.unit.TopDec.{TopDec}
use Rattle.sml_trees.specs.declared.unit.TopDec.TheVariants as top
use Rattle.sml_trees.specs.declared.unit.FunBind.{FunBind}
use Rattle.sml_trees.specs.declared.unit.FunsigBind.{FunsigBind}
use Rattle.sml_trees.specs.declared.unit.BareUnit.{BareUnit}
use Rattle.skeletons.specs.declared.places.Position.{Position}
use Rattle.skeletons.specs.Scopes.{same_name, both, under, Brings, sequence_uses, Binding, joined, module_name, no_scope}
use Rattle.skeletons.specs.Uses.{sig_uses, str_uses, str_binding}

-- ---- the top level

-- a signature that is bound
abbrev pub sig_bound : SigBind → Binding
sig_bound bind = record { name = module_name space.Signature bind.name; uses = sig_uses bind.sig }

-- a functor: its parameter is in scope in its body, and not in the parameter's signature
abbrev pub fun_binding : FunBind → Binding
fun_binding bind = record {
  name = module_name space.Functor bind.name;
  uses = both (sig_uses bind.param_sig) (under bind.param (str_uses bind.body));
}

-- a signature of functors: its parameter is in scope in the result's signature
abbrev pub funsig_binding : FunsigBind → Binding
funsig_binding bind = record {
  name = module_name space.Funsig bind.name;
  uses = both (sig_uses bind.param_sig) (under bind.param (sig_uses bind.result_sig));
}

-- what a declaration of the top level uses and binds
abbrev pub top_brings : TopDec → Brings
top_brings (top.Structures binds at) = joined (map str_binding binds)
top_brings (top.Signatures binds at) = joined (map sig_bound binds)
top_brings (top.Functors binds at) = joined (map fun_binding binds)
top_brings (top.Funsigs binds at) = joined (map funsig_binding binds)

-- a name of a name space at its place
abbrev pub spot : Namespace → Name → Spot
spot in_space name = record { name = module_name in_space name; line = name.line; col = name.col }

-- the names that a declaration of the top level defines
abbrev pub top_spots : TopDec → List Spot
top_spots (top.Structures binds at) = map (λ bind. spot space.Structure bind.name) binds
top_spots (top.Signatures binds at) = map (λ bind. spot space.Signature bind.name) binds
top_spots (top.Functors binds at) = map (λ bind. spot space.Functor bind.name) binds
top_spots (top.Funsigs binds at) = map (λ bind. spot space.Funsig bind.name) binds

-- ---- each name once

-- whether a place has this name
abbrev pub has_name : ModName → Spot → Bool
has_name name spot = same_name spot.name name

-- the places that have another name
abbrev pub others : ModName → List Spot → List Spot
others name spots = filter (λ spot. not (has_name name spot)) spots

-- each name at the first of its places in a list
abbrev pub firsts : List Spot → List Spot
firsts [] = []
firsts (first ∷ spots) = first ∷ others first.name (firsts spots)

-- ---- the order of places

-- the order of places: by line, then by byte in it, then by the number in the tree's order
abbrev pub position_cmp : Position → Position → Ordering
position_cmp a b = ordering_then (nat_cmp a.line b.line) (ordering_then (nat_cmp a.col b.col) (nat_cmp a.number b.number))

-- a table of uses by their places, with more uses, which are numbered on
abbrev pub placed : FinMap position_cmp Need → ℕ → List Need → FinMap position_cmp Need
placed table number [] = table
placed table number (need ∷ needs) =
    placed (insert table (record { line = need.spot.line; col = need.spot.col; number = number }) need) (suc number) needs

-- uses in the order of their places
abbrev pub in_order : List Need → List Need
in_order needs = values (placed empty 0 needs)

-- ---- the whole

-- whether a use of a name is sure
abbrev pub is_sure_use : ModName → Need → Bool
is_sure_use name need = need.sure && has_name name need.spot

-- a name that is used: it is sure where one of its uses is
abbrev pub need_of : List Need → Spot → Need
need_of uses spot = record { spot = spot; sure = list_any (is_sure_use spot.name) uses }

-- the free names of these uses, in the order of their first places
abbrev pub free_of : List Need → List Need
free_of uses = map (need_of uses) (firsts (map (λ need. need.spot) (in_order uses)))

-- the uses of a unit
abbrev pub unit_uses : List TopDec → List Need
unit_uses topdecs = sequence_uses (map top_brings topdecs) no_scope

-- the skeleton of a unit
abbrev pub skeleton_of : BareUnit → Skeleton
skeleton_of unit = record {
  defined = firsts (flat_map top_spots unit.topdecs);
  free = free_of (unit_uses unit.topdecs);
}
