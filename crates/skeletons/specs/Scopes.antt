-- What is in scope where a phrase stands, and what a use of a module name sees there: the nearest binding, or an
-- `open` or an `include` that may bring one. (The Definition of Standard ML (Revised), sections 3.6 and 4.3.)
use Rattle.std.specs.Prelude.{ℕ, Bool, true, false, not, ◌||◌, List, [], ◌∷◌, ◌++◌, Option, Some, None, map, if◌then◌else◌}
use Rattle.std.specs.List.{list_any, flat_map}
use Rattle.cm_base.specs.declared.record.Namespace.{Namespace}
use Rattle.cm_base.specs.declared.record.Namespace.TheVariants as space
use Rattle.cm_base.specs.declared.record.ModName.{ModName}
use Rattle.cm_base.specs.declared.record.Need.{Need}
use Rattle.cm_base.specs.contracts.record.ModNamePartialEq.TheImpl as equality
use Rattle.sml_trees.specs.declared.name.Name.{Name}
use Rattle.sml_trees.specs.declared.name.LongName.{LongName}

-- two module names of one name space and one text
abbrev pub same_name : ModName → ModName → Bool
same_name a b = (equality.ghosts).eq a b

-- what is in scope at a phrase: the names that are bound, in the order of their bindings, where a name that a
-- `local` hides again is None; and whether the phrase stands in the scope of an `open` or an `include`
pub record Scope : Type 0 where
  pub bound : List (Option ModName)
  pub opened : Bool

-- at the beginning of a unit nothing is in scope
abbrev pub no_scope : Scope
no_scope = record { bound = []; opened = false }

-- whether this is a binding of a name
abbrev pub binds_it : ModName → Option ModName → Bool
binds_it name None = false
binds_it name (Some other) = same_name other name

-- whether a name is bound in a scope
abbrev pub is_bound : List (Option ModName) → ModName → Bool
is_bound bound name = list_any (binds_it name) bound

-- what is opened or included before may hold a structure of that name; it holds no signature and no functor
abbrev pub is_sure : Namespace → Bool → Bool
is_sure space.Structure opened = not opened
is_sure space.Signature opened = true
is_sure space.Functor opened = true
is_sure space.Funsig opened = true

-- the module names that a phrase uses and that its scope doesn't bind, in the order of the phrase
abbrev pub Uses : Type 0
Uses = Scope → List Need

abbrev pub no_use : Uses
no_use s = []

-- a name at a place
abbrev pub need : Namespace → List ℕ → ℕ → ℕ → Bool → Need
need in_space text line col sure = record {
  spot = record { name = record { space = in_space; name = text }; line = line; col = col };
  sure = sure;
}

-- the use of a name is free where no binding of it is in scope
abbrev pub use_of : Namespace → List ℕ → ℕ → ℕ → Uses
use_of in_space text line col s =
    if is_bound s.bound (record { space = in_space; name = text })
    then []
    else need in_space text line col (is_sure in_space s.opened) ∷ []

-- the use of a name of one part
abbrev pub name_use : Namespace → Name → Uses
name_use in_space name = use_of in_space name.text name.line name.col

abbrev pub first_part : List (List ℕ) → ℕ → ℕ → Uses
first_part [] line col = no_use
first_part (part ∷ parts) line col = use_of space.Structure part line col

-- a long identifier of a structure uses its first name
abbrev pub structure_use : LongName → Uses
structure_use long = first_part long.parts long.line long.col

abbrev pub qualifier : List (List ℕ) → ℕ → ℕ → Uses
qualifier [] line col = no_use
qualifier (last ∷ []) line col = no_use
qualifier (part ∷ next ∷ parts) line col = use_of space.Structure part line col

-- any other long identifier uses its first name where that is a structure's
abbrev pub qualifier_use : LongName → Uses
qualifier_use long = qualifier long.parts long.line long.col

-- the uses of a phrase and then of another one in the same scope
abbrev pub both : Uses → Uses → Uses
both first next s = first s ++ next s

-- the uses of several phrases in one scope
abbrev pub all_uses : List Uses → Uses
all_uses phrases s = flat_map (λ uses. uses s) phrases

-- ---- declarations and specifications

-- what a declaration uses, what it binds for what stands after it, and whether it opens anything there
pub record Brings : Type 0 where
  pub uses : Uses
  pub binds : List (Option ModName)
  pub opens : Bool

-- the scope after a declaration
abbrev pub after : Scope → Brings → Scope
after s dec = record { bound = s.bound ++ dec.binds; opened = dec.opens || s.opened }

-- a declaration that binds no module
abbrev pub plain : Uses → Brings
plain uses = record { uses = uses; binds = []; opens = false }

-- an `open` or an `include`: what it brings is in scope after it, and not in itself
abbrev pub opening : Uses → Brings
opening uses = record { uses = uses; binds = []; opens = true }

-- a phrase in the scope of a declaration
abbrev pub within : Brings → Uses → Uses
within dec phrase s = dec.uses s ++ phrase (after s dec)

-- bindings that are hidden again
abbrev pub hidden : List (Option ModName) → List (Option ModName)
hidden names = map (λ _. None) names

-- `local first in dec end`: what `first` brings is in scope in `dec` alone
abbrev pub hiding : Brings → Brings → Brings
hiding first dec = record {
  uses = within first dec.uses;
  binds = hidden first.binds ++ dec.binds;
  opens = dec.opens;
}

abbrev pub sequence_uses : List Brings → Uses
sequence_uses [] s = []
sequence_uses (dec ∷ decs) s = dec.uses s ++ sequence_uses decs (after s dec)

-- declarations one after another, each in the scope of those before it
abbrev pub sequence : List Brings → Brings
sequence decs = record {
  uses = sequence_uses decs;
  binds = flat_map (λ dec. dec.binds) decs;
  opens = list_any (λ dec. dec.opens) decs;
}

-- a binding of a module: its name, and the uses of its right side
pub record Binding : Type 0 where
  pub name : ModName
  pub uses : Uses

-- bindings joined by `and`: none of them is in the scope of another
abbrev pub joined : List Binding → Brings
joined bindings = record {
  uses = λ s. flat_map (λ binding. binding.uses s) bindings;
  binds = map (λ binding. Some binding.name) bindings;
  opens = false;
}

-- the name of a module in a name space
abbrev pub module_name : Namespace → Name → ModName
module_name in_space name = record { space = in_space; name = name.text }

-- a phrase in the scope of a structure of this name
abbrev pub under : Name → Uses → Uses
under name phrase s = phrase (record { bound = s.bound ++ Some (module_name space.Structure name) ∷ []; opened = s.opened })
