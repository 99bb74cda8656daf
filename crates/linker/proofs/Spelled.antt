-- A linked program is read again from its bytes, whatever follows, so no file is a front of another; and the
-- linked program of short units can be spelled.
use Rattle.std.proofs.Common.{◌≡◌, ℕ, ◌+◌, ◌^◌, ◌<◌, List, [], ◌∷◌, ◌++◌, length, map, All, Option, Some, None, Bool, true, false, cond, arith, nat_eq}
use Rattle.std.specs.Option.{option_or, unwrap_or}
use lib.Pointwise.{pointwise}
use Rattle.std.proofs.lemmas.List.{length-map}
use Rattle.std.proofs.lemmas.List.Elements.{All-nil, All-cons, All-head, All-tail}
use Rattle.cm_base.specs.declared.record.Import.{Import}
use Rattle.cm_base.specs.declared.record.BuiltUnit.{BuiltUnit}
use Rattle.cm_bytes.specs.Fields.{IsReadAgain}
use Rattle.cm_bytes.proofs.Fields as fields
use Rattle.linker.specs.declared.program.LinkedImport.{LinkedImport}
use Rattle.linker.specs.declared.program.LinkedUnit.{LinkedUnit}
use Rattle.linker.specs.declared.program.Linked.{Linked}
use Rattle.linker.specs.Linked.{link_of, place_from, import_at, with_places, IsShortBuilt}
use Rattle.linker.specs.Reading.{linked_at}
use Rattle.linker.proofs.Exact.{FitsImport, FitsLinkedUnit, linked_exact}
use Rattle.linker.specs.Spelling.{linked_file, IsShortImport, IsShortUnit, HasSmallPlaces, CanBeSpelled}

-- ---- what can be spelled fits

-- short imports with small places fit
pub imports_fit : (imports : List LinkedImport) → All IsShortImport imports → All (λ i. i.from < 2 ^ 32) imports
    → All FitsImport imports
imports_fit [] short small = All-nil FitsImport
imports_fit (i ∷ is) short small =
    All-cons FitsImport i is
    (tt, ((All-head IsShortImport i is short).name, All-head (λ (j : LinkedImport). j.from < 2 ^ 32) i is small))
    (imports_fit is (All-tail IsShortImport i is short) (All-tail (λ (j : LinkedImport). j.from < 2 ^ 32) i is small))

-- short units with small places fit
units_fit : (units : List LinkedUnit) → All IsShortUnit units → All HasSmallPlaces units → All FitsLinkedUnit units
units_fit [] short small = All-nil FitsLinkedUnit
units_fit (u ∷ us) short small =
    let h = All-head IsShortUnit u us short in
    let k = All-head HasSmallPlaces u us small in
    All-cons FitsLinkedUnit u us (h.name, ((h.imports, imports_fit u.imports h.each k.each), h.code))
    (units_fit us (All-tail IsShortUnit u us short) (All-tail HasSmallPlaces u us small))

-- a linked program is read again
pub linked_again : (l : Linked) → CanBeSpelled l → IsReadAgain linked_file linked_at l
linked_again l can = linked_exact.again l (can.short.units, units_fit l.units can.short.each can.places)

-- no file of a linked program is a front of another, and no two programs have one file
pub no_front : (a b : Linked) (more : List ℕ) → CanBeSpelled a → CanBeSpelled b
    → linked_file a ++ more ≡ linked_file b → (a ≡ b) × (more ≡ [])
no_front a b more f g e = fields.no_front linked_file linked_at a b more (linked_again a f) (linked_again b g) e

-- ---- linked programs of short units

-- the first place that there is, or 0, is below an end that both are below
or_below : (o p : Option ℕ) (end : ℕ) → unwrap_or o 0 < end → unwrap_or p 0 < end → unwrap_or (option_or o p) 0 < end
or_below (Some n) p end h k = h
or_below None p end h k = k

-- a place that there may be, or 0, is below its end
this_below : (found : Bool) (first end : ℕ) → first < end → unwrap_or (cond found (Some first) None) 0 < end
this_below true first end h = h
this_below false first end h = omega (arith, h)

-- the place of a unit is below the end of its list
place_below : (first : ℕ) (units : List BuiltUnit) (name : List ℕ) (end : ℕ) → first + length units < end
    → unwrap_or (place_from first units name) 0 < end
place_below first [] name end h = omega (arith, h)
place_below first (u ∷ us) name end h =
    or_below (place_from (first + 1) us name) (cond (pointwise nat_eq u.unit name) (Some first) None) end
    (place_below (first + 1) us name end (omega (arith, h)))
    (this_below (pointwise nat_eq u.unit name) first end (omega (arith, h)))

-- short imports, linked
imports_short : (place : List ℕ → Option ℕ) (imports : List Import)
    → All (λ import. length import.name.name < 2 ^ 32) imports → All IsShortImport (map (import_at place) imports)
imports_short place [] h = All-nil IsShortImport
imports_short place (i ∷ is) h =
    All-cons IsShortImport (import_at place i) (map (import_at place) is)
    (record { name = All-head (λ (j : Import). length j.name.name < 2 ^ 32) i is h })
    (imports_short place is (All-tail (λ (j : Import). length j.name.name < 2 ^ 32) i is h))

-- imports have small places where all places are small
imports_small : (place : List ℕ → Option ℕ) (imports : List Import) → ((q : List ℕ) → unwrap_or (place q) 0 < 2 ^ 32)
    → All (λ i. i.from < 2 ^ 32) (map (import_at place) imports)
imports_small place [] h = All-nil (λ (j : LinkedImport). j.from < 2 ^ 32)
imports_small place (i ∷ is) h =
    All-cons (λ (j : LinkedImport). j.from < 2 ^ 32) (import_at place i) (map (import_at place) is)
    (h i.provider) (imports_small place is h)

-- a short unit, linked
unit_short : (place : List ℕ → Option ℕ) (u : BuiltUnit) → IsShortBuilt u → IsShortUnit (with_places place u)
unit_short place u h = record {
  name = h.name;
  imports = omega (arith, h.imports, length-map u.imports (import_at place));
  code = h.code;
  each = imports_short place u.imports h.each;
}

-- short units, linked
units_short : (place : List ℕ → Option ℕ) (units : List BuiltUnit) → All IsShortBuilt units
    → All IsShortUnit (map (with_places place) units)
units_short place [] h = All-nil IsShortUnit
units_short place (u ∷ us) h =
    All-cons IsShortUnit (with_places place u) (map (with_places place) us)
    (unit_short place u (All-head IsShortBuilt u us h))
    (units_short place us (All-tail IsShortBuilt u us h))

-- units have small places where all places are small
units_small : (place : List ℕ → Option ℕ) (units : List BuiltUnit) → ((q : List ℕ) → unwrap_or (place q) 0 < 2 ^ 32)
    → All HasSmallPlaces (map (with_places place) units)
units_small place [] h = All-nil HasSmallPlaces
units_small place (u ∷ us) h =
    All-cons HasSmallPlaces (with_places place u) (map (with_places place) us)
    (record { each = imports_small place u.imports h }) (units_small place us h)

-- the linked program of short units can be spelled
pub links_spelled : (units : List BuiltUnit) → length units < 2 ^ 32 → All IsShortBuilt units
    → CanBeSpelled (link_of units)
unfolding link_of
links_spelled units lt h = record {
  short = record {
    units = omega (arith, lt, length-map units (with_places (place_from 0 units)));
    each = units_short (place_from 0 units) units h;
  };
  places = units_small (place_from 0 units) units (λ q. place_below 0 units q (2 ^ 32) (omega (arith, lt)));
}
