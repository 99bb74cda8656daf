-- A unit that the compiler makes of known interfaces: it can be stored, and a good store stays good.
use Rattle.std.proofs.Common.{◌≡◌, ◌∙◌, sym, ap, refl, inl, inr, ℕ, ◌+◌, ◌<◌, ◌≤◌, ◌^◌, Bool, true, false, cond, ◌||◌, List, [], ◌∷◌, Option, Some, None, length, arith}
use Rattle.std.specs.Prelude.{Result, Ok, Contains, nat_lt, nat_eq}
use Rattle.std.specs.List.{AllByRecursion}
use Rattle.std.specs.Option.{option_or}
use Rattle.std.specs.FinMap.{get, insert}
use Rattle.std.proofs.lemmas.List.Elements.{All-from_recursion, recursion_from_All}
use Rattle.std.proofs.lemmas.Bool.{ltb-false}
use lib.Pointwise.{pointwise}
use Rattle.cm_base.specs.Files.{Files}
use Rattle.cm_base.specs.Definitions.{Definitions}
use Rattle.cm_base.specs.declared.diag.Diag.{Diag}
use Rattle.cm_base.specs.declared.record.BuiltUnit.{BuiltUnit}
use Rattle.cm_base.specs.declared.record.CompileInput.{CompileInput}
use Rattle.cm_base.specs.declared.record.Compiled.{Compiled}
use Rattle.cm_base.specs.declared.record.Given.{Given}
use Rattle.cm_base.specs.declared.record.Pid.{Pid}
use Rattle.cm_base.specs.declared.record.PlannedUnit.{PlannedUnit}
use Rattle.cm_base.specs.declared.record.WantedName.{WantedName}
use Rattle.cm_bytes.specs.Hashes.{hash_of, HashesApart}
use Rattle.cm_bytes.proofs.Hashes.{length-hash_of}
use Rattle.bin_formats.specs.Format.{binfile, interface_file, IsBin, IsSpot, IsImport, IsShortImport}
use Rattle.bin_store.specs.GoodStore.{IsKnown, IsGoodBin, IsGoodStore, StoreIsGood}
use Rattle.bin_store.specs.Paths.{bin_path, interface_path}
use Rattle.bin_store.specs.Stored.{with_interface}
use Rattle.bin_store.proofs.GoodAfter.{store_same, store_is_good, good_is_told, store_after_put_interface, store_after_put_bin, interface_is_there, interface_stands}
use Rattle.build_laws.specs.declared.limits.TheConstants.{INTERFACE, CODE, ALL_INTERFACES}
use Rattle.build_laws.specs.Inputs.{done_unit, with_given, givens_of, imports_in, input_of, is_too_large, built_unit}
use Rattle.build_laws.specs.Storing.{bin_of_unit, put_unit, with_unit, StoresUnit, IsShortWanted, IsSmallPlanned, IsStorable}
use Rattle.build_laws.proofs.Putting.{insert_same, put_then_set, stores_put}

-- ---- what a unit is given

-- a unit that is done has a known interface, and its hash
abbrev pub IsKnownUnit : List (List ℕ) → BuiltUnit → Type 0
IsKnownUnit texts u = Contains texts u.interface × (u.hash ≡ hash_of u.interface)

-- .. where there is one
abbrev IfKnown : List (List ℕ) → Option BuiltUnit → Type 0
IfKnown texts None = Unit {0}
IfKnown texts (Some u) = IsKnownUnit texts u

or_known : (texts : List (List ℕ)) (later : Option BuiltUnit) (b : BuiltUnit) (here : Bool) → IfKnown texts later
    → IsKnownUnit texts b → IfKnown texts (option_or later (cond here (Some b) None))
or_known texts (Some v) b here more known = more
or_known texts None b true more known = known
or_known texts None b false more known = tt

done_known : (texts : List (List ℕ)) (before : List BuiltUnit) (name : List ℕ) → AllByRecursion (IsKnownUnit texts) before
    → IfKnown texts (done_unit before name)
done_known texts [] name all = tt
done_known texts (b ∷ before) name all =
    or_known texts (done_unit before name) b (pointwise nat_eq b.unit name) (done_known texts before name all.1) all.0

add_known : (texts : List (List ℕ)) (w : WantedName) (found : Option BuiltUnit) (rest : List Given) → IfKnown texts found
    → AllByRecursion (IsKnown texts) rest → AllByRecursion (IsKnown texts) (with_given w found rest)
add_known texts w None rest one all = all
add_known texts w (Some u) rest one all = (record { known = one.0; hash = one.1 }, all)

-- so what a unit is given is known
pub givens_known : (texts : List (List ℕ)) (before : List BuiltUnit) (wanted : List WantedName)
    → AllByRecursion (IsKnownUnit texts) before → AllByRecursion (IsKnown texts) (givens_of before wanted)
givens_known texts before [] all = tt
givens_known texts before (w ∷ more) all =
    add_known texts w (done_unit before w.provider) (givens_of before more) (done_known texts before w.provider all)
    (givens_known texts before more all)

-- the imports of what is given are short, and no more than the names that are wanted
pub record ShortGivens (givens : List Given) (wanted : List WantedName) : Type 0 where
  pub each : AllByRecursion IsShortImport (imports_in givens)
  pub count : length (imports_in givens) ≤ length wanted

add_short : (w : WantedName) (found : Option BuiltUnit) (rest : List Given) (more : List WantedName) → IsShortWanted w
    → ShortGivens rest more → ShortGivens (with_given w found rest) (w ∷ more)
add_short w None rest more short others = let count = others.count in record { each = others.each; count = omega arith }
add_short w (Some u) rest more short others =
    let count = others.count in
    record { each = (record { name = short.name; provider = short.provider }, others.each); count = omega arith }

pub short_givens : (before : List BuiltUnit) (wanted : List WantedName) → AllByRecursion IsShortWanted wanted
    → ShortGivens (givens_of before wanted) wanted
short_givens before [] short = record { each = tt; count = omega arith }
short_givens before (w ∷ more) short =
    add_short w (done_unit before w.provider) (givens_of before more) more short.0 (short_givens before more short.1)

-- ---- a unit that the compiler makes

-- the unit that a planned one is, with what it is given and what the compiler makes of it
abbrev pub made_unit : PlannedUnit → List Given → Compiled → BuiltUnit
made_unit p givens made = built_unit (input_of p givens) made

-- it is made of interfaces among these, its own is among them, and passes no limit
pub record IsMade (compiled : CompileInput → Result Compiled Diag) (texts : List (List ℕ)) (p : PlannedUnit)
    (givens : List Given) (made : Compiled) : Type 0 where
  pub made_is : compiled (input_of p givens) ≡ Ok made
  pub givens_are : AllByRecursion (IsKnown texts) givens
  pub known : Contains texts made.interface
  pub small : length made.interface ≤ 1048576

or_false : (a b : Bool) → (a || b) ≡ false → (a ≡ false) × (b ≡ false)
or_false true b h = cc
or_false false b h = (refl, h)

-- what passes no limit is small
pub record IsWithin (made : Compiled) : Type 0 where
  pub interface : length made.interface ≤ 1048576
  pub code : length made.code ≤ 8388608

pub within : (n : ℕ) (made : Compiled) → is_too_large n made ≡ false → IsWithin made
within n made h =
    let one = or_false (nat_lt INTERFACE (length made.interface))
    (nat_lt CODE (length made.code) || nat_lt ALL_INTERFACES (n + length made.interface)) h in
    let two = or_false (nat_lt CODE (length made.code)) (nat_lt ALL_INTERFACES (n + length made.interface)) one.1 in
    record {
      interface = ltb-false INTERFACE (length made.interface) one.0;
      code = ltb-false CODE (length made.code) two.0;
    }

-- so it can be stored
pub storable : (n : ℕ) (p : PlannedUnit) (givens : List Given) (made : Compiled) → IsSmallPlanned p
    → ShortGivens givens p.wanted → is_too_large n made ≡ false → IsStorable p (made_unit p givens made)
storable n p givens made small short fits =
    let limits = within n made fits in
    let interface = limits.interface in
    let code = limits.code in
    let counted = short.count in
    let wanted = small.wanted in
    record {
      hash = refl;
      short = record {
        unit = small.unit;
        source = small.source;
        defined = small.defined;
        each_defined = All-from_recursion _ p.skeleton.defined (spots (λ s. s) p.skeleton.defined
            (recursion_from_All IsSpot p.skeleton.defined small.each_defined));
        free = small.free;
        each_free = All-from_recursion _ p.skeleton.free (spots (λ need. need.spot) p.skeleton.free
            (recursion_from_All (λ need. IsSpot need.spot) p.skeleton.free small.each_free));
        imports = omega arith;
        each_import = All-from_recursion IsShortImport (imports_in givens) short.each;
        code = omega arith;
      };
      interface = omega arith;
    }
  where
    spots : {A : Type 0} (f : A → _) (xs : List A) → AllByRecursion (λ x. IsSpot (f x)) xs
        → AllByRecursion (λ x. length (f x).name.name < 2 ^ 32) xs
    spots f [] all = tt
    spots f (x ∷ xs) all = (all.0.name, spots f xs all.1)

hash_is_long : (h : Pid) (text : List ℕ) → h ≡ hash_of text → length h.bytes ≡ 32
hash_is_long h text is = ap (λ (x : Pid). length x.bytes) is ∙ length-hash_of text

imports_fit : (texts : List (List ℕ)) (givens : List Given) → AllByRecursion (IsKnown texts) givens
    → AllByRecursion IsShortImport (imports_in givens) → AllByRecursion IsImport (imports_in givens)
imports_fit texts [] known short = tt
imports_fit texts (g ∷ gs) known short = (
  record { name = short.0.name; provider = short.0.provider; hash = hash_is_long g.import.hash g.interface known.0.hash },
  imports_fit texts gs known.1 short.1,
)

-- .. and its binfile has a spelling
pub spelled : (texts : List (List ℕ)) (n : ℕ) (p : PlannedUnit) (givens : List Given) (made : Compiled) → IsSmallPlanned p
    → ShortGivens givens p.wanted → AllByRecursion (IsKnown texts) givens → is_too_large n made ≡ false
    → IsBin (bin_of_unit p (made_unit p givens made))
spelled texts n p givens made small short known fits =
    let can = storable n p givens made small short fits in
    record {
      unit = can.short.unit;
      source = can.short.source;
      defined = can.short.defined;
      defined_spots = small.each_defined;
      free = can.short.free;
      free_spots = small.each_free;
      imports = can.short.imports;
      each_import = All-from_recursion IsImport (imports_in givens) (imports_fit texts givens known short.each);
      interface = length-hash_of made.interface;
      code = can.short.code;
    }

-- ---- a good store stays good

module _ (by : Definitions) (texts : List (List ℕ)) (apart : HashesApart texts) (p : PlannedUnit)
    (skeleton : by.skel p.unit p.source ≡ Ok p.skeleton) (givens : List Given) (made : Compiled)
    (is : IsMade by.compiled texts p givens made) where
  good_bin : (files : Files) → get files (interface_path (hash_of made.interface)) ≡ Some (interface_file made.interface)
      → IsGoodBin by texts files (bin_of_unit p (made_unit p givens made))
  good_bin files stands = record {
    input = input_of p givens;
    skeleton = p.skeleton;
    made = made;
    skeleton_is = skeleton;
    made_is = is.made_is;
    bin_is = refl;
    givens = All-from_recursion (IsKnown texts) givens is.givens_are;
    known = is.known;
    small = is.small;
    stands = stands;
  }

  -- however far the storing of a unit came
  pub good_stored : {old new : Option Files} → StoresUnit old new p (made_unit p givens made) → StoreIsGood by texts old
      → StoreIsGood by texts new
  good_stored {old} {new} stored good =
      let small = is.small in
      let between : StoreIsGood by texts stored.between = store_after_put_interface by texts old stored.between
      made.interface (omega arith) is.known apart stored.interface good in
      elim stored.bin [
        | inl same ↦ store_same same between
        | inr put ↦ store_after_put_bin by texts stored.between new (bin_of_unit p (made_unit p givens made))
            (λ files told. good_bin files (interface_is_there by texts old stored.between made.interface is.known apart put.0 good files told))
            put.1 between
      ]

  -- a unit that is put has the files that the plain build gives
  pub put_is_with : (files : Files) → IsGoodStore by texts files
      → put_unit files p (made_unit p givens made) ≡ with_unit files p (made_unit p givens made)
  unfolding put_unit with_unit
  put_is_with files good =
      ap (λ (f : Files). insert f (bin_path p.unit) (binfile (bin_of_unit p (made_unit p givens made))))
      (sym (insert_same (with_interface files made.interface) (interface_path (hash_of made.interface)) (interface_file made.interface)
      (interface_stands files made.interface is.known apart good)) ∙ put_then_set files made.interface)

  pub good_put : (files : Files) → IsBin (bin_of_unit p (made_unit p givens made)) → IsGoodStore by texts files
      → IsGoodStore by texts (put_unit files p (made_unit p givens made))
  good_put files fits good = good_is_told (good_stored (stores_put files p (made_unit p givens made) fits) (store_is_good refl good))
      (put_unit files p (made_unit p givens made)) refl
