-- A unit that the compiler made is put in a good store, however long its binfile is: one that is too long is none.
use Rattle.std.proofs.Common.{◌≡◌, ◌≢◌, ◌∙◌, sym, ap, subst, refl, ℕ, ◌<◌, Bool, true, false, List, [], ◌∷◌, Some, length, arith}
use Rattle.std.specs.Prelude.{Ok, nat_lt}
use Rattle.std.specs.List.{AllByRecursion}
use Rattle.std.specs.Ordering.{nat_cmp, eq_by_cmp}
use Rattle.std.specs.Cmp.Lexicographic.{slice_cmp}
use Rattle.std.specs.FinMap.{get, insert}
use Rattle.std.proofs.lemmas.Bool.{ltb-false, ltb-true}
use Rattle.cm_base.specs.Calls.{IsSmallSkeleton}
use Rattle.cm_base.specs.Definitions.{Definitions}
use Rattle.cm_base.specs.Files.{Files}
use Rattle.cm_base.specs.declared.record.Compiled.{Compiled}
use Rattle.cm_base.specs.declared.record.Given.{Given}
use Rattle.cm_base.specs.declared.record.Import.{Import}
use Rattle.cm_base.specs.declared.record.Pid.{Pid}
use Rattle.cm_base.specs.declared.record.PlannedUnit.{PlannedUnit}
use Rattle.cm_base.proofs.FileLemmas.{get-insert_other, get-insert_same, path_ties, same_path}
use Rattle.cm_bytes.specs.Hashes.{HashesApart, hash_of}
use Rattle.cm_bytes.proofs.Hashes.{length-hash_of}
use Rattle.bin_formats.specs.declared.bin.Bin.{Bin}
use Rattle.bin_formats.specs.Format.{binfile}
use Rattle.bin_store.specs.GoodStore.{IsGoodBin, IsGoodStore, IsKnown}
use Rattle.bin_store.specs.Paths.{bin_path, interface_path}
use Rattle.bin_store.specs.Stored.{with_interface}
use Rattle.bin_store.specs.Whole.{IsWholeBin}
use Rattle.bin_store.proofs.GoodAfter.{good_is_told, store_after_put_interface, store_is_good}
use Rattle.bin_store.proofs.PathLaws.{bin_is_no_interface, bin_is_no_tool}
use Rattle.build_laws.specs.Inputs.{imports_in}
use Rattle.build_laws.specs.Storing.{bin_of_unit, put_unit, with_unit}
use Rattle.build_laws.proofs.Made.{IsMade, good_put, made_unit, put_is_with}
use Rattle.build_laws.proofs.Putting.{puts_interface}
use Rattle.history_laws.proofs.Sizes.{fits_by_size}

-- ---- a file that is too long to be whole

module _ {by : Definitions} {texts : List (List ℕ)} (files : Files) (unit bytes : List ℕ)
    (long : 16777216 < length bytes) (good : IsGoodStore by texts files) where
  abbrev new : Files
  new = insert files (bin_path unit) bytes

  stays : (bin : Bin) → IsGoodBin by texts files bin → IsGoodBin by texts new bin
  stays bin is = record {
    input = is.input;
    skeleton = is.skeleton;
    made = is.made;
    skeleton_is = is.skeleton_is;
    made_is = is.made_is;
    bin_is = is.bin_is;
    givens = is.givens;
    known = is.known;
    small = is.small;
    stands = get-insert_other files (bin_path unit) bytes (interface_path bin.interface)
        (λ same. bin_is_no_interface unit bin.interface (sym same)) ∙ is.stands;
  }

  -- what is there at another path was there before
  before : (path there : List ℕ) → path ≢ bin_path unit → get new path ≡ Some there → get files path ≡ Some there
  before path there apart is = sym (get-insert_other files (bin_path unit) bytes path apart) ∙ is

  too_long : (path there : List ℕ) (bin : Bin) → path ≡ bin_path unit → get new path ≡ Some there
      → IsWholeBin path there bin → ⊥
  too_long path there bin at is whole =
      let found : Some bytes ≡ Some there =
      sym (get-insert_same files (bin_path unit) bytes) ∙ ap (get new) (sym at) ∙ is in
      let same : bytes ≡ there = cc in
      let size = ap length same in
      let small = whole.small in
      omega (arith, long, size, small)

  bins : (path there : List ℕ) (bin : Bin) (here : Bool) → eq_by_cmp (slice_cmp nat_cmp) path (bin_path unit) ≡ here
      → get new path ≡ Some there → IsWholeBin path there bin → IsGoodBin by texts new bin
  bins path there bin true tied is whole =
      absurd (too_long path there bin (same_path path (bin_path unit) tied) is whole)
  bins path there bin false tied is whole =
      stays bin (good.bins path there bin (before path there (λ same.
      cc (tied, ap (λ q. eq_by_cmp (slice_cmp nat_cmp) q (bin_path unit)) same, path_ties (bin_path unit))) is) whole)

  good_long : IsGoodStore by texts new
  good_long = record {
    bins = λ path there bin is whole.
        bins path there bin (eq_by_cmp (slice_cmp nat_cmp) path (bin_path unit)) refl is whole;
    interfaces = λ path there text is whole.
        good.interfaces path there text
        (before path there (λ same. bin_is_no_interface unit (hash_of text) (sym same ∙ whole.place)) is) whole;
    records = λ path there run is whole.
        good.records path there run
        (before path there (λ same. bin_is_no_tool unit run.unit (sym same ∙ whole.place)) is) whole;
  }

-- ---- a unit

hashes_long : (texts : List (List ℕ)) (givens : List Given) → AllByRecursion (IsKnown texts) givens
    → AllByRecursion (λ (x : Import). length x.hash.bytes ≡ 32) (imports_in givens)
hashes_long texts [] known = tt
hashes_long texts (g ∷ gs) known = (
  ap (λ (h : Pid). length h.bytes) known.0.hash ∙ length-hash_of g.interface,
  hashes_long texts gs known.1,
)

module _ (by : Definitions) (texts : List (List ℕ)) (apart : HashesApart texts) (p : PlannedUnit)
    (skeleton : by.skel p.unit p.source ≡ Ok p.skeleton) (small : IsSmallSkeleton p.skeleton) (givens : List Given)
    (made : Compiled) (is : IsMade by.compiled texts p givens made) where
  abbrev bin : Bin
  bin = bin_of_unit p (made_unit p givens made)

  with_text : (files : Files) → IsGoodStore by texts files → IsGoodStore by texts (with_interface files made.interface)
  with_text files good =
      let size = is.small in
      good_is_told (store_after_put_interface by texts (Some files) (Some (with_interface files made.interface))
      made.interface (omega (arith, size)) is.known apart (puts_interface files made.interface)
      (store_is_good refl good))
      (with_interface files made.interface) refl

  by_size : (files : Files) (large : Bool) → nat_lt 16777216 (length (binfile bin)) ≡ large → IsGoodStore by texts files
      → IsGoodStore by texts (put_unit files p (made_unit p givens made))
  unfolding put_unit
  by_size files true size good =
      good_long (with_interface files made.interface) p.unit (binfile bin)
      (ltb-true 16777216 (length (binfile bin)) size) (with_text files good)
  by_size files false size good =
      good_put by texts apart p skeleton givens made is files
      (fits_by_size bin (ltb-false 16777216 (length (binfile bin)) size) small (hashes_long texts givens is.givens_are)
      (length-hash_of made.interface)) good

  -- the store with the unit is good
  pub good_with : (files : Files) → IsGoodStore by texts files
      → IsGoodStore by texts (with_unit files p (made_unit p givens made))
  good_with files good =
      subst (IsGoodStore by texts) (put_is_with by texts apart p skeleton givens made is files good)
      (by_size files (nat_lt 16777216 (length (binfile bin))) refl good)
