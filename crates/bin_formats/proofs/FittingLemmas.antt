-- The test of what has a spelling, and the binfile that some bytes are.
use Rattle.std.proofs.Common.{◌≡◌, ◌∙◌, ap, sym, subst, refl, ℕ, ◌<◌, ◌^◌, Bool, true, false, cond, ◌&&◌, List, [], ◌∷◌, ◌++◌, length, Option, Some, None, append-nil}
use Rattle.std.specs.Prelude.{nat_eq, All}
use Rattle.std.specs.List.{list_all, AllByRecursion}
use Rattle.std.specs.Cmp.Lexicographic.{pointwise, nat_list_eq_equiv, same_text}
use Rattle.std.proofs.lemmas.Bool.{ltb-true, lt-ltb, eqb-true, eq-eqb}
use Rattle.std.proofs.lemmas.List.Elements.{All-from_recursion, All-head, All-tail}
use Rattle.cm_base.specs.declared.record.Spot.{Spot}
use Rattle.cm_base.specs.declared.record.Need.{Need}
use Rattle.cm_base.specs.declared.record.Import.{Import}
use Rattle.bin_formats.specs.declared.bin.Bin.{Bin}
use Rattle.bin_formats.specs.Format.{binfile, IsSpot, IsImport, IsBin, IsShortBin}
use Rattle.bin_formats.specs.Reading.{bin_at, all_of}
use Rattle.bin_formats.specs.Fitting.{is_u32, fits_spot, fits_import, fits_bin, if_spelled, bin_in}
use Rattle.bin_formats.specs.Took.{ReadsBin}
use Rattle.bin_formats.proofs.Formats.{bin_again}

-- ---- two tests, and a test of each item

both : (a b : Bool) → (a && b) ≡ true → (a ≡ true) × (b ≡ true)
both true b h = (refl, h)
both false b h = absurd cc

each_so : {A : Type 0} (p : A → Bool) (P : A → Type 0) (xs : List A) → ((x : A) → p x ≡ true → P x)
    → list_all p xs ≡ true → AllByRecursion P xs
each_so p P [] so h = tt
each_so p P (x ∷ xs) so h = let two = both (p x) (list_all p xs) h in (so x two.0, each_so p P xs so two.1)

all_so : {A : Type 0} (p : A → Bool) (P : A → Type 0) (xs : List A) → ((x : A) → p x ≡ true → P x)
    → list_all p xs ≡ true → All P xs
all_so p P xs so h = All-from_recursion P xs (each_so p P xs so h)

all_pass : {A : Type 0} (p : A → Bool) (P : A → Type 0) (xs : List A) → ((x : A) → P x → p x ≡ true) → All P xs
    → list_all p xs ≡ true
all_pass p P [] so h = refl
all_pass p P (x ∷ xs) so h = rw (so x (All-head P x xs h)) (all_pass p P xs so (All-tail P x xs h))

below : (n : ℕ) → is_u32 n ≡ true → n < 2 ^ 32
below n h = ltb-true n (2 ^ 32) h

passes : (n : ℕ) → n < 2 ^ 32 → is_u32 n ≡ true
passes n h = lt-ltb n (2 ^ 32) h

-- ---- what has a spelling

spot_fits : (spot : Spot) → fits_spot spot ≡ true → IsSpot spot
spot_fits spot h =
    let a = both _ _ h in let b = both _ _ a.1 in
    record { name = below _ a.0; line = below _ b.0; col = below _ b.1 }

spot_passes : (spot : Spot) → IsSpot spot → fits_spot spot ≡ true
spot_passes spot h = rw (passes (length spot.name.name) h.name, passes spot.line h.line, passes spot.col h.col) refl

import_fits : (import : Import) → fits_import import ≡ true → IsImport import
import_fits import h =
    let a = both _ _ h in let b = both _ _ a.1 in
    record { name = below _ a.0; provider = below _ b.0; hash = eqb-true (length import.hash.bytes) 32 b.1 }

import_passes : (import : Import) → IsImport import → fits_import import ≡ true
import_passes import h =
    rw (
      passes (length import.name.name) h.name,
      passes (length import.provider) h.provider,
      eq-eqb (length import.hash.bytes) 32 h.hash,
    ) refl

-- a binfile that passes the test has a spelling
pub bin_fits : (bin : Bin) → fits_bin bin ≡ true → IsBin bin
unfolding fits_bin
bin_fits bin h =
    let a = both _ _ h in let b = both _ _ a.1 in let d = both _ _ b.1 in let e = both _ _ d.1 in
    let f = both _ _ e.1 in let g = both _ _ f.1 in let i = both _ _ g.1 in let j = both _ _ i.1 in
    let k = both _ _ j.1 in record {
      unit = below _ a.0;
      source = below _ b.0;
      defined = below _ d.0;
      defined_spots = all_so fits_spot IsSpot bin.skeleton.defined spot_fits e.0;
      free = below _ f.0;
      free_spots = all_so (λ (need : Need). fits_spot need.spot) (λ need. IsSpot need.spot) bin.skeleton.free
          (λ need is. spot_fits need.spot is) g.0;
      imports = below _ i.0;
      each_import = all_so fits_import IsImport bin.imports import_fits j.0;
      interface = eqb-true (length bin.interface.bytes) 32 k.0;
      code = below _ k.1;
    }

-- .. and one that has a spelling passes it
pub bin_passes : (bin : Bin) → IsBin bin → fits_bin bin ≡ true
unfolding fits_bin
bin_passes bin h =
    rw (
      passes (length bin.unit) h.unit,
      passes (length bin.source) h.source,
      passes (length bin.skeleton.defined) h.defined,
      all_pass fits_spot IsSpot bin.skeleton.defined spot_passes h.defined_spots,
      passes (length bin.skeleton.free) h.free,
      all_pass (λ (need : Need). fits_spot need.spot) (λ need. IsSpot need.spot) bin.skeleton.free
          (λ need is. spot_passes need.spot is) h.free_spots,
      passes (length bin.imports) h.imports,
      all_pass fits_import IsImport bin.imports import_passes h.each_import,
      eq-eqb (length bin.interface.bytes) 32 h.interface,
      passes (length bin.code) h.code,
    ) refl

-- what has a spelling has short texts and lists, as writing asks
pub bin_is_short : (bin : Bin) → IsBin bin → IsShortBin bin
bin_is_short bin h = record {
  unit = h.unit;
  source = h.source;
  defined = h.defined;
  each_defined = λ k d lt. let spot = h.defined_spots k d lt in spot.name;
  free = h.free;
  each_free = λ k d lt. let spot = h.free_spots k d lt in spot.name;
  imports = h.imports;
  each_import = λ k d lt. let import = h.each_import k d lt in record { name = import.name; provider = import.provider };
  code = h.code;
}

-- ---- the binfile that some bytes are

-- a test that chooses
chosen : (test : Bool) (x y : Bin) → cond test (Some x) None ≡ Some y → (test ≡ true) × (x ≡ y)
chosen true x y e = (refl, cc)
chosen false x y e = absurd cc

-- what is in some bytes is spelled by them
pub bin_in-is : (bytes : List ℕ) (bin : Bin) → bin_in bytes ≡ Some bin → IsBin bin × (bytes ≡ binfile bin)
unfolding bin_in
bin_in-is bytes bin e = by_read (all_of (bin_at bytes)) e
  where
    by_read : (read : Option Bin) → if_spelled bytes read ≡ Some bin → IsBin bin × (bytes ≡ binfile bin)
    by_read None e = absurd cc
    by_read (Some x) e =
        let is = chosen (fits_bin x && pointwise nat_eq bytes (binfile x)) x bin e in
        let two = both (fits_bin x) (pointwise nat_eq bytes (binfile x)) is.0 in
        subst (λ (b : Bin). IsBin b × (bytes ≡ binfile b)) is.1
        (bin_fits x two.0, same_text bytes (binfile x) (sym two.1))

-- what they spell is in them
pub bin_in-of : (bytes : List ℕ) (bin : Bin) → IsBin bin → bytes ≡ binfile bin → bin_in bytes ≡ Some bin
unfolding bin_in
bin_in-of bytes bin fits spelled =
    let read : all_of (bin_at bytes) ≡ Some bin =
    ap (λ (b : List ℕ). all_of (bin_at b)) (spelled ∙ sym (append-nil (binfile bin)))
    ∙ ap all_of ((bin_again bin fits).again []) in
    let same : pointwise nat_eq bytes (binfile bin) ≡ true =
    ap (pointwise nat_eq bytes) (sym spelled) ∙ nat_list_eq_equiv.refl bytes in
    ap (if_spelled bytes) read ∙ rw (bin_passes bin fits, same) refl

-- what code finds is that binfile
pub reads_bin_in : (bytes : List ℕ) (found : Option Bin) → ReadsBin found bytes → found ≡ bin_in bytes
reads_bin_in bytes (Some bin) reads = sym (bin_in-of bytes bin reads.0 reads.1)
reads_bin_in bytes None never = by_value (bin_in bytes) refl
  where
    by_value : (o : Option Bin) → bin_in bytes ≡ o → None ≡ o
    by_value None e = refl
    by_value (Some bin) e = let is = bin_in-is bytes bin e in absurd (never bin is.0 is.1)
