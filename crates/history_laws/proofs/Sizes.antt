-- A binfile that isn't too long to be whole has a spelling: its texts and its lists are no longer than the file.
use Rattle.std.proofs.Common.{◌≡◌, ℕ, ◌≤◌, List, [], ◌∷◌, ◌++◌, length, arith}
use Rattle.std.specs.List.{AllByRecursion, flat_map}
use Rattle.std.proofs.lemmas.List.{length-append}
use Rattle.std.proofs.lemmas.List.Elements.{All-from_recursion}
use Rattle.sha2.specs.Sha256.{sha256}
use Rattle.cm_base.specs.Calls.{IsSmallSkeleton, IsSmallSpot}
use Rattle.cm_base.specs.declared.record.Import.{Import}
use Rattle.cm_base.specs.declared.record.Spot.{Spot}
use Rattle.cm_bytes.specs.Fields.{list_of, text_of}
use Rattle.cm_bytes.proofs.Fields.{length-list_of, length-text_of}
use Rattle.bin_formats.specs.declared.bin.Bin.{Bin}
use Rattle.bin_formats.specs.Format.{IsBin, IsImport, IsSpot, bin_body, binfile, import_of, name_of, need_of, options_byte, spot_of}

-- ---- the parts of a binfile

abbrev code_part : Bin → List ℕ
code_part bin = bin.interface.bytes ++ text_of bin.code

abbrev imports_part : Bin → List ℕ
imports_part bin = list_of import_of bin.imports ++ code_part bin

abbrev free_part : Bin → List ℕ
free_part bin = list_of need_of bin.skeleton.free ++ imports_part bin

abbrev defined_part : Bin → List ℕ
defined_part bin = list_of spot_of bin.skeleton.defined ++ free_part bin

abbrev source_part : Bin → List ℕ
source_part bin = text_of bin.source ++ defined_part bin

-- none is longer than the whole
record Sizes (bin : Bin) (n : ℕ) : Type 0 where
  unit : length bin.unit ≤ n
  source : length bin.source ≤ n
  imports : length (flat_map import_of bin.imports) ≤ n
  code : length bin.code ≤ n

sizes : (bin : Bin) → Sizes bin (length (binfile bin))
unfolding binfile bin_body
sizes bin =
    let whole = length-append (bin_body bin) (sha256 (bin_body bin)) in
    let unit = length-append (text_of bin.unit) (options_byte bin.options ∷ source_part bin) in
    let source = length-append (text_of bin.source) (defined_part bin) in
    let defined = length-append (list_of spot_of bin.skeleton.defined) (free_part bin) in
    let free = length-append (list_of need_of bin.skeleton.free) (imports_part bin) in
    let imports = length-append (list_of import_of bin.imports) (code_part bin) in
    let code = length-append bin.interface.bytes (text_of bin.code) in
    let unit_is = length-text_of bin.unit in
    let source_is = length-text_of bin.source in
    let imports_are = length-list_of import_of bin.imports in
    let code_is = length-text_of bin.code in
    record {
      unit = omega (arith, whole, unit, unit_is);
      source = omega (arith, whole, unit, source, source_is);
      imports = omega (arith, whole, unit, source, defined, free, imports, imports_are);
      code = omega (arith, whole, unit, source, defined, free, imports, code, code_is);
    }

-- ---- imports

abbrev IsShortBy : ℕ → Import → Type 0
IsShortBy n x = (length x.name.name ≤ n) × (length x.provider ≤ n)

abbrev ShortImports : List Import → ℕ → Type 0
ShortImports xs n = (length xs ≤ n) × AllByRecursion (IsShortBy n) xs

wider : (n m : ℕ) (xs : List Import) → n ≤ m → AllByRecursion (IsShortBy n) xs → AllByRecursion (IsShortBy m) xs
wider n m [] less all = tt
wider n m (x ∷ xs) less all =
    let name = all.0.0 in let provider = all.0.1 in
    ((omega (arith, less, name), omega (arith, less, provider)), wider n m xs less all.1)

imports_short : (xs : List Import) → ShortImports xs (length (flat_map import_of xs))
imports_short [] = (omega arith, tt)
imports_short (x ∷ xs) =
    let rest = imports_short xs in
    let count = rest.0 in
    let all = length-append (import_of x) (flat_map import_of xs) in
    let one = length-append (name_of x.name) (text_of x.provider ++ x.hash.bytes) in
    let two = length-append (text_of x.provider) x.hash.bytes in
    let name_is = length-text_of x.name.name in
    let provider_is = length-text_of x.provider in
    let less : length (flat_map import_of xs) ≤ length (flat_map import_of (x ∷ xs)) = omega (arith, all) in (
      omega (arith, count, all, one),
      (
        (omega (arith, all, one, name_is), omega (arith, all, one, two, provider_is)),
        wider (length (flat_map import_of xs)) (length (flat_map import_of (x ∷ xs))) xs less rest.1,
      ),
    )

imports_fit : (xs : List Import) (n : ℕ) → n ≤ 16777216 → AllByRecursion (IsShortBy n) xs
    → AllByRecursion (λ (x : Import). length x.hash.bytes ≡ 32) xs → AllByRecursion IsImport xs
imports_fit [] n small all hashes = tt
imports_fit (x ∷ xs) n small all hashes =
    let name = all.0.0 in let provider = all.0.1 in (
      record { name = omega (arith, small, name); provider = omega (arith, small, provider); hash = hashes.0 },
      imports_fit xs n small all.1 hashes.1,
    )

-- ---- skeletons

spot_fits : (s : Spot) → IsSmallSpot s → IsSpot s
spot_fits s small =
    let name = small.name in record { name = omega (arith, name); line = small.line; col = small.col }

-- ---- the whole

pub fits_by_size : (bin : Bin) → length (binfile bin) ≤ 16777216 → IsSmallSkeleton bin.skeleton
    → AllByRecursion (λ (x : Import). length x.hash.bytes ≡ 32) bin.imports → length bin.interface.bytes ≡ 32
    → IsBin bin
fits_by_size bin small skeleton hashes hash =
    let size = sizes bin in
    let unit = size.unit in
    let source = size.source in
    let code = size.code in
    let within = size.imports in
    let short = imports_short bin.imports in
    let count = short.0 in
    let defined = skeleton.defined in
    let free = skeleton.free in
    record {
      unit = omega (arith, small, unit);
      source = omega (arith, small, source);
      defined = omega (arith, defined);
      defined_spots = λ k d lt. spot_fits _ (skeleton.defined_spots k d lt);
      free = omega (arith, free);
      free_spots = λ k d lt. spot_fits _ (skeleton.free_spots k d lt);
      imports = omega (arith, small, within, count);
      each_import = All-from_recursion IsImport bin.imports
          (imports_fit bin.imports (length (flat_map import_of bin.imports)) (omega (arith, small, within)) short.1
          hashes);
      interface = hash;
      code = omega (arith, small, code);
    }
