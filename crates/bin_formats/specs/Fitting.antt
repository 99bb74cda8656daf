-- The binfile that some bytes are, as a value that computes: what is read of them, where it has a spelling and they
-- are it.
use Rattle.std.specs.Prelude.{ℕ, ◌^◌, ◌&&◌, Bool, nat_lt, nat_eq, List, [], ◌∷◌, length, Option, Some, None, if◌then◌else◌}
use Rattle.std.specs.List.{list_all}
use Rattle.std.specs.Cmp.Lexicographic.{pointwise}
use Rattle.cm_base.specs.declared.record.Spot.{Spot}
use Rattle.cm_base.specs.declared.record.Need.{Need}
use Rattle.cm_base.specs.declared.record.Import.{Import}
use Rattle.bin_formats.specs.declared.bin.Bin.{Bin}
use Rattle.bin_formats.specs.Format.{binfile}
use Rattle.bin_formats.specs.Reading.{bin_at, all_of}

-- whether a number has four bytes
abbrev pub is_u32 : ℕ → Bool
is_u32 n = nat_lt n (2 ^ 32)

-- whether a name with its place has a spelling
abbrev pub fits_spot : Spot → Bool
fits_spot spot = is_u32 (length spot.name.name) && (is_u32 spot.line && is_u32 spot.col)

-- .. an import
abbrev pub fits_import : Import → Bool
fits_import import =
    is_u32 (length import.name.name) && (is_u32 (length import.provider) && nat_eq (length import.hash.bytes) 32)

-- .. a binfile
unfoldable pub fits_bin : Bin → Bool
fits_bin bin =
    is_u32 (length bin.unit) && (is_u32 (length bin.source)
    && (is_u32 (length bin.skeleton.defined) && (list_all fits_spot bin.skeleton.defined
    && (is_u32 (length bin.skeleton.free) && (list_all (λ need. fits_spot need.spot) bin.skeleton.free
    && (is_u32 (length bin.imports) && (list_all fits_import bin.imports
    && (nat_eq (length bin.interface.bytes) 32 && is_u32 (length bin.code)))))))))

-- a value, where these bytes are its spelling
abbrev pub if_spelled : List ℕ → Option Bin → Option Bin
if_spelled bytes None = None
if_spelled bytes (Some bin) = if fits_bin bin && pointwise nat_eq bytes (binfile bin) then Some bin else None

-- the binfile that these bytes are
unfoldable pub bin_in : List ℕ → Option Bin
bin_in bytes = if_spelled bytes (all_of (bin_at bytes))
