-- Each file of the store is read again, whatever follows it. So no proper front of a whole file is whole, and no
-- two values are spelled alike.
use Rattle.std.proofs.Common.{◌≡◌, ◌∙◌, ap, sym, refl, ℕ, ◌+◌, ◌<◌, ◌^◌, Bool, true, false, List, [], ◌∷◌, ◌++◌, length, take, drop, Some, arith, append_assoc}
use Rattle.std.proofs.lemmas.List.{take-append-drop}
use Rattle.cm_base.specs.declared.record.Namespace.{Namespace}
use Rattle.cm_base.specs.declared.record.Namespace.TheVariants as space
use Rattle.cm_base.specs.declared.record.ModName.{ModName}
use Rattle.cm_base.specs.declared.record.Pid.{Pid}
use Rattle.cm_base.specs.declared.record.Options.{Options}
use Rattle.cm_base.specs.declared.record.Spot.{Spot}
use Rattle.cm_base.specs.declared.record.Need.{Need}
use Rattle.cm_base.specs.declared.record.Import.{Import}
use Rattle.cm_bytes.specs.Fields.{space_byte, byte_at, text_of, list_of, IsReadAgain}
use Rattle.cm_bytes.proofs.Fields as fields
use Rattle.bin_formats.specs.declared.bin.Bin.{Bin}
use Rattle.bin_formats.specs.declared.bin.ToolRecord.{ToolRecord}
use Rattle.bin_formats.specs.Format.{flag_byte, options_byte, name_of, spot_of, need_of, import_of, bin_body, bin_head, bin_rest, binfile, interface_file, record_body, record_file, IsSpot, IsImport, IsBin, IsRecord}
use Rattle.bin_formats.specs.Reading.{space_from, flag_from, options_from, meant_at, name_at, spot_at, need_at, hash_at, import_at, lists_at, parts_at, bin_body_at, bin_at, interface_at, texts_at, record_body_at, record_at}
use Rattle.bin_formats.proofs.Steps.{Again, both_again, made_again, meant_again, byte_reads_again, raw_reads_again, u32_reads_again, text_reads_again, list_reads_again, front_again, checked_again}

-- the byte of a name space is read again
space_again : (s : Namespace) → Again (space_byte s ∷ []) (meant_at space_from byte_at) s
space_again s = meant_again space_from s (back s) (byte_reads_again (space_byte s))
  where
    back : (s : Namespace) → space_from (space_byte s) ≡ Some s
    back space.Structure = refl
    back space.Signature = refl
    back space.Functor = refl
    back space.Funsig = refl

-- .. that of a flag
flag_again : (flag : Bool) → Again (flag_byte flag ∷ []) (meant_at flag_from byte_at) flag
flag_again flag = meant_again flag_from flag (back flag) (byte_reads_again (flag_byte flag))
  where
    back : (flag : Bool) → flag_from (flag_byte flag) ≡ Some flag
    back true = refl
    back false = refl

-- .. that of the options
options_again : (options : Options) → Again (options_byte options ∷ []) (meant_at options_from byte_at) options
options_again options =
    meant_again options_from options (back options.nobasis options.opaque) (byte_reads_again (options_byte options))
  where
    back : (nobasis opaque : Bool) → let made : Options = record { nobasis = nobasis; opaque = opaque } in
        options_from (options_byte made) ≡ Some made
    back true true = refl
    back true false = refl
    back false true = refl
    back false false = refl

-- .. a module name
name_again : (name : ModName) → length name.name < 2 ^ 32 → Again (name_of name) name_at name
unfolding name_at
name_again name below = made_again _ (both_again (space_again name.space) (text_reads_again name.name below))

-- .. a module name with its place
spot_again : (spot : Spot) → IsSpot spot → Again (spot_of spot) spot_at spot
unfolding spot_at
spot_again spot fits =
    made_again _ (both_again (name_again spot.name fits.name)
    (both_again (u32_reads_again spot.line fits.line) (u32_reads_again spot.col fits.col)))

-- .. a needed name
need_again : (need : Need) → IsSpot need.spot → Again (need_of need) need_at need
unfolding need_at
need_again need fits = made_again _ (both_again (spot_again need.spot fits) (flag_again need.sure))

-- .. a hash
hash_again : (hash : Pid) → length hash.bytes ≡ 32 → Again hash.bytes hash_at hash
unfolding hash_at
hash_again hash long = made_again _ (raw_reads_again hash.bytes 32 long)

-- .. an import
import_again : (import : Import) → IsImport import → Again (import_of import) import_at import
unfolding import_at
import_again import fits =
    made_again _ (both_again (name_again import.name fits.name)
    (both_again (text_reads_again import.provider fits.provider) (hash_again import.hash fits.hash)))

-- .. the lists of a binfile, its hash and its code
lists_again : (bin : Bin) → IsBin bin
    → Again (list_of spot_of bin.skeleton.defined ++ (list_of need_of bin.skeleton.free
    ++ (list_of import_of bin.imports ++ (bin.interface.bytes ++ text_of bin.code)))) lists_at
    (bin.skeleton.defined, (bin.skeleton.free, (bin.imports, (bin.interface, bin.code))))
unfolding lists_at
lists_again bin fits =
    both_again (list_reads_again spot_of spot_at bin.skeleton.defined IsSpot spot_again fits.defined_spots
    fits.defined)
    (both_again (list_reads_again need_of need_at bin.skeleton.free
    (λ need. IsSpot need.spot) need_again fits.free_spots fits.free)
    (both_again (list_reads_again import_of import_at bin.imports IsImport import_again fits.each_import fits.imports)
    (both_again (hash_again bin.interface fits.interface) (text_reads_again bin.code fits.code))))

-- .. a binfile up to its digest
pub bin_body_again : (bin : Bin) → IsBin bin → Again (bin_body bin) bin_body_at bin
unfolding bin_body bin_body_at parts_at
bin_body_again bin fits =
    made_again _ (both_again (front_again (67 ∷ 77 ∷ 66 ∷ 49 ∷ []))
    (both_again (text_reads_again bin.unit fits.unit)
    (both_again (options_again bin.options)
    (both_again (text_reads_again bin.source fits.source) (lists_again bin fits)))))

-- a binfile is read again, whatever follows it
pub bin_again : (bin : Bin) → IsBin bin → IsReadAgain binfile bin_at bin
unfolding binfile bin_at
bin_again bin fits = record { again = (checked_again bin_body bin_body_at bin (bin_body_again bin fits)).again }

-- an interface file is read again, whatever follows it
pub interface_again : (text : List ℕ) → length text < 2 ^ 32 → IsReadAgain interface_file interface_at text
unfolding interface_file interface_at
interface_again text below =
    record {
      again = (made_again _ (both_again (front_again (67 ∷ 77 ∷ 69 ∷ 49 ∷ []))
          (text_reads_again text below))).again;
    }

-- a tool's record up to its digest is read again
record_body_again : (run : ToolRecord) → IsRecord run → Again (record_body run) record_body_at run
unfolding record_body record_body_at texts_at
record_body_again run fits =
    made_again _ (both_again (front_again (67 ∷ 77 ∷ 84 ∷ 49 ∷ []))
    (both_again (text_reads_again run.unit fits.unit)
    (both_again (text_reads_again run.class fits.class)
    (both_again (text_reads_again run.rule fits.rule)
    (both_again (text_reads_again run.input fits.input) (text_reads_again run.output fits.output))))))

-- a tool's record is read again, whatever follows it
pub record_again : (run : ToolRecord) → IsRecord run → IsReadAgain record_file record_at run
unfolding record_file record_at
record_again run fits = record {
  again = (checked_again record_body record_body_at run
      (record_body_again run fits)).again;
}

-- no binfile is a front of another, and no two are spelled alike
pub bin_no_front : (a b : Bin) (more : List ℕ) → IsBin a → IsBin b → binfile a ++ more ≡ binfile b
    → (a ≡ b) × (more ≡ [])
bin_no_front a b more f g e = fields.no_front binfile bin_at a b more (bin_again a f) (bin_again b g) e

-- no interface file is a front of another, and no two are spelled alike
pub interface_no_front : (a b more : List ℕ) → length a < 2 ^ 32 → length b < 2 ^ 32
    → interface_file a ++ more ≡ interface_file b → (a ≡ b) × (more ≡ [])
interface_no_front a b more f g e = fields.no_front interface_file interface_at a b more (interface_again a f)
    (interface_again b g) e

-- no tool's record is a front of another, and no two are spelled alike
pub record_no_front : (a b : ToolRecord) (more : List ℕ) → IsRecord a → IsRecord b
    → record_file a ++ more ≡ record_file b → (a ≡ b) × (more ≡ [])
record_no_front a b more f g e = fields.no_front record_file record_at a b more (record_again a f)
    (record_again b g) e

-- a front and what follows it are the whole
front_of : (n : ℕ) (whole front : List ℕ) → take n whole ≡ front → front ++ drop n whole ≡ whole
front_of n whole front e = ap (λ (bytes : List ℕ). bytes ++ drop n whole) (sym e) ∙ take-append-drop n whole

-- a front of a binfile that is a binfile is all of it
pub bin_front : (n : ℕ) (a b : Bin) → IsBin a → IsBin b → take n (binfile b) ≡ binfile a → a ≡ b
bin_front n a b f g e = (bin_no_front a b (drop n (binfile b)) f g (front_of n (binfile b) (binfile a) e)).0

-- .. a front of an interface file
pub interface_front : (n : ℕ) (a b : List ℕ) → length a < 2 ^ 32 → length b < 2 ^ 32
    → take n (interface_file b) ≡ interface_file a → a ≡ b
interface_front n a b f g e =
    (interface_no_front a b (drop n (interface_file b)) f g (front_of n (interface_file b) (interface_file a) e)).0

-- .. a front of a tool's record
pub record_front : (n : ℕ) (a b : ToolRecord) → IsRecord a → IsRecord b → take n (record_file b) ≡ record_file a
    → a ≡ b
record_front n a b f g e =
    (record_no_front a b (drop n (record_file b)) f g (front_of n (record_file b) (record_file a) e)).0

-- an interface file is eight bytes longer than its interface
pub length-interface_file : (text : List ℕ) → length (interface_file text) ≡ 8 + length text
unfolding interface_file
length-interface_file text = omega (arith, fields.length-text_of text)

-- a binfile up to its digest is its parts before its lists, and the rest
pub bin_body_parts : (bin : Bin) → bin_body bin ≡ bin_head bin ++ bin_rest bin
unfolding bin_body bin_head bin_rest
bin_body_parts bin = simp append_assoc
