-- How each part of the store's files is read, as a step: the value at the front of the bytes, and the bytes
-- that are left, or none where the bytes spell no value.
use Rattle.std.specs.Prelude.{ℕ, ◌==◌, Bool, true, false, if◌then◌else◌, List, [], ◌∷◌, length, Option, None, Some, nat_eq}
use Rattle.std.specs.Cmp.Lexicographic.{pointwise}
use Rattle.sha2.specs.Sha256.{sha256}
use Rattle.cm_base.specs.declared.record.Namespace.{Namespace}
use Rattle.cm_base.specs.declared.record.Namespace.TheVariants as space
use Rattle.cm_base.specs.declared.record.ModName.{ModName}
use Rattle.cm_base.specs.declared.record.Pid.{Pid}
use Rattle.cm_base.specs.declared.record.Options.{Options}
use Rattle.cm_base.specs.declared.record.Spot.{Spot}
use Rattle.cm_base.specs.declared.record.Need.{Need}
use Rattle.cm_base.specs.declared.record.Import.{Import}
use Rattle.cm_bytes.specs.Fields.{Step, ◌>>=◌, byte_at, raw_at, u32_at, text_at, list_at}
use Rattle.bin_formats.specs.declared.bin.Bin.{Bin}
use Rattle.bin_formats.specs.declared.bin.ToolRecord.{ToolRecord}
use Rattle.bin_formats.specs.Format.{bin_body, record_body}

-- one part and then another
abbrev pub both_at : {A B : Type 0} → Step A → Step B → Step (A × B)
both_at first second bytes = first bytes >>= λ x. second x.1 >>= λ y. Some ((x.0, y.0), y.1)

-- a part, and what is made of it
abbrev pub made_at : {A B : Type 0} → (A → B) → Step A → Step B
made_at make step bytes = step bytes >>= λ x. Some (make x.0, x.1)

-- a part that stands for something in some cases alone
abbrev pub meant_at : {A B : Type 0} → (A → Option B) → Step A → Step B
meant_at meaning step bytes = step bytes >>= λ x. meaning x.0 >>= λ y. Some (y, x.1)

-- these bytes and no others
abbrev pub front_at : List ℕ → Step (Unit {0})
front_at front = meant_at (λ found. if pointwise nat_eq found front then Some tt else None) (raw_at (length front))

-- a value and then the SHA-256 of its spelling
abbrev pub checked_at : {A : Type 0} → (A → List ℕ) → Step A → Step A
checked_at body step = meant_at (λ x. if pointwise nat_eq x.1 (sha256 (body x.0)) then Some x.0 else None)
    (both_at step (raw_at 32))

-- the name space of a byte
abbrev pub space_from : ℕ → Option Namespace
space_from byte =
    if byte == 0 then Some space.Structure
    else (if byte == 1 then Some space.Signature
    else (if byte == 2 then Some space.Functor
    else (if byte == 3 then Some space.Funsig else None)))

-- the flag of a byte
abbrev pub flag_from : ℕ → Option Bool
flag_from byte = if byte == 0 then Some false else (if byte == 1 then Some true else None)

-- options from two flags
abbrev options : Bool → Bool → Options
options nobasis opaque = record { nobasis = nobasis; opaque = opaque }

-- the options of a byte
abbrev pub options_from : ℕ → Option Options
options_from byte =
    if byte == 0 then Some (options false false)
    else (if byte == 1 then Some (options true false)
    else (if byte == 2 then Some (options false true)
    else (if byte == 3 then Some (options true true) else None)))

-- a module name
unfoldable pub name_at : Step ModName
name_at = made_at (λ p. record { space = p.0; name = p.1 }) (both_at (meant_at space_from byte_at) text_at)

-- a module name with its place
unfoldable pub spot_at : Step Spot
spot_at = made_at (λ p. record { name = p.0; line = p.1.0; col = p.1.1 }) (both_at name_at (both_at u32_at u32_at))

-- a needed name
unfoldable pub need_at : Step Need
need_at = made_at (λ p. record { spot = p.0; sure = p.1 }) (both_at spot_at (meant_at flag_from byte_at))

-- a hash
unfoldable pub hash_at : Step Pid
hash_at = made_at (λ bytes. record { bytes = bytes }) (raw_at 32)

-- an import
unfoldable pub import_at : Step Import
import_at = made_at (λ p. record { name = p.0; provider = p.1.0; hash = p.1.1 }) (both_at name_at
    (both_at text_at hash_at))

-- the lists of a binfile, and what follows them
abbrev pub Lists : Type 0
Lists = List Spot × (List Need × (List Import × (Pid × List ℕ)))

-- what a binfile has behind its front
abbrev pub Parts : Type 0
Parts = List ℕ × (Options × (List ℕ × Lists))

-- the binfile of its parts
abbrev pub bin_from : Parts → Bin
bin_from p =
    let lists = p.1.1.1 in
    record {
      unit = p.0;
      options = p.1.0;
      source = p.1.1.0;
      skeleton = record { defined = lists.0; free = lists.1.0 };
      imports = lists.1.1.0;
      interface = lists.1.1.1.0;
      code = lists.1.1.1.1;
    }

-- the lists of a binfile, its hash and its code
unfoldable pub lists_at : Step Lists
lists_at = both_at (list_at spot_at) (both_at (list_at need_at) (both_at (list_at import_at)
    (both_at hash_at text_at)))

-- what a binfile has behind its front
unfoldable pub parts_at : Step Parts
parts_at = both_at text_at (both_at (meant_at options_from byte_at) (both_at text_at lists_at))

-- a binfile up to its digest
unfoldable pub bin_body_at : Step Bin
bin_body_at = made_at (λ p. bin_from p.1) (both_at (front_at (67 ∷ 77 ∷ 66 ∷ 49 ∷ [])) parts_at)

-- a whole binfile
unfoldable pub bin_at : Step Bin
bin_at = checked_at bin_body bin_body_at

-- an interface file
unfoldable pub interface_at : Step (List ℕ)
interface_at = made_at (λ p. p.1) (both_at (front_at (67 ∷ 77 ∷ 69 ∷ 49 ∷ [])) text_at)

-- the texts of a tool's record
abbrev pub Texts : Type 0
Texts = List ℕ × (List ℕ × (List ℕ × (List ℕ × List ℕ)))

-- the record of its texts
abbrev pub record_from : Texts → ToolRecord
record_from p = record { unit = p.0; class = p.1.0; rule = p.1.1.0; input = p.1.1.1.0; output = p.1.1.1.1 }

-- five texts
unfoldable pub texts_at : Step Texts
texts_at = both_at text_at (both_at text_at (both_at text_at (both_at text_at text_at)))

-- a tool's record up to its digest
unfoldable pub record_body_at : Step ToolRecord
record_body_at = made_at (λ p. record_from p.1) (both_at (front_at (67 ∷ 77 ∷ 84 ∷ 49 ∷ [])) texts_at)

-- a whole record of a tool
unfoldable pub record_at : Step ToolRecord
record_at = checked_at record_body record_body_at

-- the value of which the bytes are the whole spelling: nothing stands behind it
abbrev pub if_whole : {A : Type 0} → A → List ℕ → Option A
if_whole x [] = Some x
if_whole x (byte ∷ rest) = None

abbrev pub all_of : {A : Type 0} → Option (A × List ℕ) → Option A
all_of read = read >>= λ x. if_whole x.0 x.1
