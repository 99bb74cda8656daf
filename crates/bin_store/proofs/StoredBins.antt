-- The binfile that is stored for a unit is the one that stands whole at its place, and what changes it.
use Rattle.std.proofs.Common.{◌≡◌, ◌≢◌, ◌∙◌, ap, sym, subst, refl, inl, inr, ℕ, ◌<◌, ◌≤◌, Bool, true, false, cond, List, [], length, take, take_all, Option, Some, None, arith}
use Rattle.std.specs.Prelude.{nat_eq, nat_le, Contains, IfSome}
use Rattle.std.specs.Cmp.Lexicographic.{slice_cmp, pointwise, nat_list_eq_equiv, same_text}
use Rattle.std.specs.Ordering.{nat_cmp, eq_by_cmp}
use Rattle.std.specs.FinMap.{get}
use Rattle.std.proofs.lemmas.Bool.{cases_lt, leb-true, le-leb}
use Rattle.std.proofs.lemmas.List.{length-take}
use Rattle.cm_base.specs.Definitions.{Definitions}
use Rattle.cm_base.specs.Files.{Files, front_read}
use Rattle.cm_base.specs.declared.record.Pid.{Pid}
use Rattle.cm_base.proofs.FileLemmas.{same_path, path_ties}
use Rattle.cm_bytes.specs.Hashes.{hash_of}
use Rattle.bin_formats.specs.declared.bin.Bin.{Bin}
use Rattle.bin_formats.specs.Format.{IsBin, binfile, interface_file}
use Rattle.bin_formats.specs.Fitting.{bin_in}
use Rattle.bin_formats.specs.Took.{ReadsBin}
use Rattle.bin_formats.proofs.FittingLemmas.{bin_in-is, bin_in-of, reads_bin_in}
use Rattle.bin_formats.proofs.Formats.{bin_front}
use Rattle.bin_store.specs.GoodStore.{IsGoodBin, IsGoodStore}
use Rattle.bin_store.specs.Laws.{StandsBin, HasGoodBin, SameBut}
use Rattle.bin_store.specs.Paths.{bin_path, interface_path}
use Rattle.bin_store.specs.Stored.{if_unit, bin_of_bytes, bin_found, stored_bin, interface_found, stored_interface}
use Rattle.bin_store.specs.Whole.{IsWholeBin, IsWholeInterface}
use Rattle.bin_store.proofs.PathLaws.{bin_path-injective, interface_path-injective, bin_is_no_interface}
use Rattle.bin_store.proofs.StoredLaws.{file-stored, stored-whole}

-- ---- the bytes of a file

-- a test that chooses
chosen : (test : Bool) (x y : Bin) → cond test (Some x) None ≡ Some y → (test ≡ true) × (x ≡ y)
chosen true x y e = (refl, cc)
chosen false x y e = absurd cc

-- a binfile of this unit
unit_is : (unit : List ℕ) (found : Option Bin) (bin : Bin) → if_unit unit found ≡ Some bin → (found ≡ Some bin) × (bin.unit ≡ unit)
unit_is unit None bin e = absurd cc
unit_is unit (Some x) bin e =
    let is = chosen (pointwise nat_eq x.unit unit) x bin e in
    (ap (λ (b : Bin). Some b) is.1, subst (λ (b : Bin). b.unit ≡ unit) is.1 (same_text x.unit unit (sym is.0)))

-- what some bytes have for a unit
bytes_is : (unit bytes : List ℕ) (bin : Bin) → bin_of_bytes unit bytes ≡ Some bin
    → (length bytes ≤ 16777216) × (bin_in bytes ≡ Some bin) × (bin.unit ≡ unit)
bytes_is unit bytes bin e = by_size (nat_le (length bytes) 16777216) refl e
  where
    by_size : (b : Bool) → nat_le (length bytes) 16777216 ≡ b → cond b (if_unit unit (bin_in bytes)) None ≡ Some bin
        → (length bytes ≤ 16777216) × (bin_in bytes ≡ Some bin) × (bin.unit ≡ unit)
    by_size false is e = absurd cc
    by_size true is e =
        let two = unit_is unit (bin_in bytes) bin e in (leb-true (length bytes) 16777216 is, two.0, two.1)

bytes_of : (unit bytes : List ℕ) (bin : Bin) → length bytes ≤ 16777216 → bin_in bytes ≡ Some bin → bin.unit ≡ unit
    → bin_of_bytes unit bytes ≡ Some bin
bytes_of unit bytes bin small is of =
    let one : nat_le (length bytes) 16777216 ≡ true = le-leb (length bytes) 16777216 small in
    let two : pointwise nat_eq bin.unit unit ≡ true =
    ap (pointwise nat_eq bin.unit) (sym of) ∙ nat_list_eq_equiv.refl bin.unit in
    rw (one, is, two) refl

-- ---- what is stored is what stands whole

-- what is stored stands whole at its unit's place
stands : (files : Files) (unit : List ℕ) (bin : Bin) (file : Option (List ℕ)) → get files (bin_path unit) ≡ file
    → bin_found unit file ≡ Some bin → StandsBin files unit bin × (bin.unit ≡ unit)
stands files unit bin None there e = absurd cc
stands files unit bin (Some bytes) there e =
    let is = bytes_is unit bytes bin e in
    let spells = bin_in-is bytes bin is.1 in (
      record {
        bytes = bytes;
        there = there;
        whole = record {
          fits = spells.0;
          spelled = spells.1;
          small = is.0;
          place = ap bin_path (sym is.2);
        };
      },
      is.2,
    )

pub bin_is_whole : (files : Files) (unit : List ℕ) (bin : Bin) → stored_bin files unit ≡ Some bin → StandsBin files unit bin
unfolding stored_bin
bin_is_whole files unit bin e = (stands files unit bin (get files (bin_path unit)) refl e).0

pub bin_unit : (files : Files) (unit : List ℕ) (bin : Bin) → stored_bin files unit ≡ Some bin → bin.unit ≡ unit
unfolding stored_bin
bin_unit files unit bin e = (stands files unit bin (get files (bin_path unit)) refl e).1

-- what stands whole there is stored
pub bin_is_stored : (files : Files) (unit : List ℕ) (bin : Bin) → StandsBin files unit bin → stored_bin files unit ≡ Some bin
unfolding stored_bin
bin_is_stored files unit bin h =
    ap (bin_found unit) h.there
    ∙ bytes_of unit h.bytes bin h.whole.small (bin_in-of h.bytes bin h.whole.fits h.whole.spelled)
    (sym (bin_path-injective unit bin.unit h.whole.place))

-- in a good store it is good, and its interface is stored
pub good_bin_stored : (by : Definitions) (texts : List (List ℕ)) (files : Files) (unit : List ℕ) (bin : Bin)
    → IsGoodStore by texts files → stored_bin files unit ≡ Some bin → HasGoodBin by texts files bin
good_bin_stored by texts files unit bin good e =
    let at = bin_is_whole files unit bin e in
    let is = good.bins (bin_path unit) at.bytes bin at.there at.whole in
    let hash : bin.interface ≡ hash_of is.made.interface = ap (λ (b : Bin). b.interface) is.bin_is in
    let stored = file-stored files is.made.interface is.small (ap (λ h. get files (interface_path h)) (sym hash) ∙ is.stands) in
    record {
      good = is;
      text = is.made.interface;
      known = is.known;
      stored = ap (stored_interface files) hash ∙ stored;
    }

-- ---- how code finds it

-- none in too many bytes
pub too_long : (unit bytes : List ℕ) → 16777216 < length bytes → bin_of_bytes unit bytes ≡ None
too_long unit bytes lt = by_size (nat_le (length bytes) 16777216) refl
  where
    by_size : (b : Bool) → nat_le (length bytes) 16777216 ≡ b → cond b (if_unit unit (bin_in bytes)) None ≡ None
    by_size false is = refl
    by_size true is = absurd (omega (arith, leb-true (length bytes) 16777216 is, lt))

-- the one that is read, where it is of this unit
pub read_of_unit : (unit bytes : List ℕ) (found made : Option Bin) → length bytes ≤ 16777216 → ReadsBin found bytes
    → made ≡ if_unit unit found → made ≡ bin_of_bytes unit bytes
read_of_unit unit bytes found made small reads is =
    let one : nat_le (length bytes) 16777216 ≡ true = le-leb (length bytes) 16777216 small in
    is ∙ ap (if_unit unit) (reads_bin_in bytes found reads) ∙ rw one refl

-- .. and it has a spelling
pub spelled_of_unit : (unit bytes : List ℕ) (found made : Option Bin) → ReadsBin found bytes → made ≡ if_unit unit found
    → IfSome made IsBin
spelled_of_unit unit bytes None made reads is = subst (λ (o : Option Bin). IfSome o IsBin) (sym is) tt
spelled_of_unit unit bytes (Some bin) made reads is =
    subst (λ (o : Option Bin). IfSome o IsBin) (sym is) (by_name (pointwise nat_eq bin.unit unit))
  where
    by_name : (b : Bool) → IfSome (cond b (Some bin) None) IsBin
    by_name true = reads.0
    by_name false = tt

-- a front of one byte more than a binfile may have is as good as all of it
bin_found-front : (unit : List ℕ) (there : Option (List ℕ)) → bin_found unit (front_read 16777216 there) ≡ bin_found unit there
bin_found-front unit None = refl
bin_found-front unit (Some bytes) =
    elim (cases_lt 16777216 (length bytes)) [
      | inl more ↦ too_long unit (take 16777217 bytes) (omega (arith, length-take 16777217 bytes)) ∙ sym (too_long unit bytes more)
      | inr less ↦ ap (bin_of_bytes unit) (take_all 16777217 bytes (omega arith))
    ]

-- what was read says what is stored
pub stored_bin_read : (files : Files) (unit path : List ℕ) (file : Option (List ℕ)) → path ≡ bin_path unit
    → file ≡ front_read 16777216 (get files path) → bin_found unit file ≡ stored_bin files unit
unfolding stored_bin
stored_bin_read files unit path file at read =
    ap (bin_found unit) read ∙ bin_found-front unit (get files path)
    ∙ ap (λ (p : List ℕ). bin_found unit (get files p)) at

-- ---- what a put changes

-- a torn binfile is none
pub torn_absent : (files : Files) (bin : Bin) (n : ℕ) → IsBin bin → n < length (binfile bin)
    → get files (bin_path bin.unit) ≡ Some (take n (binfile bin)) → stored_bin files bin.unit ≡ None
torn_absent files bin n fits short there = by_stored (stored_bin files bin.unit) refl
  where
    by_stored : (o : Option Bin) → stored_bin files bin.unit ≡ o → o ≡ None
    by_stored None e = refl
    by_stored (Some found) e =
        let at = bin_is_whole files bin.unit found e in
        let front : take n (binfile bin) ≡ at.bytes = cc (there, at.there) in
        let same : found ≡ bin = bin_front n found bin at.whole.fits fits (front ∙ at.whole.spelled) in
        let whole : take n (binfile bin) ≡ binfile bin = front ∙ at.whole.spelled ∙ ap binfile same in
        absurd (omega (arith, ap length whole, length-take n (binfile bin), short))

-- another unit's binfile
pub bin_no_bin : (before after : Files) (unit other : List ℕ) → SameBut (bin_path unit) before after → other ≢ unit
    → stored_bin after other ≡ stored_bin before other
unfolding stored_bin
bin_no_bin before after unit other same apart =
    ap (bin_found other) (same.others (bin_path other) (λ e. apart (bin_path-injective other unit e)))

-- an interface
pub bin_no_interface : (before after : Files) (unit : List ℕ) (hash : Pid) → SameBut (bin_path unit) before after
    → stored_interface after hash ≡ stored_interface before hash
unfolding stored_interface
bin_no_interface before after unit hash same =
    ap (interface_found hash) (same.others (interface_path hash) (λ e. bin_is_no_interface unit hash (sym e)))

-- a binfile, where an interface is put
pub interface_no_bin : (before after : Files) (text unit : List ℕ) → SameBut (interface_path (hash_of text)) before after
    → stored_bin after unit ≡ stored_bin before unit
unfolding stored_bin
interface_no_bin before after text unit same =
    ap (bin_found unit) (same.others (bin_path unit) (bin_is_no_interface unit (hash_of text)))

-- none is stored under a hash whose place is that of another one
none_there : (files : Files) (text : List ℕ) (hash : Pid) → interface_path hash ≡ interface_path (hash_of text)
    → hash ≢ hash_of text → stored_interface files hash ≡ None
none_there files text hash at apart = by_stored (stored_interface files hash) refl
  where
    by_stored : (o : Option (List ℕ)) → stored_interface files hash ≡ o → o ≡ None
    by_stored None e = refl
    by_stored (Some found) e =
        let is = stored-whole files hash found e in
        let one : hash_of found ≡ hash_of text =
        interface_path-injective found text (ap interface_path (sym is.1) ∙ at) in
        absurd (apart (is.1 ∙ one))

-- another interface
elsewhere : (before after : Files) (text : List ℕ) (hash : Pid) → SameBut (interface_path (hash_of text)) before after
    → interface_path hash ≢ interface_path (hash_of text) → stored_interface after hash ≡ stored_interface before hash
unfolding stored_interface
elsewhere before after text hash same apart = ap (interface_found hash) (same.others (interface_path hash) apart)

-- two paths that don't tie differ
differ : (p q : List ℕ) → p ≡ q → eq_by_cmp (slice_cmp nat_cmp) p q ≡ false → ⊥
differ p q same tied =
    let one : eq_by_cmp (slice_cmp nat_cmp) p q ≡ true = ap (λ r. eq_by_cmp (slice_cmp nat_cmp) r q) same ∙ path_ties q in
    absurd (cc (one, tied))

pub interface_no_interface : (before after : Files) (text : List ℕ) (hash : Pid)
    → SameBut (interface_path (hash_of text)) before after → hash ≢ hash_of text
    → stored_interface after hash ≡ stored_interface before hash
interface_no_interface before after text hash same apart =
    by_test (eq_by_cmp (slice_cmp nat_cmp) (interface_path hash) (interface_path (hash_of text))) refl
  where
    by_test : (b : Bool) → eq_by_cmp (slice_cmp nat_cmp) (interface_path hash) (interface_path (hash_of text)) ≡ b
        → stored_interface after hash ≡ stored_interface before hash
    by_test true tied =
        let at = same_path (interface_path hash) (interface_path (hash_of text)) tied in
        none_there after text hash at apart ∙ sym (none_there before text hash at apart)
    by_test false tied =
        elsewhere before after text hash same (λ e. differ (interface_path hash) (interface_path (hash_of text)) e tied)
