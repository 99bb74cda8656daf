-- What is read from bytes is spelled so: of each step, that the bytes begin with the spelling of its value, which fits.
use Rattle.std.proofs.Common.{◌≡◌, ◌∙◌, ap, sym, subst, refl, ℕ, ◌+◌, ◌<◌, ◌^◌, Bool, true, false, cond, List, [], ◌∷◌, ◌++◌, length, Option, Some, None, append-nil, append_assoc}
use Rattle.std.specs.Prelude.{nat_eq, All}
use Rattle.std.proofs.lemmas.Bool.{eqb-true}
use Rattle.std.specs.Cmp.Lexicographic.{pointwise, same_text}
use Rattle.sha2.specs.Sha256.{sha256}
use Rattle.cm_base.specs.declared.record.Namespace.{Namespace}
use Rattle.cm_base.specs.declared.record.Namespace.TheVariants as space
use Rattle.cm_base.specs.declared.record.ModName.{ModName}
use Rattle.cm_base.specs.declared.record.Pid.{Pid}
use Rattle.cm_base.specs.declared.record.Options.{Options}
use Rattle.cm_base.specs.declared.record.Spot.{Spot}
use Rattle.cm_base.specs.declared.record.Need.{Need}
use Rattle.cm_base.specs.declared.record.Import.{Import}
use Rattle.cm_bytes.specs.Fields.{Step, ◌>>=◌, IsBytes, Takes, ReadsSpelled, byte_at, raw_at, u32_at, text_at, list_at, space_byte, u32_of, text_of, list_of}
use Rattle.cm_bytes.proofs.Fields.{bind_some, some_is, Takes-then, byte_takes, raw_takes, u32_reads_spelled, text_reads_spelled, list_takes}
use Rattle.bin_formats.specs.declared.bin.Bin.{Bin}
use Rattle.bin_formats.specs.declared.bin.ToolRecord.{ToolRecord}
use Rattle.bin_formats.specs.Format.{flag_byte, options_byte, name_of, spot_of, need_of, import_of, bin_body, binfile, interface_file, record_body, record_file, IsSpot, IsImport, IsBin, IsRecord}
use Rattle.bin_formats.specs.Reading.{both_at, made_at, meant_at, front_at, checked_at, space_from, flag_from, options_from, name_at, spot_at, need_at, hash_at, import_at, Lists, Parts, Texts, bin_from, record_from, lists_at, parts_at, bin_body_at, bin_at, interface_at, texts_at, record_body_at, record_at}

-- ---- steps that are put together

-- the two halves of the law, from both at once
pub reads_spelled : {A : Type 0} (item_of : A → List ℕ) (item_at : Step A) (Fits : A → Type 0)
    → ((bytes : List ℕ) (x : A) (rest : List ℕ) → IsBytes bytes → item_at bytes ≡ Some (x, rest)
    → Takes bytes (item_of x) rest × Fits x)
    → ReadsSpelled item_of item_at Fits
reads_spelled item_of item_at Fits reads = record {
  takes = λ bytes x rest h e. (reads bytes x rest h e).0;
  fits = λ bytes x rest h e. (reads bytes x rest h e).1;
}

-- one part and then another
pub both_spelled : {A B : Type 0} {a_of : A → List ℕ} {a_at : Step A} {FitsA : A → Type 0}
    {b_of : B → List ℕ} {b_at : Step B} {FitsB : B → Type 0}
    → ReadsSpelled a_of a_at FitsA → ReadsSpelled b_of b_at FitsB
    → ReadsSpelled (λ (p : A × B). a_of p.0 ++ b_of p.1) (both_at a_at b_at) (λ (p : A × B). FitsA p.0 × FitsB p.1)
both_spelled {A} {B} {a_of} {a_at} {FitsA} {b_of} {b_at} {FitsB} a b =
    reads_spelled (λ (p : A × B). a_of p.0 ++ b_of p.1) (both_at a_at b_at) (λ (p : A × B). FitsA p.0 × FitsB p.1) parts
  where
    parts : (bytes : List ℕ) (p : A × B) (rest : List ℕ) → IsBytes bytes → both_at a_at b_at bytes ≡ Some (p, rest)
        → Takes bytes (a_of p.0 ++ b_of p.1) rest × (FitsA p.0 × FitsB p.1)
    parts bytes p rest h e =
        let one = bind_some (a_at bytes) (λ (x : A × List ℕ). b_at x.1 >>= λ (y : B × List ℕ). Some ((x.0, y.0), y.1)) (p, rest) e in
        let x = one.0 in
        let two = bind_some (b_at x.1) (λ (y : B × List ℕ). Some ((x.0, y.0), y.1)) (p, rest) one.2 in
        let y = two.0 in
        let front = a.takes bytes x.0 x.1 h one.1 in
        let back = b.takes x.1 y.0 y.1 front.after two.1 in
        let fit : FitsA x.0 × FitsB y.0 = (a.fits bytes x.0 x.1 h one.1, b.fits x.1 y.0 y.1 front.after two.1) in
        let got : (A × B) × List ℕ = ((x.0, y.0), y.1) in
        subst (λ (q : (A × B) × List ℕ). Takes bytes (a_of q.0.0 ++ b_of q.0.1) q.1 × (FitsA q.0.0 × FitsB q.0.1))
        (some_is got (p, rest) two.2) (Takes-then front back, fit)

-- a part that stands for something in some cases
pub meant_spelled : {A B : Type 0} {a_of : A → List ℕ} {a_at : Step A} {FitsA : A → Type 0}
    (b_of : B → List ℕ) (FitsB : B → Type 0) (meaning : A → Option B)
    → ReadsSpelled a_of a_at FitsA
    → ((x : A) (y : B) → FitsA x → meaning x ≡ Some y → (a_of x ≡ b_of y) × FitsB y)
    → ReadsSpelled b_of (meant_at meaning a_at) FitsB
meant_spelled {A} {B} {a_of} {a_at} {FitsA} b_of FitsB meaning a so =
    reads_spelled b_of (meant_at meaning a_at) FitsB parts
  where
    parts : (bytes : List ℕ) (y : B) (rest : List ℕ) → IsBytes bytes → meant_at meaning a_at bytes ≡ Some (y, rest)
        → Takes bytes (b_of y) rest × FitsB y
    parts bytes y rest h e =
        let one = bind_some (a_at bytes) (λ (x : A × List ℕ). meaning x.0 >>= λ (m : B). Some (m, x.1)) (y, rest) e in
        let x = one.0 in
        let two = bind_some (meaning x.0) (λ (m : B). Some (m, x.1)) (y, rest) one.2 in
        let m = two.0 in
        let front = a.takes bytes x.0 x.1 h one.1 in
        let is = so x.0 m (a.fits bytes x.0 x.1 h one.1) two.1 in
        let got : B × List ℕ = (m, x.1) in
        subst (λ (q : B × List ℕ). Takes bytes (b_of q.0) q.1 × FitsB q.0) (some_is got (y, rest) two.2)
        (subst (λ (s : List ℕ). Takes bytes s x.1) is.0 front, is.1)

-- a part, and what is made of it
pub made_spelled : {A B : Type 0} {a_of : A → List ℕ} {a_at : Step A} {FitsA : A → Type 0}
    (b_of : B → List ℕ) (FitsB : B → Type 0) (make : A → B)
    → ReadsSpelled a_of a_at FitsA → ((x : A) → FitsA x → (a_of x ≡ b_of (make x)) × FitsB (make x))
    → ReadsSpelled b_of (made_at make a_at) FitsB
made_spelled {A} {B} {a_of} {a_at} {FitsA} b_of FitsB make a so =
    reads_spelled b_of (made_at make a_at) FitsB parts
  where
    parts : (bytes : List ℕ) (y : B) (rest : List ℕ) → IsBytes bytes → made_at make a_at bytes ≡ Some (y, rest)
        → Takes bytes (b_of y) rest × FitsB y
    parts bytes y rest h e =
        let one = bind_some (a_at bytes) (λ (x : A × List ℕ). Some (make x.0, x.1)) (y, rest) e in
        let x = one.0 in
        let front = a.takes bytes x.0 x.1 h one.1 in
        let is = so x.0 (a.fits bytes x.0 x.1 h one.1) in
        let got : B × List ℕ = (make x.0, x.1) in
        subst (λ (q : B × List ℕ). Takes bytes (b_of q.0) q.1 × FitsB q.0) (some_is got (y, rest) one.2)
        (subst (λ (s : List ℕ). Takes bytes s x.1) is.0 front, is.1)

-- a byte
byte_spelled : ReadsSpelled (λ (b : ℕ). b ∷ []) byte_at (λ b. b < 256)
byte_spelled = reads_spelled (λ b. b ∷ []) byte_at (λ b. b < 256) byte_takes

-- so many bytes as they are
raw_spelled : (n : ℕ) → ReadsSpelled (λ (text : List ℕ). text) (raw_at n) (λ text. length text ≡ n)
raw_spelled n = reads_spelled (λ text. text) (raw_at n) (λ text. length text ≡ n) (raw_takes n)

-- a list, where each item is
pub list_spelled : {A : Type 0} (item_of : A → List ℕ) (item_at : Step A) (Fits : A → Type 0)
    → ReadsSpelled item_of item_at Fits
    → ReadsSpelled (list_of item_of) (list_at item_at) (λ (xs : List A). (length xs < 2 ^ 32) × All Fits xs)
list_spelled {A} item_of item_at Fits item = record {
  takes = λ bytes xs rest h e. (list_takes item_of item_at Fits item bytes xs rest h e).takes;
  fits = λ bytes xs rest h e.
      let l = list_takes item_of item_at Fits item bytes xs rest h e in
      (l.count, l.fits);
}

-- these bytes and no others
chosen : {A : Type 0} (test : Bool) (x y : A) → cond test (Some x) None ≡ Some y → (test ≡ true) × (x ≡ y)
chosen true x y e = (refl, cc)
chosen false x y e = absurd cc

front_spelled : (front : List ℕ) → ReadsSpelled (λ (u : Unit {0}). front) (front_at front) (λ u. Unit {0})
front_spelled front =
    meant_spelled (λ (u : Unit {0}). front) (λ u. Unit {0})
    (λ found. cond (pointwise nat_eq found front) (Some tt) None) (raw_spelled (length front))
    (λ found u fits e. (same_text found front (sym (chosen (pointwise nat_eq found front) tt u e).0), tt))

-- a value and then the digest of its spelling
checked_spelled : {A : Type 0} (body : A → List ℕ) (step : Step A) (Fits : A → Type 0)
    → ReadsSpelled body step Fits
    → ReadsSpelled (λ (x : A). body x ++ sha256 (body x)) (checked_at body step) Fits
checked_spelled {A} body step Fits part =
    meant_spelled (λ (x : A). body x ++ sha256 (body x)) Fits
    (λ (p : A × List ℕ). cond (pointwise nat_eq p.1 (sha256 (body p.0))) (Some p.0) None)
    (both_spelled part (raw_spelled 32))
    (λ p x fits e.
    let is = chosen (pointwise nat_eq p.1 (sha256 (body p.0))) p.0 x e in
    let digest = same_text p.1 (sha256 (body p.0)) (sym is.0) in (
      ap (λ (d : List ℕ). body p.0 ++ d) digest ∙ ap (λ (y : A). body y ++ sha256 (body y)) is.1,
      subst Fits is.1 fits.0,
    ))

-- ---- bytes that stand for something

-- the first of two tests that holds chooses
two_ways : {A : Type 0} (test : Bool) (x y : A) (other : Option A) (P : Type 0) → cond test (Some x) other ≡ Some y
    → (test ≡ true → x ≡ y → P) → (other ≡ Some y → P) → P
two_ways true x y other P e here there = here refl cc
two_ways false x y other P e here there = there e

space_back : (byte : ℕ) (s : Namespace) → space_from byte ≡ Some s → byte ≡ space_byte s
space_back byte s e =
    two_ways (nat_eq byte 0) space.Structure s _ (byte ≡ space_byte s) e (λ t is. eqb-true byte 0 t ∙ ap space_byte is)
    (λ e. two_ways (nat_eq byte 1) space.Signature s _ (byte ≡ space_byte s) e (λ t is. eqb-true byte 1 t ∙ ap space_byte is)
    (λ e. two_ways (nat_eq byte 2) space.Functor s _ (byte ≡ space_byte s) e (λ t is. eqb-true byte 2 t ∙ ap space_byte is)
    (λ e. two_ways (nat_eq byte 3) space.Funsig s _ (byte ≡ space_byte s) e (λ t is. eqb-true byte 3 t ∙ ap space_byte is)
    (λ e. absurd cc))))

flag_back : (byte : ℕ) (flag : Bool) → flag_from byte ≡ Some flag → byte ≡ flag_byte flag
flag_back byte flag e =
    two_ways (nat_eq byte 0) false flag _ (byte ≡ flag_byte flag) e (λ t is. eqb-true byte 0 t ∙ ap flag_byte is)
    (λ e. two_ways (nat_eq byte 1) true flag _ (byte ≡ flag_byte flag) e (λ t is. eqb-true byte 1 t ∙ ap flag_byte is)
    (λ e. absurd cc))

abbrev both_flags : Bool → Bool → Options
both_flags nobasis opaque = record { nobasis = nobasis; opaque = opaque }

options_back : (byte : ℕ) (o : Options) → options_from byte ≡ Some o → byte ≡ options_byte o
options_back byte o e =
    two_ways (nat_eq byte 0) (both_flags false false) o _ (byte ≡ options_byte o) e (λ t is. eqb-true byte 0 t ∙ ap options_byte is)
    (λ e. two_ways (nat_eq byte 1) (both_flags true false) o _ (byte ≡ options_byte o) e (λ t is. eqb-true byte 1 t ∙ ap options_byte is)
    (λ e. two_ways (nat_eq byte 2) (both_flags false true) o _ (byte ≡ options_byte o) e (λ t is. eqb-true byte 2 t ∙ ap options_byte is)
    (λ e. two_ways (nat_eq byte 3) (both_flags true true) o _ (byte ≡ options_byte o) e (λ t is. eqb-true byte 3 t ∙ ap options_byte is)
    (λ e. absurd cc))))

-- a byte that stands for something
code_spelled : {B : Type 0} (byte_of : B → ℕ) (meaning : ℕ → Option B)
    → ((byte : ℕ) (y : B) → meaning byte ≡ Some y → byte ≡ byte_of y)
    → ReadsSpelled (λ (y : B). byte_of y ∷ []) (meant_at meaning byte_at) (λ y. Unit {0})
code_spelled {B} byte_of meaning back =
    meant_spelled (λ (y : B). byte_of y ∷ []) (λ y. Unit {0}) meaning byte_spelled
    (λ byte y fits e. (ap (λ (b : ℕ). b ∷ []) (back byte y e), tt))

space_spelled : ReadsSpelled (λ (s : Namespace). space_byte s ∷ []) (meant_at space_from byte_at) (λ s. Unit {0})
space_spelled = code_spelled space_byte space_from space_back

flag_spelled : ReadsSpelled (λ (b : Bool). flag_byte b ∷ []) (meant_at flag_from byte_at) (λ b. Unit {0})
flag_spelled = code_spelled flag_byte flag_from flag_back

options_spelled : ReadsSpelled (λ (o : Options). options_byte o ∷ []) (meant_at options_from byte_at) (λ o. Unit {0})
options_spelled = code_spelled options_byte options_from options_back

-- ---- the parts of the files

name_spelled : ReadsSpelled name_of name_at (λ (name : ModName). length name.name < 2 ^ 32)
unfolding name_at
name_spelled =
    made_spelled name_of (λ (name : ModName). length name.name < 2 ^ 32)
    (λ (p : Namespace × List ℕ). let made : ModName = record { space = p.0; name = p.1 } in made)
    (both_spelled space_spelled text_reads_spelled) (λ p fits. (refl, fits.1))

spot_spelled : ReadsSpelled spot_of spot_at IsSpot
unfolding spot_at
spot_spelled =
    made_spelled spot_of IsSpot
    (λ (p : ModName × (ℕ × ℕ)). let made : Spot = record { name = p.0; line = p.1.0; col = p.1.1 } in made)
    (both_spelled name_spelled (both_spelled u32_reads_spelled u32_reads_spelled))
    (λ p fits. (refl, record { name = fits.0; line = fits.1.0; col = fits.1.1 }))

need_spelled : ReadsSpelled need_of need_at (λ (need : Need). IsSpot need.spot)
unfolding need_at
need_spelled =
    made_spelled need_of (λ (need : Need). IsSpot need.spot)
    (λ (p : Spot × Bool). let made : Need = record { spot = p.0; sure = p.1 } in made)
    (both_spelled spot_spelled flag_spelled) (λ p fits. (refl, fits.0))

hash_spelled : ReadsSpelled (λ (hash : Pid). hash.bytes) hash_at (λ hash. length hash.bytes ≡ 32)
unfolding hash_at
hash_spelled =
    made_spelled (λ (hash : Pid). hash.bytes) (λ hash. length hash.bytes ≡ 32)
    (λ (bytes : List ℕ). let made : Pid = record { bytes = bytes } in made) (raw_spelled 32) (λ bytes fits. (refl, fits))

import_spelled : ReadsSpelled import_of import_at IsImport
unfolding import_at
import_spelled =
    made_spelled import_of IsImport
    (λ (p : ModName × (List ℕ × Pid)). let made : Import = record { name = p.0; provider = p.1.0; hash = p.1.1 } in made)
    (both_spelled name_spelled (both_spelled text_reads_spelled hash_spelled))
    (λ p fits. (refl, record { name = fits.0; provider = fits.1.0; hash = fits.1.1 }))

-- ---- binfiles

abbrev lists_of : Lists → List ℕ
lists_of p =
    list_of spot_of p.0 ++ (list_of need_of p.1.0 ++ (list_of import_of p.1.1.0 ++ (p.1.1.1.0.bytes ++ text_of p.1.1.1.1)))

record FitLists (p : Lists) : Type 0 where
  defined : (length p.0 < 2 ^ 32) × All IsSpot p.0
  free : (length p.1.0 < 2 ^ 32) × All (λ need. IsSpot need.spot) p.1.0
  imports : (length p.1.1.0 < 2 ^ 32) × All IsImport p.1.1.0
  interface : length p.1.1.1.0.bytes ≡ 32
  code : length p.1.1.1.1 < 2 ^ 32

lists_spelled : ReadsSpelled lists_of lists_at FitLists
unfolding lists_at
lists_spelled =
    let parts = both_spelled (list_spelled spot_of spot_at IsSpot spot_spelled)
    (both_spelled (list_spelled need_of need_at (λ need. IsSpot need.spot) need_spelled)
    (both_spelled (list_spelled import_of import_at IsImport import_spelled)
    (both_spelled hash_spelled text_reads_spelled))) in record {
      takes = parts.takes;
      fits = λ bytes p rest h e.
          let f = parts.fits bytes p rest h e in
          record { defined = f.0; free = f.1.0; imports = f.1.1.0; interface = f.1.1.1.0; code = f.1.1.1.1 };
    }

abbrev parts_of : Parts → List ℕ
parts_of p = text_of p.0 ++ (options_byte p.1.0 ∷ (text_of p.1.1.0 ++ lists_of p.1.1.1))

record FitParts (p : Parts) : Type 0 where
  unit : length p.0 < 2 ^ 32
  source : length p.1.1.0 < 2 ^ 32
  lists : FitLists p.1.1.1

parts_spelled : ReadsSpelled parts_of parts_at FitParts
unfolding parts_at
parts_spelled =
    let parts = both_spelled text_reads_spelled (both_spelled options_spelled (both_spelled text_reads_spelled lists_spelled)) in record {
      takes = parts.takes;
      fits = λ bytes p rest h e.
          let f = parts.fits bytes p rest h e in record { unit = f.0; source = f.1.1.0; lists = f.1.1.1 };
    }

-- a binfile up to its digest
pub bin_body_spelled : ReadsSpelled bin_body bin_body_at IsBin
unfolding bin_body bin_body_at
bin_body_spelled =
    made_spelled bin_body IsBin (λ (p : Unit {0} × Parts). bin_from p.1)
    (both_spelled (front_spelled (67 ∷ 77 ∷ 66 ∷ 49 ∷ [])) parts_spelled)
    (λ p fits.
    let f = fits.1 in (
      refl,
      record {
        unit = f.unit;
        source = f.source;
        defined = f.lists.defined.0;
        defined_spots = f.lists.defined.1;
        free = f.lists.free.0;
        free_spots = f.lists.free.1;
        imports = f.lists.imports.0;
        each_import = f.lists.imports.1;
        interface = f.lists.interface;
        code = f.lists.code;
      },
    ))

-- a whole binfile
pub bin_spelled : ReadsSpelled binfile bin_at IsBin
unfolding binfile bin_at
bin_spelled = checked_spelled bin_body bin_body_at IsBin bin_body_spelled

-- ---- interface files and tools' records

pub interface_spelled : ReadsSpelled interface_file interface_at (λ text. length text < 2 ^ 32)
unfolding interface_file interface_at
interface_spelled =
    made_spelled interface_file (λ text. length text < 2 ^ 32) (λ (p : Unit {0} × List ℕ). p.1)
    (both_spelled (front_spelled (67 ∷ 77 ∷ 69 ∷ 49 ∷ [])) text_reads_spelled) (λ p fits. (refl, fits.1))

record_body_spelled : ReadsSpelled record_body record_body_at IsRecord
unfolding record_body record_body_at texts_at
record_body_spelled =
    made_spelled record_body IsRecord (λ (p : Unit {0} × Texts). record_from p.1)
    (both_spelled (front_spelled (67 ∷ 77 ∷ 84 ∷ 49 ∷ []))
    (both_spelled text_reads_spelled (both_spelled text_reads_spelled (both_spelled text_reads_spelled
    (both_spelled text_reads_spelled text_reads_spelled)))))
    (λ p fits. (
      refl,
      record {
        unit = fits.1.0;
        class = fits.1.1.0;
        rule = fits.1.1.1.0;
        input = fits.1.1.1.1.0;
        output = fits.1.1.1.1.1;
      },
    ))

pub record_spelled : ReadsSpelled record_file record_at IsRecord
unfolding record_file record_at
record_spelled = checked_spelled record_body record_body_at IsRecord record_body_spelled
